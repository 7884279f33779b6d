-- An edit that prolongs a piece adds none.
use Rattle.std.proofs.Common.{◌≡◌, ℕ, ◌+◌, ◌-◌, ◌<◌, ◌≤◌, ◌&&◌, true, false, if◌then◌else◌, Option, Some, None, List, [], ◌∷◌, ◌++◌, length, take, drop, map, refl, ap, sym, subst, ◌∙◌, append_assoc, arith}
use Rattle.std.specs.List.{All, sum_by}
use Rattle.std.specs.Option.{IfSome}
use Rattle.std.proofs.lemmas.Bool.{eq-eqb}
use Rattle.std.proofs.lemmas.List.{append-nil, length-append, length-drop, take_all, map-append}
use Rattle.std.proofs.lemmas.List.Elements.{All-head, All-tail}
use Rattle.std.proofs.lemmas.List.Sums.{sum_by-append, sum_by-cons}
use Rattle.chunk_buffers.specs.declared.span.ChunkSpan.{ChunkSpan}
use Rattle.chunk_buffers.specs.Buffer.{padding, padded}
use Rattle.chunk_buffers.specs.Chunks.{buffer_at, units_at, EndsLast}
use Rattle.piece_tree.specs.declared.piece.Piece.{Piece}
use Rattle.piece_tree.specs.declared.piece.Found.{Found}
use Rattle.piece_tree.specs.Pieces.{Entry, StandsAt, pieces_of, unit_count, piece_of, IsPieceOf, goes_on, prolonged, followed, followed_by, front, back, spliced}
use Rattle.piece_tree.proofs.Sums.{units-cons, All-parts}
use Rattle.piece_tree.proofs.Cuts.{front-append, back-append, front_none}
use Rattle.piece_tree.proofs.Prolonged.{followed_on, followed-last, followed_ends, units-followed, length-followed_by}
use Rattle.text_rules.specs.Lines.{line_feed, carriage_return, begins_with}
use Rattle.text_rules.specs.Breaks.{ends_with, joins_pair}
use Rattle.text_buffer.specs.Text.{Text, GrowsAt, IsAdded, spelled}
use Rattle.text_buffer.proofs.Spelling.{spelled-append, spelled-front, length-units_at}
use Rattle.text_buffer.proofs.Borders.{ends_with-append, ends_with-drop, length-back, some_units}
use Rattle.text_buffer.proofs.Followed.{IsFull}

-- a list of pieces that goes in two at a span
pub split_spans : (ps : List Piece) (earlier : List ChunkSpan) (span : ChunkSpan) (later : List ChunkSpan) → map (λ p. p.span) ps ≡ earlier ++ span ∷ later
    → (us : List Piece) × ((p : Piece) × ((vs : List Piece) × (ps ≡ us ++ p ∷ vs) × (unit_count us ≡ sum_by (λ s. s.units) earlier) × (p.span ≡ span)))
split_spans [] [] span later e = absurd cc
split_spans [] (s ∷ earlier) span later e = absurd cc
split_spans (p ∷ ps) [] span later e = let first : p.span ≡ span = cc in ([], (p, (ps, refl, refl, first)))
split_spans (p ∷ ps) (s ∷ earlier) span later e =
    let first : p.span ≡ s = cc in let rest : map (λ q. q.span) ps ≡ earlier ++ span ∷ later = cc in
    let (us, (q, (vs, is, count, same))) = split_spans ps earlier span later rest in (
      p ∷ us,
      (q, (vs, ap (λ l. p ∷ l) is, omega (arith, units-cons p us, sum_by-cons (λ (t : ChunkSpan). t.units) s earlier, ap (λ (t : ChunkSpan). t.units) first, count), same)),
    )

front_zero : (b : List (List ℕ)) (ps : List Piece) → All IsFull ps → front b 0 ps ≡ []
front_zero b [] full = refl
front_zero b (p ∷ ps) full = front_none b p ps (All-head IsFull p ps full)

unpadded : (buffer text : List ℕ) → joins_pair buffer text ≡ false → padded buffer text ≡ buffer
unpadded buffer text apart = ap (λ t. if t then buffer ++ padding ∷ [] else buffer) apart

-- one of the pieces ends that many units after the start of the first, and where the last buffer ends
module _ (old b : List (List ℕ)) (ps us : List Piece) (p : Piece) (vs : List Piece) (n : ℕ) (is : ps ≡ us ++ p ∷ vs) (count : unit_count us + p.span.units ≡ n)
    (last : p.span.buffer + 1 ≡ length old) (end : p.span.start + p.span.units ≡ length (buffer_at old p.span.buffer)) (full : All IsFull ps) where
  own_full : All IsFull (p ∷ vs)
  own_full = (All-parts IsFull us (p ∷ vs) (subst (All IsFull) is full)).1

  own_some : 0 < p.span.units
  own_some = All-head IsFull p vs own_full

  regrouped : ps ≡ (us ++ p ∷ []) ++ vs
  regrouped = is ∙ sym (append_assoc us (p ∷ []) vs)

  front_count : unit_count (us ++ p ∷ []) ≡ n
  front_count = omega (arith, sum_by-append (λ (q : Piece). q.span.units) us (p ∷ []), units-cons p [], count)

  front_is : (c : List (List ℕ)) → front c n ps ≡ us ++ p ∷ []
  front_is c =
      ap (front c n) regrouped ∙ front-append c (us ++ p ∷ []) vs n 0 (omega (arith, front_count))
      ∙ ap (λ qs. (us ++ p ∷ []) ++ qs) (front_zero c vs (All-tail IsFull p vs own_full)) ∙ append-nil (us ++ p ∷ [])

  few_behind : (m : ℕ) → n ≤ m → length (back b m ps) ≤ length vs
  few_behind m h =
      let moved = ap (back b m) regrouped ∙ back-append b (us ++ p ∷ []) vs m (m - n) (omega (arith, front_count)) in
      omega (arith, ap length moved, length-back b (m - n) vs)

  -- the last buffer ends as the text before the place does
  same_end : All (IsPieceOf old) ps → ends_with carriage_return (buffer_at old p.span.buffer) ≡ ends_with carriage_return (take n (spelled old ps))
  same_end all =
      let buffer = buffer_at old p.span.buffer in
      let own : IsPieceOf old p = All-head (IsPieceOf old) p vs (All-parts (IsPieceOf old) us (p ∷ vs) (subst (All (IsPieceOf old)) is all)).1 in
      let shown : units_at old p.span ≡ drop p.span.start buffer = take_all p.span.units (drop p.span.start buffer) (omega (arith, length-drop p.span.start buffer, end)) in
      let text : take n (spelled old ps) ≡ spelled old us ++ units_at old p.span =
      sym (spelled-front old n ps all) ∙ ap (spelled old) (front_is old) ∙ spelled-append old us (p ∷ []) ∙ ap (λ s. spelled old us ++ s) (append-nil (units_at old p.span)) in
      sym (ends_with-drop carriage_return p.span.start buffer (omega (arith, own_some, end))) ∙ ap (ends_with carriage_return) (sym shown)
      ∙ sym (ap (ends_with carriage_return) text ∙ ends_with-append carriage_return (spelled old us) (units_at old p.span) (some_units old p own own_some))

  module _ (all : All (IsPieceOf old) ps) (w : List ℕ) (apart : joins_pair (take n (spelled old ps)) w ≡ false) where
    goes : (span : ChunkSpan) → EndsLast old b span w → goes_on p.span span ≡ true
    goes span put =
        let same : p.span.buffer ≡ span.buffer = omega (arith, last, put.last) in
        let border : joins_pair (buffer_at old p.span.buffer) w ≡ false = ap (λ e. e && begins_with line_feed w) (same_end all) ∙ apart in
        let plain : padded (buffer_at old span.buffer) w ≡ buffer_at old p.span.buffer =
        ap (λ (k : ℕ). padded (buffer_at old k) w) (sym same) ∙ unpadded (buffer_at old p.span.buffer) w border in
        let meets : p.span.start + p.span.units ≡ span.start = omega (arith, end, put.start, ap length plain) in
        rw (eq-eqb p.span.buffer span.buffer same, eq-eqb (p.span.start + p.span.units) span.start meets)

    one_at_most : (span : Option ChunkSpan) → IfSome span (λ s. EndsLast old b s w) → length (followed_by b (us ++ p ∷ []) span) ≡ length us + 1
    one_at_most None put = length-append us (p ∷ [])
    one_at_most (Some span) put =
        ap length (followed-last b us p span ∙ ap (λ qs. us ++ qs) (followed_on b p span (goes span put))) ∙ length-append us (piece_of b (prolonged p.span span) ∷ [])

    pub adds_none : (span : Option ChunkSpan) (m : ℕ) → n ≤ m → IfSome span (λ s. EndsLast old b s w) → length (spliced b n m span ps) ≤ length ps
    adds_none span m h put =
        omega (
          arith,
          length-append (followed_by b (front b n ps) span) (back b m ps),
          ap (λ fs. length (followed_by b fs span)) (front_is b),
          one_at_most span put,
          few_behind m h,
          ap length is,
          length-append us (p ∷ vs),
        )

sum_spans : (ps : List Piece) → sum_by (λ s. s.units) (map (λ (p : Piece). p.span) ps) ≡ unit_count ps
sum_spans [] = refl
sum_spans (p ∷ ps) = omega (arith, sum_by-cons (λ (s : ChunkSpan). s.units) p.span (map (λ (q : Piece). q.span) ps), units-cons p ps, sum_spans ps)

-- where the text goes on when a span was put at the end of the last buffer, and behind pieces
grows_behind : (t : Text) (b : List (List ℕ)) (fs ks : List Piece) (span : ChunkSpan) (offset : ℕ) → t.spans ≡ map (λ p. p.span) (followed b fs span ++ ks) → t.buffers ≡ b
    → unit_count fs + span.units ≡ offset → span.buffer + 1 ≡ length b → span.start + span.units ≡ length (buffer_at b span.buffer) → GrowsAt t offset
grows_behind t b fs ks span offset spans_are buffers_are count last end =
    let (us, (g, is, same, ends)) = followed_ends b fs span in
    let order = ap (λ l. l ++ ks) is ∙ append_assoc us (g ∷ []) ks in
    let sum = ap unit_count is ∙ sum_by-append (λ (q : Piece). q.span.units) us (g ∷ []) in
    let here : length (buffer_at b span.buffer) ≡ length (buffer_at t.buffers g.span.buffer) =
    ap (λ (k : ℕ). length (buffer_at b k)) (sym same) ∙ ap (λ bs. length (buffer_at bs g.span.buffer)) (sym buffers_are) in
    record {
      earlier = map (λ p. p.span) us;
      span = g.span;
      later = map (λ p. p.span) ks;
      among = spans_are ∙ ap (map (λ p. p.span)) order ∙ map-append (λ (p : Piece). p.span) us (g ∷ ks);
      ends = omega (arith, sum_spans us, sum, units-cons g [], units-followed b fs span, count);
      last = omega (arith, same, last, ap length buffers_are);
      end = ends ∙ end ∙ here;
    }

pub grows_later : (t : Text) (old b : List (List ℕ)) (fs ks : List Piece) (span : Option ChunkSpan) (w : List ℕ) (offset : ℕ) → IsAdded b span w → IfSome span (λ s. EndsLast old b s w)
    → 0 < length w → t.spans ≡ map (λ p. p.span) (followed_by b fs span ++ ks) → t.buffers ≡ b → unit_count fs + length w ≡ offset → GrowsAt t offset
grows_later t old b fs ks None w offset added put some spans_are buffers_are count = absurd (omega (arith, ap length added, some))
grows_later t old b fs ks (Some span) w offset added put some spans_are buffers_are count =
    grows_behind t b fs ks span offset spans_are buffers_are (omega (arith, length-units_at b span added.0, ap length added.1.0, count))
    (omega (arith, put.last, put.count)) put.end

-- a place where a piece ends stands inside none
pub at_border : (us ks vs ls : List Piece) (p q : Piece) → us ++ p ∷ vs ≡ ks ++ q ∷ ls → unit_count ks < unit_count us + p.span.units
    → unit_count us + p.span.units < unit_count ks + q.span.units → ⊥
at_border [] [] vs ls p q e low high = let same : p ≡ q = cc in omega (arith, ap (λ (r : Piece). r.span.units) same)
at_border [] (k ∷ ks) vs ls p q e low high =
    let same : p ≡ k = cc in omega (arith, ap (λ (r : Piece). r.span.units) same, units-cons k ks)
at_border (u ∷ us) [] vs ls p q e low high =
    let same : u ≡ q = cc in omega (arith, ap (λ (r : Piece). r.span.units) same, units-cons u us)
at_border (u ∷ us) (k ∷ ks) vs ls p q e low high =
    let same : u ≡ k = cc in let rest : us ++ p ∷ vs ≡ ks ++ q ∷ ls = cc in let units = ap (λ (r : Piece). r.span.units) same in
    at_border us ks vs ls p q rest (omega (arith, units, units-cons u us, units-cons k ks)) (omega (arith, units, units-cons u us, units-cons k ks))

-- two pieces of one list that have the same unit are one
same_piece : (us ks vs ls : List Piece) (p q : Piece) (offset : ℕ) → us ++ p ∷ vs ≡ ks ++ q ∷ ls → unit_count us ≤ offset → offset < unit_count us + p.span.units
    → unit_count ks ≤ offset → offset < unit_count ks + q.span.units → (unit_count us ≡ unit_count ks) × (p ≡ q)
same_piece [] [] vs ls p q offset e start end low high = (refl, cc)
same_piece [] (k ∷ ks) vs ls p q offset e start end low high =
    let same : p ≡ k = cc in absurd (omega (arith, ap (λ (r : Piece). r.span.units) same, units-cons k ks))
same_piece (u ∷ us) [] vs ls p q offset e start end low high =
    let same : u ≡ q = cc in absurd (omega (arith, ap (λ (r : Piece). r.span.units) same, units-cons u us))
same_piece (u ∷ us) (k ∷ ks) vs ls p q offset e start end low high =
    let same : u ≡ k = cc in let rest : us ++ p ∷ vs ≡ ks ++ q ∷ ls = cc in let units = ap (λ (r : Piece). r.span.units) same in
    let one = units-cons u us in let two = units-cons k ks in
    let (count, is) = same_piece us ks vs ls p q (offset - u.span.units) rest (omega (arith, one)) (omega (arith, one)) (omega (arith, two, units)) (omega (arith, two, units)) in
    (omega (arith, one, two, units, count), is)

-- the piece that was looked up for a unit of another is that one
pub found_there : (entries : List Entry) (us : List Piece) (p : Piece) (vs : List Piece) (at : Option Found) (offset : ℕ) → pieces_of entries ≡ us ++ p ∷ vs → StandsAt entries at offset
    → unit_count us ≤ offset → offset < unit_count us + p.span.units → (found : Found) × (at ≡ Some found) × (found.before.units ≡ unit_count us) × (found.span ≡ p.span)
found_there entries us p vs None offset is here start end =
    absurd (omega (arith, here, ap unit_count is, sum_by-append (λ (q : Piece). q.span.units) us (p ∷ vs), units-cons p vs))
found_there entries us p vs (Some found) offset is here start end =
    let before = ap (λ s. s.units) here.piece.before in
    let own : Piece = record { span = found.span; breaks = found.breaks } in
    let whole : us ++ p ∷ vs ≡ pieces_of here.piece.earlier ++ own ∷ pieces_of here.piece.later =
    sym is ∙ ap pieces_of here.piece.place ∙ map-append (λ (e : Entry). e.piece) here.piece.earlier _ in
    let (count, same) = same_piece us (pieces_of here.piece.earlier) vs (pieces_of here.piece.later) p own offset whole start end
    (omega (arith, before, here.start)) (omega (arith, before, here.end)) in
    (found, refl, omega (arith, before, count), sym (ap (λ (q : Piece). q.span) same))

-- where a span takes the place of some pieces, it is one for all of these
pub stretch_gives_way : (b : List (List ℕ)) (us mid vs ps : List Piece) (from to : ℕ) (span : Option ChunkSpan) → ps ≡ us ++ mid ++ vs → All IsFull ps
    → from ≡ unit_count us → to ≡ unit_count us + unit_count mid → length (spliced b from to span ps) + length mid ≤ length ps + 1
stretch_gives_way b us mid vs ps from to span is full first last =
    let parts : ps ≡ us ++ (mid ++ vs) = is ∙ append_assoc us mid vs in
    let rest = (All-parts IsFull us (mid ++ vs) (subst (All IsFull) parts full)).1 in
    let head = ap (front b from) parts ∙ front-append b us (mid ++ vs) from 0 (omega (arith, first)) in
    let none = ap length (front_zero b (mid ++ vs) rest) in
    let whole : to ≡ unit_count (us ++ mid) + 0 = omega (arith, sum_by-append (λ (q : Piece). q.span.units) us mid, last) in
    let tail = ap (back b to) is ∙ back-append b (us ++ mid) vs to 0 whole in
    omega (
      arith,
      length-append (followed_by b (front b from ps) span) (back b to ps),
      length-followed_by b (front b from ps) span,
      ap length head,
      length-append us (front b 0 (mid ++ vs)),
      none,
      ap length tail,
      length-back b 0 vs,
      ap length is,
      length-append (us ++ mid) vs,
      length-append us mid,
    )

-- where it takes the place of one piece, there are no more pieces than before
pub takes_place : (b : List (List ℕ)) (us : List Piece) (p : Piece) (vs ps : List Piece) (from to : ℕ) (span : Option ChunkSpan) → ps ≡ us ++ p ∷ vs → All IsFull ps
    → from ≡ unit_count us → to ≡ unit_count us + p.span.units → length (spliced b from to span ps) ≤ length ps
takes_place b us p vs ps from to span is full first last =
    omega (arith, stretch_gives_way b us (p ∷ []) vs ps from to span (is ∙ sym (append_assoc us (p ∷ []) vs)) full first (omega (arith, last, units-cons p [])))

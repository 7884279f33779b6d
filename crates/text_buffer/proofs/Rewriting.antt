-- Rewriting adjacent pieces as one: the text is unchanged, and there are fewer pieces.
use Rattle.std.proofs.Common.{◌≡◌, ℕ, ◌+◌, ◌-◌, ◌<◌, ◌≤◌, false, Option, List, [], ◌∷◌, ◌++◌, length, take, drop, min, refl, ap, sym, subst, ◌∙◌, append_assoc, arith}
use Rattle.std.specs.List.{All}
use Rattle.std.proofs.lemmas.List.{append-nil, length-append, map-append, length-map, length-take-le, length-drop, take_at, drop_at, drop_all}
use Rattle.std.proofs.lemmas.List.Elements.{All-head}
use Rattle.chunk_buffers.specs.declared.span.ChunkSpan.{ChunkSpan}
use Rattle.chunk_buffers.specs.Chunks.{Extends}
use Rattle.piece_tree.specs.declared.piece.Piece.{Piece}
use Rattle.piece_tree.specs.declared.piece.Found.{Found}
use Rattle.piece_tree.specs.declared.tree.Stretch.{Stretch}
use Rattle.piece_tree.specs.Pieces.{Entry, pieces_of, unit_count, in_run, IsPieceOf, IsFound, IsStretch, HasUnit, spliced}
use Rattle.piece_tree.proofs.Sums.{All-parts}
use Rattle.text_rules.specs.Breaks.{joins_pair}
use Rattle.text_buffer.specs.Text.{spelled, IsUnsplit, IsAdded}
use Rattle.text_buffer.proofs.Along.{IsFrontAlong, IsBackAlong}
use Rattle.text_buffer.proofs.Borders.{unsplit-parts}
use Rattle.text_buffer.proofs.Edited.{IsReplaced, IsReplaced-of}
use Rattle.text_buffer.proofs.Followed.{IsFull}
use Rattle.text_buffer.proofs.Growing.{stretch_gives_way}
use Rattle.text_buffer.proofs.Spelling.{spelled-append, length-spelled}

-- at a place where no CR LF is cut, nothing comes along
none_ahead : (x : List ℕ) (start : ℕ) → IsFrontAlong x start false []
none_ahead x start =
    let all : start - length {A = ℕ} [] ≡ start = omega arith in record {
      few = omega arith;
      breaks = omega arith;
      there = omega arith;
      before = ap (λ n. take n x ++ []) all ∙ append-nil (take start x);
      apart = λ rest e. ap (λ n. joins_pair (take n x) rest) all ∙ sym e;
    }

none_behind : (x : List ℕ) (end : ℕ) → end ≤ length x → IsBackAlong x end false []
none_behind x end within =
    let all : end + length {A = ℕ} [] ≡ end = omega arith in record {
      few = omega arith;
      breaks = omega arith;
      there = omega (arith, within);
      behind = ap (λ n. drop n x) all;
      apart = λ front e. ap (λ y. joins_pair y (drop (end + length {A = ℕ} []) x)) (append-nil front) ∙ ap (λ n. joins_pair front (drop n x)) all ∙ sym e;
    }

-- some pieces that lie side by side in a text
module _ (b : List (List ℕ)) (ps us mid vs : List Piece) (is : ps ≡ us ++ mid ++ vs) (all : All (IsPieceOf b) ps) (full : All IsFull ps)
    (x : List ℕ) (text : spelled b ps ≡ x) (start units end : ℕ) (first : start ≡ unit_count us) (count : units ≡ unit_count mid) (last : end ≡ start + units) where
  all_front : All (IsPieceOf b) (us ++ mid)
  all_front = (All-parts (IsPieceOf b) (us ++ mid) vs (subst (All (IsPieceOf b)) is all)).0

  all_us : All (IsPieceOf b) us
  all_us = (All-parts (IsPieceOf b) us mid all_front).0

  all_mid : All (IsPieceOf b) mid
  all_mid = (All-parts (IsPieceOf b) us mid all_front).1

  full_front : All IsFull (us ++ mid)
  full_front = (All-parts IsFull (us ++ mid) vs (subst (All IsFull) is full)).0

  size_us : length (spelled b us) ≡ start
  size_us = length-spelled b us all_us ∙ sym first

  size_mid : length (spelled b mid) ≡ units
  size_mid = length-spelled b mid all_mid ∙ sym count

  size_front : length (spelled b us ++ spelled b mid) ≡ end
  size_front = omega (arith, length-append (spelled b us) (spelled b mid), size_us, size_mid, last)

  parts : x ≡ (spelled b us ++ spelled b mid) ++ spelled b vs
  parts = sym text ∙ ap (spelled b) is ∙ spelled-append b (us ++ mid) vs ∙ ap (λ y. y ++ spelled b vs) (spelled-append b us mid)

  regrouped : x ≡ spelled b us ++ (spelled b mid ++ spelled b vs)
  regrouped = parts ∙ append_assoc (spelled b us) (spelled b mid) (spelled b vs)

  front_text : take start x ≡ spelled b us
  front_text = ap (take start) regrouped ∙ take_at (spelled b us) (spelled b mid ++ spelled b vs) start size_us

  mid_text : take units (drop start x) ≡ spelled b mid
  mid_text =
      ap (λ y. take units (drop start y)) regrouped ∙ ap (take units) (drop_at (spelled b us) (spelled b mid ++ spelled b vs) start size_us)
      ∙ take_at (spelled b mid) (spelled b vs) units size_mid

  back_text : drop end x ≡ spelled b vs
  back_text = ap (drop end) parts ∙ drop_at (spelled b us ++ spelled b mid) (spelled b vs) end size_front

  pub same_again : (take start x ++ take units (drop start x)) ++ drop end x ≡ x
  same_again =
      ap (λ y. (y ++ take units (drop start x)) ++ drop end x) front_text ∙ ap (λ y. (spelled b us ++ y) ++ drop end x) mid_text
      ∙ ap (λ y. (spelled b us ++ spelled b mid) ++ y) back_text ∙ sym parts

  pub end_within : end ≤ length x
  end_within = omega (arith, ap length parts, length-append (spelled b us ++ spelled b mid) (spelled b vs), size_front)

  -- no CR LF lies across either border
  pub first_border : IsUnsplit b ps → joins_pair (take start x) (take units (drop start x) ++ drop end x) ≡ false
  first_border unsplit =
      let one = ap (λ y. joins_pair y (take units (drop start x) ++ drop end x)) front_text in
      let two = ap (λ y. joins_pair (spelled b us) (y ++ drop end x)) mid_text ∙ ap (λ y. joins_pair (spelled b us) (spelled b mid ++ y)) back_text in
      let own : IsUnsplit b (us ++ (mid ++ vs)) = subst (IsUnsplit b) (is ∙ append_assoc us mid vs) unsplit in
      one ∙ two ∙ ap (joins_pair (spelled b us)) (sym (spelled-append b mid vs))
      ∙ (unsplit-parts b us (mid ++ vs) all_us (All-parts IsFull us mid full_front).0 own).0

  pub last_border : IsUnsplit b ps → joins_pair (take start x ++ take units (drop start x)) (drop end x) ≡ false
  last_border unsplit =
      let one = ap (λ y. joins_pair (y ++ take units (drop start x)) (drop end x)) front_text in
      let two = ap (λ y. joins_pair (spelled b us ++ y) (drop end x)) mid_text ∙ ap (joins_pair (spelled b us ++ spelled b mid)) back_text in
      one ∙ two ∙ ap (λ y. joins_pair y (spelled b vs)) (sym (spelled-append b us mid))
      ∙ (unsplit-parts b (us ++ mid) vs all_front full_front (subst (IsUnsplit b) is unsplit)).0

-- where the pieces of a stretch stand
module _ (entries : List Entry) (near : Found) (stretch : Stretch) (is : IsStretch entries near stretch) where
  abbrev within : List Entry
  within = in_run near.id.run entries

  pieces_place : pieces_of entries ≡ pieces_of is.earlier ++ pieces_of within ++ pieces_of is.later
  pieces_place =
      ap pieces_of is.place ∙ map-append (λ (e : Entry). e.piece) (is.earlier ++ within) is.later
      ∙ ap (λ ps. ps ++ pieces_of is.later) (map-append (λ (e : Entry). e.piece) is.earlier within)

  stretch_start : stretch.first.before.units ≡ unit_count (pieces_of is.earlier)
  stretch_start = ap (λ s. s.units) is.first.before ∙ ap (λ es. unit_count (pieces_of es)) is.before

-- the looked-up piece is not empty
found_full : (entries : List Entry) (found : Found) → IsFound entries found → All IsFull (pieces_of entries) → 0 < found.span.units
found_full entries found is full =
    let own : Piece = record { span = found.span; breaks = found.breaks } in
    let place = ap pieces_of is.place ∙ map-append (λ (e : Entry). e.piece) is.earlier (record { id = found.id; piece = own } ∷ is.later) in
    All-head IsFull own (pieces_of is.later) (All-parts IsFull (pieces_of is.earlier) (own ∷ pieces_of is.later) (subst (All IsFull) place full)).1

-- what the pieces are afterwards
pub record IsRewritten (b : List (List ℕ)) (old new : List Piece) (x : List ℕ) (count : ℕ) : Type 0 where
  pub text_is : spelled b new ≡ x
  pub pieces : All (IsPieceOf b) new
  pub full : All IsFull new
  pub unsplit : IsUnsplit b new
  pub few : length new + count ≤ length old + 1

pub rewritten : (old b : List (List ℕ)) (entries : List Entry) (near : Found) (stretch : Stretch) (new : List Piece) (span : Option ChunkSpan) (x units : List ℕ) (start end : ℕ)
    → IsStretch entries near stretch → Extends old b → All (IsPieceOf old) (pieces_of entries) → All IsFull (pieces_of entries) → IsUnsplit old (pieces_of entries)
    → spelled old (pieces_of entries) ≡ x → start ≡ stretch.first.before.units → end ≡ start + stretch.units → units ≡ take stretch.units (drop start x)
    → IsAdded b span units → new ≡ spliced b start end span (pieces_of entries) → IsRewritten b (pieces_of entries) new x stretch.pieces
rewritten old b entries near stretch new span x units start end is grown all full unsplit text start_is end_is units_are added new_is =
    let ps = pieces_of entries in let us = pieces_of is.earlier in let mid = pieces_of (in_run near.id.run entries) in let vs = pieces_of is.later in
    let place = pieces_place entries near stretch is in
    let first : start ≡ unit_count us = start_is ∙ stretch_start entries near stretch is in
    let within : end ≤ length x = end_within old ps us mid vs place all full x text start stretch.units end first is.units end_is in
    let one : false ≡ joins_pair (take start x) (units ++ drop end x) =
    sym (ap (λ y. joins_pair (take start x) (y ++ drop end x)) units_are ∙ first_border old ps us mid vs place all full x text start stretch.units end first is.units end_is unsplit) in
    let two : false ≡ joins_pair (take start x ++ units) (drop end x) =
    sym (ap (λ y. joins_pair (take start x ++ y) (drop end x)) units_are ∙ last_border old ps us mid vs place all full x text start stretch.units end first is.units end_is unsplit) in
    let put : IsAdded b span (([] ++ units) ++ []) = subst (IsAdded b span) (sym (append-nil units)) added in
    let r = IsReplaced-of x units [] [] start end false false one two (none_ahead x start) (none_behind x end within) old b ps new span start end
    grown all full unsplit text (omega (arith, end_is)) (omega arith) (omega arith) put new_is in record {
      text_is = r.text_is ∙ ap (λ y. (take start x ++ y) ++ drop end x) units_are
          ∙ same_again old ps us mid vs place all full x text start stretch.units end first is.units end_is;
      pieces = r.pieces;
      full = r.full;
      unsplit = r.unsplit;
      few = omega (
        arith,
        stretch_gives_way b us mid vs ps start end span place full first (omega (arith, end_is, first, is.units)),
        ap length new_is,
        is.pieces,
        length-map (in_run near.id.run entries) (λ (e : Entry). e.piece),
      );
    }

-- where the stretch stands in a text
module _ (b : List (List ℕ)) (entries : List Entry) (near : Found) (stretch : Stretch) (is : IsStretch entries near stretch) (all : All (IsPieceOf b) (pieces_of entries))
    (full : All IsFull (pieces_of entries)) (x : List ℕ) (text : spelled b (pieces_of entries) ≡ x) where
  pub stretch_within : stretch.first.before.units + stretch.units ≤ length x
  stretch_within =
      end_within b (pieces_of entries) (pieces_of is.earlier) (pieces_of (in_run near.id.run entries)) (pieces_of is.later) (pieces_place entries near stretch is) all full x text
      stretch.first.before.units stretch.units (stretch.first.before.units + stretch.units) (stretch_start entries near stretch is) is.units refl

  pub stretch_unit : HasUnit entries stretch.first stretch.first.before.units
  stretch_unit =
      let own = found_full entries stretch.first is.first full in
      record { piece = is.first; start = omega arith; end = omega (arith, own) }

-- the units that were read are those of the text
pub units_read : (x old new : List ℕ) (at units count : ℕ) → at + units ≤ length x → count ≡ min (length old) (length x - at)
    → new ≡ take count (drop at x) ++ drop count old → length old ≡ units → new ≡ take units (drop at x)
units_read x old new at units count within count_is new_is size =
    let all : count ≡ units = count_is ∙ omega (arith, size, within) in
    new_is ∙ ap (λ n. take n (drop at x) ++ drop n old) all
    ∙ ap (λ y. take units (drop at x) ++ y) (drop_all units old (omega (arith, size))) ∙ append-nil (take units (drop at x))

pub length_read : (x new : List ℕ) (at units : ℕ) → at + units ≤ length x → new ≡ take units (drop at x) → length new ≡ units
length_read x new at units within is = ap length is ∙ length-take-le units (drop at x) (omega (arith, within, length-drop at x))

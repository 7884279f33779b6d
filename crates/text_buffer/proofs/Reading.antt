-- What is left of a text, and a reader of it from one run to the next.
use Rattle.std.proofs.Common.{◌≡◌, ℕ, ◌-◌, ◌<◌, ◌≤◌, Option, Some, None, List, [], ◌∷◌, ◌++◌, length, drop, map, add-zero, refl, ap, sym, subst, append_assoc, ◌∙◌, inl, inr, arith}
use Rattle.std.specs.Prelude.{MatchOption}
use Rattle.std.specs.List.{All, concat}
use Rattle.std.proofs.Math.Nat.{sub-zero}
use Rattle.std.proofs.lemmas.Bool.{cases_lt, cases_eq, le-leb, lt-leb}
use Rattle.std.proofs.lemmas.List.{drop_at}
use Rattle.std.proofs.lemmas.List.Elements.{All-head, All-tail}
use Rattle.std.proofs.lemmas.Option.{none-some}
use Rattle.chunk_buffers.specs.declared.span.ChunkSpan.{ChunkSpan}
use Rattle.chunk_buffers.specs.Chunks.{units_at, part_of, LiesIn}
use Rattle.piece_tree.specs.declared.piece.Found.{Found}
use Rattle.piece_tree.specs.declared.piece.Piece.{Piece}
use Rattle.piece_tree.specs.Pieces.{Entry, pieces_of, piece_of, unit_count, back, AreNeighbours, IsAmong, IsFound, IsPieceOf, HasUnit, entry_found}
use Rattle.piece_tree.specs.Walking.{LeftFrom}
use Rattle.piece_tree.proofs.Cuts.{back_past, back_none, back_part, back-append, pieces-back}
use Rattle.text_buffer.specs.Reading.{runs_of, rest_from, spans_with, pieces_at, AreBehind, CanRead}
use Rattle.text_buffer.specs.Text.{spelled}
use Rattle.text_buffer.proofs.Borders.{unsplit-back, full-back}
use Rattle.text_buffer.proofs.Found.{own_is, all_later, pieces_are}
use Rattle.text_buffer.proofs.Spelling.{length-units_at, back_of_piece, spelled-back}
use Rattle.text_buffer.proofs.Whole.{back_of_all}

abbrev piece_found : Found → Piece
piece_found found = (entry_found found).piece

-- the first of some lists, where it ends before the offset or at it, and where the offset stands in it
rest_past : (n : ℕ) (x : List ℕ) (xs : List (List ℕ)) → length x ≤ n → rest_from n (x ∷ xs) ≡ rest_from (n - length x) xs
rest_past n x xs h = rw (le-leb (length x) n h)

rest_inside : (n : ℕ) (x : List ℕ) (xs : List (List ℕ)) → n < length x → rest_from n (x ∷ xs) ≡ drop n x ∷ xs
rest_inside n x xs h = rw (lt-leb (length x) n h)

-- the piece behind a looked-up one, and a walk from it on
module _ (entries : List Entry) (found next : Found) (near : AreNeighbours entries found next) where
  abbrev before : List Entry
  before = near.left.earlier ++ record { id = found.id; piece = piece_found found } ∷ []

  abbrev behind : List Entry
  behind = record { id = next.id; piece = piece_found next } ∷ near.right.later

  pub next_among : IsAmong entries next.id
  next_among = record { earlier = near.right.earlier; later = near.right.later; piece = piece_found next; place = near.right.place }

  pub walk_left : (left : List Entry) → LeftFrom entries (Some next.id) left → AreBehind entries found left
  walk_left left from =
      let parts : before ++ near.left.later ≡ before ++ behind =
      append_assoc near.left.earlier (record { id = found.id; piece = piece_found found } ∷ []) near.left.later
      ∙ sym near.left.place ∙ near.right.place ∙ ap (λ es. es ++ behind) near.beside in
      let later : near.left.later ≡ behind =
      sym (drop_at before near.left.later (length before) refl) ∙ ap (drop (length before)) parts ∙ drop_at before behind (length before) refl in record {
        piece = near.left;
        are = from near.right.earlier near.right.later (piece_found next) near.right.place ∙ sym later;
      }

module _ (b : List (List ℕ)) where
  -- the pieces of spans, and the spans of pieces
  spans_at : (spans : List ChunkSpan) → map (λ p. p.span) (pieces_at b spans) ≡ spans
  spans_at [] = refl
  spans_at (s ∷ spans) = ap (λ ss. s ∷ ss) (spans_at spans)

  counted : (ps : List Piece) → All (IsPieceOf b) ps → pieces_at b (map (λ p. p.span) ps) ≡ ps
  counted [] all = refl
  counted (p ∷ ps) all =
      let is = All-head (IsPieceOf b) p ps all in
      ap (λ qs. piece_of b p.span ∷ qs) (counted ps (All-tail (IsPieceOf b) p ps all)) ∙ (λ i. record { span = p.span; breaks = sym is.breaks i } ∷ ps)

  units_joined : (spans : List ChunkSpan) → concat (runs_of b spans) ≡ spelled b (pieces_at b spans)
  units_joined [] = refl
  units_joined (s ∷ spans) = ap (λ u. units_at b s ++ u) (units_joined spans)

  back_of_full : (ps : List Piece) → All (λ (p : Piece). 0 < p.span.units) ps → back b 0 ps ≡ ps
  back_of_full [] full = refl
  back_of_full (p ∷ ps) full = back_none b p ps (All-head (λ (q : Piece). 0 < q.span.units) p ps full)

  -- what is left behind a place in the first of some pieces
  cut_back : (n : ℕ) (p : Piece) (ps : List Piece) → IsPieceOf b p → n < p.span.units → piece_of b (part_of p.span n p.span.units) ∷ ps ≡ back b n (p ∷ ps)
  cut_back n p ps is within =
      let whole : part_of p.span 0 p.span.units ≡ p.span =
      λ i. record { buffer = p.span.buffer; start = add-zero p.span.start i; units = sub-zero p.span.units i } in
      let same : piece_of b p.span ∷ ps ≡ p ∷ ps = λ i. record { span = p.span; breaks = sym is.breaks i } ∷ ps in
      elim (cases_eq n 0) [
        | inl none ↦ ap (λ (k : ℕ). piece_of b (part_of p.span k p.span.units) ∷ ps) none ∙ ap (λ s. piece_of b s ∷ ps) whole ∙ same
            ∙ sym (ap (λ (k : ℕ). back b k (p ∷ ps)) none ∙ back_none b p ps (omega arith))
        | inr some ↦ sym (back_part b n p ps (omega arith) within)
      ]

  -- and behind a place in it or at its end
  pub part_left : (n : ℕ) (span : ChunkSpan) (part first : Option ChunkSpan) (left : List Entry) → first ≡ None
      → CanRead b (piece_of b span ∷ pieces_at b (spans_with first left))
      → MatchOption part (n ≡ span.units) (λ s. (s ≡ part_of span n span.units) × (n < span.units))
      → pieces_at b (spans_with part left) ≡ back b n (piece_of b span ∷ pieces_at b (spans_with first left))
  part_left n span part (Some s) left none can is = absurd (none-some s (sym none))
  part_left n span None None left none can is =
      let ps = pieces_at b (spans_with None left) in
      let all : n - span.units ≡ 0 = omega (arith, is) in
      sym (back_past b n (piece_of b span) ps (omega (arith, is)) ∙ ap (λ (k : ℕ). back b k ps) all
      ∙ back_of_full ps (All-tail (λ (p : Piece). 0 < p.span.units) (piece_of b span) ps can.full))
  part_left n span (Some part) None left none can is =
      let ps = pieces_at b (spans_with None left) in
      ap (λ s. piece_of b s ∷ ps) is.0 ∙ cut_back n (piece_of b span) ps (All-head (IsPieceOf b) (piece_of b span) ps can.counted) is.1

  -- what is left from the end of a text on, and from the offset of a piece that was looked up
  pub none_left : (left : List Entry) (ps : List Piece) (offset : ℕ) → left ≡ [] → offset ≡ unit_count ps → pieces_at b (spans_with None left) ≡ back b offset ps
  none_left left ps offset none is = ap (λ es. pieces_at b (spans_with None es)) none ∙ sym (ap (λ (n : ℕ). back b n ps) is ∙ back_of_all b ps)

  pub found_left : (entries : List Entry) (found : Found) (offset : ℕ) → HasUnit entries found offset → All (IsPieceOf b) (pieces_of entries)
      → (part : ChunkSpan) (left : List Entry) → part ≡ part_of found.span (offset - found.before.units) found.span.units → AreBehind entries found left
      → pieces_at b (spans_with (Some part) left) ≡ back b offset (pieces_of entries)
  found_left entries found offset has all part left part_is behind =
      let piece : IsFound entries found = behind.piece in
      let n : ℕ = offset - found.before.units in
      let later : List Piece = pieces_of piece.later in
      ap (λ s. piece_of b s ∷ pieces_at b (spans_with None left)) part_is
      ∙ ap (λ es. piece_of b (part_of found.span n found.span.units) ∷ pieces_at b (spans_with None es)) behind.are
      ∙ ap (λ qs. piece_of b (part_of found.span n found.span.units) ∷ qs)
      (counted later (All-tail (IsPieceOf b) (piece_found found) later (all_later b entries found piece all)))
      ∙ cut_back n (piece_found found) later (own_is b entries found piece all) (omega (arith, has.start, has.end))
      ∙ sym (ap (back b offset) (pieces_are b entries found piece all)
      ∙ back-append b (pieces_of piece.earlier) (piece_found found ∷ later) offset n (omega (arith, has.start, ap (λ s. s.units) piece.before)))

  pub can-back : (n : ℕ) (ps : List Piece) → CanRead b ps → CanRead b (back b n ps)
  can-back n ps can = record {
    counted = pieces-back b n ps can.counted;
    full = full-back b n ps can.full;
    unsplit = unsplit-back b n ps can.counted can.unsplit;
  }

  runs-back : (n : ℕ) (ps : List Piece) → All (IsPieceOf b) ps → runs_of b (map (λ p. p.span) (back b n ps)) ≡ rest_from n (runs_of b (map (λ p. p.span) ps))
  runs-back n [] all = refl
  runs-back n (p ∷ ps) all =
      let is = All-head (IsPieceOf b) p ps all in
      let size = length-units_at b p.span is.inside in
      let runs : List Piece → List (List ℕ) = λ qs. runs_of b (map (λ p. p.span) qs) in
      elim (cases_lt n p.span.units) [
        | inr past ↦ ap runs (back_past b n p ps past) ∙ runs-back (n - p.span.units) ps (All-tail (IsPieceOf b) p ps all)
            ∙ ap (λ (k : ℕ). rest_from (n - k) (runs ps)) (sym size) ∙ sym (rest_past n (units_at b p.span) (runs ps) (omega (arith, size)))
        | inl within ↦ ap runs (sym (cut_back n p ps is within)) ∙ ap (λ u. u ∷ runs ps) (back_of_piece b p n is (omega arith))
            ∙ sym (rest_inside n (units_at b p.span) (runs ps) (omega (arith, size)))
      ]

  -- a reader that begins at an offset
  module _ (n : ℕ) (ps : List Piece) (all : All (IsPieceOf b) ps) (spans : List ChunkSpan) (left : pieces_at b spans ≡ back b n ps) where
    pub left_runs : runs_of b spans ≡ rest_from n (runs_of b (map (λ p. p.span) ps))
    left_runs = ap (runs_of b) (sym (spans_at spans) ∙ ap (map (λ p. p.span)) left) ∙ runs-back n ps all

    pub left_units : concat (runs_of b spans) ≡ drop n (spelled b ps)
    left_units = units_joined spans ∙ ap (spelled b) left ∙ spelled-back b n ps all

  -- the first of the spans that are left
  module _ (old : List ChunkSpan) (span : ChunkSpan) (new : List ChunkSpan) (is : old ≡ span ∷ new) (can : CanRead b (pieces_at b old)) where
    here : CanRead b (piece_of b span ∷ pieces_at b new)
    here = subst (λ ss. CanRead b (pieces_at b ss)) is can

    pub span_inside : LiesIn b span
    span_inside = (All-head (IsPieceOf b) (piece_of b span) (pieces_at b new) here.counted).inside

    pub run_some : 0 < length (units_at b span)
    run_some = omega (arith, length-units_at b span span_inside, All-head (λ (p : Piece). 0 < p.span.units) (piece_of b span) (pieces_at b new) here.full)

    pub reads_on : CanRead b (pieces_at b new)
    reads_on = record {
      counted = All-tail (IsPieceOf b) (piece_of b span) (pieces_at b new) here.counted;
      full = All-tail (λ (p : Piece). 0 < p.span.units) (piece_of b span) (pieces_at b new) here.full;
      unsplit = here.unsplit.1;
    }

pub ruleset starting = (left_runs, left_units)

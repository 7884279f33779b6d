-- The pieces of a text that takes the place of a whole text.
use Rattle.std.proofs.Common.{◌≡◌, ℕ, ◌≤◌, Option, List, [], ◌∷◌, ◌++◌, length, refl, ap, sym, subst, ◌∙◌, arith}
use Rattle.std.specs.List.{All}
use Rattle.std.specs.Option.{ForSome}
use Rattle.std.proofs.lemmas.List.{append-nil}
use Rattle.std.proofs.lemmas.List.Elements.{All-head, All-tail, All-nil}
use Rattle.chunk_buffers.specs.declared.span.ChunkSpan.{ChunkSpan}
use Rattle.chunk_buffers.specs.Chunks.{LiesIn}
use Rattle.piece_tree.specs.declared.piece.Piece.{Piece}
use Rattle.piece_tree.specs.Pieces.{unit_count, followed_by, front, back, IsPieceOf, spliced}
use Rattle.piece_tree.proofs.Sums.{units-cons}
use Rattle.piece_tree.proofs.Cuts.{front_none, back-append}
use Rattle.piece_tree.proofs.Prolonged.{pieces-followed_by, length-followed_by}
use Rattle.text_buffer.specs.Text.{spelled, IsUnsplit, IsAdded}
use Rattle.text_buffer.proofs.Spelling.{length-spelled}
use Rattle.text_buffer.proofs.Followed.{IsFull, spelled-followed_by, full-followed_by, unsplit-followed_by}

-- the pieces are those of a text that was put in by itself
pub record IsWhole (b : List (List ℕ)) (ps : List Piece) (units : List ℕ) : Type 0 where
  pub text_is : spelled b ps ≡ units
  pub pieces : All (IsPieceOf b) ps
  pub full : All IsFull ps
  pub unsplit : IsUnsplit b ps
  pub few : length ps ≤ 1
  pub by_units : length ps ≤ length units

-- pieces that are not empty are at most as many as their units
few_full : (ps : List Piece) → All IsFull ps → length ps ≤ unit_count ps
few_full [] full = omega arith
few_full (p ∷ ps) full =
    omega (arith, units-cons p ps, All-head IsFull p ps full, few_full ps (All-tail IsFull p ps full))

module _ (b : List (List ℕ)) where
  front_of_none : (ps : List Piece) → All IsFull ps → front b 0 ps ≡ []
  front_of_none [] full = refl
  front_of_none (p ∷ ps) full = front_none b p ps (All-head IsFull p ps full)

  pub back_of_all : (ps : List Piece) → back b (unit_count ps) ps ≡ []
  back_of_all ps = ap (back b (unit_count ps)) (sym (append-nil ps)) ∙ back-append b ps [] (unit_count ps) 0 (omega arith)

  spliced_all : (span : Option ChunkSpan) (ps : List Piece) → All IsFull ps → spliced b 0 (unit_count ps) span ps ≡ followed_by b [] span
  spliced_all span ps full =
      ap (λ ks. followed_by b (front b 0 ps) span ++ ks) (back_of_all ps) ∙ append-nil (followed_by b (front b 0 ps) span)
      ∙ ap (λ fs. followed_by b fs span) (front_of_none ps full)

  by_itself : (span : Option ChunkSpan) (units : List ℕ) → ForSome span (LiesIn b) → IsAdded b span units → IsWhole b (followed_by b [] span) units
  by_itself span units inside added =
      let ps = followed_by b [] span in
      let text_is = spelled-followed_by b [] span units added in
      let pieces = pieces-followed_by b [] span inside (All-nil (IsPieceOf b)) in
      let full = full-followed_by b [] span units added (All-nil IsFull) in record {
        text_is = text_is;
        pieces = pieces;
        full = full;
        unsplit = unsplit-followed_by b [] span units added (All-nil (IsPieceOf b)) (All-nil IsFull) tt refl;
        few = length-followed_by b [] span;
        by_units = omega (arith, few_full ps full, length-spelled b ps pieces, ap length text_is);
      }

  -- what the pieces are where the span took the place of all units
  pub whole_of : (ps new : List Piece) (span : Option ChunkSpan) (last : ℕ) (units : List ℕ) → All IsFull ps → last ≡ unit_count ps
      → ForSome span (LiesIn b) → IsAdded b span units → new ≡ spliced b 0 last span ps → IsWhole b new units
  whole_of ps new span last units full all inside added new_is =
      let same : new ≡ followed_by b [] span = new_is ∙ ap (λ (n : ℕ). spliced b 0 n span ps) all ∙ spliced_all span ps full in
      subst (λ (qs : List Piece). IsWhole b qs units) (sym same) (by_itself span units inside added)

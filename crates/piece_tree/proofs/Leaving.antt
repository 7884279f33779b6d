-- The rest of the pieces of runs after their first units are removed.
use Rattle.std.proofs.Common.{◌≡◌, ℕ, ◌<◌, ◌≤◌, List, ◌∷◌, ◌++◌, length, drop, ap, sym, subst, ◌∙◌, arith}
use Rattle.std.specs.List.{All}
use Rattle.std.proofs.lemmas.List.{length-append, length-drop, nil_from_length}
use Rattle.rb_arena.specs.RbTree.{SplitsAt}
use Rattle.piece_tree.specs.declared.piece.Piece.{Piece}
use Rattle.piece_tree.specs.declared.left.Left.{Left}
use Rattle.piece_tree.specs.Pieces.{unit_count, listed, back}
use Rattle.piece_tree.specs.Runs.{pieces_in}
use Rattle.piece_tree.specs.Splicing.{IsLeft, CanKeep, count_left}
use Rattle.piece_tree.proofs.Cuts.{back_some, back_all, units-back}
use Rattle.piece_tree.proofs.Sums.{All-parts}

-- the pieces of the first run, and those of the runs behind it
pub all_first : (P : Piece → Type 0) (vs ws : List (ℕ × List Piece)) (id : ℕ) (y : List Piece) → vs ≡ (id, y) ∷ ws → All P (pieces_in vs) → All P y × All P (pieces_in ws)
all_first P vs ws id y first all = All-parts P y (pieces_in ws) (subst (λ (l : List (ℕ × List Piece)). All P (pieces_in l)) first all)

module _ (b : List (List ℕ)) (pieces : List Piece) (from n : ℕ) (left : Left) (is : IsLeft b pieces from n left) where
  abbrev others : List Piece
  others = listed left.rest ++ drop left.from pieces

  count_is : length others ≡ count_left left (length pieces)
  count_is = omega (arith, length-append (listed left.rest) (drop left.from pieces), length-drop left.from pieces)

  -- if some of the pieces are left, all pieces behind them are left
  pub some_left : (behind : List Piece) → 0 < count_left left (length pieces) → others ++ behind ≡ back b n (drop from pieces ++ behind)
  some_left behind some =
      let whole = is.pieces_left in
      ap (λ ps. ps ++ behind) whole ∙ sym (back_some b n (drop from pieces) behind (omega (arith, some, count_is, ap length whole)))

  -- if none of the pieces are left, the missing units are removed from those behind
  pub none_left : (behind : List Piece) → count_left left (length pieces) ≤ 0 → back b n (drop from pieces ++ behind) ≡ back b left.missing behind
  none_left behind none =
      back_all b n (drop from pieces) behind (sym is.pieces_left ∙ nil_from_length others (omega (arith, none, count_is))) ∙ ap (λ k. back b k behind) (sym is.missing)

  pub left_behind : (behind later : List Piece) → count_left left (length pieces) ≤ 0 → later ≡ back b left.missing behind
      → others ++ later ≡ back b n (drop from pieces ++ behind)
  left_behind behind later none same =
      ap (λ ps. ps ++ later) (nil_from_length others (omega (arith, none, count_is))) ∙ same ∙ sym (none_left behind none)

-- the pieces of a run can be replaced by what is left of them
pub can_keep : (b : List (List ℕ)) (n : ℕ) (left : Left) (runs us : List (ℕ × List Piece)) (id : ℕ) (y : List Piece) (ws : List (ℕ × List Piece))
    → SplitsAt runs id us y ws → IsLeft b y 0 n left → 0 < count_left left (length y) → length y ≤ 16 → CanKeep runs id left
can_keep b n left runs us id y ws at is some few = record {
  earlier = us;
  pieces = y;
  later = ws;
  place = at;
  within = is.within;
  cut = is.cut;
  few = few;
  some = omega (arith, some, length-append (listed left.rest) (drop left.from y), length-drop left.from y);
  fewer = omega (arith, ap unit_count is.pieces_left, units-back b n y);
}

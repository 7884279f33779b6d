-- The piece of a run that contains the target.
use Rattle.std.proofs.Common.{◌≡◌, ℕ, suc, ◌+◌, ◌≤◌, ◌<◌, ◌^◌, true, false, nat_lt, List, ◌++◌, length, get_or, take, drop, ap, sym, ◌∙◌, subst, drop-cons, arith}
use Rattle.std.proofs.lemmas.Bool.{ltb-true, ltb-false}
use Rattle.std.proofs.lemmas.List.{take-append-drop, length-take, take_all}
use Rattle.std.proofs.lemmas.List.Sums.{sum_by_more, sum_by-take-le}
use Rattle.piece_tree.specs.declared.piece.Piece.{Piece}
use Rattle.piece_tree.specs.declared.piece.PieceId.{PieceId}
use Rattle.piece_tree.specs.declared.piece.PieceSum.{PieceSum}
use Rattle.piece_tree.specs.declared.piece.Found.{Found}
use Rattle.piece_tree.specs.declared.weave.Sought.{Sought}
use Rattle.piece_tree.specs.declared.weave.Sought.TheVariants.{Offset, Break}
use Rattle.piece_tree.specs.Pieces.{unit_count, break_count_of}
use Rattle.piece_tree.specs.Searches.{counted, count_of, number_of, own_of, HasNumber}
use Rattle.piece_tree.specs.Runs.{name_of, found_in, CanFindIn, IsFoundIn}

-- a search is past the first `i` pieces of the run
pub record IsPast (pieces : List Piece) (before : PieceSum) (sought : Sought) (i : ℕ) (sum : PieceSum) : Type 0 where
  pub units : sum.units ≡ before.units + unit_count (take i pieces)
  pub breaks : sum.breaks ≡ before.breaks + break_count_of (take i pieces)
  pub low : counted sought sum ≤ number_of sought

-- the count with one more piece
counted_with : (sought : Sought) (sum behind : PieceSum) (id : PieceId) (p : Piece) → behind.units ≡ sum.units + p.span.units → behind.breaks ≡ sum.breaks + p.breaks
    → counted sought behind ≡ counted sought sum + own_of sought (found_in id p sum)
counted_with (Offset offset) sum behind id p units breaks = units
counted_with (Break number) sum behind id p units breaks = breaks

counted_past : (sought : Sought) (before sum : PieceSum) (ps : List Piece) → sum.units ≡ before.units + unit_count ps → sum.breaks ≡ before.breaks + break_count_of ps
    → counted sought sum ≡ counted sought before + count_of sought ps
counted_past (Offset offset) before sum ps units breaks = units
counted_past (Break number) before sum ps units breaks = breaks

module _ (pieces : List Piece) (before : PieceSum) (sought : Sought) (can : CanFindIn pieces before sought) where
  pub past_none : IsPast pieces before sought 0 before
  past_none = record { units = omega arith; breaks = omega arith; low = can.start }

  module _ (i : ℕ) (sum : PieceSum) (past : IsPast pieces before sought i sum) where
    pub past_small : (sum.units < 2 ^ 62) × (sum.breaks < 2 ^ 62)
    past_small =
        (omega (arith, past.units, can.units, sum_by-take-le (λ (p : Piece). p.span.units) pieces i), omega (arith, past.breaks, can.breaks, sum_by-take-le (λ (p : Piece). p.breaks) pieces i))

    pub past_all : length pieces ≤ i → ⊥
    past_all end =
        let all = take_all i pieces end in
        let count = counted_past sought before sum pieces (past.units ∙ ap (λ ps. before.units + unit_count ps) all) (past.breaks ∙ ap (λ ps. before.breaks + break_count_of ps) all) in
        absurd (omega (arith, count, past.low, can.end))

    module _ (d : Piece) (behind : PieceSum) (units : behind.units ≡ sum.units + (get_or pieces i d).span.units) (breaks : behind.breaks ≡ sum.breaks + (get_or pieces i d).breaks)
        (less : i < length pieces) where
      pub past_more : nat_lt (number_of sought) (counted sought behind) ≡ false → IsPast pieces before sought (i + 1) behind
      past_more not = record {
        units = omega (arith, units, past.units, sum_by_more (λ (p : Piece). p.span.units) pieces i d less);
        breaks = omega (arith, breaks, past.breaks, sum_by_more (λ (p : Piece). p.breaks) pieces i d less);
        low = ltb-false (number_of sought) (counted sought behind) not;
      }

      pub past_found : (run place : ℕ) (found : Found) → nat_lt (number_of sought) (counted sought behind) ≡ true → place ≡ i → found ≡ found_in (name_of run place) (get_or pieces i d) sum
          → IsFoundIn run pieces before sought found
      past_found run place found is at told =
          let own = get_or pieces i d in
          let size : place ≡ length (take i pieces) = omega (arith, at, length-take i pieces, less) in
          let there : HasNumber sought (found_in (name_of run place) own sum) = record {
            start = past.low;
            end = omega (arith, ltb-true (number_of sought) (counted sought behind) is, counted_with sought sum behind (name_of run place) own units breaks);
          } in record {
            earlier = take i pieces;
            piece = own;
            later = drop (suc i) pieces;
            place = sym (take-append-drop i pieces) ∙ ap (λ ps. take i pieces ++ ps) (drop-cons pieces i d less);
            told = told ∙ (λ j. found_in (name_of run (size j)) own (record { units = past.units j; breaks = past.breaks j }));
            has = subst (HasNumber sought) (sym told) there;
          }

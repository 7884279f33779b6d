-- Look-ups of pieces, by look-ups of runs.
use Rattle.std.proofs.Common.{◌≡◌, ℕ, suc, ◌+◌, ◌*◌, ◌<◌, ◌≤◌, ◌^◌, List, [], ◌∷◌, ◌++◌, length, refl, ap, sym, subst, ◌∙◌, arith}
use Rattle.std.specs.List.{All}
use Rattle.std.proofs.lemmas.List.{map-append, length-append}
use Rattle.std.proofs.lemmas.List.Elements.{All-head, All-tail}
use Rattle.std.proofs.lemmas.List.Sums.{sum_by-append}
use Rattle.std.proofs.Math.Nat.{pow-le-pow_left}
use Rattle.rb_arena.specs.RbTree.{IsItem, AtItem}
use Rattle.piece_tree.specs.declared.piece.Piece.{Piece}
use Rattle.piece_tree.specs.declared.piece.PieceSum.{PieceSum}
use Rattle.piece_tree.specs.declared.piece.Found.{Found}
use Rattle.piece_tree.specs.declared.weave.Sought.{Sought}
use Rattle.piece_tree.specs.Pieces.{Entry, IsFound, pieces_of, unit_count, break_count_of, sum_of}
use Rattle.piece_tree.specs.Searches.{few_breaks, counted}
use Rattle.piece_tree.specs.Runs.{name_of, found_in, pieces_in, entries_of, entries_from, HasRunOf, CanFindIn, IsFoundIn}
use Rattle.piece_tree.specs.Costs.{WithinLookUps}
use Rattle.piece_tree.proofs.Entries.{Runs, pieces_entries, pieces_from, sum-at, entries-at}
use Rattle.piece_tree.proofs.Sums.{units-cons, breaks_few}

-- no run is empty, so there are no more runs than pieces
pub length-from : (run place : ℕ) (ps : List Piece) → length (entries_from run place ps) ≡ length ps
length-from run place [] = refl
length-from run place (p ∷ ps) = ap suc (length-from run (suc place) ps)

fewer_runs : (runs : Runs) → All (λ r. 0 < length r.1) runs → length runs ≤ length (entries_of runs)
fewer_runs [] full = omega arith
fewer_runs (r ∷ rs) full =
    let own = All-head (λ (r : ℕ × List Piece). 0 < length r.1) r rs full in let others = fewer_runs rs (All-tail (λ (r : ℕ × List Piece). 0 < length r.1) r rs full) in
    omega (arith, own, others, length-append (entries_from r.0 0 r.1) (entries_of rs), length-from r.0 0 r.1)

module _ (runs : Runs) (entries : List Entry) (shown : entries_of runs ≡ entries) where
  pub pieces_shown : pieces_in runs ≡ pieces_of entries
  pieces_shown = sym (pieces_entries runs) ∙ ap pieces_of shown

  pub entries_few : All few_breaks (pieces_in runs) → All few_breaks (pieces_of entries)
  entries_few few = subst (All few_breaks) pieces_shown few

  pub entries_small : unit_count (pieces_in runs) < 2 ^ 62 → unit_count (pieces_of entries) < 2 ^ 62
  entries_small small = subst (λ ps. unit_count ps < 2 ^ 62) pieces_shown small

  -- a bound in the number of runs is within the bound in the number of pieces
  pub within_look_ups : (look_ups nodes : ℕ) → All (λ r. 0 < length r.1) runs → 2 ^ nodes ≤ (length runs + 1) ^ (2 * look_ups) → WithinLookUps look_ups (length entries) nodes
  within_look_ups look_ups nodes full cost =
      let more : length runs + 1 ≤ length entries + 1 = omega (arith, fewer_runs runs full, ap length shown) in
      let up = pow-le-pow_left more (2 * look_ups) in omega (arith, cost, up)

module _ (runs : Runs) (sought : Sought) (at : ℕ × PieceSum) (has : HasRunOf runs sought at) where
  pub run_found : IsItem runs at.0
  run_found = (has.earlier, (has.pieces, (has.later, has.place)))

  module _ (xs : List Piece) (own : AtItem runs at.0 (λ us x vs. xs ≡ x)) (small : unit_count (pieces_in runs) < 2 ^ 62) where
    same : has.pieces ≡ xs
    same = sym (own has.earlier has.pieces has.later has.place)

    units : unit_count (pieces_in runs) ≡ unit_count (pieces_in has.earlier) + (unit_count has.pieces + unit_count (pieces_in has.later))
    units = ap (λ rs. unit_count (pieces_in rs)) has.place ∙ sum-at (λ (p : Piece). p.span.units) has.earlier at.0 has.pieces has.later

    pub can_find : All few_breaks (pieces_in runs) → CanFindIn xs at.1 sought
    can_find few =
        let breaks = ap (λ rs. break_count_of (pieces_in rs)) has.place ∙ sum-at (λ (p : Piece). p.breaks) has.earlier at.0 has.pieces has.later in
        let before = ap (counted sought) has.before in
        let there : CanFindIn has.pieces at.1 sought = record {
          units = omega (arith, small, units, ap (λ (s : PieceSum). s.units) has.before);
          breaks = omega (arith, small, breaks, breaks_few (pieces_in runs) few, ap (λ (s : PieceSum). s.breaks) has.before);
          start = omega (arith, before, has.start);
          end = omega (arith, before, has.end);
        } in subst (λ ps. CanFindIn ps at.1 sought) same there

    module _ (entries : List Entry) (shown : entries_of runs ≡ entries) (found : Found) (is : IsFoundIn at.0 xs at.1 sought found) where
      pub piece_found : IsFound entries found
      piece_found =
          let front = pieces_in has.earlier in
          let id = name_of at.0 (length is.earlier) in
          let before : PieceSum = record { units = at.1.units + unit_count is.earlier; breaks = at.1.breaks + break_count_of is.earlier } in
          let pieces : pieces_of (entries_of has.earlier ++ entries_from at.0 0 is.earlier) ≡ front ++ is.earlier =
          map-append (λ (e : Entry). e.piece) (entries_of has.earlier) (entries_from at.0 0 is.earlier)
          ∙ (λ i. pieces_entries has.earlier i ++ pieces_from at.0 0 is.earlier i) in
          let units_are : before.units ≡ unit_count (front ++ is.earlier) =
          omega (arith, ap (λ (s : PieceSum). s.units) has.before, sum_by-append (λ (p : Piece). p.span.units) front is.earlier) in
          let breaks_are : before.breaks ≡ break_count_of (front ++ is.earlier) =
          omega (arith, ap (λ (s : PieceSum). s.breaks) has.before, sum_by-append (λ (p : Piece). p.breaks) front is.earlier) in
          let there : IsFound entries (found_in id is.piece before) = record {
            earlier = entries_of has.earlier ++ entries_from at.0 0 is.earlier;
            later = entries_from at.0 (suc (length is.earlier)) is.later ++ entries_of has.later;
            place = sym shown ∙ ap entries_of (has.place ∙ ap (λ x. has.earlier ++ (at.0, x) ∷ has.later) (same ∙ is.place))
                ∙ entries-at has.earlier at.0 is.earlier is.piece is.later has.later;
            before = (λ i. record { units = units_are i; breaks = breaks_are i }) ∙ ap sum_of (sym pieces);
          } in subst (IsFound entries) (sym is.told) there

      pub small_found : found.before.units + found.span.units < 2 ^ 62
      small_found =
          let told = ap (λ (f : Found). f.before.units + f.span.units) is.told in
          let own_units = ap unit_count (same ∙ is.place) ∙ sum_by-append (λ (p : Piece). p.span.units) is.earlier (is.piece ∷ is.later) in
          omega (arith, told, own_units, units-cons is.piece is.later, units, small, ap (λ (s : PieceSum). s.units) has.before)

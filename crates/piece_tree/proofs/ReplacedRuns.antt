-- Some pieces of a run are replaced by others.
use Rattle.std.proofs.Common.{◌≡◌, ℕ, ◌+◌, ◌-◌, ◌<◌, ◌≤◌, ◌^◌, List, ◌∷◌, ◌++◌, length, Some, refl, sym, ap, ◌∙◌, subst, arith}
use Rattle.std.specs.List.{All}
use Rattle.std.specs.FinMap as map
use Rattle.raw_arena.specs.Arena.{Nodes, node}
use Rattle.rb_arena.specs.RbTree.{Listed, SplitsAt, IsItem, AtItem, HasInstead}
use Rattle.piece_tree.specs.declared.piece.Piece.{Piece}
use Rattle.piece_tree.specs.declared.piece.PieceSum.{PieceSum}
use Rattle.piece_tree.specs.declared.run.Run.{Run}
use Rattle.piece_tree.specs.declared.weave.StoredRun.{StoredRun}
use Rattle.piece_tree.specs.Pieces.{unit_count, sum_of}
use Rattle.piece_tree.specs.Searches.{few_breaks, few_breaks_in}
use Rattle.piece_tree.specs.Runs.{Runs, IsRun, most_pieces, listed_in, replaced, CanReplaceIn, HasReplacedIn}
use Rattle.piece_tree.specs.Stored.{runs_of, stored_in, IsStored, AreStored}
use Rattle.piece_tree.proofs.Storing.{Stands, Around, standing, told_stored, told_pieces, counted_read, around_one, stored_here, sum_is, tree_units, tree_units-append, units_in}
use Rattle.piece_tree.proofs.PutPieces.{length-replaced}
use Rattle.piece_tree.proofs.Writing.{few_in_sum, few_replaced, set_units, run_shown, run_stored}

module _ (tree : Listed StoredRun) (stored : Nodes Run) (h : AreStored tree stored) (seen : Runs) (shown : runs_of tree stored ≡ seen) (id from to : ℕ) (with : List Piece)
    (fits : CanReplaceIn seen.runs id from to with) (r : StoredRun) (told : AtItem tree.items id (λ us x vs. r ≡ x)) where
  pub is_there : IsItem seen.runs id
  is_there = (fits.earlier, (fits.pieces, (fits.later, fits.place)))

  pub stored_there : IsStored stored (id, r)
  stored_there = told_stored tree stored seen shown id is_there r told h

  stands_there : Stands stored tree.items id fits.earlier fits.pieces fits.later
  stands_there = standing tree stored seen shown id fits.earlier fits.pieces fits.later fits.place

  module _ (old : Run) (was : node stored r.at ≡ Some old) where
    old_is : listed_in old ≡ fits.pieces
    old_is = told_pieces tree stored seen shown id is_there r told h old was fits.earlier fits.pieces fits.later fits.place

    pub within_old : to ≤ length (listed_in old)
    within_old = omega (arith, fits.within, ap length old_is)

    pub fits_old : from + length with + (length (listed_in old) - to) ≤ most_pieces
    fits_old = omega (arith, fits.few, ap length old_is)

    module _ (few : All few_breaks with) (run : Run) (now : listed_in run ≡ replaced from to with (listed_in old)) (sum : PieceSum) (summed : sum ≡ sum_of (listed_in run)) where
      abbrev item : StoredRun
      item = record { at = r.at; sum = sum }

      now_few : All few_breaks (listed_in run)
      now_few = subst (All few_breaks) (sym now) (few_replaced from to with (listed_in old) few (counted_read stored (id, r) stored_there old was))

      now_some : 0 < length (listed_in run)
      now_some = omega (arith, ap length now, length-replaced from to with (listed_in old) (omega (arith, fits.ordered, within_old)), fits.some, ap length old_is)

      now_units : unit_count (listed_in run) ≡ unit_count (replaced from to with fits.pieces)
      now_units = ap unit_count (now ∙ ap (replaced from to with) old_is)

      pub is_value : few_breaks_in sum
      is_value = few_in_sum (listed_in run) sum summed now_few

      pub small_sum : AtItem tree.items id (λ us x vs. tree_units (us ++ (id, item) ∷ vs) < 2 ^ 62)
      small_sum us x vs e =
          let s = stands_there in
          let (left, here, right) = stored_here stored tree.items s.before id s.here s.after s.place h.each in
          let same : x ≡ s.here = sym (told us x vs e) ∙ told s.before s.here s.after s.place in
          omega (
            arith,
            set_units tree.items us s.before id x s.here item vs s.after e s.place same,
            tree_units-append s.before ((id, item) ∷ s.after),
            ap (λ (t : PieceSum). t.units) (sum_is stored s.before left),
            ap (λ (t : PieceSum). t.units) (sum_is stored s.after right),
            ap units_in s.befores,
            ap units_in s.afters,
            ap (λ (t : PieceSum). t.units) summed,
            now_units,
            fits.small,
          )

      module _ (set : Listed StoredRun) (instead : HasInstead tree.items set.items id item) (new : Nodes Run) (live : new.live ≡ map.insert stored.live r.at run) where
        around : (us : List (ℕ × StoredRun)) (x : StoredRun) (vs : List (ℕ × StoredRun)) → SplitsAt tree.items id us x vs → Around stored us vs r.at
        around us x vs e = subst (λ (y : StoredRun). Around stored us vs y.at) (sym (told us x vs e)) (around_one tree stored h us id x vs e)

        pub set_stored : IsRun run → AreStored set new
        set_stored is_run =
            let s = stands_there in
            run_stored stored new r.at run live s.before s.after (around s.before s.here s.after s.place) (id, item) refl set (instead s.before s.here s.after s.place)
            is_run summed now_some now_few
            (omega (
              arith,
              now_units,
              fits.small,
              ap units_in s.befores,
              ap units_in s.afters,
            ))

        pub set_shown : HasReplacedIn seen.runs (stored_in new set.items) id from to with
        set_shown us x vs e =
            let s = standing tree stored seen shown id us x vs e in
            let is = told_pieces tree stored seen shown id is_there r told h old was us x vs e in
            let left = s.befores in
            let right = s.afters in
            let own : listed_in run ≡ replaced from to with x = now ∙ ap (replaced from to with) is in
            run_shown stored new r.at run live s.before s.after (around s.before s.here s.after s.place) (id, item) refl set (instead s.before s.here s.after s.place)
            ∙ (λ i. left i ++ (id, own i) ∷ right i)

-- A run is inserted or removed.
use Rattle.std.proofs.Common.{◌≡◌, ℕ, ◌+◌, ◌<◌, ◌^◌, List, [], ◌∷◌, ◌++◌, length, None, refl, sym, ap, ◌∙◌, subst, arith, append_assoc}
use Rattle.std.specs.List.{All}
use Rattle.std.specs.FinMap as map
use Rattle.std.proofs.lemmas.List.Concat.{flat_map-append}
use Rattle.raw_arena.specs.Arena.{Nodes, node}
use Rattle.rb_arena.specs.RbTree.{Listed, SplitsAt, IsItem, AtItem, HasAfter, LeavesOut}
use Rattle.piece_tree.specs.declared.piece.Piece.{Piece}
use Rattle.piece_tree.specs.declared.piece.PieceSum.{PieceSum}
use Rattle.piece_tree.specs.declared.run.Run.{Run}
use Rattle.piece_tree.specs.declared.weave.StoredRun.{StoredRun}
use Rattle.piece_tree.specs.Pieces.{unit_count, sum_of}
use Rattle.piece_tree.specs.Searches.{few_breaks}
use Rattle.piece_tree.specs.Runs.{Runs, IsRun, listed_in, pieces_in}
use Rattle.piece_tree.specs.Stored.{runs_of, stored_in, pieces_at, AreStored}
use Rattle.piece_tree.proofs.Entries.{units-at}
use Rattle.piece_tree.proofs.Sums.{units-append}
use Rattle.piece_tree.proofs.Storing.{Around, standing, named, around_one, around_free, sum_is, stored-append, tree_units, tree_units-append, units_in}
use Rattle.piece_tree.proofs.Writing.{run_shown, run_stored, rest_shown, rest_stored}

module _ (tree : Listed StoredRun) (stored : Nodes Run) (h : AreStored tree stored) (seen : Runs) (shown : runs_of tree stored ≡ seen) where
  total : tree_units tree.items ≡ units_in seen.runs
  total = ap (λ (t : PieceSum). t.units) (sum_is stored tree.items h.each) ∙ ap (λ (r : Runs). units_in r.runs) shown

  both : (us vs : List (ℕ × StoredRun)) → units_in (stored_in stored (us ++ vs)) ≡ units_in (stored_in stored us) + units_in (stored_in stored vs)
  both us vs =
      ap units_in (stored-append stored us vs)
      ∙ ap unit_count (flat_map-append (λ (r : ℕ × List Piece). r.1) (stored_in stored us) (stored_in stored vs))
      ∙ units-append (pieces_in (stored_in stored us)) (pieces_in (stored_in stored vs))

  -- a new run of these pieces
  module _ (pieces : List Piece) (sum : PieceSum) (summed : sum ≡ sum_of pieces) (small : units_in seen.runs + unit_count pieces < 2 ^ 62) (at : ℕ) where
    abbrev item : StoredRun
    item = record { at = at; sum = sum }

    pub small_first : tree_units ((0, item) ∷ tree.items) < 2 ^ 62
    small_first = omega (arith, total, small, ap (λ (t : PieceSum). t.units) summed)

    pub small_after : (id : ℕ) → AtItem tree.items id (λ us x vs. tree_units (us ++ (id, x) ∷ (0, item) ∷ vs) < 2 ^ 62)
    small_after id us x vs e =
        omega (
          arith,
          total,
          small,
          ap (λ (t : PieceSum). t.units) summed,
          ap tree_units e,
          tree_units-append us ((id, x) ∷ vs),
          tree_units-append us ((id, x) ∷ (0, item) ∷ vs),
        )

    module _ (free : node stored at ≡ None) (new : Nodes Run) (run : Run) (live : new.live ≡ map.insert stored.live at run) (holds : listed_in run ≡ pieces) (put : Listed StoredRun) (name : ℕ) where
      module _ (us vs : List (ℕ × StoredRun)) (e : tree.items ≡ us ++ vs) (is : put.items ≡ us ++ (name, item) ∷ vs) where
        around : Around stored us vs at
        around = around_free tree stored h us vs e at free

        put_shown : stored_in new put.items ≡ stored_in stored us ++ (name, pieces) ∷ stored_in stored vs
        put_shown =
            run_shown stored new at run live us vs around (name, item) refl put is
            ∙ ap (λ (ps : List Piece). stored_in stored us ++ (name, ps) ∷ stored_in stored vs) holds

        put_stored : IsRun run → 0 < length pieces → All few_breaks pieces → AreStored put new
        put_stored is_run some few =
            run_stored stored new at run live us vs around (name, item) refl put is is_run (summed ∙ ap sum_of (sym holds)) (subst (λ ps. 0 < length ps) (sym holds) some)
            (subst (All few_breaks) (sym holds) few)
            (omega (
              arith,
              small,
              ap unit_count holds,
              both us vs,
              ap (λ (r : Runs). units_in r.runs) shown,
              ap (λ es. units_in (stored_in stored es)) e,
            ))

      pub first_shown : put.items ≡ (name, item) ∷ tree.items → stored_in new put.items ≡ (name, pieces) ∷ seen.runs
      first_shown is = put_shown [] tree.items refl is ∙ ap (λ (r : Runs). (name, pieces) ∷ r.runs) shown

      pub first_stored : put.items ≡ (name, item) ∷ tree.items → IsRun run → 0 < length pieces → All few_breaks pieces → AreStored put new
      first_stored is = put_stored [] tree.items refl is

      module _ (id : ℕ) (after : HasAfter tree.items put.items id (name, item)) where
        behind : (us : List (ℕ × StoredRun)) (x : StoredRun) (vs : List (ℕ × StoredRun)) → SplitsAt tree.items id us x vs → put.items ≡ (us ++ (id, x) ∷ []) ++ (name, item) ∷ vs
        behind us x vs e = after us x vs e ∙ sym (append_assoc us ((id, x) ∷ []) ((name, item) ∷ vs))

        pub after_stored : IsItem seen.runs id → IsRun run → 0 < length pieces → All few_breaks pieces → AreStored put new
        after_stored is is_run some few =
            let (us, (x, (vs, e))) = named tree stored seen shown id is in
            put_stored (us ++ (id, x) ∷ []) vs (e ∙ sym (append_assoc us ((id, x) ∷ []) vs)) (behind us x vs e) is_run some few

        pub after_shown : HasAfter seen.runs (stored_in new put.items) id (name, pieces)
        after_shown us x vs e =
            let s = standing tree stored seen shown id us x vs e in
            let left = s.befores in
            let own = s.pieces in
            let right = s.afters in
            put_shown (s.before ++ (id, s.here) ∷ []) s.after (s.place ∙ sym (append_assoc s.before ((id, s.here) ∷ []) s.after)) (behind s.before s.here s.after s.place)
            ∙ ap (λ rs. rs ++ (name, pieces) ∷ stored_in stored s.after) (stored-append stored s.before ((id, s.here) ∷ []))
            ∙ (λ i. (left i ++ (id, own i) ∷ []) ++ (name, pieces) ∷ right i) ∙ append_assoc us ((id, x) ∷ []) ((name, pieces) ∷ vs)

  -- a run is removed
  module _ (id : ℕ) (r : StoredRun) (told : AtItem tree.items id (λ us x vs. r ≡ x)) (left : Listed StoredRun) (out : LeavesOut tree.items left.items id)
      (new : Nodes Run) (live : new.live ≡ map.remove stored.live r.at) where
    around_out : (us : List (ℕ × StoredRun)) (x : StoredRun) (vs : List (ℕ × StoredRun)) → SplitsAt tree.items id us x vs → Around stored us vs r.at
    around_out us x vs e = subst (λ (y : StoredRun). Around stored us vs y.at) (sym (told us x vs e)) (around_one tree stored h us id x vs e)

    pub out_stored : IsItem seen.runs id → AreStored left new
    out_stored is =
        let (us, (x, (vs, e))) = named tree stored seen shown id is in
        rest_stored stored new r.at live us vs (around_out us x vs e) left (out us x vs e)
        (omega (
          arith,
          h.small,
          ap (λ es. units_in (stored_in stored es)) e,
          ap units_in (stored-append stored us ((id, x) ∷ vs)),
          units-at (stored_in stored us) id (pieces_at stored x.at) (stored_in stored vs),
        ))

    pub out_shown : LeavesOut seen.runs (stored_in new left.items) id
    out_shown us x vs e =
        let s = standing tree stored seen shown id us x vs e in
        let before = s.befores in
        let after = s.afters in
        rest_shown stored new r.at live s.before s.after (around_out s.before s.here s.after s.place) left (out s.before s.here s.after s.place) ∙ (λ i. before i ++ after i)

-- The runs after one is inserted, written or removed.
use Rattle.std.proofs.Common.{◌≡◌, ◌≢◌, ℕ, ◌+◌, ◌<◌, ◌^◌, List, ◌∷◌, ◌++◌, length, take, drop, Some, sym, ap, ◌∙◌, subst, arith}
use Rattle.std.specs.List.{All}
use Rattle.std.specs.Ordering.{nat_cmp}
use Rattle.std.specs.FinMap as map
use Rattle.std.proofs.lemmas.List.Concat.{flat_map-append}
use Rattle.std.proofs.lemmas.List.Elements.{All-append, All-take, All-drop}
use Rattle.raw_arena.specs.Arena.{Nodes, node}
use Rattle.raw_arena.proofs.Names.{get-insert_same, get-insert_other, get-remove_other}
use Rattle.rb_arena.specs.RbTree.{Listed, SplitsAt}
use Rattle.piece_tree.specs.declared.piece.Piece.{Piece}
use Rattle.piece_tree.specs.declared.piece.PieceSum.{PieceSum}
use Rattle.piece_tree.specs.declared.run.Run.{Run}
use Rattle.piece_tree.specs.declared.weave.StoredRun.{StoredRun}
use Rattle.piece_tree.specs.Pieces.{unit_count, sum_of}
use Rattle.piece_tree.specs.Searches.{few_breaks, few_breaks_in}
use Rattle.piece_tree.specs.Runs.{IsRun, listed_in, pieces_in, replaced}
use Rattle.piece_tree.specs.Stored.{stored_in, IsStored, AreStored}
use Rattle.piece_tree.proofs.Entries.{units-at}
use Rattle.piece_tree.proofs.Sums.{units-append, breaks_few}
use Rattle.piece_tree.proofs.Storing.{Around, put_each, put_apart, put_shown, left_each, left_apart, left_shown, tree_units, tree_units-append, units_in}

-- the sum of pieces with few breaks
pub few_in_sum : (ps : List Piece) (sum : PieceSum) → sum ≡ sum_of ps → All few_breaks ps → few_breaks_in sum
few_in_sum ps sum is few = omega (arith, ap (λ (s : PieceSum). s.units) is, ap (λ (s : PieceSum). s.breaks) is, breaks_few ps few)

pub few_replaced : (from to : ℕ) (with ps : List Piece) → All few_breaks with → All few_breaks ps → All few_breaks (replaced from to with ps)
few_replaced from to with ps few all =
    All-append few_breaks (take from ps ++ with) (drop to ps) (All-append few_breaks (take from ps) with (All-take few_breaks from ps all) few) (All-drop few_breaks to ps all)

-- the tree's sum after an item is replaced
pub set_units : (items us ws : List (ℕ × StoredRun)) (id : ℕ) (x y new : StoredRun) (vs zs : List (ℕ × StoredRun)) → SplitsAt items id us x vs → SplitsAt items id ws y zs → x ≡ y
    → tree_units (us ++ (id, new) ∷ vs) ≡ tree_units (ws ++ (id, new) ∷ zs)
set_units items us ws id x y new vs zs e f same =
    omega (
      arith,
      tree_units-append us ((id, new) ∷ vs),
      tree_units-append ws ((id, new) ∷ zs),
      tree_units-append us ((id, x) ∷ vs),
      tree_units-append ws ((id, y) ∷ zs),
      ap tree_units e,
      ap tree_units f,
      ap (λ (r : StoredRun). r.sum.units) same,
    )

-- a run is inserted into the arena, or written there
module _ (stored new : Nodes Run) (at : ℕ) (run : Run) (live : new.live ≡ map.insert stored.live at run) where
  there : node new at ≡ Some run
  there = ap (λ (m : map.FinMap nat_cmp Run). map.get m at) live ∙ get-insert_same stored.live at run

  others : (q : ℕ) → q ≢ at → node new q ≡ node stored q
  others q ne = ap (λ (m : map.FinMap nat_cmp Run). map.get m q) live ∙ get-insert_other stored.live at run q ne

  module _ (us vs : List (ℕ × StoredRun)) (a : Around stored us vs at) (e : ℕ × StoredRun) (here : e.1.at ≡ at) (tree : Listed StoredRun) (is : tree.items ≡ us ++ e ∷ vs) where
    pub run_shown : stored_in new tree.items ≡ stored_in stored us ++ (e.0, listed_in run) ∷ stored_in stored vs
    run_shown = ap (stored_in new) is ∙ put_shown stored new at others us vs a e run here there

    pub run_stored : IsRun run → e.1.sum ≡ sum_of (listed_in run) → 0 < length (listed_in run) → All few_breaks (listed_in run)
        → units_in (stored_in stored us) + (unit_count (listed_in run) + units_in (stored_in stored vs)) < 2 ^ 62 → AreStored tree new
    run_stored is_run sum some counted small =
        let own : IsStored new e = record { run = run; there = ap (node new) here ∙ there; few = is_run; sum = sum; some = some; counted = counted } in
        record {
          each = subst (All (IsStored new)) (sym is) (put_each stored new at others us vs a e own);
          apart = rw is (put_apart stored new at others us vs a e here);
          small = omega (arith, small, ap units_in run_shown, units-at (stored_in stored us) e.0 (listed_in run) (stored_in stored vs));
        }

-- a run is removed from the arena
module _ (stored new : Nodes Run) (at : ℕ) (live : new.live ≡ map.remove stored.live at) where
  kept : (q : ℕ) → q ≢ at → node new q ≡ node stored q
  kept q ne = ap (λ (m : map.FinMap nat_cmp Run). map.get m q) live ∙ get-remove_other stored.live at q ne

  module _ (us vs : List (ℕ × StoredRun)) (a : Around stored us vs at) (tree : Listed StoredRun) (is : tree.items ≡ us ++ vs) where
    pub rest_shown : stored_in new tree.items ≡ stored_in stored us ++ stored_in stored vs
    rest_shown = ap (stored_in new) is ∙ left_shown stored new at kept us vs a

    pub rest_stored : units_in (stored_in stored us) + units_in (stored_in stored vs) < 2 ^ 62 → AreStored tree new
    rest_stored small = record {
      each = subst (All (IsStored new)) (sym is) (left_each stored new at kept us vs a);
      apart = rw is (left_apart stored new at kept us vs a);
      small = omega (
        arith,
        small,
        ap units_in rest_shown,
        ap unit_count (flat_map-append (λ (r : ℕ × List Piece). r.1) (stored_in stored us) (stored_in stored vs)),
        units-append (pieces_in (stored_in stored us)) (pieces_in (stored_in stored vs)),
      );
    }

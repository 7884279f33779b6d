-- The walk down a tree: each part has fewer nodes than the tree, and a property that holds if nothing was found.
use Rattle.std.proofs.Common.{◌<◌, Option, Some, None, ap, sym, subst, arith, inl, inr}
use Rattle.std.specs.Prelude.{IfNone}
use Rattle.text_lengths.specs.declared.Length.{Length}
use Rattle.bracket_tree_rules.specs.Tree.{Tree, text, pair, stray, capped, nothing, two, three, IsTree}
use Rattle.bracket_tree_rules.specs.Parts.{IsPart}
use Rattle.bracket_nodes.specs.Shapes.{tree_size}

pub part_smaller : (p : Length) (t : Tree) (r : Length) (part : Tree) → IsPart p t r part → tree_size part < tree_size t
part_smaller p (text l) r part none = elim none [ ]
part_smaller p (pair k o i c) r part is = omega (arith, ap tree_size is.node)
part_smaller p (stray k w) r part none = elim none [ ]
part_smaller p (capped k w) r part none = elim none [ ]
part_smaller p nothing r part none = elim none [ ]
part_smaller p (two a b) r part (inl is) = omega (arith, ap tree_size is.node)
part_smaller p (two a b) r part (inr is) = omega (arith, ap tree_size is.node)
part_smaller p (three a b c) r part (inl is) = omega (arith, ap tree_size is.node)
part_smaller p (three a b c) r part (inr (inl is)) = omega (arith, ap tree_size is.node)
part_smaller p (three a b c) r part (inr (inr is)) = omega (arith, ap tree_size is.node)

pub part_tree : (p : Length) (t : Tree) (r : Length) (part : Tree) → IsTree t → IsPart p t r part → IsTree part
part_tree p (text l) r part h none = elim none [ ]
part_tree p (pair k o i c) r part h is = subst IsTree (sym is.node) h.1
part_tree p (stray k w) r part h none = elim none [ ]
part_tree p (capped k w) r part h none = elim none [ ]
part_tree p nothing r part h none = elim none [ ]
part_tree p (two a b) r part h (inl is) = subst IsTree (sym is.node) h.1.0
part_tree p (two a b) r part h (inr is) = subst IsTree (sym is.node) h.1.1
part_tree p (three a b c) r part h (inl is) = subst IsTree (sym is.node) h.1.0
part_tree p (three a b c) r part h (inr (inl is)) = subst IsTree (sym is.node) h.1.1.0
part_tree p (three a b c) r part h (inr (inr is)) = subst IsTree (sym is.node) h.1.1.1

pub if_none : {A : Type 0} (o : Option A) (P : Type 0) → P → IfNone o P
if_none None P h = h
if_none (Some x) P h = tt

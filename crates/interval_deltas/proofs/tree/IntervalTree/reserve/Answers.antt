use Rattle.std.proofs.Common.{◌≡◌, List, [], length, refl, sym, ◌∙◌, ap, subst}
use Rattle.std.specs.List.{count_by}
use Rattle.rb_arena.specs.Names.{HaveOwnNames}
use Rattle.rb_arena.specs.RbTree.{Listed}
use Rattle.decoration_rules.specs.Marks.{IsInOrder, HasDistinctIds}
use Rattle.interval_deltas.specs.declared.names.Entry.{Entry}
use Rattle.interval_deltas.specs.declared.weave.KeptMark.{KeptMark}
use Rattle.interval_deltas.specs.Kept.{AreMarks, marks_of}
use Rattle.interval_deltas.specs.Names.{node_of, is_named}
use Rattle.interval_deltas.specs.Tree.{IsTree, node_in}
use Rattle.interval_deltas.proofs.tree.IntervalTree.reserve.Goals as goal

same_tree : (old new : Listed KeptMark) (names after : List Entry) → IsTree old names → new.items ≡ old.items → new.loose ≡ old.loose → after ≡ names → IsTree new after
same_tree old new names after is items loose same = record {
  loose = loose ∙ is.loose;
  values = subst AreMarks (sym items) is.values;
  ordered = subst (λ l. IsInOrder (marks_of l)) (sym items) is.ordered;
  distinct = subst (λ l. HasDistinctIds (marks_of l)) (sym items) is.distinct;
  own = subst (λ l. HaveOwnNames l []) (sym items) is.own;
  named = λ id. ap (λ l. node_of l id) same ∙ is.named id ∙ ap (λ l. node_in l id) (sym items);
  all = ap (count_by is_named) same ∙ is.all ∙ ap length (sym items);
}

pub invariant_of-self : goal.invariant_of-self
invariant_of-self c =
    same_tree c.self.inside.tree c.reserve.new.self c.self.inside.names.entries c.self.inside.names.entries c.self.invariant c.reserve.ensures.items c.reserve.ensures.loose refl

pub invariant_of-self-2 : goal.invariant_of-self-2
invariant_of-self-2 c =
    same_tree c.self.inside.tree c.reserve.new.self c.self.inside.names.entries c.reserve-2.new.self.entries c.self.invariant c.reserve.ensures.items c.reserve.ensures.loose c.reserve-2.ensures.same

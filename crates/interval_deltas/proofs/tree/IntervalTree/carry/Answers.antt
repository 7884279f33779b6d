use Rattle.std.proofs.Common.{length, refl, sym, ◌∙◌, ap}
use Rattle.std.specs.List.Sorted.{IsPermutation}
use Rattle.decoration_rules.specs.Lines.{carried_mark, carried_with_lines}
use Rattle.interval_deltas.specs.Kept.{changed_items}
use Rattle.interval_deltas.specs.Tree.{Shown}
use Rattle.interval_deltas.proofs.Lists.{length-marks}
use Rattle.interval_deltas.proofs.Own.{own_all_changed}
use Rattle.interval_deltas.proofs.Trees.{marks_all_changed, names_changed, lengths_changed, distinct_all_changed}
use Rattle.interval_deltas.proofs.tree.IntervalTree.carry.Goals as goal

pub carry_in_order-requires-clause-count : goal.carry_in_order-requires-clause-count
carry_in_order-requires-clause-count c = c.len-count.ensures ∙ ap (λ (s : Shown). length s.marks) (sym c.self.view_is) ∙ length-marks c.self.inside.tree.items

pub invariant_of-self : goal.invariant_of-self
invariant_of-self c =
    let to = carried_mark c.args.moves.now in let old = c.self.inside.tree.items in let inv = c.self.invariant in let new = c.carry_in_order.new.tree.items in
    let whole : IsPermutation (changed_items to old) new = c.carry_in_order.ensures.carried in record {
      loose = c.carry_in_order.ensures.loose;
      values = c.carry_in_order.ensures.values;
      ordered = c.carry_in_order.ensures.ordered;
      distinct = distinct_all_changed to (λ _. refl) old new whole inv.distinct;
      own = own_all_changed to old new whole inv.own;
      named = λ k. inv.named k ∙ names_changed to (λ _. refl) old new whole inv.distinct k;
      all = inv.all ∙ sym (lengths_changed to (λ _. refl) old new whole);
    }

pub returns-clause-carried : goal.returns-clause-carried
returns-clause-carried c =
    let to = carried_mark c.args.moves.now in let old = c.self.inside.tree.items in let new = c.carry_in_order.new.tree.items in
    marks_all_changed to (λ _. refl) old new c.carry_in_order.ensures.carried c.self.invariant.distinct c.carry_in_order.ensures.ordered
    ∙ ap (λ (s : Shown). carried_with_lines c.args.moves.now s.marks) c.self.view_is

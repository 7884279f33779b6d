use Rattle.std.proofs.Common.{◌≡◌, ◌<◌, length, map, refl, sym, ◌∙◌, ap, subst}
use Rattle.std.specs.List.{All}
use Rattle.std.specs.List.Sorted.{IsPermutation}
use Rattle.decoration_rules.specs.declared.Edit.{Edit}
use Rattle.decoration_rules.specs.declared.Mark.{Mark}
use Rattle.decoration_rules.specs.Moves.{offset_limit, moved_mark}
use Rattle.decoration_rules.specs.Marks.{in_order}
use Rattle.interval_deltas.specs.Kept.{moved_items}
use Rattle.interval_deltas.specs.Tree.{Shown}
use Rattle.interval_deltas.proofs.Lists.{length-marks}
use Rattle.interval_deltas.proofs.Own.{own_all_changed}
use Rattle.interval_deltas.proofs.Trees.{marks_all_changed, names_changed, can_move, lengths_changed, distinct_all_changed}
use Rattle.interval_deltas.proofs.tree.IntervalTree.accept.Goals as goal

keeps : (edit : Edit) (m : Mark) → (moved_mark edit m).id ≡ m.id
keeps edit m = refl

pub move_in_order-requires-clause-count : goal.move_in_order-requires-clause-count
move_in_order-requires-clause-count c = c.len-count.ensures ∙ ap (λ (s : Shown). length s.marks) (sym c.self.view_is) ∙ length-marks c.self.inside.tree.items

pub move_in_order-requires-clause-fits : goal.move_in_order-requires-clause-fits
move_in_order-requires-clause-fits c =
    can_move c.args.edit.now c.self.inside.tree.items (subst (λ (s : Shown). All (λ (mark : Mark). (moved_mark c.args.edit.now mark).span.end < offset_limit) s.marks) (sym c.self.view_is) c.requires.fits)

pub invariant_of-self : goal.invariant_of-self
invariant_of-self c =
    let edit = c.args.edit.now in let old = c.self.inside.tree.items in let inv = c.self.invariant in let new = c.move_in_order.new.tree.items in
    let whole : IsPermutation (moved_items edit old) new = c.move_in_order.ensures.moved in record {
      loose = c.move_in_order.ensures.loose;
      values = c.move_in_order.ensures.values;
      ordered = c.move_in_order.ensures.ordered;
      distinct = distinct_all_changed (moved_mark edit) (keeps edit) old new whole inv.distinct;
      own = own_all_changed (moved_mark edit) old new whole inv.own;
      named = λ k. inv.named k ∙ names_changed (moved_mark edit) (keeps edit) old new whole inv.distinct k;
      all = inv.all ∙ sym (lengths_changed (moved_mark edit) (keeps edit) old new whole);
    }

pub returns-clause-moved : goal.returns-clause-moved
returns-clause-moved c =
    let edit = c.args.edit.now in let old = c.self.inside.tree.items in let new = c.move_in_order.new.tree.items in
    marks_all_changed (moved_mark edit) (keeps edit) old new c.move_in_order.ensures.moved c.self.invariant.distinct c.move_in_order.ensures.ordered ∙ ap (λ (s : Shown). in_order (map (moved_mark edit) s.marks)) c.self.view_is

use Rattle.std.proofs.Common.{sym, ◌∙◌, subst}
use Rattle.interval_deltas.specs.Sorting.{AreSorted}
use Rattle.interval_deltas.proofs.MovedAll.{values_rewritten, rewritten_named, rewritten_marks, rewritten_own, follows, all_moved, all_sorted}
use Rattle.interval_deltas.proofs.accept.move_touched.Goals as goal

pub rewrite-requires : goal.rewrite-requires
rewrite-requires c =
    record { values = values_rewritten c.args.edit.now c.args.tree.now.items c.last_before-last.result c.after.result c.requires.upright c.requires.values c.requires.fits c.after.ensures.start c.after.ensures.end c.after.ensures.id c.last_before-last.ensures c.new-mover.result c.new-mover.ensures }

pub shift_behind-requires-clause-named : goal.shift_behind-requires-clause-named
shift_behind-requires-clause-named c =
    rewritten_named c.args.edit.now c.args.tree.now.items c.last_before-last.result c.after.result c.requires.upright c.requires.values c.requires.fits c.after.ensures.start c.after.ensures.end c.after.ensures.id c.last_before-last.ensures c.rewrite.new.self.items c.new-mover.result c.new-mover.ensures c.rewrite.ensures.items

pub shift_behind-requires-clause-names : goal.shift_behind-requires-clause-names
shift_behind-requires-clause-names c =
    rewritten_own c.args.edit.now c.args.tree.now.items c.last_before-last.result c.after.result c.requires.upright c.requires.values c.requires.fits c.after.ensures.start c.after.ensures.end c.after.ensures.id c.last_before-last.ensures c.rewrite.new.self.items c.new-mover.result c.new-mover.ensures c.rewrite.ensures.items c.requires.names

pub shift_behind-requires-clause-values : goal.shift_behind-requires-clause-values
shift_behind-requires-clause-values c =
    rewritten_marks c.args.edit.now c.args.tree.now.items c.last_before-last.result c.after.result c.requires.upright c.requires.values c.requires.fits c.after.ensures.start c.after.ensures.end c.after.ensures.id c.last_before-last.ensures c.rewrite.new.self.items c.new-mover.result c.new-mover.ensures c.rewrite.ensures.items

pub shift_behind-requires-clause-follow : goal.shift_behind-requires-clause-follow
shift_behind-requires-clause-follow c =
    follows c.args.edit.now c.args.tree.now.items c.last_before-last.result c.after.result c.requires.upright c.requires.values c.requires.fits c.after.ensures.start c.after.ensures.end c.after.ensures.id c.last_before-last.ensures c.rewrite.new.self.items c.new-mover.result c.new-mover.ensures c.rewrite.ensures.items

pub returns-clause-moved : goal.returns-clause-moved
returns-clause-moved c =
    all_moved c.args.edit.now c.args.tree.now.items c.last_before-last.result c.after.result c.requires.upright c.requires.values c.requires.fits c.after.ensures.start c.after.ensures.end c.after.ensures.id c.last_before-last.ensures c.rewrite.new.self.items c.new-mover.result c.new-mover.ensures c.rewrite.ensures.items c.shift_behind.new.tree.items c.shift_behind.ensures.moved

pub returns-clause-sorted : goal.returns-clause-sorted
returns-clause-sorted c =
    λ seen. subst AreSorted (sym (all_moved c.args.edit.now c.args.tree.now.items c.last_before-last.result c.after.result c.requires.upright c.requires.values c.requires.fits c.after.ensures.start c.after.ensures.end c.after.ensures.id c.last_before-last.ensures c.rewrite.new.self.items c.new-mover.result c.new-mover.ensures c.rewrite.ensures.items c.shift_behind.new.tree.items c.shift_behind.ensures.moved)) (all_sorted c.args.edit.now c.args.tree.now.items c.last_before-last.result c.after.result c.requires.upright c.requires.values c.requires.fits c.after.ensures.start c.after.ensures.end c.after.ensures.id c.last_before-last.ensures c.rewrite.new.self.items c.new-mover.result c.new-mover.ensures c.rewrite.ensures.items c.requires.ordered c.rewrite.new.how c.rewrite.ensures.onward (sym c.in_order.ensures ∙ seen))

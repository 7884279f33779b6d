use Rattle.std.proofs.Common.{◌+◌, get_or, sym, ◌∙◌, ap, arith}
use Rattle.std.proofs.lemmas.List.{append-nil}
use Rattle.decoration_rules.specs.declared.Mark.{Mark}
use Rattle.decoration_rules.specs.Marks.{is_live, in_order, put_in_order}
use Rattle.decoration_rules.specs.Decorations.{new_mark}
use Rattle.decoration_rules.proofs.MarkLists.{in_order-ordered}
use Rattle.decorations.proofs.Added.{any_new, so_far, so_far-fresh, so_far-more}
use Rattle.decorations.proofs.changes.add_all.Goals as goal

pub loop-new-init : goal.loop-new-init
loop-new-init c = record {
  marks = sym (in_order-ordered c.args.tree.now.marks c.requires.ordered) ∙ ap in_order (sym (append-nil c.args.tree.now.marks));
  id = omega arith;
  room = omega arith;
}

pub insert-requires-clause-new : goal.insert-requires-clause-new
insert-requires-clause-new c =
    ap (λ ms. is_live ms c.new_mark.result.id) c.loop-new.invariant.marks
    ∙ ap (is_live (in_order (so_far c.args.owner c.args.first c.args.add.now c.args.tree.now.marks c.loop-new.new-index)))
    (ap (λ (m : Mark). m.id) c.new_mark.ensures ∙ c.loop-new.invariant.id)
    ∙ so_far-fresh c.args.owner c.args.first c.args.add.now c.args.tree.now.marks c.loop-new.new-index (omega arith)
    (record { distinct = c.requires.distinct; used = c.requires.used })

pub loop-new-preserved : goal.loop-new-preserved
loop-new-preserved c = record {
  marks =
      c.insert.ensures.marks
      ∙ ap (λ m. put_in_order m c.loop-new.tree.marks)
      (c.new_mark.ensures ∙ ap (λ n. new_mark c.args.owner n (get_or c.args.add.now c.loop-new.new-index any_new)) c.loop-new.invariant.id)
      ∙ ap (put_in_order (new_mark c.args.owner (c.args.first + c.loop-new.new-index) (get_or c.args.add.now c.loop-new.new-index any_new))) c.loop-new.invariant.marks
      ∙ so_far-more c.args.owner c.args.first c.args.add.now c.args.tree.now.marks c.loop-new.new-index any_new (omega arith)
      (record { distinct = c.requires.distinct; used = c.requires.used });
  id = omega arith;
  room = omega arith;
}

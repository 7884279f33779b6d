use Rattle.std.proofs.Common.{false, sym, ◌∙◌, arith}
use Rattle.decoration_rules.specs.Decorations.{is_bad}
use Rattle.textmodel_c.specs.declared.marks.NewDecoration.{NewDecoration}
use Rattle.textmodel_c.specs.Rules.{new_deco_of}
use Rattle.textmodel_c.proofs.OutOfRange.{bad_here}
use Rattle.textmodel_c.proofs.faults.first_bad.Goals as goal

any_new : NewDecoration
any_new = record { start = 0; end = 0; stick = 0; collapse = false }

pub returns-then-is_bad : goal.returns-then-is_bad
unfolding any_new
returns-then-is_bad c =
    let f = c.args.model.now.document in
    bad_here (λ new. is_bad f.kind f.units (new_deco_of new)) c.args.add.now c.loop-i.i any_new (omega arith) c.loop-i.invariant
    (sym c.is_bad.ensures ∙ c.if-is_bad.true)

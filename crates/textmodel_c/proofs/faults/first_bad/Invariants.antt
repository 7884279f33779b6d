use Rattle.std.proofs.Common.{◌≡◌, false, take}
use Rattle.std.specs.List.{list_any}
use Rattle.decoration_rules.specs.Decorations.{is_bad}
use Rattle.textmodel_c.specs.Rules.{new_deco_of}
use Rattle.textmodel_c.proofs.faults.first_bad.Given as goal

abbrev pub invariant-loop-i : goal.invariant-loop-i
invariant-loop-i l = list_any (λ new. is_bad l.model.document.kind l.model.document.units (new_deco_of new)) (take l.i l.add) ≡ false

use Rattle.std.proofs.Common.{◌≡◌, false, take}
use Rattle.model_group.specs.Losing.{names_any}
use Rattle.model_group.proofs.losing.names_any.Given as goal

abbrev pub invariant-loop-one : goal.invariant-loop-one
invariant-loop-one l = names_any (take l.one-index l.ready) l.tag ≡ false

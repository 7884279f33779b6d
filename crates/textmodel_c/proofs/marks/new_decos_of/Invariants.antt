use Rattle.std.proofs.Common.{◌≡◌, map, take}
use Rattle.textmodel_c.specs.Rules.{new_deco_of}
use Rattle.textmodel_c.proofs.marks.new_decos_of.Given as goal

abbrev pub invariant-loop-new : goal.invariant-loop-new
invariant-loop-new l = l.decos.items ≡ map new_deco_of (take l.new-index l.add)

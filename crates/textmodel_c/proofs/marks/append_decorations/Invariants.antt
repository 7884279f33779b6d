use Rattle.std.proofs.Common.{◌≡◌, ◌++◌, map, take}
use Rattle.textmodel_c.specs.Rules.{decoration_of}
use Rattle.textmodel_c.proofs.marks.append_decorations.Given as goal

abbrev pub invariant-loop-deco : goal.invariant-loop-deco
invariant-loop-deco l = l.out.items ≡ l.fn.out.items ++ map decoration_of (take l.deco-index l.decos)

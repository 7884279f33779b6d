use Rattle.std.proofs.Common.{◌≡◌, map, take}
use Rattle.std.specs.Prelude.{filter}
use Rattle.textmodel_c.specs.Rules.{found_of, is_within}
use Rattle.textmodel_c.proofs.search.append_within.Given as goal

abbrev pub invariant-loop-span : goal.invariant-loop-span
invariant-loop-span l = l.out.items ≡ map found_of (filter (is_within l.from l.back) (take l.span-index l.spans))

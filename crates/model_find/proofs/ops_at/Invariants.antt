use Rattle.std.proofs.Common.{◌≡◌, take}
use Rattle.search_rules.specs.Replacing.{replacing}
use Rattle.model_find.proofs.ops_at.Given as goal

abbrev pub invariant-loop-span : goal.invariant-loop-span
invariant-loop-span l = l.ops.items ≡ replacing (take l.span-index l.spans) l.with

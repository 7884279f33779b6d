-- The result of a check, compared with the rule that it follows.
use Rattle.std.specs.Prelude.{◌≡◌, List, Result, Ok, Err, ⊤}
use Rattle.text_rules.specs.declared.Op.{Op}
use Rattle.batch_rules.specs.declared.BatchError.{BatchError}
use Rattle.batch_rules.specs.declared.BatchError.TheVariants.{Range, Overlap, Limit, Memory}
use Rattle.batch_rules.specs.Refusals.{BatchRefusal, range, overlap, limit}

-- the rule refuses for the reason that the check returns; `Memory` may replace any result
abbrev pub RefusedFor : BatchError → Result (List Op) BatchRefusal → Type 0
RefusedFor Range rule = rule ≡ Err range
RefusedFor Overlap rule = rule ≡ Err overlap
RefusedFor Limit rule = rule ≡ Err limit
RefusedFor Memory rule = ⊤

-- an accepted batch is the rule's list of ops; a refused one is refused for the rule's reason, or with `Memory`
abbrev pub Checks : Result (List Op) BatchError → Result (List Op) BatchRefusal → Type 0
Checks (Ok sorted) rule = rule ≡ Ok sorted
Checks (Err e) rule = RefusedFor e rule

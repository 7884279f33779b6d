-- The meaning of the result of a call on several documents, given the result of its rule. `Memory` may take the place of
-- any result, and then nothing is changed.
use Rattle.std.specs.Prelude.{◌≡◌, Bool, true, false, Option, Some, None, Result, Ok, Err, ⊤}
use Rattle.document_rules.specs.Refusals.{unknown, range, overlap, limit}
use Rattle.group_rules.specs.declared.GroupError.{GroupError}
use Rattle.group_rules.specs.declared.GroupError.TheVariants.{Unknown, Range, Overlap, Limit, Joint, Memory}
use Rattle.group_rules.specs.Refusals.{GroupRefusal, plain, joint}

-- the rule refuses for the reason that the call returns; `Memory` is possible whatever the rule says
abbrev pub IsRefusedFor : {A : Type 0} → GroupError → Result A GroupRefusal → Type 0
IsRefusedFor Unknown rule = rule ≡ Err (plain unknown)
IsRefusedFor Range rule = rule ≡ Err (plain range)
IsRefusedFor Overlap rule = rule ≡ Err (plain overlap)
IsRefusedFor Limit rule = rule ≡ Err (plain limit)
IsRefusedFor (Joint n) rule = rule ≡ Err (joint n)
IsRefusedFor Memory rule = ⊤

-- an accepted call makes the new group of the rule; a refused call leaves the old group and returns the reason of the rule
abbrev pub ChangesAll : {S : Type 0} → Result ⊤ GroupError → S → S → Result S GroupRefusal → Type 0
ChangesAll (Ok x) old new rule = rule ≡ Ok new
ChangesAll (Err e) old new rule = (new ≡ old) × IsRefusedFor e rule

-- a call that returns whether there was anything to do, and makes the new group of the rule if there was
abbrev pub MovesAll : {S : Type 0} → Result Bool GroupError → S → S → Result (Option S) GroupRefusal → Type 0
MovesAll (Ok true) old new rule = rule ≡ Ok (Some new)
MovesAll (Ok false) old new rule = (rule ≡ Ok None) × (new ≡ old)
MovesAll (Err e) old new rule = (new ≡ old) × IsRefusedFor e rule

-- The meaning of the result of a call, given the result of its rule. `Memory` may take the place of any result, and then
-- nothing is changed.
use Rattle.std.specs.Prelude.{◌≡◌, ℕ, Bool, true, false, List, ◌++◌, Option, Some, None, Result, Ok, Err, ⊤}
use Rattle.document_rules.specs.declared.ModelError.{ModelError}
use Rattle.document_rules.specs.declared.ModelError.TheVariants.{Unknown, Range, Overlap, Limit, Memory}
use Rattle.document_rules.specs.Refusals.{FlatRefusal, unknown, range, overlap, limit}

-- the rule refuses for the reason that the call returns; `Memory` is possible whatever the rule says
abbrev pub RefusedFor : {A : Type 0} → ModelError → Result A FlatRefusal → Type 0
RefusedFor Unknown rule = rule ≡ Err unknown
RefusedFor Range rule = rule ≡ Err range
RefusedFor Overlap rule = rule ≡ Err overlap
RefusedFor Limit rule = rule ≡ Err limit
RefusedFor Memory rule = ⊤

-- an accepted call makes the new value of the rule; a refused call leaves the old value and returns the reason of the rule
abbrev pub Changes : {S : Type 0} → Result ⊤ ModelError → S → S → Result S FlatRefusal → Type 0
Changes (Ok x) old new rule = rule ≡ Ok new
Changes (Err e) old new rule = (new ≡ old) × RefusedFor e rule

-- a call that returns whether there was anything to do, and makes the new value of the rule if there was
abbrev pub Moves : {S : Type 0} → Result Bool ModelError → S → S → Result (Option S) FlatRefusal → Type 0
Moves (Ok true) old new rule = rule ≡ Ok (Some new)
Moves (Ok false) old new rule = (rule ≡ Ok None) × (new ≡ old)
Moves (Err e) old new rule = (new ≡ old) × RefusedFor e rule

-- a call as in `Changes`, which returns the number `answer` if it is accepted
abbrev pub ChangesWith : {S : Type 0} → ℕ → Result ℕ ModelError → S → S → Result S FlatRefusal → Type 0
ChangesWith answer (Ok n) old new rule = (rule ≡ Ok new) × (n ≡ answer)
ChangesWith answer (Err e) old new rule = (new ≡ old) × RefusedFor e rule

-- a call that returns the result of the rule, or the reason for which the rule refuses
abbrev pub Gives : {A : Type 0} → Result A ModelError → Result A FlatRefusal → Type 0
Gives (Ok x) rule = rule ≡ Ok x
Gives (Err e) rule = RefusedFor e rule

-- an accepted call appends the result of the rule; a refused call leaves the list and returns the reason of the rule
abbrev pub Appends : {A : Type 0} → Result ⊤ ModelError → List A → List A → Result (List A) FlatRefusal → Type 0
Appends {A} (Ok x) old new rule = (added : List A) × (rule ≡ Ok added) × (new ≡ old ++ added)
Appends {A} (Err e) old new rule = (new ≡ old) × RefusedFor e rule

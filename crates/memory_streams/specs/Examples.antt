-- Worked examples of the definitions.
use Rattle.std.specs.Prelude.{◌≡◌, List, [], ◌∷◌, Some, None, refl, codes}
use Rattle.memory_streams.specs.declared.plan.Fault.{Fault}
use Rattle.memory_streams.specs.declared.plan.Fault.TheVariants.{Fails, Short}
use Rattle.memory_streams.specs.Plan.{next_allowance}
use Rattle.memory_streams.specs.Planned.{told_with}

-- the second call comes short, the third fails
abbrev plan : List Fault
plan = Short 2 1 ∷ Fails 3 ∷ []

first_call : next_allowance plan 0 9 ≡ Some 9
first_call = refl

second_call : next_allowance plan 1 9 ≡ Some 1
second_call = refl

third_call : next_allowance plan 2 9 ≡ None
third_call = refl

three_fit : told_with 3 (Some (codes "a")) (codes "bc") ≡ Some (codes "abc")
three_fit = refl

four_do_not : told_with 3 (Some (codes "ab")) (codes "cd") ≡ None
four_do_not = refl

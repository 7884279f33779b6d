-- What a plan says about a call.
use Rattle.std.specs.Prelude.{◌≡◌, ℕ, ◌+◌, ◌<◌, ◌==◌, min, List, find, Option, Some, None, Result, Ok, IsErr, ⊤}
use Rattle.script_streams.specs.declared.Failed.{Failed}
use Rattle.script_streams.specs.Streams.{greatest_count}
use Rattle.memory_streams.specs.declared.plan.Fault.{Fault}
use Rattle.memory_streams.specs.declared.plan.Fault.TheVariants.{Fails, Short}

-- the call that a planned fault names
abbrev pub call_of : Fault → ℕ
call_of (Fails call) = call
call_of (Short call most) = call

-- the first fault of a plan that names the call
abbrev pub fault_at : List Fault → ℕ → Option Fault
fault_at plan call = find (λ fault. call_of fault == call) plan

-- the most bytes that a call may give or take, `each` without a fault; None if it fails
abbrev pub allowance : Option Fault → ℕ → Option ℕ
allowance None each = Some each
allowance (Some (Fails call)) each = None
allowance (Some (Short call most)) each = Some (min each most)

-- a fault at which a source still gives something, if anything is left
abbrev pub GivesSomething : Fault → Type 0
GivesSomething (Fails call) = ⊤
GivesSomething (Short call most) = 0 < most

-- one more, up to the greatest 64-bit number
abbrev pub counted : ℕ → ℕ
counted count = min (count + 1) greatest_count

-- the allowance of the call after `calls` calls
abbrev pub next_allowance : List Fault → ℕ → ℕ → Option ℕ
next_allowance plan calls each = allowance (fault_at plan (counted calls)) each

-- The answer of a call with `there` bytes to give or to take.
abbrev pub AnswersByPlan : Option ℕ → ℕ → Result ℕ Failed → Type 0
-- it fails if the plan says so, and only then
AnswersByPlan None there answer = IsErr answer
-- it gives or takes all of them, up to the allowance
AnswersByPlan (Some most) there answer = answer ≡ Ok (min most there)

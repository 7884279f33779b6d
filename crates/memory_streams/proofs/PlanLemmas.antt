-- What a plan of a source allows.
use Rattle.std.proofs.Common.{ℕ, suc, ◌<◌, List, [], ◌∷◌, Option, Some, None, true, false, arith}
use Rattle.std.specs.Prelude.{All, IfSome, ◌==◌, if◌then◌else◌}
use Rattle.memory_streams.specs.declared.plan.Fault.{Fault}
use Rattle.memory_streams.specs.declared.plan.Fault.TheVariants.{Fails, Short}
use Rattle.memory_streams.specs.Plan.{call_of, fault_at, allowance, GivesSomething}

-- a property of all faults holds for the found one
pub fault_at-All : (plan : List Fault) (call : ℕ) → All GivesSomething plan → IfSome (fault_at plan call) GivesSomething
fault_at-All [] call all = tt
fault_at-All (fault ∷ rest) call all =
    elim (call_of fault == call) as (λ b. IfSome (if b then Some fault else fault_at rest call) GivesSomething)
    [ true ↦ all 0 fault (omega arith) | false ↦ fault_at-All rest call (λ k d h. all (suc k) d (omega arith)) ]

-- a read that does not fail may give at least one byte
pub IfSome-allowance : (fault : Option Fault) (each : ℕ) → 0 < each → IfSome fault GivesSomething → IfSome (allowance fault each) (λ most. 0 < most)
IfSome-allowance None each some gives = some
IfSome-allowance (Some (Fails call)) each some gives = tt
IfSome-allowance (Some (Short call most)) each some gives = omega arith

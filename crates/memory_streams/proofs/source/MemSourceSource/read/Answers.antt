use Rattle.std.proofs.Common.{ℕ, ◌<◌, Option, sym, subst}
use Rattle.std.specs.Prelude.{IfSome}
use Rattle.memory_streams.proofs.PlanLemmas.{fault_at-All, IfSome-allowance}
use Rattle.memory_streams.proofs.source.MemSourceSource.read.Goals as goal

pub give-requires : goal.give-requires
give-requires c =
    let P : Option ℕ → Type 0 = λ most. IfSome most (λ n. 0 < n) in
    subst P (sym c.in-Some.ensures.allowance)
    (IfSome-allowance _ c.self.inside.each c.self.invariant.0 (fault_at-All _ _ c.self.invariant.1))

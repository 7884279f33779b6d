use Rattle.std.proofs.Common.{◌≡◌, ℕ, suc, true, take, subst, arith}
use Rattle.textmodel_c.proofs.faults.first_with.Goals as goal

pub returns : goal.returns
returns g c =
    let next : c.loop-high.high ≡ suc c.loop-high.low = omega arith in
    record {
      within = omega arith;
      before = c.loop-high.invariant.before;
      there = subst (λ (n : ℕ). g.F.Fault.so c.args.fault.now (take n c.args.items.now) ≡ true) next c.loop-high.invariant.there;
    }

use Rattle.std.proofs.Common.{ℕ, zero, suc, ◌≤◌, sym, subst, refl, arith}
use Rattle.mark_rules.specs.Marks.{kept_marks, GoesOn, RisesFrom, Rises}
use Rattle.line_hunks.proofs.hunks.Hunks.all_kept.Goals as goal

goes_on : (i lines : ℕ) → GoesOn i (kept_marks (suc i) lines)
goes_on i zero = tt
goes_on i (suc lines) = refl

rises : (least first lines : ℕ) → least ≤ first → RisesFrom least (kept_marks first lines)
rises least first zero below = tt
rises least first (suc lines) below = (below, goes_on first lines, rises (suc first) (suc first) lines (omega arith))

pub invariant_of-result : goal.invariant_of-result
invariant_of-result c =
    (c.all_kept.ensures.whole, subst Rises (sym c.all_kept.ensures.marks) (rises 1 c.args.first c.args.lines c.requires.first))

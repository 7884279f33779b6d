-- Laws of lines that are kept with consecutive numbers.
use Rattle.std.proofs.Common.{◌≡◌, ℕ, zero, suc, ◌+◌, ◌-◌, ◌<◌, ◌≤◌, Bool, true, false, cond, eqb, List, [], ◌∷◌, ◌++◌, length, take, drop, refl, ap, sym, ◌∙◌, subst, arith}
use Rattle.std.specs.Prelude.{slice_index_or}
use Rattle.std.proofs.lemmas.Bool.{eq-eqb, eqb-true}
use Rattle.std.proofs.lemmas.List.{get_or-drop}
use Rattle.mark_rules.specs.declared.Mark.{Mark}
use Rattle.mark_rules.specs.declared.Mark.TheVariants.{Kept, New}
use Rattle.mark_rules.specs.Marks.{mark_at, kept_marks, numbered, kept_run, GoesOn, RisesFrom, Rises}
use Rattle.mark_rules.proofs.MarkLaws.{RisesFrom-drop}

-- ---- the lines of a run

taken : (number i : ℕ) (marks : List Mark) (b : Bool) → eqb i number ≡ b
    → take (numbered (suc number) marks) marks ≡ kept_marks (suc number) (numbered (suc number) marks)
    → take (cond b (suc (numbered (suc number) marks)) 0) (Kept i ∷ marks) ≡ kept_marks number (cond b (suc (numbered (suc number) marks)) 0)
taken number i marks true e rest = let same : i ≡ number = eqb-true i number e in cc
taken number i marks false e rest = refl

numbered_are : (number : ℕ) (marks : List Mark) → take (numbered number marks) marks ≡ kept_marks number (numbered number marks)
numbered_are number [] = refl
numbered_are number (New ∷ marks) = refl
numbered_are number (Kept i ∷ marks) = taken number i marks (eqb i number) refl (numbered_are (suc number) marks)

run_at_front : (i : ℕ) (marks : List Mark) → slice_index_or marks 0 New ≡ Kept i → take (kept_run marks) marks ≡ kept_marks i (kept_run marks)
run_at_front i [] e = absurd cc
run_at_front i (New ∷ marks) e = absurd cc
run_at_front i (Kept j ∷ marks) e = let same : j ≡ i = cc in let rest = numbered_are (suc j) marks in cc

-- behind n lines
pub run_is_kept : (n i : ℕ) (marks : List Mark) → mark_at (n + 1) marks ≡ Kept i
    → take (kept_run (drop n marks)) (drop n marks) ≡ kept_marks i (kept_run (drop n marks))
run_is_kept n i marks e =
    let at : n + 1 - 1 ≡ n + 0 = omega arith in
    run_at_front i (drop n marks) (get_or-drop n marks 0 New ∙ ap (λ k. slice_index_or marks k New) (sym at) ∙ e)

some_kept : (i : ℕ) (marks : List Mark) → slice_index_or marks 0 New ≡ Kept i → 0 < kept_run marks
some_kept i [] e = absurd cc
some_kept i (New ∷ marks) e = absurd cc
some_kept i (Kept j ∷ marks) e = omega arith

pub run_has_line : (n i : ℕ) (marks : List Mark) → mark_at (n + 1) marks ≡ Kept i → 0 < kept_run (drop n marks)
run_has_line n i marks e =
    let at : n + 1 - 1 ≡ n + 0 = omega arith in
    some_kept i (drop n marks) (get_or-drop n marks 0 New ∙ ap (λ k. slice_index_or marks k New) (sym at) ∙ e)

numbered_within : (number : ℕ) (marks : List Mark) → numbered number marks ≤ length marks
numbered_within number [] = omega arith
numbered_within number (New ∷ marks) = omega arith
numbered_within number (Kept i ∷ marks) = of (eqb i number) (numbered_within (suc number) marks)
  where
    of : (b : Bool) → numbered (suc number) marks ≤ length marks → cond b (suc (numbered (suc number) marks)) 0 ≤ suc (length marks)
    of true rest = omega arith
    of false rest = omega arith

pub kept_run_within : (marks : List Mark) → kept_run marks ≤ length marks
kept_run_within [] = omega arith
kept_run_within (New ∷ marks) = omega arith
kept_run_within (Kept i ∷ marks) = omega (arith, numbered_within (suc i) marks)

-- ---- what stands behind it

none_goes_on : (i : ℕ) (marks : List Mark) → GoesOn i marks → RisesFrom (suc i) marks → kept_run (drop (numbered (suc i) marks) marks) ≡ 0
none_goes_on i [] on rises = refl
none_goes_on i (New ∷ marks) on rises = refl
none_goes_on i (Kept j ∷ marks) on rises =
    let rest = none_goes_on j marks rises.1 rises.2 in
    rw (eq-eqb j (suc i) on) (subst (λ k. kept_run (drop (numbered (suc k) marks) marks) ≡ 0) on rest)

run_ends : (least : ℕ) (marks : List Mark) → RisesFrom least marks → kept_run (drop (kept_run marks) marks) ≡ 0
run_ends least [] rises = refl
run_ends least (New ∷ marks) rises = none_left (kept_run (New ∷ marks)) refl
  where
    none_left : (k : ℕ) → k ≡ 0 → kept_run (drop k (New ∷ marks)) ≡ 0
    none_left zero e = refl
    none_left (suc k) e = absurd (omega arith)
run_ends least (Kept i ∷ marks) rises = none_goes_on i marks rises.1 rises.2

-- the line after a run is not kept
pub none_behind_run : (n : ℕ) (marks : List Mark) → Rises marks → kept_run (drop (kept_run (drop n marks)) (drop n marks)) ≡ 0
none_behind_run n marks rises = run_ends 1 (drop n marks) (RisesFrom-drop 1 n marks rises)

-- ---- numbers that rise

GoesOn-front : (i : ℕ) (first second : List Mark) → GoesOn i (first ++ second) → GoesOn i first
GoesOn-front i [] second on = tt
GoesOn-front i (New ∷ first) second on = tt
GoesOn-front i (Kept j ∷ first) second on = on

RisesFrom-front : (least : ℕ) (first second : List Mark) → RisesFrom least (first ++ second) → RisesFrom least first
RisesFrom-front least [] second rises = tt
RisesFrom-front least (New ∷ first) second rises = RisesFrom-front least first second rises
RisesFrom-front least (Kept i ∷ first) second rises =
    (rises.0, GoesOn-front i first second rises.1, RisesFrom-front (suc i) first second rises.2)

pub Rises-front : (first second : List Mark) → Rises (first ++ second) → Rises first
Rises-front first second rises = RisesFrom-front 1 first second rises

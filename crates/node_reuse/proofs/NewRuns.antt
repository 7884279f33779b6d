-- Runs of new lines: each needs one query.
use Rattle.std.proofs.Common.{◌≡◌, ℕ, zero, suc, ◌+◌, ◌-◌, ◌<◌, ◌≤◌, inl, inr, List, [], ◌∷◌, length, get_or, drop, refl, ap, sym, ◌∙◌, arith, drop-cons}
use Rattle.std.proofs.lemmas.Bool.{cases_lt}
use Rattle.std.proofs.lemmas.List.{drop-drop, length-drop}
use Rattle.mark_rules.specs.declared.Mark.{Mark}
use Rattle.mark_rules.specs.declared.Mark.TheVariants.{Kept, New}
use Rattle.mark_rules.specs.Marks.{mark_at, new_run}
use Rattle.reuse_rules.specs.Ways.{IsOneRun}
use Rattle.line_states.specs.Lines.{new_from, new_lines}
use Rattle.node_reuse.specs.Paying.{new_runs, runs_ahead}
use Rattle.node_reuse.proofs.OneRun.{none_behind, none_new}

-- ---- the lines of a run

within : (marks : List Mark) → new_run marks ≤ length marks
within [] = omega arith
within (New ∷ marks) = omega (arith, within marks)
within (Kept i ∷ marks) = omega arith

pub run_within : (marks : List Mark) (j : ℕ) → j < length marks → j + new_run (drop j marks) ≤ length marks
run_within marks j h = omega (arith, within (drop j marks), length-drop j marks)

mark_first : (marks : List Mark) (j : ℕ) → j < length marks → drop j marks ≡ mark_at (j + 1) marks ∷ drop (suc j) marks
mark_first marks j h =
    let at : j ≡ j + 1 - 1 = omega arith in
    drop-cons marks j New h ∙ ap (λ (n : ℕ). get_or marks n New ∷ drop (suc j) marks) at

pub starts_new : (marks : List Mark) (j : ℕ) → j < length marks → 0 < new_run (drop j marks) → mark_at (j + 1) marks ≡ New
starts_new marks j h some = of (mark_at (j + 1) marks) refl
  where
    of : (m : Mark) → mark_at (j + 1) marks ≡ m → mark_at (j + 1) marks ≡ New
    of New e = e
    of (Kept i) e =
        let none : new_run (drop j marks) ≡ 0 = ap new_run (mark_first marks j h ∙ ap (λ (m : Mark). m ∷ drop (suc j) marks) e) in
        absurd (omega arith)

pub starts_kept : (marks : List Mark) (j : ℕ) → j < length marks → new_run (drop j marks) ≡ 0 → (i : ℕ) × (mark_at (j + 1) marks ≡ Kept i)
starts_kept marks j h none = of (mark_at (j + 1) marks) refl
  where
    of : (m : Mark) → mark_at (j + 1) marks ≡ m → (i : ℕ) × (mark_at (j + 1) marks ≡ Kept i)
    of (Kept i) e = (i, e)
    of New e =
        let some : new_run (drop j marks) ≡ suc (new_run (drop (suc j) marks)) =
        ap new_run (mark_first marks j h ∙ ap (λ (m : Mark). m ∷ drop (suc j) marks) e) in
        absurd (omega arith)

rest_of : (k : ℕ) (marks : List Mark) → k ≤ new_run marks → new_run (drop k marks) + k ≡ new_run marks
rest_of zero marks h = omega arith
rest_of (suc k) [] h = absurd (omega arith)
rest_of (suc k) (New ∷ marks) h = omega (arith, rest_of k marks (omega arith))
rest_of (suc k) (Kept i ∷ marks) h = absurd (omega arith)

-- lines known to be new at a line are still known at a later one
pub still_told : (marks : List Mark) (j k told : ℕ) → j ≤ k → told ≤ j + new_run (drop j marks) → told ≤ k + new_run (drop k marks)
still_told marks j k told on h = elim (cases_lt told (suc k)) [
  | inl behind ↦ omega arith
  | inr more ↦
      let at : j + (k - j) ≡ k = omega arith in
      let here : new_run (drop (k - j) (drop j marks)) ≡ new_run (drop k marks) =
      ap new_run (drop-drop (k - j) j marks ∙ ap (λ (n : ℕ). drop n marks) at) in
      omega (arith, rest_of (k - j) (drop j marks) (omega arith), here)
]

-- ---- how many runs are ahead

runs_next : (mark : Mark) (marks : List Mark) → new_runs marks ≤ new_runs (mark ∷ marks)
runs_next (Kept i) marks = omega arith
runs_next New [] = omega arith
runs_next New (New ∷ marks) = omega arith
runs_next New (Kept i ∷ marks) = omega arith

runs_behind : (k : ℕ) (marks : List Mark) → new_runs (drop k marks) ≤ new_runs marks
runs_behind zero marks = omega arith
runs_behind (suc k) [] = omega arith
runs_behind (suc k) (mark ∷ marks) = omega (arith, runs_behind k marks, runs_next mark marks)

-- there are no more runs ahead from a later line, or with more lines known
pub runs_forward : (marks : List Mark) (j k told more : ℕ) → j ≤ k → told ≤ more → runs_ahead marks k more ≤ runs_ahead marks j told
runs_forward marks j k told more on known =
    let from = j + (told - j) in
    let to = k + (more - k) in
    let at : from + (to - from) ≡ to = omega arith in
    let same : new_runs (drop (to - from) (drop from marks)) ≡ new_runs (drop to marks) =
    ap new_runs (drop-drop (to - from) from marks ∙ ap (λ (n : ℕ). drop n marks) at) in
    omega (arith, runs_behind (to - from) (drop from marks), same)

run_passed : (marks : List Mark) → 0 < new_run marks → new_runs (drop (new_run marks) marks) + 1 ≡ new_runs marks
run_passed [] some = absurd (omega arith)
run_passed (Kept i ∷ marks) some = absurd (omega arith)
run_passed (New ∷ []) some = refl
run_passed (New ∷ New ∷ marks) some = run_passed (New ∷ marks) (omega arith)
run_passed (New ∷ Kept i ∷ marks) some = omega arith

-- when the run from a line on becomes known, one run fewer is ahead
pub run_asked : (marks : List Mark) (j told : ℕ) → told ≤ j → 0 < new_run (drop j marks)
    → runs_ahead marks j (j + new_run (drop j marks)) + 1 ≤ runs_ahead marks j told
run_asked marks j told known some =
    let run = new_run (drop j marks) in
    let from : j + (told - j) ≡ j = omega arith in
    let before : runs_ahead marks j told ≡ new_runs (drop j marks) = ap (λ (n : ℕ). new_runs (drop n marks)) from in
    let to : j + (j + run - j) ≡ j + run = omega arith in
    let after : runs_ahead marks j (j + run) ≡ new_runs (drop run (drop j marks)) =
    ap (λ (n : ℕ). new_runs (drop n marks)) to ∙ ap new_runs (sym (drop-drop run j marks)) in
    omega (arith, run_passed (drop j marks) some, before, after)

-- ---- one run

no_runs : (n : ℕ) (marks : List Mark) → new_from n marks ≡ [] → new_runs marks ≡ 0
no_runs n [] none = refl
no_runs n (New ∷ marks) none = absurd (none_behind n (new_from (suc n) marks) none)
no_runs n (Kept i ∷ marks) none = no_runs (suc n) marks none

one_from : (n : ℕ) (marks : List Mark) → IsOneRun (new_from n marks) → new_runs marks ≤ 1
one_from n [] one = omega arith
one_from n (Kept i ∷ marks) one = one_from (suc n) marks one
one_from n (New ∷ []) one = omega arith
one_from n (New ∷ New ∷ marks) one = one_from (suc n) (New ∷ marks) one.1
one_from n (New ∷ Kept i ∷ marks) one = omega (arith, no_runs (suc (suc n)) marks (none_new n marks one))

pub one_run : (marks : List Mark) → IsOneRun (new_lines marks) → new_runs marks ≤ 1
one_run marks one = one_from 1 marks one

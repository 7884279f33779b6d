-- The way through kept lines: within a run, after it, and its price if the new lines are one run.
use Rattle.std.proofs.Common.{◌≡◌, ℕ, zero, suc, ◌+◌, ◌-◌, ◌<◌, ◌≤◌, eqb, List, [], ◌∷◌, drop, refl, ap, sym, ◌∙◌, subst, arith, inl, inr}
use Rattle.std.proofs.lemmas.Bool.{cases_Bool, eqb-true, ne_eqb, eq-eqb}
use Rattle.text_lengths.specs.Length.{length_of, no_length}
use Rattle.bracket_tree_rules.specs.Tree.{Tree}
use Rattle.mark_rules.specs.declared.Mark.{Mark}
use Rattle.mark_rules.specs.declared.Mark.TheVariants.{Kept, New}
use Rattle.mark_rules.specs.Marks.{numbered, kept_run, Rises}
use Rattle.reuse_rules.specs.Prices.{Costs, price}
use Rattle.reuse_rules.specs.Ways.{runs_price, lines_price}

module _ (c : Costs) (old : Tree) where
  -- ---- in a run, and behind it

  goes_on_in : (i : ℕ) (marks : List Mark) → runs_price c old i (Kept i ∷ marks) ≡ runs_price c old (suc i) marks
  goes_on_in i marks = rw (eq-eqb i i refl) (omega arith)

  -- lines of the run later the way to its end is the rest of the same one
  pub price_in_run : (k i column : ℕ) (marks : List Mark) → 1 ≤ i → k < kept_run (Kept i ∷ marks)
      → lines_price c old column (drop k (Kept i ∷ marks))
      ≡ price c (length_of (i - 1 + k) column) (length_of (i - 1 + kept_run (Kept i ∷ marks)) 0) no_length old + runs_price c old (suc i) marks
  price_in_run zero i column marks some h =
      let at : i - 1 ≡ i - 1 + 0 = omega arith in
      ap (λ (n : ℕ). price c (length_of n column) (length_of (i - 1 + kept_run (Kept i ∷ marks)) 0) no_length old + runs_price c old (suc i) marks) at
  price_in_run (suc k) i column [] some h = absurd (omega arith)
  price_in_run (suc k) i column (New ∷ marks) some h = absurd (omega arith)
  price_in_run (suc k) i column (Kept j ∷ marks) some h =
      elim (cases_Bool (eqb j (suc i))) [
        | inl e ↦
            let next : j ≡ suc i = eqb-true j (suc i) e in
            subst (λ (n : ℕ). suc k < kept_run (Kept i ∷ Kept n ∷ marks) → lines_price c old column (drop (suc k) (Kept i ∷ Kept n ∷ marks))
            ≡ price c (length_of (i - 1 + suc k) column) (length_of (i - 1 + kept_run (Kept i ∷ Kept n ∷ marks)) 0) no_length old
            + runs_price c old (suc i) (Kept n ∷ marks)) (sym next) (here (λ shorter. price_in_run k (suc i) column marks (omega arith) shorter)) h
        | inr e ↦ absurd (let none : numbered (suc i) (Kept j ∷ marks) ≡ 0 = rw e refl in omega (arith, h, none))
      ]
    where
      here : (k < kept_run (Kept (suc i) ∷ marks) → lines_price c old column (drop k (Kept (suc i) ∷ marks))
          ≡ price c (length_of (suc i - 1 + k) column) (length_of (suc i - 1 + kept_run (Kept (suc i) ∷ marks)) 0) no_length old + runs_price c old (suc (suc i)) marks)
          → suc k < kept_run (Kept i ∷ Kept (suc i) ∷ marks) → lines_price c old column (drop (suc k) (Kept i ∷ Kept (suc i) ∷ marks))
          ≡ price c (length_of (i - 1 + suc k) column) (length_of (i - 1 + kept_run (Kept i ∷ Kept (suc i) ∷ marks)) 0) no_length old
          + runs_price c old (suc i) (Kept (suc i) ∷ marks)
      here later h =
          let longer : numbered (suc i) (Kept (suc i) ∷ marks) ≡ suc (numbered (suc (suc i)) marks) = rw (eq-eqb (suc i) (suc i) refl) refl in
          let from : suc i - 1 + k ≡ i - 1 + suc k = omega arith in
          let to : suc i - 1 + kept_run (Kept (suc i) ∷ marks) ≡ i - 1 + kept_run (Kept i ∷ Kept (suc i) ∷ marks) = omega arith in
          later (omega arith)
          ∙ ap (λ (n : ℕ). price c (length_of n column) (length_of (suc i - 1 + kept_run (Kept (suc i) ∷ marks)) 0) no_length old + runs_price c old (suc (suc i)) marks) from
          ∙ ap (λ (n : ℕ). price c (length_of (i - 1 + suc k) column) (length_of n 0) no_length old + runs_price c old (suc (suc i)) marks) to
          ∙ ap (λ (n : ℕ). price c (length_of (i - 1 + suc k) column) (length_of (i - 1 + kept_run (Kept i ∷ Kept (suc i) ∷ marks)) 0) no_length old + n)
          (sym (goes_on_in (suc i) marks))

  behind : (next : ℕ) (marks : List Mark) → lines_price c old 0 (drop (numbered next marks) marks) ≤ runs_price c old next marks
  behind next [] = omega arith
  behind next (New ∷ marks) = omega arith
  behind next (Kept i ∷ marks) =
      elim (cases_Bool (eqb i next)) [
        | inl e ↦
            let same : i ≡ next = eqb-true i next e in
            subst (λ (n : ℕ). lines_price c old 0 (drop (numbered n (Kept i ∷ marks)) (Kept i ∷ marks)) ≤ runs_price c old n (Kept i ∷ marks)) same (on (behind (suc i) marks))
        | inr e ↦ rw e (omega arith)
      ]
    where
      on : lines_price c old 0 (drop (numbered (suc i) marks) marks) ≤ runs_price c old (suc i) marks → lines_price c old 0 (drop (numbered i (Kept i ∷ marks)) (Kept i ∷ marks)) ≤ runs_price c old i (Kept i ∷ marks)
      on later = rw (eq-eqb i i refl) (omega (arith, later))

  -- after the last line of the run only the later runs are left
  pub price_behind_run : (i : ℕ) (marks : List Mark) → lines_price c old 0 (drop (kept_run (Kept i ∷ marks)) (Kept i ∷ marks)) ≤ runs_price c old (suc i) marks
  price_behind_run i marks = behind (suc i) marks

  -- at the start of a line
  pub price_at_start : (marks : List Mark) → Rises marks → lines_price c old 0 marks ≡ runs_price c old 0 marks
  price_at_start [] rises = refl
  price_at_start (New ∷ marks) rises = refl
  price_at_start (Kept i ∷ marks) rises =
      let some : 1 ≤ i = rises.0 in
      rw (ne_eqb i 0 (λ e. absurd (omega arith))) refl

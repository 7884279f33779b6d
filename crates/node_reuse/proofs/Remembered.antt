-- The marks of kept lines that follow one another.
use Rattle.std.proofs.Common.{◌≡◌, ℕ, zero, suc, ◌+◌, ◌-◌, ◌<◌, inl, inr, List, [], ◌∷◌, drop, sym, ◌∙◌, ap, subst, arith}
use Rattle.std.specs.Prelude.{slice_index_or, if◌then◌else◌}
use Rattle.std.proofs.lemmas.Bool.{cases_eq, eq-eqb, ne_eqb}
use Rattle.std.proofs.lemmas.List.{get_or-drop, drop-drop}
use Rattle.mark_rules.specs.declared.Mark.{Mark}
use Rattle.mark_rules.specs.declared.Mark.TheVariants.{Kept, New}
use Rattle.mark_rules.specs.Marks.{mark_at, kept_run, numbered}
use Rattle.node_reuse.proofs.OldPlaces.{number_of}

-- line `past` of a run of kept lines that begins with this number
record IsLater (marks : List Mark) (number past : ℕ) : Type 0 where
  pub mark : slice_index_or marks past New ≡ Kept (number + past)
  pub run : kept_run (drop past marks) + past ≡ kept_run marks

first-later : (number past : ℕ) (marks : List Mark) → past < kept_run (Kept number ∷ marks) → IsLater (Kept number ∷ marks) number past
first-later number zero marks less = record { mark = ap Kept (omega arith); run = omega arith }
first-later number (suc past) [] less = absurd (omega (arith, less))
first-later number (suc past) (New ∷ marks) less = absurd (omega (arith, less))
first-later number (suc past) (Kept i ∷ marks) less = elim (cases_eq i (suc number)) [
  | inl same ↦
      let run : kept_run (Kept number ∷ Kept i ∷ marks) ≡ suc (kept_run (Kept i ∷ marks)) =
      ap (λ b. suc (if b then suc (numbered (suc (suc number)) marks) else 0)) (eq-eqb i (suc number) same)
      ∙ ap (λ n. suc (suc (numbered (suc n) marks))) (sym same) in
      let next = first-later i past marks (omega (arith, less, run)) in
      record { mark = next.mark ∙ ap Kept (omega (arith, same)); run = omega (arith, run, next.run) }
  | inr other ↦
      let none : kept_run (Kept number ∷ Kept i ∷ marks) ≡ 1 =
      ap (λ b. suc (if b then suc (numbered (suc (suc number)) marks) else 0)) (ne_eqb i (suc number) other) in
      absurd (omega (arith, less, none))
]

later : (k number past : ℕ) (marks : List Mark) → slice_index_or marks k New ≡ Kept number → past < kept_run (drop k marks)
    → IsLater (drop k marks) number past
later zero number past [] at less = absurd (omega (arith, less))
later (suc k) number past [] at less = absurd (omega (arith, less))
later zero number past (New ∷ marks) at less = absurd (omega (arith, less))
later zero number past (Kept i ∷ marks) at less =
    subst (λ n. IsLater (Kept i ∷ marks) n past) (ap number_of at) (first-later i past marks less)
later (suc k) number past (mark ∷ marks) at less = later k number past marks at less

module _ (marks : List Mark) (line to number past : ℕ) (at : mark_at (line + 1) marks ≡ Kept number) (is : to ≡ line + past)
    (less : past < kept_run (drop line marks)) where
  later_here : IsLater (drop line marks) number past
  later_here =
      let same : line ≡ line + 1 - 1 = omega arith in
      later line number past marks (ap (λ k. slice_index_or marks k New) same ∙ at) less

  pub later_mark : Kept (number + past) ≡ mark_at (to + 1) marks
  later_mark =
      let same : line + past ≡ to + 1 - 1 = omega (arith, is) in
      sym later_here.mark ∙ get_or-drop line marks past New ∙ ap (λ k. slice_index_or marks k New) same

  pub later_run : kept_run (drop line marks) - past ≡ kept_run (drop to marks)
  later_run =
      let rest : drop past (drop line marks) ≡ drop to marks = drop-drop past line marks ∙ ap (λ k. drop k marks) (sym is) in
      omega (arith, later_here.run, ap kept_run rest)

-- What contracts see of a stack.
use Rattle.std.specs.Prelude.{ℕ, Bool, List, Option, refl}
use Rattle.std.specs.Coded.{Coded, code_by, coded×, coded_list, coded_ℕ, coded_bool, coded_option}
use Rattle.undo_rules.specs.declared.Tag.{Tag}
use Rattle.undo_rules.specs.Stack.{Step, Stack}

pub record Shown (C : Type 0) : Type 0 where
  pub stack : Stack C
  -- the number of pushes for which there is room
  pub spare : ℕ

abbrev pub tag_code : Coded Tag
tag_code = code_by (ℕ × (ℕ × ℕ)) (coded× coded_ℕ (coded× coded_ℕ coded_ℕ))
    (λ t. (t.least, (t.version, t.members))) (λ p. record { least = p.0; version = p.1.0; members = p.1.1 }) (λ _. refl)

abbrev pub step_code : {C : Type 0} → Coded C → Coded (Step C)
step_code {C} code =
    code_by (List C × (ℕ × (ℕ × Option Tag))) (coded× (coded_list code) (coded× coded_ℕ (coded× coded_ℕ (coded_option tag_code))))
    (λ s. (s.changes, (s.alt_before, (s.alt_after, s.tag))))
    (λ p. record { changes = p.0; alt_before = p.1.0; alt_after = p.1.1.0; tag = p.1.1.1 }) (λ _. refl)

abbrev pub stack_code : {C : Type 0} → Coded C → Coded (Stack C)
stack_code {C} code =
    let steps = coded_list (step_code code) in code_by (List (Step C) × (List (Step C) × Bool)) (coded× steps (coded× steps coded_bool))
    (λ s. (s.undo, (s.redo, s.is_open))) (λ p. record { undo = p.0; redo = p.1.0; is_open = p.1.1 }) (λ _. refl)

abbrev pub shown_code : {C : Type 0} → Coded C → Coded (Shown C)
shown_code {C} code = code_by (Stack C × ℕ) (coded× (stack_code code) coded_ℕ)
    (λ s. (s.stack, s.spare)) (λ p. record { stack = p.0; spare = p.1 }) (λ _. refl)

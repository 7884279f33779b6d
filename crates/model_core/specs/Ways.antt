-- The two ways to carry out steps: an undo goes back, a redo goes on.
use Rattle.std.specs.Prelude.{ℕ, List, Option, Result}
use Rattle.undo_rules.specs.Stack.{Step, Stack, undone, redone}
use Rattle.document_rules.specs.Refusals.{FlatRefusal}
use Rattle.document_rules.specs.Document.{FlatState, flat_undo, flat_redo}
use Rattle.model_page.specs.declared.change.Way.{Way}
use Rattle.model_page.specs.declared.change.Way.TheVariants.{Back, On}

-- the steps on this way, the next one first
abbrev pub next_steps : {C : Type 0} → Way → Stack C → List (Step C)
next_steps Back s = s.undo
next_steps On s = s.redo

-- the lists after the next step was carried out
abbrev pub passed : {C : Type 0} → Way → Stack C → Stack C
passed Back s = undone s
passed On s = redone s

-- the alternative version after the step
abbrev pub alternative_after : {C : Type 0} → Way → Step C → ℕ
alternative_after Back step = step.alt_before
alternative_after On step = step.alt_after

abbrev pub flat_move : Way → FlatState → Result (Option FlatState) FlatRefusal
flat_move Back f = flat_undo f
flat_move On f = flat_redo f

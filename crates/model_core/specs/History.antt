-- The changes that the model keeps, and the whole texts before and after them.
use Rattle.std.specs.Prelude.{ℕ, ◌≡◌, ◌<◌, Bool, true, false, if◌then◌else◌, List, [], ◌∷◌, length, Option, Some, None, option_map, ⊤}
use Rattle.text_rules.specs.declared.Op.{Op}
use Rattle.undo_rules.specs.Stack.{Step, Stack, pushed, stopped}
use Rattle.document_rules.specs.Document.{FlatText, FlatChange, LastChange}
use Rattle.model_page.specs.declared.change.Change.{Change}
use Rattle.model_page.specs.declared.change.Change.TheVariants.{Ops, Endings}
use Rattle.model_page.specs.declared.change.Way.{Way}
use Rattle.model_page.specs.declared.change.Way.TheVariants.{Back, On}
use Rattle.model_page.specs.Changes.{ops_by, led, text_back, text_on, changes_back, changes_on, LeadBack, LeadOn}
use Rattle.model_page.specs.Ways.{batches_by}
use Rattle.model_page.specs.InTurn.{edits_along, all_edits_along}
use Rattle.model_core.specs.declared.latest.Latest.{Latest}
use Rattle.model_core.specs.declared.latest.Latest.TheVariants.{Made, TakenBack, MadeAgain}

-- the step with these changes instead of its own
abbrev pub step_with : Step Change → List FlatChange → Step FlatChange
step_with s changes = record { changes = changes; alt_before = s.alt_before; alt_after = s.alt_after; tag = s.tag }

-- the undo steps of the present text
abbrev pub undo_steps : FlatText → List (Step Change) → List (Step FlatChange)
undo_steps now [] = []
undo_steps now (s ∷ ss) =
    step_with s (changes_back now s.changes) ∷ undo_steps (text_back now s.changes) ss

-- the redo steps of the present text
abbrev pub redo_steps : FlatText → List (Step Change) → List (Step FlatChange)
redo_steps now [] = []
redo_steps now (s ∷ ss) =
    step_with s (changes_on now s.changes) ∷ redo_steps (text_on now s.changes) ss

abbrev pub history_of : FlatText → Stack Change → Stack FlatChange
history_of now s = record { undo = undo_steps now s.undo; redo = redo_steps now s.redo; is_open = s.is_open }

abbrev pub StepsLeadBack : FlatText → List (Step Change) → Type 0
StepsLeadBack now [] = ⊤
StepsLeadBack now (s ∷ ss) = LeadBack now s.changes × StepsLeadBack (text_back now s.changes) ss

abbrev pub StepsLeadOn : FlatText → List (Step Change) → Type 0
StepsLeadOn now [] = ⊤
StepsLeadOn now (s ∷ ss) = LeadOn now s.changes × StepsLeadOn (text_on now s.changes) ss

-- the kept changes lead from the present text to earlier and later ones
pub record IsHistory (now : FlatText) (s : Stack Change) : Type 0 where
  pub back : StepsLeadBack now s.undo
  pub on : StepsLeadOn now s.redo

-- a change of line endings is its own step
abbrev pub is_alone : Change → Bool
is_alone (Ops ops inverse) = false
is_alone (Endings r) = true

-- the lists after a change, with the alternative versions before and after it
abbrev pub kept_with : Stack Change → Change → ℕ → ℕ → Stack Change
kept_with s change before after =
    if is_alone change then stopped (pushed (stopped s) change before after) else pushed s change before after

-- ---- the last change

-- the kind of a change that goes this way
abbrev pub latest_along : Way → Latest
latest_along Back = TakenBack
latest_along On = MadeAgain

-- the way on which the step of this change is the next one
abbrev pub way_to : Latest → Way
way_to Made = Back
way_to TakenBack = On
way_to MadeAgain = Back

-- the last of the changes, which led to the present text
abbrev pub last_made : FlatText → List Change → Option LastChange
last_made now [] = None
last_made now (c ∷ []) = Some (record { before = (led Back c now).units; batches = ops_by On c ∷ []; edits = edits_along On c })
last_made now (c ∷ d ∷ cs) = last_made now (d ∷ cs)

abbrev pub last_in : Latest → FlatText → List Change → Option LastChange
last_in Made now cs = last_made now cs
last_in TakenBack now cs = Some (record { before = (text_on now cs).units; batches = batches_by Back cs; edits = all_edits_along Back cs })
last_in MadeAgain now cs = Some (record { before = (text_back now cs).units; batches = batches_by On cs; edits = all_edits_along On cs })

-- the list that begins with the step of this change
abbrev pub latest_steps : {C : Type 0} → Latest → Stack C → List (Step C)
latest_steps Made s = s.undo
latest_steps TakenBack s = s.redo
latest_steps MadeAgain s = s.undo

abbrev pub last_of_steps : Latest → FlatText → List (Step Change) → Option LastChange
last_of_steps latest now [] = None
last_of_steps latest now (s ∷ ss) = last_in latest now s.changes

-- the last change, if there was one
abbrev pub last_of : Option Latest → FlatText → Stack Change → Option LastChange
last_of None now s = None
last_of (Some latest) now s = last_of_steps latest now (latest_steps latest s)

-- the batches of the last change, if there was one
abbrev pub last_batches : Option LastChange → Option (List (List Op))
last_batches last = option_map (λ (it : LastChange). it.batches) last

-- version 1 is before any change; later the step of the last change is in its list
abbrev pub HasLatest : Option Latest → ℕ → Stack Change → Type 0
HasLatest None version s = version ≡ 1
HasLatest (Some latest) version s = (1 < version) × (0 < length (latest_steps latest s))

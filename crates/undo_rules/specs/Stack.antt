-- The undo and redo lists of an editor, as in VS Code's edit stack: changes without a stop between them form one step,
-- and a new change empties the redo list.
use Rattle.std.specs.Prelude.{ℕ, Bool, true, false, List, [], ◌∷◌, ◌++◌, Option, None}
use Rattle.undo_rules.specs.declared.Tag.{Tag}

-- one step of undo, over any type of change
pub record Step (C : Type 0) : Type 0 where
  pub changes : List C
  -- the alternative version before its first change, and after its last
  pub alt_before : ℕ
  pub alt_after : ℕ
  -- the tag, if steps of other documents were made at once with this step
  pub tag : Option Tag

-- the first step of each list is the next one to undo or to redo
pub record Stack (C : Type 0) : Type 0 where
  pub undo : List (Step C)
  pub redo : List (Step C)
  -- whether the next change joins the first step of the undo list
  pub is_open : Bool

module _ {C : Type 0} where
  abbrev pub empty_stack : Stack C
  empty_stack = record { undo = []; redo = []; is_open = false }

  abbrev pub new_step : C → ℕ → ℕ → Step C
  new_step change alt_before alt_after =
      record { changes = change ∷ []; alt_before = alt_before; alt_after = alt_after; tag = None }

  -- appends the change to the first step if the list is open and not empty; else the change begins a new step
  abbrev pub joined : Bool → List (Step C) → C → ℕ → ℕ → List (Step C)
  joined true (step ∷ steps) change alt_before alt_after =
      record step { changes = step.changes ++ change ∷ []; alt_after = alt_after } ∷ steps
  joined true [] change alt_before alt_after = new_step change alt_before alt_after ∷ []
  joined false steps change alt_before alt_after = new_step change alt_before alt_after ∷ steps

  abbrev pub pushed : Stack C → C → ℕ → ℕ → Stack C
  pushed s change alt_before alt_after =
      record { undo = joined s.is_open s.undo change alt_before alt_after; redo = []; is_open = true }

  abbrev pub stopped : Stack C → Stack C
  stopped s = record s { is_open = false }

  -- moves the first undo step, if there is one, to the front of the redo list
  abbrev pub undone_lists : List (Step C) → List (Step C) → Stack C
  undone_lists [] redo = record { undo = []; redo = redo; is_open = false }
  undone_lists (step ∷ steps) redo = record { undo = steps; redo = step ∷ redo; is_open = false }

  abbrev pub undone : Stack C → Stack C
  undone s = undone_lists s.undo s.redo

  abbrev pub redone_lists : List (Step C) → List (Step C) → Bool → Stack C
  redone_lists undo [] is_open = record { undo = undo; redo = []; is_open = is_open }
  redone_lists undo (step ∷ steps) is_open = record { undo = step ∷ undo; redo = steps; is_open = is_open }

  abbrev pub redone : Stack C → Stack C
  redone s = redone_lists s.undo s.redo s.is_open

-- What contracts see of a model.
use Rattle.std.specs.Prelude.{◌≡◌, ℕ, ◌<◌, ◌≤◌, Bool, true, false, List, length, Option, Result, Ok, Err, OnOk, OnErr, ⊤}
use Rattle.text_buffer.specs.Room as text_room
use Rattle.bracket_tree_rules.specs.Tree.{Tree}
use Rattle.mark_rules.specs.declared.Mark.{Mark}
use Rattle.mark_rules.specs.Marks.{clean_marks}
use Rattle.line_states.specs.Settling.{Borders}
use Rattle.document_rules.specs.declared.ModelError.{ModelError}
use Rattle.document_rules.specs.Document.{FlatState}
use Rattle.text_batches.specs.Growth.{GrownBy}
use Rattle.model_page.specs.Asked.{ReadTree, AreStatesOf, HasRead, KeptBy, HasLowTree}

-- the reserved room for changes
pub record Room : Type 0 where
  -- for edits of the text, and the number of edits of the marks of its lines
  pub text : text_room.Room
  pub marks : ℕ
  -- the number of further changes that can be kept for undo
  pub changes : ℕ

-- there is at least the old room
pub record KeepsRoom (old new : Room) : Type 0 where
  pub text : text_room.KeepsRoom old.text new.text
  pub marks : old.marks ≤ new.marks
  pub changes : 0 < old.changes → 0 < new.changes

pub record ModelState : Type 0 where
  -- the flat document that the model represents
  pub document : FlatState
  -- the last parse, of the present text or an earlier one: its tree, and the lines that were read for it
  pub parsed : Option ReadTree
  -- its bracket tree
  pub tree : Option Tree
  -- a mark for each line of the present text: a line of that parse, or new
  pub marks : List Mark
  -- the states in which the lines of that parse began
  pub states : Borders
  -- whether that tree is of the present text
  pub fresh : Bool
  -- the number of pieces of the text
  pub pieces : ℕ
  -- the number of units in its buffers
  pub held : ℕ
  -- whether they hold too much since memory was short or a snapshot was open at the last change
  pub overfull : Bool
  -- changes that need no allocation
  pub room : Room

-- the last parse and the pieces after `edits` edits, by ops of which `marking` mark lines; `marked` are the new marks
pub record Leaves (edits marking : ℕ) (marked : List Mark) (old new : ModelState) : Type 0 where
  pub parsed : new.parsed ≡ old.parsed
  pub tree : new.tree ≡ old.tree
  pub states : new.states ≡ old.states
  pub marks : new.marks ≡ marked
  pub fresh : KeptBy marking old.fresh new.fresh
  pub pieces : GrownBy edits old.pieces new.pieces

-- the last parse, the marks, the pieces and the units in the buffers are unchanged, and there is at least the old room
pub record KeepsParse (old new : ModelState) : Type 0 where
  pub parsed : new.parsed ≡ old.parsed
  pub tree : new.tree ≡ old.tree
  pub marks : new.marks ≡ old.marks
  pub states : new.states ≡ old.states
  pub fresh : new.fresh ≡ old.fresh
  pub pieces : new.pieces ≡ old.pieces
  pub held : new.held ≡ old.held
  pub overfull : new.overfull ≡ old.overfull
  pub room : KeepsRoom old.room new.room

-- `left` holds if the call succeeded; after an error the last parse and the pieces are unchanged, and there is at least the old room
abbrev pub AfterCall : Result ⊤ ModelError → (ModelState → ModelState → Type 0) → ModelState → ModelState → Type 0
AfterCall (Ok x) left old new = left old new
AfterCall (Err e) left old new = KeepsParse old new

-- `AfterCall` for a call that may have nothing to do
abbrev pub AfterMove : Result Bool ModelError → (ModelState → ModelState → Type 0) → ModelState → ModelState → Type 0
AfterMove (Ok true) left old new = left old new
AfterMove (Ok false) left old new = KeepsParse old new
AfterMove (Err e) left old new = KeepsParse old new

-- The model after a question about brackets. The text is parsed unless the last parse is of the present text. Only lines that are new or
-- begin in another state are read. On an error all is unchanged. There is at least the old room.
pub record Renews {A : Type 0} (result : Result A ModelError) (old new : ModelState) : Type 0 where
  pub document : new.document ≡ old.document
  pub pieces : new.pieces ≡ old.pieces
  pub room : KeepsRoom old.room new.room
  pub same : old.fresh ≡ true → new.parsed ≡ old.parsed
  pub same_tree : old.fresh ≡ true → new.tree ≡ old.tree
  pub same_marks : old.fresh ≡ true → new.marks ≡ old.marks
  pub same_states : old.fresh ≡ true → new.states ≡ old.states
  pub read : old.fresh ≡ false → OnOk result (HasRead new.parsed old.states old.marks old.document.scanner old.document.units)
  pub begun : old.fresh ≡ false → OnOk result (AreStatesOf old.document.scanner old.document.units new.states)
  pub low : OnOk result (HasLowTree new.tree old.document.units)
  pub lines : OnOk result (new.marks ≡ clean_marks (length old.marks))
  pub fresh : OnOk result (new.fresh ≡ true)
  pub parsed : OnErr result (new.parsed ≡ old.parsed)
  pub tree : OnErr result (new.tree ≡ old.tree)
  pub marks : OnErr result (new.marks ≡ old.marks)
  pub states : OnErr result (new.states ≡ old.states)
  pub kept : OnErr result (new.fresh ≡ old.fresh)

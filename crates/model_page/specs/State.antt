-- What contracts see of a page: its state, the preconditions of its calls, and the page after them.
use Rattle.std.specs.Prelude.{◌≡◌, ℕ, ◌+◌, ◌≤◌, Bool, true, false, List, length, replicate, Option, None, is_some, Result, OnOk, OnErr, ◌<◌, ◌*◌}
use Rattle.unit_text.specs.declared.kind.Kind.{Kind}
use Rattle.unit_text.specs.Kinds.{IsOfKind}
use Rattle.text_rules.specs.declared.Op.{Op}
use Rattle.text_rules.specs.Lines.{lines_of}
use Rattle.batch_rules.specs.Batches.{most_units, applied_from, StandFrom, KeepsKind}
use Rattle.hiding_rules.specs.Hidden.{Scanner}
use Rattle.line_states.specs.Settling.{Borders}
use Rattle.bracket_tree_rules.specs.Tree.{Tree}
use Rattle.chunk_buffers.specs.Chunks.{Extends, unit_count}
use Rattle.decoration_rules.specs.declared.NewDeco.{NewDeco}
use Rattle.decoration_rules.specs.Refusals.{DecoRefusal}
use Rattle.decoration_rules.specs.Decorations.{Decorations, decorated, no_decorations}
use Rattle.document_rules.specs.Document.{FlatText}
use Rattle.mark_rules.specs.declared.Mark.{Mark}
use Rattle.mark_rules.specs.declared.Mark.TheVariants.{New}
use Rattle.mark_rules.specs.Marks.{clean_marks}
use Rattle.text_buffer.specs.Text.{Text}
use Rattle.text_buffer.specs.Room as text_room
use Rattle.text_buffer.specs.Room.{part_count}
use Rattle.text_buffer.specs.declared.room.Need.{Need}
use Rattle.text_batches.specs.Needs.{need_of_ops}
use Rattle.model_page.specs.declared.change.Change.{Change}
use Rattle.model_page.specs.declared.change.Change.TheVariants.{Ops, Endings}
use Rattle.model_page.specs.declared.change.Way.{Way}
use Rattle.model_page.specs.Changes.{ops_by, text_from}
use Rattle.model_page.specs.Carrying.{AreIn}
use Rattle.model_page.specs.Needs.{need_along, most_appended}
use Rattle.model_page.specs.Asked.{ReadTree, AreStatesOf, HasRead, HasLowTree}
use Rattle.model_page.specs.Staying.{fresh_tree, StaysWith}
use Rattle.model_page.specs.Ways.{LeadBy}

pub record PageState : Type 0 where
  pub text : Text
  pub decorations : Decorations
  -- its brackets, and the marks that hide some of them
  pub scanner : Scanner
  -- the last parse, of the present text or an earlier one, with the lines that were read for it
  pub parsed : Option ReadTree
  -- its bracket tree
  pub tree : Option Tree
  -- a mark for each line of the present text: a line of that parse, or new
  pub marks : List Mark
  -- the states in which the lines of that parse began
  pub states : Borders
  -- the number of further edits of the marks that need no allocation
  pub spare : ℕ

-- the text as a flat document has it
abbrev pub flat_text : Text → FlatText
flat_text text = record { units = text.units; kind = text.kind }

-- the invariant of a page
pub record IsPage (page : PageState) : Type 0 where
  -- all line endings are of the text's kind
  pub endings : IsOfKind page.text.kind page.text.units
  pub fits : length page.text.units ≤ most_units
  pub inside : AreIn (length page.text.units) page.decorations
  pub stays : StaysWith page.tree page.marks page.states page.scanner page.text.units

-- whether the last parse is of the present text
abbrev pub is_fresh : PageState → Bool
is_fresh page = is_some (fresh_tree page.tree page.marks)

-- its decorations after some of an owner were removed and others added
abbrev pub decorated_on : PageState → ℕ → List ℕ → List NewDeco → Result Decorations DecoRefusal
decorated_on page owner remove add = decorated page.decorations owner remove add page.text.kind page.text.units

-- a page of these units and this kind, with these brackets, no decorations and no parse
pub record IsNew (x : List ℕ) (endings : Kind) (by : Scanner) (page : PageState) : Type 0 where
  pub units : page.text.units ≡ x
  pub kind : page.text.kind ≡ endings
  pub pieces : length page.text.spans < 2 * part_count x
  pub decorations : page.decorations ≡ no_decorations
  pub scanner : page.scanner ≡ by
  pub parsed : page.parsed ≡ None
  pub tree : page.tree ≡ None
  pub marks : page.marks ≡ replicate (length (lines_of x)) New

-- ---- the room

-- there is room for these edits of the text, and of the marks of its lines
pub record HasRoom (page : PageState) (need : Need) : Type 0 where
  pub text : text_room.IsEnough page.text.room need
  pub marks : need.edits ≤ page.spare

-- there is at least the old room
pub record KeepsRoom (old new : PageState) : Type 0 where
  pub text : text_room.KeepsRoom old.text.room new.text.room
  pub marks : old.spare ≤ new.spare

-- these edits were taken from the room, and no more; what they append to the buffers is limited
pub record HasSpent (need : Need) (old new : PageState) : Type 0 where
  pub text : text_room.HasSpent need old.text.room new.text.room
  pub marks : old.spare ≤ new.spare + need.edits
  pub appended : unit_count new.text.buffers ≤ unit_count old.text.buffers + most_appended need

-- ---- the page after a call

-- the last parse and its brackets are unchanged
pub record KeepsParse (old new : PageState) : Type 0 where
  pub scanner : new.scanner ≡ old.scanner
  pub parsed : new.parsed ≡ old.parsed
  pub tree : new.tree ≡ old.tree
  pub states : new.states ≡ old.states

-- everything but the room is unchanged, and nothing is appended to the buffers
pub record IsUntouched (old new : PageState) : Type 0 where
  pub units : new.text.units ≡ old.text.units
  pub kind : new.text.kind ≡ old.text.kind
  pub spans : new.text.spans ≡ old.text.spans
  pub buffers : Extends old.text.buffers new.text.buffers
  pub held : unit_count new.text.buffers ≡ unit_count old.text.buffers
  pub decorations : new.decorations ≡ old.decorations
  pub marks : new.marks ≡ old.marks
  pub parse : KeepsParse old new

-- ---- preconditions

-- The ops are in order and within the text, the text after them is not too long, there is room for them, and the text keeps its kind after
-- each of them.
pub record CanApply (page : PageState) (ops : List Op) : Type 0 where
  pub standing : StandFrom 0 page.text.units ops
  pub fits : length (applied_from 0 page.text.units ops) ≤ most_units
  pub keeps : KeepsKind page.text.kind page.text.units ops
  pub room : HasRoom page (need_of_ops ops)

-- the change can be carried out this way, and there is room for it
abbrev pub CanFollow : Way → PageState → Change → Type 0
CanFollow way page (Ops ops inverse) = CanApply page (ops_by way (Ops ops inverse))
CanFollow way page (Endings r) = (text_from way r ≡ flat_text page.text) × HasRoom page (need_of_ops (ops_by way (Endings r)))

-- the changes can be carried out this way, and there is room for them
pub record CanLead (way : Way) (page : PageState) (cs : List Change) : Type 0 where
  pub lead : LeadBy way (flat_text page.text) cs
  pub room : HasRoom page (need_along way cs)

-- ---- a parse

-- The last parse is of the present text, and each line has its mark of that parse. The text is parsed only if it was not so before, and
-- only lines that are new or begin in another state are read. The call fails only then, and leaves everything unchanged. There is at least
-- the old room.
pub record Renews {A E : Type 0} (result : Result A E) (old new : PageState) : Type 0 where
  pub text : new.text ≡ old.text
  pub decorations : new.decorations ≡ old.decorations
  pub scanner : new.scanner ≡ old.scanner
  pub room : old.spare ≤ new.spare
  pub same : is_fresh old ≡ true → new.parsed ≡ old.parsed
  pub same_tree : is_fresh old ≡ true → new.tree ≡ old.tree
  pub same_marks : is_fresh old ≡ true → new.marks ≡ old.marks
  pub same_states : is_fresh old ≡ true → new.states ≡ old.states
  pub read : is_fresh old ≡ false → OnOk result (HasRead new.parsed old.states old.marks old.scanner old.text.units)
  pub begun : is_fresh old ≡ false → OnOk result (AreStatesOf old.scanner old.text.units new.states)
  pub low : OnOk result (HasLowTree new.tree old.text.units)
  pub lines : OnOk result (new.marks ≡ clean_marks (length old.marks))
  pub fresh : OnOk result (is_fresh new ≡ true)
  pub parsed : OnErr result (new.parsed ≡ old.parsed)
  pub tree : OnErr result (new.tree ≡ old.tree)
  pub marks : OnErr result (new.marks ≡ old.marks)
  pub states : OnErr result (new.states ≡ old.states)

-- The flat document: one list of units and one of decorations, changed by the rule of each call. The undo history keeps
-- whole texts.
use Rattle.std.specs.Prelude.{ℕ, ◌+◌, ◌-◌, ◌||◌, Bool, true, false, nat_lt, nat_le, if◌then◌else◌, List, [], ◌∷◌, ◌++◌, length, map, take, drop, Option, Some, None, option_map, Result, Ok, Err}
use Rattle.text_lengths.specs.declared.Position.{Position}
use Rattle.text_lengths.specs.declared.Span.{Span}
use Rattle.text_lengths.specs.declared.TheConstants.{GREATEST_NUMBER}
use Rattle.unit_text.specs.declared.kind.Kind.{Kind}
use Rattle.unit_text.specs.declared.kind.Kind.TheVariants.{Mixed, Lf, Crlf}
use Rattle.unit_text.specs.Kinds.{normalized, is_place_in}
use Rattle.text_rules.specs.Positions.{position_of, offset_of, is_position}
use Rattle.text_rules.specs.declared.Op.{Op}
use Rattle.text_rules.specs.Lines.{Line, line_at, lines_of}
use Rattle.text_rules.specs.Edits.{is_bad_span}
use Rattle.batch_rules.specs.Refusals.{BatchRefusal}
use Rattle.batch_rules.specs.Refusals as refused
use Rattle.batch_rules.specs.Batches.{most_units, checked_batch, applied_from, inverse_from}
use Rattle.batch_rules.specs.Events.{EventState, whole_op}
use Rattle.hiding_rules.specs.Hidden.{Scanner, standard_scanner}
use Rattle.decoration_rules.specs.declared.Edit.{Edit}
use Rattle.decoration_rules.specs.declared.NewDeco.{NewDeco}
use Rattle.decoration_rules.specs.declared.Deco.{Deco}
use Rattle.decoration_rules.specs.Refusals.{DecoRefusal}
use Rattle.decoration_rules.specs.Refusals as undecorated
use Rattle.decoration_rules.specs.Marks.{carried}
use Rattle.decoration_rules.specs.Lines.{carried_with_lines}
use Rattle.decoration_rules.specs.Decorations.{Decorations, no_decorations, decorated, deco_at, decos_in}
use Rattle.decoration_rules.specs.LineMoves.{line_moves}
use Rattle.undo_rules.specs.declared.Tag.{Tag}
use Rattle.undo_rules.specs.Stack.{Step, Stack, empty_stack, pushed, stopped, undone, redone}
use Rattle.undo_rules.specs.Tags.{tagged, untagged, all_steps, untagged_last, with_steps}
use Rattle.snapshot_rules.specs.Snapshots.{FlatShelf, empty_shelf}
use Rattle.document_rules.specs.Refusals.{FlatRefusal, unknown, range, overlap, limit}
use Rattle.document_rules.specs.InTurn.{unforced, one_by_one, ending_edits}

abbrev pub greatest_version : ℕ
greatest_version = GREATEST_NUMBER

-- a whole text, and the kind of its line endings
pub record FlatText : Type 0 where
  pub units : List ℕ
  pub kind : Kind

-- the kind of a change
pub data Deed : Type 0 where
  -- a batch of ops, sorted and with line endings of the kind
  batch : List Op → Deed
  -- a conversion of all line endings to another kind
  recast : Deed

-- one accepted change, with the whole text before and after it
pub record FlatChange : Type 0 where
  pub before : FlatText
  pub deed : Deed
  pub after : FlatText

-- The last change: the whole text before it, and the batches that lead from it to the current text, in the order in which they
-- were carried out. The `force` flags of the ops are those of the original edits.
pub record LastChange : Type 0 where
  pub before : List ℕ
  pub batches : List (List Op)
  -- the same as edits in turn
  pub edits : List Op

pub record FlatState : Type 0 where
  pub units : List ℕ
  -- all line endings are of this kind
  pub kind : Kind
  -- 1 for a new document, increased by one with each accepted change
  pub version : ℕ
  -- the version that made the current text; undo and redo restore it together with the text
  pub alternative : ℕ
  pub decorations : Decorations
  -- the texts that are brackets, and the marks of comments and strings that hide them
  pub scanner : Scanner
  -- the undo and redo steps
  pub history : Stack FlatChange
  -- the snapshots, each read from its front
  pub shelf : FlatShelf
  -- the last edit, conversion of line endings, undo or redo; None in a new document
  pub last : Option LastChange

-- a new document with this text, these brackets and this kind of line ending
abbrev pub new_document : List ℕ → Scanner → Kind → FlatState
new_document units scanner kind = record {
  units = units;
  kind = kind;
  version = 1;
  alternative = 1;
  decorations = no_decorations;
  scanner = scanner;
  history = empty_stack;
  shelf = empty_shelf;
  last = None;
}

-- the document before any text was opened
abbrev pub empty_document : FlatState
empty_document = new_document [] standard_scanner Mixed

abbrev pub unless_too_long : List ℕ → Scanner → Kind → Result FlatState FlatRefusal
unless_too_long units scanner kind = if nat_lt most_units (length units) then Err limit else Ok (new_document units scanner kind)

-- a new document, whose text gets the line endings of the kind; `limit` if it is too long
abbrev pub flat_open : List ℕ → Scanner → Kind → Result FlatState FlatRefusal
flat_open text scanner kind = unless_too_long (normalized kind text) scanner kind

abbrev pub text_now : FlatState → FlatText
text_now f = record { units = f.units; kind = f.kind }

-- an op as decorations see it
abbrev pub edit_of : Op → Edit
edit_of op = record { start = op.span.start; end = op.span.end; units = length op.text; force = op.force }

-- the decorations after the ops, from the last op to the first
abbrev pub carried_by : Decorations → List Op → Decorations
carried_by d ops = record d { marks = carried d.marks (map edit_of ops) }

-- a deed as a batch
abbrev pub ops_on : FlatText → Deed → FlatText → List Op
ops_on before (batch ops) after = ops
ops_on before recast after = whole_op before.units after.units

-- the inverse of a deed as a batch
abbrev pub ops_back : FlatText → Deed → FlatText → List Op
ops_back before (batch ops) after = inverse_from 0 0 before.units ops
ops_back before recast after = whole_op after.units before.units

-- A deed as edits in turn, and its inverse. A conversion of line endings has an edit only for each ending that differs.
abbrev pub edits_on : FlatText → Deed → FlatText → List Op
edits_on before (batch ops) after = one_by_one ops
edits_on before recast after = ending_edits before.units after.units

abbrev pub edits_back : FlatText → Deed → FlatText → List Op
edits_back before (batch ops) after = one_by_one (inverse_from 0 0 before.units ops)
edits_back before recast after = ending_edits after.units before.units

-- the last change that leads from the text of the document to a new one, by these batches, or by these edits in turn
abbrev pub leading : FlatState → List (List Op) → List Op → Option LastChange
leading f batches edits = Some (record { before = f.units; batches = batches; edits = edits })

-- the next version, whose text the deed made
abbrev pub after_deed : FlatState → Deed → FlatText → Decorations → FlatState
after_deed f deed text decorations = record f {
  units = text.units;
  kind = text.kind;
  version = f.version + 1;
  alternative = f.version + 1;
  decorations = decorations;
  history = pushed f.history (record { before = text_now f; deed = deed; after = text }) f.alternative (f.version + 1);
  last = leading f (ops_on (text_now f) deed text ∷ []) (edits_on (text_now f) deed text);
}

-- the document after a checked batch of ops
abbrev pub after_batch : FlatState → List Op → FlatState
after_batch f ops =
    after_deed f (batch ops) (record { units = applied_from 0 f.units ops; kind = f.kind }) (carried_by f.decorations ops)

-- the refusal of a batch as one of the document
abbrev pub batch_refusal : BatchRefusal → FlatRefusal
batch_refusal refused.range = range
batch_refusal refused.overlap = overlap
batch_refusal refused.limit = limit

abbrev pub edited_by : FlatState → Result (List Op) BatchRefusal → Result FlatState FlatRefusal
edited_by f (Err why) = Err (batch_refusal why)
edited_by f (Ok ops) = if nat_le greatest_version f.version then Err limit else Ok (after_batch f ops)

-- an edit by one batch of ops
abbrev pub flat_edit : FlatState → List Op → Result FlatState FlatRefusal
flat_edit f ops = edited_by f (checked_batch f.kind f.units ops)

-- closes the undo step: the next edit begins a new one
abbrev pub flat_stop : FlatState → FlatState
flat_stop f = record f { history = stopped f.history }

-- the last step becomes a joint step with this tag
abbrev pub flat_tag : FlatState → Tag → FlatState
flat_tag f tag = record f { history = tagged f.history tag }

-- removes the tag from the steps that have it
abbrev pub flat_untag : FlatState → Tag → FlatState
flat_untag f tag = record f { history = untagged f.history tag }

-- removes the tags of the last c joint steps that it shares with document n
abbrev pub flat_untag_last : FlatState → ℕ → ℕ → FlatState
flat_untag_last f n c = record f { history = with_steps f.history (untagged_last n c (all_steps f.history)) }

-- ---- a change of line endings

abbrev pub is_same_kind : Kind → Kind → Bool
is_same_kind Mixed Mixed = true
is_same_kind Mixed Lf = false
is_same_kind Mixed Crlf = false
is_same_kind Lf Mixed = false
is_same_kind Lf Lf = true
is_same_kind Lf Crlf = false
is_same_kind Crlf Mixed = false
is_same_kind Crlf Lf = false
is_same_kind Crlf Crlf = true

-- the decorations when one text becomes another with the same line contents: they keep line and column
abbrev pub carried_to : Decorations → List ℕ → List ℕ → Decorations
carried_to d before after = record d { marks = carried_with_lines (line_moves before after) d.marks }

-- the text with its line endings converted to a kind
abbrev pub recast_to : Kind → List ℕ → FlatText
recast_to kind x = record { units = normalized kind x; kind = kind }

-- the document after a conversion of its line endings, which is an undo step of its own
abbrev pub after_recast : FlatState → Kind → FlatState
after_recast f kind =
    flat_stop (after_deed (flat_stop f) recast (recast_to kind f.units) (carried_to f.decorations f.units (normalized kind f.units)))

-- converts the line endings to the kind; None if the document is of this kind already
abbrev pub flat_eol : FlatState → Kind → Result (Option FlatState) FlatRefusal
flat_eol f kind =
    if is_same_kind kind f.kind then Ok None else
    (if nat_lt most_units (length (normalized kind f.units)) || nat_le greatest_version f.version then Err limit
    else Ok (Some (after_recast f kind)))

-- ---- undo and redo

-- the whole text before the first of these changes; the current text if there are none
abbrev pub text_before : FlatText → List FlatChange → FlatText
text_before now [] = now
text_before now (change ∷ changes) = change.before

-- the whole text after the last of these changes; the current text if there are none
abbrev pub text_after : FlatText → List FlatChange → FlatText
text_after now [] = now
text_after now (change ∷ changes) = text_after change.after changes

-- Undo and redo move decorations as edits do. Undo moves them by the inverse of the ops, or with their lines.
abbrev pub taken_back : Decorations → FlatText → Deed → FlatText → Decorations
taken_back d before (batch ops) after = carried_by d (inverse_from 0 0 before.units ops)
taken_back d before recast after = carried_to d after.units before.units

-- the decorations after the undo of these changes, the last change first
abbrev pub carried_back : Decorations → List FlatChange → Decorations
carried_back d [] = d
carried_back d (change ∷ changes) = taken_back (carried_back d changes) change.before change.deed change.after

-- Redo moves decorations by the ops, without force, or with their lines.
abbrev pub made_again : Decorations → FlatText → Deed → FlatText → Decorations
made_again d before (batch ops) after = carried_by d (map unforced ops)
made_again d before recast after = carried_to d before.units after.units

-- the decorations after the redo of these changes, in their order
abbrev pub carried_on : Decorations → List FlatChange → Decorations
carried_on d [] = d
carried_on d (change ∷ changes) = carried_on (made_again d change.before change.deed change.after) changes

-- the batches that undo the changes, the last change first
abbrev pub batches_back : List FlatChange → List (List Op)
batches_back [] = []
batches_back (change ∷ changes) = batches_back changes ++ ops_back change.before change.deed change.after ∷ []

-- the batches of the changes, in their order
abbrev pub batches_on : List FlatChange → List (List Op)
batches_on changes = map (λ (change : FlatChange). ops_on change.before change.deed change.after) changes

-- the same changes as edits in turn
abbrev pub all_edits_back : List FlatChange → List Op
all_edits_back [] = []
all_edits_back (change ∷ changes) = all_edits_back changes ++ edits_back change.before change.deed change.after

abbrev pub all_edits_on : List FlatChange → List Op
all_edits_on [] = []
all_edits_on (change ∷ changes) = edits_on change.before change.deed change.after ++ all_edits_on changes

-- the next version after an undo or a redo: the batches led to a text that is restored with its alternative version
abbrev pub returned : FlatState → FlatText → ℕ → Decorations → Stack FlatChange → List (List Op) → List Op → FlatState
returned f text alternative decorations history batches edits = record f {
  units = text.units;
  kind = text.kind;
  version = f.version + 1;
  alternative = alternative;
  decorations = decorations;
  history = history;
  last = leading f batches edits;
}

abbrev pub unless_last_version : FlatState → FlatState → Result (Option FlatState) FlatRefusal
unless_last_version f new = if nat_le greatest_version f.version then Err limit else Ok (Some new)

abbrev pub undone_step : FlatState → List (Step FlatChange) → Result (Option FlatState) FlatRefusal
undone_step f [] = Ok None
undone_step f (step ∷ steps) =
    unless_last_version f
    (returned f (text_before (text_now f) step.changes) step.alt_before (carried_back f.decorations step.changes)
    (undone f.history) (batches_back step.changes) (all_edits_back step.changes))

-- undoes the last step; None if there is none
abbrev pub flat_undo : FlatState → Result (Option FlatState) FlatRefusal
flat_undo f = undone_step f f.history.undo

abbrev pub redone_step : FlatState → List (Step FlatChange) → Result (Option FlatState) FlatRefusal
redone_step f [] = Ok None
redone_step f (step ∷ steps) =
    unless_last_version f
    (returned f (text_after (text_now f) step.changes) step.alt_after (carried_on f.decorations step.changes)
    (redone f.history) (batches_on step.changes) (all_edits_on step.changes))

-- redoes the step that was undone last; None if there is none
abbrev pub flat_redo : FlatState → Result (Option FlatState) FlatRefusal
flat_redo f = redone_step f f.history.redo

abbrev pub edits_of : Option LastChange → List Op
edits_of None = []
edits_of (Some last) = last.edits

-- the last change as an event for a mirror; None in a new document
abbrev pub flat_event : FlatState → Option EventState
flat_event f = option_map (λ (last : LastChange). record { from = f.version - 1; batches = last.batches }) f.last

-- the last change as edits in turn; no edits in a new document
abbrev pub flat_changes : FlatState → List Op
flat_changes f = edits_of f.last

-- the refusal of a change of decorations as one of the document
abbrev pub decoration_refusal : DecoRefusal → FlatRefusal
decoration_refusal undecorated.unknown = unknown
decoration_refusal undecorated.range = range
decoration_refusal undecorated.limit = limit

abbrev pub with_decorations : FlatState → Result Decorations DecoRefusal → Result FlatState FlatRefusal
with_decorations f (Err why) = Err (decoration_refusal why)
with_decorations f (Ok d) = Ok (record f { decorations = d })

-- removes decorations of an owner by their ids, and adds new ones
abbrev pub flat_decorate : FlatState → ℕ → List ℕ → List NewDeco → Result FlatState FlatRefusal
flat_decorate f owner remove add = with_decorations f (decorated f.decorations owner remove add f.kind f.units)

-- the live decoration of this id
abbrev pub flat_deco : FlatState → ℕ → Option Deco
flat_deco f id = deco_at f.decorations id

-- the decorations that touch the span, of all owners or of one
abbrev pub flat_decos : FlatState → Span → Option ℕ → Result (List Deco) FlatRefusal
flat_decos f span owner = if is_bad_span f.kind f.units span then Err range else Ok (decos_in f.decorations span owner)

abbrev pub content_of : Option Line → Result (List ℕ) FlatRefusal
content_of None = Err range
content_of (Some line) = Ok line.content

-- the content of line n, counted from 1; `range` if there is no such line
abbrev pub flat_line : FlatState → ℕ → Result (List ℕ) FlatRefusal
flat_line f n = content_of (line_at f.units n)

-- the units of a span
abbrev pub flat_value : FlatState → Span → Result (List ℕ) FlatRefusal
flat_value f span = if is_bad_span f.kind f.units span then Err range else Ok (take (span.end - span.start) (drop span.start f.units))

-- the line and column of an offset; None if it is no place of the text
abbrev pub flat_position : FlatState → ℕ → Option Position
flat_position f offset = if is_place_in f.kind f.units offset then Some (position_of f.units offset) else None

-- the offset of a position; None if it is invalid
abbrev pub flat_offset : FlatState → Position → Option ℕ
flat_offset f p = if is_position f.units p then Some (offset_of f.units p) else None

-- the number of lines of the text
abbrev pub flat_line_count : FlatState → ℕ
flat_line_count f = length (lines_of f.units)

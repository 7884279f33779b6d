-- The kept changes as edits in sequence, and the edits that remain.
use Rattle.std.specs.Prelude.{ℕ, ◌+◌, ◌≤◌, slice_index_or, List, [], ◌∷◌, ◌++◌, false, length, take, sum_by, Option, Some, None}
use Rattle.text_lengths.specs.declared.Span.{Span}
use Rattle.text_rules.specs.declared.Op.{Op}
use Rattle.text_rules.specs.Lines.{Line, lines_of, line_length}
use Rattle.document_rules.specs.InTurn.{one_by_one, ending_edits, ending_edits_from}
use Rattle.model_page.specs.declared.change.Change.{Change}
use Rattle.model_page.specs.declared.change.Change.TheVariants.{Ops, Endings}
use Rattle.model_page.specs.declared.change.Way.{Way}
use Rattle.model_page.specs.declared.change.Way.TheVariants.{Back, On}
use Rattle.model_page.specs.declared.in_turn.ContentChange.{ContentChange}
use Rattle.model_page.specs.Changes.{ops_by, text_from, text_to}

-- an edit as an op that does not force decorations
abbrev pub told_op : ContentChange → Op
told_op change = record { span = change.span; text = change.text.now; force = false }

-- the edit as a list of at most one op
abbrev pub told : Option ContentChange → List Op
told None = []
told (Some change) = told_op change ∷ []

-- the remaining edits of the present change, if any
abbrev pub begun : Option (List Op) → List Op
begun None = []
begun (Some edits) = edits

-- the edits of the change on this way
abbrev pub edits_along : Way → Change → List Op
edits_along way (Ops ops inverse) = one_by_one (ops_by way (Ops ops inverse))
edits_along way (Endings r) = ending_edits (text_from way r).units (text_to way r).units

-- the edits of the changes on this way; on the way back those of the last change come first
abbrev pub all_edits_along : Way → List Change → List Op
all_edits_along Back [] = []
all_edits_along Back (c ∷ cs) = all_edits_along Back cs ++ edits_along Back c
all_edits_along On [] = []
all_edits_along On (c ∷ cs) = edits_along On c ++ all_edits_along On cs

-- the number of parts of the change: ops of a batch, or lines of a text
abbrev pub parts_along : Way → Change → ℕ
parts_along way (Ops ops inverse) = length (ops_by way (Ops ops inverse))
parts_along way (Endings r) = length (lines_of (text_from way r).units)

-- the offset at which the line with this index, from 0, starts in the text
abbrev pub starts_at : ℕ → List ℕ → ℕ
starts_at at x = sum_by line_length (take at (lines_of x))

abbrev pub no_line : Line
no_line = record { content = []; break = [] }

-- the span of its ending
abbrev pub ending_span : ℕ → List ℕ → Span
ending_span at x = record { start = starts_at at x + length (slice_index_or (lines_of x) at no_line).content; end = starts_at (at + 1) x }

-- the span is within the text
pub record IsWithin (x : List ℕ) (span : Span) : Type 0 where
  pub ordered : span.start ≤ span.end
  pub within : span.end ≤ length x

-- the edits of the endings of the first lines
abbrev pub endings_of_first : ℕ → List ℕ → List ℕ → List Op
endings_of_first left x y = ending_edits_from 0 (take left (lines_of x)) (take left (lines_of y))

-- the edits of the first parts, which come last
abbrev pub edits_of_first : ℕ → Way → Change → List Op
edits_of_first left way (Ops ops inverse) = one_by_one (take left (ops_by way (Ops ops inverse)))
edits_of_first left way (Endings r) = endings_of_first left (text_from way r).units (text_to way r).units

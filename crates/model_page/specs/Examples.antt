-- Worked examples of the definitions.
use Rattle.std.specs.Prelude.{◌≡◌, ℕ, List, [], ◌∷◌, codes, true, false, refl}
use Rattle.text_rules.specs.declared.Op.{Op}
use Rattle.mark_rules.specs.declared.Mark.TheVariants.{Kept, New}
use Rattle.mark_rules.specs.Marks.{clean_marks}
use Rattle.unit_text.specs.declared.kind.Kind.TheVariants.{Mixed, Lf}
use Rattle.decoration_rules.specs.Recasts.{RecastState}
use Rattle.document_rules.specs.Document.{FlatChange, batch}
use Rattle.model_page.specs.declared.change.Change.TheVariants.{Ops, Endings}
use Rattle.model_page.specs.declared.change.Way.TheVariants.{Back, On}
use Rattle.model_page.specs.Compact.{fits}
use Rattle.model_page.specs.InTurn.{edits_along, edits_of_first}
use Rattle.model_page.specs.LineMarks.{marked_by, marked_backwards, marked_back}

abbrev insert : ℕ → Op
insert at = record { span = record { start = at; end = at }; text = codes "x"; force = false }

-- `a`, a break, `b`, a break and `c`
abbrev three_lines : List ℕ
three_lines = 97 ∷ 10 ∷ 98 ∷ 10 ∷ 99 ∷ []

-- line 2 becomes two lines, and line 1 another one
abbrev two_lines_touched : List Op
two_lines_touched = insert 0 ∷ record { span = record { start = 2; end = 2 }; text = 10 ∷ []; force = false } ∷ []

the_last_op_marks_first : marked_backwards three_lines two_lines_touched (clean_marks 3) ≡ New ∷ New ∷ New ∷ Kept 3 ∷ []
the_last_op_marks_first = refl

-- `a`, a CR and `b`
a_cr_before_an_insert_is_touched : marked_by (97 ∷ 13 ∷ 98 ∷ []) (insert 2) (clean_marks 2) ≡ New ∷ New ∷ []
a_cr_before_an_insert_is_touched = refl

-- an undo brings the text back, and the lines that it touches stay new
abbrev typed_in_line_two : FlatChange
typed_in_line_two = record {
  before = record { units = three_lines; kind = Mixed };
  deed = batch (insert 2 ∷ []);
  after = record { units = 97 ∷ 10 ∷ 120 ∷ 98 ∷ 10 ∷ 99 ∷ []; kind = Mixed };
}

undone_lines_are_new : marked_back (clean_marks 3) (typed_in_line_two ∷ []) ≡ Kept 1 ∷ New ∷ Kept 3 ∷ []
undone_lines_are_new = refl

-- the ops of a batch are returned from the last one back
the_last_op_is_told_first : edits_of_first 2 On (Ops two_lines_touched [])
    ≡ record { span = record { start = 2; end = 2 }; text = 10 ∷ []; force = false } ∷ insert 0 ∷ []
the_last_op_is_told_first = refl

then_the_first_op_is_left : edits_of_first 1 On (Ops two_lines_touched []) ≡ insert 0 ∷ []
then_the_first_op_is_left = refl

-- `a`, a CR LF, `b`, an LF, `c`, a CR LF and `d`, and the same with LF alone
abbrev to_feeds : RecastState
to_feeds = record {
  before = 97 ∷ 13 ∷ 10 ∷ 98 ∷ 10 ∷ 99 ∷ 13 ∷ 10 ∷ 100 ∷ [];
  from = Mixed;
  after = 97 ∷ 10 ∷ 98 ∷ 10 ∷ 99 ∷ 10 ∷ 100 ∷ [];
  to = Lf;
}

abbrev ending : ℕ → ℕ → List ℕ → Op
ending start end text = record { span = record { start = start; end = end }; text = text; force = false }

the_last_ending_is_told_first : edits_along On (Endings to_feeds) ≡ ending 6 8 (10 ∷ []) ∷ ending 1 3 (10 ∷ []) ∷ []
the_last_ending_is_told_first = refl

-- the LF behind line 2 stays as it is
equal_endings_are_not_told : edits_of_first 2 On (Endings to_feeds) ≡ ending 1 3 (10 ∷ []) ∷ []
equal_endings_are_not_told = refl

endings_on_the_way_back : edits_along Back (Endings to_feeds) ≡ ending 5 6 (13 ∷ 10 ∷ []) ∷ ending 1 2 (13 ∷ 10 ∷ []) ∷ []
endings_on_the_way_back = refl

-- three lines have five units and two breaks
three_lines_fit : fits (record { units = 5; breaks = 2 }) three_lines ≡ true
three_lines_fit = refl

three_lines_take_two_breaks : fits (record { units = 9; breaks = 1 }) three_lines ≡ false
three_lines_take_two_breaks = refl

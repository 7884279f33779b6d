-- What an edit answers of the lines that it touched, and their marks.
use Rattle.std.proofs.Common.{◌≡◌, ℕ, ◌+◌, ◌-◌, ◌<◌, ◌≤◌, ◌^◌, List, length, ap, sym, subst, arith}
use Rattle.text_lengths.specs.declared.Dirty.{Dirty}
use Rattle.text_rules.specs.declared.Op.{Op}
use Rattle.text_rules.specs.Lines.{lines_of}
use Rattle.text_rules.specs.Edits.{edited}
use Rattle.text_rules.specs.Dirty.{dirty_lines}
use Rattle.mark_rules.specs.declared.Mark.{Mark}
use Rattle.mark_rules.specs.Marks.{edited_marks}
use Rattle.reuse_rules.specs.Edits.{IsEdited}
use Rattle.model_page.specs.LineMarks.{marked_by}
use Rattle.model_page.proofs.DirtyEdits.{lines_edited, length-after, few_lines}
use Rattle.model_page.proofs.EditedMarks.{length-edited_marks}

module _ (x : List ℕ) (op : Op) (d : Dirty) where
  -- the touched lines became others
  pub touched : d ≡ dirty_lines x op.span op.text → op.span.start ≤ op.span.end → op.span.end ≤ length x
      → IsEdited d.first d.old d.new (lines_of x) (lines_of (edited x op))
  touched is ordered within =
      subst (λ (e : Dirty). IsEdited e.first e.old e.new (lines_of x) (lines_of (edited x op))) (sym is) (lines_edited x op.span op.text ordered within)

  pub marked : d ≡ dirty_lines x op.span op.text → (marks : List Mark) → edited_marks d.first d.old d.new marks ≡ marked_by x op marks
  marked is marks = ap (λ (e : Dirty). edited_marks e.first e.old e.new marks) is

  module _ (edit : IsEdited d.first d.old d.new (lines_of x) (lines_of (edited x op))) (marks : List Mark) (lines : length marks ≡ length (lines_of x)) where
    pub marks_fit : length (edited x op) + 1 < 2 ^ 62 → length marks - d.old + d.new < 2 ^ 62
    marks_fit small =
        let e = edited x op in
        omega (arith, edit.within, lines, small, few_lines e, length-after d.first d.old d.new (lines_of x) (lines_of e) edit)

    pub marks_lines : length (edited_marks d.first d.old d.new marks) ≡ length (lines_of (edited x op))
    marks_lines =
        let e = edited x op in
        omega (
          arith,
          lines,
          length-edited_marks d.first d.old d.new marks (omega (arith, edit.within, lines)),
          length-after d.first d.old d.new (lines_of x) (lines_of e) edit,
        )

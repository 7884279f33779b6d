-- The tree of a text agrees with the text after an edit, under its marks. No bracket is hidden, so each line begins
-- in code.
use Rattle.std.proofs.Common.{◌≡◌, ℕ, ◌-◌, ◌+◌, List, [], ◌∷◌, length, map, Some, refl, ap, sym, subst, ◌∙◌}
use Rattle.std.specs.Prelude.{replicate}
use Rattle.std.proofs.lemmas.List.{length-map, length-replicate, take-map, drop-map}
use Rattle.bracket_rules.specs.Rows.{Row}
use Rattle.bracket_rules.specs.Table.{Table}
use Rattle.bracket_tree_rules.specs.Told.{IsTreeOf}
use Rattle.bracket_tree_rules.specs.Tree.{Tree, IsTree}
use Rattle.hiding_rules.specs.declared.LineState.TheVariants.{Code}
use Rattle.hiding_rules.specs.Hidden.{Scanner, scanner, plain_scanner}
use Rattle.hiding_rules.specs.Marks.{Marks, no_marks}
use Rattle.hiding_rules.specs.States.{line_states}
use Rattle.hiding_rules.specs.Rows.{line_by, lines_by, broken, hidden_rows}
use Rattle.hiding_rules.proofs.NoMarks.{unmarked_states}
use Rattle.hiding_rules.proofs.Rows.{length-broken, length-hidden_rows}
use Rattle.mark_rules.specs.declared.Mark.{Mark}
use Rattle.mark_rules.specs.Marks.{clean_marks}
use Rattle.mark_rules.proofs.MarkLaws.{length-kept_marks}
use Rattle.node_reuse.specs.Reading.{AgreesIfThere}
use Rattle.node_reuse.specs.Texts.{IsTight}
use Rattle.reuse_rules.specs.Agreement.{Agrees}
use Rattle.reuse_rules.specs.Edits.{IsEdited}
use Rattle.reuse_rules.proofs.EditedLines.{Agrees-clean, Agrees-edited}
use Rattle.counted_steps.specs.Edited.{IsMarkedEdit}

-- ---- the lines of a text that nothing is hidden in

-- the lines begin in code
pub begins_in_code : (table : Table) (m : Marks) (lines : List (List ℕ)) → m ≡ no_marks
    → line_states (scanner table m) lines ≡ replicate (length lines) Code
begins_in_code table m lines none = rw none (unmarked_states table lines)

all_in_code : (by : Scanner) (lines : List (List ℕ)) → lines_by by (replicate (length lines) Code) lines ≡ map (line_by by Code) lines
all_in_code by [] = refl
all_in_code by (x ∷ lines) = ap (λ (rows : List Row). line_by by Code x ∷ rows) (all_in_code by lines)

-- each line is scanned to a row of its own
plain_rows : Table → List (List ℕ) → List Row
plain_rows table lines = map (line_by (plain_scanner table) Code) lines

rows_are_plain : (table : Table) (lines : List (List ℕ)) → hidden_rows (plain_scanner table) lines ≡ broken (plain_rows table lines)
unfolding plain_rows
rows_are_plain table lines =
    ap (λ states. broken (lines_by (plain_scanner table) states lines)) (unmarked_states table lines)
    ∙ ap broken (all_in_code (plain_scanner table) lines)

rows_edited : (table : Table) (line : ℕ) (before after : List (List ℕ)) → IsEdited line 1 1 before after
    → IsEdited line 1 1 (plain_rows table before) (plain_rows table after)
unfolding plain_rows
rows_edited table line before after edit =
    let f : List ℕ → Row = line_by (plain_scanner table) Code in
    record {
      first_is = edit.first_is;
      some = edit.some;
      more = edit.more;
      within = rw (length-map before f) edit.within;
      there = rw (length-map after f) edit.there;
      front = take-map f (line - 1) after ∙ ap (map f) edit.front ∙ sym (take-map f (line - 1) before);
      rest = drop-map f (line - 1 + 1) after ∙ ap (map f) edit.rest ∙ sym (drop-map f (line - 1 + 1) before);
    }

-- ---- the edited text

rows_agree : (table : Table) (before after : List (List ℕ)) (marks : List Mark) → IsMarkedEdit before after marks
    → Agrees (hidden_rows (plain_scanner table) before) marks (hidden_rows (plain_scanner table) after)
unfolding plain_rows
rows_agree table before after marks edit =
    let rows : List Row = broken (plain_rows table before) in
    let count : length rows ≡ length before = length-broken (plain_rows table before) ∙ length-map before (line_by (plain_scanner table) Code) in
    let clean : Agrees rows (clean_marks (length before)) rows = subst (λ (n : ℕ). Agrees rows (clean_marks n) rows) count (Agrees-clean rows) in
    rw (rows_are_plain table before, rows_are_plain table after, edit.marked)
    (Agrees-edited rows edit.line 1 1 (clean_marks (length before)) (plain_rows table before) (plain_rows table after)
    (rows_edited table edit.line before after edit.edited) clean)

pub agrees_edited : (table : Table) (t : Tree) (before after : List (List ℕ)) (marks : List Mark) → IsTree t → IsTight t
    → IsTreeOf (hidden_rows (plain_scanner table) before) t → IsMarkedEdit before after marks
    → AgreesIfThere (Some t) marks (hidden_rows (plain_scanner table) after)
agrees_edited table t before after marks good tight tells edit =
    let now : List Row = hidden_rows (plain_scanner table) after in
    record {
      tree = good;
      tight = tight;
      rows = subst (λ (old : List Row). Agrees old marks now) (sym tells.spells) (rows_agree table before after marks edit);
    }

-- there is one mark for each line
pub length_edited : (table : Table) (before after : List (List ℕ)) (marks : List Mark) → IsMarkedEdit before after marks
    → length marks ≡ length after
length_edited table before after marks edit =
    (rows_agree table before after marks edit).count ∙ length-hidden_rows (plain_scanner table) after

-- a parse leaves one mark for each line
pub length_clean : (lines : ℕ) → length (clean_marks lines) ≡ lines
length_clean lines = length-kept_marks 1 lines

pub ruleset laws = (agrees_edited, length_edited, begins_in_code, length-replicate)

-- A reader at the start of the text, and at its end.
use Rattle.std.proofs.Common.{◌≡◌, ℕ, ◌-◌, ◌<◌, ◌≤◌, ◌^◌, Bool, true, false, Option, Some, None, List, [], ◌∷◌, length, drop, sum, refl, ap, sym, ◌∙◌, subst, arith}
use Rattle.std.specs.Prelude.{slice_index}
use Rattle.text_lengths.specs.Length.{no_length}
use Rattle.bracket_rules.specs.Rows.{Row}
use Rattle.bracket_rules.specs.TextRows.{HasRow}
use Rattle.bracket_rules.specs.Table.{is_table}
use Rattle.hiding_rules.specs.Hidden.{Scanner}
use Rattle.hiding_rules.specs.Rows.{hidden_rows}
use Rattle.bracket_tree_rules.specs.Told.{IsTreeOf}
use Rattle.bracket_tree_rules.specs.Tree.{Tree}
use Rattle.bracket_tree_rules.specs.Weights.{tree_weights, AreCovered}
use Rattle.bracket_tree_rules.specs.Places.{rows_from}
use Rattle.bracket_tree_rules.proofs.LineWeights.{AreCovered-same, AreCovered-then, AreCovered-sum}
use Rattle.bracket_nodes.specs.Source.{weights_ahead, weight_ahead}
use Rattle.reuse_rules.specs.Following.{Reached}
use Rattle.reuse_rules.proofs.Followings.{Reached-start, Reached-rows}
use Rattle.node_reuse.specs.declared.line.Line.{Line}
use Rattle.mark_rules.specs.declared.Mark.{Mark}
use Rattle.line_states.specs.Lines.{text_weights, new_lines, AsksFront}
use Rattle.node_reuse.specs.Texts.{row_weights, IsTight}
use Rattle.node_reuse.specs.Reading.{AgreesIfThere, StaysIfThere, IsInLine, left_at}
use Rattle.node_reuse.specs.Reader.{Sight, sight_rows, sight_weights, mark_of, unasked, Asked, seen_at, tokens_left, StandsAt}
use Rattle.hiding_rules.proofs.Rows.{length-hidden_rows}
use Rattle.node_reuse.proofs.FreshReader.{same_count}
use Rattle.node_reuse.proofs.LightLines.{light_where_agreed, rows_are_covered}
use Rattle.node_reuse.proofs.LineStarts.{line_starts, start_is_light}

-- ---- the old tree

-- in a kept line a tree that agrees weighs at most what the rows show
stays_where_agreed : (old : Option Tree) (marks : List Mark) (now : List Row) → AgreesIfThere old marks now → StaysIfThere old marks now (row_weights now)
stays_where_agreed None marks now h = h
stays_where_agreed (Some old) marks now h = record { tree = h.tree; agrees = h.rows; light = light_where_agreed old marks now h.tree h.tight h.rows }

-- ---- the start

some_row : (by : Scanner) (contents : List (List ℕ)) → 0 < length contents → HasRow (hidden_rows by contents)
some_row by contents h = of (hidden_rows by contents) (omega (arith, length-hidden_rows by contents))
  where
    of : (rows : List Row) → 0 < length rows → HasRow rows
    of [] some = absurd (omega arith)
    of (r ∷ rows) some = tt

-- all rows are ahead
pub all_rows : (by : Scanner) (contents : List (List ℕ)) → 0 < length contents → rows_from no_length (hidden_rows by contents) ≡ hidden_rows by contents
all_rows by contents some =
    Reached-rows (hidden_rows by contents) no_length (hidden_rows by contents) (Reached-start (hidden_rows by contents) (some_row by contents some))

pub some_ahead : (by : Scanner) (contents : List (List ℕ)) → 0 < length contents → HasRow (rows_from no_length (hidden_rows by contents))
some_ahead by contents some = subst HasRow (sym (all_rows by contents some)) (some_row by contents some)

pub first_stands : (s : Sight) (line : Line) → 0 < length s.contents → is_table s.by.table ≡ true → length s.old.marks ≡ length s.contents
    → AgreesIfThere s.old.tree s.old.marks (sight_rows s) → line.scanned ≡ false → line.asked ≡ 0 → StandsAt s no_length line
first_stands s line some table counted agrees scanned none =
    let stays = stays_where_agreed s.old.tree s.old.marks (sight_rows s) agrees in
    let reached : Reached (sight_rows s) no_length (rows_from no_length (sight_rows s)) =
    subst (Reached (sight_rows s) no_length) (sym (all_rows s.by s.contents some)) (Reached-start (sight_rows s) (some_row s.by s.contents some)) in
    record {
      sound = record { table = table; counted = counted; stays = stays };
      reached = reached;
      in_line =
          subst (λ (b : Bool). IsInLine (mark_of s no_length) s.old.tree s.old.marks (sight_rows s) (sight_weights s) no_length b (tokens_left line) line.columns)
          (sym scanned)
          (line_starts s.old.tree s.old.marks (sight_rows s) (sight_weights s) no_length (tokens_left line) line.columns stays (same_count s) refl reached);
      is_new = λ e. let clash : true ≡ false = sym e ∙ scanned in cc;
      asked =
          let all : unasked s.old.marks no_length line.scanned ≡ new_lines s.old.marks = ap (unasked s.old.marks no_length) scanned in
          let same : length (unasked s.old.marks no_length line.scanned) ≡ length (new_lines s.old.marks) = ap length all in
          omega arith;
    }

-- the weight ahead is within the bounds for the lines
covered_start : (weights : List ℕ) (left : ℕ) → 0 < length weights → left ≤ slice_index weights 0 - 0 → AreCovered (left ∷ drop 1 weights) weights
covered_start [] left some h = absurd (omega arith)
covered_start (w ∷ weights) left some h = (omega arith, AreCovered-same weights)

start_covered : (s : Sight) → 0 < length s.contents → StaysIfThere s.old.tree s.old.marks (sight_rows s) (sight_weights s)
    → AreCovered (left_at s.old.tree s.old.marks (sight_weights s) no_length ∷ drop 1 (sight_weights s)) (sight_weights s)
start_covered s some stays =
    covered_start (sight_weights s) (left_at s.old.tree s.old.marks (sight_weights s) no_length) (omega (arith, same_count s, length-hidden_rows s.by s.contents))
    (start_is_light s.old.tree s.old.marks (sight_rows s) (sight_weights s) no_length stays refl)

pub start_fits : (s : Sight) (asked : Asked) (line : Line) → is_table s.by.table ≡ true → 0 < length s.contents → AgreesIfThere s.old.tree s.old.marks (sight_rows s)
    → sum (text_weights s.contents) < 2 ^ 64 → weight_ahead (seen_at s asked no_length line) < 2 ^ 64
unfolding weight_ahead
start_fits s asked line table some agrees fits =
    let stays = stays_where_agreed s.old.tree s.old.marks (sight_rows s) agrees in
    let ahead : List ℕ = left_at s.old.tree s.old.marks (sight_weights s) no_length ∷ drop 1 (sight_weights s) in
    let less : sum ahead ≤ sum (sight_weights s) = AreCovered-sum ahead (sight_weights s) (start_covered s some stays) in
    let rows : sum (sight_weights s) ≤ sum (text_weights s.contents) =
    AreCovered-sum (sight_weights s) (text_weights s.contents) (rows_are_covered s.by s.contents table) in
    omega arith

-- ---- the end

pub whole_tree : (s : Sight) (t : Tree) → 0 < length s.contents → IsTreeOf (rows_from no_length (sight_rows s)) t → IsTreeOf (sight_rows s) t
whole_tree s t some h = subst (λ (rows : List Row). IsTreeOf rows t) (all_rows s.by s.contents some) h

-- each of its lines weighs at most what its row shows
whole_weights : (s : Sight) (asked : Asked) (line : Line) (t : Tree) → 0 < length s.contents → AgreesIfThere s.old.tree s.old.marks (sight_rows s)
    → AreCovered (tree_weights t) (weights_ahead (seen_at s asked no_length line)) → AreCovered (tree_weights t) (sight_weights s)
whole_weights s asked line t some agrees h =
    AreCovered-then (tree_weights t) (weights_ahead (seen_at s asked no_length line)) (sight_weights s) h
    (start_covered s some (stays_where_agreed s.old.tree s.old.marks (sight_rows s) agrees))

pub whole_tight : (s : Sight) (asked : Asked) (line : Line) (t : Tree) → 0 < length s.contents → AgreesIfThere s.old.tree s.old.marks (sight_rows s)
    → IsTreeOf (rows_from no_length (sight_rows s)) t → AreCovered (tree_weights t) (weights_ahead (seen_at s asked no_length line)) → IsTight t
whole_tight s asked line t some agrees told h =
    let whole : IsTreeOf (sight_rows s) t = whole_tree s t some told in
    subst (λ (rows : List Row). AreCovered (tree_weights t) (row_weights rows)) (sym whole.spells) (whole_weights s asked line t some agrees h)

pub whole_light : (s : Sight) (asked : Asked) (line : Line) (t : Tree) → is_table s.by.table ≡ true → 0 < length s.contents → AgreesIfThere s.old.tree s.old.marks (sight_rows s)
    → AreCovered (tree_weights t) (weights_ahead (seen_at s asked no_length line)) → AreCovered (tree_weights t) (text_weights s.contents)
whole_light s asked line t table some agrees h =
    AreCovered-then (tree_weights t) (sight_weights s) (text_weights s.contents) (whole_weights s asked line t some agrees h) (rows_are_covered s.by s.contents table)

pub none_asked : (lines asked : List ℕ) → AsksFront lines asked asked
none_asked lines asked = (lines, refl)

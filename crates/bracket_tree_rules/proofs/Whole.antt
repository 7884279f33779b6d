-- Trees that agree with all rows of a text form one tree of the text.
use Rattle.std.proofs.Common.{◌≡◌, List, [], ◌∷◌, ap, sym, ◌∙◌}
use Rattle.std.proofs.lemmas.List.{append-nil}
use Rattle.text_lengths.specs.Length.{no_length}
use Rattle.bracket_rules.specs.Parse.{Bracket, Story, bracket_story, bracket_level}
use Rattle.bracket_rules.specs.Rows.{Row, placed}
use Rattle.bracket_rules.specs.TextRows.{empty_row}
use Rattle.bracket_tree_rules.specs.Tree.{Tree, tree_tokens, tree_rows, tree_story, items}
use Rattle.bracket_tree_rules.specs.Items.{all_rows, all_entries}
use Rattle.bracket_tree_rules.specs.Told.{Tells, IsTreeOf}
use Rattle.bracket_tree_rules.proofs.Glue.{glue_empty, placed-tree}
use Rattle.bracket_tree_rules.proofs.ItemLists.{HasRow-all_rows, all_entries-items, all_rows-items}
use Rattle.bracket_tree_rules.proofs.KindSets.{IsStack-none}
use Rattle.bracket_tree_rules.proofs.Levels.{tree_level-is}

pub IsTreeOf-from_Tells : (rows : List Row) (t : Tree) → Tells 0 0 rows (empty_row ∷ []) (items t) → IsTreeOf rows t
IsTreeOf-from_Tells rows t h =
    let spelled : rows ≡ tree_rows t =
    h.spells ∙ glue_empty (all_rows (items t)) (HasRow-all_rows (items t)) ∙ all_rows-items t in
    let entries : bracket_story (placed no_length rows) ≡ tree_story t =
    ap (λ (s : Story). s.entries) (h.story no_length [] IsStack-none)
    ∙ append-nil (all_entries no_length 0 (items t))
    ∙ all_entries-items no_length 0 t in
    let brackets : placed no_length rows ≡ tree_tokens no_length t = ap (placed no_length) spelled ∙ placed-tree no_length t in
    record {
      spells = sym spelled;
      story = sym entries;
      levels = λ p. tree_level-is t p (ap bracket_story (sym brackets) ∙ entries)
          ∙ ap (λ (bs : List Bracket). bracket_level bs p) (sym brackets);
    }

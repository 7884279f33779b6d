-- A reader at a place of the current text, which follows the old text there.
use Rattle.std.specs.Prelude.{◌≡◌, ℕ, List, drop}
use Rattle.text_lengths.specs.declared.Length.{Length}
use Rattle.text_lengths.specs.Length.{length_of, no_length}
use Rattle.bracket_rules.specs.Rows.{Row}
use Rattle.bracket_rules.specs.TextRows.{HasRow, glue, rows_length}
use Rattle.bracket_tree_rules.specs.Tree.{Tree, tree_rows}
use Rattle.bracket_tree_rules.specs.Places.{IsEdge, IsBounded, rows_from}
use Rattle.mark_rules.specs.declared.Mark.{Mark}
use Rattle.mark_rules.specs.Marks.{kept_run}
use Rattle.reuse_rules.specs.Agreement.{Alike}
use Rattle.reuse_rules.specs.Reuse.{IsKeptAs}

-- the rows `ahead` are what follows place p in the rows `now`
pub record Reached (now : List Row) (p : Length) (ahead : List Row) : Type 0 where
  pub done : List Row
  pub spells : now ≡ glue done ahead
  pub place : rows_length done ≡ p
  pub has_done : HasRow done
  pub has_ahead : HasRow ahead
  pub bounded : IsBounded done

-- The line of place p is kept as the old line `line`. The rows ahead are those of the old text there, as far as lines
-- are kept, and place p is an edge of the old tree.
pub record Follows (old : Tree) (marks : List Mark) (p : Length) (ahead : List Row) (line : ℕ) : Type 0 where
  pub kept : IsKeptAs marks p line
  pub alike : Alike (kept_run (drop p.lines marks)) (rows_from (length_of line p.columns) (tree_rows old)) ahead
  pub edge : IsEdge no_length old (length_of line p.columns)

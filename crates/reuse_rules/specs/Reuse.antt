-- Which nodes and brackets of an old tree may be reused at a place of the current text.
use Rattle.std.specs.Prelude.{◌≡◌, ℕ, ◌+◌, List, drop}
use Rattle.text_lengths.specs.declared.Length.{Length}
use Rattle.text_lengths.specs.Length.{length_of, no_length}
use Rattle.bracket_rules.specs.Parse.{Bracket}
use Rattle.bracket_tree_rules.specs.Tree.{Tree}
use Rattle.bracket_tree_rules.specs.Places.{HasNode, HasBracket, MayBeTaken}
use Rattle.mark_rules.specs.declared.Mark.{Mark}
use Rattle.mark_rules.specs.declared.Mark.TheVariants.{Kept}
use Rattle.mark_rules.specs.Marks.{mark_at, kept_run}

-- the line of place p, counted from 0, is kept as the old line `line`, also counted from 0
abbrev pub IsKeptAs : List Mark → Length → ℕ → Type 0
IsKeptAs marks p line = mark_at (p.lines + 1) marks ≡ Kept (line + 1)

-- With `level` open brackets, of these kinds, node n of the old tree may be reused at place p of the current text: it
-- was in the line that this one is kept from, at the same column, and each line that it touches is kept.
pub record Reusable (old : Tree) (marks : List Mark) (p : Length) (kinds level : ℕ) (n : Tree) : Type 0 where
  pub line : ℕ
  pub kept : IsKeptAs marks p line
  pub node : HasNode no_length old (length_of line p.columns) n
  pub taken : MayBeTaken (kept_run (drop p.lines marks)) kinds level n

-- bracket b of the old tree is at place p of the current text
pub record IsOldBracket (old : Tree) (marks : List Mark) (p : Length) (b : Bracket) : Type 0 where
  pub line : ℕ
  pub kept : IsKeptAs marks p line
  pub bracket : HasBracket no_length old b
  pub place : b.place ≡ length_of line p.columns

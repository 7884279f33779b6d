-- When trees agree with the parse of a text.
use Rattle.std.specs.Prelude.{◌≡◌, ℕ, ◌+◌, ◌≤◌, ◌^◌, Bool, true, false, ◌==◌, List, ◌++◌, length, is_some, bit_or}
use Rattle.std.specs.Int.{bit_at}
use Rattle.text_lengths.specs.declared.Length.{Length}
use Rattle.text_lengths.specs.Length.{no_length, length_plus}
use Rattle.bracket_rules.specs.declared.TheConstants.{MOST_OPEN}
use Rattle.bracket_rules.specs.Parse.{Bracket, Judged, Story, depth_of, parse, bracket_story, bracket_level}
use Rattle.bracket_rules.specs.Rows.{Row, placed}
use Rattle.bracket_rules.specs.TextRows.{glue}
use Rattle.bracket_tree_rules.specs.Tree.{Tree, tree_rows, is_missing, is_closed, is_capped, nesting, tree_story, tree_level}
use Rattle.bracket_tree_rules.specs.Items.{all_length, all_entries, all_rows, any_missing}

-- ---- sets of kinds, as the bits of a number

abbrev pub has_kind : ℕ → ℕ → Bool
has_kind kinds k = bit_at kinds k == 1

abbrev pub with_kind : ℕ → ℕ → ℕ
with_kind kinds k = bit_or kinds (2 ^ k)

-- a stack of `level` brackets, whose kinds are `kinds`
pub record IsStack (kinds level : ℕ) (stack : List Bracket) : Type 0 where
  pub size : length stack ≡ level
  pub of_kinds : (k : ℕ) → is_some (depth_of k stack) ≡ has_kind kinds k

-- a tree that may be placed where `level` brackets are open, of the kinds `kinds`
pub record Fits (kinds level : ℕ) (t : Tree) : Type 0 where
  pub closed : is_closed t ≡ true
  pub uncapped : is_capped t ≡ false
  pub apart : (k : ℕ) → is_missing k t ≡ true → has_kind kinds k ≡ false
  pub room : level + nesting t ≤ MOST_OPEN

-- ---- stories

abbrev pub prepend : List Judged → Story → Story
prepend entries s = record { closers = s.closers; entries = entries ++ s.entries }

-- Where `level` brackets are open, of the kinds `kinds`, the trees are the parse of the rows `ahead` up to the rows
-- `rest`: they spell these rows, the parse continues with the rest after their entries, and they close none of the
-- open brackets.
pub record Tells (kinds level : ℕ) (ahead rest : List Row) (ts : List Tree) : Type 0 where
  pub spells : ahead ≡ glue (all_rows ts) rest
  pub story : (p : Length) (stack : List Bracket) → IsStack kinds level stack
      → parse stack (placed p ahead) ≡ prepend (all_entries p level ts) (parse stack (placed (length_plus p (all_length ts)) rest))
  pub closes_none : (k : ℕ) → has_kind kinds k ≡ true → any_missing k ts ≡ false

-- the tree of a whole text with these rows: it spells the rows, and shows the result of parsing all their brackets
pub record IsTreeOf (rows : List Row) (t : Tree) : Type 0 where
  pub spells : tree_rows t ≡ rows
  pub story : tree_story t ≡ bracket_story (placed no_length rows)
  pub levels : (p : Length) → tree_level t p ≡ bracket_level (placed no_length rows) p

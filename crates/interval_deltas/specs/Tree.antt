-- What contracts see of a tree, and the invariant of its fields.
use Rattle.std.specs.Prelude.{ℕ, ◌≡◌, ◌==◌, List, [], ◌∷◌, length, Option, Some, None, if◌then◌else◌, count_by}
use Rattle.rb_arena.specs.Names.{HaveOwnNames}
use Rattle.rb_arena.specs.RbTree.{Listed}
use Rattle.decoration_rules.specs.declared.Mark.{Mark}
use Rattle.decoration_rules.specs.Marks.{IsInOrder, HasDistinctIds}
use Rattle.interval_deltas.specs.declared.names.Entry.{Entry}
use Rattle.interval_deltas.specs.declared.weave.KeptMark.{KeptMark}
use Rattle.interval_deltas.specs.Kept.{AreMarks, marks_of}
use Rattle.interval_deltas.specs.Names.{node_of, is_named}

pub record Shown : Type 0 where
  -- sorted by start, then by end, then by id
  pub marks : List Mark
  -- the number of further decorations for which there is room
  pub spare : ℕ

-- the node of the first item with the id
abbrev pub node_in : List (ℕ × KeptMark) → ℕ → Option ℕ
node_in [] id = None
node_in (item ∷ items) id = if id == item.1.label.id then Some item.0 else node_in items id

-- the items are decorations in order, each with a name of its own, which `names` has for its id; no item is loose
pub record IsTree (tree : Listed KeptMark) (names : List Entry) : Type 0 where
  pub loose : tree.loose ≡ []
  pub values : AreMarks tree.items
  pub ordered : IsInOrder (marks_of tree.items)
  pub distinct : HasDistinctIds (marks_of tree.items)
  pub own : HaveOwnNames tree.items []
  pub named : (id : ℕ) → node_of names id ≡ node_in tree.items id
  pub all : count_by is_named names ≡ length tree.items

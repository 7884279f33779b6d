-- What contracts see of the runs on both sides of a gap, and how these are stored in a tree.
use Rattle.std.specs.Prelude.{ℕ, ◌≡◌, ◌+◌, ◌-◌, ◌<◌, ◌^◌, ⊤, Option, None, nat_lt, if◌then◌else◌, List, [], ◌∷◌, ◌++◌}
use Rattle.rb_arena.specs.RbTree.{SplitsAt, last_or}
use Rattle.line_hunks.specs.declared.run.Run.{Run}
use Rattle.line_hunks.specs.declared.run.Place.{Place}
use Rattle.line_hunks.specs.Run.{lines_in}

pub record Shown : Type 0 where
  -- the runs before the gap, from the last to the first
  pub front : List Run
  -- the runs after the gap, from the first to the last
  pub back : List Run
  -- the number of further runs for which there is room
  pub room : ℕ

-- the runs in `front`, listed from the last to the first, put in order before the others
abbrev pub turned : List Run → List Run → List Run
turned [] runs = runs
turned (run ∷ front) runs = turned front (run ∷ runs)

-- the runs of the items, without their names
abbrev pub runs_of : List (ℕ × Run) → List Run
runs_of [] = []
runs_of (item ∷ items) = item.1 ∷ runs_of items

-- the items that lie within the first `lines` lines, and the others
abbrev pub items_before : ℕ → List (ℕ × Run) → List (ℕ × Run)
items_before lines [] = []
items_before lines (item ∷ items) =
    if nat_lt lines item.1.lines then [] else item ∷ items_before (lines - item.1.lines) items

abbrev pub items_behind : ℕ → List (ℕ × Run) → List (ℕ × Run)
items_behind lines [] = []
items_behind lines (item ∷ items) =
    if nat_lt lines item.1.lines then item ∷ items else items_behind (lines - item.1.lines) items

-- what is shown of a tree with these items and this room, and with the gap after `lines` lines
abbrev pub shown : List (ℕ × Run) → ℕ → ℕ → Shown
shown items lines room = record {
  front = turned (runs_of (items_before lines items)) [];
  back = runs_of (items_behind lines items);
  room = room;
}

-- each run has a line
abbrev pub HaveLines : List (ℕ × Run) → Type 0
HaveLines [] = ⊤
HaveLines (item ∷ items) = (0 < item.1.lines) × HaveLines items

-- the gap is between the items `us` and `vs`: after `lines` lines, and after the item named `before`
pub record AreParts (items : List (ℕ × Run)) (before : Option ℕ) (lines : ℕ) (us vs : List (ℕ × Run)) : Type 0 where
  pub whole : items ≡ us ++ vs
  pub count : lines ≡ lines_in (runs_of us)
  pub last : before ≡ last_or None us
  pub some : HaveLines items
  pub small : lines_in (runs_of items) < 2 ^ 62

abbrev pub IsParted : List (ℕ × Run) → Option ℕ → ℕ → Type 0
IsParted items before lines = AreParts items before lines (items_before lines items) (items_behind lines items)

-- the line with `lines` lines before it is in the item named `id`
pub record FindsLine (items : List (ℕ × Run)) (lines id : ℕ) (place : Place) : Type 0 where
  pub lower : List (ℕ × Run)
  pub upper : List (ℕ × Run)
  pub splits : SplitsAt items id lower place.run upper
  pub line : lines ≡ lines_in (runs_of lower) + place.before
  pub within : place.before < place.run.lines

-- the line with `lines` lines before it is in this run, among the runs on both sides and the run `gap` between them
pub record Holds (s : Shown) (gap : Run) (lines : ℕ) (place : Place) : Type 0 where
  pub lower : List Run
  pub upper : List Run
  pub order : turned lower (place.run ∷ upper) ≡ turned s.front (gap ∷ s.back)
  pub line : lines ≡ lines_in lower + place.before
  pub within : place.before < place.run.lines

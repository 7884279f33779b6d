-- Entries left to list.
use Rattle.std.specs.Prelude.{◌≡◌, ℕ, ◌+◌, ◌*◌, List, [], ◌∷◌, ◌++◌, ⊤}
use Rattle.bracket_rules.specs.declared.Entry.{Entry}
use Rattle.bracket_rules.specs.Parse.{Judged, is_between}
use Rattle.bracket_nodes.specs.Shapes.{tree_size}
use Rattle.bracket_nodes.specs.Seen.{seen_tree}
use Rattle.bracket_nodes.specs.Walks.{HasRoom, chosen, entry_if}
use Rattle.bracket_nodes.specs.Parts.{entries_at}
use Rattle.bracket_nodes.specs.declared.listing.LineRange.{LineRange}
use Rattle.bracket_nodes.specs.declared.listing.Left.{Left}
use Rattle.bracket_nodes.specs.declared.listing.Left.TheVariants.{Part, One}

-- the entries that start in the lines `from` to `to`
abbrev pub entries_left : ℕ → ℕ → Left → List Entry
entries_left from to (Part here level) = chosen from to (entries_at here level)
entries_left from to (One entry) = entry_if (is_between from to entry) entry

-- the last element is listed first
abbrev pub all_left : ℕ → ℕ → List Left → List Entry
all_left from to [] = []
all_left from to (x ∷ xs) = all_left from to xs ++ entries_left from to x

-- these entries were pushed before all others that were left
abbrev pub LeavesFirst : List Judged → List Left → List Left → Type 0
LeavesFirst js old new = (from to : ℕ) → all_left from to new ≡ chosen from to js ++ all_left from to old

-- these entries were appended to the listed ones, or pushed before all others that were left
abbrev pub ListsFirst : LineRange → List Judged → List Entry → List Left → List Entry → List Left → Type 0
ListsFirst lines js listed left listed' left' =
    listed' ++ all_left lines.from lines.to left' ≡ (listed ++ chosen lines.from lines.to js) ++ all_left lines.from lines.to left

abbrev pub HasRoomLeft : Left → Type 0
HasRoomLeft (Part here level) = HasRoom here.start level (seen_tree here.node)
HasRoomLeft (One entry) = ⊤

-- an upper bound for the number of steps that the listing takes
abbrev pub steps_left : Left → ℕ
steps_left (Part here level) = 2 * tree_size (seen_tree here.node)
steps_left (One entry) = 1

abbrev pub all_steps : List Left → ℕ
all_steps [] = 0
all_steps (x ∷ xs) = steps_left x + all_steps xs

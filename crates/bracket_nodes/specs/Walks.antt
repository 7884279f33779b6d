-- Walks down a tree to one place.
use Rattle.std.specs.Prelude.{◌≡◌, ◌≢◌, ℕ, ◌+◌, ◌<◌, ◌^◌, ⊤, Bool, if◌then◌else◌, List, [], ◌∷◌, Option, Some, None}
use Rattle.text_lengths.specs.declared.Length.{Length}
use Rattle.bracket_rules.specs.declared.Entry.{Entry}
use Rattle.std.specs.Option.{option_map}
use Rattle.bracket_rules.specs.Parse.{Spot, Judged, entries_of, entries_between, partner_at}
use Rattle.bracket_tree_rules.specs.Tree.{Tree, text, pair, stray, capped, nothing, two, three, weight, nesting, inside_end, tree_entries, tree_partner, IsTree}

-- the level after entries with this last level, which is relative to the level of their tree; without entries, the
-- level before them
abbrev pub level_from : ℕ → ℕ → Option ℕ → ℕ
level_from level before None = before
level_from level before (Some last) = level + last

abbrev pub place_and_len : Spot → Length × ℕ
place_and_len s = (s.place, s.len)

-- the places and levels of a tree at this start and level fit 64 bits
pub record HasRoom (start : Length) (level : ℕ) (t : Tree) : Type 0 where
  pub tree : IsTree t
  pub places : start.lines + start.columns + weight t < 2 ^ 64
  pub levels : level + nesting t < 2 ^ 64

-- those of the entries that start in the lines `from` to `to`
abbrev pub chosen : ℕ → ℕ → List Judged → List Entry
chosen from to js = entries_between from to (entries_of js)

abbrev pub entry_if : Bool → Entry → List Entry
entry_if chosen e = if chosen then e ∷ [] else []

-- ---- partners

-- Place q is not the start of a bracket of a closed pair that is the tree itself, not a part of it.
abbrev pub NoOwnPartnerAt : Length → Tree → Length → Type 0
NoOwnPartnerAt p (text l) q = ⊤
NoOwnPartnerAt p (pair kind open_width inside None) q = ⊤
NoOwnPartnerAt p (pair kind open_width inside (Some close_width)) q = (p ≢ q) × (inside_end p open_width inside ≢ q)
NoOwnPartnerAt p (stray kind width) q = ⊤
NoOwnPartnerAt p (capped kind width) q = ⊤
NoOwnPartnerAt p nothing q = ⊤
NoOwnPartnerAt p (two a b) q = ⊤
NoOwnPartnerAt p (three a b c) q = ⊤

-- the partner found at place q in the tree that starts at place r is also the one found there in the whole tree
abbrev pub ShowsPartner : Tree → Length → Tree → Length → Type 0
ShowsPartner whole r t q = (found : Option (Length × ℕ))
    → ((level : ℕ) → option_map place_and_len (partner_at q (tree_entries r level t)) ≡ found)
    → option_map place_and_len (tree_partner whole q) ≡ found

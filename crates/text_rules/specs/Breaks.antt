-- The line breaks of a text, given by their end offsets.
use Rattle.std.specs.Prelude.{ℕ, ◌+◌, ◌==◌, Bool, false, ◌&&◌, ◌||◌, leb, if◌then◌else◌, List, [], ◌∷◌}
use Rattle.std.specs.List.{prefix_len}
use Rattle.unit_text.specs.Endings.{line_feed, carriage_return, begins_with}
pub use Rattle.unit_text.specs.Endings.{ends_with, joins_pair}

-- a break ends with unit `u`, which the units `after` follow
abbrev pub ends_break : ℕ → List ℕ → Bool
ends_break u after = if u == carriage_return && begins_with line_feed after then false else u == carriage_return || u == line_feed

-- the end offsets of the breaks in a text that starts at offset `at`
abbrev pub break_ends : ℕ → List ℕ → List ℕ
break_ends at [] = []
break_ends at (u ∷ after) = if ends_break u after then (at + 1) ∷ break_ends (at + 1) after else break_ends (at + 1) after

-- the number of leading offsets in an ascending list that are at most `place`
abbrev pub count_to : ℕ → List ℕ → ℕ
count_to place ends = prefix_len (λ e. leb e place) ends

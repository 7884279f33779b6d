-- The joint properties of the nodes of a list, one after another.
use Rattle.std.specs.Prelude.{ℕ, Bool, false, ◌||◌, List, [], ◌∷◌, ◌++◌}
use Rattle.text_lengths.specs.declared.Length.{Length}
use Rattle.text_lengths.specs.Length.{no_length, length_plus}
use Rattle.bracket_rules.specs.Parse.{Bracket, Judged}
use Rattle.bracket_rules.specs.Rows.{Row}
use Rattle.bracket_rules.specs.TextRows.{empty_row, glue}
use Rattle.bracket_tree_rules.specs.Tree.{Tree, tree_length, tree_tokens, tree_entries, tree_rows, is_missing}

abbrev pub all_length : List Tree → Length
all_length [] = no_length
all_length (t ∷ ts) = length_plus (tree_length t) (all_length ts)

-- the concatenation of what each node shows at its place, if the first starts at place p
abbrev pub spread : {X : Type 0} → (Length → Tree → List X) → Length → List Tree → List X
spread show p [] = []
spread show p (t ∷ ts) = show p t ++ spread show (length_plus p (tree_length t)) ts

abbrev pub all_tokens : Length → List Tree → List Bracket
all_tokens p ts = spread tree_tokens p ts

abbrev pub entries_at : ℕ → Length → Tree → List Judged
entries_at level p t = tree_entries p level t

abbrev pub all_entries : Length → ℕ → List Tree → List Judged
all_entries p level ts = spread (entries_at level) p ts

abbrev pub all_rows : List Tree → List Row
all_rows [] = empty_row ∷ []
all_rows (t ∷ ts) = glue (tree_rows t) (all_rows ts)

abbrev pub any_missing : ℕ → List Tree → Bool
any_missing k [] = false
any_missing k (t ∷ ts) = is_missing k t || any_missing k ts

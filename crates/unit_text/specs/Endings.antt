-- Line endings: LF, CR, or CR LF as one, as in the text buffer of VS Code.
use Rattle.std.specs.Prelude.{ℕ, ◌==◌, Bool, false, ◌&&◌, List, [], ◌∷◌}
use Rattle.unit_text.specs.declared.TheConstants.{LINE_FEED, CARRIAGE_RETURN}

abbrev pub line_feed : ℕ
line_feed = LINE_FEED

abbrev pub carriage_return : ℕ
carriage_return = CARRIAGE_RETURN

abbrev pub begins_with : ℕ → List ℕ → Bool
begins_with unit [] = false
begins_with unit (u ∷ x) = u == unit

abbrev pub ends_with : ℕ → List ℕ → Bool
ends_with unit [] = false
ends_with unit (u ∷ []) = u == unit
ends_with unit (u ∷ v ∷ x) = ends_with unit (v ∷ x)

-- the first text ends with a CR and the second begins with an LF
abbrev pub joins_pair : List ℕ → List ℕ → Bool
joins_pair x y = ends_with carriage_return x && begins_with line_feed y

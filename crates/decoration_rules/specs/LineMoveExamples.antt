-- Worked examples of the definitions.
use Rattle.std.specs.Prelude.{◌≡◌, ℕ, List, [], ◌∷◌, map, codes, refl}
use Rattle.decoration_rules.specs.declared.LineMove.{LineMove}
use Rattle.decoration_rules.specs.Lines.{carried_place}
use Rattle.unit_text.specs.declared.kind.Kind.TheVariants.{Lf, Crlf}
use Rattle.unit_text.specs.Kinds.{normalized}
use Rattle.decoration_rules.specs.LineMoves.{line_moves, turned}

abbrev mixed_text : List ℕ
mixed_text = codes "a\r\nb\rc"

abbrev line : ℕ → ℕ → ℕ → LineMove
line old content new = record { old = old; content = content; new = new }

-- `a LF b LF c`
moves_to_line_feeds : line_moves mixed_text (normalized Lf mixed_text) ≡ line 0 1 0 ∷ line 3 1 2 ∷ line 5 1 4 ∷ []
moves_to_line_feeds = refl

-- `a CR LF b CR LF c`
moves_to_pairs : line_moves mixed_text (normalized Crlf mixed_text) ≡ line 0 1 0 ∷ line 3 1 3 ∷ line 5 1 6 ∷ []
moves_to_pairs = refl

moves_back : line_moves (normalized Crlf mixed_text) mixed_text ≡ map turned (line 0 1 0 ∷ line 3 1 3 ∷ line 5 1 6 ∷ [])
moves_back = refl

-- the empty text has one line
moves_of_no_text : line_moves [] [] ≡ line 0 0 0 ∷ []
moves_of_no_text = refl

-- a break at the end begins a line
moves_behind_a_break : line_moves (codes "\n") (codes "\r\n") ≡ line 0 0 0 ∷ line 1 0 2 ∷ []
moves_behind_a_break = refl

-- an offset before the CR, between CR and LF, after the LF, and at the end
places_that_are_carried : map (carried_place (line_moves mixed_text (normalized Lf mixed_text))) (1 ∷ 2 ∷ 3 ∷ 6 ∷ []) ≡ 1 ∷ 1 ∷ 2 ∷ 5 ∷ []
places_that_are_carried = refl

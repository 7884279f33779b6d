-- Worked examples of the definitions.
use Rattle.std.specs.Prelude.{◌≡◌, [], ◌∷◌, codes, refl}
use Rattle.line_starts.specs.Starts.{starts_of, break_count, break_ends_at}

starts_of_four_lines : starts_of (codes "a\r\nb\rc\nd") ≡ 0 ∷ 3 ∷ 5 ∷ 7 ∷ []
starts_of_four_lines = refl

breaks_of_four_lines : break_count (codes "a\r\nb\rc\nd") ≡ 3
breaks_of_four_lines = refl

breaks_from_a_place : break_ends_at 10 (codes "a\r\nb\n") ≡ 13 ∷ 15 ∷ []
breaks_from_a_place = refl

starts_of_no_text : starts_of [] ≡ 0 ∷ []
starts_of_no_text = refl

starts_after_a_lone_break : starts_of (codes "\r") ≡ 0 ∷ 1 ∷ []
starts_after_a_lone_break = refl

no_break : break_count (codes "ab") ≡ 0
no_break = refl

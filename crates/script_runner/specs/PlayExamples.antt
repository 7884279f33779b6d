-- Worked examples of the words of the program and of the line that sums a played script up.
use Rattle.std.specs.Prelude.{◌≡◌, ℕ, List, [], ◌∷◌, map, codes, refl}
use Rattle.std.specs.Fmt.{digits}
use Rattle.script_runner.specs.declared.words.Words.{Words}
use Rattle.script_runner.specs.declared.words.Words.TheVariants.{Run, Play, NoCommand}
use Rattle.script_runner.specs.Words.{words_command}
use Rattle.script_runner.specs.Playing.{summary_line}

the_word_run : words_command (codes "run" ∷ []) ≡ Run
the_word_run = refl

abbrev played : List ℕ → List ℕ → Words
played count seed = words_command (codes "play" ∷ count ∷ seed ∷ [])

-- the second has the greatest numbers
scripts_to_play : played (codes "12") (codes "0") ∷ played (codes "10000000") (codes "18446744073709551615") ∷ []
    ≡ Play 12 0 ∷ Play 10000000 18446744073709551615 ∷ []
scripts_to_play = refl

a_plus_or_zeros : played (codes "+1") (codes "0") ∷ played (codes "001") (codes "+05") ∷ []
    ≡ Play 1 0 ∷ Play 1 5 ∷ []
a_plus_or_zeros = refl

too_great_a_number : played (codes "10000001") (codes "0") ∷ played (codes "1") (codes "18446744073709551616") ∷ []
    ≡ NoCommand ∷ NoCommand ∷ []
too_great_a_number = refl

-- a minus, a point, a plus alone, and nothing
no_number : map (λ count. played count (codes "0")) (codes "-1" ∷ codes "1.0" ∷ codes "+" ∷ [] ∷ [])
    ≡ NoCommand ∷ NoCommand ∷ NoCommand ∷ NoCommand ∷ []
no_number = refl

-- `--` may stand once behind the name, and not before it
dashes : map words_command (
    (codes "run" ∷ codes "--" ∷ [])
    ∷ (codes "play" ∷ codes "--" ∷ codes "5" ∷ codes "1" ∷ [])
    ∷ (codes "play" ∷ codes "5" ∷ codes "1" ∷ codes "--" ∷ [])
    ∷ []
    ) ≡ Run ∷ Play 5 1 ∷ Play 5 1 ∷ []
dashes = refl

no_dashes : map words_command (
    (codes "--" ∷ [])
    ∷ (codes "--" ∷ codes "run" ∷ [])
    ∷ (codes "run" ∷ codes "--" ∷ codes "--" ∷ [])
    ∷ (codes "play" ∷ codes "5" ∷ codes "--" ∷ [])
    ∷ []
    ) ≡ NoCommand ∷ NoCommand ∷ NoCommand ∷ NoCommand ∷ []
no_dashes = refl

no_seed : words_command (codes "play" ∷ codes "1" ∷ []) ≡ NoCommand
no_seed = refl

a_summary : summary_line 1 0 0 1 9 470 ≡ codes "commands 1 refused 0 units 0 lines 1 bytes 9 sum 470\n"
unfolding digits
a_summary = refl

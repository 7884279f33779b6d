-- Worked examples of the definitions.
use Rattle.std.specs.Prelude.{◌≡◌, List, [], ◌∷◌, codes, false, refl}
use Rattle.text_rules.specs.declared.Op.{Op}
use Rattle.text_batches.specs.Needs.{edit_count, text_breaks}

-- a CR in the text of one op and an LF in that of the next
abbrev two_halves_of_a_pair : List Op
two_halves_of_a_pair =
    record { span = record { start = 0; end = 0 }; text = codes "\r"; force = false }
    ∷ record { span = record { start = 0; end = 0 }; text = codes "\n"; force = false } ∷ []

each_text_counts_alone : text_breaks two_halves_of_a_pair ≡ 2
each_text_counts_alone = refl

a_short_text_is_one_edit : edit_count two_halves_of_a_pair ≡ 2
a_short_text_is_one_edit = refl

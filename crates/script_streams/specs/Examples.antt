-- Worked examples of the definitions.
use Rattle.std.specs.Prelude.{◌≡◌, Some, refl, codes}
use Rattle.script_streams.specs.Streams.{Gave, Took, tally_after}

two_of_three : Gave (Some (codes "abc")) (Some (codes "c")) (codes "ab")
two_of_three = refl

three_after_one : Took (Some (codes "a")) (Some (codes "abcd")) (codes "bcd")
three_after_one = refl

-- the codes of a and b are 97 and 98
tally_of_two : tally_after (record { count = 1; sum = 4294967295 }) (codes "ab") ≡ record { count = 3; sum = 194 }
tally_of_two = refl

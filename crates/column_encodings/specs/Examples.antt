-- Worked examples of the definitions.
use Rattle.std.specs.Prelude.{◌≡◌, ℕ, List, [], ◌∷◌, Some, None, map, refl}
use Rattle.column_encodings.specs.declared.Encoding.TheVariants.{Utf8, Utf16, Utf32}
use Rattle.column_encodings.specs.Columns.{characters, length_in, column_in, offset_of}

letter : length_in Utf8 (0x61 ∷ []) ≡ 1
letter = refl

letter_with_accent : length_in Utf8 (0xE9 ∷ []) ≡ 2
letter_with_accent = refl

euro_sign : length_in Utf8 (0x20AC ∷ []) ≡ 3
euro_sign = refl

emoji_in_bytes : length_in Utf8 (0xD83D ∷ 0xDE00 ∷ []) ≡ 4
emoji_in_bytes = refl

emoji_in_units : length_in Utf16 (0xD83D ∷ 0xDE00 ∷ []) ≡ 2
emoji_in_units = refl

emoji_in_code_points : length_in Utf32 (0xD83D ∷ 0xDE00 ∷ []) ≡ 1
emoji_in_code_points = refl

-- an unpaired surrogate counts as U+FFFD
lone_surrogate_in_bytes : length_in Utf8 (0xD83D ∷ []) ≡ 3
lone_surrogate_in_bytes = refl

lone_surrogate_in_code_points : length_in Utf32 (0xD83D ∷ []) ≡ 1
lone_surrogate_in_code_points = refl

-- `aé€😀`, and then an unpaired low surrogate
abbrev line : List ℕ
line = 0x61 ∷ 0xE9 ∷ 0x20AC ∷ 0xD83D ∷ 0xDE00 ∷ 0xDE00 ∷ []

its_characters :
    characters line ≡ (0x61 ∷ []) ∷ (0xE9 ∷ []) ∷ (0x20AC ∷ []) ∷ (0xD83D ∷ 0xDE00 ∷ []) ∷ (0xDE00 ∷ []) ∷ []
its_characters = refl

abbrev offsets : List ℕ
offsets = 0 ∷ 1 ∷ 2 ∷ 3 ∷ 4 ∷ 5 ∷ 6 ∷ 7 ∷ []

-- offset 4 is inside the pair, offset 7 is beyond the end
bytes_before :
    map (column_in Utf8 line) offsets ≡ Some 0 ∷ Some 1 ∷ Some 3 ∷ Some 6 ∷ None ∷ Some 10 ∷ Some 13 ∷ None ∷ []
bytes_before = refl

units_before :
    map (column_in Utf16 line) offsets ≡ Some 0 ∷ Some 1 ∷ Some 2 ∷ Some 3 ∷ None ∷ Some 5 ∷ Some 6 ∷ None ∷ []
units_before = refl

code_points_before :
    map (column_in Utf32 line) offsets ≡ Some 0 ∷ Some 1 ∷ Some 2 ∷ Some 3 ∷ None ∷ Some 4 ∷ Some 5 ∷ None ∷ []
code_points_before = refl

-- `aé` has three bytes; column 2 is inside `é`, column 4 inside `€`
after_bytes : map (offset_of Utf8 line) (1 ∷ 2 ∷ 3 ∷ 4 ∷ 6 ∷ 10 ∷ 13 ∷ 14 ∷ [])
    ≡ Some 1 ∷ None ∷ Some 2 ∷ None ∷ Some 3 ∷ Some 5 ∷ Some 6 ∷ None ∷ []
after_bytes = refl

after_units : map (offset_of Utf16 line) offsets ≡ Some 0 ∷ Some 1 ∷ Some 2 ∷ Some 3 ∷ None ∷ Some 5 ∷ Some 6 ∷ None ∷ []
after_units = refl

after_code_points : map (offset_of Utf32 line) (3 ∷ 4 ∷ 5 ∷ 6 ∷ []) ≡ Some 3 ∷ Some 5 ∷ Some 6 ∷ None ∷ []
after_code_points = refl

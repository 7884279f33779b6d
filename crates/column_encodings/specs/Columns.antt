-- Columns: offsets in a line, counted in UTF-8 bytes, UTF-16 units or code points (the Unicode Standard, section 3.9).
-- The content of a line is a list of UTF-16 units.
use Rattle.std.specs.Prelude.{ℕ, ◌+◌, ◌-◌, ◌==◌, ◌&&◌, Bool, nat_lt, nat_le, if◌then◌else◌, List, [], ◌∷◌, length, take, sum_by, Option, Some, None, option_map}
use Rattle.std.specs.Char.Utf16.{is_high_surrogate, is_low_surrogate}
use Rattle.unit_text.specs.Units.{is_place}
use Rattle.column_encodings.specs.declared.Encoding.{Encoding}
use Rattle.column_encodings.specs.declared.Encoding.TheVariants.{Utf8, Utf16, Utf32}

-- the two units are a high surrogate and a low one
abbrev pub is_pair : ℕ → ℕ → Bool
is_pair high low = is_high_surrogate high && is_low_surrogate low

-- the characters of the line as lists of units: a pair of surrogates is one character, and so is each other unit
abbrev pub characters : List ℕ → List (List ℕ)
characters [] = []
characters (unit ∷ []) = (unit ∷ []) ∷ []
characters (unit ∷ next ∷ after) =
    if is_pair unit next then (unit ∷ next ∷ []) ∷ characters after else (unit ∷ []) ∷ characters (next ∷ after)

-- the number of UTF-8 bytes of an unpaired unit; an unpaired surrogate counts as U+FFFD, which has three
abbrev pub lone_width : ℕ → ℕ
lone_width unit = if nat_lt unit 0x80 then 1 else (if nat_lt unit 0x800 then 2 else 3)

-- the number of bytes, units or code points of a character; a pair has four bytes
abbrev pub width : Encoding → List ℕ → ℕ
width Utf8 (unit ∷ []) = lone_width unit
width Utf8 _ = 4
width Utf16 character = length character
width Utf32 character = 1

-- the number of bytes, units or code points of the units
abbrev pub length_in : Encoding → List ℕ → ℕ
length_in encoding units = sum_by (width encoding) (characters units)

-- the column of an offset: the number of bytes, units or code points before it; None if the offset is invalid
abbrev pub column_in : Encoding → List ℕ → ℕ → Option ℕ
column_in encoding units offset = if is_place units offset then Some (length_in encoding (take offset units)) else None

-- the offset of a column among the characters; None if the column is inside a character or beyond the end
abbrev pub offset_among : Encoding → List (List ℕ) → ℕ → Option ℕ
offset_among encoding [] column = if column == 0 then Some 0 else None
offset_among encoding (character ∷ after) column =
    if column == 0 then Some 0 else
    (if nat_le (width encoding character) column
    then option_map (λ offset. length character + offset) (offset_among encoding after (column - width encoding character))
    else None)

-- the offset of a column
abbrev pub offset_of : Encoding → List ℕ → ℕ → Option ℕ
offset_of encoding units column = offset_among encoding (characters units) column

-- Units and UTF-8 (the Unicode Standard, section 3.9), and JSON strings (RFC 8259, section 7).
use Rattle.std.specs.Prelude.{ℕ, ◌/◌, ◌%◌, ◌==◌, nat_lt, List, [], ◌∷◌, ◌++◌, if◌then◌else◌, codes}
use Rattle.std.specs.Char.{digit_char}
use Rattle.std.specs.Char.Utf16.{utf16_lossy_chars}
use Rattle.std.specs.Char.Escape.{encode_utf16}
use Rattle.std.specs.List.{flat_map}
use Rattle.std.specs.Str.{chars, encode_utf8_all}

-- the UTF-16 units of a text given as UTF-8 bytes
abbrev pub units_of : List ℕ → List ℕ
units_of text = flat_map encode_utf16 (chars text)

-- the UTF-8 bytes of the units, with U+FFFD for each unpaired surrogate
abbrev pub utf8_of : List ℕ → List ℕ
utf8_of units = encode_utf8_all (utf16_lossy_chars units)

-- a character in a JSON string: a quotation mark, a backslash and the control characters are escaped
abbrev pub quoted_char : ℕ → List ℕ
quoted_char c =
    if c == 34 then codes "\\\"" else
    (if c == 92 then codes "\\\\" else
    (if c == 10 then codes "\\n" else
    (if c == 13 then codes "\\r" else
    (if c == 9 then codes "\\t" else
    (if nat_lt c 32 then codes "\\u00" ++ digit_char (c / 16) ∷ digit_char (c % 16) ∷ []
    else encode_utf8_all (c ∷ []))))))

-- the JSON string of the units, with its quotation marks
abbrev pub quoted : List ℕ → List ℕ
quoted units = codes "\"" ++ flat_map quoted_char (utf16_lossy_chars units) ++ codes "\""

-- Worked examples of the definitions.
use Rattle.std.specs.Prelude.{◌≡◌, ℕ, List, ◌∷◌, [], true, false, codes, refl}
use Rattle.std.specs.Char.Utf16.{utf16_chars}
use Rattle.std.specs.Str.{chars}
use lib.Utf8.{encode}
use Rattle.unit_text.specs.Units.{cuts_pair, is_place}
use Rattle.unit_text.specs.Text.{units_of, utf8_of, quoted}
use Rattle.unit_text.specs.declared.kind.Kind.TheVariants.{Mixed, Lf, Crlf}
use Rattle.unit_text.specs.Kinds.{normalized, is_place_in}

-- `a😀`
an_emoji_is_two_units : units_of (0x61 ∷ 0xF0 ∷ 0x9F ∷ 0x98 ∷ 0x80 ∷ []) ≡ 0x61 ∷ 0xD83D ∷ 0xDE00 ∷ []
unfolding chars
an_emoji_is_two_units = refl

a_pair_is_one_character : utf8_of (0xD83D ∷ 0xDE00 ∷ []) ≡ 0xF0 ∷ 0x9F ∷ 0x98 ∷ 0x80 ∷ []
unfolding utf16_chars encode
a_pair_is_one_character = refl

a_lone_surrogate_is_replaced : utf8_of (0xD83D ∷ []) ≡ 0xEF ∷ 0xBF ∷ 0xBD ∷ []
unfolding utf16_chars encode
a_lone_surrogate_is_replaced = refl

control_characters_are_escaped : quoted (0x61 ∷ 0x22 ∷ 0x01 ∷ 0x0A ∷ []) ≡ codes "\"a\\\"\\u0001\\n\""
unfolding utf16_chars encode
control_characters_are_escaped = refl

-- a form feed and the last control character, in lower-case hexadecimal
escapes_are_hexadecimal : quoted (12 ∷ 31 ∷ []) ≡ codes "\"\\u000c\\u001f\""
unfolding utf16_chars encode
escapes_are_hexadecimal = refl

a_delete_is_not_escaped : quoted (127 ∷ []) ≡ 34 ∷ 127 ∷ 34 ∷ []
unfolding utf16_chars encode
a_delete_is_not_escaped = refl

inside_a_pair : cuts_pair (0xD83D ∷ 0xDE00 ∷ []) 1 ≡ true
inside_a_pair = refl

after_a_pair : is_place (0xD83D ∷ 0xDE00 ∷ []) 2 ≡ true
after_a_pair = refl

past_the_end : is_place (0xD83D ∷ 0xDE00 ∷ []) 3 ≡ false
past_the_end = refl

-- CR LF is one ending; a CR without an LF after it is one, and so is an LF before a CR
abbrev mixed_text : List ℕ
mixed_text = codes "a\r\nb\rc\n\rd"

mixed_stays : normalized Mixed mixed_text ≡ mixed_text
mixed_stays = refl

as_line_feeds : normalized Lf mixed_text ≡ codes "a\nb\nc\n\nd"
as_line_feeds = refl

as_pairs : normalized Crlf mixed_text ≡ codes "a\r\nb\r\nc\r\n\r\nd"
as_pairs = refl

-- between CR and LF: a valid offset in a text of kind Mixed, an invalid one in a text of kind Crlf
a_place_between : is_place_in Mixed (codes "a\r\nb") 2 ≡ true
a_place_between = refl

no_place_between : is_place_in Crlf (codes "a\r\nb") 2 ≡ false
no_place_between = refl

a_place_before_a_pair : is_place_in Crlf (codes "a\r\nb") 1 ≡ true
a_place_before_a_pair = refl

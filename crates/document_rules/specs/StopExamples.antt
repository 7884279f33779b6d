-- Worked examples of the definitions.
use Rattle.std.specs.Prelude.{◌≡◌, [], ◌∷◌, refl}
use Rattle.std.specs.Char.Utf16.{utf16_chars}
use Rattle.std.specs.Str.{chars}
use lib.Utf8.{encode}
use Rattle.unicode_segmentation.proofs.Computing.{unicode_segmentation}
use Rattle.document_rules.specs.Stops.{stops_of}

an_empty_line : stops_of [] ≡ []
unfolding utf16_chars chars encode unicode_segmentation
an_empty_line = refl

-- `e` with an acute accent, `x`
an_accent_belongs_to_its_letter : stops_of (0x65 ∷ 0x301 ∷ 0x78 ∷ []) ≡ 1 ∷ 3 ∷ []
unfolding utf16_chars chars encode unicode_segmentation
an_accent_belongs_to_its_letter = refl

-- `😀x`
an_emoji_is_two_columns_wide : stops_of (0xD83D ∷ 0xDE00 ∷ 0x78 ∷ []) ≡ 1 ∷ 3 ∷ []
unfolding utf16_chars chars encode unicode_segmentation
an_emoji_is_two_columns_wide = refl

a_lone_surrogate_is_one_column_wide : stops_of (0x65 ∷ 0xDE00 ∷ 0x78 ∷ []) ≡ 1 ∷ 2 ∷ 3 ∷ []
unfolding utf16_chars chars encode unicode_segmentation
a_lone_surrogate_is_one_column_wide = refl

-- two flags, each of two letters
a_flag_is_one_cluster : stops_of (0xD83C ∷ 0xDDEB ∷ 0xD83C ∷ 0xDDF7 ∷ 0xD83C ∷ 0xDDE9 ∷ 0xD83C ∷ 0xDDEA ∷ []) ≡ 1 ∷ 5 ∷ []
unfolding utf16_chars chars encode unicode_segmentation
a_flag_is_one_cluster = refl

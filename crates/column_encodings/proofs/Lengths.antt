-- The length of a line in UTF-8 bytes, UTF-16 units and code points.
use Rattle.std.proofs.Common.{◌≡◌, ℕ, ◌+◌, ◌<◌, ◌≤◌, true, false, ◌&&◌, nat_le, nat_lt, cond, Bool, List, [], ◌∷◌, length, get_or, All, unwrap_or, Some, None, encode_utf8, encode_utf8_all, refl, ap, ◌∙◌, arith, length-append, lt-ltb, le-ltb}
use Rattle.std.proofs.lemmas.Bool.Decides.{nat_tests}
use Rattle.std.proofs.lemmas.List.Elements.{All-head, All-tail}
use Rattle.std.proofs.lemmas.Str.{length-encode}
use Rattle.std.specs.Char.{len_utf8}
use Rattle.std.specs.Char.Utf16.{utf16_lossy_chars, surrogate_pair_char, lone_unit_char}
use Rattle.unit_text.specs.Text.{utf8_of}
use Rattle.unit_text.proofs.Chars.{utf16_lossy_chars-nil, utf16_lossy_chars_last, utf16_lossy_chars_pair, utf16_lossy_chars_lone}
use Rattle.column_encodings.specs.declared.Encoding.TheVariants.{Utf8, Utf16, Utf32}
use Rattle.column_encodings.specs.Columns.{is_pair, lone_width, length_in}
use Rattle.column_encodings.proofs.Characters.{characters_lone, characters_pair, by_characters, length_past}

abbrev lone_char : ℕ → ℕ
lone_char unit = unwrap_or (lone_unit_char unit) 0xFFFD

lossy_lone : (unit : ℕ) (after : List ℕ) → is_pair unit (get_or after 0 0) ≡ false
    → utf16_lossy_chars (unit ∷ after) ≡ lone_char unit ∷ utf16_lossy_chars after
lossy_lone unit [] lone = utf16_lossy_chars_last unit
lossy_lone unit (next ∷ after) lone = utf16_lossy_chars_lone unit next after lone

bytes_past : (units after : List ℕ) (c : ℕ) → utf16_lossy_chars units ≡ c ∷ utf16_lossy_chars after
    → length (utf8_of units) ≡ len_utf8 c + length (utf8_of after)
bytes_past units after c first =
    ap (λ cs. length (encode_utf8_all cs)) first
    ∙ length-append (encode_utf8 c) (utf8_of after)
    ∙ ap (λ n. n + length (utf8_of after)) (length-encode c)

lone_bytes_by : (unit : ℕ) (surrogate : Bool) → (nat_le 0xD800 unit && nat_lt unit 0xE000) ≡ surrogate → unit < 0x1_0000
    → len_utf8 (unwrap_or (cond surrogate None (Some unit)) 0xFFFD) ≡ lone_width unit
lone_bytes_by unit true is fits = grind (arith, nat_tests)
lone_bytes_by unit false is fits = rw (lt-ltb unit 0x1_0000 fits) refl

lone_bytes : (unit : ℕ) → unit < 0x1_0000 → len_utf8 (lone_char unit) ≡ lone_width unit
lone_bytes unit fits = lone_bytes_by unit _ refl fits

bytes_above : (c : ℕ) → 0x1_0000 ≤ c → len_utf8 c ≡ 4
bytes_above c above =
    let one : 0x80 ≤ c = omega arith in
    let two : 0x800 ≤ c = omega arith in
    rw (le-ltb c 0x80 one, le-ltb c 0x800 two, le-ltb c 0x1_0000 above) refl

pair_bytes : (high low : ℕ) → len_utf8 (surrogate_pair_char high low) ≡ 4
pair_bytes high low = bytes_above (surrogate_pair_char high low) (omega arith)

pub length_in-utf8 : (units : List ℕ) → All (λ unit. unit < 0x1_0000) units → length_in Utf8 units ≡ length (utf8_of units)
length_in-utf8 = by_characters (λ units. All (λ unit. unit < 0x1_0000) units → length_in Utf8 units ≡ length (utf8_of units))
    (λ fit. rw utf16_lossy_chars-nil refl)
    (λ unit after lone behind fit. omega (
      arith,
      length_past Utf8 (unit ∷ after) (unit ∷ []) after (characters_lone unit after lone),
      bytes_past (unit ∷ after) after (lone_char unit) (lossy_lone unit after lone),
      lone_bytes unit (All-head (λ u. u < 0x1_0000) unit after fit),
      behind (All-tail (λ u. u < 0x1_0000) unit after fit),
    ))
    (λ high low after pair behind fit. omega (
      arith,
      length_past Utf8 (high ∷ low ∷ after) (high ∷ low ∷ []) after (characters_pair high low after pair),
      bytes_past (high ∷ low ∷ after) after (surrogate_pair_char high low) (utf16_lossy_chars_pair high low after pair),
      pair_bytes high low,
      behind (All-tail (λ u. u < 0x1_0000) low after (All-tail (λ u. u < 0x1_0000) high (low ∷ after) fit)),
    ))

pub length_in-utf16 : (units : List ℕ) → length_in Utf16 units ≡ length units
length_in-utf16 = by_characters (λ units. length_in Utf16 units ≡ length units)
    refl
    (λ unit after lone behind. omega (
      arith,
      length_past Utf16 (unit ∷ after) (unit ∷ []) after (characters_lone unit after lone),
      behind,
    ))
    (λ high low after pair behind. omega (
      arith,
      length_past Utf16 (high ∷ low ∷ after) (high ∷ low ∷ []) after (characters_pair high low after pair),
      behind,
    ))

pub length_in-utf32 : (units : List ℕ) → length_in Utf32 units ≡ length (utf16_lossy_chars units)
length_in-utf32 = by_characters (λ units. length_in Utf32 units ≡ length (utf16_lossy_chars units))
    (rw utf16_lossy_chars-nil refl)
    (λ unit after lone behind. omega (
      arith,
      length_past Utf32 (unit ∷ after) (unit ∷ []) after (characters_lone unit after lone),
      ap length (lossy_lone unit after lone),
      behind,
    ))
    (λ high low after pair behind. omega (
      arith,
      length_past Utf32 (high ∷ low ∷ after) (high ∷ low ∷ []) after (characters_pair high low after pair),
      ap length (utf16_lossy_chars_pair high low after pair),
      behind,
    ))

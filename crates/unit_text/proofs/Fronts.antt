-- The units of a front of a text, and of what follows it.
use Rattle.std.proofs.Common.{◌≡◌, ℕ, ◌<◌, suc, List, [], ◌∷◌, ◌++◌, length, take, drop, map, get_or, Fits, w8, refl, sym, ap, ap₂, ◌∙◌, arith}
use Rattle.std.proofs.lemmas.Bool.Decides.{nat_tests}
use Rattle.std.proofs.lemmas.Grind.{flat_map-append}
use Rattle.std.proofs.lemmas.List.{length-append, take-append-drop}
use Rattle.std.proofs.lemmas.Str.{chars-nil, chars-IsAscii, chars-append, chars_past_char, IsUtf8-from_ascii, IsUtf8-past_char, length-encode, len_utf8_bounds}
use Rattle.std.specs.Char.Escape.{encode_utf16}
use Rattle.std.specs.List.{flat_map}
use Rattle.std.specs.Str.{IsAscii, IsUtf8, chars}
use Rattle.unit_text.specs.Text.{units_of}
use lib.Utf8.{encode}

pub units_of_nil : units_of [] ≡ []
units_of_nil = ap (flat_map encode_utf16) chars-nil

one_unit : (b : ℕ) → b < 128 → encode_utf16 b ≡ b ∷ []
one_unit b few = grind (arith, nat_tests)

units_of_bytes : (bs : List ℕ) → IsAscii bs → flat_map encode_utf16 bs ≡ bs
units_of_bytes [] ascii = refl
units_of_bytes (b ∷ bs) ascii =
    ap (λ units. units ++ flat_map encode_utf16 bs) (one_unit b (ascii 0))
    ∙ ap (λ units. b ∷ units) (units_of_bytes bs (λ i. ascii (suc i)))

pub units_of_ascii : (bs : List ℕ) → IsAscii bs → units_of bs ≡ bs
units_of_ascii bs ascii = ap (flat_map encode_utf16) (chars-IsAscii bs ascii) ∙ units_of_bytes bs ascii

-- a step over ASCII
pub past_ascii : (n : ℕ) (text : List ℕ) → IsAscii (take n text) → units_of text ≡ units_of (take n text) ++ units_of (drop n text)
past_ascii n text ascii =
    ap units_of (sym (take-append-drop n text))
    ∙ ap (flat_map encode_utf16) (chars-append (take n text) (drop n text) (IsUtf8-from_ascii (take n text) ascii))
    ∙ flat_map-append encode_utf16 (chars (take n text)) (chars (drop n text))

-- a step over one character
pub past_character : (text after : List ℕ) (c : ℕ) → IsUtf8 text → text ≡ encode c ++ after
    → IsUtf8 after × (units_of text ≡ encode_utf16 c ++ units_of after) × (length after < length text)
past_character text after c utf8 is = (
  IsUtf8-past_char text after c utf8 is,
  ap (flat_map encode_utf16) (chars_past_char text after c utf8 is),
  omega (arith, ap length is, length-append (encode c) after, length-encode c, len_utf8_bounds c),
)

-- a change of each byte that changes none
pub each_same : (f : ℕ → ℕ) (bs : List ℕ) → ((b : ℕ) → Fits w8 b → f b ≡ b) → ((i : ℕ) → Fits w8 (get_or bs i 0)) → map f bs ≡ bs
each_same f [] same fit = refl
each_same f (b ∷ bs) same fit = ap₂ (λ c cs. c ∷ cs) (same b (fit 0)) (each_same f bs same (λ i. fit (suc i)))

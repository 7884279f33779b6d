-- How many units and how many bytes a character takes.
use Rattle.std.proofs.Common.{◌≡◌, ℕ, ◌+◌, ◌<◌, ◌≤◌, List, [], ◌∷◌, ◌++◌, length, encode_utf8, flat_map, refl, ap, inl, inr, lt-ltb, le-ltb, length-append, arith}
use Rattle.std.specs.Char.Escape.{encode_utf16}
use Rattle.std.specs.Char.{len_utf8}
use Rattle.std.proofs.lemmas.Bool.{cases_lt}
use Rattle.std.proofs.lemmas.List.Concat.{flat_map-append}
use Rattle.std.proofs.lemmas.Str.{length-encode, len_utf8_bounds}

-- the result of `len_utf16`
module _ (c n : ℕ) (one : c < 0x1_0000 → n ≡ 1) (two : 0x1_0000 ≤ c → n ≡ 2) where
  units_of_char : n ≡ length (encode_utf16 c)
  units_of_char = elim (cases_lt c 0x1_0000) [
    | inl below ↦ rw (lt-ltb c 0x1_0000 below) (one below)
    | inr above ↦ rw (le-ltb c 0x1_0000 above) (two above)
  ]

  wide : 0x1_0000 ≤ c → len_utf8 c ≡ 4
  wide above =
      let first : 0x80 ≤ c = omega arith in
      let second : 0x800 ≤ c = omega arith in
      rw (le-ltb c 0x80 first, le-ltb c 0x800 second, le-ltb c 0x1_0000 above) refl

  pub units_within : n ≤ length (encode_utf8 c)
  units_within = elim (cases_lt c 0x1_0000) [
    | inl below ↦ omega (arith, one below, length-encode c, len_utf8_bounds c)
    | inr above ↦ omega (arith, two above, length-encode c, wide above)
  ]

  pub more_units : (cs : List ℕ) → length (flat_map encode_utf16 (cs ++ c ∷ [])) ≡ length (flat_map encode_utf16 cs) + n
  more_units cs =
      omega (
        arith,
        ap length (flat_map-append encode_utf16 cs (c ∷ [])),
        length-append (flat_map encode_utf16 cs) (flat_map encode_utf16 (c ∷ [])),
        length-append (encode_utf16 c) [],
        units_of_char,
      )

-- The first character of a list of units.
use Rattle.std.proofs.Common.{◌≡◌, ℕ, true, false, ◌&&◌, List, [], ◌∷◌, refl, unwrap_or}
use Rattle.std.specs.Char.Utf16.{utf16_chars, utf16_lossy_chars, is_high_surrogate, is_low_surrogate, surrogate_pair_char, lone_unit_char}
use Rattle.std.proofs.lemmas.Str.{utf16_chars-nil}

pub utf16_lossy_chars-nil : utf16_lossy_chars [] ≡ []
utf16_lossy_chars-nil = rw utf16_chars-nil

pub utf16_lossy_chars_last : (u : ℕ) → utf16_lossy_chars (u ∷ []) ≡ unwrap_or (lone_unit_char u) 0xFFFD ∷ utf16_lossy_chars []
unfolding utf16_chars
utf16_lossy_chars_last u = refl

module _ (u v : ℕ) (us : List ℕ) where
  pub utf16_lossy_chars_pair : (is_high_surrogate u && is_low_surrogate v) ≡ true
      → utf16_lossy_chars (u ∷ v ∷ us) ≡ surrogate_pair_char u v ∷ utf16_lossy_chars us
  unfolding utf16_chars
  utf16_lossy_chars_pair pair = rw pair

  pub utf16_lossy_chars_lone : (is_high_surrogate u && is_low_surrogate v) ≡ false
      → utf16_lossy_chars (u ∷ v ∷ us) ≡ unwrap_or (lone_unit_char u) 0xFFFD ∷ utf16_lossy_chars (v ∷ us)
  unfolding utf16_chars
  utf16_lossy_chars_lone apart = rw apart

-- Texts as lists of UTF-16 code units, and their valid offsets (the Unicode Standard, section 3.9).
use Rattle.std.specs.Prelude.{ℕ, ◌-◌, ◌≡◌, List, slice_index, length, Bool, false, not, ◌&&◌, nat_lt, nat_le}
use Rattle.std.specs.Char.Utf16.{is_high_surrogate, is_low_surrogate, has_unpaired_surrogate}

-- the offset is between a high surrogate and a low surrogate that follows it
abbrev pub cuts_pair : List ℕ → ℕ → Bool
cuts_pair units offset =
    nat_lt 0 offset && is_high_surrogate (slice_index units (offset - 1)) && is_low_surrogate (slice_index units offset)

-- the offset is valid: it is at most the text's length, and not inside a pair of surrogates
abbrev pub is_place : List ℕ → ℕ → Bool
is_place units offset = nat_le offset (length units) && not (cuts_pair units offset)

-- each surrogate of the text is part of a pair
abbrev pub IsPaired : List ℕ → Type 0
IsPaired units = has_unpaired_surrogate units ≡ false

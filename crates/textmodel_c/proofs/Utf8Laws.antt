-- A call on a text in UTF-8 does what the same call does on its units, or changes nothing.
use Rattle.std.proofs.Common.{◌≡◌, ◌⊎◌, inl, inr, ℕ, Bool, true, false, List, Err, refl, subst, IsUtf8}
use Rattle.std.specs.Str.{is_utf8}
use Rattle.std.proofs.lemmas.Str.{is_utf8-from_IsUtf8, IsUtf8-from_is_utf8}
use Rattle.unit_text.specs.Text.{units_of}
use Rattle.textmodel_c.specs.declared.status.Status.{Status}
use Rattle.textmodel_c.specs.declared.status.Status.TheVariants.{Memory}
use Rattle.textmodel_c.specs.Utf8.{GivesUnits, InUtf8}

pub not_utf8 : (text : List ℕ) → (IsUtf8 text → ⊥) → is_utf8 text ≡ false
not_utf8 text wrong = by (is_utf8 text) refl
  where
    by : (valid : Bool) → is_utf8 text ≡ valid → is_utf8 text ≡ false
    by true is = absurd (wrong (IsUtf8-from_is_utf8 text is))
    by false is = is

pub with_units : (n : ℕ) (text : List ℕ) (kept : Type 0) (says : List ℕ → Type 0) (units : List ℕ) → IsUtf8 text → units ≡ units_of text → says units
    → InUtf8 n text kept says
with_units n text kept says units utf8 is told = record { valid = λ _. inl (subst says is told); invalid = λ wrong. absurd (wrong utf8) }

-- a text in UTF-8 has units where there is memory for them
pub short_of_memory : (text : List ℕ) (s : Status) → IsUtf8 text → GivesUnits text (Err s) → s ≡ Memory
short_of_memory text s utf8 (inl (valid, is)) = is
short_of_memory text s utf8 (inr (invalid, is)) = absurd (invalid utf8)

or_kept : {says kept short : Type 0} → says ⊎ (short × kept) → says ⊎ kept
or_kept (inl told) = inl told
or_kept (inr (memory, same)) = inr same

pub as_units : (n : ℕ) (text : List ℕ) (kept : Type 0) (says : List ℕ → Type 0) → InUtf8 n text kept says → says (units_of text) ⊎ kept
as_units n text kept says call = by (is_utf8 text) refl
  where
    by : (valid : Bool) → is_utf8 text ≡ valid → says (units_of text) ⊎ kept
    by true is = or_kept (call.valid (IsUtf8-from_is_utf8 text is))
    by false is = inr (call.invalid (λ utf8. let valid = is_utf8-from_IsUtf8 text utf8 in absurd cc)).1

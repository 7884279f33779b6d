-- A column in a line is no more than three times as far as the line has units.
use Rattle.std.proofs.Common.{◌≡◌, ℕ, ◌+◌, ◌*◌, ◌≤◌, Bool, true, false, List, length, take, Option, Some, None, if◌then◌else◌, refl, arith}
use Rattle.std.specs.Prelude.{IfSome, unwrap_or}
use Rattle.unit_text.specs.Units.{is_place}
use Rattle.column_encodings.specs.declared.Encoding.{Encoding}
use Rattle.column_encodings.specs.Columns.{length_in, column_in}
use Rattle.column_encodings.proofs.Characters.{length_in-le}
use Rattle.std.proofs.lemmas.List.{length-take}

column_by : (place : Bool) (encoding : Encoding) (units : List ℕ) (offset n : ℕ)
    → (if place then Some (length_in encoding (take offset units)) else None) ≡ Some n → n ≤ 3 * length units
column_by true encoding units offset n is =
    let same : length_in encoding (take offset units) ≡ n = cc in
    omega (arith, same, length_in-le encoding (take offset units), length-take offset units)
column_by false encoding units offset n is = absurd cc

pub column_within : (encoding : Encoding) (units : List ℕ) (offset n : ℕ) → column_in encoding units offset ≡ Some n → n ≤ 3 * length units
column_within encoding units offset n is = column_by (is_place units offset) encoding units offset n is

pub within_or : (found : Option ℕ) (most : ℕ) → ((n : ℕ) → found ≡ Some n → n ≤ most) → unwrap_or found 0 ≤ most
within_or None most within = omega arith
within_or (Some n) most within = within n refl

pub one_above : (found : Option ℕ) (most : ℕ) → ((n : ℕ) → found ≡ Some n → n ≤ most) → IfSome found (λ n. n ≤ most + 1)
one_above None most within = tt
one_above (Some n) most within = let le = within n refl in omega (arith, le)

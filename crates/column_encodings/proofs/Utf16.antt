-- In UTF-16 a valid offset is its own column.
use Rattle.std.proofs.Common.{◌≡◌, ℕ, ◌≤◌, Bool, true, false, nat_le, List, length, take, IfSome, refl, sym, ap, ◌∙◌, leb-true, length-take-le}
use Rattle.std.proofs.lemmas.Bool.{and_parts}
use Rattle.std.specs.Bool.{then_some}
use Rattle.unit_text.specs.Units.{is_place}
use Rattle.column_encodings.specs.declared.Encoding.TheVariants.{Utf16}
use Rattle.column_encodings.specs.Columns.{length_in, offset_of}
use Rattle.column_encodings.proofs.Laws.{offset_of_place, column_place, no_offset}
use Rattle.column_encodings.proofs.Lengths.{length_in-utf16}

own_column : (units : List ℕ) (offset : ℕ) → is_place units offset ≡ true → length_in Utf16 (take offset units) ≡ offset
own_column units offset place =
    let within : offset ≤ length units = leb-true offset (length units) (and_parts (nat_le offset (length units)) _ place).0 in
    length_in-utf16 (take offset units) ∙ length-take-le offset units within

offset_by : (units : List ℕ) (column : ℕ) (place : Bool) → is_place units column ≡ place
    → offset_of Utf16 units column ≡ then_some place column
offset_by units column true place =
    ap (offset_of Utf16 units) (sym (own_column units column place)) ∙ offset_of_place Utf16 units column place
offset_by units column false place =
    no_offset Utf16 units column (λ offset is.
    let here = column_place Utf16 units column offset is in
    let same : offset ≡ column = sym (own_column units offset here.0) ∙ here.1 in
    let other : is_place units column ≡ true = ap (is_place units) (sym same) ∙ here.0 in
    cc)

pub offset_of-utf16 : (units : List ℕ) (column : ℕ) → offset_of Utf16 units column ≡ then_some (is_place units column) column
offset_of-utf16 units column = offset_by units column _ refl

-- a valid offset is at most the length
pub place_within : (units : List ℕ) (column : ℕ) (place : Bool) → place ≡ is_place units column → IfSome (then_some place column) (λ offset. offset ≤ length units)
place_within units column true is = leb-true column (length units) (and_parts _ _ (sym is)).0
place_within units column false is = tt

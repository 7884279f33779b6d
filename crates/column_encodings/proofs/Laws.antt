-- Round trips between offsets and columns.
use Rattle.std.proofs.Common.{◌≡◌, ℕ, ◌+◌, ◌<◌, Bool, true, false, cond, List, ◌∷◌, ◌++◌, take, sum_by, Option, Some, None, refl, sym, ap, ◌∙◌}
use Rattle.unit_text.specs.Units.{is_place}
use Rattle.column_encodings.specs.declared.Encoding.{Encoding}
use Rattle.column_encodings.specs.Columns.{characters, width, length_in, column_in, offset_among, offset_of}
use Rattle.column_encodings.proofs.There.{offset_of_place as found}
use Rattle.column_encodings.proofs.Back.{place_of_offset}
use Rattle.column_encodings.proofs.Outside.{falls_inside, falls_beyond}

of_a_place : (place : Bool) (measured column : ℕ) → cond place (Some measured) None ≡ Some column → (place ≡ true) × (measured ≡ column)
of_a_place true measured column is = (refl, cc)
of_a_place false measured column is = absurd cc

found_none : (found : Option ℕ) → ((offset : ℕ) → found ≡ Some offset → ⊥) → found ≡ None
found_none None none = refl
found_none (Some offset) none = absurd (none offset refl)

-- a valid offset has a column, whose offset is the same
pub column_of_place : (encoding : Encoding) (units : List ℕ) (offset : ℕ) → is_place units offset ≡ true
    → column_in encoding units offset ≡ Some (length_in encoding (take offset units))
column_of_place encoding units offset place = rw place refl

pub offset_of_place : (encoding : Encoding) (units : List ℕ) (offset : ℕ) → is_place units offset ≡ true
    → offset_of encoding units (length_in encoding (take offset units)) ≡ Some offset
offset_of_place encoding units offset place = found encoding units offset place

pub column_place : (encoding : Encoding) (units : List ℕ) (column offset : ℕ) → column_in encoding units offset ≡ Some column
    → (is_place units offset ≡ true) × (length_in encoding (take offset units) ≡ column)
column_place encoding units column offset is = of_a_place _ _ column is

pub offset_of_column : (encoding : Encoding) (units : List ℕ) (column offset : ℕ) → column_in encoding units offset ≡ Some column
    → offset_of encoding units column ≡ Some offset
offset_of_column encoding units column offset is =
    let parts = column_place encoding units column offset is in
    ap (offset_of encoding units) (sym parts.1) ∙ offset_of_place encoding units offset parts.0

-- the offset of a column is valid, and has that column
pub column_of_offset : (encoding : Encoding) (units : List ℕ) (column offset : ℕ) → offset_of encoding units column ≡ Some offset
    → column_in encoding units offset ≡ Some column
column_of_offset encoding units column offset is =
    let back = place_of_offset encoding units column offset is in
    rw back.place (ap Some back.same)

-- a column that belongs to no valid offset has no offset
pub no_offset : (encoding : Encoding) (units : List ℕ) (column : ℕ)
    → ((offset : ℕ) → column_in encoding units offset ≡ Some column → ⊥) → offset_of encoding units column ≡ None
no_offset encoding units column none =
    found_none (offset_of encoding units column) (λ offset is. none offset (column_of_offset encoding units column offset is))

-- a column inside a character has no offset
pub no_offset_inside : (encoding : Encoding) (units : List ℕ) (before : List (List ℕ)) (character : List ℕ) (after : List (List ℕ)) (n : ℕ)
    → characters units ≡ before ++ character ∷ after → 0 < n → n < width encoding character
    → offset_of encoding units (sum_by (width encoding) before + n) ≡ None
no_offset_inside encoding units before character after n parts some within =
    ap (λ cs. offset_among encoding cs (sum_by (width encoding) before + n)) parts
    ∙ falls_inside encoding before character after n some within

-- a column beyond the end has no offset
pub no_offset_beyond : (encoding : Encoding) (units : List ℕ) (column : ℕ) → length_in encoding units < column
    → offset_of encoding units column ≡ None
no_offset_beyond encoding units column beyond = falls_beyond encoding (characters units) column beyond

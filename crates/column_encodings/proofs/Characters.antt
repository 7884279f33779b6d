-- Units, character by character.
use Rattle.std.proofs.Common.{◌≡◌, ℕ, ◌+◌, ◌-◌, ◌*◌, ◌<◌, ◌≤◌, Bool, true, false, List, [], ◌∷◌, length, get_or, sum_by, Option, Some, None, option_map, refl, sym, ap, ◌∙◌, arith, le-leb, ne_eqb}
use Rattle.std.proofs.lemmas.Bool.Decides.{nat_tests}
use Rattle.std.proofs.lemmas.List.Sums.{sum_by-cons}
use Rattle.column_encodings.specs.declared.Encoding.{Encoding}
use Rattle.column_encodings.specs.declared.Encoding.TheVariants.{Utf8, Utf16, Utf32}
use Rattle.column_encodings.specs.Columns.{is_pair, characters, lone_width, width, length_in, offset_among, offset_of}

pub no_pair_at_end : (unit : ℕ) → is_pair unit 0 ≡ false
no_pair_at_end unit = grind (arith, nat_tests)

pub characters_lone : (unit : ℕ) (after : List ℕ) → is_pair unit (get_or after 0 0) ≡ false
    → characters (unit ∷ after) ≡ (unit ∷ []) ∷ characters after
characters_lone unit [] lone = refl
characters_lone unit (next ∷ after) lone = rw lone

pub characters_pair : (high low : ℕ) (after : List ℕ) → is_pair high low ≡ true
    → characters (high ∷ low ∷ after) ≡ (high ∷ low ∷ []) ∷ characters after
characters_pair high low after pair = rw pair

-- an induction over the characters
module _ (P : List ℕ → Type 0) (none : P [])
    (lone : (unit : ℕ) (after : List ℕ) → is_pair unit (get_or after 0 0) ≡ false → P after → P (unit ∷ after))
    (pair : (high low : ℕ) (after : List ℕ) → is_pair high low ≡ true → P after → P (high ∷ low ∷ after)) where
  either : (unit next : ℕ) (after : List ℕ) (is : Bool) → is_pair unit next ≡ is → P after → P (next ∷ after) → P (unit ∷ next ∷ after)
  either unit next after true is behind at_next = pair unit next after is behind
  either unit next after false is behind at_next = lone unit (next ∷ after) is at_next

  pub by_characters : (units : List ℕ) → P units
  by_characters [] = none
  by_characters (unit ∷ []) = lone unit [] (no_pair_at_end unit) none
  by_characters (unit ∷ next ∷ after) =
      either unit next after _ refl (by_characters after) (by_characters (next ∷ after))

-- the length of units that begin with a character
pub length_past : (encoding : Encoding) (units character after : List ℕ) → characters units ≡ character ∷ characters after
    → length_in encoding units ≡ width encoding character + length_in encoding after
length_past encoding units character after first =
    ap (sum_by (width encoding)) first ∙ sum_by-cons (width encoding) character (characters after)

lone_width_bounds : (unit : ℕ) → (1 ≤ lone_width unit) × (lone_width unit ≤ 3)
lone_width_bounds unit = grind (arith, nat_tests)

pub width_lone : (encoding : Encoding) (unit : ℕ) → (1 ≤ width encoding (unit ∷ [])) × (width encoding (unit ∷ []) ≤ 3)
width_lone Utf8 unit = lone_width_bounds unit
width_lone Utf16 unit = (omega arith, omega arith)
width_lone Utf32 unit = (omega arith, omega arith)

pub width_pair : (encoding : Encoding) (high low : ℕ) → (1 ≤ width encoding (high ∷ low ∷ [])) × (width encoding (high ∷ low ∷ []) ≤ 4)
width_pair Utf8 high low = (omega arith, omega arith)
width_pair Utf16 high low = (omega arith, omega arith)
width_pair Utf32 high low = (omega arith, omega arith)

pub length_in-le : (encoding : Encoding) (units : List ℕ) → length_in encoding units ≤ 3 * length units
length_in-le encoding = by_characters (λ units. length_in encoding units ≤ 3 * length units)
    (omega arith)
    (λ unit after lone within. omega (
      arith,
      length_past encoding (unit ∷ after) (unit ∷ []) after (characters_lone unit after lone),
      width_lone encoding unit,
      within,
    ))
    (λ high low after pair within. omega (
      arith,
      length_past encoding (high ∷ low ∷ after) (high ∷ low ∷ []) after (characters_pair high low after pair),
      width_pair encoding high low,
      within,
    ))

-- the offset of a column past the first character
pub offset_past : (encoding : Encoding) (character : List ℕ) (after : List (List ℕ)) (column : ℕ) → 0 < column
    → width encoding character ≤ column
    → offset_among encoding (character ∷ after) column
    ≡ option_map (λ offset. length character + offset) (offset_among encoding after (column - width encoding character))
offset_past encoding character after column some fits =
    rw (ne_eqb column 0 (omega arith), le-leb (width encoding character) column fits)

pub shift_twice : (m n k : ℕ) (found : Option ℕ) → m + n ≡ k
    → option_map (λ offset. m + offset) (option_map (λ offset. n + offset) found) ≡ option_map (λ offset. k + offset) found
shift_twice m n k None sum = refl
shift_twice m n k (Some offset) sum = ap Some (omega arith)

-- a step of the search for a column
pub offset_step : (encoding : Encoding) (rest character after : List ℕ) (start next left remaining : ℕ) (found : Option ℕ)
    → characters rest ≡ character ∷ characters after → start + length character ≡ next → 0 < left
    → width encoding character ≤ left → left - width encoding character ≡ remaining
    → option_map (λ offset. start + offset) (offset_of encoding rest left) ≡ found
    → option_map (λ offset. next + offset) (offset_of encoding after remaining) ≡ found
offset_step encoding rest character after start next left remaining found first place some fits less is =
    sym (shift_twice start (length character) next _ place)
    ∙ ap (λ n. option_map (λ offset. start + offset)
    (option_map (λ offset. length character + offset) (offset_of encoding after n))) (sym less)
    ∙ ap (option_map (λ offset. start + offset)) (sym (offset_past encoding character (characters after) left some fits))
    ∙ ap (λ cs. option_map (λ offset. start + offset) (offset_among encoding cs left)) (sym first)
    ∙ is

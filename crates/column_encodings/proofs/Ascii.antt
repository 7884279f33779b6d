-- ASCII units: each is a character of its own, and counts one in each encoding.
use Rattle.std.proofs.Common.{◌≡◌, ℕ, suc, zero, ◌+◌, ◌-◌, ◌≤◌, Bool, true, false, cond, List, [], ◌∷◌, length, get_or, take, drop, Option, Some, None, option_map, refl, sym, ap, ◌∙◌, arith}
use Rattle.std.proofs.lemmas.Bool.Decides.{nat_tests}
use Rattle.std.proofs.lemmas.List.{length-drop}
use Rattle.std.proofs.lemmas.List.Sums.{prefix_len-le-length}
use Rattle.std.specs.Char.{is_ascii}
use Rattle.std.specs.List.{prefix_len}
use Rattle.column_encodings.specs.declared.Encoding.{Encoding}
use Rattle.column_encodings.specs.declared.Encoding.TheVariants.{Utf8, Utf16, Utf32}
use Rattle.column_encodings.specs.Columns.{is_pair, characters, width, length_in, offset_among, offset_of}
use Rattle.column_encodings.specs.Walk.{LeadsOn}
use Rattle.column_encodings.proofs.Characters.{characters_lone, length_past, offset_past, shift_twice}

ascii_alone : (unit next : ℕ) → is_ascii unit ≡ true → is_pair unit next ≡ false
ascii_alone unit next ascii = grind (arith, nat_tests)

ascii_width : (encoding : Encoding) (unit : ℕ) → is_ascii unit ≡ true → width encoding (unit ∷ []) ≡ 1
ascii_width Utf8 unit ascii = rw ascii refl
ascii_width Utf16 unit ascii = refl
ascii_width Utf32 unit ascii = refl

first_ascii : (ascii : Bool) (n m : ℕ) → suc n ≤ cond ascii (1 + m) 0 → (ascii ≡ true) × (n ≤ m)
first_ascii true n m few = (refl, omega arith)
first_ascii false n m few = absurd (omega arith)

-- a prefix has at most as many leading ASCII units as the whole list
pub ascii_in_take : (n : ℕ) (units : List ℕ) → prefix_len is_ascii (take n units) ≤ prefix_len is_ascii units
ascii_in_take zero units = omega arith
ascii_in_take (suc n) [] = omega arith
ascii_in_take (suc n) (unit ∷ after) = more (is_ascii unit) (ascii_in_take n after)
  where
    more : (ascii : Bool) {m k : ℕ} → m ≤ k → cond ascii (1 + m) 0 ≤ cond ascii (1 + k) 0
    more true le = omega arith
    more false le = omega arith

pub length_past_ascii : (encoding : Encoding) (n : ℕ) (units : List ℕ) → n ≤ prefix_len is_ascii units
    → length_in encoding units ≡ n + length_in encoding (drop n units)
length_past_ascii encoding zero units few = omega arith
length_past_ascii encoding (suc n) [] few = absurd (omega arith)
length_past_ascii encoding (suc n) (unit ∷ after) few =
    let first = first_ascii (is_ascii unit) n (prefix_len is_ascii after) few in
    omega (
      arith,
      length_past encoding (unit ∷ after) (unit ∷ []) after (characters_lone unit after (ascii_alone unit (get_or after 0 0) first.0)),
      ascii_width encoding unit first.0,
      length_past_ascii encoding n after first.1,
    )

pub none_past : (found : Option ℕ) → found ≡ option_map (λ offset. 0 + offset) found
none_past None = refl
none_past (Some offset) = ap Some (omega arith)

offset_past_ascii : (encoding : Encoding) (n : ℕ) (units : List ℕ) (column : ℕ) → n ≤ prefix_len is_ascii units → n ≤ column
    → offset_of encoding units column ≡ option_map (λ offset. n + offset) (offset_of encoding (drop n units) (column - n))
offset_past_ascii encoding zero units column few within =
    let whole : column ≡ column - 0 = omega arith in
    none_past (offset_of encoding units column) ∙ ap (λ left. option_map (λ offset. 0 + offset) (offset_of encoding units left)) whole
offset_past_ascii encoding (suc n) [] column few within = absurd (omega arith)
offset_past_ascii encoding (suc n) (unit ∷ after) column few within =
    let first = first_ascii (is_ascii unit) n (prefix_len is_ascii after) few in
    let wide = ascii_width encoding unit first.0 in
    let less : column - width encoding (unit ∷ []) ≡ column - 1 = omega (arith, wide) in
    let behind : column - 1 - n ≡ column - suc n = omega arith in
    ap (λ cs. offset_among encoding cs column) (characters_lone unit after (ascii_alone unit (get_or after 0 0) first.0))
    ∙ offset_past encoding (unit ∷ []) (characters after) column (omega arith) (omega (arith, wide))
    ∙ ap (λ left. option_map (λ offset. 1 + offset) (offset_of encoding after left)) less
    ∙ ap (option_map (λ offset. 1 + offset)) (offset_past_ascii encoding n after (column - 1) first.1 (omega arith))
    ∙ shift_twice 1 n (suc n) _ (omega arith)
    ∙ ap (λ left. option_map (λ offset. suc n + offset) (offset_of encoding (drop n after) left)) behind

pub leads_past_ascii : (encoding : Encoding) (n : ℕ) (units : List ℕ) (column : ℕ) → n ≤ prefix_len is_ascii units → n ≤ column
    → LeadsOn encoding units column (drop n units) (column - n)
leads_past_ascii encoding n units column few within =
    let size : n ≡ length units - length (drop n units) = omega (arith, few, length-drop n units, prefix_len-le-length is_ascii units) in
    offset_past_ascii encoding n units column few within
    ∙ ap (λ m. option_map (λ offset. m + offset) (offset_of encoding (drop n units) (column - n))) size

-- a step of the search for a column, past some units
pub offset_step_past : (encoding : Encoding) (units next : List ℕ) (start at left remaining : ℕ) (found : Option ℕ) → start + (length units - length next) ≡ at
    → LeadsOn encoding units left next remaining
    → option_map (λ offset. start + offset) (offset_of encoding units left) ≡ found
    → option_map (λ offset. at + offset) (offset_of encoding next remaining) ≡ found
offset_step_past encoding units next start at left remaining found place past is =
    sym (shift_twice start (length units - length next) at _ place) ∙ ap (option_map (λ offset. start + offset)) (sym past) ∙ is

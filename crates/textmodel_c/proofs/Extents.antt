-- The columns at which units of a line start and end.
use Rattle.std.proofs.Common.{◌≡◌, ℕ, ◌+◌, ◌-◌, ◌<◌, Bool, true, false, cond, not, List, length, nat_eq, nat_le, ◌&&◌, Option, Some, None, Result, Ok, Err, refl, sym, ap, ◌∙◌, subst, arith}
use Rattle.std.proofs.lemmas.Grind.{common_steps}
use Rattle.text_lengths.specs.declared.Position.{Position}
use Rattle.unit_text.specs.Units.{cuts_pair}
use Rattle.column_encodings.specs.declared.Encoding.{Encoding}
use Rattle.column_encodings.specs.Columns.{column_in}
use Rattle.document_rules.specs.declared.ModelError.{ModelError}
use Rattle.document_rules.specs.declared.ModelError.TheVariants.{Unknown, Range, Overlap, Limit, Memory}
use Rattle.document_rules.specs.Refusals.{FlatRefusal, range}
use Rattle.document_rules.specs.Outcomes.{RefusedFor}
use Rattle.document_rules.specs.Document.{FlatState, flat_line}
use Rattle.document_rules.specs.Brackets.{flat_match, flat_level}
use Rattle.document_rules.specs.Columns.{of_line}
use Rattle.textmodel_c.specs.Rules.{at, or_range, or_refused, both, told_as, encoding_of, is_utf16, column_at, column_before, column_of, column_as, extent_of, position_in, partner_in, flat_partner, flat_level_at}
use Rattle.textmodel_c.proofs.Refusals.{refused_told}

-- ---- a column beyond its line

not_one_above : (n before : ℕ) → n + 1 < before → nat_eq before (n + 1) ≡ false
not_one_above n before beyond = grind (arith, common_steps)

not_within : (n before : ℕ) → n + 1 < before → nat_le before n ≡ false
not_within n before beyond = grind (arith, common_steps)

none_beyond : (encoding : Encoding) (content : List ℕ) (before : ℕ) → length content + 1 < before → column_before encoding content before ≡ None
none_beyond encoding content before beyond = rw (not_one_above (length content) before beyond, not_within (length content) before beyond) refl

not_none : (column : ℕ) → 0 < column → nat_eq column 0 ≡ false
not_none column some = grind (arith, common_steps)

column_beyond : (encoding : Encoding) (content : List ℕ) (column : ℕ) → length content + 2 < column → column_at encoding column content ≡ None
column_beyond encoding content column beyond =
    rw (not_none column (omega (arith, beyond)), none_beyond encoding content (column - 1) (omega (arith, beyond))) refl

refused_beyond : (f : FlatState) (encoding : Encoding) (line column : ℕ) (content : List ℕ) → flat_line f line ≡ Ok content → length content + 2 < column
    → column_of f encoding (at line column) ≡ Err range
refused_beyond f encoding line column content is beyond = rw (is, column_beyond encoding content column beyond) refl

-- ---- both columns

module _ (f : FlatState) (encoding : Encoding) (p : Position) (units start : ℕ) (utf16 : is_utf16 encoding ≡ false) (starts : column_as f encoding p ≡ Ok start) where
  first : column_of f encoding p ≡ Ok start
  first = rw utf16 at starts

  pub extent_is : (end : ℕ) → column_as f encoding (at p.line (p.column + units)) ≡ Ok end → extent_of f encoding p units ≡ Ok (start, end - start)
  extent_is end ends =
      let second : column_of f encoding (at p.line (p.column + units)) ≡ Ok end = rw utf16 at ends in
      rw (utf16, first, second) refl

  pub extent_refused : (e : ModelError) → RefusedFor e (column_as f encoding (at p.line (p.column + units))) → RefusedFor e (extent_of f encoding p units)
  extent_refused e why =
      let second : RefusedFor e (column_of f encoding (at p.line (p.column + units))) = rw utf16 at why in
      rw (utf16, first)
      (refused_told _ e (told_as (λ end. (start, end)) (column_of f encoding (at p.line (p.column + units))))
      (refused_told (λ end. (start, end)) e (column_of f encoding (at p.line (p.column + units))) second))

  pub extent_beyond : (content : List ℕ) → flat_line f p.line ≡ Ok content → length content + 2 < p.column + units → extent_of f encoding p units ≡ Err range
  extent_beyond content is beyond = rw (utf16, first, refused_beyond f encoding p.line (p.column + units) content is beyond) refl

-- ---- what is asked at a position

some_of : {A : Type 0} (found : Option A) (x : A) → or_range found Ok ≡ Ok x → found ≡ Some x
some_of None x is = absurd cc
some_of (Some y) x is = let same : y ≡ x = cc in ap Some same

placed_told : {B : Type 0} (f : FlatState) (number : ℕ) (encoding : Encoding) (p q : Position) (on : Encoding → Position → Result B FlatRefusal)
    → encoding_of number ≡ Some encoding → or_range (position_in f encoding p) Ok ≡ Ok q
    → or_range (encoding_of number) (λ encoding. or_range (position_in f encoding p) (on encoding)) ≡ on encoding q
placed_told f number encoding p q on named placed = rw (named, some_of (position_in f encoding p) q placed) refl

range_refused : {A B : Type 0} (e : ModelError) (found : Option A) (on : A → Result B FlatRefusal) → RefusedFor e (or_range found Ok) → RefusedFor e (or_range found on)
range_refused Unknown None on why = absurd cc
range_refused Range None on why = refl
range_refused Overlap None on why = absurd cc
range_refused Limit None on why = absurd cc
range_refused Memory None on why = tt
range_refused Unknown (Some x) on why = absurd cc
range_refused Range (Some x) on why = absurd cc
range_refused Overlap (Some x) on why = absurd cc
range_refused Limit (Some x) on why = absurd cc
range_refused Memory (Some x) on why = tt

place_refused : {B : Type 0} (f : FlatState) (number : ℕ) (encoding : Encoding) (p : Position) (e : ModelError) (on : Encoding → Position → Result B FlatRefusal)
    → encoding_of number ≡ Some encoding → RefusedFor e (or_range (position_in f encoding p) Ok)
    → RefusedFor e (or_range (encoding_of number) (λ encoding. or_range (position_in f encoding p) (on encoding)))
place_refused f number encoding p e on named why = rw named (range_refused e (position_in f encoding p) (on encoding) why)

refused_on : {A B : Type 0} (e : ModelError) (rule : Result A FlatRefusal) (on : A → Result B FlatRefusal) → RefusedFor e rule → RefusedFor e (or_refused rule on)
refused_on Unknown rule on why = ap (λ r. or_refused r on) why
refused_on Range rule on why = ap (λ r. or_refused r on) why
refused_on Overlap rule on why = ap (λ r. or_refused r on) why
refused_on Limit rule on why = ap (λ r. or_refused r on) why
refused_on Memory rule on why = tt

module _ (f : FlatState) (number : ℕ) (encoding : Encoding) (p : Position) (named : encoding_of number ≡ Some encoding) where
  pub level_told : (q : Position) → or_range (position_in f encoding p) Ok ≡ Ok q → flat_level_at f number p ≡ flat_level f q
  level_told q placed = placed_told f number encoding p q (λ encoding. flat_level f) named placed

  pub level_refused : (e : ModelError) → RefusedFor e (or_range (position_in f encoding p) Ok) → RefusedFor e (flat_level_at f number p)
  level_refused e why = place_refused f number encoding p e (λ encoding. flat_level f) named why

  pub partner_told : (q : Position) (found : Option (Position × ℕ)) → or_range (position_in f encoding p) Ok ≡ Ok q → flat_match f q ≡ Ok found
      → flat_partner f number p ≡ partner_in f encoding found
  partner_told q found placed is =
      placed_told f number encoding p q (λ encoding q. or_refused (flat_match f q) (partner_in f encoding)) named placed
      ∙ ap (λ r. or_refused r (partner_in f encoding)) is

  pub partner_unplaced : (e : ModelError) → RefusedFor e (or_range (position_in f encoding p) Ok) → RefusedFor e (flat_partner f number p)
  partner_unplaced e why = place_refused f number encoding p e (λ encoding q. or_refused (flat_match f q) (partner_in f encoding)) named why

  pub partner_refused : (q : Position) (e : ModelError) → or_range (position_in f encoding p) Ok ≡ Ok q → RefusedFor e (flat_match f q)
      → RefusedFor e (flat_partner f number p)
  partner_refused q e placed why =
      subst (RefusedFor e) (sym (placed_told f number encoding p q (λ encoding q. or_refused (flat_match f q) (partner_in f encoding)) named placed))
      (refused_on e (flat_match f q) (partner_in f encoding) why)

-- A scan may pass the units that do not matter.
use Rattle.std.proofs.Common.{◌≡◌, ℕ, suc, ◌+◌, ◌<◌, ◌≤◌, Bool, true, false, cond, ◌||◌, Option, Some, None, List, [], ◌∷◌, length, drop, refl, ap, sym, ◌∙◌, arith}
use Rattle.std.specs.Prelude.{not, nat_lt}
use Rattle.std.specs.List.{position, position_or_len}
use Rattle.std.proofs.lemmas.Bool.{ltb-false}
use Rattle.std.proofs.lemmas.List.Sums.{prefix_len-le-length}
use Rattle.bracket_rules.specs.declared.Token.{Token}
use Rattle.bracket_rules.specs.Table.{Table, is_table, longest}
use Rattle.hiding_rules.specs.declared.LineState.TheVariants.{Code, Block}
use Rattle.hiding_rules.specs.declared.Within.{Within}
use Rattle.hiding_rules.specs.declared.Within.TheVariants.{State, Comment, String}
use Rattle.hiding_rules.specs.declared.Stretch.{Stretch}
use Rattle.hiding_rules.specs.Hidden.{Scanner, Front, front_of, front, hidden, scanned_from}
use Rattle.hiding_marks.specs.Reacts.{may_react, passing}
use Rattle.hiding_marks.proofs.Passes.{passes}
use Rattle.bracket_scan.specs.declared.table.hidden.Part.{Part}
use Rattle.bracket_scan.specs.Firsts.{may_begin}
use Rattle.bracket_scan.specs.Parts.{IsPart, may_show, may_matter}
use Rattle.bracket_scan.proofs.FirstUnits.{none_begins}
use Rattle.bracket_scan.proofs.Parts.{front_rest}

neither : (a b : Bool) → (a || b) ≡ false → (a ≡ false) × (b ≡ false)
neither true b h = cc
neither false b h = (refl, h)

module _ (by : Scanner) (valid : is_table by.table ≡ true) where
  -- one unit without a token, in the context of before
  abbrev goes_on : Within → Front
  goes_on within = record { token = None; after_first = 0; behind = within }

  front_passes : (at : ℕ) (within : Within) (u : ℕ) (units : List ℕ) → may_show by.table within u ≡ false
      → hidden by.marks within (u ∷ units) ≡ passing within → front by at within (u ∷ units) ≡ goes_on within
  front_passes at (State Code) u units none is =
      ap (λ (s : Option Stretch). front_of s (longest at 0 by.table (u ∷ units))) is
      ∙ ap (front_of None) (none_begins at u by.table units valid none)
  front_passes at (State Block) u units none is = ap (λ (s : Option Stretch). front_of s (longest at 0 by.table (u ∷ units))) is
  front_passes at Comment u units none is = ap (λ (s : Option Stretch). front_of s (longest at 0 by.table (u ∷ units))) is
  front_passes at (String opened) u units none is = ap (λ (s : Option Stretch). front_of s (longest at 0 by.table (u ∷ units))) is

  past_one : (at next : ℕ) (within : Within) (u : ℕ) (units : List ℕ) (b : Bool) → b ≡ may_matter by within u
      → scanned_from by (at + 1) 0 within units ≡ scanned_from by (at + 1 + next) 0 within (drop next units)
      → scanned_from by at 0 within (u ∷ units)
      ≡ scanned_from by (at + cond (not b) (1 + next) 0) 0 within (drop (cond (not b) (1 + next) 0) (u ∷ units))
  past_one at next within u units true e rest = ap (λ (n : ℕ). scanned_from by n 0 within (u ∷ units)) (omega arith)
  past_one at next within u units false e rest =
      let none = neither (may_show by.table within u) (may_react by.marks within u) (sym e) in
      let stands = front_passes at within u units none.0 (passes by.marks within u units none.1) in
      let behind : at + 1 + next ≡ at + (1 + next) = omega arith in
      let more : suc next ≡ 1 + next = omega arith in
      front_rest by at within u units (goes_on within) 1 stands refl
      ∙ rest
      ∙ ap (λ (n : ℕ). scanned_from by n 0 within (drop next units)) behind
      ∙ ap (λ (n : ℕ). scanned_from by (at + (1 + next)) 0 within (drop n (u ∷ units))) more

  past_all : (at : ℕ) (within : Within) (units : List ℕ)
      → scanned_from by at 0 within units
      ≡ scanned_from by (at + position_or_len (may_matter by within) units) 0 within (drop (position_or_len (may_matter by within) units) units)
  past_all at within [] = refl
  past_all at within (u ∷ units) =
      past_one at (position_or_len (may_matter by within) units) within u units (may_matter by within u) refl
      (past_all (at + 1) within units)

  pub passing_part : (at : ℕ) (within : Within) (units : List ℕ) (n : ℕ) → n ≡ position_or_len (may_matter by within) units → 0 < n
      → IsPart by at within units (record { token = None; len = n; behind = within })
  passing_part at within units n is some = record {
    some = some;
    few = let most : position_or_len (may_matter by within) units ≤ length units = prefix_len-le-length _ units in omega (arith, most, is);
    rest = past_all at within units ∙ ap (λ (k : ℕ). scanned_from by (at + k) 0 within (drop k units)) (sym is);
  }

-- ---- the answers of a search

-- the position that was found, or the length
module _ (test : ℕ → Bool) (units : List ℕ) where
  abbrev first : ℕ
  first = position_or_len test units

  pub position_found : (next : ℕ) → position test units ≡ Some next → next ≡ position_or_len test units
  position_found next h = of (nat_lt first (length units)) h
    where
      of : (b : Bool) → cond b (Some first) None ≡ Some next → next ≡ first
      of true is = cc
      of false is = cc

  pub none_found : position test units ≡ None → length units ≡ position_or_len test units
  none_found h = of (nat_lt first (length units)) refl h
    where
      of : (b : Bool) → b ≡ nat_lt first (length units) → cond b (Some first) None ≡ None → length units ≡ first
      of true e is = cc
      of false e is =
          let past : length units ≤ first = ltb-false first (length units) (sym e) in
          let most : first ≤ length units = prefix_len-le-length _ units in
          omega (arith, past, most)

-- The parts of a line, some of which comments and strings hide, and a line without hidden parts.
use Rattle.std.proofs.Common.{◌≡◌, ℕ, zero, suc, ◌+◌, ◌<◌, ◌≤◌, true, Option, Some, None, IfSome, List, [], ◌∷◌, length, drop, refl, ap, sym, ◌∙◌, arith, drop_of_length-le}
use Rattle.bracket_rules.specs.declared.Token.{Token}
use Rattle.bracket_rules.specs.declared.TheConstants.{MOST_BRACKET_UNITS}
use Rattle.bracket_rules.specs.Table.{Table, longest, units_after_first, tokens_of}
use Rattle.hiding_rules.specs.declared.LineState.{LineState}
use Rattle.hiding_rules.specs.declared.LineState.TheVariants.{Code}
use Rattle.hiding_rules.specs.declared.Within.{Within}
use Rattle.hiding_rules.specs.declared.Within.TheVariants.{Comment}
use Rattle.hiding_rules.specs.declared.Stretch.{Stretch}
use Rattle.hiding_rules.specs.Hidden.{Scanner, code, ending, hidden, after, scanned, Front, front_of, front, scanned_from, scanner, hidden_scan}
use Rattle.hiding_rules.specs.Marks.{Marks, is_none}
use Rattle.hiding_rules.proofs.NoMarks.{none_are_no_marks, unmarked}
use Rattle.bracket_scan.specs.declared.table.hidden.Part.{Part}
use Rattle.bracket_scan.specs.Parts.{IsPart}
use Rattle.bracket_scan.specs.Starts.{IsWithin}

-- ---- one part

module _ (by : Scanner) where
  passed_by : (at passed : ℕ) (within : Within) (units : List ℕ)
      → scanned_from by at passed within units ≡ scanned_from by (at + passed) 0 within (drop passed units)
  passed_by at zero within units = ap (λ n. scanned_from by n 0 within units) (omega arith)
  passed_by at (suc passed) within [] = refl
  passed_by at (suc passed) within (u ∷ units) =
      passed_by (suc at) passed within units
      ∙ ap (λ n. scanned_from by n 0 within (drop passed units)) (omega arith)

  -- the rest after the front is the rest after its first `len` units
  pub front_rest : (at : ℕ) (within : Within) (u : ℕ) (units : List ℕ) (f : Front) (len : ℕ)
      → front by at within (u ∷ units) ≡ f → suc f.after_first ≡ len
      → scanned_from by at 0 within (u ∷ units) ≡ after f.token (scanned_from by (at + len) 0 f.behind (drop len (u ∷ units)))
  front_rest at within u units f len stands size =
      ap (λ (x : Front). after x.token (scanned_from by (suc at) x.after_first x.behind units)) stands
      ∙ ap (after f.token)
      (passed_by (suc at) f.after_first f.behind units
      ∙ ap (λ n. scanned_from by n 0 f.behind (drop f.after_first units)) (omega arith)
      ∙ ap (λ n. scanned_from by (at + n) 0 f.behind (drop n (u ∷ units))) size)

  -- units that a mark, a comment or a string takes up
  pub hidden_part : (at : ℕ) (within : Within) (units : List ℕ) (s : Stretch) → 0 < length units
      → hidden by.marks within units ≡ Some s → 0 < s.units → s.units ≤ MOST_BRACKET_UNITS
      → IsPart by at within units (record { token = None; len = s.units; behind = s.behind })
  hidden_part at within [] s there hides some few = absurd (omega arith)
  hidden_part at within (u ∷ units) s there hides some few = record {
    some = some;
    few = omega arith;
    rest = front_rest at within u units (front_of (Some s) (longest at 0 by.table (u ∷ units))) s.units
        (ap (λ x. front_of x (longest at 0 by.table (u ∷ units))) hides) (omega arith);
  }

  -- a token, or a unit at which none begins
  pub shown_part : (at : ℕ) (within : Within) (units : List ℕ) (p : Part) → 0 < length units
      → hidden by.marks within units ≡ None → p.token ≡ longest at 0 by.table units → IfSome p.token (IsWithin (length units))
      → p.len ≡ suc (units_after_first p.token) → p.behind ≡ code → IsPart by at within units p
  shown_part at within [] p there hides stands fits size behind = absurd (omega arith)
  shown_part at within (u ∷ units) p there hides stands fits size behind = record {
    some = omega arith;
    few = omega (arith, few_of p.token fits, size);
    rest = front_rest at within u units (front_of None p.token) p.len
        (ap (λ x. front_of x (longest at 0 by.table (u ∷ units))) hides ∙ ap (front_of None) (sym stands)) (sym size)
        ∙ ap (λ (w : Within). after p.token (scanned_from by (at + p.len) 0 w (drop p.len (u ∷ units)))) (sym behind);
  }
    where
      few_of : (o : Option Token) → IfSome o (IsWithin (length (u ∷ units))) → units_after_first o ≤ length units
      few_of None fits = omega arith
      few_of (Some t) fits = omega (arith, fits.enough)

  commented : (at passed : ℕ) (units : List ℕ) → scanned_from by at passed Comment units ≡ scanned [] Code
  commented at passed [] = refl
  commented at (suc passed) (u ∷ units) = commented (suc at) passed units
  commented at zero (u ∷ units) = commented (suc at) 0 units

  -- a line comment takes up all units
  pub comment_part : (at : ℕ) (within : Within) (units : List ℕ) → within ≡ Comment → 0 < length units
      → IsPart by at within units (record { token = None; len = length units; behind = within })
  comment_part at within units is there =
      let enough : length units ≤ length units = omega arith in
      let none = drop_of_length-le units enough in
      record {
        some = there;
        few = omega arith;
        rest = ap (λ w. scanned_from by at 0 w units) is ∙ commented at 0 units
            ∙ ap (λ w. scanned [] (ending w)) (sym is)
            ∙ ap (scanned_from by (at + length units) 0 within) (sym none);
      }

-- ---- a line of which nothing is hidden

pub unhidden : (table : Table) (m : Marks) (state : LineState) (line : List ℕ) → state ≡ Code → is_none m ≡ true
    → hidden_scan (scanner table m) state line ≡ scanned (tokens_of table line) Code
unhidden table m state line begins none =
    ap (λ s. hidden_scan (scanner table m) s line) begins
    ∙ ap (λ x. hidden_scan (scanner table x) Code line) (none_are_no_marks m none)
    ∙ unmarked table line

-- Without marks of block comments every line that begins in code ends in code.
use Rattle.std.proofs.Common.{◌≡◌, ℕ, zero, suc, Bool, true, false, cond, Option, Some, None, IfSome, is_some, option_map, List, [], ◌∷◌, length, refl, ap, ◌∙◌}
use Rattle.std.specs.Prelude.{replicate, nat_eq, ◌==◌}
use Rattle.std.specs.List.{starts_with, list_any}
use Rattle.std.specs.Option.{option_or}
use Rattle.bracket_rules.specs.declared.Token.{Token}
use Rattle.hiding_rules.specs.declared.LineState.TheVariants.{Code, Block}
use Rattle.hiding_rules.specs.declared.Within.{Within}
use Rattle.hiding_rules.specs.declared.Within.TheVariants.{State, Comment, String}
use Rattle.hiding_rules.specs.declared.Stretch.{Stretch}
use Rattle.hiding_rules.specs.declared.TheConstants.{BACKSLASH}
use Rattle.hiding_rules.specs.Marks.{Marks, has_block}
use Rattle.hiding_rules.specs.Hidden.{Scanner, code, block, ending, stretch, one_unit, marked, quoted, block_opening, hidden_in_string, hidden, front_of, front, scanned_from, hidden_scan}
use Rattle.hiding_rules.specs.States.{states_from, line_states}
use Rattle.hiding_rules.specs.Known.{state_behind}

-- a context that is not inside a block comment
abbrev EndsInCode : Within → Type 0
EndsInCode within = ending within ≡ Code

marked_ends : (text : Option (List ℕ)) (behind : Within) (units : List ℕ) → EndsInCode behind
    → IfSome (marked text behind units) (λ s. EndsInCode s.behind)
marked_ends None behind units ends = tt
marked_ends (Some text) behind units ends = either (starts_with nat_eq units text)
  where
    either : (b : Bool) → IfSome (cond b (Some (stretch (length text) behind)) None) (λ s. EndsInCode s.behind)
    either true = ends
    either false = tt

opening_ends : (opening : Option (List ℕ)) (units : List ℕ) → opening ≡ None → IfSome (marked opening block units) (λ s. EndsInCode s.behind)
opening_ends None units none = tt
opening_ends (Some text) units none = absurd cc

no_opening : (m : Marks) → has_block m ≡ false → block_opening m ≡ None
no_opening m without = of m.block without
  where
    of : (b : Option (List ℕ × List ℕ)) → is_some b ≡ false → option_map (λ texts. texts.0) b ≡ None
    of None without = refl
    of (Some texts) without = absurd cc

quoted_ends : (quotes units : List ℕ) → IfSome (quoted quotes units) (λ s. EndsInCode s.behind)
quoted_ends quotes [] = tt
quoted_ends quotes (u ∷ units) = either (list_any (λ q. u == q) quotes)
  where
    either : (b : Bool) → IfSome (cond b (Some (one_unit (String u))) None) (λ s. EndsInCode s.behind)
    either true = refl
    either false = tt

or_ends : (o other : Option Stretch) → IfSome o (λ s. EndsInCode s.behind) → IfSome other (λ s. EndsInCode s.behind)
    → IfSome (option_or o other) (λ s. EndsInCode s.behind)
or_ends None other first second = second
or_ends (Some s) other first second = first

string_ends : (opened : ℕ) (units : List ℕ) → EndsInCode (hidden_in_string opened units).behind
string_ends opened [] = refl
string_ends opened (u ∷ units) = either (u == BACKSLASH) (u == opened)
  where
    either : (b c : Bool) → EndsInCode (cond b (stretch 2 (String opened)) (cond c (one_unit code) (one_unit (String opened)))).behind
    either true c = refl
    either false true = refl
    either false false = refl

hidden_ends : (m : Marks) (within : Within) (units : List ℕ) → has_block m ≡ false → EndsInCode within
    → IfSome (hidden m within units) (λ s. EndsInCode s.behind)
hidden_ends m (State Code) units without ends =
    or_ends _ _ (marked_ends m.line Comment units refl)
    (or_ends _ _ (opening_ends (block_opening m) units (no_opening m without)) (quoted_ends m.quotes units))
hidden_ends m (State Block) units without ends = absurd cc
hidden_ends m Comment units without ends = refl
hidden_ends m (String opened) units without ends = string_ends opened units

front_ends : (hiding : Option Stretch) (found : Option Token) → IfSome hiding (λ s. EndsInCode s.behind)
    → EndsInCode (front_of hiding found).behind
front_ends None found ends = refl
front_ends (Some s) found ends = ends

module _ (by : Scanner) (without : has_block by.marks ≡ false) where
  ends_from : (at passed : ℕ) (within : Within) (units : List ℕ) → EndsInCode within
      → (scanned_from by at passed within units).state ≡ Code
  ends_from at passed within [] ends = ends
  ends_from at (suc passed) within (u ∷ units) ends = ends_from (suc at) passed within units ends
  ends_from at zero within (u ∷ units) ends =
      let f = front by at within (u ∷ units) in
      let hides = hidden_ends by.marks within (u ∷ units) without ends in
      ends_from (suc at) f.after_first f.behind units (front_ends _ _ hides)

  pub ends_in_code : (line : List ℕ) → (hidden_scan by Code line).state ≡ Code
  ends_in_code line = ends_from 0 0 code line refl

  -- all lines begin in code
  pub states_are_code : (lines : List (List ℕ)) → line_states by lines ≡ replicate (length lines) Code
  states_are_code [] = refl
  states_are_code (x ∷ lines) =
      let ends = ap (λ s. states_from by s lines) (ends_in_code x) in
      ap (λ states. Code ∷ states) (ends ∙ states_are_code lines)

  pub behind_is_code : (lines : List (List ℕ)) → state_behind by Code lines ≡ Code
  behind_is_code [] = refl
  behind_is_code (x ∷ lines) = ap (λ s. state_behind by s lines) (ends_in_code x) ∙ behind_is_code lines

-- The number of units of a stretch.
use Rattle.std.proofs.Common.{◌≡◌, ℕ, ◌<◌, ◌≤◌, Bool, true, false, cond, Option, Some, None, IfSome, List, [], ◌∷◌, length, unwrap_or, option_map, arith, leb-true}
use Rattle.std.specs.Prelude.{nat_eq, ◌==◌}
use Rattle.std.specs.List.{starts_with, list_any}
use Rattle.std.specs.Option.{option_or}
use Rattle.std.proofs.lemmas.Bool.{and_parts, ltb-true}
use Rattle.bracket_rules.specs.declared.TheConstants.{MOST_BRACKET_UNITS}
use Rattle.bracket_rules.specs.Table.{is_bracket_text}
use Rattle.hiding_rules.specs.declared.LineState.TheVariants.{Code, Block}
use Rattle.hiding_rules.specs.declared.Within.{Within}
use Rattle.hiding_rules.specs.declared.Within.TheVariants.{State, Comment, String}
use Rattle.hiding_rules.specs.declared.Stretch.{Stretch}
use Rattle.hiding_rules.specs.declared.TheConstants.{BACKSLASH}
use Rattle.hiding_rules.specs.Marks.{Marks, has_line_text, has_block_texts, are_quotes, are_marks}
use Rattle.hiding_rules.specs.Hidden.{code, block, stretch, one_unit, marked, quoted, block_opening, block_closing, hidden_in_string, hidden}

record HasUnits (s : Stretch) : Type 0 where
  some : 0 < s.units
  few : s.units ≤ MOST_BRACKET_UNITS

one_has_units : (behind : Within) → HasUnits (one_unit behind)
one_has_units behind = record { some = omega arith; few = omega arith }

text_has_units : (text : List ℕ) (behind : Within) → is_bracket_text text ≡ true → HasUnits (stretch (length text) behind)
text_has_units text behind is =
    let front = and_parts _ _ (and_parts _ _ is).0 in
    record { some = ltb-true _ _ front.0; few = leb-true _ _ front.1 }

marked_has_units : (text : Option (List ℕ)) (behind : Within) (units : List ℕ) → IfSome text (λ t. is_bracket_text t ≡ true)
    → IfSome (marked text behind units) HasUnits
marked_has_units None behind units is = tt
marked_has_units (Some text) behind units is = either (starts_with nat_eq units text)
  where
    either : (b : Bool) → IfSome (cond b (Some (stretch (length text) behind)) None) HasUnits
    either true = text_has_units text behind is
    either false = tt

quoted_has_units : (quotes units : List ℕ) → IfSome (quoted quotes units) HasUnits
quoted_has_units quotes [] = tt
quoted_has_units quotes (u ∷ units) = either (list_any (λ q. u == q) quotes)
  where
    either : (b : Bool) → IfSome (cond b (Some (one_unit (String u))) None) HasUnits
    either true = one_has_units (String u)
    either false = tt

or_has_units : (o other : Option Stretch) → IfSome o HasUnits → IfSome other HasUnits → IfSome (option_or o other) HasUnits
or_has_units None other first second = second
or_has_units (Some s) other first second = first

unwrapped_has_units : (o : Option Stretch) (other : Stretch) → IfSome o HasUnits → HasUnits other → HasUnits (unwrap_or o other)
unwrapped_has_units None other first second = second
unwrapped_has_units (Some s) other first second = first

string_has_units : (opened : ℕ) (units : List ℕ) → HasUnits (hidden_in_string opened units)
string_has_units opened [] = one_has_units (String opened)
string_has_units opened (u ∷ units) = either (u == BACKSLASH) (u == opened)
  where
    either : (b c : Bool) → HasUnits (cond b (stretch 2 (String opened)) (cond c (one_unit code) (one_unit (String opened))))
    either true c = record { some = omega arith; few = omega arith }
    either false true = one_has_units code
    either false false = one_has_units (String opened)

line_text_is : (line : Option (List ℕ)) → has_line_text line ≡ true → IfSome line (λ t. is_bracket_text t ≡ true)
line_text_is None is = tt
line_text_is (Some text) is = is

opening_is : (m : Marks) → has_block_texts m.block ≡ true → IfSome (block_opening m) (λ t. is_bracket_text t ≡ true)
opening_is m is = of m.block is
  where
    of : (b : Option (List ℕ × List ℕ)) → has_block_texts b ≡ true → IfSome (option_map (λ texts. texts.0) b) (λ t. is_bracket_text t ≡ true)
    of None is = tt
    of (Some texts) is = (and_parts _ _ is).0

closing_is : (m : Marks) → has_block_texts m.block ≡ true → IfSome (block_closing m) (λ t. is_bracket_text t ≡ true)
closing_is m is = of m.block is
  where
    of : (b : Option (List ℕ × List ℕ)) → has_block_texts b ≡ true → IfSome (option_map (λ texts. texts.1) b) (λ t. is_bracket_text t ≡ true)
    of None is = tt
    of (Some texts) is = (and_parts _ _ is).1

hidden_has_units : (m : Marks) (within : Within) (units : List ℕ) → are_marks m ≡ true → IfSome (hidden m within units) HasUnits
hidden_has_units m (State Code) units is =
    let texts = and_parts (has_line_text m.line) (has_block_texts m.block) (and_parts _ (are_quotes m.quotes) is).0 in
    or_has_units _ _ (marked_has_units m.line Comment units (line_text_is m.line texts.0))
    (or_has_units _ _ (marked_has_units (block_opening m) block units (opening_is m texts.1)) (quoted_has_units m.quotes units))
hidden_has_units m (State Block) units is =
    let texts = and_parts (has_line_text m.line) (has_block_texts m.block) (and_parts _ (are_quotes m.quotes) is).0 in
    unwrapped_has_units _ _ (marked_has_units (block_closing m) code units (closing_is m texts.1)) (one_has_units block)
hidden_has_units m Comment units is = one_has_units Comment
hidden_has_units m (String opened) units is = string_has_units opened units

weaker : {P Q : Stretch → Type 0} → ((s : Stretch) → P s → Q s) → (o : Option Stretch) → IfSome o P → IfSome o Q
weaker implies None has = tt
weaker implies (Some s) has = implies s has

pub hidden_some : (m : Marks) (within : Within) (units : List ℕ) → are_marks m ≡ true → IfSome (hidden m within units) (λ s. 0 < s.units)
hidden_some m within units is = weaker {P = HasUnits} (λ s has. has.some) _ (hidden_has_units m within units is)

pub hidden_few : (m : Marks) (within : Within) (units : List ℕ) → are_marks m ≡ true
    → IfSome (hidden m within units) (λ s. s.units ≤ MOST_BRACKET_UNITS)
hidden_few m within units is = weaker {P = HasUnits} (λ s has. has.few) _ (hidden_has_units m within units is)

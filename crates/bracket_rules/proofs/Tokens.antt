-- The tokens of a line are in order within the line, and their kinds are those of the table.
use Rattle.std.proofs.Common.{◌≡◌, ℕ, zero, suc, ◌+◌, ◌-◌, ◌<◌, ◌≤◌, Bool, true, false, cond, ◌&&◌, Option, Some, None, List, [], ◌∷◌, ◌++◌, length, take, refl, ap, sym, arith, length-take, subst}
use Rattle.std.specs.Prelude.{nat_eq, nat_lt, IfSome}
use Rattle.std.specs.Cmp.Lexicographic.{pointwise}
use Rattle.std.specs.List.{list_all, starts_with}
use Rattle.std.specs.Option.{option_to_list}
use Rattle.std.proofs.lemmas.Bool.{and_parts, leb-true}
use Rattle.bracket_rules.specs.declared.Token.{Token}
use Rattle.bracket_rules.specs.declared.TheConstants.{MOST_PAIRS}
use Rattle.bracket_rules.specs.Table.{Table, texts_of, is_bracket_text, is_table, token, standing, longer, longest, units_after_first, tokens_from, tokens_of, AreInLine}

-- ---- the bounds on a table's texts and on its length

pub has_texts : (pairs : Table) → is_table pairs ≡ true → list_all is_bracket_text (texts_of pairs) ≡ true
has_texts pairs h = (and_parts _ _ (and_parts _ _ h).0).1

pub has_few_pairs : (pairs : Table) → is_table pairs ≡ true → length pairs ≤ MOST_PAIRS
has_few_pairs pairs h = leb-true (length pairs) MOST_PAIRS (and_parts _ _ (and_parts _ _ (and_parts _ _ h).0).0).1

-- ---- the longest text at an index

-- the token is at `at`, has from 1 to `most` units, and its kind is below `kinds`
pub record IsThere (at most kinds : ℕ) (t : Token) : Type 0 where
  pub place : t.at ≡ at
  pub some : 0 < t.len
  pub enough : t.len ≤ most
  pub kind : t.kind < kinds

pointwise_length : (x y : List ℕ) → pointwise nat_eq x y ≡ true → length x ≡ length y
pointwise_length [] [] h = refl
pointwise_length [] (v ∷ y) h = cc
pointwise_length (u ∷ x) [] h = cc
pointwise_length (u ∷ x) (v ∷ y) h = ap suc (pointwise_length x y (and_parts (nat_eq u v) (pointwise nat_eq x y) h).1)

fits_from : (text units : List ℕ) → starts_with nat_eq units text ≡ true → length text ≤ length units
fits_from text units h =
    let same = pointwise_length text (take (length text) units) h in
    omega (arith, length-take (length text) units)

nonempty_from : (text : List ℕ) → is_bracket_text text ≡ true → 0 < length text
nonempty_from [] h = cc
nonempty_from (u ∷ text) h = omega arith

standing-there : (at kind kinds : ℕ) (opening : Bool) (text units : List ℕ) → is_bracket_text text ≡ true → kind < kinds
    → IfSome (standing at kind opening text units) (IsThere at (length units) kinds)
standing-there at kind kinds opening text units h k = either (starts_with nat_eq units text) refl
  where
    either : (b : Bool) → b ≡ starts_with nat_eq units text
        → IfSome (cond b (Some (token at (length text) kind opening)) None) (IsThere at (length units) kinds)
    either true e = record { place = refl; some = nonempty_from text h; enough = fits_from text units (sym e); kind = k }
    either false e = tt

longer-there : (at n kinds : ℕ) (a b : Option Token) → IfSome a (IsThere at n kinds) → IfSome b (IsThere at n kinds) → IfSome (longer a b) (IsThere at n kinds)
longer-there at n kinds None b h k = k
longer-there at n kinds (Some t) None h k = h
longer-there at n kinds (Some t) (Some u) h k = either (nat_lt t.len u.len)
  where
    either : (b : Bool) → IfSome (cond b (Some u) (Some t)) (IsThere at n kinds)
    either true = k
    either false = h

longest-there_from : (at kind kinds : ℕ) (ps : Table) (units : List ℕ) → list_all is_bracket_text (texts_of ps) ≡ true → kind + length ps ≤ kinds
    → IfSome (longest at kind ps units) (IsThere at (length units) kinds)
longest-there_from at kind kinds [] units h k = tt
longest-there_from at kind kinds (p ∷ ps) units h k =
    let below : kind < kinds = omega arith in
    let texts = and_parts (is_bracket_text p.0) (is_bracket_text p.1 && list_all is_bracket_text (texts_of ps)) h in
    let others = and_parts (is_bracket_text p.1) (list_all is_bracket_text (texts_of ps)) texts.1 in
    longer-there at (length units) kinds _ _
    (standing-there at kind kinds true p.0 units texts.0 below)
    (longer-there at (length units) kinds _ _
    (standing-there at kind kinds false p.1 units others.0 below)
    (longest-there_from at (suc kind) kinds ps units others.1 (omega arith)))

pub longest-there : (at : ℕ) (table : Table) (units : List ℕ) → is_table table ≡ true
    → IfSome (longest at 0 table units) (IsThere at (length units) MOST_PAIRS)
longest-there at table units h = longest-there_from at 0 MOST_PAIRS table units (has_texts table h) (let few = has_few_pairs table h in omega arith)

-- ---- the tokens of a line

AreInLine-from : (c d n : ℕ) (ts : List Token) → c ≤ d → AreInLine d n ts → AreInLine c n ts
AreInLine-from c d n [] h k = omega arith
AreInLine-from c d n (t ∷ ts) h k = let first : d ≤ t.at = k.0 in (omega arith, k.1, k.2, k.3)

found_in_line : (at n : ℕ) (units : ℕ) (found : Option Token) (rest : List Token) → suc units + at ≡ n
    → IfSome found (IsThere at (suc units) MOST_PAIRS) → AreInLine (suc at + units_after_first found) n rest
    → AreInLine at n (option_to_list found ++ rest)
found_in_line at n units None rest h f r = AreInLine-from at (suc at + 0) n rest (omega arith) r
found_in_line at n units (Some t) rest h f r =
    let some : 0 < t.len = f.some in
    let place : t.at ≡ at = f.place in
    let next : suc at + (t.len - 1) ≡ t.at + t.len = omega arith in
    (omega arith, f.some, f.kind, subst (λ (c : ℕ). AreInLine c n rest) next r)

passes : (units : ℕ) (found : Option Token) (at : ℕ) → IfSome found (IsThere at (suc units) MOST_PAIRS) → units_after_first found ≤ units
passes units None at f = omega arith
passes units (Some t) at f = let enough : t.len ≤ suc units = f.enough in omega arith

tokens_from-in_line : (table : Table) (at passed n : ℕ) (units : List ℕ) → is_table table ≡ true → passed ≤ length units → length units + at ≡ n
    → AreInLine (at + passed) n (tokens_from table at passed units)
tokens_from-in_line table at passed n [] h k e = omega arith
tokens_from-in_line table at (suc passed) n (u ∷ units) h k e =
    let rest = tokens_from-in_line table (suc at) passed n units h (omega arith) (omega arith) in
    let same : suc at + passed ≡ at + suc passed = omega arith in
    subst (λ (c : ℕ). AreInLine c n (tokens_from table (suc at) passed units)) same rest
tokens_from-in_line table at zero n (u ∷ units) h k e =
    let found : Option Token = longest at 0 table (u ∷ units) in
    let there = longest-there at table (u ∷ units) h in
    let rest = tokens_from-in_line table (suc at) (units_after_first found) n units h (passes (length units) found at there) (omega arith) in
    AreInLine-from (at + 0) at n (option_to_list found ++ tokens_from table (suc at) (units_after_first found) units) (omega arith)
    (found_in_line at n (length units) found (tokens_from table (suc at) (units_after_first found) units) (omega arith) there rest)

pub tokens_of-in_line : (table : Table) (line : List ℕ) → is_table table ≡ true → AreInLine 0 (length line) (tokens_of table line)
tokens_of-in_line table line h = tokens_from-in_line table 0 0 (length line) line h (omega arith) (omega arith)

-- A unit that begins nothing goes by: the context stays as it is.
use Rattle.std.proofs.Common.{◌≡◌, ℕ, Bool, true, false, cond, ◌||◌, Option, Some, None, List, [], ◌∷◌, unwrap_or, refl, ap, ◌∙◌}
use Rattle.std.specs.Prelude.{nat_eq, ◌==◌}
use Rattle.std.specs.List.{starts_with, list_any}
use Rattle.hiding_rules.specs.declared.LineState.TheVariants.{Code, Block}
use Rattle.hiding_rules.specs.declared.Within.{Within}
use Rattle.hiding_rules.specs.declared.Within.TheVariants.{State, Comment, String}
use Rattle.hiding_rules.specs.declared.TheConstants.{BACKSLASH}
use Rattle.hiding_rules.specs.Marks.{Marks}
use Rattle.hiding_rules.specs.Hidden.{code, block, one_unit, marked, quoted, block_opening, block_closing, hidden_in_string, hidden}
use Rattle.hiding_marks.specs.Reacts.{may_start, may_react, passing}

neither : (a b : Bool) → (a || b) ≡ false → (a ≡ false) × (b ≡ false)
neither true b h = cc
neither false b h = (refl, h)

not_marked : (text : Option (List ℕ)) (behind : Within) (u : ℕ) (units : List ℕ) → may_start text u ≡ false
    → marked text behind (u ∷ units) ≡ None
not_marked None behind u units h = refl
not_marked (Some []) behind u units h = cc
not_marked (Some (v ∷ text)) behind u units h = let differ : nat_eq v u ≡ false = h in rw differ refl

not_quoted : (quotes : List ℕ) (u : ℕ) (units : List ℕ) → list_any (λ q. u == q) quotes ≡ false → quoted quotes (u ∷ units) ≡ None
not_quoted quotes u units h = rw h refl

string_goes_on : (opened u : ℕ) (units : List ℕ) → u == BACKSLASH ≡ false → u == opened ≡ false
    → hidden_in_string opened (u ∷ units) ≡ one_unit (String opened)
string_goes_on opened u units h k = rw (h, k) refl

pub passes : (m : Marks) (within : Within) (u : ℕ) (units : List ℕ) → may_react m within u ≡ false
    → hidden m within (u ∷ units) ≡ passing within
passes m (State Code) u units h =
    let none = neither (may_start m.line u) (may_start (block_opening m) u || list_any (λ q. u == q) m.quotes) h in
    let none' = neither (may_start (block_opening m) u) (list_any (λ q. u == q) m.quotes) none.1 in
    let first = not_marked m.line Comment u units none.0 in
    let second = not_marked (block_opening m) block u units none'.0 in
    let third = not_quoted m.quotes u units none'.1 in
    rw (first, second, third) refl
passes m (State Block) u units h =
    ap (λ o. Some (unwrap_or o (one_unit block))) (not_marked (block_closing m) code u units h)
passes m Comment u units h = refl
passes m (String opened) u units h =
    let none = neither (u == BACKSLASH) (u == opened) h in
    ap (λ s. Some s) (string_goes_on opened u units none.0 none.1)

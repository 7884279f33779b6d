-- A CR at the end of a text, and an LF at the start of one.
use Rattle.std.proofs.Common.{◌≡◌, ℕ, suc, ◌-◌, ◌<◌, true, false, List, [], ◌∷◌, ◌++◌, length, take, drop, ap, ◌∙◌, arith}
use Rattle.std.proofs.lemmas.Bool.{eqb-true}
use Rattle.text_rules.specs.Lines.{carriage_return, begins_with}
use Rattle.text_rules.specs.Breaks.{ends_with, joins_pair}
use Rattle.text_rules.proofs.Breaks.{and_false}

pub ends_with_split : (unit : ℕ) (x : List ℕ) → ends_with unit x ≡ true → x ≡ take (length x - 1) x ++ unit ∷ []
ends_with_split unit [] e = absurd cc
ends_with_split unit (u ∷ []) e = ap (λ (v : ℕ). v ∷ []) (eqb-true u unit e)
ends_with_split unit (u ∷ v ∷ x) e =
    let last : suc (length (v ∷ x) - 1) ≡ length (u ∷ v ∷ x) - 1 = omega arith in
    ap (λ s. u ∷ s) (ends_with_split unit (v ∷ x) e) ∙ ap (λ (n : ℕ). take n (u ∷ v ∷ x) ++ unit ∷ []) last

pub begins_with_split : (unit : ℕ) (x : List ℕ) → begins_with unit x ≡ true → x ≡ unit ∷ drop 1 x
begins_with_split unit [] e = absurd cc
begins_with_split unit (u ∷ x) e = ap (λ (v : ℕ). v ∷ x) (eqb-true u unit e)

pub ends_with_some : (unit : ℕ) (x : List ℕ) → ends_with unit x ≡ true → 0 < length x
ends_with_some unit [] e = absurd cc
ends_with_some unit (u ∷ x) e = omega arith

pub begins_with_some : (unit : ℕ) (x : List ℕ) → begins_with unit x ≡ true → 0 < length x
begins_with_some unit [] e = absurd cc
begins_with_some unit (u ∷ x) e = omega arith

pub joins_front : (x y z : List ℕ) → joins_pair x (y ++ z) ≡ false → joins_pair x y ≡ false
joins_front x [] z e = and_false (ends_with carriage_return x)
joins_front x (u ∷ y) z e = e

-- Sets of kinds, and the stacks whose brackets are of these kinds.
use Rattle.std.proofs.Common.{◌≡◌, ◌<◌, max, min, ◌||◌, ℕ, zero, suc, ◌^◌, ◌≢◌, true, false, eqb, Option, Some, None, List, [], ◌∷◌, refl, ap, sym, ◌∙◌, arith, inl, inr}
use Rattle.std.specs.Prelude.{is_some, bit_or, bit_and}
use Rattle.std.specs.Option.{option_map}
use Rattle.std.specs.Int.{bit_at}
use Rattle.std.proofs.lemmas.Bool.Decides.{eqb_tells, nat_tests}
use Rattle.std.proofs.lemmas.Nat.{and_le_l}
use Rattle.std.proofs.lemmas.Grind.{common_steps}
use Rattle.std.proofs.lemmas.Nat.Bits.{bit_at-zero, bit_at_or, bit_at_and, same_from_bits_below, bit_at-pow_same, bit_at-pow_other, bit_at-lt}
use Rattle.bracket_rules.specs.Parse.{Bracket, depth_of}
use Rattle.bracket_tree_rules.specs.Told.{has_kind, with_kind, IsStack}

pub has_kind-none : (k : ℕ) → has_kind 0 k ≡ false
has_kind-none k = rw (bit_at-zero k) refl

pub has_kind-with_same : (kinds k : ℕ) → has_kind (with_kind kinds k) k ≡ true
has_kind-with_same kinds k =
    let both = bit_at_or kinds (2 ^ k) k in
    let one = bit_at-pow_same k in
    let small = bit_at-lt kinds k in
    let here : bit_at (bit_or kinds (2 ^ k)) k ≡ 1 = omega arith in
    rw here refl

pub has_kind-with_other : (kinds k j : ℕ) → j ≢ k → has_kind (with_kind kinds k) j ≡ has_kind kinds j
has_kind-with_other kinds k j h =
    let both = bit_at_or kinds (2 ^ k) j in
    let none = bit_at-pow_other k j h in
    let here : bit_at (bit_or kinds (2 ^ k)) j ≡ bit_at kinds j = omega arith in
    ap (λ (n : ℕ). eqb n 1) here

pub has_kind-with_kind : (kinds k j : ℕ) → has_kind kinds j ≡ true → has_kind (with_kind kinds k) j ≡ true
has_kind-with_kind kinds k j h = elim (eqb_tells j k) [
  | inl same ↦ rw same.1 (has_kind-with_same kinds k)
  | inr differ ↦ has_kind-with_other kinds k j differ.1 ∙ h
]

-- two sets are disjoint if their bits are
has_kind-apart : (a b k : ℕ) → min (bit_at a k) (bit_at b k) ≡ 0 → has_kind a k ≡ true → has_kind b k ≡ false
has_kind-apart a b k h e = grind (arith, nat_tests, common_steps)

pub kinds_apart : (a b : ℕ) → bit_and a b ≡ 0 → (k : ℕ) → has_kind a k ≡ true → has_kind b k ≡ false
kinds_apart a b h k e =
    has_kind-apart a b k (sym (bit_at_and a b k) ∙ ap (λ (n : ℕ). bit_at n k) h ∙ bit_at-zero k) e

no_common_bit : (m n : ℕ) → m < 2 → n < 2 → (eqb m 1 ≡ true → eqb n 1 ≡ false) → min m n ≡ 0
no_common_bit zero n h k apart = omega arith
no_common_bit (suc zero) zero h k apart = omega arith
no_common_bit (suc zero) (suc zero) h k apart = let no = apart refl in cc
no_common_bit (suc zero) (suc (suc n)) h k apart = absurd (omega arith)
no_common_bit (suc (suc m)) n h k apart = absurd (omega arith)

pub apart_kinds : (a b : ℕ) → a < 2 ^ 64 → ((k : ℕ) → has_kind a k ≡ true → has_kind b k ≡ false) → bit_and a b ≡ 0
apart_kinds a b fits apart =
    let below = and_le_l a b in
    same_from_bits_below 64 (bit_and a b) 0 (omega arith) (omega arith)
    (λ k h. bit_at_and a b k ∙ no_common_bit (bit_at a k) (bit_at b k) (bit_at-lt a k) (bit_at-lt b k) (apart k) ∙ sym (bit_at-zero k))

is_some-map : (o : Option ℕ) → is_some (option_map suc o) ≡ is_some o
is_some-map None = refl
is_some-map (Some n) = refl

depth_of-other : (b : Bracket) (stack : List Bracket) (j : ℕ)
    → eqb b.kind j ≡ false → is_some (depth_of j (b ∷ stack)) ≡ is_some (depth_of j stack)
depth_of-other b stack j h = rw h (is_some-map (depth_of j stack))

depth_of-same : (b : Bracket) (stack : List Bracket) (j : ℕ)
    → eqb b.kind j ≡ true → is_some (depth_of j (b ∷ stack)) ≡ true
depth_of-same b stack j h = rw h refl

-- the stack after an opening bracket of kind k
pub IsStack-push : (kinds level : ℕ) (b : Bracket) (stack : List Bracket)
    → IsStack kinds level stack → IsStack (with_kind kinds b.kind) (suc level) (b ∷ stack)
IsStack-push kinds level b stack h = record {
  size = ap suc h.size;
  of_kinds = λ j. elim (eqb_tells b.kind j) as (λ _. is_some (depth_of j (b ∷ stack)) ≡ has_kind (with_kind kinds b.kind) j) [
    | inl same ↦
        let here : has_kind (with_kind kinds b.kind) j ≡ true = rw (← same.1) (has_kind-with_same kinds b.kind) in
        depth_of-same b stack j same.0 ∙ sym here
    | inr differ ↦
        let other : j ≢ b.kind = λ e. differ.1 (sym e) in
        depth_of-other b stack j differ.0 ∙ h.of_kinds j ∙ sym (has_kind-with_other kinds b.kind j other)
  ];
}

pub IsStack-none : IsStack 0 0 []
IsStack-none = record { size = refl; of_kinds = λ k. sym (has_kind-none k) }

-- ---- the set of one kind, and two sets together

pub has_kind-one : (kind k : ℕ) → has_kind (2 ^ kind) k ≡ eqb kind k
has_kind-one kind k = elim (eqb_tells kind k) [
  | inl same ↦
      let here : bit_at (2 ^ kind) k ≡ 1 = rw same.1 (bit_at-pow_same k) in
      ap (λ (n : ℕ). eqb n 1) here ∙ sym same.0
  | inr differ ↦
      let there : bit_at (2 ^ kind) k ≡ 0 = bit_at-pow_other kind k (λ e. differ.1 (sym e)) in
      ap (λ (n : ℕ). eqb n 1) there ∙ sym differ.0
]

max_bit : (m n : ℕ) → m < 2 → n < 2 → eqb (max m n) 1 ≡ (eqb m 1 || eqb n 1)
max_bit m n h k = grind (arith, nat_tests)

pub has_kind-union : (a b k : ℕ) → has_kind (bit_or a b) k ≡ (has_kind a k || has_kind b k)
has_kind-union a b k =
    ap (λ (n : ℕ). eqb n 1) (bit_at_or a b k) ∙ max_bit (bit_at a k) (bit_at b k) (bit_at-lt a k) (bit_at-lt b k)

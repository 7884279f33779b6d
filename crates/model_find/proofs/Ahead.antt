-- The marks of the next offsets of a run.
use Rattle.std.proofs.Common.{◌≡◌, ℕ, zero, suc, ◌+◌, ◌-◌, ◌*◌, ◌/◌, ◌%◌, ◌^◌, ◌<◌, ◌≤◌, ◌==◌, eqb, leb, Bool, cond, true, false, ◌&&◌, ◌||◌, List, [], ◌∷◌, length, map, get_or, refl, ap, sym, subst, ◌∙◌, inl, inr, arith, bit_and, w64}
use native.Mathlib.Nat.{div-div-eq-div-mul}
use lib.Count.{count_trailing_zeros}
use lib.Lanes.{chunk, zip2, mask_l, top}
use Rattle.std.specs.Int.{bit_at, from_bool}
use Rattle.std.proofs.lemmas.Bool.{leb-true, false_from_ne_true, cases_lt}
use Rattle.std.proofs.lemmas.Grind.{pow_more}
use Rattle.std.proofs.lemmas.Nat.{pow_below, pow_pos, pow-add}
use Rattle.std.proofs.lemmas.Nat.Bits.{bit_at_lowest, bit_at-suc, bit_at-zero, bit_at_above, bit_at-trailing_zeros}
use Rattle.std.proofs.lemmas.Simd.{length-chunk, length-zip2, get_or-chunk, get_or-zip2, mask_l-lt, bit_mask_l}
use Rattle.std.proofs.Math.Nat.{div-lt_iff_lt-mul}
use Rattle.model_find.specs.declared.starts.Starts.{Starts}
use Rattle.model_find.specs.Matching.{may_begin}
use Rattle.model_find.specs.Ahead.{KnowsStarts}

one_bit : (here : Bool) → cond here 1 0 ≡ from_bool here
one_bit true = refl
one_bit false = refl

unmarked : (here : Bool) → from_bool here ≡ 0 → here ≡ false
unmarked true none = absurd (omega (arith, none))
unmarked false none = refl

module _ (run sought : List ℕ) (s : Starts) (knows : KnowsStarts run sought s) where
  none_at : (k : ℕ) → s.at ≤ k → k < s.at + s.known → bit_at s.marks (k - s.at) ≡ 0 → may_begin run sought k ≡ false
  none_at k from below none =
      let is : s.at + (k - s.at) ≡ k = omega arith in
      ap (may_begin run sought) (sym is) ∙ unmarked _ (sym (knows.tells (k - s.at) (omega arith)) ∙ none)

  pub none_begins : s.marks ≡ 0 → (k : ℕ) → s.at ≤ k → k < s.at + s.known → may_begin run sought k ≡ false
  none_begins none k from below = none_at k from below (ap (λ m. bit_at m (k - s.at)) none ∙ bit_at-zero (k - s.at))

  module _ (some : 0 < s.marks) where
    first : (count_trailing_zeros 64 s.marks < 64) × (bit_at s.marks (count_trailing_zeros 64 s.marks) ≡ 1)
        × ((i : ℕ) → i < count_trailing_zeros 64 s.marks → bit_at s.marks i ≡ 0)
    first = bit_at-trailing_zeros w64 s.marks some (omega (arith, knows.lowest, pow_below s.known 64 (omega (arith, knows.few))))

    pub first_within : count_trailing_zeros 64 s.marks < s.known
    first_within = elim (cases_lt (count_trailing_zeros 64 s.marks) s.known) [
      | inl within ↦ within
      | inr beyond ↦ absurd (omega (arith, first.1, bit_at_above s.marks s.known (count_trailing_zeros 64 s.marks) knows.lowest beyond))
    ]

    pub none_before : (k : ℕ) → s.at ≤ k → k < s.at + count_trailing_zeros 64 s.marks → may_begin run sought k ≡ false
    none_before k from below = none_at k from (omega (arith, first_within)) (first.2 (k - s.at) (omega arith))

  -- from a later place on
  pub passed : (at : ℕ) → s.at ≤ at → at - s.at < s.known
      → KnowsStarts run sought (record { at = at; known = s.known - (at - s.at); marks = s.marks / 2 ^ (at - s.at) })
  passed at ordered within =
      let n : ℕ = at - s.at in
      let all : s.known - n + n ≡ s.known = omega arith in
      let there : (k : ℕ) → s.at + (n + k) ≡ at + k = λ k. omega arith in
      record {
        within = omega (arith, knows.within);
        few = omega (arith, knows.few);
        lowest = (div-lt_iff_lt-mul (pow_pos n)).1 (subst (λ p. s.marks < p) (ap (λ k. 2 ^ k) (sym all) ∙ pow-add 2 (s.known - n) n) knows.lowest);
        tells = λ k below. ap (λ m. m % 2) (div-div-eq-div-mul s.marks (2 ^ n) (2 ^ k) ∙ ap (λ p. s.marks / p) (sym (pow-add 2 n k)))
            ∙ knows.tells (n + k) (omega arith) ∙ ap (λ place. from_bool (may_begin run sought place)) (there k);
      }

-- from the place before it on

bit : (here : Bool) → from_bool here ≤ 1
bit true = omega arith
bit false = omega arith

lowest : (marks : ℕ) (here : Bool) → (2 * marks + from_bool here) % 2 ≡ from_bool here
lowest marks true = omega arith
lowest marks false = omega arith

others : (marks : ℕ) (here : Bool) → (2 * marks + from_bool here) / 2 ≡ marks
others marks true = omega arith
others marks false = omega arith

pub marks_fit : (run sought : List ℕ) (s : Starts) → KnowsStarts run sought s → s.known < 32 → (here : Bool) → 2 * s.marks + from_bool here < 2 ^ 64
marks_fit run sought s knows more here = omega (arith, knows.lowest, pow_below s.known 32 more, bit here)

pub one_before : (run sought : List ℕ) (s t : Starts) → KnowsStarts run sought s → t.at + 1 ≡ s.at → t.known ≡ s.known + 1 → t.known ≤ 32
    → t.marks ≡ 2 * s.marks + from_bool (may_begin run sought t.at) → KnowsStarts run sought t
one_before run sought s t knows before known few marks = record {
  within = omega (arith, knows.within);
  few = few;
  lowest = subst (λ n. t.marks < 2 ^ n) (sym known) (omega (arith, knows.lowest, bit (may_begin run sought t.at), pow_more 2 s.known));
  tells = tells;
}
  where
    tells : (k : ℕ) → k < t.known → bit_at t.marks k ≡ from_bool (may_begin run sought (t.at + k))
    tells zero below = ap (λ m. bit_at m 0) marks ∙ bit_at_lowest _ ∙ lowest s.marks (may_begin run sought t.at)
        ∙ ap (λ place. from_bool (may_begin run sought place)) (omega arith)
    tells (suc k) below = ap (λ m. bit_at m (suc k)) marks ∙ bit_at-suc _ k ∙ ap (λ m. bit_at m k) (others s.marks (may_begin run sought t.at))
        ∙ knows.tells k (omega arith) ∙ ap (λ place. from_bool (may_begin run sought place)) (omega arith)

-- several places
module _ (run sought : List ℕ) (at : ℕ) where
  -- both units are present where the sought units may begin
  abbrev both : ℕ → ℕ → Bool
  both u v = u == get_or sought 0 0 && v == get_or sought (length sought - 1) 0

  pub many_known : at + (length sought - 1) + 32 ≤ length run
      → KnowsStarts run sought (record { at = at; known = 32; marks = mask_l (zip2 both (chunk at 32 run) (chunk (at + (length sought - 1)) 32 run)) })
  many_known inside =
      let n : ℕ = length sought - 1 in
      let firsts = chunk at 32 run in
      let lasts = chunk (at + n) 32 run in
      let first_long = length-chunk at 32 run (omega arith) in
      let last_long = length-chunk (at + n) 32 run (omega arith) in
      let marked = zip2 both firsts lasts in
      let count = length-zip2 both firsts lasts (first_long ∙ sym last_long) ∙ first_long in
      record {
        within = omega arith;
        few = omega arith;
        lowest = subst (λ l. mask_l marked < 2 ^ l) count (mask_l-lt marked);
        tells = λ k below.
            let there : at + n + k ≡ at + k + n = omega arith in
            let short : leb (length run) (at + k + n) ≡ false = false_from_ne_true _ (λ long. absurd (omega (arith, leb-true _ _ long))) in
            bit_mask_l marked k ∙ one_bit _ ∙ ap from_bool (get_or-zip2 both firsts lasts k 0 0 false (omega (arith, first_long)) (omega (arith, last_long))
            ∙ (λ i. get_or-chunk at 32 run k 0 below i == get_or sought 0 0 && get_or-chunk (at + n) 32 run k 0 below i == get_or sought n 0)
            ∙ (λ i. get_or run (at + k) 0 == get_or sought 0 0 && (sym short i || get_or run (there i) 0 == get_or sought n 0)));
      }

-- ---- by lanes

abbrev pub hit : ℕ → ℕ → ℕ
hit a b = cond (eqb a b) 65535 0

both_hit : (a b : Bool) → top 15 (bit_and (cond a 65535 0) (cond b 65535 0)) ≡ (a && b)
both_hit true true = refl
both_hit true false = refl
both_hit false true = refl
both_hit false false = refl

pub lanes_both : (unit other : ℕ) (xs ys : List ℕ) → map (top 15) (zip2 bit_and (map (λ x. hit x unit) xs) (map (λ y. hit y other) ys))
    ≡ zip2 (λ u v. u == unit && v == other) xs ys
lanes_both unit other [] ys = refl
lanes_both unit other (x ∷ xs) [] = refl
lanes_both unit other (x ∷ xs) (y ∷ ys) = λ i. both_hit (x == unit) (y == other) i ∷ lanes_both unit other xs ys i

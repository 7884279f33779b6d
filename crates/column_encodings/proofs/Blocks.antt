-- Leading ASCII units, computed from the mask of the non-ASCII units.
use Rattle.std.proofs.Common.{◌≡◌, ℕ, ◌+◌, ◌-◌, ◌%◌, ◌^◌, ◌<◌, ◌≤◌, Bool, not, cond, nat_le, List, [], ◌∷◌, map, length, drop, eqb, refl, sym, ap, ap₂, ◌∙◌, arith}
use Rattle.std.proofs.lemmas.Bool.Decides.{nat_tests}
use Rattle.std.proofs.lemmas.Bool.{eq-eqb, ne_eqb}
use Rattle.std.proofs.lemmas.List.{length-map}
use Rattle.std.proofs.lemmas.List.Folds.{prefix_len-append}
use Rattle.std.proofs.lemmas.Simd.{chunk-drop, length-chunk, tops_compared, zip2_splat_left, mask_l-mod, leading_from_mask_l, trailing_mask_l}
use Rattle.std.specs.Char.{is_ascii}
use Rattle.std.specs.List.{prefix_len}
use lib.Count.{count_trailing_zeros}
use lib.Lanes.{chunk, mask_l, top, zip2}
use lib.ListN.{replicate}
use mir.Syntax.{Width}
use mir.Val.{bits, hbits}

-- `to_bitmask` of the comparison of a splat with a vector
pub bitmask_splat_left : {X : Type 0} (w : Width) (t : X → X → Bool) (x : X) (n : ℕ) (ys : List X) → length ys ≡ n → n ≤ 64
    → mask_l (map (top (hbits w)) (zip2 (λ a b. cond (t a b) (2 ^ bits w - 1) 0) (replicate n x) ys)) % 2 ^ 64 ≡ mask_l (map (λ y. t x y) ys)
bitmask_splat_left w t x n ys long few =
    ap (λ ms. mask_l ms % 2 ^ 64) (tops_compared w t (replicate n x) ys ∙ zip2_splat_left t x n ys long)
    ∙ mask_l-mod (map (λ y. t x y) ys) 64 (omega (arith, length-map ys (λ y. t x y)))

ascii_or_other : (unit : ℕ) → is_ascii unit ≡ not (nat_le 0x80 unit)
ascii_or_other unit = grind (arith, nat_tests)

-- the number of ASCII units before the first non-ASCII unit
before_other : (units : List ℕ) → prefix_len is_ascii units ≡ prefix_len (λ unit. not (nat_le 0x80 unit)) units
before_other [] = refl
before_other (unit ∷ units) = ap₂ (λ b n. cond b (1 + n) 0) (ascii_or_other unit) (before_other units)

pub all_ascii : (units : List ℕ) → mask_l (map (λ unit. nat_le 0x80 unit) units) ≡ 0 → prefix_len is_ascii units ≡ length units
all_ascii units none = before_other units ∙ leading_from_mask_l (λ unit. nat_le 0x80 unit) units none

pub ascii_before : (units : List ℕ) → length units ≤ 64 → 0 < mask_l (map (λ unit. nat_le 0x80 unit) units)
    → count_trailing_zeros 64 (mask_l (map (λ unit. nat_le 0x80 unit) units)) ≡ prefix_len is_ascii units
ascii_before units few some = trailing_mask_l (λ unit. nat_le 0x80 unit) 64 units few some ∙ sym (before_other units)

-- the leading ASCII units of a block and of the units after it
with_block : (units : List ℕ) (at many : ℕ) → prefix_len is_ascii (drop at units)
    ≡ cond (eqb (prefix_len is_ascii (chunk at many units)) (length (chunk at many units)))
    (length (chunk at many units) + prefix_len is_ascii (drop (at + many) units)) (prefix_len is_ascii (chunk at many units))
with_block units at many = ap (prefix_len is_ascii) (chunk-drop at many units) ∙ prefix_len-append is_ascii (chunk at many units) (drop (at + many) units)

pub past_block : (units : List ℕ) (at many : ℕ) → at + many ≤ length units → prefix_len is_ascii (chunk at many units) ≡ many
    → prefix_len is_ascii (drop at units) ≡ many + prefix_len is_ascii (drop (at + many) units)
past_block units at many room whole =
    let long = length-chunk at many units room in
    with_block units at many
    ∙ ap (λ b. cond b (length (chunk at many units) + prefix_len is_ascii (drop (at + many) units)) (prefix_len is_ascii (chunk at many units)))
    (eq-eqb _ _ (omega (arith, long, whole)))
    ∙ ap (λ n. n + prefix_len is_ascii (drop (at + many) units)) long

pub in_block : (units : List ℕ) (at many : ℕ) → at + many ≤ length units → prefix_len is_ascii (chunk at many units) < many
    → prefix_len is_ascii (drop at units) ≡ prefix_len is_ascii (chunk at many units)
in_block units at many room part =
    with_block units at many
    ∙ ap (λ b. cond b (length (chunk at many units) + prefix_len is_ascii (drop (at + many) units)) (prefix_len is_ascii (chunk at many units)))
    (ne_eqb _ _ (λ (same : prefix_len is_ascii (chunk at many units) ≡ length (chunk at many units)). omega (arith, same, part, length-chunk at many units room)))

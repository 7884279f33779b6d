-- Length and nesting of a tree are at most its weight, and each level of a list at least doubles the weight.
use Rattle.std.proofs.Common.{◌≡◌, ℕ, suc, ◌+◌, ◌≤◌, ◌<◌, ◌^◌, max, false, List, [], ◌∷◌, refl, subst, arith, inl, inr}
use Rattle.std.proofs.Math.Nat.{two-pow-succ}
use Rattle.std.proofs.lemmas.Nat.{pow_pos}
use Rattle.std.proofs.lemmas.Bool.{cases_lt}
use Rattle.std.proofs.lemmas.Grind.{common_steps}
use Rattle.text_lengths.specs.declared.Length.{Length}
use Rattle.text_lengths.specs.Length.{length_plus}
use Rattle.bracket_tree_rules.specs.Tree.{Tree, text, pair, stray, capped, nothing, two, three, wide, width_of, tree_length, nesting, height, highest, weight, is_nothing, IsGap, IsTree, all_weight}
use Rattle.bracket_tree_rules.specs.Items.{all_length}

-- the sum of lines and columns
abbrev pub units_of : Length → ℕ
units_of l = l.lines + l.columns

pub plus_within : (a b : Length) → units_of (length_plus a b) ≤ units_of a + units_of b
plus_within a b = grind (arith, common_steps)

pub length_within : (t : Tree) → units_of (tree_length t) ≤ weight t
length_within (text l) = omega arith
length_within (pair k o i c) =
    let inner = plus_within (wide o) (tree_length i) in
    let outer = plus_within (length_plus (wide o) (tree_length i)) (wide (width_of c)) in
    let inside = length_within i in
    omega arith
length_within (stray k w) = omega arith
length_within (capped k w) = omega arith
length_within nothing = omega arith
length_within (two a b) =
    let both = plus_within (tree_length a) (tree_length b) in
    let first = length_within a in
    let second = length_within b in
    omega arith
length_within (three a b c) =
    let both = plus_within (tree_length a) (tree_length b) in
    let all = plus_within (length_plus (tree_length a) (tree_length b)) (tree_length c) in
    let first = length_within a in
    let second = length_within b in
    let third = length_within c in
    omega arith

pub all_length_within : (ts : List Tree) → units_of (all_length ts) ≤ all_weight ts
all_length_within [] = omega arith
all_length_within (t ∷ ts) =
    let both = plus_within (tree_length t) (all_length ts) in
    let first = length_within t in
    let rest = all_length_within ts in
    omega arith

pub nesting_within : (t : Tree) → IsTree t → nesting t ≤ weight t
nesting_within (text l) h = omega arith
nesting_within (pair k o i c) h =
    let opening : 0 < o = h.0.opening in
    let inside = nesting_within i h.1 in
    omega arith
nesting_within (stray k w) h = omega arith
nesting_within (capped k w) h = omega arith
nesting_within nothing h = omega arith
nesting_within (two a b) h =
    let first = nesting_within a h.1.0 in
    let second = nesting_within b h.1.1 in
    omega arith
nesting_within (three a b c) h =
    let first = nesting_within a h.1.0 in
    let second = nesting_within b h.1.1.0 in
    let third = nesting_within c h.1.1.1 in
    omega arith

gap_weight : (l : Length) → IsGap l → 0 < l.lines + l.columns
gap_weight l (inl h) = omega arith
gap_weight l (inr h) = omega arith

-- the weight of a non-empty tree is at least 2 to the power of its height
pub height_doubles : (t : Tree) → IsTree t → is_nothing t ≡ false → 2 ^ height t ≤ weight t
height_doubles (text l) h e = gap_weight l h
height_doubles (pair k o i c) h e = let opening : 0 < o = h.0.opening in omega arith
height_doubles (stray k w) h e = h.wide
height_doubles (capped k w) h e = h.wide
height_doubles nothing h e = cc
height_doubles (two a b) h e =
    let first = height_doubles a h.1.0 h.0.first in
    let second : 2 ^ height a ≤ weight b = rw h.0.level (height_doubles b h.1.1 h.0.second) in
    omega (arith, two-pow-succ (height a))
height_doubles (three a b c) h e =
    let first = height_doubles a h.1.0 h.0.0.first in
    let second : 2 ^ height a ≤ weight b = rw h.0.0.level (height_doubles b h.1.1.0 h.0.0.second) in
    omega (arith, two-pow-succ (height a))

pub weight_pos : (t : Tree) → IsTree t → is_nothing t ≡ false → 0 < weight t
weight_pos t h e = omega (arith, height_doubles t h e, pow_pos (height t))

pub height_within : (t : Tree) → height t ≤ highest t
height_within (text l) = omega arith
height_within (pair k o i c) = omega arith
height_within (stray k w) = omega arith
height_within (capped k w) = omega arith
height_within nothing = omega arith
height_within (two a b) = omega arith
height_within (three a b c) = omega arith

pow_max : (m n most : ℕ) → 2 ^ m ≤ most → 2 ^ n ≤ most → 2 ^ max m n ≤ most
pow_max m n most first second = elim (cases_lt m n) [
  | inl less ↦ subst (λ k. 2 ^ k ≤ most) (omega arith) second
  | inr not_less ↦ subst (λ k. 2 ^ k ≤ most) (omega arith) first
]

pub highest_doubles : (t : Tree) → IsTree t → 2 ^ highest t ≤ weight t + 1
highest_doubles (text l) h = omega arith
highest_doubles (pair k o i c) h = omega (arith, highest_doubles i h.1)
highest_doubles (stray k w) h = omega arith
highest_doubles (capped k w) h = omega arith
highest_doubles nothing h = omega arith
highest_doubles (two a b) h =
    let most = weight (two a b) + 1 in
    pow_max (suc (height a)) (max (highest a) (highest b)) most
    (omega (arith, height_doubles (two a b) h refl))
    (pow_max (highest a) (highest b) most (omega (arith, highest_doubles a h.1.0)) (omega (arith, highest_doubles b h.1.1)))
highest_doubles (three a b c) h =
    let most = weight (three a b c) + 1 in
    pow_max (suc (height a)) (max (highest a) (max (highest b) (highest c))) most
    (omega (arith, height_doubles (three a b c) h refl))
    (pow_max (highest a) (max (highest b) (highest c)) most
    (omega (arith, highest_doubles a h.1.0))
    (pow_max (highest b) (highest c) most (omega (arith, highest_doubles b h.1.1.0)) (omega (arith, highest_doubles c h.1.1.1))))

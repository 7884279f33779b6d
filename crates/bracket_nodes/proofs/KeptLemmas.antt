-- Bounds of what is kept.
use Rattle.std.proofs.Common.{◌≡◌, ℕ, ◌+◌, ◌≤◌, ◌<◌, ◌^◌, max, Bool, ◌||◌, Option, Some, None, refl, ap, sym, ◌∙◌, inl, inr, arith, add-one}
use Rattle.std.proofs.lemmas.Bool.{cases_lt}
use Rattle.std.proofs.lemmas.Nat.{pow_below}
use Rattle.std.specs.Prelude.{unwrap_or, bit_or}
use Rattle.bracket_tree_rules.specs.Tree.{Tree, text, pair, stray, capped, nothing, two, three, tree_length, is_missing, nesting, height, highest, wide, weight, IsEven, IsLone, IsTree}
use Rattle.text_lengths.proofs.Lengths.{length_plus_assoc}
use Rattle.bracket_tree_rules.specs.Told.{has_kind}
use Rattle.bracket_tree_rules.proofs.KindSets.{has_kind-one, has_kind-union}
use Rattle.bracket_tree_rules.proofs.Weights.{units_of, length_within, nesting_within, height_within, highest_doubles}
use Rattle.bracket_nodes.specs.declared.kept.Kept.{Kept}
use Rattle.bracket_nodes.specs.Kept.{later, last_level, Keeps, leaf_kept, both_of}
use Rattle.bracket_nodes.specs.Bounds.{IsBounded}

later_within : (a b : Option ℕ) → unwrap_or (later a b) 0 ≤ max (unwrap_or a 0) (unwrap_or b 0)
later_within a None = omega arith
later_within a (Some n) = omega arith

pub last_level-within : (t : Tree) → unwrap_or (last_level t) 0 ≤ nesting t
last_level-within (text l) = omega arith
last_level-within (pair k o i None) = let inside = last_level-within i in omega arith
last_level-within (pair k o i (Some w)) = omega arith
last_level-within (stray k w) = omega arith
last_level-within (capped k w) = omega arith
last_level-within nothing = omega arith
last_level-within (two a b) =
    let first = last_level-within a in
    let second = last_level-within b in
    let both = later_within (last_level a) (last_level b) in
    omega arith
last_level-within (three a b c) =
    let first = last_level-within a in
    let second = last_level-within b in
    let third = last_level-within c in
    let rest = later_within (last_level b) (last_level c) in
    let all = later_within (last_level a) (later (last_level b) (last_level c)) in
    omega arith

height_few : (t : Tree) → IsTree t → weight t < 2 ^ 64 → height t ≤ 64
height_few t h light = elim (cases_lt 64 (height t)) [
  | inl high ↦ absurd (omega (arith, pow_below 64 (highest t) (omega (arith, high, height_within t)), highest_doubles t h))
  | inr few ↦ few
]

pub IsBounded-from_Keeps : (t : Tree) (kept : Kept) → Keeps t kept → IsBounded (weight t) kept
IsBounded-from_Keeps t kept h = record {
  length =
      let within = length_within t in
      let same : units_of kept.length ≡ units_of (tree_length t) = ap units_of h.length in
      omega arith;
  height = rw h.height (height_few t h.tree h.light);
  low = rw h.highest (highest_doubles t h.tree);
  nesting = let within = nesting_within t h.tree in let same : kept.nesting ≡ nesting t = h.nesting in omega arith;
  last =
      let within = last_level-within t in
      let same : kept.nesting ≡ nesting t = h.nesting in
      let level : unwrap_or kept.last_level 0 ≡ unwrap_or (last_level t) 0 = ap (λ (o : Option ℕ). unwrap_or o 0) h.last in
      omega arith;
}

pub Keeps-stray : (k w : ℕ) → IsLone k w → w < 2 ^ 64 → Keeps (stray k w) (leaf_kept (wide w) (2 ^ k) (Some 0))
Keeps-stray k w lone light = record {
  tree = lone;
  light = light;
  length = refl;
  missing = λ j. has_kind-one k j;
  closed = refl;
  capped = refl;
  height = refl;
  highest = refl;
  nesting = refl;
  last = refl;
}

-- ---- lists

missing-both : (a b : ℕ) (m n : Bool) (k : ℕ) → has_kind a k ≡ m → has_kind b k ≡ n → has_kind (bit_or a b) k ≡ (m || n)
missing-both a b m n k h i =
    has_kind-union a b k ∙ ap (λ (x : Bool). x || has_kind b k) h ∙ ap (λ (x : Bool). m || x) i

pub Keeps-two : (a b : Tree) (ka kb : Kept) → Keeps a ka → Keeps b kb → IsEven a b → weight a + weight b < 2 ^ 64
    → Keeps (two a b) (both_of ka kb (ka.height + 1))
Keeps-two a b ka kb h k even fits = record {
  tree = (even, (h.tree, k.tree));
  light = fits;
  length = rw (h.length, k.length) refl;
  missing = λ j. missing-both ka.missing kb.missing (is_missing j a) (is_missing j b) j (h.missing j) (k.missing j);
  closed = rw (h.closed, k.closed) refl;
  capped = rw (h.capped, k.capped) refl;
  height = rw h.height (add-one (height a));
  highest = rw (h.height, h.highest, k.highest, add-one (height a)) refl;
  nesting = rw (h.nesting, k.nesting) refl;
  last = rw (h.last, k.last) refl;
}

pub Keeps-three : (a b c : Tree) (ka kb kc : Kept) → Keeps a ka → Keeps b kb → Keeps c kc → IsEven a b → IsEven b c
    → weight a + (weight b + weight c) < 2 ^ 64
    → Keeps (three a b c) (both_of ka (both_of kb kc ka.height) (ka.height + 1))
Keeps-three a b c ka kb kc h k l first second fits = record {
  tree = ((first, second), (h.tree, (k.tree, l.tree)));
  light = fits;
  length = rw (h.length, k.length, l.length) (sym (length_plus_assoc (tree_length a) (tree_length b) (tree_length c)));
  missing = λ j. missing-both ka.missing (bit_or kb.missing kc.missing) (is_missing j a) (is_missing j b || is_missing j c) j (h.missing j)
      (missing-both kb.missing kc.missing (is_missing j b) (is_missing j c) j (k.missing j) (l.missing j));
  closed = rw (h.closed, k.closed, l.closed) refl;
  capped = rw (h.capped, k.capped, l.capped) refl;
  height = rw h.height (add-one (height a));
  highest = rw (h.height, h.highest, k.highest, l.highest) (omega arith);
  nesting = rw (h.nesting, k.nesting, l.nesting) refl;
  last = rw (h.last, k.last, l.last) refl;
}

-- The weight of leaves over several lines is covered by the bounds for those lines.
use Rattle.std.proofs.Common.{◌≡◌, ℕ, zero, suc, ◌+◌, ◌<◌, ◌≤◌, List, [], ◌∷◌, length, get_or, drop, refl, ap, sym, ◌∙◌, subst, arith, drop-cons}
use Rattle.std.specs.Prelude.{slice_index}
use Rattle.std.proofs.lemmas.List.{length-drop}
use Rattle.text_lengths.specs.declared.Length.{Length}
use Rattle.text_lengths.specs.Length.{length_of}
use Rattle.bracket_rules.specs.Rows.{next_line}
use Rattle.bracket_tree_rules.specs.Weights.{glue_weights, AreCovered}
use Rattle.bracket_tree_rules.proofs.LineWeights.{HasWeight, AreCovered-same, AreCovered-then}
use Rattle.bracket_tree_rules.specs.Leaves.{Leaf, weight_from, weights_from}

HasWeight-from : (q : Length) (k : ℕ) (ls : List Leaf) → HasWeight (weights_from q k ls)
HasWeight-from q zero ls = tt
HasWeight-from q (suc k) ls = tt

length-from : (q : Length) (k : ℕ) (ls : List Leaf) → length (weights_from q k ls) ≡ suc k
length-from q zero ls = refl
length-from q (suc k) ls = ap suc (length-from (next_line q) k ls)

glue-under : (w : ℕ) (m c : List ℕ) → HasWeight m → glue_weights (w ∷ m) c ≡ w ∷ glue_weights m c
glue-under w [] c h = elim h [ ]
glue-under w (x ∷ m) c h = refl

-- each of the k lines after the line of place q weighs at most the bound for the corresponding line; the line of
-- place q corresponds to line j
abbrev pub AreLight : List ℕ → List Leaf → Length → ℕ → ℕ → Type 0
AreLight weights ls q j k =
    (line i : ℕ) → q.lines < line → line ≤ q.lines + k → i + q.lines ≡ j + line → weight_from (length_of line 0) ls ≤ slice_index weights i

light_next : (weights : List ℕ) (ls : List Leaf) (q : Length) (j k : ℕ) → AreLight weights ls q j (suc k) → AreLight weights ls (next_line q) (suc j) k
light_next weights ls q j k h line i a b e = h line i (omega arith) (omega arith) (omega arith)

-- the next line is covered
step_over : (weights : List ℕ) (ls : List Leaf) (q : Length) (j k : ℕ) (a : List ℕ) → suc j < length weights → AreLight weights ls q j (suc k)
    → AreCovered a (weight_from (next_line q) ls ∷ drop (suc (suc j)) weights) → AreCovered a (drop (suc j) weights)
step_over weights ls q j k a within h c =
    let next : drop (suc j) weights ≡ slice_index weights (suc j) ∷ drop (suc (suc j)) weights = drop-cons weights (suc j) 0 within in
    let light : weight_from (next_line q) ls ≤ slice_index weights (suc j) = h (suc q.lines) (suc j) (omega arith) (omega arith) (omega arith) in
    subst (AreCovered a) (sym next)
    (AreCovered-then a (weight_from (next_line q) ls ∷ drop (suc (suc j)) weights) (slice_index weights (suc j) ∷ drop (suc (suc j)) weights) c
    (light, AreCovered-same (drop (suc (suc j)) weights)))

pub cover_kept : (weights : List ℕ) (ls : List Leaf) (k : ℕ) (q : Length) (j : ℕ) → j + k < length weights → AreLight weights ls q j k
    → AreCovered (glue_weights (weights_from q k ls) (0 ∷ drop (suc (j + k)) weights)) (weight_from q ls ∷ drop (suc j) weights)
cover_kept weights ls zero q j within h =
    let none : suc (j + 0) ≡ suc j = omega arith in
    (omega arith, subst (λ (x : ℕ). AreCovered (drop x weights) (drop (suc j) weights)) (sym none) (AreCovered-same (drop (suc j) weights)))
cover_kept weights ls (suc k) q j within h =
    let b = weights_from (next_line q) k ls in
    let count : suc (suc j + k) ≡ suc (j + suc k) = omega arith in
    let rest : AreCovered (glue_weights b (0 ∷ drop (suc (suc j + k)) weights)) (weight_from (next_line q) ls ∷ drop (suc (suc j)) weights) =
    cover_kept weights ls k (next_line q) (suc j) (omega arith) (light_next weights ls q j k h) in
    let rest2 : AreCovered (glue_weights b (0 ∷ drop (suc (j + suc k)) weights)) (weight_from (next_line q) ls ∷ drop (suc (suc j)) weights) =
    subst (λ (x : ℕ). AreCovered (glue_weights b (0 ∷ drop x weights)) (weight_from (next_line q) ls ∷ drop (suc (suc j)) weights)) count rest in
    subst (λ (x : List ℕ). AreCovered x (weight_from q ls ∷ drop (suc j) weights))
    (sym (glue-under (weight_from q ls) b (0 ∷ drop (suc (j + suc k)) weights) (HasWeight-from (next_line q) k ls)))
    (omega arith, step_over weights ls q j k (glue_weights b (0 ∷ drop (suc (j + suc k)) weights)) (omega arith) h rest2)

-- ---- weights whose last line has nothing

glue_none : (g : ℕ) (d : List ℕ) → g ≡ 0 → 0 < length d → glue_weights (g ∷ []) d ≡ d
glue_none g [] e h = absurd (omega arith)
glue_none g (v ∷ d) e h = ap (λ (n : ℕ). n ∷ d) (omega arith)

pub cover_turned : (weights : List ℕ) (ls : List Leaf) (k : ℕ) (q : Length) (j : ℕ) (f : List ℕ) (x : ℕ) → HasWeight f
    → glue_weights f (x ∷ []) ≡ weights_from q (suc k) ls → x ≡ weight_from (length_of (q.lines + suc k) 0) ls → suc (j + k) < length weights
    → AreLight weights ls q j k
    → AreCovered (glue_weights f (drop (suc (j + k)) weights)) (weight_from q ls ∷ drop (suc j) weights)
cover_turned weights ls k q j [] x has e last within h = elim has [ ]
cover_turned weights ls k q j (w ∷ []) x has e last within h =
    absurd (let counted : 1 ≡ length (weights_from q (suc k) ls) = ap length e in omega (arith, length-from q (suc k) ls))
cover_turned weights ls zero q j (w ∷ g ∷ []) x has e last within h =
    let first : w ≡ weight_from q ls = ap (λ (ws : List ℕ). get_or ws 0 0) e in
    let second : g + x ≡ weight_from (next_line q) ls = ap (λ (ws : List ℕ). get_or ws 1 0) e in
    let line : length_of (q.lines + 1) 0 ≡ next_line q = ap (λ (n : ℕ). length_of n 0) (omega arith) in
    let same : x ≡ weight_from (next_line q) ls = last ∙ ap (λ (p : Length). weight_from p ls) line in
    let none : suc (j + 0) ≡ suc j = omega arith in
    let rest : glue_weights (g ∷ []) (drop (suc (j + 0)) weights) ≡ drop (suc j) weights =
    ap (λ (n : ℕ). glue_weights (g ∷ []) (drop n weights)) none
    ∙ glue_none g (drop (suc j) weights) (omega arith) (omega (arith, length-drop (suc j) weights)) in
    (omega arith, subst (λ (d : List ℕ). AreCovered d (drop (suc j) weights)) (sym rest) (AreCovered-same (drop (suc j) weights)))
cover_turned weights ls zero q j (w ∷ g ∷ y ∷ f) x has e last within h =
    absurd (let counted : length (glue_weights (w ∷ g ∷ y ∷ f) (x ∷ [])) ≡ length (weights_from q 1 ls) = ap length e in
    omega (arith, length-from q 1 ls, length-glue (y ∷ f) x))
  where
    length-glue : (f : List ℕ) (x : ℕ) → 0 < length (glue_weights f (x ∷ []))
    length-glue [] x = omega arith
    length-glue (w ∷ []) x = omega arith
    length-glue (w ∷ g ∷ f) x = omega arith
cover_turned weights ls (suc k) q j (w ∷ g ∷ f) x has e last within h =
    let first : w ≡ weight_from q ls = ap (λ (ws : List ℕ). get_or ws 0 0) e in
    let tail : glue_weights (g ∷ f) (x ∷ []) ≡ weights_from (next_line q) (suc k) ls = ap (drop 1) e in
    let line : length_of (q.lines + suc (suc k)) 0 ≡ length_of (suc q.lines + suc k) 0 = ap (λ (n : ℕ). length_of n 0) (omega arith) in
    let end : x ≡ weight_from (length_of ((next_line q).lines + suc k) 0) ls = last ∙ ap (λ (p : Length). weight_from p ls) line in
    let count : suc (suc j + k) ≡ suc (j + suc k) = omega arith in
    let rest : AreCovered (glue_weights (g ∷ f) (drop (suc (suc j + k)) weights)) (weight_from (next_line q) ls ∷ drop (suc (suc j)) weights) =
    cover_turned weights ls k (next_line q) (suc j) (g ∷ f) x tt tail end (omega arith) (light_next weights ls q j k h) in (
      omega arith,
      step_over weights ls q j k (glue_weights (g ∷ f) (drop (suc (j + suc k)) weights)) (omega arith) h
          (subst (λ (n : ℕ). AreCovered (glue_weights (g ∷ f) (drop n weights)) (weight_from (next_line q) ls ∷ drop (suc (suc j)) weights)) count rest),
    )

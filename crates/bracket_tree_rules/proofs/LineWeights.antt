-- The laws of weights line by line: glued weights, coverings, and sums.
use Rattle.std.proofs.Common.{◌≡◌, ℕ, zero, suc, ◌+◌, ◌≤◌, true, Option, Some, None, List, [], ◌∷◌, ◌++◌, length, get_or, sum, refl, ap, sym, ◌∙◌, subst, arith, add-zero, zero-add, add_assoc}
use Rattle.std.specs.Prelude.{⊤}
use Rattle.std.proofs.lemmas.List.Sums.{sum_by-cons}
use Rattle.bracket_rules.specs.Rows.{Row}
use Rattle.bracket_rules.specs.TextRows.{glue}
use Rattle.bracket_tree_rules.specs.Tree.{Tree, text, pair, stray, capped, nothing, two, three, width_of, weight, items, all_weight, tree_rows, gap_rows, bracket_row, closing_rows}
use Rattle.bracket_tree_rules.specs.Weights.{glue_weights, gap_weights, tree_weights, all_weights, AreCovered}
use Rattle.bracket_tree_rules.proofs.Adding.{AddsUp, added-append, added-items}

-- every text has at least one line
abbrev pub HasWeight : List ℕ → Type 0
HasWeight [] = ⊥
HasWeight (w ∷ ws) = ⊤

-- ---- the unit

pub HasWeight-glue : (a b : List ℕ) → HasWeight a → HasWeight (glue_weights a b)
HasWeight-glue [] b h = elim h [ ]
HasWeight-glue (w ∷ []) [] h = tt
HasWeight-glue (w ∷ []) (v ∷ b) h = tt
HasWeight-glue (w ∷ x ∷ a) b h = tt

pub glue_zero : (a : List ℕ) → HasWeight a → glue_weights a (0 ∷ []) ≡ a
glue_zero [] h = elim h [ ]
glue_zero (w ∷ []) h = ap (λ (n : ℕ). n ∷ []) (add-zero w)
glue_zero (w ∷ x ∷ a) h = ap (λ (ws : List ℕ). w ∷ ws) (glue_zero (x ∷ a) tt)

pub zero_glue : (a : List ℕ) → HasWeight a → glue_weights (0 ∷ []) a ≡ a
zero_glue [] h = elim h [ ]
zero_glue (w ∷ a) h = ap (λ (n : ℕ). n ∷ a) (zero-add w)

-- ---- associativity

glue-under : (w : ℕ) (m c : List ℕ) → HasWeight m → glue_weights (w ∷ m) c ≡ w ∷ glue_weights m c
glue-under w [] c h = elim h [ ]
glue-under w (x ∷ m) c h = refl

pub glue_weights-assoc : (a b c : List ℕ) → glue_weights (glue_weights a b) c ≡ glue_weights a (glue_weights b c)
glue_weights-assoc [] b c = refl
glue_weights-assoc (w ∷ []) [] c = refl
glue_weights-assoc (w ∷ []) (v ∷ []) [] = refl
glue_weights-assoc (w ∷ []) (v ∷ []) (u ∷ c) = ap (λ (n : ℕ). n ∷ c) (add_assoc w v u)
glue_weights-assoc (w ∷ []) (v ∷ x ∷ b) c = refl
glue_weights-assoc (w ∷ x ∷ a) b c =
    glue-under w (glue_weights (x ∷ a) b) c (HasWeight-glue (x ∷ a) b tt)
    ∙ ap (λ (ws : List ℕ). w ∷ ws) (glue_weights-assoc (x ∷ a) b c)

-- ---- sums

pub sum-cons : (w : ℕ) (ws : List ℕ) → sum (w ∷ ws) ≡ w + sum ws
sum-cons w ws = sum_by-cons (λ x. x) w ws

pub sum-glue : (a b : List ℕ) → sum (glue_weights a b) ≡ sum a + sum b
sum-glue [] b = omega arith
sum-glue (w ∷ []) [] = omega arith
sum-glue (w ∷ []) (v ∷ b) = omega (arith, sum-cons (w + v) b, sum-cons v b)
sum-glue (w ∷ x ∷ a) b = omega (arith, sum-glue (x ∷ a) b, sum-cons w (glue_weights (x ∷ a) b), sum-cons w (x ∷ a))

-- ---- covering

pub AreCovered-same : (ws : List ℕ) → AreCovered ws ws
AreCovered-same [] = tt
AreCovered-same (w ∷ ws) = (omega arith, AreCovered-same ws)

pub AreCovered-then : (us vs ws : List ℕ) → AreCovered us vs → AreCovered vs ws → AreCovered us ws
AreCovered-then [] [] [] h k = tt
AreCovered-then [] [] (w ∷ ws) h k = elim k [ ]
AreCovered-then [] (v ∷ vs) ws h k = elim h [ ]
AreCovered-then (u ∷ us) [] ws h k = elim h [ ]
AreCovered-then (u ∷ us) (v ∷ vs) [] h k = elim k [ ]
AreCovered-then (u ∷ us) (v ∷ vs) (w ∷ ws) h k =
    (let first : u ≤ v = h.0 in let second : v ≤ w = k.0 in omega arith, AreCovered-then us vs ws h.1 k.1)

pub AreCovered-glue : (a a' b b' : List ℕ) → AreCovered a a' → AreCovered b b' → AreCovered (glue_weights a b) (glue_weights a' b')
AreCovered-glue [] [] b b' h k = k
AreCovered-glue [] (w ∷ a') b b' h k = elim h [ ]
AreCovered-glue (v ∷ a) [] b b' h k = elim h [ ]
AreCovered-glue (v ∷ []) (w ∷ []) [] [] h k = h
AreCovered-glue (v ∷ []) (w ∷ []) [] (y ∷ b') h k = elim k [ ]
AreCovered-glue (v ∷ []) (w ∷ []) (x ∷ b) [] h k = elim k [ ]
AreCovered-glue (v ∷ []) (w ∷ []) (x ∷ b) (y ∷ b') h k =
    (let first : v ≤ w = h.0 in let second : x ≤ y = k.0 in omega arith, k.1)
AreCovered-glue (v ∷ []) (w ∷ w' ∷ a') b b' h k = elim h.1 [ ]
AreCovered-glue (v ∷ v' ∷ a) (w ∷ []) b b' h k = elim h.1 [ ]
AreCovered-glue (v ∷ v' ∷ a) (w ∷ w' ∷ a') b b' h k = (h.0, AreCovered-glue (v' ∷ a) (w' ∷ a') b b' h.1 k)

pub AreCovered-at : (ws vs : List ℕ) (line : ℕ) → AreCovered ws vs → get_or ws line 0 ≤ get_or vs line 0
AreCovered-at [] [] line h = omega arith
AreCovered-at [] (v ∷ vs) line h = elim h [ ]
AreCovered-at (w ∷ ws) [] line h = elim h [ ]
AreCovered-at (w ∷ ws) (v ∷ vs) zero h = h.0
AreCovered-at (w ∷ ws) (v ∷ vs) (suc line) h = AreCovered-at ws vs line h.1

pub AreCovered-sum : (ws vs : List ℕ) → AreCovered ws vs → sum ws ≤ sum vs
AreCovered-sum [] [] h = omega arith
AreCovered-sum [] (v ∷ vs) h = elim h [ ]
AreCovered-sum (w ∷ ws) [] h = elim h [ ]
AreCovered-sum (w ∷ ws) (v ∷ vs) h = let first : w ≤ v = h.0 in omega (arith, AreCovered-sum ws vs h.1, sum-cons w ws, sum-cons v vs)

-- two parts one after the other: the rest after the first covers the second and its rest
pub covered_after : (a b c rest old : List ℕ) → AreCovered (glue_weights a rest) old → AreCovered (glue_weights b c) rest
    → AreCovered (glue_weights (glue_weights a b) c) old
covered_after a b c rest old h k =
    subst (λ (ws : List ℕ). AreCovered ws old) (sym (glue_weights-assoc a b c))
    (AreCovered-then (glue_weights a (glue_weights b c)) (glue_weights a rest) old
    (AreCovered-glue a a (glue_weights b c) rest (AreCovered-same a) k) h)

pub sum_after : (a rest old : List ℕ) → AreCovered (glue_weights a rest) old → sum a + sum rest ≤ sum old
sum_after a rest old h =
    let both = sum-glue a rest in
    let below = AreCovered-sum (glue_weights a rest) old h in
    omega arith

-- ---- the weights of a tree

HasWeight-gap : (lines columns : ℕ) → HasWeight (gap_weights lines columns)
HasWeight-gap zero columns = tt
HasWeight-gap (suc lines) columns = tt

pub HasWeight-tree : (t : Tree) → HasWeight (tree_weights t)
HasWeight-tree (text l) = HasWeight-gap l.lines l.columns
HasWeight-tree (pair k o i c) =
    HasWeight-glue (glue_weights (o ∷ []) (tree_weights i)) (width_of c ∷ []) (HasWeight-glue (o ∷ []) (tree_weights i) tt)
HasWeight-tree (stray k w) = tt
HasWeight-tree (capped k w) = tt
HasWeight-tree nothing = tt
HasWeight-tree (two a b) = HasWeight-glue (tree_weights a) (tree_weights b) (HasWeight-tree a)
HasWeight-tree (three a b c) =
    HasWeight-glue (glue_weights (tree_weights a) (tree_weights b)) (tree_weights c)
    (HasWeight-glue (tree_weights a) (tree_weights b) (HasWeight-tree a))

sum-gap : (lines columns : ℕ) → sum (gap_weights lines columns) ≡ lines + columns
sum-gap zero columns = omega arith
sum-gap (suc lines) columns = omega (arith, sum-gap lines columns, sum-cons 1 (gap_weights lines columns))

pub sum-tree_weights : (t : Tree) → sum (tree_weights t) ≡ weight t
sum-tree_weights (text l) = sum-gap l.lines l.columns
sum-tree_weights (pair k o i c) =
    let inner = sum-glue (o ∷ []) (tree_weights i) in
    let outer = sum-glue (glue_weights (o ∷ []) (tree_weights i)) (width_of c ∷ []) in
    let inside = sum-tree_weights i in
    omega arith
sum-tree_weights (stray k w) = omega arith
sum-tree_weights (capped k w) = omega arith
sum-tree_weights nothing = omega arith
sum-tree_weights (two a b) =
    let both = sum-glue (tree_weights a) (tree_weights b) in
    let first = sum-tree_weights a in
    let second = sum-tree_weights b in
    omega arith
sum-tree_weights (three a b c) =
    let both = sum-glue (tree_weights a) (tree_weights b) in
    let all = sum-glue (glue_weights (tree_weights a) (tree_weights b)) (tree_weights c) in
    let first = sum-tree_weights a in
    let second = sum-tree_weights b in
    let third = sum-tree_weights c in
    omega arith

-- ---- as many weights as rows

length-glue : (a b : List ℕ) (r s : List Row) → length a ≡ length r → length b ≡ length s → length (glue_weights a b) ≡ length (glue r s)
length-glue [] b [] s h k = k
length-glue [] b (x ∷ r) s h k = absurd (omega arith)
length-glue (w ∷ a) b [] s h k = absurd (omega arith)
length-glue (w ∷ []) [] (x ∷ []) [] h k = refl
length-glue (w ∷ []) [] (x ∷ []) (y ∷ s) h k = absurd (omega arith)
length-glue (w ∷ []) (v ∷ b) (x ∷ []) [] h k = absurd (omega arith)
length-glue (w ∷ []) (v ∷ b) (x ∷ []) (y ∷ s) h k = omega arith
length-glue (w ∷ []) b (x ∷ x' ∷ r) s h k = absurd (omega arith)
length-glue (w ∷ w' ∷ a) b (x ∷ []) s h k = absurd (omega arith)
length-glue (w ∷ w' ∷ a) b (x ∷ x' ∷ r) s h k = let rest = length-glue (w' ∷ a) b (x' ∷ r) s (omega arith) k in omega arith

length-gap : (lines columns : ℕ) → length (gap_weights lines columns) ≡ length (gap_rows lines columns)
length-gap zero columns = refl
length-gap (suc lines) columns = let rest = length-gap lines columns in omega arith

length-closing : (k : ℕ) (c : Option ℕ) → length (closing_rows k c) ≡ 1
length-closing k None = refl
length-closing k (Some w) = refl

pub length-tree_weights : (t : Tree) → length (tree_weights t) ≡ length (tree_rows t)
length-tree_weights (text l) = length-gap l.lines l.columns
length-tree_weights (pair k o i c) =
    length-glue (glue_weights (o ∷ []) (tree_weights i)) (width_of c ∷ []) (glue (bracket_row k o true) (tree_rows i)) (closing_rows k c)
    (length-glue (o ∷ []) (tree_weights i) (bracket_row k o true) (tree_rows i) refl (length-tree_weights i)) (sym (length-closing k c))
length-tree_weights (stray k w) = refl
length-tree_weights (capped k w) = refl
length-tree_weights nothing = refl
length-tree_weights (two a b) =
    length-glue (tree_weights a) (tree_weights b) (tree_rows a) (tree_rows b) (length-tree_weights a) (length-tree_weights b)
length-tree_weights (three a b c) =
    length-glue (glue_weights (tree_weights a) (tree_weights b)) (tree_weights c) (glue (tree_rows a) (tree_rows b)) (tree_rows c)
    (length-glue (tree_weights a) (tree_weights b) (tree_rows a) (tree_rows b) (length-tree_weights a) (length-tree_weights b))
    (length-tree_weights c)

-- ---- the weights of a list

pub HasWeight-all : (ts : List Tree) → HasWeight (all_weights ts)
HasWeight-all [] = tt
HasWeight-all (t ∷ ts) = HasWeight-glue (tree_weights t) (all_weights ts) (HasWeight-tree t)

adds_weights : AddsUp glue_weights tree_weights all_weights
adds_weights = record {
  one_more = λ t ts. refl;
  none_before = λ ts. zero_glue (all_weights ts) (HasWeight-all ts);
  none_after = λ t. glue_zero (tree_weights t) (HasWeight-tree t);
  in_turn = glue_weights-assoc;
  of_nothing = refl;
  of_two = λ a b. refl;
  of_three = λ a b c. glue_weights-assoc (tree_weights a) (tree_weights b) (tree_weights c);
}

pub all_weights-append : (xs ys : List Tree) → all_weights (xs ++ ys) ≡ glue_weights (all_weights xs) (all_weights ys)
all_weights-append = added-append adds_weights

pub all_weights-items : (t : Tree) → all_weights (items t) ≡ tree_weights t
all_weights-items = added-items adds_weights

pub sum-all_weights : (ts : List Tree) → sum (all_weights ts) ≡ all_weight ts
sum-all_weights [] = omega arith
sum-all_weights (t ∷ ts) =
    let both = sum-glue (tree_weights t) (all_weights ts) in
    let first = sum-tree_weights t in
    let rest = sum-all_weights ts in
    omega arith

-- The leaves of a tree, line by line, and the weight that a node or a bracket leaves of its line.
use Rattle.std.proofs.Common.{◌≡◌, ℕ, zero, suc, ◌+◌, ◌<◌, ◌⊎◌, inl, inr, Option, Some, None, List, [], ◌∷◌, ◌++◌, refl, ap, sym, ◌∙◌, subst, arith, add_assoc, zero-add}
use Rattle.text_lengths.specs.declared.Length.{Length}
use Rattle.text_lengths.specs.Length.{length_of, length_plus}
use Rattle.text_lengths.proofs.Lengths.{length_plus_assoc}
use Rattle.bracket_tree_rules.specs.Tree.{Tree, text, pair, stray, capped, nothing, two, three, wide, width_of, tree_length, inside_start, inside_end, IsTree, IsGap, IsWidth}
use Rattle.bracket_tree_rules.specs.Weights.{glue_weights, gap_weights, tree_weights}
use Rattle.bracket_tree_rules.proofs.LineWeights.{glue_weights-assoc}
use Rattle.bracket_tree_rules.specs.Leaves.{leaf, closing_leaves, leaves, weight_from, weights_from}
use Rattle.bracket_tree_rules.proofs.LeafWeights.{IsBehind, IsAhead, behind_itself, behind_then, ahead_then, behind_plus, ahead_plus, in_line, AreBehind, AreAhead, AreBehind-append, AreBehind-then, AreAhead-append, AreAhead-then, AreUpTo-ahead, weight_ahead, weights-glue}

-- ---- where the leaves stand

pub closing_behind : (p : Length) (c : Option ℕ) → AreBehind p (closing_leaves p c)
closing_behind p None = tt
closing_behind p (Some w) = (behind_itself p, tt)

pub leaves_behind : (p : Length) (t : Tree) → AreBehind p (leaves p t)
leaves_behind p (text l) = (behind_itself p, tt)
leaves_behind p (pair k o i c) =
    let s = inside_start p o in
    let e = inside_end p o i in
    let start : IsBehind p s = behind_plus p (wide o) in
    let end : IsBehind p e = behind_then p s e start (behind_plus s (tree_length i)) in (
      behind_itself p,
      AreBehind-append p (leaves s i) (closing_leaves e c) (AreBehind-then p s (leaves s i) start (leaves_behind s i))
          (AreBehind-then p e (closing_leaves e c) end (closing_behind e c)),
    )
leaves_behind p (stray k w) = (behind_itself p, tt)
leaves_behind p (capped k w) = (behind_itself p, tt)
leaves_behind p nothing = tt
leaves_behind p (two a b) =
    let r = length_plus p (tree_length a) in
    AreBehind-append p (leaves p a) (leaves r b) (leaves_behind p a)
    (AreBehind-then p r (leaves r b) (behind_plus p (tree_length a)) (leaves_behind r b))
leaves_behind p (three a b c) =
    let r = length_plus p (tree_length a) in
    let s = length_plus r (tree_length b) in
    let second : IsBehind p r = behind_plus p (tree_length a) in
    let third : IsBehind p s = behind_then p r s second (behind_plus r (tree_length b)) in
    AreBehind-append p (leaves p a) (leaves r b ++ leaves s c) (leaves_behind p a)
    (AreBehind-append p (leaves r b) (leaves s c) (AreBehind-then p r (leaves r b) second (leaves_behind r b))
    (AreBehind-then p s (leaves s c) third (leaves_behind s c)))

gap_some : (l : Length) → IsGap l → 0 < l.lines + l.columns
gap_some l (inl h) = let some : 0 < l.columns = h.1 in omega arith
gap_some l (inr h) = let one : l.lines ≡ 1 = h.0 in omega arith

closing_ahead : (p : Length) (c : Option ℕ) → IsWidth c → AreAhead (length_plus p (wide (width_of c))) (closing_leaves p c)
closing_ahead p None h = tt
closing_ahead p (Some w) h = (ahead_plus p (wide w) (let some : 0 < w = h in omega arith), tt)

pub pair_end : (p : Length) (k o : ℕ) (i : Tree) (c : Option ℕ)
    → length_plus (inside_end p o i) (wide (width_of c)) ≡ length_plus p (tree_length (pair k o i c))
pair_end p k o i c =
    let l = wide o in
    let m = tree_length i in
    let n = wide (width_of c) in
    ap (λ (x : Length). length_plus x n) (length_plus_assoc p l m) ∙ length_plus_assoc p (length_plus l m) n

three_end : (p : Length) (a b c : Tree)
    → length_plus (length_plus (length_plus p (tree_length a)) (tree_length b)) (tree_length c) ≡ length_plus p (tree_length (three a b c))
three_end p a b c =
    let l = tree_length a in
    let m = tree_length b in
    let n = tree_length c in
    ap (λ (x : Length). length_plus x n) (length_plus_assoc p l m) ∙ length_plus_assoc p (length_plus l m) n

pub leaves_ahead : (p : Length) (t : Tree) → IsTree t → AreAhead (length_plus p (tree_length t)) (leaves p t)
leaves_ahead p (text l) h = (ahead_plus p l (gap_some l h), tt)
leaves_ahead p (pair k o i c) h =
    let s = inside_start p o in
    let e = inside_end p o i in
    let f = length_plus e (wide (width_of c)) in
    let last : IsBehind e f = behind_plus e (wide (width_of c)) in
    let inside : IsBehind s f = behind_then s e f (behind_plus s (tree_length i)) last in
    let opening : IsAhead s p = ahead_plus p (wide o) (let some : 0 < o = h.0.opening in omega arith) in
    subst (λ (x : Length). AreAhead x (leaves p (pair k o i c))) (pair_end p k o i c) (
      ahead_then p s f opening inside,
      AreAhead-append f (leaves s i) (closing_leaves e c) (AreAhead-then e f (leaves s i) last (leaves_ahead s i h.1))
          (closing_ahead e c h.0.closing),
    )
leaves_ahead p (stray k w) h = (ahead_plus p (wide w) (let some : 0 < w = h.wide in omega arith), tt)
leaves_ahead p (capped k w) h = (ahead_plus p (wide w) (let some : 0 < w = h.wide in omega arith), tt)
leaves_ahead p nothing h = tt
leaves_ahead p (two a b) h =
    let r = length_plus p (tree_length a) in
    let f = length_plus r (tree_length b) in
    subst (λ (x : Length). AreAhead x (leaves p (two a b))) (length_plus_assoc p (tree_length a) (tree_length b))
    (AreAhead-append f (leaves p a) (leaves r b) (AreAhead-then r f (leaves p a) (behind_plus r (tree_length b)) (leaves_ahead p a h.1.0))
    (leaves_ahead r b h.1.1))
leaves_ahead p (three a b c) h =
    let r = length_plus p (tree_length a) in
    let s = length_plus r (tree_length b) in
    let f = length_plus s (tree_length c) in
    let last : IsBehind s f = behind_plus s (tree_length c) in
    let middle : IsBehind r f = behind_then r s f (behind_plus r (tree_length b)) last in
    subst (λ (x : Length). AreAhead x (leaves p (three a b c))) (three_end p a b c)
    (AreAhead-append f (leaves p a) (leaves r b ++ leaves s c) (AreAhead-then r f (leaves p a) middle (leaves_ahead p a h.1.0))
    (AreAhead-append f (leaves r b) (leaves s c) (AreAhead-then s f (leaves r b) last (leaves_ahead r b h.1.1.0))
    (leaves_ahead s c h.1.1.1)))

-- ---- line by line

pub one_leaf : (p : Length) (w : ℕ) → weight_from p (leaf p w ∷ []) ≡ w
one_leaf p w = omega (arith, in_line p (leaf p w) refl (omega arith))

one_line : (p : Length) (w : ℕ) → weights_from p 0 (leaf p w ∷ []) ≡ w ∷ []
one_line p w = ap (λ (n : ℕ). n ∷ []) (one_leaf p w)

closing_line : (p : Length) (c : Option ℕ) → weights_from p 0 (closing_leaves p c) ≡ width_of c ∷ []
closing_line p None = refl
closing_line p (Some w) = one_line p w

gap_lines : (p : Length) (m n : ℕ) → ((m ≡ 0) × (0 < n)) ⊎ ((m ≡ 1) × (n ≡ 0)) → weights_from p m (leaf p (m + n) ∷ []) ≡ gap_weights m n
gap_lines p zero n h = one_line p (0 + n) ∙ ap (λ (x : ℕ). x ∷ []) (zero-add n)
gap_lines p (suc zero) zero h = cc_two (one_leaf p (1 + 0)) (weight_behind_line p)
  where
    weight_behind_line : (p : Length) → weight_from (length_of (suc p.lines) 0) (leaf p (1 + 0) ∷ []) ≡ 0
    weight_behind_line p = weight_ahead (length_of (suc p.lines) 0) (leaf p (1 + 0) ∷ []) (record { lines = omega arith; columns = λ e. absurd (omega arith) }, tt)

    cc_two : {a b : ℕ} → a ≡ 1 → b ≡ 0 → a ∷ b ∷ [] ≡ 1 ∷ 0 ∷ []
    cc_two e f = cc
gap_lines p (suc zero) (suc n) (inl h) = absurd (let none : suc zero ≡ 0 = h.0 in omega arith)
gap_lines p (suc zero) (suc n) (inr h) = absurd (let none : suc n ≡ 0 = h.1 in omega arith)
gap_lines p (suc (suc m)) n (inl h) = absurd (let none : suc (suc m) ≡ 0 = h.0 in omega arith)
gap_lines p (suc (suc m)) n (inr h) = absurd (let none : suc (suc m) ≡ 1 = h.0 in omega arith)

-- line by line the leaves have the weight of the tree
pub leaves_weigh : (p : Length) (t : Tree) → IsTree t → weights_from p (tree_length t).lines (leaves p t) ≡ tree_weights t
leaves_weigh p (text l) h = gap_lines p l.lines l.columns h
leaves_weigh p (pair k o i c) h =
    let s = inside_start p o in
    let e = inside_end p o i in
    let n = (tree_length i).lines in
    let rest = leaves s i ++ closing_leaves e c in
    let opening : AreAhead s (leaf p o ∷ []) = (ahead_plus p (wide o) (let some : 0 < o = h.0.opening in omega arith), tt) in
    let end : IsBehind s e = behind_plus s (tree_length i) in
    let behind : AreBehind s rest =
    AreBehind-append s (leaves s i) (closing_leaves e c) (leaves_behind s i) (AreBehind-then s e (closing_leaves e c) end (closing_behind e c)) in
    let first : weights_from p (0 + (n + 0)) (leaf p o ∷ rest) ≡ glue_weights (weights_from p 0 (leaf p o ∷ [])) (weights_from s (n + 0) rest) =
    weights-glue p s 0 (n + 0) (leaf p o ∷ []) rest (omega arith) (behind_plus p (wide o)) (AreUpTo-ahead s (leaf p o ∷ []) opening) behind in
    let second : weights_from s (n + 0) rest ≡ glue_weights (weights_from s n (leaves s i)) (weights_from e 0 (closing_leaves e c)) =
    weights-glue s e n 0 (leaves s i) (closing_leaves e c) (omega arith) end (AreUpTo-ahead e (leaves s i) (leaves_ahead s i h.1)) (closing_behind e c) in
    let counted : (tree_length (pair k o i c)).lines ≡ 0 + (n + 0) = omega arith in
    ap (λ (x : ℕ). weights_from p x (leaf p o ∷ rest)) counted ∙ first
    ∙ ap (λ (x : List ℕ). glue_weights x (weights_from s (n + 0) rest)) (one_line p o)
    ∙ ap (glue_weights (o ∷ []))
    (second ∙ ap (λ (x : List ℕ). glue_weights x (weights_from e 0 (closing_leaves e c))) (leaves_weigh s i h.1)
    ∙ ap (glue_weights (tree_weights i)) (closing_line e c))
    ∙ sym (glue_weights-assoc (o ∷ []) (tree_weights i) (width_of c ∷ []))
leaves_weigh p (stray k w) h = one_line p w
leaves_weigh p (capped k w) h = one_line p w
leaves_weigh p nothing h = refl
leaves_weigh p (two a b) h = two_parts p a b (leaves_ahead p a h.1.0) (leaves_weigh p a h.1.0) (leaves_weigh (length_plus p (tree_length a)) b h.1.1)
  where
    two_parts : (p : Length) (a b : Tree) → AreAhead (length_plus p (tree_length a)) (leaves p a)
        → weights_from p (tree_length a).lines (leaves p a) ≡ tree_weights a
        → weights_from (length_plus p (tree_length a)) (tree_length b).lines (leaves (length_plus p (tree_length a)) b) ≡ tree_weights b
        → weights_from p ((tree_length a).lines + (tree_length b).lines) (leaves p a ++ leaves (length_plus p (tree_length a)) b)
        ≡ glue_weights (tree_weights a) (tree_weights b)
    two_parts p a b up e f =
        let r = length_plus p (tree_length a) in
        weights-glue p r (tree_length a).lines (tree_length b).lines (leaves p a) (leaves r b) refl (behind_plus p (tree_length a))
        (AreUpTo-ahead r (leaves p a) up) (leaves_behind r b)
        ∙ ap (λ (x : List ℕ). glue_weights x (weights_from r (tree_length b).lines (leaves r b))) e ∙ ap (glue_weights (tree_weights a)) f
leaves_weigh p (three a b c) h =
    let r = length_plus p (tree_length a) in
    let s = length_plus r (tree_length b) in
    let rest = leaves r b ++ leaves s c in
    let m = (tree_length b).lines in
    let n = (tree_length c).lines in
    let last : IsBehind r s = behind_plus r (tree_length b) in
    let behind : AreBehind r rest =
    AreBehind-append r (leaves r b) (leaves s c) (leaves_behind r b) (AreBehind-then r s (leaves s c) last (leaves_behind s c)) in
    let first : weights_from p ((tree_length a).lines + (m + n)) (leaves p a ++ rest)
    ≡ glue_weights (weights_from p (tree_length a).lines (leaves p a)) (weights_from r (m + n) rest) =
    weights-glue p r (tree_length a).lines (m + n) (leaves p a) rest refl (behind_plus p (tree_length a))
    (AreUpTo-ahead r (leaves p a) (leaves_ahead p a h.1.0)) behind in
    let second : weights_from r (m + n) rest ≡ glue_weights (weights_from r m (leaves r b)) (weights_from s n (leaves s c)) =
    weights-glue r s m n (leaves r b) (leaves s c) refl last (AreUpTo-ahead s (leaves r b) (leaves_ahead r b h.1.1.0)) (leaves_behind s c) in
    ap (λ (x : ℕ). weights_from p x (leaves p a ++ rest)) (add_assoc (tree_length a).lines m n) ∙ first
    ∙ ap (λ (x : List ℕ). glue_weights x (weights_from r (m + n) rest)) (leaves_weigh p a h.1.0)
    ∙ ap (glue_weights (tree_weights a))
    (second ∙ ap (λ (x : List ℕ). glue_weights x (weights_from s n (leaves s c))) (leaves_weigh r b h.1.1.0)
    ∙ ap (glue_weights (tree_weights b)) (leaves_weigh s c h.1.1.1))
    ∙ sym (glue_weights-assoc (tree_weights a) (tree_weights b) (tree_weights c))

-- The weight of the leaves of a tree in the lines from a place on, and how a node's leaves are separated from the
-- others.
use Rattle.std.proofs.Common.{◌≡◌, ℕ, zero, suc, ◌+◌, ◌<◌, ◌≤◌, inl, inr, List, [], ◌∷◌, ◌++◌, refl, ap, sym, ◌∙◌, arith, zero-add}
use Rattle.std.specs.Prelude.{⊤}
use Rattle.std.proofs.lemmas.Bool.{cases_lt, ne_eqb, eq-eqb, le-leb, lt-leb, le-ltb}
use Rattle.text_lengths.specs.declared.Length.{Length}
use Rattle.text_lengths.specs.Length.{length_of, length_plus}
use Rattle.bracket_rules.specs.Rows.{next_line}
use Rattle.bracket_tree_rules.specs.Weights.{glue_weights}
use Rattle.bracket_tree_rules.specs.Leaves.{Leaf, leaf_weight, weight_from, weights_from}

-- ---- places

-- place p is at or after place q
pub record IsBehind (q p : Length) : Type 0 where
  pub lines : q.lines ≤ p.lines
  pub columns : p.lines ≤ q.lines → q.columns ≤ p.columns

-- place p is before place q
pub record IsAhead (q p : Length) : Type 0 where
  pub lines : p.lines ≤ q.lines
  pub columns : q.lines ≤ p.lines → p.columns < q.columns

pub behind_itself : (p : Length) → IsBehind p p
behind_itself p = record { lines = omega arith; columns = λ h. omega arith }

pub behind_then : (p q r : Length) → IsBehind p q → IsBehind q r → IsBehind p r
behind_then p q r h k = record {
  lines = let a = h.lines in let b = k.lines in omega arith;
  columns = λ e.
      let a = h.lines in let b = k.lines in
      let first : p.columns ≤ q.columns = h.columns (omega arith) in
      let second : q.columns ≤ r.columns = k.columns (omega arith) in
      omega arith;
}

pub ahead_then : (p q r : Length) → IsAhead q p → IsBehind q r → IsAhead r p
ahead_then p q r h k = record {
  lines = let a = h.lines in let b = k.lines in omega arith;
  columns = λ e.
      let a = h.lines in let b = k.lines in
      let first : p.columns < q.columns = h.columns (omega arith) in
      let second : q.columns ≤ r.columns = k.columns (omega arith) in
      omega arith;
}

pub behind_plus : (p l : Length) → IsBehind p (length_plus p l)
behind_plus p l = record {
  lines = omega arith;
  columns = λ h. rw (le-ltb 0 l.lines (omega arith)) (omega arith);
}

pub ahead_plus : (p l : Length) → 0 < l.lines + l.columns → IsAhead (length_plus p l) p
ahead_plus p l some = record {
  lines = omega arith;
  columns = λ h. rw (le-ltb 0 l.lines (omega arith)) (omega arith);
}

-- ---- one leaf

other_line : (q : Length) (l : Leaf) → (l.place.lines ≡ q.lines → ⊥) → leaf_weight q l ≡ 0
other_line q l ne = rw (ne_eqb l.place.lines q.lines ne) refl

before_column : (q : Length) (l : Leaf) → l.place.lines ≡ q.lines → l.place.columns < q.columns → leaf_weight q l ≡ 0
before_column q l e h = rw (eq-eqb l.place.lines q.lines e, lt-leb q.columns l.place.columns h) refl

pub in_line : (q : Length) (l : Leaf) → l.place.lines ≡ q.lines → q.columns ≤ l.place.columns → leaf_weight q l ≡ l.weight
in_line q l e h = rw (eq-eqb l.place.lines q.lines e, le-leb q.columns l.place.columns h) refl

leaf_ahead : (q : Length) (l : Leaf) → IsAhead q l.place → leaf_weight q l ≡ 0
leaf_ahead q l h =
    elim (cases_lt l.place.lines q.lines) [
      | inl above ↦ other_line q l (λ e. omega arith)
      | inr here ↦ before_column q l (let a = h.lines in omega arith) (h.columns here)
    ]

-- a leaf after a place has the same weight there as from an earlier column of the line
leaf_behind : (p q : Length) (l : Leaf) → p.lines ≡ q.lines → p.columns ≤ q.columns → IsBehind q l.place → leaf_weight p l ≡ leaf_weight q l
leaf_behind p q l e c h =
    elim (cases_lt q.lines l.place.lines) [
      | inl later ↦ other_line p l (λ x. omega arith) ∙ sym (other_line q l (λ x. omega arith))
      | inr here ↦
          let a = h.lines in
          let column : q.columns ≤ l.place.columns = h.columns here in
          in_line p l (omega arith) (omega arith) ∙ sym (in_line q l (omega arith) column)
    ]

-- ---- many leaves

abbrev pub AreBehind : Length → List Leaf → Type 0
AreBehind q [] = ⊤
AreBehind q (l ∷ ls) = IsBehind q l.place × AreBehind q ls

abbrev pub AreAhead : Length → List Leaf → Type 0
AreAhead q [] = ⊤
AreAhead q (l ∷ ls) = IsAhead q l.place × AreAhead q ls

-- the leaves start in this line or an earlier one
abbrev pub AreUpTo : ℕ → List Leaf → Type 0
AreUpTo line [] = ⊤
AreUpTo line (l ∷ ls) = (l.place.lines ≤ line) × AreUpTo line ls

pub AreBehind-append : (q : Length) (a b : List Leaf) → AreBehind q a → AreBehind q b → AreBehind q (a ++ b)
AreBehind-append q [] b h k = k
AreBehind-append q (l ∷ a) b h k = (h.0, AreBehind-append q a b h.1 k)

pub AreBehind-then : (p q : Length) (ls : List Leaf) → IsBehind p q → AreBehind q ls → AreBehind p ls
AreBehind-then p q [] h k = tt
AreBehind-then p q (l ∷ ls) h k = (behind_then p q l.place h k.0, AreBehind-then p q ls h k.1)

pub AreAhead-append : (q : Length) (a b : List Leaf) → AreAhead q a → AreAhead q b → AreAhead q (a ++ b)
AreAhead-append q [] b h k = k
AreAhead-append q (l ∷ a) b h k = (h.0, AreAhead-append q a b h.1 k)

pub AreAhead-then : (q r : Length) (ls : List Leaf) → IsBehind q r → AreAhead q ls → AreAhead r ls
AreAhead-then q r [] h k = tt
AreAhead-then q r (l ∷ ls) h k = (ahead_then l.place q r k.0 h, AreAhead-then q r ls h k.1)

pub AreUpTo-ahead : (q : Length) (ls : List Leaf) → AreAhead q ls → AreUpTo q.lines ls
AreUpTo-ahead q [] h = tt
AreUpTo-ahead q (l ∷ ls) h = (h.0.lines, AreUpTo-ahead q ls h.1)

pub weight_from-append : (q : Length) (a b : List Leaf) → weight_from q (a ++ b) ≡ weight_from q a + weight_from q b
weight_from-append q [] b = omega arith
weight_from-append q (l ∷ a) b = omega (arith, weight_from-append q a b)

pub weight_ahead : (q : Length) (ls : List Leaf) → AreAhead q ls → weight_from q ls ≡ 0
weight_ahead q [] h = refl
weight_ahead q (l ∷ ls) h = omega (arith, leaf_ahead q l h.0, weight_ahead q ls h.1)

weight_later : (q : Length) (line : ℕ) (ls : List Leaf) → AreUpTo line ls → line < q.lines → weight_from q ls ≡ 0
weight_later q line [] h k = refl
weight_later q line (l ∷ ls) h k =
    let here : l.place.lines ≤ line = h.0 in
    omega (arith, other_line q l (λ e. omega arith), weight_later q line ls h.1 k)

weight_earlier : (p q : Length) (ls : List Leaf) → AreBehind q ls → p.lines < q.lines → weight_from p ls ≡ 0
weight_earlier p q [] h k = refl
weight_earlier p q (l ∷ ls) h k =
    let here : q.lines ≤ l.place.lines = h.0.lines in
    omega (arith, other_line p l (λ e. omega arith), weight_earlier p q ls h.1 k)

pub weight_behind : (p q : Length) (ls : List Leaf) → p.lines ≡ q.lines → p.columns ≤ q.columns → AreBehind q ls → weight_from p ls ≡ weight_from q ls
weight_behind p q [] e c h = refl
weight_behind p q (l ∷ ls) e c h = omega (arith, leaf_behind p q l e c h.0, weight_behind p q ls e c h.1)

-- ---- line by line

-- leaves that start before the lines from q on have no weight there
weights_after : (q : Length) (line lines : ℕ) (a b : List Leaf) → AreUpTo line a → line < q.lines
    → weights_from q lines (a ++ b) ≡ weights_from q lines b
weights_after q line zero a b h k =
    let e : weight_from q (a ++ b) ≡ weight_from q b = omega (arith, weight_from-append q a b, weight_later q line a h k) in
    ap (λ (n : ℕ). n ∷ []) e
weights_after q line (suc lines) a b h k =
    let e : weight_from q (a ++ b) ≡ weight_from q b = omega (arith, weight_from-append q a b, weight_later q line a h k) in
    let rest : weights_from (next_line q) lines (a ++ b) ≡ weights_from (next_line q) lines b =
    weights_after (next_line q) line lines a b h (omega arith) in
    cc

pub weights_ahead : (q : Length) (lines : ℕ) (a b : List Leaf) → AreAhead q a → weights_from q lines (a ++ b) ≡ weights_from q lines b
weights_ahead q zero a b h =
    let e : weight_from q (a ++ b) ≡ weight_from q b = omega (arith, weight_from-append q a b, weight_ahead q a h) in
    ap (λ (n : ℕ). n ∷ []) e
weights_ahead q (suc lines) a b h =
    let e : weight_from q (a ++ b) ≡ weight_from q b = omega (arith, weight_from-append q a b, weight_ahead q a h) in
    let rest : weights_from (next_line q) lines (a ++ b) ≡ weights_from (next_line q) lines b =
    weights_after (next_line q) q.lines lines a b (AreUpTo-ahead q a h) (omega arith) in
    cc

-- the weights of the lines are the same from an earlier column of the first line
weights_behind : (p q : Length) (lines : ℕ) (ls : List Leaf) → p.lines ≡ q.lines → p.columns ≤ q.columns → AreBehind q ls
    → weights_from p lines ls ≡ weights_from q lines ls
weights_behind p q zero ls e c h = ap (λ (n : ℕ). n ∷ []) (weight_behind p q ls e c h)
weights_behind p q (suc lines) ls e c h =
    let here : weight_from p ls ≡ weight_from q ls = weight_behind p q ls e c h in
    let line : next_line p ≡ next_line q = ap (λ (n : ℕ). length_of (suc n) 0) e in
    let rest : weights_from (next_line p) lines ls ≡ weights_from (next_line q) lines ls = ap (λ (x : Length). weights_from x lines ls) line in
    cc

-- leaves up to the line of place q, followed by leaves from q on
pub weights-glue : (p q : Length) (before lines : ℕ) (a b : List Leaf) → q.lines ≡ p.lines + before → IsBehind p q → AreUpTo q.lines a → AreBehind q b
    → weights_from p (before + lines) (a ++ b) ≡ glue_weights (weights_from p before a) (weights_from q lines b)
weights-glue p q zero lines a b e s h k =
    let same : p.lines ≡ q.lines = omega arith in
    let column : p.columns ≤ q.columns = s.columns (omega arith) in
    ap (λ (n : ℕ). weights_from p n (a ++ b)) (zero-add lines) ∙ in_one_line p q lines a b same column h k
  where
    in_one_line : (p q : Length) (lines : ℕ) (a b : List Leaf) → p.lines ≡ q.lines → p.columns ≤ q.columns → AreUpTo q.lines a → AreBehind q b
        → weights_from p lines (a ++ b) ≡ glue_weights (weight_from p a ∷ []) (weights_from q lines b)
    in_one_line p q zero a b e c h k =
        let first : weight_from p (a ++ b) ≡ weight_from p a + weight_from q b = omega (arith, weight_from-append p a b, weight_behind p q b e c k) in
        ap (λ (n : ℕ). n ∷ []) first
    in_one_line p q (suc lines) a b e c h k =
        let first : weight_from p (a ++ b) ≡ weight_from p a + weight_from q b = omega (arith, weight_from-append p a b, weight_behind p q b e c k) in
        let line : next_line p ≡ next_line q = ap (λ (n : ℕ). length_of (suc n) 0) e in
        let rest : weights_from (next_line p) lines (a ++ b) ≡ weights_from (next_line q) lines b =
        weights_after (next_line p) q.lines lines a b h (omega arith) ∙ ap (λ (x : Length). weights_from x lines b) line in
        cc
weights-glue p q (suc before) lines a b e s h k =
    let later : p.lines < q.lines = omega arith in
    let first : weight_from p (a ++ b) ≡ weight_from p a = omega (arith, weight_from-append p a b, weight_earlier p q b k later) in
    let next : IsBehind (next_line p) q = record { lines = omega arith; columns = λ x. omega arith } in
    let rest : weights_from (next_line p) (before + lines) (a ++ b) ≡ glue_weights (weights_from (next_line p) before a) (weights_from q lines b) =
    weights-glue (next_line p) q before lines a b (omega arith) next h k in
    let count : suc before + lines ≡ suc (before + lines) = omega arith in
    ap (λ (n : ℕ). weights_from p n (a ++ b)) count
    ∙ under (weight_from p (a ++ b)) (weight_from p a) (weights_from (next_line p) (before + lines) (a ++ b)) (next_line p) before a (weights_from q lines b) first rest
  where
    under : (m n : ℕ) (whole : List ℕ) (r : Length) (before : ℕ) (a : List Leaf) (c : List ℕ) → m ≡ n → whole ≡ glue_weights (weights_from r before a) c
        → m ∷ whole ≡ glue_weights (n ∷ weights_from r before a) c
    under m n whole r zero a c e h = cc
    under m n whole r (suc before) a c e h = cc

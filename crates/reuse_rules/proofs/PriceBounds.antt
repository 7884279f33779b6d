-- Upper bounds of the price of a way through a tree: from its start on, or up to its end.
use Rattle.std.proofs.Common.{◌≡◌, ℕ, zero, suc, ◌+◌, ◌*◌, ◌≤◌, Bool, true, false, ◌&&◌, ◌||◌, cond, Option, Some, None, refl, ap, sym, ◌∙◌, subst, arith, inl, inr}
use Rattle.std.proofs.lemmas.Bool.{cases_Bool}
use Rattle.text_lengths.specs.declared.Length.{Length}
use Rattle.text_lengths.specs.Length.{is_before}
use Rattle.bracket_tree_rules.specs.Tree.{Tree, text, pair, stray, capped, nothing, two, three, wide, tree_length, inside_start, inside_end, nesting, height, highest, IsTree}
use Rattle.bracket_tree_rules.proofs.Levels.{not_before_later, not_before_sum}
use Rattle.bracket_tree_rules.proofs.Longest.{not_before_itself}
use Rattle.bracket_tree_rules.proofs.Weights.{height_within}
use Rattle.reuse_rules.specs.Prices.{Costs, calls, openings, between, opening_price, closing_price, price}
use Rattle.reuse_rules.proofs.Prices.{IsUpTo, end_of, end_of_two, end_of_three, up_to, up_to_pair, price_past, price_ahead, price_whole}

-- ---- so many times the same

pub times : ℕ → ℕ → ℕ
times zero x = 0
times (suc n) x = x + times n x

times-mono : (m n x : ℕ) → m ≤ n → times m x ≤ times n x
unfolding times
times-mono zero n x h = omega arith
times-mono (suc m) zero x h = absurd (omega arith)
times-mono (suc m) (suc n) x h = omega (arith, times-mono m n x (omega arith))

-- ---- the parts of a price

choice_within : (a b : Bool) (whole parts most : ℕ) → whole ≤ most → parts ≤ most → cond a (cond b parts whole) 0 ≤ most
choice_within true true whole parts most h k = k
choice_within true false whole parts most h k = h
choice_within false b whole parts most h k = omega arith

between_within : (from to start end : Length) (whole parts most : ℕ) → whole ≤ most → parts ≤ most → between from to start end whole parts ≤ most
between_within from to start end = choice_within (is_before from end && is_before start to) (is_before start from || is_before to end)

opening_within : (c : Costs) (from p : Length) → opening_price c from p ≤ c.opening
opening_within c from p = of (is_before p from)
  where
    of : (b : Bool) → cond b 0 c.opening ≤ c.opening
    of true = omega arith
    of false = omega arith

closing_within : (c : Costs) (from to p : Length) (w : Option ℕ) → closing_price c from to p w ≤ c.closing
closing_within c from to p None = omega arith
closing_within c from to p (Some w) = of (is_before p from) (is_before p to)
  where
    of : (a b : Bool) → cond a 0 (cond b c.closing 0) ≤ c.closing
    of true b = omega arith
    of false true = omega arith
    of false false = omega arith

-- the ends of the parts of a list that ends at a place or before it

ends_of_two : (p to : Length) (a b : Tree) → IsUpTo (end_of p (two a b)) to → IsUpTo (end_of p a) to × IsUpTo (end_of (end_of p a) b) to
ends_of_two p to a b e =
    let r = end_of p a in
    let last : IsUpTo (end_of r b) to = subst (λ (x : Length). IsUpTo x to) (sym (end_of_two p a b)) e in
    (not_before_later r (end_of r b) to (not_before_sum r (tree_length b)) last, last)

ends_of_three : (p to : Length) (a b d : Tree) → IsUpTo (end_of p (three a b d)) to
    → IsUpTo (end_of p a) to × IsUpTo (end_of (end_of p a) b) to × IsUpTo (end_of (end_of (end_of p a) b) d) to
ends_of_three p to a b d e =
    let r = end_of p a in
    let s = end_of r b in
    let last : IsUpTo (end_of s d) to = subst (λ (x : Length). IsUpTo x to) (sym (end_of_three p a b d)) e in
    let second : IsUpTo s to = not_before_later s (end_of s d) to (not_before_sum s (tree_length d)) last in
    (not_before_later r s to (not_before_sum r (tree_length b)) second, second, last)

-- ---- the bounds

-- the bound that each pair on the way adds, if no list in it is higher than `most`
abbrev pub pair_bound : Costs → ℕ → ℕ
pair_bound c most = times most (c.node + c.node) + (c.opening + c.closing)

abbrev pub way_bound : Costs → ℕ → Tree → ℕ
way_bound c most t = c.node + (times (height t) (c.node + c.node) + times (nesting t) (pair_bound c most))

pair_within : (c : Costs) (most : ℕ) (from to p : Length) (k o : ℕ) (i : Tree) (w : Option ℕ) → highest i ≤ most
    → price c from to (inside_start p o) i ≤ way_bound c most i → price c from to p (pair k o i w) ≤ way_bound c most (pair k o i w)
unfolding times
pair_within c most from to p k o i w low inner =
    let opens = opening_within c from p in
    let closes = closing_within c from to (inside_end p o i) w in
    let high : height i ≤ most = omega (arith, low, height_within i) in
    let lists = times-mono (height i) most (c.node + c.node) high in
    between_within from to p (end_of p (pair k o i w)) c.node _ (way_bound c most (pair k o i w)) (omega arith) (omega arith)

module _ (c : Costs) (most : ℕ) where
  -- the price of a list is at most that of two nodes and of the way through one of its parts
  list_within : (from to p : Length) (t part : Tree) (parts : ℕ) → height t ≡ suc (height part) → nesting part ≤ nesting t
      → parts ≤ c.node + c.node + way_bound c most part → between from to p (end_of p t) c.node parts ≤ way_bound c most t
  unfolding times
  list_within from to p t part parts level deep within =
      let lists : times (height t) (c.node + c.node) ≡ times (suc (height part)) (c.node + c.node) = ap (λ (n : ℕ). times n (c.node + c.node)) level in
      let pairs = times-mono (nesting part) (nesting t) (pair_bound c most) deep in
      between_within from to p (end_of p t) c.node parts (way_bound c most t) (omega arith) (omega arith)

  -- from the start of a tree, or from before it
  pub price_from_start : (from to p : Length) (t : Tree) → IsTree t → highest t ≤ most → IsUpTo from p → price c from to p t ≤ way_bound c most t
  price_from_start from to p (text l) h low f = between_within from to p (end_of p (text l)) c.node 0 (way_bound c most (text l)) (omega arith) (omega arith)
  price_from_start from to p (pair k o i w) h low f =
      pair_within c most from to p k o i w low (price_from_start from to (inside_start p o) i h.1 low (not_before_later from p (inside_start p o) f (not_before_sum p (wide o))))
  price_from_start from to p (stray k w) h low f = between_within from to p (end_of p (stray k w)) c.node 0 (way_bound c most (stray k w)) (omega arith) (omega arith)
  price_from_start from to p (capped k w) h low f = between_within from to p (end_of p (capped k w)) c.node 0 (way_bound c most (capped k w)) (omega arith) (omega arith)
  price_from_start from to p nothing h low f = omega arith
  price_from_start from to p (two a b) h low f =
      let r = end_of p a in
      let later : IsUpTo from r = not_before_later from p r f (not_before_sum p (tree_length a)) in
      elim (cases_Bool (is_before r to)) [
        | inl on ↦
            let whole = price_whole c from to p a h.1.0 h.0.first f (up_to r to on) in
            let rest = price_from_start from to r b h.1.1 (omega (arith, low)) later in
            list_within from to p (two a b) b _ (ap suc h.0.level) (omega arith) (omega arith)
        | inr past ↦
            let none = price_ahead c from to r b past in
            let first = price_from_start from to p a h.1.0 (omega (arith, low)) f in
            list_within from to p (two a b) a _ refl (omega arith) (omega arith)
      ]
  price_from_start from to p (three a b d) h low f =
      let r = end_of p a in
      let s = end_of r b in
      let later : IsUpTo from r = not_before_later from p r f (not_before_sum p (tree_length a)) in
      let last : IsUpTo from s = not_before_later from r s later (not_before_sum r (tree_length b)) in
      elim (cases_Bool (is_before r to)) [
        | inl on ↦
            let whole = price_whole c from to p a h.1.0 h.0.0.first f (up_to r to on) in
            elim (cases_Bool (is_before s to)) [
              | inl more ↦
                  let second = price_whole c from to r b h.1.1.0 h.0.0.second later (up_to s to more) in
                  let rest = price_from_start from to s d h.1.1.1 (omega (arith, low)) last in
                  list_within from to p (three a b d) d _ (ap suc (h.0.0.level ∙ h.0.1.level)) (omega arith) (omega arith)
              | inr past ↦
                  let none = price_ahead c from to s d past in
                  let rest = price_from_start from to r b h.1.1.0 (omega (arith, low)) later in
                  list_within from to p (three a b d) b _ (ap suc h.0.0.level) (omega arith) (omega arith)
            ]
        | inr past ↦
            let none = price_ahead c from to r b past in
            let none_last = price_ahead c from to s d (not_before_later to r s past (not_before_sum r (tree_length b))) in
            let first = price_from_start from to p a h.1.0 (omega (arith, low)) f in
            list_within from to p (three a b d) a _ refl (omega arith) (omega arith)
      ]

  -- up to the end of a tree, or to a place after it
  pub price_to_end : (from to p : Length) (t : Tree) → IsTree t → highest t ≤ most → IsUpTo (end_of p t) to → price c from to p t ≤ way_bound c most t
  price_to_end from to p (text l) h low e = between_within from to p (end_of p (text l)) c.node 0 (way_bound c most (text l)) (omega arith) (omega arith)
  price_to_end from to p (pair k o i w) h low e =
      pair_within c most from to p k o i w low (price_to_end from to (inside_start p o) i h.1 low
      (not_before_later (inside_end p o i) (end_of p (pair k o i w)) to (up_to_pair (inside_end p o i) p k o i w (not_before_itself (inside_end p o i))) e))
  price_to_end from to p (stray k w) h low e = between_within from to p (end_of p (stray k w)) c.node 0 (way_bound c most (stray k w)) (omega arith) (omega arith)
  price_to_end from to p (capped k w) h low e = between_within from to p (end_of p (capped k w)) c.node 0 (way_bound c most (capped k w)) (omega arith) (omega arith)
  price_to_end from to p nothing h low e = omega arith
  price_to_end from to p (two a b) h low e =
      let r = end_of p a in
      let ends = ends_of_two p to a b e in
      elim (cases_Bool (is_before from r)) [
        | inl on ↦
            let whole = price_whole c from to r b h.1.1 h.0.second (up_to from r on) ends.1 in
            let first = price_to_end from to p a h.1.0 (omega (arith, low)) ends.0 in
            list_within from to p (two a b) a _ refl (omega arith) (omega arith)
        | inr past ↦
            let none = price_past c from to p a past in
            let rest = price_to_end from to r b h.1.1 (omega (arith, low)) ends.1 in
            list_within from to p (two a b) b _ (ap suc h.0.level) (omega arith) (omega arith)
      ]
  price_to_end from to p (three a b d) h low e =
      let r = end_of p a in
      let s = end_of r b in
      let ends = ends_of_three p to a b d e in
      elim (cases_Bool (is_before from s)) [
        | inl on ↦
            let whole = price_whole c from to s d h.1.1.1 h.0.1.second (up_to from s on) ends.2 in
            elim (cases_Bool (is_before from r)) [
              | inl more ↦
                  let second = price_whole c from to r b h.1.1.0 h.0.0.second (up_to from r more) ends.1 in
                  let first = price_to_end from to p a h.1.0 (omega (arith, low)) ends.0 in
                  list_within from to p (three a b d) a _ refl (omega arith) (omega arith)
              | inr past ↦
                  let none = price_past c from to p a past in
                  let first = price_to_end from to r b h.1.1.0 (omega (arith, low)) ends.1 in
                  list_within from to p (three a b d) b _ (ap suc h.0.0.level) (omega arith) (omega arith)
            ]
        | inr past ↦
            let none_second = price_past c from to r b past in
            let none = price_past c from to p a (not_before_later r s from (not_before_sum r (tree_length b)) past) in
            let rest = price_to_end from to s d h.1.1.1 (omega (arith, low)) ends.2 in
            list_within from to p (three a b d) d _ (ap suc (h.0.0.level ∙ h.0.1.level)) (omega arith) (omega arith)
      ]

-- ---- no bracket opens on the way to a tree's end

not_parts : (from to start end : Length) (parts : ℕ) → IsUpTo from start → IsUpTo end to → between from to start end 0 parts ≤ 0
not_parts from to start end parts f e = rw (f, e) (of (is_before from end && is_before start to))
  where
    of : (b : Bool) → cond b 0 0 ≤ 0
    of true = omega arith
    of false = omega arith

pub none_opens : (from to p : Length) (t : Tree) → IsUpTo (end_of p t) to → price openings from to p t ≤ 0
none_opens from to p (text l) e = between_within from to p (end_of p (text l)) 0 0 0 (omega arith) (omega arith)
none_opens from to p (pair k o i w) e =
    elim (cases_Bool (is_before p from)) [
      | inl behind ↦
          let inner = none_opens from to (inside_start p o) i
          (not_before_later (inside_end p o i) (end_of p (pair k o i w)) to (up_to_pair (inside_end p o i) p k o i w (not_before_itself (inside_end p o i))) e) in
          let closes = closing_within openings from to (inside_end p o i) w in
          let opens : opening_price openings from p ≡ 0 = rw behind refl in
          between_within from to p (end_of p (pair k o i w)) 0 _ 0 (omega arith) (omega arith)
      | inr f ↦ not_parts from to p (end_of p (pair k o i w)) _ f e
    ]
none_opens from to p (stray k w) e = between_within from to p (end_of p (stray k w)) 0 0 0 (omega arith) (omega arith)
none_opens from to p (capped k w) e = between_within from to p (end_of p (capped k w)) 0 0 0 (omega arith) (omega arith)
none_opens from to p nothing e = omega arith
none_opens from to p (two a b) e =
    let ends = ends_of_two p to a b e in
    between_within from to p (end_of p (two a b)) 0 _ 0 (omega arith)
    (omega (arith, none_opens from to p a ends.0, none_opens from to (end_of p a) b ends.1))
none_opens from to p (three a b d) e =
    let ends = ends_of_three p to a b d e in
    between_within from to p (end_of p (three a b d)) 0 _ 0 (omega arith)
    (omega (arith, none_opens from to p a ends.0, none_opens from to (end_of p a) b ends.1, none_opens from to (end_of (end_of p a) b) d ends.2))

-- ---- the calls of a way, and what opens on it

times-is : (n x : ℕ) → times n x ≡ n * x
unfolding times
times-is zero x = omega arith
times-is (suc n) x = omega (arith, times-is n x)

-- the bound if the way down through lists costs at most `lists`, and a pair `each`
bound_by : (c : Costs) (t : Tree) (lists each : ℕ) → highest t * (c.node + c.node) ≡ lists → lists + (c.opening + c.closing) ≡ each
    → way_bound c (highest t) t ≤ c.node + (lists + nesting t * each)
bound_by c t lists each e f =
    let steps = times-mono (height t) (highest t) (c.node + c.node) (height_within t) in
    let high = times-is (highest t) (c.node + c.node) in
    let deep = times-is (nesting t) (pair_bound c (highest t)) in
    let pair : pair_bound c (highest t) ≡ each = omega arith in
    let pairs : nesting t * pair_bound c (highest t) ≡ nesting t * each = ap (λ (n : ℕ). nesting t * n) pair in
    omega arith

pub calls_bound : (t : Tree) → way_bound calls (highest t) t ≤ 2 + (4 * highest t + nesting t * (4 * highest t + 6))
calls_bound t = bound_by calls t (4 * highest t) (4 * highest t + 6) (omega arith) (omega arith)

pub openings_bound : (t : Tree) → way_bound openings (highest t) t ≤ nesting t
openings_bound t = omega (arith, bound_by openings t 0 1 (omega arith) refl)

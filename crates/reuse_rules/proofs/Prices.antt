-- The price of a way through a tree falls with each longest node that is taken, and with each bracket where none is.
use Rattle.std.proofs.Common.{◌≡◌, ℕ, ◌+◌, ◌<◌, ◌≤◌, Bool, true, false, ◌&&◌, cond, Option, Some, None, refl, ap, sym, ◌∙◌, subst, arith, inl, inr}
use Rattle.std.proofs.lemmas.Bool.{cases_Bool, and_parts}
use Rattle.std.proofs.lemmas.Bool.Decides.{nat_tests}
use Rattle.text_lengths.specs.declared.Length.{Length}
use Rattle.text_lengths.specs.Length.{length_plus, is_before}
use Rattle.text_lengths.proofs.Lengths.{length_plus_assoc, same_length}
use Rattle.bracket_rules.specs.Parse.{Bracket}
use Rattle.bracket_tree_rules.specs.Tree.{Tree, text, pair, stray, capped, nothing, two, three, wide, width_of, tree_length, tree_tokens, closing_brackets, inside_start, inside_end, is_nothing, IsTree}
use Rattle.bracket_tree_rules.specs.Places.{IsHere, HasNode, IsAmong, HasBracket}
use Rattle.bracket_tree_rules.proofs.Levels.{not_before_later, not_before_sum}
use Rattle.bracket_tree_rules.proofs.Longest.{not_before_itself, not_both, node_from, node_ends, node_itself}
use Rattle.bracket_tree_rules.proofs.BracketAt.{bracket_from, before_wide}
use Rattle.bracket_tree_rules.proofs.Places.{IsAmong-append}
use Rattle.reuse_rules.specs.Prices.{all_paired, Costs, between, closing_price, price}

-- ---- the order of places

-- place p is not after place q
abbrev pub IsUpTo : Length → Length → Type 0
IsUpTo p q = is_before q p ≡ false

pub before_up_to : (p q r : Length) → is_before p q ≡ true → IsUpTo q r → is_before p r ≡ true
before_up_to p q r h k = grind (arith, nat_tests)

pub up_to_before : (p q r : Length) → IsUpTo p q → is_before q r ≡ true → is_before p r ≡ true
up_to_before p q r h k = grind (arith, nat_tests)

pub up_to : (p q : Length) → is_before p q ≡ true → IsUpTo p q
up_to p q h = grind (arith, nat_tests)

pub same_place : (p q : Length) → IsUpTo p q → IsUpTo q p → p ≡ q
same_place p q h k = same_length p q (grind (arith, nat_tests)) (grind (arith, nat_tests))

-- ---- where trees end

abbrev pub end_of : Length → Tree → Length
end_of p t = length_plus p (tree_length t)

pub end_of_pair : (p : Length) (k o : ℕ) (i : Tree) (c : Option ℕ) → length_plus (inside_end p o i) (wide (width_of c)) ≡ end_of p (pair k o i c)
end_of_pair p k o i c =
    ap (λ (l : Length). length_plus l (wide (width_of c))) (length_plus_assoc p (wide o) (tree_length i))
    ∙ length_plus_assoc p (length_plus (wide o) (tree_length i)) (wide (width_of c))

pub end_of_two : (p : Length) (a b : Tree) → end_of (end_of p a) b ≡ end_of p (two a b)
end_of_two p a b = length_plus_assoc p (tree_length a) (tree_length b)

pub end_of_three : (p : Length) (a b c : Tree) → end_of (end_of (end_of p a) b) c ≡ end_of p (three a b c)
end_of_three p a b c =
    ap (λ (l : Length). length_plus l (tree_length c)) (length_plus_assoc p (tree_length a) (tree_length b))
    ∙ length_plus_assoc p (length_plus (tree_length a) (tree_length b)) (tree_length c)

pub up_to_pair : (x p : Length) (k o : ℕ) (i : Tree) (c : Option ℕ) → IsUpTo x (inside_end p o i) → IsUpTo x (end_of p (pair k o i c))
up_to_pair x p k o i c h =
    subst (IsUpTo x) (end_of_pair p k o i c)
    (not_before_later x (inside_end p o i) (length_plus (inside_end p o i) (wide (width_of c))) h (not_before_sum (inside_end p o i) (wide (width_of c))))

pub up_to_first : (x p : Length) (a b : Tree) → IsUpTo x (end_of p a) → IsUpTo x (end_of (end_of p a) b)
up_to_first x p a b h = not_before_later x (end_of p a) (end_of (end_of p a) b) h (not_before_sum (end_of p a) (tree_length b))

pub starts_before_end : (p : Length) (t : Tree) → IsTree t → is_nothing t ≡ false → is_before p (end_of p t) ≡ true
starts_before_end p t h some = node_ends p t p t h some (node_itself p t)

here_up_to : (p : Length) (t : Tree) (q : Length) (n : Tree) → IsHere p t q n → IsUpTo (end_of q n) (end_of p t)
here_up_to p t q n h =
    subst (λ (x : Length). IsUpTo (end_of x n) (end_of p t)) (sym h.place)
    (subst (λ (m : Tree). IsUpTo (end_of p m) (end_of p t)) (sym h.node) (not_before_itself (end_of p t)))

-- no node ends after the tree that contains it
pub node_up_to : (p : Length) (t : Tree) (q : Length) (n : Tree) → HasNode p t q n → IsUpTo (end_of q n) (end_of p t)
node_up_to p (text l) q n here = here_up_to p (text l) q n here
node_up_to p (pair k o i c) q n (inl here) = here_up_to p (pair k o i c) q n here
node_up_to p (pair k o i c) q n (inr in_it) = up_to_pair (end_of q n) p k o i c (node_up_to (inside_start p o) i q n in_it)
node_up_to p (stray k w) q n here = here_up_to p (stray k w) q n here
node_up_to p (capped k w) q n here = here_up_to p (capped k w) q n here
node_up_to p nothing q n here = here_up_to p nothing q n here
node_up_to p (two a b) q n (inl here) = here_up_to p (two a b) q n here
node_up_to p (two a b) q n (inr (inl in_a)) =
    subst (IsUpTo (end_of q n)) (end_of_two p a b) (up_to_first (end_of q n) p a b (node_up_to p a q n in_a))
node_up_to p (two a b) q n (inr (inr in_b)) = subst (IsUpTo (end_of q n)) (end_of_two p a b) (node_up_to (end_of p a) b q n in_b)
node_up_to p (three a b c) q n (inl here) = here_up_to p (three a b c) q n here
node_up_to p (three a b c) q n (inr (inl in_a)) =
    subst (IsUpTo (end_of q n)) (end_of_three p a b c)
    (up_to_first (end_of q n) (end_of p a) b c (up_to_first (end_of q n) p a b (node_up_to p a q n in_a)))
node_up_to p (three a b c) q n (inr (inr (inl in_b))) =
    subst (IsUpTo (end_of q n)) (end_of_three p a b c)
    (up_to_first (end_of q n) (end_of p a) b c (node_up_to (end_of p a) b q n in_b))
node_up_to p (three a b c) q n (inr (inr (inr in_c))) =
    subst (IsUpTo (end_of q n)) (end_of_three p a b c) (node_up_to (end_of (end_of p a) b) c q n in_c)

closing_up_to : (ends : Length) (k : ℕ) (c : Option ℕ) (b : Bracket) → IsAmong b (closing_brackets ends k c)
    → IsUpTo (length_plus b.place (wide b.len)) (length_plus ends (wide (width_of c)))
closing_up_to ends k None b h = elim h [ ]
closing_up_to ends k (Some w) b (inl e) =
    subst (λ (x : Bracket). IsUpTo (length_plus x.place (wide x.len)) (length_plus ends (wide w))) (sym e) (not_before_itself (length_plus ends (wide w)))
closing_up_to ends k (Some w) b (inr h) = elim h [ ]

opening_up_to : (p : Length) (k o : ℕ) (i : Tree) (c : Option ℕ) → IsUpTo (inside_start p o) (end_of p (pair k o i c))
opening_up_to p k o i c = up_to_pair (inside_start p o) p k o i c (not_before_sum (inside_start p o) (tree_length i))

-- no bracket ends after the tree that contains it
pub bracket_up_to : (p : Length) (t : Tree) (b : Bracket) → HasBracket p t b → IsUpTo (length_plus b.place (wide b.len)) (end_of p t)
bracket_up_to p (text l) b h = elim h [ ]
bracket_up_to p (pair k o i c) b (inl e) =
    subst (λ (x : Bracket). IsUpTo (length_plus x.place (wide x.len)) (end_of p (pair k o i c))) (sym e) (opening_up_to p k o i c)
bracket_up_to p (pair k o i c) b (inr h) =
    elim (IsAmong-append b (tree_tokens (inside_start p o) i) (closing_brackets (inside_end p o i) k c) h) [
      | inl in_it ↦ up_to_pair (length_plus b.place (wide b.len)) p k o i c (bracket_up_to (inside_start p o) i b in_it)
      | inr closes ↦ subst (IsUpTo (length_plus b.place (wide b.len))) (end_of_pair p k o i c) (closing_up_to (inside_end p o i) k c b closes)
    ]
bracket_up_to p (stray k w) b (inl e) =
    subst (λ (x : Bracket). IsUpTo (length_plus x.place (wide x.len)) (end_of p (stray k w))) (sym e) (not_before_itself (end_of p (stray k w)))
bracket_up_to p (stray k w) b (inr h) = elim h [ ]
bracket_up_to p (capped k w) b (inl e) =
    subst (λ (x : Bracket). IsUpTo (length_plus x.place (wide x.len)) (end_of p (capped k w))) (sym e) (not_before_itself (end_of p (capped k w)))
bracket_up_to p (capped k w) b (inr h) = elim h [ ]
bracket_up_to p nothing b h = elim h [ ]
bracket_up_to p (two x y) b h =
    elim (IsAmong-append b (tree_tokens p x) (tree_tokens (end_of p x) y) h) [
      | inl in_x ↦ subst (IsUpTo (length_plus b.place (wide b.len))) (end_of_two p x y)
          (up_to_first (length_plus b.place (wide b.len)) p x y (bracket_up_to p x b in_x))
      | inr in_y ↦ subst (IsUpTo (length_plus b.place (wide b.len))) (end_of_two p x y) (bracket_up_to (end_of p x) y b in_y)
    ]
bracket_up_to p (three x y z) b h =
    elim (IsAmong-append b (tree_tokens p x) _ h) [
      | inl in_x ↦ subst (IsUpTo (length_plus b.place (wide b.len))) (end_of_three p x y z)
          (up_to_first (length_plus b.place (wide b.len)) (end_of p x) y z (up_to_first (length_plus b.place (wide b.len)) p x y (bracket_up_to p x b in_x)))
      | inr later ↦ elim (IsAmong-append b (tree_tokens (end_of p x) y) (tree_tokens (end_of (end_of p x) y) z) later) [
        | inl in_y ↦ subst (IsUpTo (length_plus b.place (wide b.len))) (end_of_three p x y z)
            (up_to_first (length_plus b.place (wide b.len)) (end_of p x) y z (bracket_up_to (end_of p x) y b in_y))
        | inr in_z ↦ subst (IsUpTo (length_plus b.place (wide b.len))) (end_of_three p x y z) (bracket_up_to (end_of (end_of p x) y) z b in_z)
      ]
    ]

-- ---- between two places

pub between_past : (from to start end : Length) (whole parts : ℕ) → IsUpTo end from → between from to start end whole parts ≡ 0
between_past from to start end whole parts h = rw h refl

pub between_ahead : (from to start end : Length) (whole parts : ℕ) → IsUpTo to start → between from to start end whole parts ≡ 0
between_ahead from to start end whole parts h =
    elim (cases_Bool (is_before from end)) [
      | inl e ↦ rw (e, h) refl
      | inr e ↦ rw e refl
    ]

pub between_whole : (from to start end : Length) (whole parts : ℕ) → is_before from end ≡ true → is_before start to ≡ true → IsUpTo from start → IsUpTo end to
    → between from to start end whole parts ≡ whole
between_whole from to start end whole parts e s f t = rw (e, s, f, t) refl

pub between_parts : (from to start end : Length) (whole parts : ℕ) → is_before from end ≡ true → is_before start to ≡ true → is_before start from ≡ true
    → between from to start end whole parts ≡ parts
between_parts from to start end whole parts e s f = rw (e, s, f) refl

pub between_parts_to : (from to start end : Length) (whole parts : ℕ) → is_before from end ≡ true → is_before start to ≡ true → IsUpTo from start → is_before to end ≡ true
    → between from to start end whole parts ≡ parts
between_parts_to from to start end whole parts e s f t = rw (e, s, f, t) refl

-- the price from an earlier place is the same, if neither place is after the start
between_from : (from next to start end : Length) (whole parts less : ℕ) → is_before start end ≡ true → IsUpTo from start → IsUpTo next start → less ≡ parts
    → between next to start end whole less ≡ between from to start end whole parts
between_from from next to start end whole parts less long f n e =
    rw (up_to_before from start end f long, up_to_before next start end n long, f, n, e) refl

-- The price falls by at least `k` if the price of a part does, provided that what lies between the places as a whole is
-- all passed.
between_falls : (from next to start end : Length) (k whole parts less : ℕ) → IsUpTo start from → is_before from next ≡ true → is_before from to ≡ true
    → IsUpTo next end → (IsUpTo from start → IsUpTo end to → IsUpTo end next × (k ≤ whole)) → less + k ≤ parts
    → between next to start end whole less + k ≤ between from to start end whole parts
between_falls from next to start end k whole parts less s on inside within all falls =
    let e : is_before from end ≡ true = before_up_to from next end on within in
    let b : is_before start to ≡ true = up_to_before start from to s inside in
    let later : is_before start next ≡ true = up_to_before start from next s on in
    elim (cases_Bool (is_before next end)) [
      | inl more ↦
          let left = between_parts next to start end whole less more b later in
          elim (cases_Bool (is_before start from)) [
            | inl f ↦ let right = between_parts from to start end whole parts e b f in omega arith
            | inr f ↦ elim (cases_Bool (is_before to end)) [
              | inl t ↦ let right = between_parts_to from to start end whole parts e b f t in omega arith
              | inr t ↦ absurd (not_both (is_before next end) more (all f t).0)
            ]
          ]
      | inr past ↦
          let left = between_past next to start end whole less past in
          elim (cases_Bool (is_before start from)) [
            | inl f ↦ let right = between_parts from to start end whole parts e b f in omega arith
            | inr f ↦ elim (cases_Bool (is_before to end)) [
              | inl t ↦ let right = between_parts_to from to start end whole parts e b f t in omega arith
              | inr t ↦ let right = between_whole from to start end whole parts e b f t in omega (arith, (all f t).1)
            ]
          ]
    ]

-- ---- prices of trees that are passed, that lie ahead, or that lie between the places

-- as much is paid for a tree as for anything that ends where it does, and nothing for the empty list
price_as_one : (c : Costs) (from to p : Length) (t : Tree) (k : ℕ) → (is_nothing t ≡ true → k ≡ 0)
    → ((parts : ℕ) → between from to p (end_of p t) c.node parts ≡ k) → price c from to p t ≡ k
price_as_one c from to p (text l) k empty one = one 0
price_as_one c from to p (pair k o i w) m empty one = one _
price_as_one c from to p (stray k w) m empty one = one 0
price_as_one c from to p (capped k w) m empty one = one 0
price_as_one c from to p nothing k empty one = sym (empty refl)
price_as_one c from to p (two a b) k empty one = one _
price_as_one c from to p (three a b d) k empty one = one _

pub price_past : (c : Costs) (from to p : Length) (t : Tree) → IsUpTo (end_of p t) from → price c from to p t ≡ 0
price_past c from to p t h = price_as_one c from to p t 0 (λ none. refl) (λ parts. between_past from to p (end_of p t) c.node parts h)

pub price_ahead : (c : Costs) (from to p : Length) (t : Tree) → IsUpTo to p → price c from to p t ≡ 0
price_ahead c from to p t h = price_as_one c from to p t 0 (λ none. refl) (λ parts. between_ahead from to p (end_of p t) c.node parts h)

pub price_whole : (c : Costs) (from to p : Length) (t : Tree) → IsTree t → is_nothing t ≡ false → IsUpTo from p → IsUpTo (end_of p t) to → price c from to p t ≡ c.node
price_whole c from to p t tree some f e =
    let long = starts_before_end p t tree some in
    let start = up_to_before from p (end_of p t) f long in
    let end = before_up_to p (end_of p t) to long e in
    price_as_one c from to p t c.node (λ none. absurd (not_both (is_nothing t) none some))
    (λ parts. between_whole from to p (end_of p t) c.node parts start end f e)

closing_from : (c : Costs) (from next to p : Length) (w : Option ℕ) → IsUpTo from p → IsUpTo next p → closing_price c next to p w ≡ closing_price c from to p w
closing_from c from next to p None f n = refl
closing_from c from next to p (Some w) f n = rw (f, n) refl

-- the price is the same from each place that is not after the start
pub price_from : (c : Costs) (from next to p : Length) (t : Tree) → IsTree t → IsUpTo from p → IsUpTo next p → price c next to p t ≡ price c from to p t
price_from c from next to p (text l) h f n =
    between_from from next to p (end_of p (text l)) c.node 0 0 (starts_before_end p (text l) h refl) f n refl
price_from c from next to p (pair k o i w) h f n =
    let s = inside_start p o in
    let ends = inside_end p o i in
    let behind : IsUpTo p s = not_before_sum p (wide o) in
    let far : IsUpTo p ends = not_before_later p s ends behind (not_before_sum s (tree_length i)) in
    let inner = price_from c from next to s i h.1 (not_before_later from p s f behind) (not_before_later next p s n behind) in
    let closes = closing_from c from next to ends w (not_before_later from p ends f far) (not_before_later next p ends n far) in
    between_from from next to p (end_of p (pair k o i w)) c.node _ _ (starts_before_end p (pair k o i w) h refl) f n
    (rw (f, n) (omega (arith, inner, closes)))
price_from c from next to p (stray k w) h f n =
    between_from from next to p (end_of p (stray k w)) c.node 0 0 (starts_before_end p (stray k w) h refl) f n refl
price_from c from next to p (capped k w) h f n =
    between_from from next to p (end_of p (capped k w)) c.node 0 0 (starts_before_end p (capped k w) h refl) f n refl
price_from c from next to p nothing h f n = refl
price_from c from next to p (two a b) h f n =
    let r = end_of p a in
    let behind : IsUpTo p r = not_before_sum p (tree_length a) in
    let first = price_from c from next to p a h.1.0 f n in
    let second = price_from c from next to r b h.1.1 (not_before_later from p r f behind) (not_before_later next p r n behind) in
    between_from from next to p (end_of p (two a b)) c.node _ _ (starts_before_end p (two a b) h refl) f n (omega arith)
price_from c from next to p (three a b d) h f n =
    let r = end_of p a in
    let s = end_of r b in
    let behind : IsUpTo p r = not_before_sum p (tree_length a) in
    let far : IsUpTo p s = not_before_later p r s behind (not_before_sum r (tree_length b)) in
    let first = price_from c from next to p a h.1.0 f n in
    let second = price_from c from next to r b h.1.1.0 (not_before_later from p r f behind) (not_before_later next p r n behind) in
    let third = price_from c from next to s d h.1.1.1 (not_before_later from p s f far) (not_before_later next p s n far) in
    between_from from next to p (end_of p (three a b d)) c.node _ _ (starts_before_end p (three a b d) h refl) f n (omega arith)

-- ---- a longest node

-- no node of the tree at place q that ends at place `to` or before it ends after place `next`
abbrev pub EndsLast : Length → Length → Length → Length → Tree → Type 0
EndsLast to q next p t = (m : Tree) → HasNode p t q m → is_nothing m ≡ false → IsUpTo (end_of q m) to → IsUpTo (end_of q m) next

all_passed : (k : ℕ) (to q next p : Length) (t : Tree) → is_nothing t ≡ false → IsUpTo p q → EndsLast to q next p t
    → IsUpTo q p → IsUpTo (end_of p t) to → IsUpTo (end_of p t) next × (k ≤ k)
all_passed k to q next p t some from last f e =
    let here : p ≡ q = same_place p q from f in (
      subst (λ (x : Length). IsUpTo (end_of x t) next) (sym here)
          (last t (subst (λ (x : Length). HasNode p t x t) here (node_itself p t)) some (subst (λ (x : Length). IsUpTo (end_of x t) to) here e)),
      omega arith,
    )

here_falls : (c : Costs) (to p : Length) (t : Tree) (q : Length) (n : Tree) → IsTree t → IsHere p t q n → is_nothing n ≡ false → IsUpTo (end_of q n) to
    → price c (end_of q n) to p t + c.node ≤ price c q to p t
here_falls c to p t q n h here some e =
    let same : end_of p t ≡ end_of q n = ap (λ (x : Length). end_of x t) (sym here.place) ∙ ap (end_of q) (sym here.node) in
    let place : IsUpTo q p = subst (λ (x : Length). IsUpTo x p) (sym here.place) (not_before_itself p) in
    let there : is_nothing t ≡ false = ap is_nothing (sym here.node) ∙ some in
    let none = price_past c (end_of q n) to p t (subst (IsUpTo (end_of p t)) same (not_before_itself (end_of p t))) in
    let whole = price_whole c q to p t h there place (subst (λ (x : Length). IsUpTo x to) (sym same) e) in
    omega arith

pub node_falls : (c : Costs) (to p : Length) (t : Tree) (q : Length) (n : Tree) → IsTree t → HasNode p t q n → is_nothing n ≡ false → IsUpTo (end_of q n) to
    → is_before q (end_of q n) ≡ true → EndsLast to q (end_of q n) p t → price c (end_of q n) to p t + c.node ≤ price c q to p t
node_falls c to p (text l) q n h here some e long last = here_falls c to p (text l) q n h here some e
node_falls c to p (pair k o i w) q n h (inl here) some e long last = here_falls c to p (pair k o i w) q n h here some e
node_falls c to p (pair k o i w) q n h (inr in_it) some e long last =
    let next = end_of q n in
    let s = inside_start p o in
    let ends = inside_end p o i in
    let from : IsUpTo s q = node_from s i q n in_it in
    let within : IsUpTo next ends = node_up_to s i q n in_it in
    let opened : is_before p s ≡ true = before_wide p o h.0.opening in
    let behind : is_before p q ≡ true = before_up_to p s q opened from in
    let on : is_before p next ≡ true = before_up_to p q next behind (up_to q next long) in
    let inner = node_falls c to s i q n h.1 in_it some e long (λ m there. last m (inr there)) in
    let closes = closing_from c q next to ends w (not_before_later q next ends (up_to q next long) within) within in
    between_falls q next to p (end_of p (pair k o i w)) c.node c.node _ _ (up_to p q behind) long (before_up_to q next to long e)
    (up_to_pair next p k o i w within) (all_passed c.node to q next p (pair k o i w) refl (up_to p q behind) last)
    (rw (behind, on) (omega (arith, inner, closes)))
node_falls c to p (stray k w) q n h here some e long last = here_falls c to p (stray k w) q n h here some e
node_falls c to p (capped k w) q n h here some e long last = here_falls c to p (capped k w) q n h here some e
node_falls c to p nothing q n h here some e long last = here_falls c to p nothing q n h here some e
node_falls c to p (two a b) q n h (inl here) some e long last = here_falls c to p (two a b) q n h here some e
node_falls c to p (two a b) q n h (inr (inl in_a)) some e long last =
    let next = end_of q n in
    let r = end_of p a in
    let within : IsUpTo next r = node_up_to p a q n in_a in
    let start : IsUpTo p q = node_from p a q n in_a in
    let first = node_falls c to p a q n h.1.0 in_a some e long (λ m there. last m (inr (inl there))) in
    let second = price_from c q next to r b h.1.1 (not_before_later q next r (up_to q next long) within) within in
    between_falls q next to p (end_of p (two a b)) c.node c.node _ _ start long (before_up_to q next to long e)
    (node_up_to p (two a b) q n (inr (inl in_a))) (all_passed c.node to q next p (two a b) refl start last) (omega arith)
node_falls c to p (two a b) q n h (inr (inr in_b)) some e long last =
    let next = end_of q n in
    let r = end_of p a in
    let from : IsUpTo r q = node_from r b q n in_b in
    let start : IsUpTo p q = not_before_later p r q (not_before_sum p (tree_length a)) from in
    let none = price_past c q to p a from in
    let none_later = price_past c next to p a (not_before_later r q next from (up_to q next long)) in
    let second = node_falls c to r b q n h.1.1 in_b some e long (λ m there. last m (inr (inr there))) in
    between_falls q next to p (end_of p (two a b)) c.node c.node _ _ start long (before_up_to q next to long e)
    (node_up_to p (two a b) q n (inr (inr in_b))) (all_passed c.node to q next p (two a b) refl start last) (omega arith)
node_falls c to p (three a b d) q n h (inl here) some e long last = here_falls c to p (three a b d) q n h here some e
node_falls c to p (three a b d) q n h (inr (inl in_a)) some e long last =
    let next = end_of q n in
    let r = end_of p a in
    let s = end_of r b in
    let within : IsUpTo next r = node_up_to p a q n in_a in
    let far : IsUpTo next s = up_to_first next p a b within in
    let start : IsUpTo p q = node_from p a q n in_a in
    let first = node_falls c to p a q n h.1.0 in_a some e long (λ m there. last m (inr (inl there))) in
    let second = price_from c q next to r b h.1.1.0 (not_before_later q next r (up_to q next long) within) within in
    let third = price_from c q next to s d h.1.1.1 (not_before_later q next s (up_to q next long) far) far in
    between_falls q next to p (end_of p (three a b d)) c.node c.node _ _ start long (before_up_to q next to long e)
    (node_up_to p (three a b d) q n (inr (inl in_a))) (all_passed c.node to q next p (three a b d) refl start last) (omega arith)
node_falls c to p (three a b d) q n h (inr (inr (inl in_b))) some e long last =
    let next = end_of q n in
    let r = end_of p a in
    let s = end_of r b in
    let from : IsUpTo r q = node_from r b q n in_b in
    let start : IsUpTo p q = not_before_later p r q (not_before_sum p (tree_length a)) from in
    let within : IsUpTo next s = node_up_to r b q n in_b in
    let none = price_past c q to p a from in
    let none_later = price_past c next to p a (not_before_later r q next from (up_to q next long)) in
    let second = node_falls c to r b q n h.1.1.0 in_b some e long (λ m there. last m (inr (inr (inl there)))) in
    let third = price_from c q next to s d h.1.1.1 (not_before_later q next s (up_to q next long) within) within in
    between_falls q next to p (end_of p (three a b d)) c.node c.node _ _ start long (before_up_to q next to long e)
    (node_up_to p (three a b d) q n (inr (inr (inl in_b)))) (all_passed c.node to q next p (three a b d) refl start last) (omega arith)
node_falls c to p (three a b d) q n h (inr (inr (inr in_d))) some e long last =
    let next = end_of q n in
    let r = end_of p a in
    let s = end_of r b in
    let from : IsUpTo s q = node_from s d q n in_d in
    let early : IsUpTo r q = not_before_later r s q (not_before_sum r (tree_length b)) from in
    let start : IsUpTo p q = not_before_later p r q (not_before_sum p (tree_length a)) early in
    let later : IsUpTo q next = up_to q next long in
    let none = price_past c q to p a early in
    let none_later = price_past c next to p a (not_before_later r q next early later) in
    let none_second = price_past c q to r b from in
    let none_second_later = price_past c next to r b (not_before_later s q next from later) in
    let third = node_falls c to s d q n h.1.1.1 in_d some e long (λ m there. last m (inr (inr (inr there)))) in
    between_falls q next to p (end_of p (three a b d)) c.node c.node _ _ start long (before_up_to q next to long e)
    (node_up_to p (three a b d) q n (inr (inr (inr in_d)))) (all_passed c.node to q next p (three a b d) refl start last) (omega arith)

-- ---- a bracket where no node is taken

-- no node of the tree at place q ends at place `to` or before it
abbrev pub NoneEnds : Length → Length → Length → Tree → Type 0
NoneEnds to q p t = (m : Tree) → HasNode p t q m → is_nothing m ≡ false → IsUpTo (end_of q m) to → ⊥

abbrev pub bracket_price : Costs → Bool → ℕ
bracket_price c opening = cond opening c.opening c.closing

none_passed : (k whole : ℕ) (to q next p : Length) (t : Tree) → is_nothing t ≡ false → IsUpTo p q → NoneEnds to q p t
    → IsUpTo q p → IsUpTo (end_of p t) to → IsUpTo (end_of p t) next × (k ≤ whole)
none_passed k whole to q next p t some from none f e =
    let here : p ≡ q = same_place p q from f in
    absurd (none t (subst (λ (x : Length). HasNode p t x t) here (node_itself p t)) some (subst (λ (x : Length). IsUpTo (end_of x t) to) here e))

pair_opens : (c : Costs) (to p : Length) (k o : ℕ) (i : Tree) (w : Option ℕ) → IsTree (pair k o i w) → is_before p to ≡ true → NoneEnds to p p (pair k o i w)
    → price c (inside_start p o) to p (pair k o i w) + c.opening ≤ price c p to p (pair k o i w)
pair_opens c to p k o i w h inside none =
    let s = inside_start p o in
    let ends = inside_end p o i in
    let opened : is_before p s ≡ true = before_wide p o h.0.opening in
    let same : IsUpTo p p = not_before_itself p in
    let within : IsUpTo s ends = not_before_sum s (tree_length i) in
    let inner = price_from c p s to s i h.1 (up_to p s opened) (not_before_itself s) in
    let closes = closing_from c p s to ends w (not_before_later p s ends (up_to p s opened) within) within in
    between_falls p s to p (end_of p (pair k o i w)) c.opening c.node _ _ same opened inside (opening_up_to p k o i w)
    (none_passed c.opening c.node to p s p (pair k o i w) refl same none) (rw (opened, same) (omega (arith, inner, closes)))

pair_closes : (c : Costs) (to p : Length) (k o : ℕ) (i : Tree) (w : ℕ) → IsTree (pair k o i (Some w)) → is_before (inside_end p o i) to ≡ true
    → price c (length_plus (inside_end p o i) (wide w)) to p (pair k o i (Some w)) + c.closing ≤ price c (inside_end p o i) to p (pair k o i (Some w))
pair_closes c to p k o i w h inside =
    let s = inside_start p o in
    let ends = inside_end p o i in
    let next = length_plus ends (wide w) in
    let opened : is_before p s ≡ true = before_wide p o h.0.opening in
    let behind : is_before p ends ≡ true = before_up_to p s ends opened (not_before_sum s (tree_length i)) in
    let closed : is_before ends next ≡ true = before_wide ends w h.0.closing in
    let on : is_before p next ≡ true = before_up_to p ends next behind (up_to ends next closed) in
    let none = price_past c ends to s i (not_before_itself ends) in
    let none_later = price_past c next to s i (up_to ends next closed) in
    let same : is_before ends ends ≡ false = not_before_itself ends in
    between_falls ends next to p (end_of p (pair k o i (Some w))) c.closing c.node _ _ (up_to p ends behind) closed inside
    (subst (IsUpTo next) (end_of_pair p k o i (Some w)) (not_before_itself next))
    (λ f e. absurd (not_both (is_before p ends) behind f)) (rw (behind, on, closed, same, inside) (omega (arith, none, none_later)))

pub bracket_falls : (c : Costs) (to p : Length) (t : Tree) (b : Bracket) → IsTree t → all_paired t ≡ true → HasBracket p t b → 0 < b.len
    → is_before b.place to ≡ true → NoneEnds to b.place p t
    → price c (length_plus b.place (wide b.len)) to p t + bracket_price c b.opening ≤ price c b.place to p t
bracket_falls c to p (text l) b h paired there long inside none = elim there [ ]
bracket_falls c to p (pair k o i None) b h paired there long inside none = absurd cc
bracket_falls c to p (pair k o i (Some w)) b h paired (inl e) long inside none =
    let t : Tree = pair k o i (Some w) in
    subst (λ (x : Bracket). price c (length_plus x.place (wide x.len)) to p t + bracket_price c x.opening ≤ price c x.place to p t) (sym e)
    (pair_opens c to p k o i (Some w) h (subst (λ (x : Bracket). is_before x.place to ≡ true) e inside)
    (subst (λ (x : Bracket). NoneEnds to x.place p t) e none))
bracket_falls c to p (pair k o i (Some w)) b h paired (inr there) long inside none =
    let t : Tree = pair k o i (Some w) in
    let s = inside_start p o in
    let ends = inside_end p o i in
    elim (IsAmong-append b (tree_tokens s i) (closing_brackets ends k (Some w)) there) [
      | inl in_it ↦
          let next = length_plus b.place (wide b.len) in
          let on : is_before b.place next ≡ true = before_wide b.place b.len long in
          let from : IsUpTo s b.place = bracket_from s i b in_it in
          let within : IsUpTo next ends = bracket_up_to s i b in_it in
          let opened : is_before p s ≡ true = before_wide p o h.0.opening in
          let behind : is_before p b.place ≡ true = before_up_to p s b.place opened from in
          let later : is_before p next ≡ true = before_up_to p b.place next behind (up_to b.place next on) in
          let inner = bracket_falls c to s i b h.1 paired in_it long inside (λ m it. none m (inr it)) in
          let closes = closing_from c b.place next to ends (Some w) (not_before_later b.place next ends (up_to b.place next on) within) within in
          between_falls b.place next to p (end_of p t) (bracket_price c b.opening) c.node _ _ (up_to p b.place behind) on inside
          (up_to_pair next p k o i (Some w) within) (λ f e. absurd (not_both (is_before p b.place) behind f))
          (rw (behind, later) (omega (arith, inner, closes)))
      | inr (inl e) ↦
          subst (λ (x : Bracket). price c (length_plus x.place (wide x.len)) to p t + bracket_price c x.opening ≤ price c x.place to p t) (sym e)
          (pair_closes c to p k o i w h (subst (λ (x : Bracket). is_before x.place to ≡ true) e inside))
      | inr (inr it) ↦ elim it [ ]
    ]
bracket_falls c to p (stray k w) b h paired there long inside none = absurd cc
bracket_falls c to p (capped k w) b h paired there long inside none = absurd cc
bracket_falls c to p nothing b h paired there long inside none = elim there [ ]
bracket_falls c to p (two x y) b h paired there long inside none =
    let q = b.place in
    let next = length_plus q (wide b.len) in
    let on : is_before q next ≡ true = before_wide q b.len long in
    let r = end_of p x in
    let both = and_parts (all_paired x) (all_paired y) paired in
    let start : IsUpTo p q = bracket_from p (two x y) b there in
    let end : IsUpTo next (end_of p (two x y)) = bracket_up_to p (two x y) b there in
    elim (IsAmong-append b (tree_tokens p x) (tree_tokens r y) there) [
      | inl in_x ↦
          let within : IsUpTo next r = bracket_up_to p x b in_x in
          let first = bracket_falls c to p x b h.1.0 both.0 in_x long inside (λ m it. none m (inr (inl it))) in
          let second = price_from c q next to r y h.1.1 (not_before_later q next r (up_to q next on) within) within in
          between_falls q next to p (end_of p (two x y)) (bracket_price c b.opening) c.node _ _ start on inside end
          (none_passed (bracket_price c b.opening) c.node to q next p (two x y) refl start none) (omega arith)
      | inr in_y ↦
          let from : IsUpTo r q = bracket_from r y b in_y in
          let passed = price_past c q to p x from in
          let passed_later = price_past c next to p x (not_before_later r q next from (up_to q next on)) in
          let second = bracket_falls c to r y b h.1.1 both.1 in_y long inside (λ m it. none m (inr (inr it))) in
          between_falls q next to p (end_of p (two x y)) (bracket_price c b.opening) c.node _ _ start on inside end
          (none_passed (bracket_price c b.opening) c.node to q next p (two x y) refl start none) (omega arith)
    ]
bracket_falls c to p (three x y z) b h paired there long inside none =
    let q = b.place in
    let next = length_plus q (wide b.len) in
    let on : is_before q next ≡ true = before_wide q b.len long in
    let r = end_of p x in
    let s = end_of r y in
    let outer = and_parts (all_paired x) (all_paired y && all_paired z) paired in
    let inner = and_parts (all_paired y) (all_paired z) outer.1 in
    let start : IsUpTo p q = bracket_from p (three x y z) b there in
    let end : IsUpTo next (end_of p (three x y z)) = bracket_up_to p (three x y z) b there in
    elim (IsAmong-append b (tree_tokens p x) _ there) [
      | inl in_x ↦
          let within : IsUpTo next r = bracket_up_to p x b in_x in
          let far : IsUpTo next s = up_to_first next p x y within in
          let first = bracket_falls c to p x b h.1.0 outer.0 in_x long inside (λ m it. none m (inr (inl it))) in
          let second = price_from c q next to r y h.1.1.0 (not_before_later q next r (up_to q next on) within) within in
          let third = price_from c q next to s z h.1.1.1 (not_before_later q next s (up_to q next on) far) far in
          between_falls q next to p (end_of p (three x y z)) (bracket_price c b.opening) c.node _ _ start on inside end
          (none_passed (bracket_price c b.opening) c.node to q next p (three x y z) refl start none) (omega arith)
      | inr more ↦ elim (IsAmong-append b (tree_tokens r y) (tree_tokens s z) more) [
        | inl in_y ↦
            let from : IsUpTo r q = bracket_from r y b in_y in
            let within : IsUpTo next s = bracket_up_to r y b in_y in
            let passed = price_past c q to p x from in
            let passed_later = price_past c next to p x (not_before_later r q next from (up_to q next on)) in
            let second = bracket_falls c to r y b h.1.1.0 inner.0 in_y long inside (λ m it. none m (inr (inr (inl it)))) in
            let third = price_from c q next to s z h.1.1.1 (not_before_later q next s (up_to q next on) within) within in
            between_falls q next to p (end_of p (three x y z)) (bracket_price c b.opening) c.node _ _ start on inside end
            (none_passed (bracket_price c b.opening) c.node to q next p (three x y z) refl start none) (omega arith)
        | inr in_z ↦
            let from : IsUpTo s q = bracket_from s z b in_z in
            let early : IsUpTo r q = not_before_later r s q (not_before_sum r (tree_length y)) from in
            let later : IsUpTo q next = up_to q next on in
            let passed = price_past c q to p x early in
            let passed_later = price_past c next to p x (not_before_later r q next early later) in
            let passed_second = price_past c q to r y from in
            let passed_second_later = price_past c next to r y (not_before_later s q next from later) in
            let third = bracket_falls c to s z b h.1.1.1 inner.1 in_z long inside (λ m it. none m (inr (inr (inr it)))) in
            between_falls q next to p (end_of p (three x y z)) (bracket_price c b.opening) c.node _ _ start on inside end
            (none_passed (bracket_price c b.opening) c.node to q next p (three x y z) refl start none) (omega arith)
      ]
    ]

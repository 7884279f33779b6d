-- Additive properties of trees: a list has the joined properties of its nodes, in their order.
use Rattle.std.proofs.Common.{◌≡◌, List, [], ◌∷◌, ◌++◌, refl, ap, sym, ◌∙◌, append_assoc}
use Rattle.std.proofs.lemmas.List.{append-nil}
use Rattle.text_lengths.specs.declared.Length.{Length}
use Rattle.text_lengths.specs.Length.{length_plus}
use Rattle.text_lengths.proofs.Lengths.{plus_none, none_plus, length_plus_assoc}
use Rattle.bracket_tree_rules.specs.Tree.{Tree, text, pair, stray, capped, nothing, two, three, tree_length, items, all_items}
use Rattle.bracket_tree_rules.specs.Items.{all_length, spread}

-- a property of one tree, and the joint property of several trees
pub record AddsUp {X : Type 0} (join : X → X → X) (of : Tree → X) (all : List Tree → X) : Type 0 where
  pub one_more : (t : Tree) (ts : List Tree) → all (t ∷ ts) ≡ join (of t) (all ts)
  pub none_before : (ts : List Tree) → join (all []) (all ts) ≡ all ts
  pub none_after : (t : Tree) → join (of t) (all []) ≡ of t
  pub in_turn : (x y z : X) → join (join x y) z ≡ join x (join y z)
  pub of_nothing : of nothing ≡ all []
  pub of_two : (a b : Tree) → of (two a b) ≡ join (of a) (of b)
  pub of_three : (a b c : Tree) → of (three a b c) ≡ join (of a) (join (of b) (of c))

module _ {X : Type 0} {join : X → X → X} {of : Tree → X} {all : List Tree → X} (h : AddsUp join of all) where
  pub added-append : (xs ys : List Tree) → all (xs ++ ys) ≡ join (all xs) (all ys)
  added-append [] ys = sym (h.none_before ys)
  added-append (x ∷ xs) ys =
      let whole = h.one_more x (xs ++ ys) in
      let front = h.one_more x xs in
      let rest = added-append xs ys in
      let order = h.in_turn (of x) (all xs) (all ys) in
      cc

  pub added-one : (t : Tree) → all (t ∷ []) ≡ of t
  added-one t = h.one_more t [] ∙ h.none_after t

  pub added-items : (t : Tree) → all (items t) ≡ of t
  added-items (text l) = added-one (text l)
  added-items (pair k o i c) = added-one (pair k o i c)
  added-items (stray k w) = added-one (stray k w)
  added-items (capped k w) = added-one (capped k w)
  added-items nothing = sym h.of_nothing
  added-items (two a b) =
      let both = added-append (items a) (items b) in
      let whole = h.of_two a b in
      let first = added-items a in
      let second = added-items b in
      cc
  added-items (three a b c) =
      let all_three = added-append (items a) (items b ++ items c) in
      let last_two = added-append (items b) (items c) in
      let whole = h.of_three a b c in
      let first = added-items a in
      let second = added-items b in
      let third = added-items c in
      cc

  -- several trees, by the items of all of them
  pub added-all_items : (ts : List Tree) → all (all_items ts) ≡ all ts
  added-all_items [] = refl
  added-all_items (t ∷ ts) =
      let both = added-append (items t) (all_items ts) in
      let whole = h.one_more t ts in
      let first = added-items t in
      let rest = added-all_items ts in
      cc

pub adds_length : AddsUp length_plus tree_length all_length
adds_length = record {
  one_more = λ t ts. refl;
  none_before = λ ts. none_plus (all_length ts);
  none_after = λ t. plus_none (tree_length t);
  in_turn = length_plus_assoc;
  of_nothing = refl;
  of_two = λ a b. refl;
  of_three = λ a b c. length_plus_assoc (tree_length a) (tree_length b) (tree_length c);
}

-- ---- what each shows at its place

-- a list shows what its nodes show, each at its place
pub record ShowsInTurn {X : Type 0} (show : Length → Tree → List X) : Type 0 where
  pub of_nothing : (p : Length) → show p nothing ≡ []
  pub of_two : (p : Length) (a b : Tree) → show p (two a b) ≡ show p a ++ show (length_plus p (tree_length a)) b
  pub of_three : (p : Length) (a b c : Tree)
      → show p (three a b c)
      ≡ show p a ++ (show (length_plus p (tree_length a)) b ++ show (length_plus (length_plus p (tree_length a)) (tree_length b)) c)

module _ {X : Type 0} (show : Length → Tree → List X) where
  pub spread-append : (p : Length) (xs ys : List Tree)
      → spread show p (xs ++ ys) ≡ spread show p xs ++ spread show (length_plus p (all_length xs)) ys
  spread-append p [] ys = ap (λ (q : Length). spread show q ys) (sym (plus_none p))
  spread-append p (x ∷ xs) ys =
      let rest = spread-append (length_plus p (tree_length x)) xs ys in
      let place = length_plus_assoc p (tree_length x) (all_length xs) in
      let order = append_assoc (show p x) (spread show (length_plus p (tree_length x)) xs)
      (spread show (length_plus (length_plus p (tree_length x)) (all_length xs)) ys) in
      cc

  spread-one : (p : Length) (t : Tree) → spread show p (t ∷ []) ≡ show p t
  spread-one p t = append-nil (show p t)

  pub spread-items : ShowsInTurn show → (p : Length) (t : Tree) → spread show p (items t) ≡ show p t
  spread-items h p (text l) = spread-one p (text l)
  spread-items h p (pair k o i c) = spread-one p (pair k o i c)
  spread-items h p (stray k w) = spread-one p (stray k w)
  spread-items h p (capped k w) = spread-one p (capped k w)
  spread-items h p nothing = sym (h.of_nothing p)
  spread-items h p (two a b) =
      let both = spread-append p (items a) (items b) in
      let whole = h.of_two p a b in
      let first = spread-items h p a in
      let second = spread-items h (length_plus p (tree_length a)) b in
      let a_length = added-items adds_length a in
      cc
  spread-items h p (three a b c) =
      let all_three = spread-append p (items a) (items b ++ items c) in
      let last_two = spread-append (length_plus p (tree_length a)) (items b) (items c) in
      let whole = h.of_three p a b c in
      let first = spread-items h p a in
      let second = spread-items h (length_plus p (tree_length a)) b in
      let third = spread-items h (length_plus (length_plus p (tree_length a)) (tree_length b)) c in
      let a_length = added-items adds_length a in
      let b_length = added-items adds_length b in
      cc

  pub spread-all_items : ShowsInTurn show → (p : Length) (ts : List Tree) → spread show p (all_items ts) ≡ spread show p ts
  spread-all_items h p [] = refl
  spread-all_items h p (t ∷ ts) =
      let both = spread-append p (items t) (all_items ts) in
      let first = spread-items h p t in
      let rest = spread-all_items h (length_plus p (tree_length t)) ts in
      let t_length = added-items adds_length t in
      cc

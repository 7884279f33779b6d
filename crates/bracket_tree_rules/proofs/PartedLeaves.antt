-- The leaves of a node, or of a bracket, are consecutive among those of its tree, and the weight they leave of their
-- line.
use Rattle.std.proofs.Common.{◌≡◌, ℕ, ◌+◌, ◌<◌, ◌≤◌, inl, inr, Bool, true, false, Option, Some, None, List, [], ◌∷◌, ◌++◌, refl, ap, sym, ◌∙◌, subst, arith, append_assoc, add-zero}
use Rattle.std.proofs.lemmas.List.{append-nil}
use Rattle.text_lengths.specs.declared.Length.{Length}
use Rattle.text_lengths.specs.Length.{no_length, length_plus}
use Rattle.text_lengths.proofs.Lengths.{length_plus_assoc}
use Rattle.bracket_rules.specs.Parse.{Bracket, bracket}
use Rattle.bracket_tree_rules.specs.Tree.{Tree, text, pair, stray, capped, nothing, two, three, wide, width_of, tree_length, tree_tokens, closing_brackets, inside_start, inside_end, IsTree}
use Rattle.bracket_tree_rules.specs.Weights.{glue_weights, tree_weights}
use Rattle.bracket_tree_rules.specs.Places.{IsHere, HasNode, IsAmong, HasBracket}
use Rattle.bracket_tree_rules.proofs.Places.{IsAmong-append, IsTree-node}
use Rattle.bracket_tree_rules.specs.Leaves.{Leaf, leaf, closing_leaves, leaves, weight_from, weights_from, weight_left}
use Rattle.bracket_tree_rules.proofs.LeafWeights.{IsBehind, behind_itself, behind_then, behind_plus, ahead_plus, AreBehind, AreAhead, AreBehind-append, AreBehind-then, AreAhead-append, AreAhead-then, AreUpTo-ahead, weight_from-append, weight_ahead, weight_behind, weights_ahead, weights-glue}
use Rattle.bracket_tree_rules.proofs.TreeLeaves.{closing_behind, leaves_behind, leaves_ahead, pair_end, one_leaf, leaves_weigh}

-- ---- what stands among the leaves

-- the leaves `ls`, from place q to place r, are consecutive leaves of the whole, which reaches from place p to place e
pub record Parted (p e : Length) (whole : List Leaf) (q r : Length) (ls : List Leaf) : Type 0 where
  pub before : List Leaf
  pub after : List Leaf
  pub spells : whole ≡ before ++ (ls ++ after)
  pub ahead : AreAhead q before
  pub behind : AreBehind r after
  pub starts : IsBehind p q
  pub ends : IsBehind r e

parted_alone : (p e : Length) (ls : List Leaf) → Parted p e ls p e ls
parted_alone p e ls = record {
  before = [];
  after = [];
  spells = sym (append-nil ls);
  ahead = tt;
  behind = tt;
  starts = behind_itself p;
  ends = behind_itself e;
}

parted_front : (p e f : Length) (whole more : List Leaf) (q r : Length) (ls : List Leaf) → Parted p e whole q r ls → AreBehind e more → IsBehind e f
    → Parted p f (whole ++ more) q r ls
parted_front p e f whole more q r ls s h k = record {
  before = s.before;
  after = s.after ++ more;
  spells =
      ap (λ (x : List Leaf). x ++ more) s.spells ∙ append_assoc s.before (ls ++ s.after) more
      ∙ ap (λ (x : List Leaf). s.before ++ x) (append_assoc ls s.after more);
  ahead = s.ahead;
  behind = AreBehind-append r s.after more s.behind (AreBehind-then r e more s.ends h);
  starts = s.starts;
  ends = behind_then r e f s.ends k;
}

parted_back : (o p e : Length) (front whole : List Leaf) (q r : Length) (ls : List Leaf) → Parted p e whole q r ls → AreAhead p front → IsBehind o p
    → Parted o e (front ++ whole) q r ls
parted_back o p e front whole q r ls s h k = record {
  before = front ++ s.before;
  after = s.after;
  spells = ap (λ (x : List Leaf). front ++ x) s.spells ∙ sym (append_assoc front s.before (ls ++ s.after));
  ahead = AreAhead-append q front s.before (AreAhead-then p q front s.starts h) s.ahead;
  behind = s.behind;
  starts = behind_then o p q k s.starts;
  ends = s.ends;
}

-- from the leaves of a part to those of the whole tree

parted_first : (p : Length) (a b : Tree) (q r : Length) (ls : List Leaf) → Parted p (length_plus p (tree_length a)) (leaves p a) q r ls
    → Parted p (length_plus p (tree_length (two a b))) (leaves p (two a b)) q r ls
parted_first p a b q r ls s =
    let m = length_plus p (tree_length a) in
    let f = length_plus m (tree_length b) in
    subst (λ (x : Length). Parted p x (leaves p (two a b)) q r ls) (length_plus_assoc p (tree_length a) (tree_length b))
    (parted_front p m f (leaves p a) (leaves m b) q r ls s (leaves_behind m b) (behind_plus m (tree_length b)))

parted_second : (p : Length) (a b : Tree) (q r : Length) (ls : List Leaf) → IsTree a
    → Parted (length_plus p (tree_length a)) (length_plus (length_plus p (tree_length a)) (tree_length b)) (leaves (length_plus p (tree_length a)) b) q r ls
    → Parted p (length_plus p (tree_length (two a b))) (leaves p (two a b)) q r ls
parted_second p a b q r ls t s =
    let m = length_plus p (tree_length a) in
    let f = length_plus m (tree_length b) in
    subst (λ (x : Length). Parted p x (leaves p (two a b)) q r ls) (length_plus_assoc p (tree_length a) (tree_length b))
    (parted_back p m f (leaves p a) (leaves m b) q r ls s (leaves_ahead p a t) (behind_plus p (tree_length a)))

-- a list of three parts as a list of two, the second of which is a list of two
three_as_two : (p : Length) (a b c : Tree) (q r : Length) (ls : List Leaf) → Parted p (length_plus p (tree_length (two a (two b c)))) (leaves p (two a (two b c))) q r ls
    → Parted p (length_plus p (tree_length (three a b c))) (leaves p (three a b c)) q r ls
three_as_two p a b c q r ls s =
    subst (λ (x : Length). Parted p (length_plus p x) (leaves p (three a b c)) q r ls)
    (sym (length_plus_assoc (tree_length a) (tree_length b) (tree_length c))) s

parted_inside : (p : Length) (k o : ℕ) (i : Tree) (c : Option ℕ) (q r : Length) (ls : List Leaf) → 0 < o
    → Parted (inside_start p o) (inside_end p o i) (leaves (inside_start p o) i) q r ls
    → Parted p (length_plus p (tree_length (pair k o i c))) (leaves p (pair k o i c)) q r ls
parted_inside p k o i c q r ls some s =
    let m = inside_start p o in
    let e = inside_end p o i in
    let f = length_plus e (wide (width_of c)) in
    subst (λ (x : Length). Parted p x (leaves p (pair k o i c)) q r ls) (pair_end p k o i c)
    (parted_back p m f (leaf p o ∷ []) (leaves m i ++ closing_leaves e c) q r ls
    (parted_front m e f (leaves m i) (closing_leaves e c) q r ls s (closing_behind e c) (behind_plus e (wide (width_of c))))
    (ahead_plus p (wide o) (let h : 0 < o = some in omega arith), tt) (behind_plus p (wide o)))

parted_opening : (p : Length) (k o : ℕ) (i : Tree) (c : Option ℕ)
    → Parted p (length_plus p (tree_length (pair k o i c))) (leaves p (pair k o i c)) p (length_plus p (wide o)) (leaf p o ∷ [])
parted_opening p k o i c =
    let m = inside_start p o in
    let e = inside_end p o i in
    let f = length_plus e (wide (width_of c)) in
    let rest = leaves m i ++ closing_leaves e c in
    let end : IsBehind m e = behind_plus m (tree_length i) in
    let behind : AreBehind m rest =
    AreBehind-append m (leaves m i) (closing_leaves e c) (leaves_behind m i) (AreBehind-then m e (closing_leaves e c) end (closing_behind e c)) in
    subst (λ (x : Length). Parted p x (leaves p (pair k o i c)) p m (leaf p o ∷ [])) (pair_end p k o i c)
    (parted_front p m f (leaf p o ∷ []) rest p m (leaf p o ∷ []) (parted_alone p m (leaf p o ∷ [])) behind
    (behind_then m e f end (behind_plus e (wide (width_of c)))))

parted_closing : (p : Length) (k o : ℕ) (i : Tree) (w : ℕ) → 0 < o → IsTree i
    → Parted p (length_plus p (tree_length (pair k o i (Some w)))) (leaves p (pair k o i (Some w))) (inside_end p o i)
    (length_plus (inside_end p o i) (wide w)) (leaf (inside_end p o i) w ∷ [])
parted_closing p k o i w some t =
    let m = inside_start p o in
    let e = inside_end p o i in
    let f = length_plus e (wide w) in
    let last = leaf e w ∷ [] in
    subst (λ (x : Length). Parted p x (leaves p (pair k o i (Some w))) e f last) (pair_end p k o i (Some w))
    (parted_back p m f (leaf p o ∷ []) (leaves m i ++ last) e f last
    (parted_back m e f (leaves m i) last e f last (parted_alone e f last) (leaves_ahead m i t) (behind_plus m (tree_length i)))
    (ahead_plus p (wide o) (let h : 0 < o = some in omega arith), tt) (behind_plus p (wide o)))

here : (p : Length) (t : Tree) (q : Length) (n : Tree) → IsHere p t q n
    → Parted p (length_plus p (tree_length t)) (leaves p t) q (length_plus q (tree_length n)) (leaves q n)
here p t q n h =
    subst (λ (x : Length). Parted p (length_plus p (tree_length t)) (leaves p t) x (length_plus x (tree_length n)) (leaves x n)) (sym h.place)
    (subst (λ (x : Tree). Parted p (length_plus p (tree_length t)) (leaves p t) p (length_plus p (tree_length x)) (leaves p x)) (sym h.node)
    (parted_alone p (length_plus p (tree_length t)) (leaves p t)))

-- a node's leaves are consecutive leaves of the tree
pub node_parted : (p : Length) (t : Tree) (q : Length) (n : Tree) → IsTree t → HasNode p t q n
    → Parted p (length_plus p (tree_length t)) (leaves p t) q (length_plus q (tree_length n)) (leaves q n)
node_parted p (text l) q n t h = here p (text l) q n h
node_parted p (pair k o i c) q n t (inl h) = here p (pair k o i c) q n h
node_parted p (pair k o i c) q n t (inr h) =
    parted_inside p k o i c q (length_plus q (tree_length n)) (leaves q n) t.0.opening (node_parted (inside_start p o) i q n t.1 h)
node_parted p (stray k w) q n t h = here p (stray k w) q n h
node_parted p (capped k w) q n t h = here p (capped k w) q n h
node_parted p nothing q n t h = here p nothing q n h
node_parted p (two a b) q n t (inl h) = here p (two a b) q n h
node_parted p (two a b) q n t (inr (inl h)) =
    parted_first p a b q (length_plus q (tree_length n)) (leaves q n) (node_parted p a q n t.1.0 h)
node_parted p (two a b) q n t (inr (inr h)) =
    parted_second p a b q (length_plus q (tree_length n)) (leaves q n) t.1.0 (node_parted (length_plus p (tree_length a)) b q n t.1.1 h)
node_parted p (three a b c) q n t (inl h) = here p (three a b c) q n h
node_parted p (three a b c) q n t (inr (inl h)) =
    let r = length_plus q (tree_length n) in
    three_as_two p a b c q r (leaves q n) (parted_first p a (two b c) q r (leaves q n) (node_parted p a q n t.1.0 h))
node_parted p (three a b c) q n t (inr (inr (inl h))) =
    let r = length_plus q (tree_length n) in
    let m = length_plus p (tree_length a) in
    three_as_two p a b c q r (leaves q n)
    (parted_second p a (two b c) q r (leaves q n) t.1.0 (parted_first m b c q r (leaves q n) (node_parted m b q n t.1.1.0 h)))
node_parted p (three a b c) q n t (inr (inr (inr h))) =
    let r = length_plus q (tree_length n) in
    let m = length_plus p (tree_length a) in
    three_as_two p a b c q r (leaves q n)
    (parted_second p a (two b c) q r (leaves q n) t.1.0
    (parted_second m b c q r (leaves q n) t.1.1.0 (node_parted (length_plus m (tree_length b)) c q n t.1.1.1 h)))

-- the leaf of a bracket that equals the given one
lone : (o p : Length) (w : ℕ) (first b : Bracket) (whole : List Leaf) (e : Length) → b ≡ first → first.place ≡ p → first.len ≡ w
    → Parted o e whole p (length_plus p (wide w)) (leaf p w ∷ [])
    → Parted o e whole b.place (length_plus b.place (wide b.len)) (leaf b.place b.len ∷ [])
lone o p w first b whole e h at len s =
    let place : p ≡ b.place = sym (ap (λ (x : Bracket). x.place) h ∙ at) in
    let width : w ≡ b.len = sym (ap (λ (x : Bracket). x.len) h ∙ len) in
    subst (λ (x : Length). Parted o e whole x (length_plus x (wide b.len)) (leaf x b.len ∷ [])) place
    (subst (λ (x : ℕ). Parted o e whole p (length_plus p (wide x)) (leaf p x ∷ [])) width s)

abbrev BracketParted : Length → Tree → Bracket → Type 0
BracketParted p t b = Parted p (length_plus p (tree_length t)) (leaves p t) b.place (length_plus b.place (wide b.len)) (leaf b.place b.len ∷ [])

one_bracket : (p : Length) (w k : ℕ) (opening : Bool) (t : Tree) (b : Bracket) → leaves p t ≡ leaf p w ∷ [] → tree_length t ≡ wide w
    → IsAmong b (bracket p w k opening ∷ []) → BracketParted p t b
one_bracket p w k opening t b e l (inl h) =
    lone p p w (bracket p w k opening) b (leaves p t) (length_plus p (tree_length t)) h refl refl
    (subst (λ (x : List Leaf). Parted p (length_plus p (tree_length t)) x p (length_plus p (wide w)) (leaf p w ∷ [])) (sym e)
    (subst (λ (x : Length). Parted p (length_plus p x) (leaf p w ∷ []) p (length_plus p (wide w)) (leaf p w ∷ [])) (sym l)
    (parted_alone p (length_plus p (wide w)) (leaf p w ∷ []))))
one_bracket p w k opening t b e l (inr h) = elim h [ ]

closing_among : (p : Length) (k o : ℕ) (i : Tree) (c : Option ℕ) (b : Bracket) → IsTree (pair k o i c)
    → IsAmong b (closing_brackets (inside_end p o i) k c) → BracketParted p (pair k o i c) b
closing_among p k o i None b t h = elim h [ ]
closing_among p k o i (Some w) b t (inl h) =
    let e = inside_end p o i in
    lone p e w (bracket e w k false) b (leaves p (pair k o i (Some w))) (length_plus p (tree_length (pair k o i (Some w)))) h refl refl
    (parted_closing p k o i w t.0.opening t.1)
closing_among p k o i (Some w) b t (inr h) = elim h [ ]

-- a bracket's leaf is one of the leaves of the tree
pub bracket_parted : (p : Length) (t : Tree) (b : Bracket) → IsTree t → HasBracket p t b → BracketParted p t b
bracket_parted p (text l) b t h = elim h [ ]
bracket_parted p (pair k o i c) b t (inl h) =
    lone p p o (bracket p o k true) b (leaves p (pair k o i c)) (length_plus p (tree_length (pair k o i c))) h refl refl (parted_opening p k o i c)
bracket_parted p (pair k o i c) b t (inr h) =
    let s = inside_start p o in
    elim (IsAmong-append b (tree_tokens s i) (closing_brackets (inside_end p o i) k c) h) [
      | inl inside ↦ parted_inside p k o i c b.place (length_plus b.place (wide b.len)) (leaf b.place b.len ∷ []) t.0.opening (bracket_parted s i b t.1 inside)
      | inr closing ↦ closing_among p k o i c b t closing
    ]
bracket_parted p (stray k w) b t h = one_bracket p w k false (stray k w) b refl refl h
bracket_parted p (capped k w) b t h = one_bracket p w k true (capped k w) b refl refl h
bracket_parted p nothing b t h = elim h [ ]
bracket_parted p (two x y) b t h =
    let m = length_plus p (tree_length x) in
    let r = length_plus b.place (wide b.len) in
    let ls = leaf b.place b.len ∷ [] in
    elim (IsAmong-append b (tree_tokens p x) (tree_tokens m y) h) [
      | inl first ↦ parted_first p x y b.place r ls (bracket_parted p x b t.1.0 first)
      | inr second ↦ parted_second p x y b.place r ls t.1.0 (bracket_parted m y b t.1.1 second)
    ]
bracket_parted p (three x y z) b t h =
    let m = length_plus p (tree_length x) in
    let n = length_plus m (tree_length y) in
    let r = length_plus b.place (wide b.len) in
    let ls = leaf b.place b.len ∷ [] in
    elim (IsAmong-append b (tree_tokens p x) (tree_tokens m y ++ tree_tokens n z) h) [
      | inl first ↦ three_as_two p x y z b.place r ls (parted_first p x (two y z) b.place r ls (bracket_parted p x b t.1.0 first))
      | inr rest ↦ elim (IsAmong-append b (tree_tokens m y) (tree_tokens n z) rest) [
        | inl second ↦
            three_as_two p x y z b.place r ls
            (parted_second p x (two y z) b.place r ls t.1.0 (parted_first m y z b.place r ls (bracket_parted m y b t.1.1.0 second)))
        | inr third ↦
            three_as_two p x y z b.place r ls
            (parted_second p x (two y z) b.place r ls t.1.0 (parted_second m y z b.place r ls t.1.1.0 (bracket_parted n z b t.1.1.1 third)))
      ]
    ]

-- ---- what is left

-- after the leaves of a part only those after it have weight
left_behind : (p e : Length) (whole : List Leaf) (q r : Length) (ls : List Leaf) (s : Parted p e whole q r ls) → IsBehind q r → AreAhead r ls
    → weight_from r whole ≡ weight_from r s.after
left_behind p e whole q r ls s h k =
    ap (weight_from r) s.spells
    ∙ omega (
      arith,
      weight_from-append r s.before (ls ++ s.after),
      weight_from-append r ls s.after,
      weight_ahead r s.before (AreAhead-then q r s.before h s.ahead),
      weight_ahead r ls k,
    )

-- the lines from a node's place on, one more than its breaks: the node's own lines, and the weight left after it in
-- the last
pub node_weighs : (t : Tree) (q : Length) (n : Tree) → IsTree t → HasNode no_length t q n
    → weights_from q (tree_length n).lines (leaves no_length t)
    ≡ glue_weights (tree_weights n) (weight_left t (length_plus q (tree_length n)) ∷ [])
node_weighs t q n is h =
    let r = length_plus q (tree_length n) in
    let k = (tree_length n).lines in
    let whole = leaves no_length t in
    let s : Parted no_length (length_plus no_length (tree_length t)) whole q r (leaves q n) = node_parted no_length t q n is h in
    let tree : IsTree n = IsTree-node no_length t q n is h in
    let end : IsBehind q r = behind_plus q (tree_length n) in
    let ahead : AreAhead r (leaves q n) = leaves_ahead q n tree in
    let left : weight_from r whole ≡ weight_from r s.after =
    left_behind no_length (length_plus no_length (tree_length t)) whole q r (leaves q n) s end ahead in
    let glued : weights_from q (k + 0) (leaves q n ++ s.after) ≡ glue_weights (weights_from q k (leaves q n)) (weights_from r 0 s.after) =
    weights-glue q r k 0 (leaves q n) s.after refl end (AreUpTo-ahead r (leaves q n) ahead) s.behind in
    ap (weights_from q k) s.spells ∙ weights_ahead q k s.before (leaves q n ++ s.after) s.ahead
    ∙ ap (λ (x : ℕ). weights_from q x (leaves q n ++ s.after)) (sym (add-zero k)) ∙ glued
    ∙ ap (λ (x : List ℕ). glue_weights x (weight_from r s.after ∷ [])) (leaves_weigh q n tree)
    ∙ ap (λ (x : ℕ). glue_weights (tree_weights n) (x ∷ [])) (sym left)

-- after a bracket the weight left of its line is less by its width
pub bracket_weighs : (t : Tree) (b : Bracket) → IsTree t → HasBracket no_length t b → 0 < b.len
    → weight_left t b.place ≡ b.len + weight_left t (length_plus b.place (wide b.len))
bracket_weighs t b is h some =
    let q = b.place in
    let r = length_plus q (wide b.len) in
    let whole = leaves no_length t in
    let ls = leaf q b.len ∷ [] in
    let s : Parted no_length (length_plus no_length (tree_length t)) whole q r ls = bracket_parted no_length t b is h in
    let end : IsBehind q r = behind_plus q (wide b.len) in
    let ahead : AreAhead r ls = (ahead_plus q (wide b.len) (let g : 0 < b.len = some in omega arith), tt) in
    let left : weight_from r whole ≡ weight_from r s.after =
    left_behind no_length (length_plus no_length (tree_length t)) whole q r ls s end ahead in
    let line : q.lines ≡ r.lines = omega arith in
    let column : q.columns ≤ r.columns = end.columns (omega arith) in
    ap (weight_from q) s.spells
    ∙ omega (
      arith,
      weight_from-append q s.before (ls ++ s.after),
      weight_from-append q ls s.after,
      weight_ahead q s.before s.ahead,
      one_leaf q b.len,
      weight_behind q r s.after line column s.behind,
      left,
    )

-- the lines of a tree have the weight of its leaves
pub lines_weigh : (t : Tree) → IsTree t → weights_from no_length (tree_length t).lines (leaves no_length t) ≡ tree_weights t
lines_weigh t is = leaves_weigh no_length t is

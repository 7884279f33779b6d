-- The walk down to the longest node at a place: at most one part of a list has nodes there that may be taken.
use Rattle.std.proofs.Common.{◌≡◌, ℕ, ◌<◌, Bool, true, false, Option, Some, None, refl, ap, sym, ◌∙◌, subst, arith, inl, inr}
use Rattle.std.proofs.lemmas.Bool.Decides.{nat_tests}
use Rattle.std.proofs.lemmas.Grind.{common_steps}
use Rattle.text_lengths.specs.declared.Length.{Length}
use Rattle.text_lengths.specs.Length.{length_plus, is_before}
use Rattle.text_lengths.proofs.Lengths.{length_plus_assoc}
use Rattle.bracket_tree_rules.specs.Tree.{Tree, text, pair, stray, capped, nothing, two, three, wide, width_of, tree_length, inside_start, inside_end, is_nothing, IsGap, IsTree}
use Rattle.bracket_tree_rules.specs.Places.{IsHere, HasNode, MayBeTaken, IsLongest}
use Rattle.bracket_tree_rules.specs.Found.{IsTakenHere, IsNodeFound}
use Rattle.bracket_tree_rules.proofs.Weights.{units_of}
use Rattle.bracket_tree_rules.proofs.Levels.{not_before_later}

-- ---- the order of lengths

pub before_more : (p q l : Length) → is_before p q ≡ true → is_before p (length_plus q l) ≡ true
before_more p q l h = grind (arith, nat_tests, common_steps)

pub not_before_front : (p q l : Length) → is_before p (length_plus q l) ≡ false → is_before p q ≡ false
not_before_front p q l h = grind (arith, nat_tests, common_steps)

pub before_units : (p l : Length) → 0 < units_of l → is_before p (length_plus p l) ≡ true
before_units p l h = grind (arith, nat_tests, common_steps)

pub not_before_itself : (p : Length) → is_before p p ≡ false
not_before_itself p = grind (arith, nat_tests)

front_not_longer : (a b : Length) → is_before (length_plus a b) a ≡ false
front_not_longer a b = grind (arith, nat_tests, common_steps)

rest_not_longer : (a b : Length) → is_before (length_plus a b) b ≡ false
rest_not_longer a b = grind (arith, nat_tests, common_steps)

units_plus : (a b : Length) → 0 < units_of a → 0 < units_of (length_plus a b)
units_plus a b h = grind (arith, common_steps)

pub not_both : (b : Bool) → b ≡ true → b ≡ false → ⊥
not_both true h k = cc
not_both false h k = cc

-- ---- the lengths of trees

gap_units : (l : Length) → IsGap l → 0 < units_of l
gap_units l (inl h) = omega arith
gap_units l (inr h) = omega arith

-- a non-empty tree has a positive length
tree_units : (t : Tree) → IsTree t → is_nothing t ≡ false → 0 < units_of (tree_length t)
tree_units (text l) h e = gap_units l h
tree_units (pair k o i c) h e =
    units_plus (length_plus (wide o) (tree_length i)) (wide (width_of c))
    (units_plus (wide o) (tree_length i) (let opening : 0 < o = h.0.opening in omega arith))
tree_units (stray k w) h e = let some : 0 < w = h.wide in omega arith
tree_units (capped k w) h e = let some : 0 < w = h.wide in omega arith
tree_units nothing h e = cc
tree_units (two a b) h e = units_plus (tree_length a) (tree_length b) (tree_units a h.1.0 h.0.first)
tree_units (three a b c) h e =
    units_plus (length_plus (tree_length a) (tree_length b)) (tree_length c)
    (units_plus (tree_length a) (tree_length b) (tree_units a h.1.0 h.0.0.first))

-- a place before the end of the closing bracket is before the end of the pair
pub before_pair_end : (q p : Length) (k o : ℕ) (i : Tree) (c : Option ℕ) → is_before q (length_plus (inside_end p o i) (wide (width_of c))) ≡ true
    → is_before q (length_plus p (tree_length (pair k o i c))) ≡ true
before_pair_end q p k o i c h =
    ap (is_before q) (sym (ap (λ (l : Length). length_plus l (wide (width_of c))) (length_plus_assoc p (wide o) (tree_length i))
    ∙ length_plus_assoc p (length_plus (wide o) (tree_length i)) (wide (width_of c)))) ∙ h

pub before_two_end : (q p : Length) (a b : Tree) → is_before q (length_plus (length_plus p (tree_length a)) (tree_length b)) ≡ true
    → is_before q (length_plus p (tree_length (two a b))) ≡ true
before_two_end q p a b h = ap (is_before q) (sym (length_plus_assoc p (tree_length a) (tree_length b))) ∙ h

pub before_three_end : (q p : Length) (a b c : Tree)
    → is_before q (length_plus (length_plus (length_plus p (tree_length a)) (tree_length b)) (tree_length c)) ≡ true
    → is_before q (length_plus p (tree_length (three a b c))) ≡ true
before_three_end q p a b c h =
    ap (is_before q) (sym (ap (λ (l : Length). length_plus l (tree_length c)) (length_plus_assoc p (tree_length a) (tree_length b))
    ∙ length_plus_assoc p (length_plus (tree_length a) (tree_length b)) (tree_length c))) ∙ h

-- ---- where nodes start

here_from : (p : Length) (t : Tree) (q : Length) (n : Tree) → IsHere p t q n → is_before q p ≡ false
here_from p t q n h = ap (λ (x : Length). is_before x p) h.place ∙ not_before_itself p

-- no node of a tree starts before the tree
pub node_from : (p : Length) (t : Tree) (q : Length) (n : Tree) → HasNode p t q n → is_before q p ≡ false
node_from p (text l) q n here = here_from p (text l) q n here
node_from p (pair k o i c) q n (inl here) = here_from p (pair k o i c) q n here
node_from p (pair k o i c) q n (inr in_it) = not_before_front q p (wide o) (node_from (inside_start p o) i q n in_it)
node_from p (stray k w) q n here = here_from p (stray k w) q n here
node_from p (capped k w) q n here = here_from p (capped k w) q n here
node_from p nothing q n here = here_from p nothing q n here
node_from p (two a b) q n (inl here) = here_from p (two a b) q n here
node_from p (two a b) q n (inr (inl in_a)) = node_from p a q n in_a
node_from p (two a b) q n (inr (inr in_b)) =
    not_before_front q p (tree_length a) (node_from (length_plus p (tree_length a)) b q n in_b)
node_from p (three a b c) q n (inl here) = here_from p (three a b c) q n here
node_from p (three a b c) q n (inr (inl in_a)) = node_from p a q n in_a
node_from p (three a b c) q n (inr (inr (inl in_b))) =
    not_before_front q p (tree_length a) (node_from (length_plus p (tree_length a)) b q n in_b)
node_from p (three a b c) q n (inr (inr (inr in_c))) =
    let r = length_plus p (tree_length a) in
    not_before_front q p (tree_length a)
    (not_before_front q r (tree_length b) (node_from (length_plus r (tree_length b)) c q n in_c))

here_ends : (p : Length) (t : Tree) (q : Length) (n : Tree) → IsTree t → is_nothing n ≡ false → IsHere p t q n
    → is_before q (length_plus p (tree_length t)) ≡ true
here_ends p t q n h e here =
    ap (λ (x : Length). is_before x (length_plus p (tree_length t))) here.place
    ∙ before_units p (tree_length t) (tree_units t h (ap is_nothing (sym here.node) ∙ e))

-- a non-empty node of a tree starts before the end of the tree
pub node_ends : (p : Length) (t : Tree) (q : Length) (n : Tree) → IsTree t → is_nothing n ≡ false → HasNode p t q n
    → is_before q (length_plus p (tree_length t)) ≡ true
node_ends p (text l) q n h e here = here_ends p (text l) q n h e here
node_ends p (pair k o i c) q n h e (inl here) = here_ends p (pair k o i c) q n h e here
node_ends p (pair k o i c) q n h e (inr in_it) =
    before_pair_end q p k o i c
    (before_more q (inside_end p o i) (wide (width_of c)) (node_ends (inside_start p o) i q n h.1 e in_it))
node_ends p (stray k w) q n h e here = here_ends p (stray k w) q n h e here
node_ends p (capped k w) q n h e here = here_ends p (capped k w) q n h e here
node_ends p nothing q n h e here = here_ends p nothing q n h e here
node_ends p (two a b) q n h e (inl here) = here_ends p (two a b) q n h e here
node_ends p (two a b) q n h e (inr (inl in_a)) =
    before_two_end q p a b (before_more q (length_plus p (tree_length a)) (tree_length b) (node_ends p a q n h.1.0 e in_a))
node_ends p (two a b) q n h e (inr (inr in_b)) =
    before_two_end q p a b (node_ends (length_plus p (tree_length a)) b q n h.1.1 e in_b)
node_ends p (three a b c) q n h e (inl here) = here_ends p (three a b c) q n h e here
node_ends p (three a b c) q n h e (inr (inl in_a)) =
    let r = length_plus p (tree_length a) in
    before_three_end q p a b c
    (before_more q (length_plus r (tree_length b)) (tree_length c) (before_more q r (tree_length b) (node_ends p a q n h.1.0 e in_a)))
node_ends p (three a b c) q n h e (inr (inr (inl in_b))) =
    let r = length_plus p (tree_length a) in
    before_three_end q p a b c
    (before_more q (length_plus r (tree_length b)) (tree_length c) (node_ends r b q n h.1.1.0 e in_b))
node_ends p (three a b c) q n h e (inr (inr (inr in_c))) =
    before_three_end q p a b c (node_ends (length_plus (length_plus p (tree_length a)) (tree_length b)) c q n h.1.1.1 e in_c)

-- ---- no part is longer than the whole

here_not_longer : (p : Length) (t : Tree) (q : Length) (n : Tree) → IsHere p t q n → is_before (tree_length t) (tree_length n) ≡ false
here_not_longer p t q n h = ap (λ (x : Tree). is_before (tree_length t) (tree_length x)) h.node ∙ not_before_itself (tree_length t)

-- a length at most as long as a prefix or a suffix is at most as long as the whole
in_front : (l a b : Length) → is_before a l ≡ false → is_before (length_plus a b) l ≡ false
in_front l a b h = not_before_later l a (length_plus a b) h (front_not_longer a b)

in_rest : (l a b : Length) → is_before b l ≡ false → is_before (length_plus a b) l ≡ false
in_rest l a b h = not_before_later l b (length_plus a b) h (rest_not_longer a b)

no_longer : (p : Length) (t : Tree) (q : Length) (n : Tree) → HasNode p t q n → is_before (tree_length t) (tree_length n) ≡ false
no_longer p (text l) q n here = here_not_longer p (text l) q n here
no_longer p (pair k o i c) q n (inl here) = here_not_longer p (pair k o i c) q n here
no_longer p (pair k o i c) q n (inr in_it) =
    in_front (tree_length n) (length_plus (wide o) (tree_length i)) (wide (width_of c))
    (in_rest (tree_length n) (wide o) (tree_length i) (no_longer (inside_start p o) i q n in_it))
no_longer p (stray k w) q n here = here_not_longer p (stray k w) q n here
no_longer p (capped k w) q n here = here_not_longer p (capped k w) q n here
no_longer p nothing q n here = here_not_longer p nothing q n here
no_longer p (two a b) q n (inl here) = here_not_longer p (two a b) q n here
no_longer p (two a b) q n (inr (inl in_a)) = in_front (tree_length n) (tree_length a) (tree_length b) (no_longer p a q n in_a)
no_longer p (two a b) q n (inr (inr in_b)) =
    in_rest (tree_length n) (tree_length a) (tree_length b) (no_longer (length_plus p (tree_length a)) b q n in_b)
no_longer p (three a b c) q n (inl here) = here_not_longer p (three a b c) q n here
no_longer p (three a b c) q n (inr (inl in_a)) =
    in_front (tree_length n) (length_plus (tree_length a) (tree_length b)) (tree_length c)
    (in_front (tree_length n) (tree_length a) (tree_length b) (no_longer p a q n in_a))
no_longer p (three a b c) q n (inr (inr (inl in_b))) =
    in_front (tree_length n) (length_plus (tree_length a) (tree_length b)) (tree_length c)
    (in_rest (tree_length n) (tree_length a) (tree_length b) (no_longer (length_plus p (tree_length a)) b q n in_b))
no_longer p (three a b c) q n (inr (inr (inr in_c))) =
    in_rest (tree_length n) (length_plus (tree_length a) (tree_length b)) (tree_length c)
    (no_longer (length_plus (length_plus p (tree_length a)) (tree_length b)) c q n in_c)

-- ---- the tree itself

-- the tree is one of its own nodes
pub node_itself : (p : Length) (t : Tree) → HasNode p t p t
node_itself p (text l) = record { node = refl; place = refl }
node_itself p (pair k o i c) = inl (record { node = refl; place = refl })
node_itself p (stray k w) = record { node = refl; place = refl }
node_itself p (capped k w) = record { node = refl; place = refl }
node_itself p nothing = record { node = refl; place = refl }
node_itself p (two a b) = inl (record { node = refl; place = refl })
node_itself p (three a b c) = inl (record { node = refl; place = refl })

pub longest_here : (p : Length) (t : Tree) (q : Length) (lines kinds level : ℕ) → IsTakenHere p t q lines kinds level
    → IsLongest p t q lines kinds level t
longest_here p t q lines kinds level h = record {
  stands = subst (λ (x : Length). HasNode p t x t) h.0 (node_itself p t);
  taken = h.1;
  longest = λ m there taken. no_longer p t q m there;
}

-- if the tree itself may not be taken here, neither may a node that is the tree
pub not_here : (p : Length) (t : Tree) (q : Length) (lines kinds level : ℕ) (n : Tree) → (IsTakenHere p t q lines kinds level → ⊥)
    → IsHere p t q n → MayBeTaken lines kinds level n → ⊥
not_here p t q lines kinds level n none here taken = none (sym here.place, subst (MayBeTaken lines kinds level) here.node taken)

-- ---- the one part whose nodes count

-- of the tree's nodes at place q, only those of this part, which starts at place r, may be taken
record OnlyIn (p : Length) (t : Tree) (r : Length) (part : Tree) (q : Length) (lines kinds level : ℕ) : Type 0 where
  up : (n : Tree) → HasNode r part q n → HasNode p t q n
  down : (n : Tree) → HasNode p t q n → MayBeTaken lines kinds level n → HasNode r part q n

found_by : (p : Length) (t : Tree) (r : Length) (part : Tree) (q : Length) (lines kinds level : ℕ) (o : Option Tree)
    → OnlyIn p t r part q lines kinds level → IsNodeFound r part q lines kinds level o → IsNodeFound p t q lines kinds level o
found_by p t r part q lines kinds level None only h = λ n there taken. h n (only.down n there taken) taken
found_by p t r part q lines kinds level (Some n) only h = record {
  stands = only.up n h.stands;
  taken = h.taken;
  longest = λ m there taken. h.longest m (only.down m there taken) taken;
}

-- a part that starts after the place, or ends at or before it, has no such node
not_behind : (p : Length) (t : Tree) (q : Length) (n : Tree) → is_before q p ≡ true → HasNode p t q n → ⊥
not_behind p t q n h there = not_both (is_before q p) h (node_from p t q n there)

not_passed : (p : Length) (t : Tree) (q : Length) (lines kinds level : ℕ) (n : Tree) → IsTree t → is_before q (length_plus p (tree_length t)) ≡ false
    → HasNode p t q n → MayBeTaken lines kinds level n → ⊥
not_passed p t q lines kinds level n tree h there taken =
    not_both (is_before q (length_plus p (tree_length t))) (node_ends p t q n tree taken.some there) h

-- ---- the steps of the walk

pub no_node_at_text : (p l q : Length) (lines kinds level : ℕ) → (IsTakenHere p (text l) q lines kinds level → ⊥)
    → IsNodeFound p (text l) q lines kinds level None
no_node_at_text p l q lines kinds level none = λ n here taken. not_here p (text l) q lines kinds level n none here taken

pub no_node_at_stray : (p q : Length) (k w lines kinds level : ℕ) → (IsTakenHere p (stray k w) q lines kinds level → ⊥)
    → IsNodeFound p (stray k w) q lines kinds level None
no_node_at_stray p q k w lines kinds level none = λ n here taken. not_here p (stray k w) q lines kinds level n none here taken

pub no_node_at_capped : (p q : Length) (k w lines kinds level : ℕ) → (IsTakenHere p (capped k w) q lines kinds level → ⊥)
    → IsNodeFound p (capped k w) q lines kinds level None
no_node_at_capped p q k w lines kinds level none = λ n here taken. not_here p (capped k w) q lines kinds level n none here taken

pub no_node_at_nothing : (p q : Length) (lines kinds level : ℕ) → (IsTakenHere p nothing q lines kinds level → ⊥)
    → IsNodeFound p nothing q lines kinds level None
no_node_at_nothing p q lines kinds level none = λ n here taken. not_here p nothing q lines kinds level n none here taken

pub node_inside : (p : Length) (k o : ℕ) (i : Tree) (c : Option ℕ) (q : Length) (lines kinds level : ℕ) (found : Option Tree)
    → (IsTakenHere p (pair k o i c) q lines kinds level → ⊥) → IsNodeFound (inside_start p o) i q lines kinds level found
    → IsNodeFound p (pair k o i c) q lines kinds level found
node_inside p k o i c q lines kinds level found none h =
    found_by p (pair k o i c) (inside_start p o) i q lines kinds level found
    (record { up = λ n in_it. inr in_it; down = down }) h
  where
    down : (n : Tree) → HasNode p (pair k o i c) q n → MayBeTaken lines kinds level n → HasNode (inside_start p o) i q n
    down n (inl here) taken = absurd (not_here p (pair k o i c) q lines kinds level n none here taken)
    down n (inr in_it) taken = in_it

pub node_in_first : (p : Length) (a b : Tree) (q : Length) (lines kinds level : ℕ) (o : Option Tree)
    → (IsTakenHere p (two a b) q lines kinds level → ⊥) → is_before q (length_plus p (tree_length a)) ≡ true
    → IsNodeFound p a q lines kinds level o → IsNodeFound p (two a b) q lines kinds level o
node_in_first p a b q lines kinds level o none e h =
    found_by p (two a b) p a q lines kinds level o (record { up = λ n in_a. inr (inl in_a); down = down }) h
  where
    down : (n : Tree) → HasNode p (two a b) q n → MayBeTaken lines kinds level n → HasNode p a q n
    down n (inl here) taken = absurd (not_here p (two a b) q lines kinds level n none here taken)
    down n (inr (inl in_a)) taken = in_a
    down n (inr (inr in_b)) taken = absurd (not_behind (length_plus p (tree_length a)) b q n e in_b)

pub node_in_second : (p : Length) (a b : Tree) (q : Length) (lines kinds level : ℕ) (o : Option Tree)
    → (IsTakenHere p (two a b) q lines kinds level → ⊥) → IsTree a → is_before q (length_plus p (tree_length a)) ≡ false
    → IsNodeFound (length_plus p (tree_length a)) b q lines kinds level o → IsNodeFound p (two a b) q lines kinds level o
node_in_second p a b q lines kinds level o none tree e h =
    found_by p (two a b) (length_plus p (tree_length a)) b q lines kinds level o (record { up = λ n in_b. inr (inr in_b); down = down }) h
  where
    down : (n : Tree) → HasNode p (two a b) q n → MayBeTaken lines kinds level n → HasNode (length_plus p (tree_length a)) b q n
    down n (inl here) taken = absurd (not_here p (two a b) q lines kinds level n none here taken)
    down n (inr (inl in_a)) taken = absurd (not_passed p a q lines kinds level n tree e in_a taken)
    down n (inr (inr in_b)) taken = in_b

pub node_in_first_of_three : (p : Length) (a b c : Tree) (q : Length) (lines kinds level : ℕ) (o : Option Tree)
    → (IsTakenHere p (three a b c) q lines kinds level → ⊥) → is_before q (length_plus p (tree_length a)) ≡ true
    → IsNodeFound p a q lines kinds level o → IsNodeFound p (three a b c) q lines kinds level o
node_in_first_of_three p a b c q lines kinds level o none e h =
    found_by p (three a b c) p a q lines kinds level o (record { up = λ n in_a. inr (inl in_a); down = down }) h
  where
    down : (n : Tree) → HasNode p (three a b c) q n → MayBeTaken lines kinds level n → HasNode p a q n
    down n (inl here) taken = absurd (not_here p (three a b c) q lines kinds level n none here taken)
    down n (inr (inl in_a)) taken = in_a
    down n (inr (inr (inl in_b))) taken = absurd (not_behind (length_plus p (tree_length a)) b q n e in_b)
    down n (inr (inr (inr in_c))) taken =
        absurd (not_behind (length_plus (length_plus p (tree_length a)) (tree_length b)) c q n
        (before_more q (length_plus p (tree_length a)) (tree_length b) e) in_c)

pub node_in_second_of_three : (p : Length) (a b c : Tree) (q : Length) (lines kinds level : ℕ) (o : Option Tree)
    → (IsTakenHere p (three a b c) q lines kinds level → ⊥) → IsTree a → is_before q (length_plus p (tree_length a)) ≡ false
    → is_before q (length_plus (length_plus p (tree_length a)) (tree_length b)) ≡ true
    → IsNodeFound (length_plus p (tree_length a)) b q lines kinds level o → IsNodeFound p (three a b c) q lines kinds level o
node_in_second_of_three p a b c q lines kinds level o none tree e f h =
    found_by p (three a b c) (length_plus p (tree_length a)) b q lines kinds level o
    (record { up = λ n in_b. inr (inr (inl in_b)); down = down }) h
  where
    down : (n : Tree) → HasNode p (three a b c) q n → MayBeTaken lines kinds level n → HasNode (length_plus p (tree_length a)) b q n
    down n (inl here) taken = absurd (not_here p (three a b c) q lines kinds level n none here taken)
    down n (inr (inl in_a)) taken = absurd (not_passed p a q lines kinds level n tree e in_a taken)
    down n (inr (inr (inl in_b))) taken = in_b
    down n (inr (inr (inr in_c))) taken =
        absurd (not_behind (length_plus (length_plus p (tree_length a)) (tree_length b)) c q n f in_c)

pub node_in_third_of_three : (p : Length) (a b c : Tree) (q : Length) (lines kinds level : ℕ) (o : Option Tree)
    → (IsTakenHere p (three a b c) q lines kinds level → ⊥) → IsTree a → IsTree b
    → is_before q (length_plus p (tree_length a)) ≡ false
    → is_before q (length_plus (length_plus p (tree_length a)) (tree_length b)) ≡ false
    → IsNodeFound (length_plus (length_plus p (tree_length a)) (tree_length b)) c q lines kinds level o
    → IsNodeFound p (three a b c) q lines kinds level o
node_in_third_of_three p a b c q lines kinds level o none tree_a tree_b e f h =
    found_by p (three a b c) (length_plus (length_plus p (tree_length a)) (tree_length b)) c q lines kinds level o
    (record { up = λ n in_c. inr (inr (inr in_c)); down = down }) h
  where
    down : (n : Tree) → HasNode p (three a b c) q n → MayBeTaken lines kinds level n
        → HasNode (length_plus (length_plus p (tree_length a)) (tree_length b)) c q n
    down n (inl here) taken = absurd (not_here p (three a b c) q lines kinds level n none here taken)
    down n (inr (inl in_a)) taken = absurd (not_passed p a q lines kinds level n tree_a e in_a taken)
    down n (inr (inr (inl in_b))) taken =
        absurd (not_passed (length_plus p (tree_length a)) b q lines kinds level n tree_b f in_b taken)
    down n (inr (inr (inr in_c))) taken = in_c

pub ruleset node_steps = (longest_here, no_node_at_text, no_node_at_stray, no_node_at_capped, no_node_at_nothing, node_inside, node_in_first, node_in_second, node_in_first_of_three, node_in_second_of_three, node_in_third_of_three)

-- Trees whose brackets are all paired: each node of one may be taken where there is room.
use Rattle.std.proofs.Common.{◌≡◌, ℕ, ◌+◌, ◌≤◌, true, false, ◌&&◌, Some, None, refl, ap, sym, ◌∙◌, arith, inl, inr}
use Rattle.std.proofs.lemmas.Bool.{and_parts}
use Rattle.text_lengths.specs.declared.Length.{Length}
use Rattle.bracket_rules.specs.declared.TheConstants.{MOST_OPEN}
use Rattle.bracket_tree_rules.specs.Tree.{Tree, text, pair, stray, capped, nothing, two, three, inside_start, is_missing, is_closed, is_capped, nesting}
use Rattle.bracket_tree_rules.specs.Places.{IsHere, HasNode}
use Rattle.bracket_tree_rules.specs.Told.{Fits}
use Rattle.reuse_rules.specs.Prices.{all_paired}

-- the tree has no unclosed bracket, none beyond the limit of open brackets, and no unexpected one
record Lacks (t : Tree) : Type 0 where
  closed : is_closed t ≡ true
  uncapped : is_capped t ≡ false
  none_missing : (k : ℕ) → is_missing k t ≡ false

paired_lacks : (t : Tree) → all_paired t ≡ true → Lacks t
paired_lacks (text l) e = record { closed = refl; uncapped = refl; none_missing = λ k. refl }
paired_lacks (pair k o i None) e = absurd cc
paired_lacks (pair k o i (Some w)) e =
    let inside = paired_lacks i e in
    record { closed = inside.closed; uncapped = inside.uncapped; none_missing = inside.none_missing }
paired_lacks (stray k w) e = absurd cc
paired_lacks (capped k w) e = absurd cc
paired_lacks nothing e = record { closed = refl; uncapped = refl; none_missing = λ k. refl }
paired_lacks (two a b) e =
    let both = and_parts (all_paired a) (all_paired b) e in
    let first = paired_lacks a both.0 in
    let second = paired_lacks b both.1 in
    record {
      closed = rw (first.closed, second.closed) refl;
      uncapped = rw (first.uncapped, second.uncapped) refl;
      none_missing = λ k. rw (first.none_missing k, second.none_missing k) refl;
    }
paired_lacks (three a b c) e =
    let outer = and_parts (all_paired a) (all_paired b && all_paired c) e in
    let inner = and_parts (all_paired b) (all_paired c) outer.1 in
    let first = paired_lacks a outer.0 in
    let second = paired_lacks b inner.0 in
    let third = paired_lacks c inner.1 in
    record {
      closed = rw (first.closed, second.closed, third.closed) refl;
      uncapped = rw (first.uncapped, second.uncapped, third.uncapped) refl;
      none_missing = λ k. rw (first.none_missing k, second.none_missing k, third.none_missing k) refl;
    }

pub paired_fits : (kinds level : ℕ) (t : Tree) → all_paired t ≡ true → level + nesting t ≤ MOST_OPEN → Fits kinds level t
paired_fits kinds level t e room =
    let lacks = paired_lacks t e in
    record {
      closed = lacks.closed;
      uncapped = lacks.uncapped;
      apart = λ k missing. let clash : true ≡ false = sym missing ∙ lacks.none_missing k in absurd cc;
      room = room;
    }

pub paired_node : (p : Length) (t : Tree) (q : Length) (n : Tree) → HasNode p t q n → all_paired t ≡ true → all_paired n ≡ true
paired_node p (text l) q n here e = ap all_paired here.node ∙ e
paired_node p (pair k o i c) q n (inl here) e = ap all_paired here.node ∙ e
paired_node p (pair k o i None) q n (inr in_it) e = absurd cc
paired_node p (pair k o i (Some w)) q n (inr in_it) e = paired_node (inside_start p o) i q n in_it e
paired_node p (stray k w) q n here e = ap all_paired here.node ∙ e
paired_node p (capped k w) q n here e = ap all_paired here.node ∙ e
paired_node p nothing q n here e = ap all_paired here.node ∙ e
paired_node p (two a b) q n (inl here) e = ap all_paired here.node ∙ e
paired_node p (two a b) q n (inr (inl in_a)) e = paired_node p a q n in_a (and_parts (all_paired a) (all_paired b) e).0
paired_node p (two a b) q n (inr (inr in_b)) e = paired_node _ b q n in_b (and_parts (all_paired a) (all_paired b) e).1
paired_node p (three a b c) q n (inl here) e = ap all_paired here.node ∙ e
paired_node p (three a b c) q n (inr (inl in_a)) e = paired_node p a q n in_a (and_parts (all_paired a) (all_paired b && all_paired c) e).0
paired_node p (three a b c) q n (inr (inr (inl in_b))) e =
    paired_node _ b q n in_b (and_parts (all_paired b) (all_paired c) (and_parts (all_paired a) (all_paired b && all_paired c) e).1).0
paired_node p (three a b c) q n (inr (inr (inr in_c))) e =
    paired_node _ c q n in_c (and_parts (all_paired b) (all_paired c) (and_parts (all_paired a) (all_paired b && all_paired c) e).1).1

here_nested : (p : Length) (t : Tree) (q : Length) (n : Tree) → IsHere p t q n → nesting n ≤ nesting t
here_nested p t q n h = let same : nesting n ≡ nesting t = ap nesting h.node in omega arith

-- no node is nested deeper than the tree that contains it
pub nesting_node : (p : Length) (t : Tree) (q : Length) (n : Tree) → HasNode p t q n → nesting n ≤ nesting t
nesting_node p (text l) q n here = here_nested p (text l) q n here
nesting_node p (pair k o i c) q n (inl here) = here_nested p (pair k o i c) q n here
nesting_node p (pair k o i c) q n (inr in_it) = omega (arith, nesting_node (inside_start p o) i q n in_it)
nesting_node p (stray k w) q n here = here_nested p (stray k w) q n here
nesting_node p (capped k w) q n here = here_nested p (capped k w) q n here
nesting_node p nothing q n here = here_nested p nothing q n here
nesting_node p (two a b) q n (inl here) = here_nested p (two a b) q n here
nesting_node p (two a b) q n (inr (inl in_a)) = omega (arith, nesting_node p a q n in_a)
nesting_node p (two a b) q n (inr (inr in_b)) = omega (arith, nesting_node _ b q n in_b)
nesting_node p (three a b c) q n (inl here) = here_nested p (three a b c) q n here
nesting_node p (three a b c) q n (inr (inl in_a)) = omega (arith, nesting_node p a q n in_a)
nesting_node p (three a b c) q n (inr (inr (inl in_b))) = omega (arith, nesting_node _ b q n in_b)
nesting_node p (three a b c) q n (inr (inr (inr in_c))) = omega (arith, nesting_node _ c q n in_c)

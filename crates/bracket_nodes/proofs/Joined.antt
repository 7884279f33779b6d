-- Appends one more list.
use Rattle.std.proofs.Common.{◌≡◌, ℕ, ◌+◌, true, List, [], ◌∷◌, ◌++◌, refl, ap, sym, ◌∙◌, arith, append_assoc}
use Rattle.std.proofs.lemmas.List.{append-nil}
use Rattle.bracket_tree_rules.specs.Tree.{Tree, text, pair, stray, capped, nothing, two, three, weight, items, is_nothing}
use Rattle.bracket_nodes.specs.declared.node.Link.{Link}
use Rattle.bracket_nodes.specs.declared.joiner.Joiner.{Joiner}
use Rattle.bracket_nodes.specs.Shapes.{link_tree}
use Rattle.bracket_nodes.specs.Lists.{Joins, JoinsThree}
use Rattle.bracket_nodes.specs.Joining.{linked_items, linked_weight, joined_items, joined_weight, Takes, IsSame}

pub linked_items_push : (lists : List Link) (list : Link)
    → linked_items (lists ++ list ∷ []) ≡ linked_items lists ++ items (link_tree list)
linked_items_push [] list = append-nil (items (link_tree list))
linked_items_push (first ∷ lists) list =
    ap (λ (x : List Tree). items (link_tree first) ++ x) (linked_items_push lists list)
    ∙ sym (append_assoc (items (link_tree first)) (linked_items lists) (items (link_tree list)))

pub linked_weight_push : (lists : List Link) (list : Link)
    → linked_weight (lists ++ list ∷ []) ≡ linked_weight lists + weight (link_tree list)
linked_weight_push [] list = omega arith
linked_weight_push (first ∷ lists) list = let rest = linked_weight_push lists list in omega arith

-- ---- the last list leaves, and is joined to the one after it

pub popped_items : (old new : List Link) (top : Link) → old ≡ new ++ top ∷ []
    → linked_items old ≡ linked_items new ++ items (link_tree top)
popped_items old new top h = ap linked_items h ∙ linked_items_push new top

pub popped_weight : (old new : List Link) (top : Link) → old ≡ new ++ top ∷ []
    → linked_weight old ≡ linked_weight new + weight (link_tree top)
popped_weight old new top h = ap linked_weight h ∙ linked_weight_push new top

-- an empty list
pub no_items : (t : Tree) → is_nothing t ≡ true → t ≡ nothing
no_items nothing h = refl
no_items (text l) h = cc
no_items (pair k o i c) h = cc
no_items (stray k w) h = cc
no_items (capped k w) h = cc
no_items (two a b) h = cc
no_items (three a b c) h = cc

-- ---- what a joiner has

-- a list is appended
pub Takes-put : (old new : Joiner) (list : Link) → new.lists.items ≡ old.lists.items ++ old.last ∷ [] → new.last ≡ list
    → Takes old (link_tree list) new
Takes-put old new list h k = record {
  in_order = rw (k, h) (ap (λ (x : List Tree). x ++ items (link_tree list)) (linked_items_push old.lists.items old.last));
  weighs = rw (k, h) (ap (λ (n : ℕ). n + weight (link_tree list)) (linked_weight_push old.lists.items old.last));
}

-- the last list is removed, if nothing was after the lists
pub Takes-popped : (old new : Joiner) (top : Link) → old.lists.items ≡ new.lists.items ++ top ∷ []
    → link_tree old.last ≡ nothing → link_tree new.last ≡ nothing → Takes new (link_tree top) old
Takes-popped old new top h e f = record {
  in_order = rw (e, f)
      (append-nil (linked_items old.lists.items) ∙ popped_items old.lists.items new.lists.items top h
      ∙ ap (λ (x : List Tree). x ++ items (link_tree top)) (sym (append-nil (linked_items new.lists.items))));
  weighs = rw (e, f) (let popped = popped_weight old.lists.items new.lists.items top h in omega arith);
}

-- the nodes `front` followed by those of the list are `all`, and the weights add up to w
pub record Holds (front : List Tree) (before : ℕ) (list : Tree) (all : List Tree) (w : ℕ) : Type 0 where
  pub in_order : front ++ items list ≡ all
  pub weighs : before + weight list ≡ w

-- the list before `list` is removed from the front and joined to it
pub Holds-joined : (old new : List Tree) (v w : ℕ) (top list both : Tree) (all : List Tree) (sum : ℕ)
    → old ≡ new ++ items top → v ≡ w + weight top → Joins top list both
    → old ++ items list ≡ all → v + weight list ≡ sum → Holds new w both all sum
Holds-joined old new v w top list both all sum h k j l m = record {
  in_order =
      ap (λ (x : List Tree). new ++ x) j.in_order
      ∙ sym (append_assoc new (items top) (items list))
      ∙ ap (λ (x : List Tree). x ++ items list) (sym h)
      ∙ l;
  weighs = let joined : weight both ≡ weight top + weight list = j.weighs in omega arith;
}

-- the same for two lists
pub Holds-joined_three : (old mid new : List Tree) (u v w : ℕ) (top before list all_three : Tree) (all : List Tree) (sum : ℕ)
    → old ≡ mid ++ items top → u ≡ v + weight top → mid ≡ new ++ items before → v ≡ w + weight before
    → JoinsThree before top list all_three
    → old ++ items list ≡ all → u + weight list ≡ sum → Holds new w all_three all sum
Holds-joined_three old mid new u v w top before list all_three all sum h k h2 k2 j l m =
    Holds-joined mid new v w before (two top list) all_three all sum h2 k2
    (record { in_order = j.in_order; weighs = j.weighs })
    (sym (append_assoc mid (items top) (items list)) ∙ ap (λ (x : List Tree). x ++ items list) (sym h) ∙ l)
    (omega arith)

-- ---- a node is pushed

-- the removed list is joined to the one after it
pub Holds-step : (old mid new : Joiner) (top list both : Tree) (all : List Tree) (sum : ℕ)
    → Takes mid top old → IsSame mid new → Joins top list both
    → joined_items old ++ items list ≡ all → joined_weight old + weight list ≡ sum
    → Holds (joined_items new) (joined_weight new) both all sum
Holds-step old mid new top list both all sum t s j k l =
    Holds-joined (joined_items old) (joined_items new) (joined_weight old) (joined_weight new) top list both all sum
    (t.in_order ∙ ap (λ (x : List Tree). x ++ items top) (sym s.in_order)) (omega (arith, t.weighs, s.weighs)) j k l

pub Holds-step_three : (old mid new : Joiner) (top before list all_three : Tree) (all : List Tree) (sum : ℕ)
    → Takes mid top old → Takes new before mid → JoinsThree before top list all_three
    → joined_items old ++ items list ≡ all → joined_weight old + weight list ≡ sum
    → Holds (joined_items new) (joined_weight new) all_three all sum
Holds-step_three old mid new top before list all_three all sum t s j k l =
    Holds-joined_three (joined_items old) (joined_items mid) (joined_items new) (joined_weight old) (joined_weight mid) (joined_weight new)
    top before list all_three all sum t.in_order t.weighs s.in_order s.weighs j k l

-- the list is appended to those that are left
pub Takes-last : (start old new : Joiner) (list node : Tree) → Takes old list new
    → joined_items old ++ items list ≡ joined_items start ++ items node → joined_weight old + weight list ≡ joined_weight start + weight node
    → Takes start node new
Takes-last start old new list node t h k = record { in_order = t.in_order ∙ h; weighs = t.weighs ∙ k }

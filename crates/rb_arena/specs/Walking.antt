-- A walk over the items of a tree: the items left and the steps it may still take.
use Rattle.std.specs.Prelude.{◌≡◌, ℕ, ◌+◌, ◌-◌, ◌≤◌, ◌==◌, cond, List, [], ◌∷◌, Option, Some, None, IfSome, refl}
use Rattle.std.specs.Coded.{Coded, code_by, coded×, coded_list, coded_ℕ}
use Rattle.rb_rules.specs.declared.slot.Data.{Data}
use Rattle.rb_rules.specs.declared.slot.Side.{Side}
use Rattle.rb_rules.specs.declared.slot.Side.TheVariants.{Left, Right}
use Rattle.rb_rules.specs.declared.weave.Weave.{Ghosts}
use Rattle.rb_rules.specs.Tree.{Tree, tip, fork, count, height}
use Rattle.rb_rules.specs.Weaving.{Weaving}
use Rattle.rb_arena.specs.declared.links.Links.{Links}
use Rattle.rb_arena.specs.RbTree.{grown, items_in, IsItem, AtItem, Kept}

pub record Walked (X : Type 0) : Type 0 where
  -- the items that the walk has not returned yet, each with its name
  pub left : List (ℕ × X)
  -- the number of steps that the walk may still take beyond three for each item left
  pub due : ℕ

module _ {X : Type 0} where
  abbrev pub walked_code : Coded X → Coded (Walked X)
  walked_code c =
      code_by (List (ℕ × X) × ℕ) (coded× (coded_list (coded× coded_ℕ c)) coded_ℕ)
      (λ a. (a.left, a.due)) (λ p. record { left = p.0; due = p.1 }) (λ _. refl)

  -- `left` are the items from the one with that name on; for None, no items
  abbrev pub LeftFrom : List (ℕ × X) → Option ℕ → List (ℕ × X) → Type 0
  LeftFrom items None left = left ≡ []
  LeftFrom items (Some id) left = AtItem items id (λ us x vs. left ≡ (id, x) ∷ vs)

  -- the first item of the old list was returned, in relative form, and the others are left
  abbrev pub TellsFirst : {S B : Type 0} → Weaving X S B → List (ℕ × X) → List (ℕ × X) → ℕ × X → Type 0
  TellsFirst {S} {B} w old new told = (by : B) × (old ≡ (told.0, w.shift by told.1) ∷ new)

  abbrev pub items_from : List (ℕ × X) → ℕ → List (ℕ × X)
  items_from [] id = []
  items_from (e ∷ es) id = cond (id == e.0) (e ∷ es) (items_from es id)

-- 1 if the sides are equal, 0 otherwise
abbrev pub one_on : Side → Side → ℕ
one_on Left Left = 1
one_on Left Right = 0
one_on Right Left = 0
one_on Right Right = 1

module _ {D : Type 0} where
  -- the number of ancestors of the node that have it on that side
  abbrev pub turns : Side → ℕ → Tree D → ℕ
  turns side id tip = 0
  turns side id (fork c i d x y) =
      cond (id == i) 0 (cond (count id x == 0) (one_on side Right + turns side id y) (one_on side Left + turns side id x))

  -- The steps that a walk from that node may take beyond three for each item: the longest path, plus one for each ancestor that has it on
  -- its right, minus one for each that has it on its left.
  abbrev pub due_at : Tree D → Option ℕ → ℕ
  due_at t None = 0
  due_at t (Some id) = (height t + turns Right id t) - turns Left id t

-- The value of a walk at that node, or at its end. Proofs unfold this explicitly.
unfoldable pub walked_of : {X S B : Type 0} → Weaving X S B → Links (Data X S B) → Option ℕ → Walked X
walked_of w links at = record {
  left = elim at [ None ↦ [] | Some id ↦ items_from (items_in w links.nodes.live links.root) id ];
  due = due_at (grown links.nodes.live 128 links.root) at;
}

-- The links are those of a kept tree, and the node is in it. Proofs unfold this explicitly.
unfoldable pub Walks : {W X S B K : Type 0} → Ghosts W X S B K → Links (Data X S B) → Option ℕ → Type 0
Walks {B} w links at =
    (reach : B) × ((front : Option ℕ) × Kept w reach links front × IfSome at (IsItem (items_in w.weaving links.nodes.live links.root)))

-- the steps of calls in turn, each with what is due after it
abbrev pub AreCalls : ℕ → List (ℕ × ℕ) → Type 0
AreCalls due [] = Unit {0}
AreCalls due (c ∷ cs) = (c.0 + c.1 ≤ due + 3) × AreCalls c.1 cs

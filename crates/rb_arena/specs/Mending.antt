-- The position of a red node relative to its parent, grandparent and uncle.
use Rattle.std.specs.Prelude.{◌≡◌, ℕ, true, false, cond, Option, Some, None, IfSome}
use Rattle.std.specs.Ordering.{nat_cmp}
use Rattle.std.specs.FinMap as map
use Rattle.rb_rules.specs.declared.slot.Side.{Side}
use Rattle.rb_rules.specs.declared.slot.Side.TheVariants.{Left, Right}
use Rattle.rb_rules.specs.declared.slot.Slot.{Slot}
use Rattle.rb_rules.specs.Tree.{Tree, tip, fork, Hole, top, on}
use Rattle.rb_rules.specs.Memory.{child}
use Rattle.rb_arena.specs.declared.mend.Case.{Case}
use Rattle.rb_arena.specs.declared.mend.Case.TheVariants.{Settled, RedRoot, RedUncle, Outer, Inner}

-- the case by the sides of the node and of its parent, with a red parent and no red uncle
abbrev pub bent : Side → Side → ℕ → ℕ → Case
bent Left Left p g = Outer g Left
bent Right Right p g = Outer g Right
bent Left Right p g = Inner p Left g
bent Right Left p g = Inner p Right g

module _ {D : Type 0} where
  abbrev pub by_uncle : Side → ℕ → Side → ℕ → Tree D → Case
  by_uncle s p s2 g tip = bent s s2 p g
  by_uncle s p s2 g (fork true u d x y) = RedUncle p u g
  by_uncle s p s2 g (fork false u d x y) = bent s s2 p g

  abbrev pub by_grandparent : Side → ℕ → Hole D → Case
  by_grandparent s p top = RedRoot p
  by_grandparent s p (on s2 c g d u k) = by_uncle s p s2 g u

  abbrev pub case_of : Hole D → Case
  case_of top = Settled
  case_of (on s false p d x k) = Settled
  case_of (on s true p d x k) = by_grandparent s p k

  module _ (m : map.FinMap nat_cmp (Slot D)) where
    abbrev pub red_in : Option ℕ → Option ℕ
    red_in None = None
    red_in (Some i) = elim (map.get m i) [ None ↦ None | Some s ↦ cond s.red (Some i) None ]

    -- the red child of a node on that side
    abbrev pub red_child_in : ℕ → Side → Option ℕ
    red_child_in i side = elim (map.get m i) [ None ↦ None | Some s ↦ red_in (child side s) ]

    -- the node is live, and so is its child on that side, if any
    abbrev pub HasChild : ℕ → Side → Type 0
    HasChild i side = (s : Slot D) × (map.get m i ≡ Some s) × IfSome (child side s) (λ j. (n : Slot D) × (map.get m j ≡ Some n))

-- Rewriting of the items of a subtree in memory.
use Rattle.std.specs.Prelude.{◌≡◌, ℕ, List, Option}
use Rattle.rb_rules.specs.declared.slot.Data.{Data}
use Rattle.rb_rules.specs.declared.weave.Weave.{Ghosts}
use Rattle.rb_rules.specs.Memory.{Made}
use Rattle.rb_rules.specs.Rewriting.{rewritten_all, onward_all}
use Rattle.rb_rules.specs.Shape.{each}
use Rattle.rb_rules.specs.Tree.{Tree, Hole, plug}
use Rattle.rb_rules.specs.Woven.{entries, Woven, Valued, whole_at}
use Rattle.rb_arena.specs.declared.links.Links.{Links}
use Rattle.rb_arena.specs.Shifting.{CanLevel}

module _ {W X S B K V : Type 0} (w : Ghosts W X S B K) (rewritten : V → X → X) (onward : V → X → V) where
  -- the rewritten items of a tree; acc is the sum of the shifts on the path above it
  abbrev pub rewritten_of : V → B → Tree (Data X S B) → List (ℕ × X)
  rewritten_of v acc t = rewritten_all rewritten onward v (entries w.weaving acc t)

  module _ (beside : Tree (Data X S B)) (tree : Links (Data X S B)) where
    -- a subtree t of values with a height of at most n hangs at the name `at`, and its rewritten items are values
    abbrev pub CanRewrite : V → Option ℕ → B → ℕ → Hole (Data X S B) → Tree (Data X S B) → Type 0
    CanRewrite v at acc n k t =
        CanLevel w.weaving w.is_near w.is_item w.is_value beside tree.nodes.live tree.root at acc n k t
        × Valued w.weaving w.is_item w.is_value (rewritten_of v acc t)

    -- The hole holds a subtree with the colours and names of t, the rewritten items and the right sums. Any reach that contained the
    -- shifts of t contains its shifts.
    pub record Rewrote (v after : V) (acc : B) (k : Hole (Data X S B)) (t : Tree (Data X S B)) (whole : S) : Type 0 where
      pub subtree : Tree (Data X S B)
      pub made : Made beside tree.nodes.live tree.root (plug k subtree)
      pub alike : each (λ d. tt {0}) subtree ≡ each (λ d. tt {0}) t
      pub items : entries w.weaving acc subtree ≡ rewritten_of v acc t
      pub woven : Woven w.weaving w.is_near acc subtree
      pub within : (reach : B) → Woven w.weaving (w.within reach) acc t → Woven w.weaving (w.within reach) acc subtree
      pub sum : whole ≡ whole_at w.weaving subtree
      pub onwards : after ≡ onward_all rewritten onward v (entries w.weaving acc t)

  -- such a subtree hangs there
  unfoldable pub CanRewriteAt : Links (Data X S B) → V → Option ℕ → B → ℕ → Type 0
  CanRewriteAt tree v at acc n =
      (beside : Tree (Data X S B)) × ((t : Tree (Data X S B)) × ((k : Hole (Data X S B)) × CanRewrite beside tree v at acc n k t))

  -- the items of any such subtree are rewritten; all else is unchanged
  unfoldable pub RewritesAt : Links (Data X S B) → V → Links (Data X S B) → V → Option ℕ → B → ℕ → S → Type 0
  RewritesAt old v new after at acc n sum =
      (beside t : Tree (Data X S B)) (k : Hole (Data X S B)) → CanRewrite beside old v at acc n k t → Rewrote beside new v after acc k t sum

-- Numbers in a tree, which are relative to a path, and conditions for computing with them.
use Rattle.std.specs.Prelude.{◌≡◌, ℕ, Option}
use Rattle.rb_rules.specs.declared.slot.Data.{Data}
use Rattle.rb_rules.specs.declared.slot.Side.{Side}
use Rattle.rb_rules.specs.declared.weave.Weave.{Ghosts}
use Rattle.rb_rules.specs.Tree.{Tree}
use Rattle.rb_rules.specs.Memory.{AtSpot}
use Rattle.rb_rules.specs.Weaving.{Weaving, Lawful, Sums, Widens, HeldItem, HeldSum, HeldBy, CanSumUp, CanTurn, lowered, raised, summed}
use Rattle.rb_rules.specs.Sound.{CanTurnAt, TurnedAt, CanRenew, IsSlack, RenewedFrom, renewed}
use Rattle.rb_arena.specs.declared.links.Links.{Links}
use Rattle.rb_arena.specs.Nodes.{Rewritten}

-- the sum of the items before a node, from that of the items before its subtree
abbrev pub before_node : {X S B : Type 0} → Weaving X S B → B → S → Data X S B → S
before_node w by before datum = w.join before (w.shift_sum by datum.before)

-- The laws of a weave, for functions that pass them on to lemmas.
pub record LawsOf {W X S B K : Type 0} (w : Ghosts W X S B K) : Type 0 where
  pub laws : Lawful w.weaving
  pub sums : Sums w.weaving w.is_item w.is_sum
  pub within_near : (reach by : B) → w.within reach by → w.is_near by
  pub starts_within : w.within w.weaving.still w.weaving.still
  pub widens : Widens w.weaving w.within w.widened
  pub parts : (a b : S) → w.is_value (w.weaving.join a b) → w.is_value a × w.is_value b
  pub thins : (a b c : S) → w.is_value (w.weaving.join a (w.weaving.join b c)) → w.is_value (w.weaving.join a c)

module _ {W X S B K : Type 0} (w : Ghosts W X S B K) where
  -- the item is the relative form of a value: some shift that a path may have makes a value of it
  abbrev pub RelativeItem : X → Type 0
  RelativeItem item = HeldItem w.weaving w.is_near w.is_item item

  abbrev pub RelativeSum : S → Type 0
  RelativeSum sum = HeldSum w.weaving w.is_near w.is_sum w.is_value sum

  -- the shift is the difference of two shifts that a path may have
  abbrev pub RelativeBy : B → Type 0
  RelativeBy by = HeldBy w.weaving w.is_near by

  -- each intermediate result for a node's data, over subtrees with those sums, is relative
  unfoldable pub CanSumOver : X → B → S → S → Type 0
  CanSumOver item delta left right = CanSumUp w.weaving w.is_near w.is_item w.is_sum w.is_value item delta left right

  -- `datum` is the node's data over those subtrees
  unfoldable pub IsSummed : X → B → S → S → Data X S B → Type 0
  IsSummed item delta left right datum = datum ≡ summed w.weaving item delta left right

  -- each intermediate result for the data of a node and its child after a rotation is relative
  unfoldable pub CanTurnOver : Side → Data X S B → Data X S B → S → S → Type 0
  CanTurnOver side upper lower mid far = CanTurn w.weaving w.is_near w.is_item w.is_sum w.is_value side upper lower mid far

  -- `low` is the node's data after a rotation, `high` that of its child
  unfoldable pub IsLowered : Side → Data X S B → Data X S B → S → S → Data X S B → Type 0
  IsLowered side upper lower mid far low = low ≡ lowered w.weaving side upper lower mid far

  unfoldable pub IsRaised : Side → Data X S B → Data X S B → S → S → Data X S B → Type 0
  IsRaised side upper lower mid far high = high ≡ raised w.weaving side upper lower mid far

  -- the node has a child on that side, in a tree of values
  unfoldable pub CanTurnNode : Links (Data X S B) → ℕ → Side → Type 0
  CanTurnNode tree id side = LawsOf w × CanTurnAt w.weaving w.is_near w.is_item w.is_value tree.nodes.live tree.root id side

  -- the tree is rotated at the node, wherever it was, and lists the same items
  unfoldable pub Turns : Links (Data X S B) → Links (Data X S B) → ℕ → Side → Type 0
  Turns old new id side =
      AtSpot old.nodes.live old.root id (λ s. (reach : B) → TurnedAt w.weaving (w.within reach) new.nodes.live new.root id side s)

  -- the subtrees of the node keep the right sums, and its items are values
  unfoldable pub CanRenewNode : Links (Data X S B) → ℕ → Type 0
  CanRenewNode tree id = LawsOf w × CanRenew w.weaving w.is_near w.is_item w.is_value tree.nodes.live tree.root id

  -- the node's sums are those of its subtrees, wherever it was; all else is unchanged
  unfoldable pub Renews : Links (Data X S B) → Links (Data X S B) → ℕ → Type 0
  Renews old new id = Rewritten old new id (renewed w.weaving)

  -- the tree has the right sums except in the node `from` and its ancestors, at most n nodes
  unfoldable pub IsSlackFrom : Links (Data X S B) → Option ℕ → ℕ → Type 0
  IsSlackFrom tree from n =
      (reach : B) × ((beside : Tree (Data X S B)) × ((t : Tree (Data X S B))
      × IsSlack w.weaving (w.within reach) w.is_item w.is_value beside tree.nodes.live tree.root from n t))

  -- any such tree has the right sums now and is otherwise unchanged
  unfoldable pub RenewsFrom : Links (Data X S B) → Links (Data X S B) → Option ℕ → ℕ → Type 0
  RenewsFrom old new from n =
      (reach : B) (beside t : Tree (Data X S B))
      → IsSlack w.weaving (w.within reach) w.is_item w.is_value beside old.nodes.live old.root from n t
      → RenewedFrom w.weaving (w.within reach) beside new.nodes.live new.root t

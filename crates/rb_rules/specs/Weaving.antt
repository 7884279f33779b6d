-- The sums and shifts in the nodes of a tree, and their computation.
use Rattle.std.specs.Prelude.{◌≡◌, Option, Some}
use Rattle.rb_rules.specs.declared.slot.Data.{Data}
use Rattle.rb_rules.specs.declared.slot.Side.{Side}
use Rattle.rb_rules.specs.declared.slot.Side.TheVariants.{Left, Right}

-- operations on items X, sums S of items, and shifts B of both
pub record Weaving (X S B : Type 0) : Type 0 where
  pub none : S
  pub one : X → S
  pub join : S → S → S
  pub still : B
  pub plus : B → B → B
  pub minus : B → B → B
  pub shift : B → X → X
  pub shift_sum : B → S → S

-- sums are those of lists, and shifts act on items and on sums
pub record Lawful {X S B : Type 0} (w : Weaving X S B) : Type 0 where
  pub join_none : (a : S) → w.join a w.none ≡ a
  pub none_join : (a : S) → w.join w.none a ≡ a
  pub join_assoc : (a b c : S) → w.join (w.join a b) c ≡ w.join a (w.join b c)
  pub plus_still : (a : B) → w.plus a w.still ≡ a
  pub plus_comm : (a b : B) → w.plus a b ≡ w.plus b a
  pub plus_assoc : (a b c : B) → w.plus (w.plus a b) c ≡ w.plus a (w.plus b c)
  pub plus_minus : (a b : B) → w.plus b (w.minus a b) ≡ a
  pub shift_still : (x : X) → w.shift w.still x ≡ x
  pub shift_plus : (a b : B) (x : X) → w.shift (w.plus a b) x ≡ w.shift a (w.shift b x)
  pub shift_sum_still : (s : S) → w.shift_sum w.still s ≡ s
  pub shift_sum_plus : (a b : B) (s : S) → w.shift_sum (w.plus a b) s ≡ w.shift_sum a (w.shift_sum b s)
  pub shift_none : (a : B) → w.shift_sum a w.none ≡ w.none
  pub shift_join : (a : B) (s t : S) → w.shift_sum a (w.join s t) ≡ w.join (w.shift_sum a s) (w.shift_sum a t)
  pub shift_one : (a : B) (x : X) → w.shift_sum a (w.one x) ≡ w.one (w.shift a x)

module _ {X S B : Type 0} (w : Weaving X S B) where
  -- a node's data over subtrees whose roots keep the sums l and r
  abbrev pub summed : X → B → S → S → Data X S B
  summed item delta l r = record { item = item; delta = delta; before = l; whole = w.join l (w.join (w.one item) (w.shift_sum delta r)) }

  -- A rotation at a node with the data n, whose child on that side has the data c: the child comes above the node. `mid` is the sum of
  -- the subtree that moves from the child to the node, `far` that of the node's subtree on the other side.
  abbrev pub lowered : Side → Data X S B → Data X S B → S → S → Data X S B
  lowered Left n c mid far = summed (w.shift (w.minus w.still c.delta) n.item) (w.minus n.delta c.delta) mid far
  lowered Right n c mid far = summed n.item n.delta far mid

  abbrev pub raised : Side → Data X S B → Data X S B → S → S → Data X S B
  raised Left n c mid far = record { item = c.item; delta = c.delta; before = c.before; whole = n.whole }
  raised Right n c mid far = record {
    item = w.shift n.delta c.item;
    delta = w.plus n.delta c.delta;
    before = (lowered Right n c mid far).whole;
    whole = n.whole;
  }

module _ {X S B : Type 0} (w : Weaving X S B) (is_near : B → Type 0) where
  -- A tree keeps numbers relative to a path. A computed number must be the relative form of a value: some shift that a path may have
  -- makes a value of it.
  abbrev pub HeldItem : (X → Type 0) → X → Type 0
  HeldItem is_item x = (acc : B) × is_near acc × is_item (w.shift acc x)

  abbrev pub HeldSum : (S → Type 0) → (S → Type 0) → S → Type 0
  HeldSum is_sum is_value s = (acc : B) × is_near acc × is_sum (w.shift_sum acc s) × is_value (w.shift_sum acc s)

  -- the shift is the difference of two shifts that a path may have
  abbrev pub HeldBy : B → Type 0
  HeldBy b = (acc : B) × is_near acc × is_near (w.plus acc b)

-- a property of all sums of items
pub record Sums {X S B : Type 0} (w : Weaving X S B) (is_item : X → Type 0) (is_sum : S → Type 0) : Type 0 where
  pub of_none : is_sum w.none
  pub of_one : (x : X) → is_item x → is_sum (w.one x)
  pub of_join : (a b : S) → is_sum a → is_sum b → is_sum (w.join a b)

module _ {X S B : Type 0} (w : Weaving X S B) (is_near : B → Type 0) (is_item : X → Type 0) (is_sum is_value : S → Type 0) where
  -- each intermediate result of `summed` is the relative form of a value
  abbrev pub CanSum : X → B → S → Type 0
  CanSum item delta r =
      HeldSum w is_near is_sum is_value (w.shift_sum delta r)
      × HeldSum w is_near is_sum is_value (w.join (w.one item) (w.shift_sum delta r))

  abbrev pub CanSumUp : X → B → S → S → Type 0
  CanSumUp item delta l r = CanSum item delta r × HeldSum w is_near is_sum is_value (w.join l (w.join (w.one item) (w.shift_sum delta r)))

  -- the same for `lowered` and `raised`
  abbrev pub CanTurn : Side → Data X S B → Data X S B → S → S → Type 0
  CanTurn Left n c mid far =
      HeldBy w is_near (w.minus w.still c.delta) × HeldItem w is_near is_item (w.shift (w.minus w.still c.delta) n.item)
      × HeldBy w is_near (w.minus n.delta c.delta) × CanSumUp (w.shift (w.minus w.still c.delta) n.item) (w.minus n.delta c.delta) mid far
  CanTurn Right n c mid far =
      CanSumUp n.item n.delta far mid × HeldItem w is_near is_item (w.shift n.delta c.item) × HeldBy w is_near (w.plus n.delta c.delta)

-- a widened reach contains the shifts within the old reach, both unchanged and moved by the shift
abbrev pub Widens : {X S B : Type 0} → Weaving X S B → (B → B → Type 0) → (B → B → Option B) → Type 0
Widens {X} {S} {B} w within widened =
    (reach by wider b : B) → widened reach by ≡ Some wider → within reach b → within wider b × within wider (w.plus by b)

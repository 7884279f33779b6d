-- Facts for shifts that satisfy one condition hold for those of a weaker condition.
use Rattle.std.proofs.Common.{ℕ, Option}
use Rattle.std.specs.Ordering.{nat_cmp}
use Rattle.std.specs.FinMap as map
use Rattle.rb_rules.specs.declared.slot.Data.{Data}
use Rattle.rb_rules.specs.declared.slot.Side.{Side}
use Rattle.rb_rules.specs.declared.slot.Slot.{Slot}
use Rattle.rb_rules.specs.Tree.{Tree, tip, fork, plug}
use Rattle.rb_rules.specs.Memory.{here}
use Rattle.rb_rules.specs.Weaving.{Weaving}
use Rattle.rb_rules.specs.Woven.{Woven, shift_at}
use Rattle.rb_rules.specs.Sound.{CanTurnAt, CanRenew}

module _ {X S B : Type 0} (w : Weaving X S B) (is_near is_wide : B → Type 0) (wider : (b : B) → is_near b → is_wide b) where
  pub woven_wider : (acc : B) (t : Tree (Data X S B)) → Woven w is_near acc t → Woven w is_wide acc t
  woven_wider acc tip h = wider acc h
  woven_wider acc (fork c i d x y) (a, b, l, r) = (a, b, woven_wider acc x l, woven_wider (w.plus acc d.delta) y r)

  module _ (is_item : X → Type 0) (is_value : S → Type 0) (m : map.FinMap nat_cmp (Slot (Data X S B))) (root : Option ℕ) (i : ℕ) where
    pub can_turn_wider : (side : Side) → CanTurnAt w is_near is_item is_value m root i side → CanTurnAt w is_wide is_item is_value m root i side
    can_turn_wider side (s, made, some, wv, v) = (s, made, some, woven_wider w.still (plug s.hole (here s i)) wv, v)

    pub can_renew_wider : CanRenew w is_near is_item is_value m root i → CanRenew w is_wide is_item is_value m root i
    can_renew_wider (s, made, l, r, v) = (s, made, woven_wider (shift_at w s.hole) s.left l, woven_wider (w.plus (shift_at w s.hole) s.datum.delta) s.right r, v)

-- Items moved by a shift, and trees with a shift added or with all shifts applied.
use Rattle.std.specs.Prelude.{ℕ, List, map}
use Rattle.rb_rules.specs.declared.slot.Data.{Data}
use Rattle.rb_rules.specs.declared.slot.Side.TheVariants.{Left, Right}
use Rattle.rb_rules.specs.Tree.{Tree, tip, fork, Hole, top, on}
use Rattle.rb_rules.specs.Weaving.{Weaving}

module _ {X S B : Type 0} (w : Weaving X S B) where
  -- each item moved by the shift
  abbrev pub shifted : B → List (ℕ × X) → List (ℕ × X)
  shifted by es = map (λ e. (e.0, w.shift by e.1)) es

  -- the data of a node with its item and its whole right subtree moved; its sums are unchanged
  abbrev pub moved_datum : B → Data X S B → Data X S B
  moved_datum by d = record { item = w.shift by d.item; delta = w.plus by d.delta; before = d.before; whole = d.whole }

  -- the hole with each item after it moved
  abbrev pub moved : B → Hole (Data X S B) → Hole (Data X S B)
  moved by top = top
  moved by (on Left c i d x k) = on Left c i (moved_datum by d) x (moved by k)
  moved by (on Right c i d x k) = on Right c i d x (moved by k)

  -- the data of a node with the shift acc of its path applied, and without a shift for its right subtree
  abbrev pub level_datum : B → Data X S B → Data X S B
  level_datum acc d = record {
    item = w.shift acc d.item;
    delta = w.still;
    before = w.shift_sum acc d.before;
    whole = w.shift_sum acc d.whole;
  }

  -- the tree with all shifts applied; acc is the sum of the shifts on the path above it
  abbrev pub levelled : B → Tree (Data X S B) → Tree (Data X S B)
  levelled acc tip = tip
  levelled acc (fork c i d x y) = fork c i (level_datum acc d) (levelled acc x) (levelled (w.plus acc d.delta) y)

-- Trees with part of their data forgotten.
use Rattle.rb_rules.specs.declared.slot.Data.{Data}
use Rattle.rb_rules.specs.Tree.{Tree, tip, fork}

abbrev pub each : {D E : Type 0} → (D → E) → Tree D → Tree E
each f tip = tip
each f (fork c i d x y) = fork c i (f d) (each f x) (each f y)

-- the colours, the names, the items and the shifts of a tree, without its sums
abbrev pub shape : {X S B : Type 0} → Tree (Data X S B) → Tree (X × B)
shape t = each (λ d. (d.item, d.delta)) t

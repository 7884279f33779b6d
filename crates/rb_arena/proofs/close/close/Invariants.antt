use Rattle.std.proofs.Common.{ℕ, ◌-◌, List}
use Rattle.rb_rules.specs.declared.slot.Data.{Data}
use Rattle.rb_rules.specs.Tree.{Tree}
use Rattle.rb_rules.specs.Woven.{Valued}
use Rattle.rb_arena.specs.Closing.{Closing}
use Rattle.rb_arena.specs.Nodes.{KeepsCount}
use Rattle.rb_arena.proofs.close.close.Given as goal

abbrev pub invariant-loop-turn : goal.invariant-loop-turn
invariant-loop-turn g l =
    let t = g.W.Weave in
    ((reach : g.row.W-By.Denot) (beside : Tree (Data g.row.W-Item.Denot g.row.W-Sum.Denot g.row.W-By.Denot)) (es : List (ℕ × g.row.W-Item.Denot)) → Closing t.weaving (t.within reach) beside l.initial.tree.nodes.live l.initial.tree.root es l.initial.at 129 → Valued t.weaving t.is_item t.is_value es
    → Closing t.weaving (t.within reach) beside l.tree.nodes.live l.tree.root es l.at (129 - l._turn))
    × KeepsCount l.initial.tree.nodes l.tree.nodes

use Rattle.std.proofs.Common.{◌≡◌, ◌+◌, ◌≤◌}
use Rattle.rb_rules.specs.declared.slot.Data.{Data}
use Rattle.rb_rules.specs.Tree.{plug, height, depth}
use Rattle.rb_rules.specs.Memory.{Made, Spot, here}
use Rattle.rb_rules.specs.Woven.{Woven}
use Rattle.rb_arena.specs.Searching.{items_after}
use Rattle.rb_arena.proofs.Climbing.{Climb}
use Rattle.rb_arena.proofs.descend.climb.Given as goal

abbrev pub invariant-loop-turn : goal.invariant-loop-turn
invariant-loop-turn g l =
    let t = g.W.Weave in let m = l.fn.tree.nodes.live in let root = l.fn.tree.root in
    ((s : Spot (Data g.row.W-Item.Denot g.row.W-Sum.Denot g.row.W-By.Denot)) → Made s.beside m root (plug s.hole (here s l.fn.id)) → Woven t.weaving t.is_near t.weaving.still (plug s.hole (here s l.fn.id))
    → height (plug s.hole (here s l.fn.id)) ≤ 126
    → Climb t.weaving t.turn l.fn.key (plug s.hole (here s l.fn.id)) (items_after t.weaving s) (depth s.hole) l.at l.by l.standing l._turn)
    × (l.steps ≡ l.initial.steps + l._turn) × (l.key ≡ l.initial.key)

use Rattle.std.proofs.Common.{◌≡◌, ℕ, List, ◌-◌, ◌+◌, ◌≤◌}
use Rattle.rb_rules.specs.declared.slot.Data.{Data}
use Rattle.rb_rules.specs.Tree.{Tree, height}
use Rattle.rb_rules.specs.Memory.{Made}
use Rattle.rb_rules.specs.Woven.{Woven}
use Rattle.rb_arena.specs.Searching.{StandsIn}
use Rattle.rb_arena.proofs.Searches.{Walk}
use Rattle.rb_arena.proofs.descend.go_down.Given as goal

abbrev pub invariant-loop-turn : goal.invariant-loop-turn
invariant-loop-turn g l =
    let t = g.W.Weave in
    ((beside whole : Tree (Data g.row.W-Item.Denot g.row.W-Sum.Denot g.row.W-By.Denot)) → Made beside l.initial.tree.nodes.live l.initial.tree.root whole → Woven t.weaving t.is_near t.weaving.still whole → height whole ≤ 126
    → (items : List (ℕ × g.row.W-Item.Denot)) → StandsIn t.weaving t.turn l.key whole items l.initial.standing
    → Walk t.weaving g.met.W.Weave.laws t.is_near t.turn l.key whole items l.standing l._turn (128 - l._turn)) × (l.steps ≡ l.initial.steps + l._turn) × (l.key ≡ l.initial.key)

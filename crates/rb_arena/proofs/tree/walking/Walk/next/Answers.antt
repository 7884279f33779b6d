use Rattle.rb_arena.proofs.Walking.{walk_lives, walk_tells}
use Rattle.rb_arena.proofs.tree.walking.Walk.next.Goals as goal

pub visit-slot-requires : goal.visit-slot-requires
visit-slot-requires g c = let a = c.self.inside in walk_lives g.W.Weave a.links.now a.at c.in_ok-id.id c.in_ok-id.was c.self.invariant

pub returns-clause-item : goal.returns-clause-item
returns-clause-item g c =
    let a = c.self.inside in
    walk_tells g.W.Weave a.links.now a.at c.in_ok-id.id c.in_ok-id.was c.beside_of-self-inside.result c.args.self.now c.visit-slot.result c.self.invariant c.self.view_is c.visit-slot.ensures.value c.beside_of-self-inside.ensures.beside

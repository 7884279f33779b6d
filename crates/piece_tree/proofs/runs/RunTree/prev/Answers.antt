use Rattle.std.proofs.Common.{None, ap, ◌∙◌}
use Rattle.rb_arena.specs.RbTree.{last_or}
use Rattle.piece_tree.proofs.Storing.{named, standing, last_shown}
use Rattle.piece_tree.proofs.runs.RunTree.prev.Goals as goal

pub prev-requires : goal.prev-requires
prev-requires c = named c.self.inside.tree c.self.inside.stored c.args.self.now c.self.view_is c.args.id c.requires

pub returns : goal.returns
returns c = λ us x vs e.
    let s = standing c.self.inside.tree c.self.inside.stored c.args.self.now c.self.view_is c.args.id us x vs e in
    c.prev.ensures s.before s.here s.after s.place ∙ last_shown c.self.inside.stored None s.before ∙ ap (last_or None) s.befores

use Rattle.std.proofs.Common.{None, ap, ◌∙◌}
use Rattle.rb_arena.specs.RbTree.{first_or}
use Rattle.piece_tree.proofs.Storing.{named, standing, first_shown}
use Rattle.piece_tree.proofs.runs.RunTree.next.Goals as goal

pub next-requires : goal.next-requires
next-requires c = named c.self.inside.tree c.self.inside.stored c.args.self.now c.self.view_is c.args.id c.requires

pub returns : goal.returns
returns c = λ us x vs e.
    let s = standing c.self.inside.tree c.self.inside.stored c.args.self.now c.self.view_is c.args.id us x vs e in
    c.next.ensures s.before s.here s.after s.place ∙ first_shown c.self.inside.stored None s.after ∙ ap (first_or None) s.afters

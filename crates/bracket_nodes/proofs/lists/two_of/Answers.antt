use Rattle.bracket_nodes.specs.Shapes.{link_tree}
use Rattle.bracket_nodes.proofs.KeptLemmas.{Keeps-two}
use Rattle.bracket_nodes.proofs.lists.two_of.Goals as goal

pub invariant_of-new : goal.invariant_of-new
invariant_of-new c =
    rw c.both-kept.ensures
    (Keeps-two (link_tree c.args.a) (link_tree c.args.b) c.kept-first.result c.kept-second.result
    c.kept-first.ensures.keeps c.kept-second.ensures.keeps c.requires.even c.requires.fits)

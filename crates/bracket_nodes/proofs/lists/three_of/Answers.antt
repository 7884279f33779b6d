use Rattle.bracket_nodes.specs.Shapes.{link_tree}
use Rattle.bracket_nodes.proofs.KeptLemmas.{Keeps-three}
use Rattle.bracket_nodes.proofs.lists.three_of.Goals as goal

pub invariant_of-new : goal.invariant_of-new
invariant_of-new c =
    rw (c.both-kept.ensures, c.both-rest.ensures)
    (Keeps-three (link_tree c.args.a) (link_tree c.args.b) (link_tree c.args.c) c.kept-first.result c.kept.result c.kept-2.result
    c.kept-first.ensures.keeps c.kept.ensures.keeps c.kept-2.ensures.keeps
    c.requires.first c.requires.second c.requires.fits)

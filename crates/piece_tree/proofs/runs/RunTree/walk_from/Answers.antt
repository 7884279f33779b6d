use Rattle.piece_tree.proofs.FullRuns.{full_shown}
use Rattle.piece_tree.proofs.Storing.{named_if, walk_stored, walk_shown}
use Rattle.piece_tree.proofs.runs.RunTree.walk_from.Goals as goal

pub walk_from-requires : goal.walk_from-requires
walk_from-requires c = named_if c.self.inside.tree c.self.inside.stored c.args.self.now c.self.view_is c.args.id c.requires

pub invariant_of-result : goal.invariant_of-result
invariant_of-result c = walk_stored c.self.inside.tree c.self.inside.stored c.args.self.now c.self.view_is c.args.id c.walk_from.result.left
    c.self.invariant.each c.requires c.walk_from.ensures.left

pub returns-clause-left : goal.returns-clause-left
returns-clause-left c = walk_shown c.self.inside.tree c.self.inside.stored c.args.self.now c.self.view_is c.args.id c.walk_from.result.left
    c.walk_from.ensures.left

pub returns-clause-full : goal.returns-clause-full
returns-clause-full c = full_shown c.self.inside.tree c.self.inside.stored c.args.self.now c.self.invariant c.self.view_is

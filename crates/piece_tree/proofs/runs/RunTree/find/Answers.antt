use Rattle.piece_tree.proofs.FullRuns.{full_shown}
use Rattle.piece_tree.proofs.RunSearches.{found_run}
use Rattle.piece_tree.proofs.runs.RunTree.find.Goals as goal

pub returns-clause-run : goal.returns-clause-run
returns-clause-run g c = found_run c.args.sought c.self.inside.tree c.self.inside.stored c.self.invariant c.args.self.now c.self.view_is c.in-Some.found c.in-Some.ensures.found c.requires

pub returns-clause-full : goal.returns-clause-full
returns-clause-full g c = full_shown c.self.inside.tree c.self.inside.stored c.args.self.now c.self.invariant c.self.view_is

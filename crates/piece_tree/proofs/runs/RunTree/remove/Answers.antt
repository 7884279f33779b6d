use Rattle.piece_tree.proofs.Storing.{named, told_stored}
use Rattle.piece_tree.proofs.NewRuns.{out_stored, out_shown}
use Rattle.piece_tree.proofs.runs.RunTree.remove.Goals as goal

pub get-at-requires : goal.get-at-requires
get-at-requires c = named c.self.inside.tree c.self.inside.stored c.args.self.now c.self.view_is c.args.id c.requires

pub remove-requires : goal.remove-requires
remove-requires c = named c.self.inside.tree c.self.inside.stored c.args.self.now c.self.view_is c.args.id c.requires

pub take-requires : goal.take-requires
take-requires c =
    let s = told_stored c.self.inside.tree c.self.inside.stored c.args.self.now c.self.view_is c.args.id c.requires c.get-at.result c.get-at.ensures c.self.invariant in
    (s.run, s.there)

pub invariant_of-self : goal.invariant_of-self
invariant_of-self c = out_stored c.self.inside.tree c.self.inside.stored c.self.invariant c.args.self.now c.self.view_is c.args.id
    c.get-at.result c.get-at.ensures c.remove.new.self c.remove.ensures.items c.take.new.self c.take.ensures.live c.requires

pub returns-clause-runs : goal.returns-clause-runs
returns-clause-runs c = out_shown c.self.inside.tree c.self.inside.stored c.self.invariant c.args.self.now c.self.view_is c.args.id
    c.get-at.result c.get-at.ensures c.remove.new.self c.remove.ensures.items c.take.new.self c.take.ensures.live

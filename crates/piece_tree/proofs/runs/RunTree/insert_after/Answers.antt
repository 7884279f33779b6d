use Rattle.piece_tree.proofs.Storing.{named}
use Rattle.piece_tree.proofs.Writing.{few_in_sum}
use Rattle.piece_tree.proofs.NewRuns.{small_after, after_stored, after_shown}
use Rattle.piece_tree.proofs.runs.RunTree.insert_after.Goals as goal

pub insert_after-requires-clause-named : goal.insert_after-requires-clause-named
insert_after-requires-clause-named c = named c.self.inside.tree c.self.inside.stored c.args.self.now c.self.view_is c.args.id c.requires.named

pub insert_after-requires-clause-value : goal.insert_after-requires-clause-value
insert_after-requires-clause-value c = few_in_sum c.args.pieces.now c.sum_of.result c.sum_of.ensures c.requires.counted

pub insert_after-requires-clause-sum : goal.insert_after-requires-clause-sum
insert_after-requires-clause-sum c = small_after c.self.inside.tree c.self.inside.stored c.self.invariant c.args.self.now c.self.view_is
    c.args.pieces.now c.sum_of.result c.sum_of.ensures c.requires.small c.put.result c.args.id

pub invariant_of-self : goal.invariant_of-self
invariant_of-self c = after_stored c.self.inside.tree c.self.inside.stored c.self.invariant c.args.self.now c.self.view_is
    c.args.pieces.now c.sum_of.result c.sum_of.ensures c.requires.small c.put.result
    c.put.ensures.new_name c.put.new.self c.of.result c.put.ensures.live c.of.ensures.pieces
    c.insert_after.new.self c.insert_after.result c.args.id c.insert_after.ensures.items c.requires.named c.of.ensures.run c.requires.some c.requires.counted

pub returns-clause-runs : goal.returns-clause-runs
returns-clause-runs c = after_shown c.self.inside.tree c.self.inside.stored c.self.invariant c.args.self.now c.self.view_is
    c.args.pieces.now c.sum_of.result c.sum_of.ensures c.requires.small c.put.result
    c.put.ensures.new_name c.put.new.self c.of.result c.put.ensures.live c.of.ensures.pieces
    c.insert_after.new.self c.insert_after.result c.args.id c.insert_after.ensures.items

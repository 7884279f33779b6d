use Rattle.piece_tree.proofs.Writing.{few_in_sum}
use Rattle.piece_tree.proofs.NewRuns.{small_first, first_stored, first_shown}
use Rattle.piece_tree.proofs.runs.RunTree.insert_first.Goals as goal

pub insert_first-requires-clause-value : goal.insert_first-requires-clause-value
insert_first-requires-clause-value c = few_in_sum c.args.pieces.now c.sum_of.result c.sum_of.ensures c.requires.counted

pub insert_first-requires-clause-sum : goal.insert_first-requires-clause-sum
insert_first-requires-clause-sum c = small_first c.self.inside.tree c.self.inside.stored c.self.invariant c.args.self.now c.self.view_is
    c.args.pieces.now c.sum_of.result c.sum_of.ensures c.requires.small c.put.result

pub invariant_of-self : goal.invariant_of-self
invariant_of-self c = first_stored c.self.inside.tree c.self.inside.stored c.self.invariant c.args.self.now c.self.view_is
    c.args.pieces.now c.sum_of.result c.sum_of.ensures c.requires.small c.put.result
    c.put.ensures.new_name c.put.new.self c.of.result c.put.ensures.live c.of.ensures.pieces
    c.insert_first.new.self c.insert_first.result c.insert_first.ensures.items c.of.ensures.run c.requires.some c.requires.counted

pub returns-clause-runs : goal.returns-clause-runs
returns-clause-runs c = first_shown c.self.inside.tree c.self.inside.stored c.self.invariant c.args.self.now c.self.view_is
    c.args.pieces.now c.sum_of.result c.sum_of.ensures c.requires.small c.put.result
    c.put.ensures.new_name c.put.new.self c.of.result c.put.ensures.live c.of.ensures.pieces
    c.insert_first.new.self c.insert_first.result c.insert_first.ensures.items

use Rattle.piece_tree.proofs.Storing.{roomier}
use Rattle.piece_tree.proofs.runs.RunTree.reserve.Goals as goal

pub invariant_of-self-2 : goal.invariant_of-self-2
invariant_of-self-2 c =
    roomier c.self.inside.tree c.self.inside.stored c.reserve-2.new.self c.reserve.new.self c.self.invariant c.reserve-2.ensures.items c.reserve.ensures.live

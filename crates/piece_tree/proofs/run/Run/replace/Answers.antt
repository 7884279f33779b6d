use Rattle.std.proofs.Common.{arith}
use Rattle.std.proofs.lemmas.List.{length-take}
use Rattle.piece_tree.proofs.Blocks.{replaced_is}
use Rattle.piece_tree.proofs.run.Run.replace.Goals as goal

pub returns-clause-pieces : goal.returns-clause-pieces
returns-clause-pieces c =
    let run = c.args.self.now in
    let size = length-take run.count run.pieces in
    rw c.copy_within.ensures.after (rw c.copy_from_slice.ensures.after
    (replaced_is c.args.from c.args.to run.count run.pieces c.args.with.now c.requires.ordered (omega arith) (omega arith) (omega arith) _ (omega arith)))

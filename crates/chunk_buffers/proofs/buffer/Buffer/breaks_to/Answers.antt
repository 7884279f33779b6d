use Rattle.std.proofs.Common.{arith}
use Rattle.chunk_buffers.proofs.Cuts.{breaks_to_of_cut}
use Rattle.chunk_buffers.proofs.buffer.Buffer.breaks_to.Goals as goal

pub returns : goal.returns
returns c = omega (arith, breaks_to_of_cut c.args.self.now.units c.args.from c.args.to (omega arith) c.args.place c.requires.place)

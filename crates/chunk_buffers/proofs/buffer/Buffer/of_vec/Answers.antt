use Rattle.std.proofs.Common.{arith}
use Rattle.line_starts.proofs.Starts.{break_ends_at_is}
use Rattle.chunk_buffers.proofs.buffer.Buffer.of_vec.Goals as goal

pub invariant_of-result : goal.invariant_of-result
invariant_of-result c =
    (rw (c.in_ok-find_break_ends.ensures.ok, c.in_ok-ends.ensures.items, c.as_slice-2.ensures.value) (break_ends_at_is 0 c.args.units.items), omega arith)

use Rattle.text_rules.proofs.Breaks.{break_ends_ascend}
use Rattle.chunk_buffers.proofs.buffer.Buffer.ends_to.Goals as goal

pub ends_to-requires : goal.ends_to-requires
ends_to-requires c =
    rw (c.as_slice.ensures.value, c.self.invariant.0) (break_ends_ascend 0 c.self.inside.units.items)

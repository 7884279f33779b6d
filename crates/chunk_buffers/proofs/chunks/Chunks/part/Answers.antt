use Rattle.chunk_buffers.proofs.Spans.{units_at-part}
use Rattle.chunk_buffers.proofs.chunks.Chunks.part.Goals as goal

pub returns-clause-shown : goal.returns-clause-shown
returns-clause-shown c = units_at-part c.args.self.now.buffers c.args.span c.args.from c.args.to c.requires.ordered c.requires.within c.requires.inside

use Rattle.text_buffer.proofs.Found.{found_inside}
use Rattle.text_buffer.proofs.view.View.span_in.Goals as goal

pub returns-clause-inside : goal.returns-clause-inside
returns-clause-inside c =
    found_inside c.args.self.now.chunks.now.buffers c.args.self.now.pieces.now.entries c.args.found.now c.requires.piece c.requires.view.text.pieces

use Rattle.text_buffer.proofs.Found.{before_found, after_found}
use Rattle.text_buffer.proofs.look_up.beside.Goals as goal

pub returns-then-is_before : goal.returns-then-is_before
returns-then-is_before c =
    before_found _ c.args.pieces.now.entries c.args.found.now c.prev_found.result (c.prev_found.ensures c.requires)

pub returns-else-is_before : goal.returns-else-is_before
returns-else-is_before c =
    after_found _ c.args.pieces.now.entries c.args.found.now c.next_found.result (c.next_found.ensures c.requires)

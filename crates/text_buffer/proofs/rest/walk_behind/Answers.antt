use Rattle.std.proofs.Common.{sym, ◌∙◌}
use Rattle.text_buffer.proofs.Reading.{next_among, walk_left}
use Rattle.text_buffer.proofs.rest.walk_behind.Goals as goal

pub walk_from-requires : goal.walk_from-requires
walk_from-requires c = next_among c.args.pieces.now.entries c.args.found.now c.in-Some.next (c.in-Some.ensures c.requires)

pub returns-in-Some-clause-left : goal.returns-in-Some-clause-left
returns-in-Some-clause-left c =
    walk_left c.args.pieces.now.entries c.args.found.now c.in-Some.next (c.in-Some.ensures c.requires) c.walk_from.result.left c.walk_from.ensures.left

pub returns-in-None-clause-left : goal.returns-in-None-clause-left
returns-in-None-clause-left c = record { piece = c.requires; are = c.walk_from-in-None.ensures.left ∙ sym (c.in-None.ensures c.requires) }

use Rattle.std.proofs.Common.{sym, subst, ◌∙◌}
use Rattle.piece_tree.specs.Pieces.{pieces_of}
use Rattle.text_buffer.specs.Reading.{CanRead}
use Rattle.text_buffer.proofs.Reading.{none_left, found_left, can-back}
use Rattle.text_buffer.proofs.view.View.rest_from.Goals as goal

pub returns-then-offset-len-clause-left : goal.returns-then-offset-len-clause-left
returns-then-offset-len-clause-left c =
    let view = c.args.self.now in
    none_left view.chunks.now.buffers c.walk_from.result.left (pieces_of view.pieces.now.entries) c.args.offset c.walk_from.ensures.left
    (c.if-offset-len.true ∙ c.len.ensures.pieces)

pub returns-clause-left : goal.returns-clause-left
returns-clause-left c =
    let view = c.args.self.now in
    let has = c.piece_at-found.ensures in
    found_left view.chunks.now.buffers view.pieces.now.entries c.piece_at-found.result c.args.offset has c.requires.view.text.pieces c.part_in.result
    c.walk_behind.result.left c.part_in.ensures.part c.walk_behind.ensures.left

pub returns-clause-can : goal.returns-clause-can
returns-clause-can c =
    let b = c.args.self.now.chunks.now.buffers in
    let ps = pieces_of c.args.self.now.pieces.now.entries in
    let text = c.requires.view.text in
    subst (CanRead b) (sym (returns-clause-left c))
    (can-back b c.args.offset ps (record { counted = text.pieces; full = text.full; unsplit = text.unsplit }))

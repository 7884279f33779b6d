use Rattle.std.proofs.Common.{◌≡◌, ◌+◌, ◌<◌, ◌^◌, arith}
use Rattle.piece_tree.specs.Pieces.{pieces_of}
use Rattle.text_rules.specs.Breaks.{count_to, break_ends}
use Rattle.text_buffer.specs.Text.{spelled}
use Rattle.text_buffer.proofs.Found.{found_inside, found_count, count_small}
use Rattle.text_buffer.proofs.view.View.breaks_to.Goals as goal
use Rattle.text_buffer.proofs.view.View.breaks_to.Goals.{After-breaks_to}

pub breaks_to-requires-clause-inside : goal.breaks_to-requires-clause-inside
breaks_to-requires-clause-inside c =
    found_inside c.args.self.now.chunks.now.buffers c.args.self.now.pieces.now.entries c.args.found.now c.requires.unit.piece c.requires.view.text.pieces

-- the breaks before the piece and those in it are all up to the place
counted : (c : After-breaks_to) → c.args.found.now.before.breaks + c.breaks_to.result
    ≡ count_to c.args.offset (break_ends 0 (spelled c.args.self.now.chunks.now.buffers (pieces_of c.args.self.now.pieces.now.entries)))
counted c =
    let text = c.requires.view.text in
    found_count c.args.self.now.chunks.now.buffers c.args.self.now.pieces.now.entries c.args.found.now c.requires.unit.piece text.pieces text.full text.unsplit
    c.args.offset c.breaks_to.result c.requires.unit.start c.requires.unit.end c.breaks_to.ensures

few : (c : After-breaks_to) → c.args.found.now.before.breaks + c.breaks_to.result < 2 ^ 62
few c = omega (arith, counted c, count_small c.args.self.now.pieces.now c.args.self.now.chunks.now c.requires.view.text c.args.offset)

pub overflow_add-result : goal.overflow_add-result
overflow_add-result c = omega (arith, few (goal.at.overflow_add-result c).After-breaks_to)

pub returns-clause-count : goal.returns-clause-count
returns-clause-count c = counted (goal.at.returns-clause-count c).After-breaks_to

pub returns-clause-few : goal.returns-clause-few
returns-clause-few c = few (goal.at.returns-clause-few c).After-breaks_to

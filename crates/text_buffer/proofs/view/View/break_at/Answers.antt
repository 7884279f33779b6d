use Rattle.std.proofs.Common.{◌+◌, ◌-◌, ◌<◌, ℕ, length, ap, sym, ◌∙◌, arith}
use Rattle.chunk_buffers.specs.Chunks.{units_at}
use Rattle.line_starts.proofs.Starts.{break_count_is}
use Rattle.piece_tree.specs.Pieces.{pieces_of}
use Rattle.text_rules.specs.Breaks.{break_ends}
use Rattle.text_rules.proofs.Breaks.{line_start_is}
use Rattle.text_rules.proofs.Places.{line_start_within}
use Rattle.text_buffer.proofs.Found.{break_ends_after, found_inside, found_size, found_line_start, own_breaks, line_count_of_pieces, found_small}
use Rattle.text_buffer.proofs.view.View.break_at.Given.{Over}
use Rattle.text_buffer.proofs.view.View.break_at.Goals.{After-nth_break-own}
use Rattle.text_buffer.proofs.view.View.break_at.Goals as goal

pub piece_with-found-requires-clause-there : goal.piece_with-found-requires-clause-there
piece_with-found-requires-clause-there g c =
    omega (arith, line_count_of_pieces c.args.self.now.chunks.now.buffers (pieces_of c.args.self.now.pieces.now.entries) c.requires.view.text.pieces c.requires.view.text.unsplit, c.requires.there)

pub nth_break-own-requires-clause-inside : goal.nth_break-own-requires-clause-inside
nth_break-own-requires-clause-inside g c =
    found_inside c.args.self.now.chunks.now.buffers c.args.self.now.pieces.now.entries c.piece_with-found.result c.piece_with-found.ensures.has.piece c.requires.view.text.pieces

pub nth_break-own-requires-clause-there : goal.nth_break-own-requires-clause-there
nth_break-own-requires-clause-there g c =
    let b = c.args.self.now.chunks.now.buffers in
    let found = c.piece_with-found.result in
    omega (
      arith,
      break_count_is (units_at b found.span),
      own_breaks b c.args.self.now.pieces.now.entries found c.piece_with-found.ensures.has.piece c.requires.view.text.pieces c.requires.view.text.full c.requires.view.text.unsplit,
    )

pub returns-clause-line : goal.returns-clause-line
returns-clause-line g c =
    sym (found_line_start c.args.self.now.chunks.now.buffers c.args.self.now.pieces.now.entries c.piece_with-found.result c.piece_with-found.ensures.has.piece
    c.requires.view.text.pieces c.requires.view.text.full c.requires.view.text.unsplit c.args.n c.piece_with-found.ensures.has.start c.piece_with-found.ensures.has.end
    ∙ ap (λ n. c.piece_with-found.result.before.units + n) (sym c.nth_break-own.ensures))

-- the break is one of those of the piece
among_own : (g : Over) (c : After-nth_break-own g)
    → c.args.n - c.piece_with-found.result.before.breaks - 1 < length (break_ends 0 (units_at c.args.self.now.chunks.now.buffers c.piece_with-found.result.span))
among_own g c =
    let found = c.piece_with-found.result in
    let breaks = own_breaks c.args.self.now.chunks.now.buffers c.args.self.now.pieces.now.entries found c.piece_with-found.ensures.has.piece
    c.requires.view.text.pieces c.requires.view.text.full c.requires.view.text.unsplit in
    omega (arith, breaks)

pub returns-clause-some : goal.returns-clause-some
returns-clause-some g c =
    let own = units_at c.args.self.now.chunks.now.buffers c.piece_with-found.result.span in
    let k : ℕ = c.args.n - c.piece_with-found.result.before.breaks in
    let inside = among_own g (goal.at.returns-clause-some g c).After-nth_break-own in
    omega (arith, c.nth_break-own.ensures, line_start_is own (k - 1) (k + 1) inside (omega arith), break_ends_after 0 0 own (omega arith) (k - 1) 0 inside)

pub returns-clause-within : goal.returns-clause-within
returns-clause-within g c =
    let found = c.piece_with-found.result in
    let k : ℕ = c.args.n - found.before.breaks in
    let inside = among_own g (goal.at.returns-clause-within g c).After-nth_break-own in
    omega (
      arith,
      c.nth_break-own.ensures,
      line_start_within (units_at c.args.self.now.chunks.now.buffers found.span) (k - 1) (k + 1) inside (omega arith),
      found_size c.args.self.now.chunks.now.buffers c.args.self.now.pieces.now.entries found c.piece_with-found.ensures.has.piece c.requires.view.text.pieces,
    )

pub returns-clause-small : goal.returns-clause-small
returns-clause-small g c =
    omega (arith, found_small c.args.self.now.pieces.now c.args.self.now.chunks.now c.requires.view.text c.piece_with-found.result c.piece_with-found.ensures.has.piece, returns-clause-within g c)

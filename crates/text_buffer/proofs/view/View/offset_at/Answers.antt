use Rattle.std.proofs.Common.{◌≡◌, Some, ◌+◌, ◌-◌, [], length, ap, ◌∙◌, refl, arith}
use Rattle.text_rules.specs.Lines.{Line, line_start}
use Rattle.piece_tree.specs.Costs.{WithinLookUps}
use Rattle.piece_tree.proofs.Costs.{no_look_up, fewer_look_ups, look_ups-add}
use Rattle.piece_tree.specs.Pieces.{pieces_of}
use Rattle.text_buffer.specs.Text.{spelled}
use Rattle.text_buffer.proofs.Positions.{no_such_line, past_column, at_place, at_no_place}
use Rattle.text_buffer.proofs.view.View.offset_at.Given.{Over}
use Rattle.text_buffer.proofs.view.View.offset_at.Goals.{After-content_end-end, After-place_at}
use Rattle.text_buffer.proofs.view.View.offset_at.Goals as goal

pub start_after-start-requires-clause-there : goal.start_after-start-requires-clause-there
start_after-start-requires-clause-there g c = omega (arith, c.line_count.ensures.lines)

pub content_end-end-requires-clause-there : goal.content_end-end-requires-clause-there
content_end-end-requires-clause-there g c = omega (arith, c.line_count.ensures.lines)

pub overflow_sub-end : goal.overflow_sub-end
overflow_sub-end g c = omega (arith, c.content_end-end.ensures.content (record { content = []; break = [] }))

pub returns-then-position-end-clause-offset : goal.returns-then-position-end-clause-offset
returns-then-position-end-clause-offset g c =
    let d : Line = record { content = []; break = [] } in
    past_column (spelled c.args.self.now.chunks.now.buffers (pieces_of c.args.self.now.pieces.now.entries)) c.args.position d (omega arith) (omega (arith, c.line_count.ensures.lines)) (omega arith) (omega (arith, c.content_end-end.ensures.content d))

pub returns-clause-offset : goal.returns-clause-offset
returns-clause-offset g c =
    let d : Line = record { content = []; break = [] } in
    let x = (spelled c.args.self.now.chunks.now.buffers (pieces_of c.args.self.now.pieces.now.entries)) in
    let this : c.args.position.line - 1 + 1 ≡ c.args.position.line = omega arith in
    let start = c.start_after-start.ensures.start ∙ ap (line_start x) this in
    ap (λ n. Some n) c.in-Some.ensures.place.there
    ∙ at_place x c.args.position d (omega arith) (omega (arith, c.line_count.ensures.lines)) (c.start_after-start.result.offset + (c.args.position.column - 1)) (omega arith)
    (omega (arith, c.content_end-end.ensures.content d)) (ap (λ n. n + (c.args.position.column - 1)) start)
    c.in-Some.ensures.place.place

pub returns-in_default-clause-offset : goal.returns-in_default-clause-offset
returns-in_default-clause-offset g c =
    let d : Line = record { content = []; break = [] } in
    let x = (spelled c.args.self.now.chunks.now.buffers (pieces_of c.args.self.now.pieces.now.entries)) in
    let this : c.args.position.line - 1 + 1 ≡ c.args.position.line = omega arith in
    let start = c.start_after-start.ensures.start ∙ ap (line_start x) this in
    at_no_place x c.args.position d (omega arith) (omega (arith, c.line_count.ensures.lines)) (c.start_after-start.result.offset + (c.args.position.column - 1)) (omega arith)
    (omega (arith, c.content_end-end.ensures.content d)) (ap (λ n. n + (c.args.position.column - 1)) start)
    c.in_default.ensures.place

pub returns-then-position-eq0-clause-cost : goal.returns-then-position-eq0-clause-cost
returns-then-position-eq0-clause-cost g c = no_look_up 4 (length c.args.self.now.pieces.now.entries) c.args.steps.now c.args.steps.now refl

pub returns-then-position-line_count-clause-cost : goal.returns-then-position-line_count-clause-cost
returns-then-position-line_count-clause-cost g c = no_look_up 4 (length c.args.self.now.pieces.now.entries) c.args.steps.now c.args.steps.now refl

pub returns-then-position-line_count-clause-offset : goal.returns-then-position-line_count-clause-offset
returns-then-position-line_count-clause-offset g c = no_such_line (spelled c.args.self.now.chunks.now.buffers (pieces_of c.args.self.now.pieces.now.entries)) c.args.position (omega (arith, c.line_count.ensures.lines))

two_look_ups : (g : Over) (c : After-content_end-end g) → WithinLookUps 2 (length c.args.self.now.pieces.now.entries) (c.content_end-end.new.steps - c.args.steps.now)
two_look_ups g c =
    look_ups-add 1 1 (length c.args.self.now.pieces.now.entries) c.args.steps.now c.start_after-start.new.steps c.content_end-end.new.steps
    c.start_after-start.ensures.cost c.content_end-end.ensures.cost

fewer_than_four : (g : Over) (c : After-content_end-end g) → WithinLookUps 4 (length c.args.self.now.pieces.now.entries) (c.content_end-end.new.steps - c.args.steps.now)
fewer_than_four g c =
    fewer_look_ups 2 4 (length c.args.self.now.pieces.now.entries) (c.content_end-end.new.steps - c.args.steps.now) (omega arith) (two_look_ups g c)

four_look_ups : (g : Over) (c : After-place_at g) → WithinLookUps 2 (length c.args.self.now.pieces.now.entries) (c.content_end-end.new.steps - c.args.steps.now)
    → WithinLookUps 4 (length c.args.self.now.pieces.now.entries) (c.place_at.new.steps - c.args.steps.now)
four_look_ups g c two =
    look_ups-add 2 2 (length c.args.self.now.pieces.now.entries) c.args.steps.now c.content_end-end.new.steps c.place_at.new.steps two c.place_at.ensures.cost

pub returns-then-position-eq0-2-clause-cost : goal.returns-then-position-eq0-2-clause-cost
returns-then-position-eq0-2-clause-cost g c = fewer_than_four g (goal.at.returns-then-position-eq0-2-clause-cost g c).After-content_end-end

pub returns-then-position-end-clause-cost : goal.returns-then-position-end-clause-cost
returns-then-position-end-clause-cost g c = fewer_than_four g (goal.at.returns-then-position-end-clause-cost g c).After-content_end-end

pub returns-clause-cost : goal.returns-clause-cost
returns-clause-cost g c =
    let at = goal.at.returns-clause-cost g c in
    four_look_ups g at.After-place_at (two_look_ups g at.After-content_end-end)

pub returns-in_default-clause-cost : goal.returns-in_default-clause-cost
returns-in_default-clause-cost g c =
    let at = goal.at.returns-in_default-clause-cost g c in
    four_look_ups g at.After-place_at (two_look_ups g at.After-content_end-end)

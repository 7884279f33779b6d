use Rattle.std.proofs.Common.{◌+◌, ◌-◌, ℕ, Some, None, if◌then◌else◌, length, ap, sym, ◌∙◌, arith}
use Rattle.piece_tree.specs.Pieces.{pieces_of}
use Rattle.piece_tree.proofs.Costs.{fewer_look_ups, look_ups-add}
use Rattle.text_lengths.specs.declared.Position.{Position}
use Rattle.text_rules.specs.Lines.{line_start}
use Rattle.text_rules.specs.Positions.{position_of}
use Rattle.text_rules.specs.Breaks.{count_to, break_ends}
use Rattle.text_rules.proofs.Places.{position_of_is, line_start_before}
use Rattle.text_buffer.specs.Text.{spelled}
use Rattle.text_buffer.proofs.Found.{count_small, count_in_lines, place_small}
use Rattle.unit_text.proofs.KindLaws.{is_place-of_kind}
use Rattle.text_buffer.proofs.view.View.position_at.Goals as goal

pub returns-in_default-clause-cost : goal.returns-in_default-clause-cost
returns-in_default-clause-cost g c =
    fewer_look_ups 2 3 (length c.args.self.now.pieces.now.entries) (c.place_at.new.steps - c.args.steps.now) (omega arith) c.place_at.ensures.cost

pub start_after-start-requires-clause-there : goal.start_after-start-requires-clause-there
start_after-start-requires-clause-there g c =
    omega (arith, c.breaks_before-breaks.ensures.count, count_in_lines (spelled c.args.self.now.chunks.now.buffers (pieces_of c.args.self.now.pieces.now.entries)) c.args.offset)

pub overflow_add-result : goal.overflow_add-result
overflow_add-result g c = omega (arith, c.breaks_before-breaks.ensures.count, count_small c.args.self.now.pieces.now c.args.self.now.chunks.now c.requires.view.text c.args.offset)

pub overflow_sub-result : goal.overflow_sub-result
overflow_sub-result g c =
    let x = spelled c.args.self.now.chunks.now.buffers (pieces_of c.args.self.now.pieces.now.entries) in
    omega (arith, line_start_before x c.args.offset, c.start_after-start.ensures.start ∙ ap (λ n. line_start x (n + 1)) c.breaks_before-breaks.ensures.count)

pub overflow_add-result-2 : goal.overflow_add-result-2
overflow_add-result-2 g c = omega (
  arith,
  place_small c.args.self.now.pieces.now c.args.self.now.chunks.now c.requires.view.text c.args.offset
      (is_place-of_kind c.args.kind (spelled c.args.self.now.chunks.now.buffers (pieces_of c.args.self.now.pieces.now.entries)) c.args.offset
      c.in-Some.ensures.place.place),
)

pub returns-clause-position : goal.returns-clause-position
returns-clause-position g c =
    let x = spelled c.args.self.now.chunks.now.buffers (pieces_of c.args.self.now.pieces.now.entries) in
    let offset : ℕ = c.args.offset in
    let told = c.breaks_before-breaks.ensures.count in
    let start = c.start_after-start.ensures.start ∙ ap (λ n. line_start x (n + 1)) told in
    ap (λ (p : Position). Some p)
    (ap (λ (n : ℕ). record { line = n + 1; column = offset - c.start_after-start.result.offset + 1 }) told
    ∙ ap (λ (s : ℕ). record { line = count_to offset (break_ends 0 x) + 1; column = offset - s + 1 }) start
    ∙ sym (position_of_is x offset))
    ∙ sym (ap (λ b. if b then Some (position_of x offset) else None) c.in-Some.ensures.place.place)

pub returns-clause-cost : goal.returns-clause-cost
returns-clause-cost g c =
    look_ups-add 2 1 (length c.args.self.now.pieces.now.entries) c.args.steps.now c.place_at.new.steps c.start_after-start.new.steps
    c.place_at.ensures.cost c.start_after-start.ensures.cost

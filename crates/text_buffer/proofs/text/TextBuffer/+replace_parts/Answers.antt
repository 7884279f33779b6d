use Rattle.std.proofs.Common.{rules, ◌≡◌, ◌+◌, ◌<◌, ◌≤◌, ◌^◌, false, length, take, drop, ap, sym, subst, ◌∙◌, arith}
use Rattle.std.proofs.lemmas.List.{length-drop}
use Rattle.chunk_buffers.proofs.Spans.{Extends-trans}
use Rattle.text_rules.specs.Edits.{edited}
use Rattle.text_buffer.specs.Room.{IsEnough, IsEnoughForPart, HasSpent, HasSpentPart, most_part, need_of_edit}
use Rattle.text_buffer.proofs.Parts.{room_for_first, room_for_rest, spent_by_parts, place_for_rest, with_rest, span_at}
use Rattle.text_buffer.proofs.text.TextBuffer.+replace_parts.Goals as goal

pub replace_part-requires-2-clause-room : goal.replace_part-requires-2-clause-room
replace_part-requires-2-clause-room t c =
    rw c.split_at.ensures.front (room_for_first c.args.text.now (omega (arith, c.if-text-le-MOST_PART.false)) c.args.self.now.room c.requires.room)

pub replace_parts-requires : goal.replace_parts-requires
replace_parts-requires t c =
    let text = c.args.text.now in let mid = c.replace_part-2.new.self in
    let long : most_part < length text = omega (arith, c.if-text-le-MOST_PART.false) in
    let start : c.args.span.start ≤ length c.args.self.now.units = omega (arith, c.requires.ordered, c.requires.within) in
    let is : mid.units ≡ edited c.args.self.now.units (record { span = c.args.span; text = take most_part text; force = false }) =
    c.replace_part-2.ensures.units ∙ ap (λ f. edited c.args.self.now.units (record { span = c.args.span; text = f; force = false })) c.split_at.ensures.front in
    let spent : HasSpentPart (take most_part text) c.args.self.now.room mid.room =
    subst (λ f. HasSpentPart f c.args.self.now.room mid.room) c.split_at.ensures.front c.replace_part-2.ensures.spent in
    let less : length c.split_at.result.1.now < t = omega (arith, ap length c.split_at.ensures.back, length-drop most_part text, c.decreases) in
    let place = place_for_rest c.args.self.now.units mid.units text c.args.span long start is in
    let room : IsEnough mid.room (need_of_edit c.split_at.result.1.now) =
    subst (λ r. IsEnough mid.room (need_of_edit r)) (sym c.split_at.ensures.back) (room_for_rest text long c.args.self.now.room mid.room c.requires.room spent) in
    let whole = with_rest c.args.self.now.units mid.units text c.args.span long start is in
    let small : length (edited mid.units (record { span = span_at (c.args.span.start + most_part); text = c.split_at.result.1.now; force = false })) < 2 ^ 62 =
    subst (λ r. length (edited mid.units (record { span = span_at (c.args.span.start + most_part); text = r; force = false })) < 2 ^ 62) (sym c.split_at.ensures.back)
    (omega (arith, ap length whole, c.requires.small)) in
    (less, (omega arith, (place, (room, (small, c.replace_part-2.ensures.kind ∙ c.requires.kind)))))

pub returns-clause-grown : goal.returns-clause-grown
returns-clause-grown t c = Extends-trans _ c.replace_part-2.new.self.buffers _ c.replace_part-2.ensures.grown c.replace_parts.ensures.grown

pub returns-clause-spent : goal.returns-clause-spent
returns-clause-spent t c =
    let text = c.args.text.now in let old = c.args.self.now.room in let mid = c.replace_part-2.new.self.room in let new = c.replace_parts.new.self.room in
    spent_by_parts text (omega (arith, c.if-text-le-MOST_PART.false)) old mid new
    (subst (λ f. HasSpentPart f old mid) c.split_at.ensures.front c.replace_part-2.ensures.spent)
    (subst (λ r. HasSpent (need_of_edit r) mid new) c.split_at.ensures.back c.replace_parts.ensures.spent)

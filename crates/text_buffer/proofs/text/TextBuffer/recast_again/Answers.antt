use Rattle.std.proofs.Common.{◌≡◌, ◌+◌, ◌<◌, ◌≤◌, ◌^◌, false, length, take, drop, ap, sym, subst, ◌∙◌, arith}
use Rattle.unit_text.specs.Kinds.{IsOfKind}
use Rattle.text_rules.specs.Edits.{edited}
use Rattle.text_buffer.specs.Room.{HasSpent, HasSpentPart, most_part, need_of_edit}
use Rattle.text_buffer.specs.Text.{units_from}
use Rattle.text_buffer.proofs.Parts.{room_for_first, room_for_rest, spent_by_parts, recast_with_rest, span_at}
use Rattle.text_buffer.proofs.text.TextBuffer.recast_again.Goals as goal
use Rattle.text_buffer.proofs.text.TextBuffer.recast_again.Goals.{After-recast_part-2, After-replace_parts}

pub recast_part-requires-2-clause-room : goal.recast_part-requires-2-clause-room
recast_part-requires-2-clause-room c =
    rw c.split_at.ensures.front (room_for_first c.args.units.now (omega (arith, c.if-units-le-MOST_PART.false)) c.args.self.now.room c.requires.room)

spent_first : (c : After-recast_part-2) → HasSpentPart (take most_part c.args.units.now) c.args.self.now.room c.recast_part-2.new.self.room
spent_first c = rw (← c.split_at.ensures.front) c.recast_part-2.ensures.spent

with_rest : (c : After-recast_part-2) → edited c.recast_part-2.new.self.units (record { span = span_at most_part; text = drop most_part c.args.units.now; force = false }) ≡ c.args.units.now
with_rest c =
    recast_with_rest c.recast_part-2.new.self.units c.args.units.now (omega (arith, c.if-units-le-MOST_PART.false)) (c.recast_part-2.ensures.units ∙ c.split_at.ensures.front)

pub replace_parts-requires-clause-room : goal.replace_parts-requires-clause-room
replace_parts-requires-clause-room c =
    let at = (goal.at.replace_parts-requires-clause-room c).After-recast_part-2 in
    rw c.split_at.ensures.back (room_for_rest c.args.units.now (omega (arith, c.if-units-le-MOST_PART.false)) c.args.self.now.room c.recast_part-2.new.self.room
    c.requires.room (spent_first at))

pub replace_parts-requires-clause-small : goal.replace_parts-requires-clause-small
replace_parts-requires-clause-small c =
    let at = (goal.at.replace_parts-requires-clause-small c).After-recast_part-2 in
    rw c.split_at.ensures.back (omega (arith, ap length (with_rest at), c.requires.small))

pub returns-clause-units : goal.returns-clause-units
returns-clause-units c =
    let at = (goal.at.returns-clause-units c).After-recast_part-2 in
    ap (λ v. v.units) c.self.view_is ∙ c.replace_parts.ensures.units
    ∙ ap (λ t. edited c.recast_part-2.new.self.units (record { span = span_at most_part; text = t; force = false })) c.split_at.ensures.back ∙ with_rest at

pub invariant_of-self : goal.invariant_of-self
invariant_of-self c =
    let at = (goal.at.invariant_of-self c).After-recast_part-2 in
    let is = ap (λ v. v.units) c.self.view_is ∙ c.replace_parts.ensures.units
    ∙ ap (λ t. edited c.recast_part-2.new.self.units (record { span = span_at most_part; text = t; force = false })) c.split_at.ensures.back ∙ with_rest at in
    record { seen = c.self.invariant.seen; endings = subst (IsOfKind c.args.kind) (sym is) c.requires.endings }

pub returns-clause-spent : goal.returns-clause-spent
returns-clause-spent c =
    let at = (goal.at.returns-clause-spent c).After-recast_part-2 in
    let rest : HasSpent (need_of_edit (drop most_part c.args.units.now)) c.recast_part-2.new.self.room c.replace_parts.new.self.room =
    rw (← c.split_at.ensures.back) c.replace_parts.ensures.spent in
    let all = spent_by_parts c.args.units.now (omega (arith, c.if-units-le-MOST_PART.false)) c.args.self.now.room c.recast_part-2.new.self.room c.replace_parts.new.self.room (spent_first at) rest in
    subst (HasSpent (need_of_edit c.args.units.now) c.args.self.now.room) (sym (ap (λ v. v.room) c.self.view_is)) all

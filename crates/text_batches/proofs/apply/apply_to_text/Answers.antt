use Rattle.std.proofs.Common.{◌≡◌, refl, ap, sym, subst, ◌∙◌, arith}
use Rattle.unit_text.specs.declared.kind.Kind.TheVariants.{Mixed}
use Rattle.text_rules.specs.Edits.{edited}
use Rattle.text_buffer.specs.Room.{HasSpent, need_of_edit, part_count}
use Rattle.text_batches.proofs.Texts.{IsTextAfter, text_before, text_after, text_turn, room_now}
use Rattle.text_batches.proofs.Turns.{turn, IsTurn}
use Rattle.text_batches.proofs.apply.apply_to_text.Goals as goal
use Rattle.text_batches.proofs.apply.apply_to_text.Goals.{After-index-ops-ops}

turn_now : (c : After-index-ops-ops) → IsTurn c.args.text.now.units c.args.ops.now c.loop-done.done c.index-ops-ops.result c.loop-done.text.units
turn_now c = turn c.args.text.now.units c.args.ops.now c.loop-done.done c.index-ops-ops.result _ c.requires.standing c.loop-done-test.true c.index-ops-ops.is c.loop-done.invariant.units

pub loop-done-init : goal.loop-done-init
loop-done-init c = subst (IsTextAfter c.args.text.now c.args.ops.now 0) (sym c.seek.ensures) (text_before c.args.text.now c.args.ops.now)

pub replace-requires-clause-ordered : goal.replace-requires-clause-ordered
replace-requires-clause-ordered c = (turn_now (goal.at.replace-requires-clause-ordered c).After-index-ops-ops).ordered

pub replace-requires-clause-within : goal.replace-requires-clause-within
replace-requires-clause-within c = (turn_now (goal.at.replace-requires-clause-within c).After-index-ops-ops).within

pub replace-requires-clause-room : goal.replace-requires-clause-room
replace-requires-clause-room c =
    let turn = turn_now (goal.at.replace-requires-clause-room c).After-index-ops-ops in
    rw c.as_slice.ensures (room_now c.args.text.now c.args.ops.now c.loop-done.text c.loop-done.done c.index-ops-ops.result c.loop-done.invariant turn c.requires.room)

pub replace-requires-clause-small : goal.replace-requires-clause-small
replace-requires-clause-small c =
    let turn = turn_now (goal.at.replace-requires-clause-small c).After-index-ops-ops in
    rw c.as_slice.ensures (omega (arith, turn.few, c.requires.small))

pub replace-requires-clause-kind : goal.replace-requires-clause-kind
replace-requires-clause-kind c =
    let mixed : c.loop-done.text.kind ≡ Mixed = c.loop-done.invariant.kind ∙ c.requires.mixed in
    rw mixed refl

pub loop-done-preserved : goal.loop-done-preserved
loop-done-preserved c =
    let turn = turn_now (goal.at.loop-done-preserved c).After-index-ops-ops in
    let op = c.index-ops-ops.result in
    let units : c.replace.new.self.units ≡ edited c.loop-done.text.units op = rw (← c.as_slice.ensures) c.replace.ensures.units in
    let spent : HasSpent (need_of_edit op.text) c.loop-done.text.room c.replace.new.self.room =
    subst (λ t. HasSpent (need_of_edit t) c.loop-done.text.room c.replace.new.self.room) c.as_slice.ensures c.replace.ensures.spent in
    text_turn c.args.text.now c.args.ops.now c.loop-done.text c.loop-done.done op c.loop-done.invariant turn c.replace.new.self
    units c.replace.ensures.kind (omega (arith, c.replace.ensures.pieces, ap (λ t. part_count t) c.as_slice.ensures)) c.replace.ensures.grown spent

pub returns : goal.returns
returns c =
    let after = text_after c.args.text.now c.args.ops.now c.loop-done.text c.loop-done.done c.requires.standing (omega arith) (omega arith) c.loop-done.invariant in
    record { units = after.0; kind = c.loop-done.invariant.kind; grown = after.1; spent = after.2 }

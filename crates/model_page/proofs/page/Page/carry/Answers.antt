use Rattle.std.proofs.Common.{◌≡◌, ◌<◌, ◌^◌, ◌+◌, ◌-◌, ℕ, length, map, slice_index_or, ap, sym, subst, ◌∙◌, arith}
use Rattle.unit_text.specs.Kinds.{IsOfKind}
use Rattle.text_rules.specs.Dirty.{dirty_lines}
use Rattle.text_rules.specs.Edits.{edited}
use Rattle.text_rules.specs.Lines.{lines_of}
use Rattle.batch_rules.proofs.Standing.{text_units_applied}
use Rattle.decoration_rules.specs.Decorations.{IsSound}
use Rattle.decoration_rules.specs.Marks.{in_order}
use Rattle.decoration_rules.specs.Moves.{moved_mark}
use Rattle.reuse_rules.specs.Edits.{IsEdited}
use Rattle.text_buffer.specs.Room.{HasSpent, need_of_edit}
use Rattle.model_page.specs.Carrying.{edit_with}
use Rattle.model_page.specs.Placed.{op_of}
use Rattle.model_page.specs.State.{PageState, IsPage}
use Rattle.model_page.specs.View.{page_of}
use Rattle.model_page.proofs.Carries.{IsCarried, carried_turn}
use Rattle.model_page.proofs.Marking.{touched, marked, marks_fit, marks_lines}
use Rattle.model_page.proofs.Pages.{IsPageAfter, page_before, page_after, still_page}
use Rattle.model_page.proofs.Staying.{marked_turn}
use Rattle.text_batches.proofs.Texts.{text_turn, room_now}
use Rattle.text_batches.proofs.Turns.{turn, IsTurn}
use Rattle.model_page.proofs.page.Page.carry.Goals as goal
use Rattle.model_page.proofs.page.Page.carry.Goals.{After-edit_with-edit, After-replace_again-dirty}

-- the op whose turn it is
inside : (c : After-edit_with-edit) → c.loop-done.done < length c.args.ops.now
inside c = subst (λ (n : ℕ). c.loop-done.done < n) c.len-count.ensures c.loop-done-test.true

op_is : (c : After-edit_with-edit)
    → op_of c.op-op.result ≡ slice_index_or c.args.ops.now (length c.args.ops.now - 1 - c.loop-done.done) (op_of c.op-op.result)
op_is c =
    subst (λ (n : ℕ). op_of c.op-op.result ≡ slice_index_or c.args.ops.now (n - 1 - c.loop-done.done) (op_of c.op-op.result))
    c.len-count.ensures c.op-op.ensures

turn_now : (c : After-edit_with-edit) → IsTurn c.args.self.now.text.units c.args.ops.now c.loop-done.done (op_of c.op-op.result) c.loop-done.self-inside.text.units
turn_now c = turn c.args.self.now.text.units c.args.ops.now c.loop-done.done (op_of c.op-op.result) _ c.requires.standing (inside c) (op_is c) c.loop-done.invariant.text.units

-- the text of the moment and the op's are never too long
small : (c : After-edit_with-edit) → length (edited c.loop-done.self-inside.text.units (op_of c.op-op.result)) + 1 < 2 ^ 62
small c =
    let turn = turn_now c in
    let before = ap (λ (p : PageState). length p.text.units) c.self.view_is in
    let texts = text_units_applied 0 c.args.self.now.text.units c.args.ops.now c.requires.standing in
    omega (arith, turn.few, before, c.self.invariant.fits, texts, c.requires.fits)

moved_now : (c : After-edit_with-edit)
    → IsCarried c.args.forces c.args.self.now.decorations c.args.ops.now c.loop-done.done (op_of c.op-op.result) c.loop-done.self-inside.text.units c.loop-done.self-inside.decorations
moved_now c =
    let turn = turn_now c in
    let few = small c in
    carried_turn c.args.forces c.args.self.now.decorations c.args.ops.now c.loop-done.done (op_of c.op-op.result) c.loop-done.self-inside.text.units c.loop-done.self-inside.decorations
    (subst (λ (p : PageState). IsSound p.decorations) c.self.view_is c.self.invariant.inside.sound) c.loop-done.invariant.inside
    (inside c) (op_is c) c.loop-done.invariant.carried turn.ordered turn.within (omega (arith, few))

pub loop-done-init : goal.loop-done-init
loop-done-init c =
    subst (λ (p : PageState). IsPageAfter p c.args.forces c.args.ops.now 0 (page_of c.self.inside)) c.self.view_is
    (page_before (page_of c.self.inside) c.args.forces c.args.ops.now c.self.invariant)

pub accept-requires-clause-upright : goal.accept-requires-clause-upright
accept-requires-clause-upright c = rw c.edit_with-edit.ensures (turn_now (goal.at.accept-requires-clause-upright c).After-edit_with-edit).ordered

pub accept-requires-clause-fits : goal.accept-requires-clause-fits
accept-requires-clause-fits c = rw c.edit_with-edit.ensures (moved_now (goal.at.accept-requires-clause-fits c).After-edit_with-edit).fits

pub replace_again-dirty-requires-clause-ordered : goal.replace_again-dirty-requires-clause-ordered
replace_again-dirty-requires-clause-ordered c = (turn_now (goal.at.replace_again-dirty-requires-clause-ordered c).After-edit_with-edit).ordered

pub replace_again-dirty-requires-clause-within : goal.replace_again-dirty-requires-clause-within
replace_again-dirty-requires-clause-within c = (turn_now (goal.at.replace_again-dirty-requires-clause-within c).After-edit_with-edit).within

pub replace_again-dirty-requires-clause-room : goal.replace_again-dirty-requires-clause-room
replace_again-dirty-requires-clause-room c =
    let at = (goal.at.replace_again-dirty-requires-clause-room c).After-edit_with-edit in
    let turn = turn_now at in
    room_now c.args.self.now.text c.args.ops.now c.loop-done.self-inside.text c.loop-done.done (op_of c.op-op.result) c.loop-done.invariant.text turn
    c.requires.room.text

pub replace_again-dirty-requires-clause-small : goal.replace_again-dirty-requires-clause-small
replace_again-dirty-requires-clause-small c =
    let few = small (goal.at.replace_again-dirty-requires-clause-small c).After-edit_with-edit in
    omega (arith, few)

pub replace_again-dirty-requires-clause-kind : goal.replace_again-dirty-requires-clause-kind
replace_again-dirty-requires-clause-kind c =
    let turn = turn_now (goal.at.replace_again-dirty-requires-clause-kind c).After-edit_with-edit in
    let keeps = c.requires.keeps (length c.args.ops.now - (c.loop-done.done + 1)) in
    rw c.loop-done.invariant.text.kind (subst (IsOfKind c.args.self.now.text.kind) turn.leaves keeps)

-- the answer of the edit
dirty_is : (c : After-replace_again-dirty) → c.replace_again-dirty.result ≡ dirty_lines c.loop-done.self-inside.text.units c.op-op.result.span c.op-op.result.text.now
dirty_is c = c.replace_again-dirty.ensures.dirty

edit_is : (c : After-replace_again-dirty) → let d = c.replace_again-dirty.result in
    IsEdited d.first d.old d.new (lines_of c.loop-done.self-inside.text.units) (lines_of (edited c.loop-done.self-inside.text.units (op_of c.op-op.result)))
edit_is c =
    let ops = c.args.ops.now in
    let op = op_of c.op-op.result in
    let inside = subst (λ (n : ℕ). c.loop-done.done < n) c.len-count.ensures c.loop-done-test.true in
    let is = subst (λ (n : ℕ). op ≡ slice_index_or ops (n - 1 - c.loop-done.done) op) c.len-count.ensures c.op-op.ensures in
    let turn = turn c.args.self.now.text.units ops c.loop-done.done op _ c.requires.standing inside is c.loop-done.invariant.text.units in
    touched c.loop-done.self-inside.text.units (op_of c.op-op.result) c.replace_again-dirty.result (dirty_is c) turn.ordered turn.within

pub mark-requires-clause-first : goal.mark-requires-clause-first
mark-requires-clause-first c = (edit_is (goal.at.mark-requires-clause-first c).After-replace_again-dirty).first_is

pub mark-requires-clause-some : goal.mark-requires-clause-some
mark-requires-clause-some c = (edit_is (goal.at.mark-requires-clause-some c).After-replace_again-dirty).some

pub mark-requires-clause-new : goal.mark-requires-clause-new
mark-requires-clause-new c = (edit_is (goal.at.mark-requires-clause-new c).After-replace_again-dirty).more

pub mark-requires-clause-room : goal.mark-requires-clause-room
mark-requires-clause-room c =
    let turn = turn_now (goal.at.mark-requires-clause-room c).After-edit_with-edit in
    omega (arith, c.loop-done.invariant.spare, c.requires.room.marks, turn.edits, turn.edits_left)

pub mark-requires-clause-within : goal.mark-requires-clause-within
mark-requires-clause-within c =
    let edit = edit_is (goal.at.mark-requires-clause-within c).After-replace_again-dirty in
    omega (arith, edit.within, c.loop-done.invariant.lines)

pub mark-requires-clause-fits : goal.mark-requires-clause-fits
mark-requires-clause-fits c =
    let edit = edit_is (goal.at.mark-requires-clause-fits c).After-replace_again-dirty in
    marks_fit c.loop-done.self-inside.text.units (op_of c.op-op.result) c.replace_again-dirty.result edit c.loop-done.self-inside.last.marks c.loop-done.invariant.lines
    (small (goal.at.mark-requires-clause-fits c).After-edit_with-edit)

pub loop-done-preserved : goal.loop-done-preserved
loop-done-preserved c =
    let first = c.args.self.now in
    let ops = c.args.ops.now in
    let done = c.loop-done.done in
    let now = c.loop-done.self-inside in
    let before = c.loop-done.invariant in
    let op = op_of c.op-op.result in
    let at = (goal.at.loop-done-preserved c).After-edit_with-edit in
    let turn = turn_now at in
    let moved = moved_now at in
    let dirty = dirty_is (goal.at.loop-done-preserved c).After-replace_again-dirty in
    let edit = edit_is (goal.at.loop-done-preserved c).After-replace_again-dirty in
    let set : c.accept.new.self ≡ record { marks = in_order (map (moved_mark (edit_with c.args.forces op)) now.decorations.marks); next_id = now.decorations.next_id } =
    rw (← c.edit_with-edit.ensures) c.accept.ensures.moved in
    let left : c.replace_again-dirty.new.self.units ≡ edited now.text.units op = c.replace_again-dirty.ensures.units in
    let spent : HasSpent (need_of_edit op.text) now.text.room c.replace_again-dirty.new.self.room = c.replace_again-dirty.ensures.spent in
    record {
      text = text_turn first.text ops now.text done op before.text turn c.replace_again-dirty.new.self left c.replace_again-dirty.ensures.kind c.replace_again-dirty.ensures.pieces c.replace_again-dirty.ensures.grown spent;
      carried = set ∙ sym moved.leaves;
      inside = record { sound = c.accept.ensures.sound; inside = rw (left, set) moved.inside };
      marks = c.mark.ensures.marks ∙ marked now.text.units op c.replace_again-dirty.result dirty now.last.marks
          ∙ marked_turn first.text.units ops first.marks done op now.text.units now.last.marks
          (inside at) (op_is at) before.text.units before.marks;
      lines = ap length c.mark.ensures.marks ∙ marks_lines now.text.units op c.replace_again-dirty.result edit now.last.marks before.lines
          ∙ ap (λ u. length (lines_of u)) (sym left);
      spare = omega (arith, before.spare, c.mark.ensures.room, turn.edits);
      appended = omega (arith, before.appended, c.replace_again-dirty.ensures.eight, turn.edits, turn.units);
      parse = record {
        scanner = before.parse.scanner;
        parsed = c.mark.ensures.parsed ∙ before.parse.parsed;
        tree = c.mark.ensures.tree ∙ before.parse.tree;
        states = c.mark.ensures.states ∙ before.parse.states;
      };
    }

pub invariant_of-self : goal.invariant_of-self
invariant_of-self c =
    still_page c.args.self.now (page_of c.loop-done.self-inside) c.args.forces c.args.ops.now c.loop-done.done c.requires (omega arith) (omega arith) c.loop-done.invariant
    (subst IsPage c.self.view_is c.self.invariant)

pub returns : goal.returns
returns c =
    let all = page_after c.args.self.now (page_of c.loop-done.self-inside) c.args.forces c.args.ops.now c.loop-done.done c.requires (omega arith) (omega arith) c.loop-done.invariant in
    record { text = all.text; decorations = all.decorations; marks = all.marks; parse = all.parse; grown = all.grown; spent = all.spent }

use Rattle.std.proofs.Common.{◌≡◌, ◌+◌, ◌<◌, slice_get, Some, None, Err, refl, ap, sym, subst, ◌∙◌, arith}
use Rattle.std.proofs.lemmas.Grind.{common_steps}
use Rattle.edit_stack.specs.Element.{step_of}
use Rattle.document_rules.specs.Refusals.{limit}
use Rattle.document_rules.specs.Document.{greatest_version}
use Rattle.model_core.specs.State.{ModelState}
use Rattle.model_page.specs.Needs.{need_along}
use Rattle.model_page.specs.State.{HasRoom, flat_text}
use Rattle.model_page.proofs.Turns.{few_by}
use Rattle.model_core.specs.Ways.{next_steps, flat_move}
use Rattle.model_core.proofs.Stepping.{IsStep, step_on, no_next_on}
use Rattle.model_core.proofs.Untouched.{history_untouched, shelf_untouched, document_untouched}
use Rattle.model_core.proofs.Preparing.{move_ready}
use Rattle.snapshots.specs.Shown as shelves
use Rattle.model_core.proofs.model.Model.prepare_move.Goals as goal
use Rattle.model_core.proofs.model.Model.prepare_move.Goals.{In-Some}

step_taken : (c : In-Some)
    → IsStep c.args.way (flat_text c.self.inside.page.text) c.self.inside.version c.self.inside.alternative c.self.inside.page.decorations c.self.inside.page.scanner
    (shelves.shown c.self.inside.page.text.buffers c.self.inside.shelf) c.self.inside.latest c.self.inside.history.stack (step_of c.in-Some.step.now)
step_taken c =
    let next : slice_get (next_steps c.args.way c.self.inside.history.stack) 0 ≡ Some (step_of c.in-Some.step.now) = grind (arith, common_steps) in
    step_on c.args.way _ _ _ _ _ _ c.self.inside.latest c.self.inside.history.stack _ next c.self.invariant.1

pub returns-in_default-clause-ready : goal.returns-in_default-clause-ready
returns-in_default-clause-ready c =
    let m = c.self.inside in
    let none : slice_get (next_steps c.args.way m.history.stack) 0 ≡ None = grind (arith, common_steps) in
    sym (ap (λ (s : ModelState). next_steps c.args.way s.document.history) c.self.view_is) ∙ no_next_on c.args.way (flat_text m.page.text) m.history.stack none

pub need_of_step-requires : goal.need_of_step-requires
need_of_step-requires c =
    let step = step_taken (goal.at.need_of_step-requires c).In-Some in
    few_by c.args.way (flat_text c.self.inside.page.text) (step_of c.in-Some.step.now).changes step.lead

pub returns-in_err-next-clause-ready : goal.returns-in_err-next-clause-ready
returns-in_err-next-clause-ready c =
    let way = c.args.way in
    let step = step_taken (goal.at.returns-in_err-next-clause-ready c).In-Some in
    let last : greatest_version < c.self.inside.version + 1 = grind (arith, common_steps) in
    let refused : flat_move way c.args.self.now.document ≡ Err limit = sym (ap (λ (s : ModelState). flat_move way s.document) c.self.view_is) ∙ step.refused last in
    grind (arith, common_steps)

pub invariant_of-self : goal.invariant_of-self
invariant_of-self c =
    let m = c.self.inside in
    let same = c.reserve.ensures.same in (
      c.self.invariant.0,
      history_untouched m.page c.reserve.new.self same m.history.stack m.history.stack refl c.self.invariant.1,
      shelf_untouched m.page c.reserve.new.self same m.shelf c.self.invariant.2,
      c.self.invariant.3,
    )

pub returns-in_err-map_err-clause-document : goal.returns-in_err-map_err-clause-document
returns-in_err-map_err-clause-document c =
    let m = c.self.inside in
    document_untouched m.page c.reserve.new.self c.reserve.ensures.same m.history.stack m.history.stack refl
    m.shelf c.self.invariant.2 m.version m.alternative m.latest _ (ap (λ (s : ModelState). s.document) c.self.view_is)

pub invariant_of-self-2 : goal.invariant_of-self-2
invariant_of-self-2 c =
    let m = c.self.inside in
    let same = c.reserve.ensures.same in (
      c.self.invariant.0,
      history_untouched m.page c.reserve.new.self same m.history.stack m.history.stack refl c.self.invariant.1,
      shelf_untouched m.page c.reserve.new.self same m.shelf c.self.invariant.2,
      c.self.invariant.3,
    )

pub returns-clause-document : goal.returns-clause-document
returns-clause-document c =
    let m = c.self.inside in
    document_untouched m.page c.reserve.new.self c.reserve.ensures.same m.history.stack m.history.stack refl
    m.shelf c.self.invariant.2 m.version m.alternative m.latest _ (ap (λ (s : ModelState). s.document) c.self.view_is)

pub returns-clause-ready : goal.returns-clause-ready
returns-clause-ready c =
    let way = c.args.way in
    let changes = (step_of c.in-Some.step.now).changes in
    let same = c.reserve.ensures.same in
    let step = step_taken (goal.at.returns-clause-ready c).In-Some in
    let next : c.in_ok-next.next ≡ c.self.inside.version + 1 = grind (arith, common_steps) in
    let told : c.in_ok-need.need ≡ need_along way changes = grind (arith, common_steps) in
    let enough : HasRoom c.reserve.new.self c.in_ok-need.need = grind (arith, common_steps) in
    let room : HasRoom c.reserve.new.self (need_along way changes) = subst (HasRoom c.reserve.new.self) told enough in
    let edits = step.edits in
    let units = step.units in
    let breaks = step.breaks in
    move_ready way _ c.making.result c.making.ensures.action (omega (arith, next, c.making.ensures.version)) (grind (arith, common_steps))
    (rw (same.units, same.kind) step.next)
    (record {
      text = rw (same.units, same.kind) (record {
        edits = omega (arith, edits, room.text.edits);
        units = omega (arith, edits, units, room.text.units);
        breaks = omega (arith, edits, breaks, room.text.breaks);
      });
      marks = rw (same.units, same.kind) (omega (arith, edits, room.marks));
      changes = omega arith;
    })

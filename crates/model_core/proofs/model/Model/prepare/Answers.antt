use Rattle.std.proofs.Common.{◌≡◌, ◌+◌, ◌≤◌, ◌∙◌, Ok, refl, ap, subst, arith}
use Rattle.std.proofs.lemmas.Grind.{common_steps}
use Rattle.batch_rules.specs.Batches.{checked_batch, sorted_ops, ops_in, inverse_from}
use Rattle.edit_batches.specs.Outcomes.{Checks}
use Rattle.text_buffer.specs.Text.{Text}
use Rattle.batch_rules.proofs.Standing.{accepted, text_units_applied}
use Rattle.document_rules.specs.Document.{greatest_version}
use Rattle.model_core.specs.State.{ModelState}
use Rattle.text_batches.specs.Needs.{need_of_ops}
use Rattle.model_page.specs.declared.change.Change.{Change}
use Rattle.model_page.specs.declared.change.Change.TheVariants.{Ops}
use Rattle.model_page.specs.declared.change.Way.TheVariants.{On}
use Rattle.model_page.specs.Changes.{ops_by}
use Rattle.model_page.specs.State.{PageState, IsUntouched, flat_text}
use Rattle.model_core.specs.declared.ready.Action.TheVariants.{Make}
use Rattle.model_core.proofs.Untouched.{history_untouched, shelf_untouched, document_untouched}
use Rattle.model_core.proofs.Preparing.{told_of_all, accepted_of_all, edit_ready}
use Rattle.model_core.proofs.model.Model.prepare.Goals as goal
use Rattle.model_core.proofs.model.Model.prepare.Goals.{After-checked, After-raised, After-reserve, After-reserve-2}

-- the page is as it was before the look-up, too
kept : (c : After-reserve-2) → IsUntouched c.self.inside.page c.reserve-2.new.self
kept c = subst (λ (page : PageState). IsUntouched page c.reserve-2.new.self) c.seek.ensures c.reserve-2.ensures.same

-- what is told of the text of before
told : (c : After-checked) → Checks c.checked.result (checked_batch c.seek.new.self.text.kind c.seek.new.self.text.units c.in_ok-ops.ops)
told c = subst (λ (t : Text). Checks c.checked.result (checked_batch t.kind t.units c.in_ok-ops.ops)) c.text.ensures.text c.checked.ensures.rule

-- the ops in their order
sorted_at : (c : After-checked) → c.in_ok-ops.ops ≡ sorted_ops c.args.ops.items
sorted_at c = grind (arith, common_steps)

-- what was told is the batch
taken : (c : After-raised) → c.checked.result ≡ Ok c.in_ok-batch.batch
taken c = grind (arith, common_steps)

-- it is kept with the one that takes it back
changed : (c : After-reserve) → c.in_ok-change.change ≡ Ops c.in_ok-batch.batch (inverse_from 0 0 c.seek.new.self.text.units c.in_ok-batch.batch)
changed c = grind (arith, common_steps)

pub need_of-need-requires : goal.need_of-need-requires
need_of-need-requires c =
    let x = c.seek.new.self.text in
    let rule = accepted_of_all (flat_text x) c.args.ops.items c.in_ok-ops.ops c.in_ok-batch.batch c.checked.result
    (sorted_at (goal.at.need_of-need-requires c).After-checked) (told (goal.at.need_of-need-requires c).After-checked) (taken (goal.at.need_of-need-requires c).After-raised) in
    let ok = accepted x.kind x.units (ops_in x.kind c.args.ops.items) c.in_ok-batch.batch rule in
    let is = changed (goal.at.need_of-need-requires c).After-reserve in
    rw is (omega (arith, text_units_applied 0 x.units c.in_ok-batch.batch ok.standing, ok.fits))

pub invariant_of-self-in_err-map_err-2 : goal.invariant_of-self-in_err-map_err-2
invariant_of-self-in_err-map_err-2 c =
    let m = c.self.inside in
    let same = kept (goal.at.invariant_of-self-in_err-map_err-2 c).After-reserve-2 in
    let stack : c.reserve.new.self.stack ≡ m.history.stack = grind (arith, common_steps) in (
      c.self.invariant.0,
      history_untouched m.page c.reserve-2.new.self same m.history.stack c.reserve.new.self.stack stack c.self.invariant.1,
      shelf_untouched m.page c.reserve-2.new.self same m.shelf c.self.invariant.2,
      rw stack c.self.invariant.3,
    )

pub returns-in_err-map_err-2-clause-document : goal.returns-in_err-map_err-2-clause-document
returns-in_err-map_err-2-clause-document c =
    let m = c.self.inside in
    let stack : c.reserve.new.self.stack ≡ m.history.stack = grind (arith, common_steps) in
    document_untouched m.page c.reserve-2.new.self (kept (goal.at.returns-in_err-map_err-2-clause-document c).After-reserve-2) m.history.stack c.reserve.new.self.stack stack
    m.shelf c.self.invariant.2 m.version m.alternative m.latest _ (ap (λ (s : ModelState). s.document) c.self.view_is)

pub invariant_of-self-2 : goal.invariant_of-self-2
invariant_of-self-2 c =
    let m = c.self.inside in
    let same = kept (goal.at.invariant_of-self-2 c).After-reserve-2 in
    let stack : c.reserve.new.self.stack ≡ m.history.stack = grind (arith, common_steps) in (
      c.self.invariant.0,
      history_untouched m.page c.reserve-2.new.self same m.history.stack c.reserve.new.self.stack stack c.self.invariant.1,
      shelf_untouched m.page c.reserve-2.new.self same m.shelf c.self.invariant.2,
      rw stack c.self.invariant.3,
    )

pub returns-clause-document : goal.returns-clause-document
returns-clause-document c =
    let m = c.self.inside in
    let stack : c.reserve.new.self.stack ≡ m.history.stack = grind (arith, common_steps) in
    document_untouched m.page c.reserve-2.new.self (kept (goal.at.returns-clause-document c).After-reserve-2) m.history.stack c.reserve.new.self.stack stack
    m.shelf c.self.invariant.2 m.version m.alternative m.latest _ (ap (λ (s : ModelState). s.document) c.self.view_is)

pub returns-clause-ready : goal.returns-clause-ready
returns-clause-ready c =
    let m = c.self.inside in
    let x = c.seek.new.self.text in
    let sorted = c.in_ok-batch.batch in
    let text = c.reserve-2.ensures.same.units in
    let kind = c.reserve-2.ensures.same.kind in
    let rule = accepted_of_all (flat_text x) c.args.ops.items c.in_ok-ops.ops c.in_ok-batch.batch c.checked.result
    (sorted_at (goal.at.returns-clause-ready c).After-checked) (told (goal.at.returns-clause-ready c).After-checked) (taken (goal.at.returns-clause-ready c).After-raised) in
    let is = changed (goal.at.returns-clause-ready c).After-reserve in
    let need : c.need_of-need.result ≡ need_of_ops sorted = c.need_of-need.ensures ∙ ap (λ (change : Change). need_of_ops (ops_by On change)) is in
    let next : c.in_ok-next.next ≡ m.version + 1 = grind (arith, common_steps) in
    let last : c.in_ok-next.next ≤ greatest_version = grind (arith, common_steps) in
    edit_ready _ c.args.ops.items sorted (inverse_from 0 0 x.units sorted) c.making.result (rw (text, kind) rule) (rw text refl)
    (c.making.ensures.action ∙ ap (λ (change : Change). Make change) is)
    (omega (arith, next, c.making.ensures.version)) (grind (arith, common_steps)) (omega (arith, next, last))
    (record {
      text = record {
        edits = grind (arith, common_steps, need);
        units = grind (arith, common_steps, need);
        breaks = grind (arith, common_steps, need);
      };
      marks = grind (arith, common_steps, need);
      changes = grind (arith, common_steps);
    })

pub returns-in_err-batch-clause-ready : goal.returns-in_err-batch-clause-ready
returns-in_err-batch-clause-ready c =
    let known = told_of_all (flat_text c.seek.new.self.text) c.args.ops.items c.in_ok-ops.ops c.checked.result (grind (arith, common_steps)) (told (goal.at.returns-in_err-batch-clause-ready c).After-checked) in
    grind (arith, common_steps, known)

pub returns-in_err-next-clause-ready : goal.returns-in_err-next-clause-ready
returns-in_err-next-clause-ready c =
    let known = told_of_all (flat_text c.seek.new.self.text) c.args.ops.items c.in_ok-ops.ops c.checked.result (grind (arith, common_steps)) (told (goal.at.returns-in_err-next-clause-ready c).After-checked) in
    grind (arith, common_steps, known)

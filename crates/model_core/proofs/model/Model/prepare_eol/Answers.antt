use Rattle.std.proofs.Common.{◌≡◌, ◌+◌, ◌≤◌, ◌∙◌, false, length, ap, arith}
use Rattle.std.proofs.lemmas.Grind.{common_steps}
use Rattle.unit_text.specs.Kinds.{normalized}
use Rattle.batch_rules.specs.Batches.{most_units}
use Rattle.decoration_rules.specs.Recasts.{RecastState}
use Rattle.document_rules.specs.Document.{greatest_version, is_same_kind}
use Rattle.text_batches.specs.Needs.{need_of_ops}
use Rattle.model_page.specs.declared.change.Change.TheVariants.{Endings}
use Rattle.model_page.specs.declared.change.Way.TheVariants.{On}
use Rattle.model_page.specs.Changes.{ops_by}
use Rattle.model_core.specs.declared.ready.Action.TheVariants.{Make}
use Rattle.model_core.specs.State.{ModelState}
use Rattle.model_core.proofs.Untouched.{history_untouched, shelf_untouched, document_untouched}
use Rattle.model_core.proofs.Preparing.{eol_ready}
use Rattle.model_core.proofs.model.Model.prepare_eol.Goals as goal

pub invariant_of-self-in_err-map_err-2 : goal.invariant_of-self-in_err-map_err-2
invariant_of-self-in_err-map_err-2 c =
    let m = c.self.inside in
    let same = c.reserve-2.ensures.same in
    let stack : c.reserve.new.self.stack ≡ m.history.stack = grind (arith, common_steps) in (
      c.self.invariant.0,
      history_untouched m.page c.reserve-2.new.self same m.history.stack c.reserve.new.self.stack stack c.self.invariant.1,
      shelf_untouched m.page c.reserve-2.new.self same m.shelf c.self.invariant.2,
      rw stack c.self.invariant.3,
    )

pub returns-in_err-map_err-2-clause-document : goal.returns-in_err-map_err-2-clause-document
returns-in_err-map_err-2-clause-document c =
    let m = c.self.inside in
    let stack : c.reserve.new.self.stack ≡ m.history.stack = grind (arith, common_steps) in
    document_untouched m.page c.reserve-2.new.self c.reserve-2.ensures.same m.history.stack c.reserve.new.self.stack stack
    m.shelf c.self.invariant.2 m.version m.alternative m.latest _ (ap (λ (s : ModelState). s.document) c.self.view_is)

pub invariant_of-self-2 : goal.invariant_of-self-2
invariant_of-self-2 c =
    let m = c.self.inside in
    let same = c.reserve-2.ensures.same in
    let stack : c.reserve.new.self.stack ≡ m.history.stack = grind (arith, common_steps) in (
      c.self.invariant.0,
      history_untouched m.page c.reserve-2.new.self same m.history.stack c.reserve.new.self.stack stack c.self.invariant.1,
      shelf_untouched m.page c.reserve-2.new.self same m.shelf c.self.invariant.2,
      rw stack c.self.invariant.3,
    )

pub returns-clause-document : goal.returns-clause-document
returns-clause-document c =
    let m = c.self.inside in
    let stack : c.reserve.new.self.stack ≡ m.history.stack = grind (arith, common_steps) in
    document_untouched m.page c.reserve-2.new.self c.reserve-2.ensures.same m.history.stack c.reserve.new.self.stack stack
    m.shelf c.self.invariant.2 m.version m.alternative m.latest _ (ap (λ (s : ModelState). s.document) c.self.view_is)

pub returns-clause-ready : goal.returns-clause-ready
returns-clause-ready c =
    let m = c.self.inside in
    let same = c.reserve-2.ensures.same in
    let kind = c.args.kind in
    let recast : RecastState = c.in_ok-recast.recast in
    let next : c.in_ok-next.next ≡ m.version + 1 = grind (arith, common_steps) in
    let last : c.in_ok-next.next ≤ greatest_version = grind (arith, common_steps) in
    let other : is_same_kind kind m.page.text.kind ≡ false = grind (arith, common_steps) in
    let is : recast ≡ record { before = m.page.text.units; from = m.page.text.kind; after = normalized kind m.page.text.units; to = kind } =
    grind (arith, common_steps) in
    let fits : length recast.after ≤ most_units = grind (arith, common_steps) in
    let placed : c.in_ok-placed.placed ≡ recast = grind (arith, common_steps) in
    let need : c.need_of-need.result ≡ need_of_ops (ops_by On (Endings recast)) = c.need_of-need.ensures ∙ ap (λ (r : RecastState). need_of_ops (ops_by On (Endings r))) placed in
    eol_ready _ kind recast c.making.result (rw same.kind other) (rw (same.units, same.kind) is)
    (rw same.units (omega (arith, fits, ap (λ (r : RecastState). length r.after) is)))
    (c.making.ensures.action ∙ ap (λ (r : RecastState). Make (Endings r)) placed) (omega (arith, next, c.making.ensures.version)) (grind (arith, common_steps)) (omega (arith, next, last))
    (record {
      text = record {
        edits = grind (arith, common_steps, need);
        units = grind (arith, common_steps, need);
        breaks = grind (arith, common_steps, need);
      };
      marks = grind (arith, common_steps, need);
      changes = grind (arith, common_steps);
    })

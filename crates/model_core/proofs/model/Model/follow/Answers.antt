use Rattle.std.proofs.Common.{◌≡◌, ◌+◌, ◌≤◌, length, slice_get, Some, None, Ok, refl, ap, sym, ◌∙◌, arith}
use Rattle.std.proofs.lemmas.Grind.{common_steps}
use Rattle.edit_stack.specs.Element.{step_of}
use Rattle.document_rules.specs.Document.{FlatText, FlatState, greatest_version}
use Rattle.snapshots.specs.Shown as shelves
use Rattle.model_page.specs.Counts.{edit_count_along, marking_count, unit_count, breaks_along}
use Rattle.model_page.specs.State.{flat_text, is_fresh}
use Rattle.model_page.specs.Ways.{text_by, changes_by, decorations_by, marked_along}
use Rattle.model_page.specs.LineMarks.{marked_step}
use Rattle.model_page.proofs.Staying.{marked_by_way, kept_as}
use Rattle.model_core.specs.State.{ModelState}
use Rattle.model_core.specs.History.{latest_along}
use Rattle.model_core.specs.Prepared.{next_edit_count, next_marking_count, next_unit_count, next_break_count}
use Rattle.model_core.specs.Ways.{next_steps, passed, alternative_after, flat_move}
use Rattle.model_core.proofs.Shelving.{shown-grown, IsShelf-grown}
use Rattle.model_core.proofs.Held.{held_grows}
use Rattle.model_core.proofs.LastChanges.{from_one}
use Rattle.model_core.proofs.Stepping.{document_of, IsStep, step_on, no_next_on}
use Rattle.model_core.proofs.model.Model.follow.Goals as goal
use Rattle.model_core.proofs.model.Model.follow.Goals.{In-Some, After-lead}

step_taken : (c : In-Some)
    → IsStep c.args.way (flat_text c.self.inside.page.text) c.self.inside.version c.self.inside.alternative c.self.inside.page.decorations c.self.inside.page.scanner
    (shelves.shown c.self.inside.page.text.buffers c.self.inside.shelf) c.self.inside.latest c.self.inside.history.stack (step_of c.in-Some.step.now)
step_taken c =
    let next : slice_get (next_steps c.args.way c.self.inside.history.stack) 0 ≡ Some (step_of c.in-Some.step.now) = grind (arith, common_steps) in
    step_on c.args.way _ _ _ _ _ _ c.self.inside.latest c.self.inside.history.stack _ next c.self.invariant.1

shelf_after : (c : After-lead)
    → shelves.shown c.lead.new.self.text.buffers c.self.inside.shelf ≡ shelves.shown c.self.inside.page.text.buffers c.self.inside.shelf
shelf_after c = shown-grown c.self.inside.page.text.buffers c.lead.new.self.text.buffers c.self.inside.shelf c.lead.ensures.grown.buffers c.self.invariant.2

pub unreachable-requires : goal.unreachable-requires
unreachable-requires c =
    let m = c.self.inside in
    let way = c.args.way in
    let none : slice_get (next_steps way m.history.stack) 0 ≡ None = grind (arith, common_steps) in
    let empty : length (next_steps way c.args.self.now.document.history) ≡ 0 =
    sym (ap (λ (s : ModelState). length (next_steps way s.document.history)) c.self.view_is) ∙ ap length (no_next_on way (flat_text m.page.text) m.history.stack none) in
    omega (arith, c.requires.some, empty)

pub lead-requires : goal.lead-requires
lead-requires c =
    let way = c.args.way in
    let step = step_taken (goal.at.lead-requires c).In-Some in
    let edits : edit_count_along way (step_of c.in-Some.step.now).changes ≡ next_edit_count way (next_steps way c.args.self.now.document.history) =
    sym step.edits ∙ ap (λ (s : ModelState). next_edit_count way (next_steps way s.document.history)) c.self.view_is in
    let units : unit_count way (step_of c.in-Some.step.now).changes ≡ next_unit_count way (next_steps way c.args.self.now.document.history) =
    sym step.units ∙ ap (λ (s : ModelState). next_unit_count way (next_steps way s.document.history)) c.self.view_is in
    let breaks : breaks_along way (step_of c.in-Some.step.now).changes ≡ next_break_count way (next_steps way c.args.self.now.document.history) =
    sym step.breaks ∙ ap (λ (s : ModelState). next_break_count way (next_steps way s.document.history)) c.self.view_is in
    record {
      lead = step.lead;
      room = record {
        text = record {
          edits = omega (arith, edits, c.requires.room.text.edits, ap (λ (s : ModelState). s.room.text.edits) c.self.view_is);
          units = omega (arith, edits, units, c.requires.room.text.units, ap (λ (s : ModelState). s.room.text.units) c.self.view_is);
          breaks = omega (arith, edits, breaks, c.requires.room.text.breaks, ap (λ (s : ModelState). s.room.text.breaks) c.self.view_is);
        };
        marks = omega (arith, edits, c.requires.room.marks, ap (λ (s : ModelState). s.room.marks) c.self.view_is);
      };
    }

pub pass_step-requires : goal.pass_step-requires
pass_step-requires c = (step_taken (goal.at.pass_step-requires c).In-Some).some

pub invariant_of-self : goal.invariant_of-self
invariant_of-self c =
    let m = c.self.inside in
    let first = from_one m.latest m.version m.history.stack c.self.invariant.3 in
    let next = ap (λ (s : ModelState). s.document.version) c.self.view_is in
    let step = step_taken (goal.at.invariant_of-self c).In-Some in
    let stack : c.pass_step.new.history.stack ≡ passed c.args.way m.history.stack = grind (arith, common_steps) in (
      c.requires.last,
      rw (c.lead.ensures.text, stack) step.history,
      IsShelf-grown m.page.text.buffers c.lead.new.self.text.buffers m.shelf c.lead.ensures.grown.buffers c.self.invariant.2,
      rw (c.along.ensures, stack) (omega (arith, first), step.there),
    )

pub returns-clause-document : goal.returns-clause-document
returns-clause-document c =
    let m = c.self.inside in
    let way = c.args.way in
    let shown = step_of c.in-Some.step.now in
    let after = (goal.at.returns-clause-document c).After-lead in
    let step = step_taken (goal.at.returns-clause-document c).In-Some in
    let stack : c.pass_step.new.history.stack ≡ passed way m.history.stack = grind (arith, common_steps) in
    let version : c.args.version ≡ m.version + 1 = omega (arith, c.requires.next, ap (λ (s : ModelState). s.document.version) c.self.view_is) in
    let few : m.version + 1 ≤ greatest_version = omega (arith, version, c.requires.last) in
    let alternative : c.alternative_after-self-inside.result ≡ alternative_after way shown = grind (arith, common_steps) in
    let text = text_by way (flat_text m.page.text) shown.changes in
    let same : document_of (flat_text c.lead.new.self.text) c.args.version c.alternative_after-self-inside.result c.lead.new.self.decorations c.lead.new.self.scanner
    (shelves.shown c.lead.new.self.text.buffers m.shelf) (Some c.along.result) c.pass_step.new.history.stack
    ≡ document_of text (m.version + 1) (alternative_after way shown) (decorations_by way m.page.decorations shown.changes) m.page.scanner
    (shelves.shown m.page.text.buffers m.shelf) (Some (latest_along way)) (passed way m.history.stack) =
    ap (λ (t : FlatText). document_of t c.args.version c.alternative_after-self-inside.result c.lead.new.self.decorations c.lead.new.self.scanner
    (shelves.shown c.lead.new.self.text.buffers m.shelf) (Some c.along.result) c.pass_step.new.history.stack) c.lead.ensures.text
    ∙ rw (c.lead.ensures.decorations, c.lead.ensures.parse.scanner, stack, version, alternative, shelf_after after, c.along.ensures) refl in
    sym (ap (λ (s : ModelState). flat_move way s.document) c.self.view_is) ∙ step.accepted few ∙ ap (λ (f : FlatState). Ok (Some f)) (sym same)

pub returns-clause-parse : goal.returns-clause-parse
returns-clause-parse c =
    let page = c.self.inside.page in
    let way = c.args.way in
    let changes = (step_of c.in-Some.step.now).changes in
    let step = step_taken (goal.at.returns-clause-parse c).In-Some in
    let ops : edit_count_along way changes ≡ next_edit_count way (next_steps way c.args.self.now.document.history) =
    sym step.edits ∙ ap (λ (s : ModelState). next_edit_count way (next_steps way s.document.history)) c.self.view_is in
    let marking : marking_count way changes ≡ next_marking_count (next_steps way c.args.self.now.document.history) =
    sym step.marking ∙ ap (λ (s : ModelState). next_marking_count (next_steps way s.document.history)) c.self.view_is in
    let fresh : is_fresh page ≡ c.args.self.now.fresh = ap (λ (s : ModelState). s.fresh) c.self.view_is in
    record {
      parsed = c.lead.ensures.parse.parsed ∙ ap (λ (s : ModelState). s.parsed) c.self.view_is;
      tree = c.lead.ensures.parse.tree ∙ ap (λ (s : ModelState). s.tree) c.self.view_is;
      states = c.lead.ensures.parse.states ∙ ap (λ (s : ModelState). s.states) c.self.view_is;
      marks = c.lead.ensures.marks ∙ sym (step.marks page.marks) ∙ ap (λ (s : ModelState). marked_step way s.marks (next_steps way s.document.history)) c.self.view_is;
      fresh = kept_as (marking_count way changes) (next_marking_count (next_steps way c.args.self.now.document.history)) page.tree c.lead.new.self.tree page.marks
          (marked_along way page.marks (changes_by way (flat_text page.text) changes)) c.lead.new.self.marks c.args.self.now.fresh marking c.lead.ensures.parse.tree c.lead.ensures.marks fresh
          (marked_by_way way page.marks (flat_text page.text) changes step.lead);
      pieces = omega (arith, c.lead.ensures.grown.pieces, ops, ap (λ (s : ModelState). s.pieces) c.self.view_is);
    }

pub returns-clause-held : goal.returns-clause-held
returns-clause-held c =
    let way = c.args.way in
    let changes = (step_of c.in-Some.step.now).changes in
    let step = step_taken (goal.at.returns-clause-held c).In-Some in
    let was = ap (λ (s : ModelState). s.held) c.self.view_is in
    let edits : edit_count_along way changes ≡ next_edit_count way (next_steps way c.args.self.now.document.history) =
    sym step.edits ∙ ap (λ (s : ModelState). next_edit_count way (next_steps way s.document.history)) c.self.view_is in
    let units : unit_count way changes ≡ next_unit_count way (next_steps way c.args.self.now.document.history) =
    sym step.units ∙ ap (λ (s : ModelState). next_unit_count way (next_steps way s.document.history)) c.self.view_is in record {
      kept = omega (arith, was, held_grows c.self.inside.page.text.buffers c.lead.new.self.text.buffers c.lead.ensures.grown.buffers);
      few = omega (arith, was, edits, units, c.lead.ensures.appended);
    }

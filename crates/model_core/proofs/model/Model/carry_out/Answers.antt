use Rattle.std.proofs.Common.{◌≡◌, ◌+◌, ◌<◌, ◌≤◌, Some, true, length, refl, ap, sym, subst, ◌∙◌, arith}
use Rattle.batch_rules.specs.Batches.{most_units}
use Rattle.document_rules.specs.Document.{FlatText, FlatState, greatest_version, text_now}
use Rattle.snapshots.specs.Shown as shelves
use Rattle.model_page.specs.declared.change.Way.TheVariants.{On}
use Rattle.model_page.specs.Carrying.{decorations_over}
use Rattle.model_page.specs.Changes.{led, Leads}
use Rattle.model_page.specs.Counts.{marking_ops}
use Rattle.model_page.specs.LineMarks.{marks_over}
use Rattle.model_page.specs.State.{flat_text, is_fresh}
use Rattle.model_page.proofs.Staying.{marked_over, kept_as}
use Rattle.model_page.proofs.Turns.{fit_on}
use Rattle.model_core.specs.declared.latest.Latest.TheVariants.{Made}
use Rattle.model_core.specs.History.{kept_with}
use Rattle.model_core.specs.Prepared.{IsChangeOf, Makes}
use Rattle.model_core.specs.State.{ModelState}
use Rattle.model_core.proofs.Editing.{change_leads, can_follow_change, made_document}
use Rattle.model_core.proofs.Held.{held_grows}
use Rattle.model_core.proofs.Histories.{IsHistory-kept}
use Rattle.model_core.proofs.LastChanges.{from_one, HasLatest-kept}
use Rattle.model_core.proofs.Shelving.{shown-grown, IsShelf-grown}
use Rattle.model_core.proofs.Stepping.{document_of}
use Rattle.model_core.proofs.model.Model.carry_out.Goals as goal
use Rattle.model_core.proofs.model.Model.carry_out.Goals.{After-text-before, After-text-after}

change_of : (c : After-text-before) → IsChangeOf (flat_text c.self.inside.page.text) c.args.change
change_of c = subst (λ (s : ModelState). IsChangeOf (text_now s.document) c.args.change) (sym c.self.view_is) c.requires.change

leads : (c : After-text-after) → IsChangeOf (flat_text c.self.inside.page.text) c.args.change → let text = flat_text c.self.inside.page.text in Leads text c.args.change (led On c.args.change text)
leads c is =
    let text = flat_text c.self.inside.page.text in
    let few : length (led On c.args.change text).units ≤ most_units =
    omega (arith, ap (λ (t : FlatText). length t.units) c.follow.ensures.text, c.text-after.ensures.fits) in
    change_leads text c.args.change is c.text-before.ensures.endings c.text-before.ensures.fits few

shelf_after : (c : After-text-after)
    → shelves.shown c.follow.new.self.text.buffers c.self.inside.shelf ≡ shelves.shown c.self.inside.page.text.buffers c.self.inside.shelf
shelf_after c = shown-grown c.self.inside.page.text.buffers c.follow.new.self.text.buffers c.self.inside.shelf c.follow.ensures.grown.buffers c.self.invariant.2

pub follow-requires : goal.follow-requires
follow-requires c =
    let room = c.requires.room in
    can_follow_change c.self.inside.page c.args.change (change_of (goal.at.follow-requires c).After-text-before) c.text-before.ensures.endings (record {
      text = record {
        edits = omega (arith, room.text.edits, ap (λ (s : ModelState). s.room.text.edits) c.self.view_is);
        units = omega (arith, room.text.units, ap (λ (s : ModelState). s.room.text.units) c.self.view_is);
        breaks = omega (arith, room.text.breaks, ap (λ (s : ModelState). s.room.text.breaks) c.self.view_is);
      };
      marks = omega (arith, room.marks, ap (λ (s : ModelState). s.room.marks) c.self.view_is);
    })

pub keep-requires : goal.keep-requires
keep-requires c = omega (arith, c.requires.room.changes, ap (λ (s : ModelState). s.room.changes) c.self.view_is)

pub invariant_of-self : goal.invariant_of-self
invariant_of-self c =
    let m = c.self.inside in
    let first = from_one m.latest m.version m.history.stack c.self.invariant.3 in
    let later : 1 < c.args.version = omega (arith, first, c.requires.next, ap (λ (s : ModelState). s.document.version) c.self.view_is) in
    let after = (goal.at.invariant_of-self c).After-text-after in
    let is = change_of (goal.at.invariant_of-self c).After-text-before in
    let text = flat_text m.page.text in
    let history = IsHistory-kept m.history.stack c.args.change text (led On c.args.change text) m.alternative c.args.version (leads after is) c.self.invariant.1 in (
      c.requires.last,
      rw (c.follow.ensures.text, c.keep.ensures) history,
      IsShelf-grown m.page.text.buffers c.follow.new.self.text.buffers m.shelf c.follow.ensures.grown.buffers c.self.invariant.2,
      rw c.keep.ensures (HasLatest-kept m.history.stack c.args.change m.alternative c.args.version c.args.version later),
    )

pub returns-clause-document : goal.returns-clause-document
returns-clause-document c =
    let m = c.self.inside in
    let after = (goal.at.returns-clause-document c).After-text-after in
    let is = change_of (goal.at.returns-clause-document c).After-text-before in
    let change = c.args.change in
    let text = flat_text m.page.text in
    let next : c.args.version ≡ m.version + 1 = omega (arith, c.requires.next, ap (λ (s : ModelState). s.document.version) c.self.view_is) in
    let few : m.version + 1 ≤ greatest_version = omega (arith, next, c.requires.last) in
    let made = made_document text change is (leads after is) m.latest m.history.stack m.page.decorations m.page.scanner
    (shelves.shown m.page.text.buffers m.shelf) m.version m.alternative few in
    let new : FlatState = document_of (flat_text c.follow.new.self.text) c.args.version c.args.version c.follow.new.self.decorations c.follow.new.self.scanner
    (shelves.shown c.follow.new.self.text.buffers m.shelf) (Some Made) c.keep.new.history.stack in
    let told : FlatState = document_of (led On change text) (m.version + 1) (m.version + 1) (decorations_over true On change m.page.decorations) m.page.scanner
    (shelves.shown m.page.text.buffers m.shelf) (Some Made) (kept_with m.history.stack change m.alternative (m.version + 1)) in
    let same : new ≡ told =
    ap (λ (t : FlatText). document_of t c.args.version c.args.version c.follow.new.self.decorations c.follow.new.self.scanner
    (shelves.shown c.follow.new.self.text.buffers m.shelf) (Some Made) c.keep.new.history.stack) c.follow.ensures.text
    ∙ rw (c.follow.ensures.decorations, c.follow.ensures.parse.scanner, c.keep.ensures, shelf_after after, next) (refl {a = told}) in
    let old : FlatState = document_of text m.version m.alternative m.page.decorations m.page.scanner (shelves.shown m.page.text.buffers m.shelf) m.latest m.history.stack in
    let makes : Makes change old new = subst (Makes change old) (sym same) made in
    subst (λ (s : ModelState). Makes change s.document new) c.self.view_is makes

pub returns-clause-parse : goal.returns-clause-parse
returns-clause-parse c =
    let page = c.self.inside.page in
    let after = (goal.at.returns-clause-parse c).After-text-after in
    let is = change_of (goal.at.returns-clause-parse c).After-text-before in
    let change = c.args.change in
    let text = flat_text page.text in
    let was : is_fresh page ≡ c.args.self.now.fresh = ap (λ (s : ModelState). s.fresh) c.self.view_is in
    let fit = fit_on text (led On change text) change (leads after is) in
    record {
      parsed = c.follow.ensures.parse.parsed ∙ ap (λ (s : ModelState). s.parsed) c.self.view_is;
      tree = c.follow.ensures.parse.tree ∙ ap (λ (s : ModelState). s.tree) c.self.view_is;
      states = c.follow.ensures.parse.states ∙ ap (λ (s : ModelState). s.states) c.self.view_is;
      marks = c.follow.ensures.marks ∙ ap (λ (s : ModelState). marks_over On change s.document.units s.marks) c.self.view_is;
      fresh = kept_as (marking_ops On change) (marking_ops On change) page.tree c.follow.new.self.tree page.marks (marks_over On change page.text.units page.marks)
          c.follow.new.self.marks c.args.self.now.fresh refl c.follow.ensures.parse.tree c.follow.ensures.marks was (marked_over On change text page.marks fit);
      pieces = omega (arith, c.follow.ensures.grown.pieces, ap (λ (s : ModelState). s.pieces) c.self.view_is);
    }

pub returns-clause-held : goal.returns-clause-held
returns-clause-held c =
    let was = ap (λ (s : ModelState). s.held) c.self.view_is in record {
      kept = omega (arith, was, held_grows c.self.inside.page.text.buffers c.follow.new.self.text.buffers c.follow.ensures.grown.buffers);
      few = omega (arith, was, c.follow.ensures.spent.appended);
    }

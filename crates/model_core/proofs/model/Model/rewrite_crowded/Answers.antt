use Rattle.std.proofs.Common.{refl, ap, ◌∙◌, arith}
use Rattle.model_core.proofs.Held.{held_grows}
use Rattle.std.specs.Prelude.{is_some}
use Rattle.model_core.proofs.Untouched.{ShowsSame, history_same, shelf_same, document_same}
use Rattle.model_core.specs.State.{ModelState}
use Rattle.model_page.specs.Staying.{fresh_tree}
use Rattle.model_core.proofs.model.Model.rewrite_crowded.Goals as goal
use Rattle.model_core.proofs.model.Model.rewrite_crowded.Goals.{After-rewrite_crowded}

shown : (c : After-rewrite_crowded) → ShowsSame c.self.inside.page c.rewrite_crowded.new.self
shown c = record {
  units = ap (λ t. t.units) c.rewrite_crowded.ensures.page.text;
  kind = ap (λ t. t.kind) c.rewrite_crowded.ensures.page.text;
  buffers = c.rewrite_crowded.ensures.buffers;
  decorations = c.rewrite_crowded.ensures.page.decorations;
  scanner = c.rewrite_crowded.ensures.page.parse.scanner;
}

pub invariant_of-self : goal.invariant_of-self
invariant_of-self c =
    let m = c.self.inside in
    let same = shown (goal.at.invariant_of-self c).After-rewrite_crowded in (
      c.self.invariant.0,
      history_same m.page c.rewrite_crowded.new.self same m.history.stack m.history.stack refl c.self.invariant.1,
      shelf_same m.page c.rewrite_crowded.new.self same m.shelf c.self.invariant.2,
      c.self.invariant.3,
    )

pub returns-clause-model : goal.returns-clause-model
returns-clause-model c =
    let m = c.self.inside in
    let page = c.rewrite_crowded.ensures.page in
    let same = shown (goal.at.returns-clause-model c).After-rewrite_crowded in record {
      document = document_same m.page c.rewrite_crowded.new.self same m.history.stack m.history.stack refl
          m.shelf c.self.invariant.2 m.version m.alternative m.latest _ (ap (λ (s : ModelState). s.document) c.self.view_is);
      parsed = page.parse.parsed ∙ ap (λ (s : ModelState). s.parsed) c.self.view_is;
      tree = page.parse.tree ∙ ap (λ (s : ModelState). s.tree) c.self.view_is;
      marks = page.marks ∙ ap (λ (s : ModelState). s.marks) c.self.view_is;
      states = page.parse.states ∙ ap (λ (s : ModelState). s.states) c.self.view_is;
      fresh = (λ i. is_some (fresh_tree (page.parse.tree i) (page.marks i))) ∙ ap (λ (s : ModelState). s.fresh) c.self.view_is;
      pieces = omega (arith, page.pieces, ap (λ (s : ModelState). s.pieces) c.self.view_is);
    }

pub returns-clause-kept : goal.returns-clause-kept
returns-clause-kept c =
    omega (arith, ap (λ (s : ModelState). s.held) c.self.view_is, held_grows c.self.inside.page.text.buffers c.rewrite_crowded.new.self.text.buffers c.rewrite_crowded.ensures.buffers)

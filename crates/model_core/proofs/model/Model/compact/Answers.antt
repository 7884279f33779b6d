use Rattle.std.proofs.Common.{◌≡◌, [], length, ap, ◌∙◌, arith}
use Rattle.std.specs.Prelude.{is_some}
use Rattle.std.proofs.lemmas.Grind.{common_steps}
use Rattle.std.proofs.lemmas.List.{nil_from_length}
use Rattle.model_page.specs.Staying.{fresh_tree}
use Rattle.model_core.specs.State.{ModelState}
use Rattle.model_core.proofs.Untouched.{history_anew, shelf_anew, document_anew}
use Rattle.model_core.proofs.model.Model.compact.Goals as goal
use Rattle.model_core.proofs.model.Model.compact.Goals.{After-compact}

no_snapshot : (c : After-compact) → c.self.inside.shelf.snapshots ≡ []
no_snapshot c =
    let none : length c.self.inside.shelf.snapshots ≡ 0 = grind (arith, common_steps) in
    nil_from_length c.self.inside.shelf.snapshots none

pub invariant_of-self : goal.invariant_of-self
invariant_of-self c =
    let m = c.self.inside in
    let page = c.compact.ensures.page in
    let none = no_snapshot (goal.at.invariant_of-self c).After-compact in (
      c.self.invariant.0,
      history_anew m.page c.compact.new.self page m.shelf none m.history.stack c.self.invariant.1,
      shelf_anew m.page c.compact.new.self page m.shelf none c.self.invariant.2,
      c.self.invariant.3,
    )

pub returns-clause-model : goal.returns-clause-model
returns-clause-model c =
    let m = c.self.inside in
    let page = c.compact.ensures.page in
    let none = no_snapshot (goal.at.returns-clause-model c).After-compact in record {
      document = document_anew m.page c.compact.new.self page m.shelf none m.history.stack m.version m.alternative m.latest _ (ap (λ (s : ModelState). s.document) c.self.view_is);
      parsed = page.parse.parsed ∙ ap (λ (s : ModelState). s.parsed) c.self.view_is;
      tree = page.parse.tree ∙ ap (λ (s : ModelState). s.tree) c.self.view_is;
      marks = page.marks ∙ ap (λ (s : ModelState). s.marks) c.self.view_is;
      states = page.parse.states ∙ ap (λ (s : ModelState). s.states) c.self.view_is;
      fresh = (λ i. is_some (fresh_tree (page.parse.tree i) (page.marks i))) ∙ ap (λ (s : ModelState). s.fresh) c.self.view_is;
      pieces = omega (arith, page.pieces, ap (λ (s : ModelState). s.pieces) c.self.view_is);
    }

pub returns-clause-alone : goal.returns-clause-alone
returns-clause-alone c =
    let units = ap (λ t. length t.units) c.compact.ensures.page.text in
    λ written. omega (arith, c.compact.ensures.alone written, units)

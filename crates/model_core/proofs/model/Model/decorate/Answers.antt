use Rattle.std.proofs.Common.{ℕ, List, ap, sym, subst}
use Rattle.model_page.specs.State.{PageState, flat_text}
use Rattle.document_rules.specs.Document.{FlatText}
use Rattle.model_core.specs.History.{IsHistory}
use Rattle.model_core.specs.Shelving.{IsShelf}
use Rattle.model_core.proofs.model.Model.decorate.Goals as goal

pub invariant_of-self : goal.invariant_of-self
invariant_of-self c =
    let m = c.self.inside in
    let old = c.self.invariant in
    let same = c.decorate.ensures.same in (
      old.0,
      subst (λ (x : FlatText). IsHistory x m.history.stack) (sym (ap (λ (p : PageState). flat_text p.text) same)) old.1,
      subst (λ (buffers : List (List ℕ)). IsShelf buffers m.shelf) (sym (ap (λ (p : PageState). p.text.buffers) same)) old.2,
      old.3,
    )

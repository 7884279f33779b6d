use Rattle.std.proofs.Common.{◌≡◌, ap, sym, subst, ◌∙◌, arith}
use Rattle.std.specs.List.{All}
use Rattle.std.proofs.lemmas.Grind.{common_steps}
use Rattle.chunk_buffers.specs.Chunks.{LiesIn}
use Rattle.text_buffer.specs.Text.{Text}
use Rattle.document_rules.specs.Paired.{IsPairedState}
use Rattle.snapshots.specs.Spans.{spelled}
use Rattle.model_core.specs.State.{ModelState}
use Rattle.model_core.proofs.Shelving.{IsShelf-taken, taken_paired}
use Rattle.model_core.proofs.model.Model.snapshot.Goals as goal

pub invariant_of-self : goal.invariant_of-self
invariant_of-self c =
    let m = c.self.inside in
    let old = c.self.invariant in
    let inside : All (LiesIn m.page.text.buffers) m.page.text.spans = subst (λ (t : Text). All (LiesIn t.buffers) t.spans) c.text.ensures.text c.spans.ensures.inside in
    let spans : c.spans.new.out.items ≡ m.page.text.spans = grind (arith, common_steps) in
    let lie : All (LiesIn m.page.text.buffers) c.spans.new.out.items = subst (All (LiesIn m.page.text.buffers)) (sym spans) inside in
    let shelf = IsShelf-taken m.page.text.buffers m.shelf c.take.new.self (c.take.ensures.inside m.page.text.buffers old.2.inside lie) old.2
    c.take.result (spelled m.page.text.buffers c.spans.new.out.items) (c.take.ensures.change m.page.text.buffers) in
    (old.0, old.1, shelf, old.3)

pub returns-clause-paired_state : goal.returns-clause-paired_state
returns-clause-paired_state c =
    λ paired.
    let m = c.self.inside in
    let buffers = m.page.text.buffers in
    let all : m.page.text.units ≡ spelled buffers m.page.text.spans = subst (λ (t : Text). t.units ≡ spelled t.buffers t.spans) c.text.ensures.text c.spans.ensures.spelled in
    let spans : c.spans.new.out.items ≡ m.page.text.spans = grind (arith, common_steps) in
    let units : spelled buffers c.spans.new.out.items ≡ m.page.text.units = ap (spelled buffers) spans ∙ sym all in
    taken_paired _ _ (subst (λ (s : ModelState). IsPairedState s.document) (sym c.self.view_is) paired)
    c.take.result (spelled buffers c.spans.new.out.items) units (c.take.ensures.change buffers)

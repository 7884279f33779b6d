use Rattle.std.proofs.Common.{◌≡◌, ap, Ok, arith}
use Rattle.std.proofs.lemmas.Grind.{common_steps}
use Rattle.text_rules.specs.Lines.{line_at}
use Rattle.text_buffer.specs.Text.{Text}
use Rattle.document_rules.specs.Document.{content_of}
use Rattle.model_core.proofs.LineLemmas.{line_there}
use Rattle.model_core.proofs.model.Model.line.Goals as goal

pub returns : goal.returns
returns c =
    let x = c.self.inside.page.text.units in
    let text = c.text-text.result.now in
    let same : text.units ≡ x = ap (λ (t : Text). t.units) c.text-text.ensures.text in
    let there = line_there text.units c.args.n (omega arith) (omega arith) in
    let appended = c.line.ensures.ok there.0 there.1 in
    let rule : content_of (line_at x c.args.n) ≡ Ok there.0.content = rw (← same) (ap content_of there.1) in
    grind (arith, common_steps)

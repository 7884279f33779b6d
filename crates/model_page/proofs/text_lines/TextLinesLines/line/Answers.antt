use Rattle.std.proofs.Common.{◌≤◌, ◌++◌, length, ap, sym, ◌∙◌, arith}
use Rattle.std.proofs.lemmas.List.{length-map}
use Rattle.text_rules.specs.Lines.{Line, lines_of}
use Rattle.model_page.proofs.TextLines.{the_line, line_is, content_is}
use Rattle.model_page.proofs.text_lines.TextLinesLines.line.Goals as goal

pub returns-clause-content : goal.returns-clause-content
returns-clause-content c =
    let x = c.args.self.now.lines in
    let n = c.args.n in
    let there : n ≤ length (lines_of x) = omega (arith, c.requires.there, length-map (lines_of x) (λ (line : Line). line.content)) in
    c.in_ok-line.ensures.ok (the_line x n c.requires.first there) (line_is x n c.requires.first there)
    ∙ ap (λ content. c.args.out.now.items ++ content) (sym (content_is x n c.requires.first there))

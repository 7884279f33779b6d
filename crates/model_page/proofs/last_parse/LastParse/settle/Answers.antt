use Rattle.std.proofs.Common.{◌≡◌, false, length, ap, sym, ◌∙◌}
use Rattle.std.specs.Prelude.{replicate}
use Rattle.hiding_rules.specs.declared.LineState.TheVariants.{Code}
use Rattle.hiding_rules.specs.Hidden.{scanner}
use Rattle.hiding_rules.specs.Marks.{has_block}
use Rattle.model_page.specs.Staying.{ParseState}
use Rattle.model_page.proofs.SettledLines.{settled_plain}
use Rattle.model_page.proofs.last_parse.LastParse.settle.Goals as goal

pub returns-then-not-has_block-clause-settled : goal.returns-then-not-has_block-clause-settled
returns-then-not-has_block-clause-settled c =
    let without : has_block c.args.hiding.now ≡ false = sym c.has_block.ensures ∙ c.if-not-has_block.true in
    let marks = ap (λ (p : ParseState). p.marks) c.self.view_is in
    settled_plain (scanner c.args.table.now c.args.hiding.now) c.args.lines.now.lines c.args.self.now.states c.args.self.now.marks c.in_code.result without
    c.requires.stays.count (c.requires.stays.plain without) (c.in_code.ensures.marks ∙ marks)
    (c.in_code.ensures.begins ∙ ap (λ ms. replicate (length ms) Code) marks) c.in_code.ensures.ends

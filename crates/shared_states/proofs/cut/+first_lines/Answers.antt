use Rattle.std.proofs.Common.{◌≡◌, ◌-◌, ◌++◌, take, sym, ◌∙◌, ap, arith}
use Rattle.std.proofs.lemmas.Result.{IfOk-weaker}
use Rattle.shared_states.specs.Shapes.{link_states}
use Rattle.shared_states.proofs.Parts.{first-of_run, first-of_both}
use Rattle.shared_states.proofs.cut.+first_lines.Goals as goal

pub returns-in-Run : goal.returns-in-Run
returns-in-Run t c = first-of_run c.args.link.now c.in-Run.state c.in-Run.field-1 c.args.lines c.in-Run.is c.requires

pub returns : goal.returns
returns t c =
    let left = link_states c.halves.result.0.now in
    let right = link_states c.halves.result.1.now in
    let both : take c.args.lines (left ++ right) ≡ left ++ take (c.args.lines - c.len-before.result) right =
    first-of_both left right c.args.lines c.len-before.result c.len-before.ensures (omega (arith, c.if-lines-before.false)) in
    let whole : link_states c.args.link.now ≡ left ++ right = cc in
    let part : link_states c.in_ok-share.field-0 ++ link_states c.in_ok-rest.rest ≡ take c.args.lines (link_states c.args.link.now) =
    ap (λ states. states ++ link_states c.in_ok-rest.rest) c.in_ok-share.ensures
    ∙ ap (λ states. left ++ states) c.in_ok-rest.ensures
    ∙ sym both
    ∙ ap (take c.args.lines) (sym whole) in
    IfOk-weaker c.concat.result _ _ (λ link is. is ∙ part) c.concat.ensures

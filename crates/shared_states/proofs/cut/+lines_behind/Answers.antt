use Rattle.std.proofs.Common.{◌≡◌, ◌-◌, ◌++◌, drop, ◌∙◌}
use Rattle.std.proofs.lemmas.Result.{IfOk-weaker}
use Rattle.shared_states.specs.Shapes.{link_states}
use Rattle.shared_states.proofs.Parts.{rest-of_run, rest-of_both}
use Rattle.shared_states.proofs.cut.+lines_behind.Goals as goal

pub returns-in-Run : goal.returns-in-Run
returns-in-Run t c = rest-of_run c.args.link.now c.in-Run.state c.in-Run.all c.args.lines c.in-Run.is

pub returns-then-before-lines : goal.returns-then-before-lines
returns-then-before-lines t c =
    let left = link_states c.halves.result.0.now in
    let right = link_states c.halves.result.1.now in
    let both : drop c.args.lines (left ++ right) ≡ drop (c.args.lines - c.len-before.result) right =
    rest-of_both left right c.args.lines c.len-before.result c.len-before.ensures c.if-before-lines.true in
    let part : drop (c.args.lines - c.len-before.result) right ≡ drop c.args.lines (link_states c.args.link.now) = cc in
    IfOk-weaker c.lines_behind.result _ _ (λ link is. is ∙ part) c.lines_behind.ensures

use Rattle.std.proofs.Common.{◌<◌, ◌≤◌, length, ap, ◌∙◌, ◌++◌, arith}
use Rattle.text_rules.specs.Lines.{lines_of}
use Rattle.script_lines.specs.Replies.{text_reply}
use Rattle.model_core.proofs.LineLemmas.{line_there}
use Rattle.sessions.proofs.MirrorLemmas.{tells_mirrored}
use Rattle.sessions.proofs.mirror_replies.mirror_line.Goals as goal

pub returns : goal.returns
returns c =
    let first : 0 < c.args.n = omega (arith, c.if-n-eq0.false) in
    let last : c.args.n ≤ length (lines_of c.in-Some.mirror.units) = omega (arith, c.if-n-line_count.false, c.line_count.ensures) in
    let there = line_there c.in-Some.mirror.units c.args.n first last in
    let units = c.as_slice.ensures.value ∙ c.in_ok-line.ensures.ok there.0 there.1 ∙ ap (λ x. x ++ there.0.content) c.new-units.ensures.items in
    λ f. tells_mirrored f _ _ c.in-Some.mirror there.0 _ c.in-Some.is there.1 (c.in_ok-text_reply.ensures ∙ ap text_reply units)

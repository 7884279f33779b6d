use Rattle.std.proofs.Common.{◌≡◌, ◌≤◌, List, length, ℕ, sym, ◌∙◌, subst, arith}
use Rattle.std.proofs.lemmas.Bool.{ltb-false}
use Rattle.session_rules.specs.Script.{most_line_bytes}
use Rattle.sessions.specs.Bytes.{bytes_of_outcome}
use Rattle.sessions.specs.Standing.{Turns}
use Rattle.script_runner.proofs.reply.reply_to_kept.Goals as goal

pub returns-clause-turn : goal.returns-clause-turn
returns-clause-turn c = λ bytes so_far.
    let short : length bytes ≤ most_line_bytes =
    omega (arith, ltb-false most_line_bytes c.args.line.now.len (sym c.if-is_too_long.ensures), so_far.len) in
    let kept : c.as_slice.result.now ≡ bytes = c.as_slice.ensures.value ∙ so_far.kept c.if-line-2.false short in
    subst (λ (x : List ℕ). Turns c.args.session.now x (bytes_of_outcome c.answer.result) c.answer.new.self) kept c.answer.ensures.turn

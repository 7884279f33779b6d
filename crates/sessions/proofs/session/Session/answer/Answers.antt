use Rattle.std.proofs.Common.{length, sym, arith}
use Rattle.std.proofs.lemmas.Bool.{le-ltb}
use Rattle.session_rules.specs.Script.{most_line_bytes}
use Rattle.sessions.proofs.StandingLemmas.{turns_by}
use Rattle.sessions.proofs.session.Session.answer.Goals as goal

pub returns-clause-turn : goal.returns-clause-turn
returns-clause-turn c =
    turns_by _ _ c.args.line.now _ (le-ltb most_line_bytes (length c.args.line.now) (omega (arith, c.if-line-gt-MOST_LINE_BYTES.false)))
    (sym c.if-is_blank.ensures) c.reply_to_bytes.ensures

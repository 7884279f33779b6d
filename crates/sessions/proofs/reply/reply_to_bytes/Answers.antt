use Rattle.script_lines.proofs.ProperLemmas.{spelled}
use Rattle.sessions.proofs.reply.reply_to_bytes.Goals as goal

pub carry_request-requires : goal.carry_request-requires
carry_request-requires c = spelled c.args.line.now c.in_ok-request.request c.in_ok-request.ensures

pub returns : goal.returns
returns c = rw c.in_ok-request.ensures c.carry_request.ensures

use Rattle.std.proofs.Common.{rules, []}
use Rattle.document_rules.specs.Document.{flat_stop}
use Rattle.script_lines.specs.Replies.{ok_reply}
use Rattle.sessions.proofs.AnswerLemmas.{tells_changed_on}
use Rattle.sessions.proofs.reply.stop_reply.Goals as goal

pub returns : goal.returns
returns c = tells_changed_on _ _ _ _ c.stop.ensures _ (λ f. (ok_reply [], flat_stop f)) (search rules)

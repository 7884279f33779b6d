use Rattle.std.proofs.Common.{rules}
use Rattle.document_rules.specs.Brackets.{flat_level}
use Rattle.session_rules.specs.Step.{level_answer}
use Rattle.sessions.proofs.AnswerLemmas.{tells_asked_on}
use Rattle.sessions.proofs.bracket_replies.level_reply.Goals as goal

pub returns-in_err-level : goal.returns-in_err-level
returns-in_err-level c =
    tells_asked_on _ _ _ _ c.level_at.ensures _ (λ f. level_answer (flat_level f c.args.p)) c.level_at.ensures.done.0.parse.document (search rules)

pub returns : goal.returns
returns c =
    tells_asked_on _ _ _ _ c.level_at.ensures _ (λ f. level_answer (flat_level f c.args.p)) c.level_at.ensures.done.0.parse.document (search rules)

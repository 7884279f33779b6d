use Rattle.std.proofs.Common.{rules}
use Rattle.document_rules.specs.Brackets.{flat_match}
use Rattle.session_rules.specs.Step.{match_answer}
use Rattle.sessions.proofs.AnswerLemmas.{tells_asked_on}
use Rattle.sessions.proofs.bracket_replies.match_reply.Goals as goal

pub returns-in_err-partner : goal.returns-in_err-partner
returns-in_err-partner c =
    tells_asked_on _ _ _ _ c.match_at.ensures _ (λ f. match_answer (flat_match f c.args.p)) c.match_at.ensures.done.0.parse.document (search rules)

pub returns-in-Some : goal.returns-in-Some
returns-in-Some c =
    tells_asked_on _ _ _ _ c.match_at.ensures _ (λ f. match_answer (flat_match f c.args.p)) c.match_at.ensures.done.0.parse.document (search rules)

pub returns-in-None : goal.returns-in-None
returns-in-None c =
    tells_asked_on _ _ _ _ c.match_at.ensures _ (λ f. match_answer (flat_match f c.args.p)) c.match_at.ensures.done.0.parse.document (search rules)

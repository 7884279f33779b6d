use Rattle.std.proofs.Common.{rules}
use Rattle.document_rules.specs.Brackets.{flat_brackets}
use Rattle.session_rules.specs.Step.{brackets_answer}
use Rattle.sessions.proofs.AnswerLemmas.{tells_asked_on}
use Rattle.sessions.proofs.bracket_replies.brackets_reply.Goals as goal

pub returns-in_err-brackets_in : goal.returns-in_err-brackets_in
returns-in_err-brackets_in c =
    tells_asked_on _ _ _ _ c.brackets_in.ensures _ (λ f. brackets_answer (flat_brackets f c.args.from c.args.to)) c.brackets_in.ensures.done.0.parse.document
    (search rules)

pub returns-in_err-list_reply : goal.returns-in_err-list_reply
returns-in_err-list_reply c =
    tells_asked_on _ _ _ _ c.brackets_in.ensures _ (λ f. brackets_answer (flat_brackets f c.args.from c.args.to)) c.brackets_in.ensures.done.0.parse.document
    (search rules)

pub returns : goal.returns
returns c =
    tells_asked_on _ _ _ _ c.brackets_in.ensures _ (λ f. brackets_answer (flat_brackets f c.args.from c.args.to)) c.brackets_in.ensures.done.0.parse.document
    (search rules)

use Rattle.std.proofs.Common.{rules}
use Rattle.document_rules.specs.Snapshots.{flat_close_of}
use Rattle.session_rules.specs.Step.{close_answer}
use Rattle.sessions.proofs.AnswerLemmas.{tells_changed_on}
use Rattle.sessions.proofs.snapshot_replies.close_reply.Goals as goal

pub returns-in_err-close : goal.returns-in_err-close
returns-in_err-close c =
    tells_changed_on _ _ _ _ c.close.ensures.document _ (λ f. close_answer f (flat_close_of f c.args.id)) (search rules)

pub returns : goal.returns
returns c = tells_changed_on _ _ _ _ c.close.ensures.document _ (λ f. close_answer f (flat_close_of f c.args.id)) (search rules)

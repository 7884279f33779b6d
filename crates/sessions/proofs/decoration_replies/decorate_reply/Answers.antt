use Rattle.std.proofs.Common.{rules, length}
use Rattle.document_rules.specs.Document.{flat_decorate}
use Rattle.session_rules.specs.Step.{decorated}
use Rattle.sessions.proofs.AnswerLemmas.{tells_changed_on}
use Rattle.sessions.proofs.decoration_replies.decorate_reply.Goals as goal

pub returns-in_err-first : goal.returns-in_err-first
returns-in_err-first c =
    tells_changed_on _ _ _ _ c.decorate.ensures _
    (λ f. decorated f (length c.args.add) (flat_decorate f c.args.owner c.args.remove c.args.add)) (search rules)

pub returns : goal.returns
returns c =
    tells_changed_on _ _ _ _ c.decorate.ensures _
    (λ f. decorated f (length c.args.add) (flat_decorate f c.args.owner c.args.remove c.args.add)) (search rules)

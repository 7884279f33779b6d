use Rattle.std.proofs.Common.{rules}
use Rattle.document_rules.specs.Snapshots.{flat_snapshot}
use Rattle.session_rules.specs.Step.{snapshot_answer}
use Rattle.sessions.proofs.AnswerLemmas.{tells_changed_on}
use Rattle.sessions.proofs.snapshot_replies.snapshot_reply.Goals as goal

pub returns-in_err-id : goal.returns-in_err-id
returns-in_err-id c = tells_changed_on _ _ _ _ c.snapshot.ensures _ (λ f. snapshot_answer f (flat_snapshot f)) (search rules)

pub returns : goal.returns
returns c = tells_changed_on _ _ _ _ c.snapshot.ensures _ (λ f. snapshot_answer f (flat_snapshot f)) (search rules)

use Rattle.std.proofs.Common.{refl}
use Rattle.model_group.specs.State.{documents}
use Rattle.session_rules.specs.Step.{joint_answer}
use Rattle.sessions.proofs.GoesLemmas.{go_joint}
use Rattle.sessions.proofs.StandingLemmas.{tells_within}
use Rattle.sessions.proofs.reply.carry_request.Goals as goal

pub returns-in-Joint : goal.returns-in-Joint
returns-in-Joint c = rw c.in-Joint.is (tells_within _ _ _ refl (λ g. joint_answer g c.in-Joint.edits) (go_joint (documents c.args.session.now.group) c.in-Joint.edits) c.joint_reply.ensures)

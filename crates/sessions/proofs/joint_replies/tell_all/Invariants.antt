use Rattle.std.proofs.Common.{◌≡◌, ◌+◌, ◌-◌, ◌*◌, ◌≤◌, ◌++◌, length, take, codes, vec_len, vec_capacity}
use Rattle.std.specs.List.{flat_map}
use Rattle.group_rules.specs.Group.{doc_in}
use Rattle.model_group.specs.State.{documents}
use Rattle.sessions.specs.Joint.{doc_part}
use Rattle.sessions.proofs.joint_replies.tell_all.Given as goal

abbrev pub invariant-loop-doc : goal.invariant-loop-doc
invariant-loop-doc l = record {
  told : l.reply.items ≡ (l.fn.reply.items ++ codes "ok") ++ flat_map (λ n. doc_part n (doc_in (documents l.fn.group) n)) (take l.doc-index l.docs);
  room : vec_len l.reply + (length l.docs - l.doc-index) * 84 + 1 ≤ vec_capacity l.reply;
}

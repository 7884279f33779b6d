use Rattle.std.proofs.Common.{map, take}
use Rattle.model_group.proofs.Naming.{HaveSet, batch_of}
use Rattle.model_group.proofs.joint.names_badly.Given as goal

abbrev pub invariant-loop-doc : goal.invariant-loop-doc
invariant-loop-doc l = HaveSet (map batch_of (take l.doc-index l.docs)) l.members

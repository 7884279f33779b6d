use Rattle.model_group.specs.State.{KeepAll}
use Rattle.model_group.specs.Prepared.{AreStepsReady}
use Rattle.model_group.proofs.group.Group.prepare_steps.Given as goal

abbrev pub invariant-loop-doc : goal.invariant-loop-doc
invariant-loop-doc l = record {
  kept : KeepAll l.fn.self l.self;
  ready : AreStepsReady l.way l.tag l.doc l.self l.ready.items;
}

use Rattle.mirror_model.proofs.Following.{IsFollowed}
use Rattle.mirror_model.proofs.mirror.Mirror.follow.Given as goal

abbrev pub invariant-loop-event : goal.invariant-loop-event
invariant-loop-event l = IsFollowed l.fn.self l.events l.event-index l.self l.tally

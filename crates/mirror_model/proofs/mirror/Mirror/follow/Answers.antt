use Rattle.std.proofs.Common.{◌+◌, subst, sym}
use Rattle.mirror_model.proofs.Following.{IsFollowed, event_changes, event_is_old, event_is_early, event_misfits, none_misfits, event_lacks_memory}
use Rattle.mirror_model.proofs.mirror.Mirror.follow.Goals.{in-Ok-true, in-Ok-false, in-Err-Gap}
use Rattle.mirror_model.proofs.mirror.Mirror.follow.Goals as goal

pub loop-event-preserved : goal.loop-event-preserved
loop-event-preserved c =
    let m = c.args.self.now in
    let events = c.args.events.now in
    let i = c.loop-event.event-index in
    let now = c.loop-event.self in
    let e = c.event-item.result in
    let tally = c.loop-event.tally in
    let new = c.take.new.self in
    let so_far = c.loop-event.invariant in
    elim c.match-take.branch [
      | in-Ok-true w ↦
          let changes = rw w.in-Ok-true.field-0-test at w.in-Ok-true.ensures in
          subst (IsFollowed m events (i + 1) new) (sym w.tally-is) (event_changes m now events i e tally so_far c.loop-event-test.true c.event-item.is new changes)
      | in-Ok-false w ↦
          let is_old = rw w.in-Ok-false.field-0-test at w.in-Ok-false.ensures in
          subst (IsFollowed m events (i + 1) new) (sym w.tally-is) (event_is_old m now events i e tally so_far c.loop-event-test.true c.event-item.is new is_old.1 is_old.0)
      | in-Err-Gap w ↦
          let is_early = rw w.in-Err-Gap.field-0-is at w.in-Err-Gap.ensures in
          subst (IsFollowed m events (i + 1) new) (sym w.tally-is) (event_is_early m now events i e tally so_far c.loop-event-test.true c.event-item.is new _ _ is_early.1 is_early.0)
    ]

pub returns-in-Err-Misfit-clause-events : goal.returns-in-Err-Misfit-clause-events
returns-in-Err-Misfit-clause-events c =
    let misfits = rw c.in-Err-Misfit.field-0-is at c.in-Err-Misfit.ensures in
    event_misfits c.args.self.now c.loop-event.self c.args.events.now c.loop-event.event-index c.event-item.result c.loop-event.tally c.loop-event.invariant
    c.loop-event-test.true c.event-item.is c.take.new.self c.in-Err-Misfit.batch misfits.1 misfits.0

pub returns-in-Err-Misfit-clause-texts : goal.returns-in-Err-Misfit-clause-texts
returns-in-Err-Misfit-clause-texts c =
    let misfits = rw c.in-Err-Misfit.field-0-is at c.in-Err-Misfit.ensures in
    none_misfits c.args.self.now c.loop-event.self c.args.events.now c.loop-event.event-index c.event-item.result c.loop-event.tally c.loop-event.invariant
    c.loop-event-test.true c.event-item.is c.in-Err-Misfit.batch misfits.0

pub returns-in-Err-Memory-clause-events : goal.returns-in-Err-Memory-clause-events
returns-in-Err-Memory-clause-events c =
    let lacks = rw c.in-Err-Memory.field-0-is at c.in-Err-Memory.ensures in
    event_lacks_memory c.args.self.now c.loop-event.self c.args.events.now c.loop-event.event-index c.event-item.result c.loop-event.tally c.loop-event.invariant
    c.loop-event-test.true c.event-item.is c.take.new.self lacks.0 lacks.2 lacks.1

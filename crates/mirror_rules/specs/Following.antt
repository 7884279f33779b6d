-- A mirror that receives several events in turn.
use Rattle.std.specs.Prelude.{ℕ, ◌+◌, List, [], ◌∷◌, Option, Some, None}
use Rattle.batch_rules.specs.Events.{EventState, TakeTo}
use Rattle.mirror_rules.specs.declared.Tally.{Tally}
use Rattle.mirror_rules.specs.Mirrors.{MirrorState, Arrival, old, gap, misfit, followed, taken}

-- the mirror after the events, the counts of the events, and the number of the batch that did not fit, if one ended the
-- run
pub record Followed : Type 0 where
  pub mirror : MirrorState
  pub tally : Tally
  pub ended : Option ℕ

abbrev pub no_events : Tally
no_events = record { applied = 0; old = 0; gaps = 0 }

-- counts one more event with this result
abbrev pub counted : Followed → Arrival → Followed
counted f old = record f { tally = record f.tally { old = f.tally.old + 1 } }
counted f (gap have need) = record f { tally = record f.tally { gaps = f.tally.gaps + 1 } }
counted f (misfit n) = record f { ended = Some n }
counted f (followed m) = record f { mirror = m; tally = record f.tally { applied = f.tally.applied + 1 } }

-- an event that does not fit ends the run: later events are ignored
abbrev pub after_event : Followed → Option ℕ → EventState → Followed
after_event f (Some n) e = f
after_event f None e = counted f (taken f.mirror e)

abbrev pub followed_from : Followed → List EventState → Followed
followed_from f [] = f
followed_from f (e ∷ events) = followed_from (after_event f f.ended e) events

-- the result of the events in turn, beginning with mirror m
abbrev pub followed_by : MirrorState → List EventState → Followed
followed_by m events = followed_from (record { mirror = m; tally = no_events; ended = None }) events

-- the event turns the text of its version into the text of the next version; `t` gives the text of each version
abbrev pub LeadsAlong : (ℕ → List ℕ) → EventState → Type 0
LeadsAlong t e = TakeTo (t e.from) e.batches (t (e.from + 1))

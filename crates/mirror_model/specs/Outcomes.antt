-- The results of a mirror's calls, and the mirror after them.
use Rattle.std.specs.Prelude.{◌≡◌, ℕ, ◌+◌, Bool, true, false, List, length, take, slice_get, Option, Some, None, Result, Ok, Err}
use Rattle.batch_rules.specs.Events.{EventState}
use Rattle.mirror_rules.specs.declared.Tally.{Tally}
use Rattle.mirror_rules.specs.declared.MirrorError.{MirrorError}
use Rattle.mirror_rules.specs.declared.MirrorError.TheVariants.{Gap, Misfit, Memory}
use Rattle.mirror_rules.specs.declared.HaltCause.{HaltCause}
use Rattle.mirror_rules.specs.declared.HaltCause.TheVariants as halt
use Rattle.mirror_rules.specs.declared.Halt.{Halt}
use Rattle.mirror_rules.specs.Mirrors.{MirrorState, Arrival, old, gap, misfit, followed, taken}
use Rattle.mirror_rules.specs.Following.{Followed, followed_by}

-- the result for this arrival of an event; `Memory` may replace the one result that changes the mirror
abbrev pub Takes : Result Bool MirrorError → MirrorState → MirrorState → Arrival → Type 0
Takes (Ok true) before after arrival = arrival ≡ followed after
Takes (Ok false) before after arrival = (arrival ≡ old) × (after ≡ before)
Takes (Err (Gap have need)) before after arrival = (arrival ≡ gap have need) × (after ≡ before)
Takes (Err (Misfit batch)) before after arrival = (arrival ≡ misfit batch) × (after ≡ before)
Takes (Err Memory) before after arrival = (next : MirrorState) × (arrival ≡ followed next) × (after ≡ before)

-- how many events were counted
abbrev pub count : Tally → ℕ
count tally = tally.applied + tally.old + tally.gaps

-- the mirror after the events, and their counts
abbrev pub went : MirrorState → Tally → Option ℕ → Followed
went mirror tally ended = record { mirror = mirror; tally = tally; ended = ended }

-- the event with index `k` would change the mirror
abbrev pub WouldChange : MirrorState → List EventState → ℕ → Type 0
WouldChange m events k = (e : EventState) × (next : MirrorState) × (slice_get events k ≡ Some e) × (taken m e ≡ followed next)

abbrev pub HaltsFor : HaltCause → Tally → MirrorState → MirrorState → List EventState → Type 0
HaltsFor (halt.Misfit batch) tally before after events = followed_by before events ≡ went after tally (Some batch)
HaltsFor halt.Memory tally before after events =
    (followed_by before (take (count tally) events) ≡ went after tally None) × WouldChange after events (count tally)

-- all events were taken, or those before one that does not fit or for which memory is short
abbrev pub Follows : Result Tally Halt → MirrorState → MirrorState → List EventState → Type 0
Follows (Ok tally) before after events =
    (followed_by before events ≡ went after tally None) × (count tally ≡ length events)
Follows (Err halted) before after events = HaltsFor halted.cause halted.tally before after events

-- the mirror has the text of its version, which went up by the number of applied events
abbrev pub Holds : (ℕ → List ℕ) → Tally → MirrorState → MirrorState → Type 0
Holds t tally before after = (after.units ≡ t after.version) × (after.version ≡ before.version + tally.applied)

abbrev pub HoldsAt : (ℕ → List ℕ) → HaltCause → Tally → MirrorState → MirrorState → Type 0
HoldsAt t (halt.Misfit batch) tally before after = ⊥
HoldsAt t halt.Memory tally before after = Holds t tally before after

-- ... and no event misfits
abbrev pub HoldsTexts : (ℕ → List ℕ) → Result Tally Halt → MirrorState → MirrorState → Type 0
HoldsTexts t (Ok tally) before after = Holds t tally before after
HoldsTexts t (Err halted) before after = HoldsAt t halted.cause halted.tally before after

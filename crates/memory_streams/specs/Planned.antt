-- The sources and sinks in memory as contracts see them, and the effect of a call on them.
use Rattle.std.specs.Prelude.{◌≡◌, ℕ, ◌+◌, min, List, [], ◌++◌, length, Bool, true, ◌&&◌, ◌==◌, nat_lt, nat_le, if◌then◌else◌, Option, Some, None, Result, Ok, Err, is_ok}
use Rattle.script_streams.specs.declared.Failed.{Failed}
use Rattle.script_streams.specs.Streams.{SourceState, SinkState}
use Rattle.script_streams.specs.Fresh.{fresh_source, fresh_sink}
use Rattle.memory_streams.specs.declared.plan.Fault.{Fault}
use Rattle.memory_streams.specs.Plan.{counted, next_allowance, AnswersByPlan}

-- ---- sources

pub record PlannedSource : Type 0 where
  -- the bytes left, and the given ones
  pub state : SourceState
  -- the most bytes that a read gives
  pub each : ℕ
  -- the reads that fail or come short
  pub plan : List Fault
  -- the number of reads made, at most the greatest 64-bit number
  pub calls : ℕ
  -- the number of reads made right after one that returned the end, with the same limit
  pub reads_past_end : ℕ

-- a source of these bytes before its first read
abbrev pub new_source : List ℕ → ℕ → List Fault → PlannedSource
new_source bytes each plan =
    record { state = fresh_source (Some bytes); each = each; plan = plan; calls = 0; reads_past_end = 0 }

-- the number of bytes available for a buffer
abbrev pub available : Option (List ℕ) → List ℕ → ℕ
available None buf = 0
available (Some left) buf = min (length left) (length buf)

-- a read does what the plan says for its number, and is counted
pub record ReadsByPlan (answer : Result ℕ Failed) (old new : PlannedSource) (buf : List ℕ) : Type 0 where
  pub planned :
      AnswersByPlan (next_allowance old.plan old.calls old.each) (available old.state.left buf) answer
  pub faults :
      new.state.faults ≡ (if is_ok answer then old.state.faults else counted old.state.faults)
  pub calls : new.calls ≡ counted old.calls
  pub reads_past_end :
      new.reads_past_end ≡ (if old.state.ended then counted old.reads_past_end else old.reads_past_end)
  pub each : new.each ≡ old.each
  pub plan : new.plan ≡ old.plan

-- ---- sinks

pub record PlannedSink : Type 0 where
  -- the bytes taken, and the room
  pub state : SinkState
  -- the most bytes that a write takes
  pub each : ℕ
  -- the writes that fail or come short
  pub plan : List Fault
  -- the number of writes made, at most the greatest 64-bit number
  pub calls : ℕ

-- a sink with this room before its first write
abbrev pub new_sink : ℕ → ℕ → List Fault → PlannedSink
new_sink room each plan =
    record { state = fresh_sink room (Some []); each = each; plan = plan; calls = 0 }

-- the bytes shown after these more: all of them while they fit the room, and nothing once they did not
abbrev pub told_with : ℕ → Option (List ℕ) → List ℕ → Option (List ℕ)
told_with room None bytes = None
told_with room (Some before) bytes =
    if nat_le (length before + length bytes) room then Some (before ++ bytes) else None

-- a write that fails, or takes nothing of a non-empty piece
abbrev pub is_fault : Result ℕ Failed → List ℕ → Bool
is_fault (Err failed) piece = true
is_fault (Ok count) piece = count == 0 && nat_lt 0 (length piece)

-- a write does what the plan says for its number, and is counted
pub record WritesByPlan (answer : Result ℕ Failed) (old new : PlannedSink) (piece : List ℕ) : Type 0 where
  pub planned : AnswersByPlan (next_allowance old.plan old.calls old.each) (length piece) answer
  pub faults :
      new.state.faults ≡ (if is_fault answer piece then counted old.state.faults else old.state.faults)
  pub calls : new.calls ≡ counted old.calls
  pub each : new.each ≡ old.each
  pub plan : new.plan ≡ old.plan

-- The result of the loop over a script.
use Rattle.std.specs.Prelude.{ℕ, nat_lt, if◌then◌else◌, List, ◌++◌}
use Rattle.script_streams.specs.Streams.{SourceState, SinkState, TakenWhole}
use Rattle.script_runner.specs.declared.running.Status.{Status}
use Rattle.script_runner.specs.declared.running.Status.TheVariants as status
use Rattle.script_runner.specs.declared.serving.Served.{Served}
use Rattle.script_runner.specs.declared.serving.Served.TheVariants.{Ended, ReadFault, WriteFault, TooLong}
use Rattle.sessions.specs.declared.session.Session.{Session}
use Rattle.sessions.specs.Standing.{Replied}
use Rattle.session_rules.specs.Script.{all_lines}
use Rattle.script_runner.specs.Runs.{ServesBy}
use Rattle.script_runner.specs.Progress.{Broken, Counted, Led}
use Rattle.script_runner.specs.declared.serving.Progress.{Progress}

-- the status after serving a script: whether some reply begins with `!`, or the fault
abbrev pub status_after : Served → Status
status_after (Ended refused memory) = if nat_lt 0 refused then status.Refused else status.Answered
status_after ReadFault = status.ReadFault
status_after WriteFault = status.WriteFault
status_after TooLong = status.TooLong

-- serving a script to a session, for any flat session that it represents
abbrev pub Serves : Served → ℕ → Session → Session → SourceState → SourceState → SinkState → SinkState → Type 0
Serves served most start end src src' out out' = ServesBy Replied served most start end src src' out out'

-- ---- the end of the script

-- All lines of what was read are answered, for anything read and written before.
pub record Finished (state : Session) (progress : Progress)
    (state' : Session) (out out' : SinkState) (refused memory : ℕ) : Type 0 where
  pub added : List ℕ
  pub answered : (start : Session) (read before : List ℕ) → Led start read before state progress
      → Counted start (all_lines read) (before ++ added) state' refused memory
  pub sink : TakenWhole out out' added

abbrev pub Finishes : Served → Session → Progress → Session → SinkState → SinkState → Type 0
Finishes (Ended refused memory) state progress state' out out' = Finished state progress state' out out' refused memory
Finishes WriteFault state progress state' out out' = Broken all_lines state progress state' out out'
Finishes ReadFault state progress state' out out' = ⊥
Finishes TooLong state progress state' out out' = ⊥

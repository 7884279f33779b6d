-- What the program does for a command, by its exit status.
use Rattle.std.specs.Prelude.{◌≡◌}
use Rattle.script_streams.specs.Streams.{SourceState, SinkState}
use Rattle.script_runner.specs.declared.running.Status.{Status}
use Rattle.script_runner.specs.declared.words.Words.{Words}
use Rattle.script_runner.specs.declared.words.Words.TheVariants.{Run, Play, NoCommand}
use Rattle.script_runner.specs.Playing.{Plays}
use Rattle.script_runner.specs.Runs.{Runs, ShowsUsage}

-- what a command does not use is unchanged
module _ {S K E : Type 0} (source : S → SourceState) (sink : K → SinkState) (error : E → SinkState) where
  abbrev pub Obeys : Words → Status → S → S → K → K → E → E → Type 0
  Obeys Run status src src' out out' err err' = Runs status (source src) (source src') (sink out) (sink out') × (err' ≡ err)
  Obeys (Play count seed) status src src' out out' err err' =
      Plays status count seed (sink out) (sink out') × (src' ≡ src) × (err' ≡ err)
  Obeys NoCommand status src src' out out' err err' = ShowsUsage status (error err) (error err') × (src' ≡ src) × (out' ≡ out)

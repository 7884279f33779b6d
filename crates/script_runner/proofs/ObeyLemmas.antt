-- What the program does for a command.
use Rattle.std.proofs.Common.{◌≡◌, ℕ, subst}
use Rattle.script_streams.specs.Streams.{SourceState, SinkState}
use Rattle.script_runner.specs.declared.running.Status.{Status}
use Rattle.script_runner.specs.declared.words.Words.{Words}
use Rattle.script_runner.specs.declared.words.Words.TheVariants.{Run, Play, NoCommand}
use Rattle.script_runner.specs.Playing.{Plays}
use Rattle.script_runner.specs.Runs.{Runs, ShowsUsage}
use Rattle.script_runner.specs.Obeying.{Obeys}

module _ {S K E : Type 0} (source : S → SourceState) (sink : K → SinkState) (error : E → SinkState)
    (command : Words) (s : Status) (src src' : S) (out out' : K) (err err' : E) (obeys : Obeys source sink error command s src src' out out' err err') where
  does : (other : Words) → command ≡ other → Obeys source sink error other s src src' out out' err err'
  does other is = subst (λ w. Obeys source sink error w s src src' out out' err err') is obeys

  pub for_run : command ≡ Run → Runs s (source src) (source src') (sink out) (sink out') × (err' ≡ err)
  for_run is = does Run is

  pub for_play : (count seed : ℕ) → command ≡ Play count seed → Plays s count seed (sink out) (sink out') × (src' ≡ src) × (err' ≡ err)
  for_play count seed is = does (Play count seed) is

  pub for_none : command ≡ NoCommand → ShowsUsage s (error err) (error err') × (src' ≡ src) × (out' ≡ out)
  for_none is = does NoCommand is

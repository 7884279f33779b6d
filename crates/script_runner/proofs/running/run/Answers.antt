use Rattle.script_runner.proofs.RunLemmas.{serves_new, runs_after}
use Rattle.script_runner.proofs.running.run.Goals as goal

pub returns : goal.returns
returns g c =
    rw c.status_after.ensures (runs_after _ _ _ _ c.serve-served.result (serves_new _ _ _ _ _ _ _ c.in-Ok-new.ensures c.serve-served.ensures))

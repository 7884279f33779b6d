use Rattle.std.proofs.Common.{◌-◌, length, drop, length-drop, arith}
use Rattle.std.proofs.lemmas.List.{take_all}
use Rattle.std.proofs.lemmas.Result.{err_from_is_err_and}
use Rattle.std.proofs.lemmas.Grind.{common_steps}
use Rattle.script_streams.proofs.StreamLaws.{written_to_more, written_to_cut, written_to_stop}
use Rattle.script_streams.proofs.whole.write_whole.Goals as goal

pub returns-in_err-taken : goal.returns-in_err-taken
returns-in_err-taken g c =
    let failed = err_from_is_err_and c.from_residual.result c.from_residual.ensures.1 in
    rw (failed.1) (written_to_cut _ _ _ _ _ c.loop-rest.invariant c.in_err-taken.ensures)

pub returns-then-taken-eq0 : goal.returns-then-taken-eq0
returns-then-taken-eq0 g c =
    written_to_stop _ _ _ _ _ c.loop-rest.invariant c.in_ok-taken.taken c.in_ok-taken.ensures c.if-taken-eq0.true
    (grind (arith, common_steps))

pub loop-rest-preserved : goal.loop-rest-preserved
loop-rest-preserved g c =
    let rest = c.loop-rest.rest.now in
    let n = c.in_ok-taken.taken in
    rw (take_all (length rest - n) (drop n rest) (omega (arith, length-drop n rest)))
    (written_to_more _ _ _ _ _ c.loop-rest.invariant n c.in_ok-taken.ensures (omega arith))

use Rattle.std.proofs.lemmas.Result.{on_ok_weaker}
use Rattle.line_starts.proofs.Starts.{starts_after_0}
use Rattle.line_starts.proofs.find_starts.Goals as goal

pub returns-else-is_err-clause-ok : goal.returns-else-is_err-clause-ok
returns-else-is_err-clause-ok c =
    on_ok_weaker _ (starts_after_0 _ _ _ c.args.units.now c.in_ok-push.ensures.items) c.push_break_ends-appended.ensures.ok

use Rattle.std.proofs.Common.{sym, subst, arith}
use Rattle.model_find.specs.Ahead.{KnowsStarts}
use Rattle.model_find.proofs.Ahead.{many_known}
use Rattle.model_find.proofs.starts.Starts.look.Goals as goal

pub returns-else-left-last-clause-knows : goal.returns-else-left-last-clause-knows
returns-else-left-last-clause-knows c =
    subst (λ marks. KnowsStarts c.args.run.now c.args.sought.now (record { at = c.args.self.now.at; known = 32; marks = marks })) (sym c.both_in_block-self.ensures)
    (many_known c.args.run.now c.args.sought.now c.args.self.now.at (omega arith))

use Rattle.std.proofs.Common.{refl, subst}
use Rattle.hiding_rules.specs.declared.LineState.TheVariants.{Code}
use Rattle.line_states.specs.Outcome.{IsTask}
use Rattle.line_states.proofs.Ways.{starts}
use Rattle.line_states.proofs.settle.Settler.walk.Goals as goal

pub loop-walk-init : goal.loop-walk-init
loop-walk-init g c =
    let is_task : IsTask c.args.self.now = subst IsTask c.self.view_is c.self.invariant in
    let begun = starts c.args.self.now (g.Q.Lines.state c.args.lines.now)
    (record { passed = 0; state = Code; marks = c.none.result; begins = c.none-2.result; content = c.new.result })
    is_task c.requires refl refl c.none.ensures c.none-2.ensures in
    record { way = begun.0; comes = begun.1; contents = refl }

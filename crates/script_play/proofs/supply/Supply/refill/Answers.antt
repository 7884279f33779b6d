use Rattle.std.proofs.Common.{arith}
use Rattle.script_play.proofs.SupplyLemmas.{refilled}
use Rattle.script_play.proofs.supply.Supply.refill.Goals as goal

pub returns-clause-left : goal.returns-clause-left
returns-clause-left c =
    refilled c.args.self.now.line.items c.line_bytes-self.result.items c.args.self.now.given c.args.self.now.lines_left
    c.args.self.now.play c.next_line-line.new.self c.next_line-line.result
    (omega arith) (omega arith)
    c.line_bytes-self.ensures.bytes c.next_line-line.ensures.line c.next_line-line.ensures.play

use Rattle.node_reuse.proofs.ReaderCalls.{entered_if, entered_asks}
use Rattle.node_reuse.proofs.ReaderPays.{entered_pays_if}
use Rattle.node_reuse.proofs.reader.enter.Goals as goal

pub returns-clause-stands : goal.returns-clause-stands
returns-clause-stands g c = λ s p table contents number new h.
    entered_if c.scan.result s p c.args.n c.args.line.now c.scan.new.line number h c.if-line.false new
    (rw (table, contents) c.scan.ensures.tokens) (rw contents c.scan.ensures.columns) c.scan.ensures.scanned c.scan.ensures.count

pub returns-clause-asks : goal.returns-clause-asks
returns-clause-asks g c = λ s p borrows number new h.
    entered_asks s p c.args.n c.args.line.now c.scan.new.line (g.Q.Lines.state c.args.lines.now).asked (g.Q.Lines.state c.scan.new.lines).asked borrows
    number h c.if-line.false new c.scan.ensures.asked c.scan.ensures.count

pub returns-clause-pays : goal.returns-clause-pays
returns-clause-pays g c = λ s p steps table contents number new h.
    entered_pays_if c.scan.result s p c.args.n c.args.line.now c.scan.new.line steps number h c.if-line.false new
    (rw (table, contents) c.scan.ensures.tokens) c.scan.ensures.scanned

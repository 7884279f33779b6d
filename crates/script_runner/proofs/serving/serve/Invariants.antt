use Rattle.script_runner.proofs.ServeLemmas.{IsServedTo}
use Rattle.script_runner.proofs.serving.serve.Given as goal

abbrev pub invariant-loop-left : goal.invariant-loop-left
invariant-loop-left g l =
    IsServedTo l.fn.most l.left l.fn.session l.session l.progress (g.S.Source.state l.fn.src)
    (g.S.Source.state l.src) (g.K.Sink.state l.fn.out) (g.K.Sink.state l.out)

abbrev pub decreases-loop-left : goal.decreases-loop-left
decreases-loop-left g l = l.left

use Rattle.std.proofs.Common.{length}
use Rattle.script_streams.proofs.StreamLaws.{IsWrittenTo}
use Rattle.script_streams.proofs.whole.write_whole.Given as goal

abbrev pub invariant-loop-rest : goal.invariant-loop-rest
invariant-loop-rest g l = IsWrittenTo (g.K.Sink.state l.fn.out) (g.K.Sink.state l.out) l.fn.text l.rest

abbrev pub decreases-loop-rest : goal.decreases-loop-rest
decreases-loop-rest g l = length l.rest

use Rattle.std.proofs.KnownBytes.{Keeps-refl, Keeps-trans}
use Rattle.script_streams.proofs.WriterLemmas.{WriteAppends-after_Keeps}
use Rattle.script_streams.proofs.standard.write_past_signals.Goals as goal

pub loop-init : goal.loop-init
loop-init g c = Keeps-refl (g.W.Write.contents c.args.writer.now)

pub returns-in_default-clause-bytes : goal.returns-in_default-clause-bytes
returns-in_default-clause-bytes g c =
    Keeps-trans (g.W.Write.contents c.args.writer.now) (g.W.Write.contents c.loop.writer) (g.W.Write.contents c.write.new.self)
    c.loop.invariant c.in-Err.ensures.bytes

pub returns-in_default-2-clause-bytes : goal.returns-in_default-2-clause-bytes
returns-in_default-2-clause-bytes g c =
    WriteAppends-after_Keeps (g.W.Write.contents c.args.writer.now) (g.W.Write.contents c.loop.writer) (g.W.Write.contents c.write.new.self)
    c.write.result c.args.piece.now c.loop.invariant c.write.ensures.bytes

pub loop-preserved : goal.loop-preserved
loop-preserved g c =
    Keeps-trans (g.W.Write.contents c.args.writer.now) (g.W.Write.contents c.loop.writer) (g.W.Write.contents c.write.new.self)
    c.loop.invariant c.in-Err.ensures.bytes

use Rattle.std.proofs.Common.{[], take, drop, refl, sym}
use Rattle.std.proofs.lemmas.List.{take-append-drop}
use Rattle.std.proofs.lemmas.Result.{err_from_is_err_and}
use Rattle.std.proofs.KnownBytes.{Appends-kept}
use Rattle.script_streams.proofs.WriterLemmas.{Appends-from_Keeps, Took-from_Appends}
use Rattle.script_streams.proofs.standard.write_flushed.Goals as goal

pub returns-in_err-taken-clause-bytes : goal.returns-in_err-taken-clause-bytes
returns-in_err-taken-clause-bytes g c =
    let before = g.W.Write.contents c.args.writer.now in
    let after = g.W.Write.contents c.write_past_signals.new.writer in
    let p = err_from_is_err_and c.from_residual.result c.from_residual.ensures.1 in
    rw p.1 (
      [],
      (c.args.piece.now, refl),
      Took-from_Appends before after [] (c.requires c.args.writer.now c.write_past_signals.new.writer)
          (Appends-from_Keeps before after c.in_err-taken.ensures.bytes),
    )

pub returns-in_err-flush-clause-bytes : goal.returns-in_err-flush-clause-bytes
returns-in_err-flush-clause-bytes g c =
    let before = g.W.Write.contents c.args.writer.now in
    let after = g.W.Write.contents c.flush.new.self in
    let front = take c.in_ok-taken.taken c.args.piece.now in
    let p = err_from_is_err_and c.from_residual-in_err-flush.result c.from_residual-in_err-flush.ensures.1 in
    rw p.1 (
      front,
      (drop c.in_ok-taken.taken c.args.piece.now, sym (take-append-drop c.in_ok-taken.taken c.args.piece.now)),
      Took-from_Appends before after front (c.requires c.args.writer.now c.flush.new.self)
          (Appends-kept before (g.W.Write.contents c.write_past_signals.new.writer) after front c.in_ok-taken.ensures.bytes c.flush.ensures.bytes),
    )

pub returns-clause-bytes : goal.returns-clause-bytes
returns-clause-bytes g c =
    let before = g.W.Write.contents c.args.writer.now in
    let after = g.W.Write.contents c.flush.new.self in
    let front = take c.in_ok-taken.taken c.args.piece.now in
    Took-from_Appends before after front (c.requires c.args.writer.now c.flush.new.self)
    (Appends-kept before (g.W.Write.contents c.write_past_signals.new.writer) after front c.in_ok-taken.ensures.bytes c.flush.ensures.bytes)

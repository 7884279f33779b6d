use Rattle.std.proofs.Common.{◌≡◌, ◌<◌, None, length, refl, subst, arith}
use Rattle.std.proofs.lemmas.Grind.{common_steps}
use Rattle.script_streams.specs.Streams.{SinkState, Taken, Cut}
use Rattle.script_streams.proofs.WriterLemmas.{Wrote-over_writer}
use Rattle.script_streams.proofs.standard.StdSinkSink.write.Goals as goal
use Rattle.script_streams.proofs.standard.StdSinkSink.write.Goals.{else-taken-eq0-via-then-taken-eq0+else-not-is_empty, else-taken-eq0-via-else-taken-eq0}

pub returns-then-not-is_empty : goal.returns-then-not-is_empty
returns-then-not-is_empty g c =
    let new : SinkState = record { taken = g.W.Write.contents c.write_flushed.new.writer; room = 0; faults = c.saturating_add-self-inside.result; tally = None } in
    subst (λ (old : SinkState). Taken c.in-Ok.taken old new c.args.piece.now) c.self.view_is (record {
      within = c.in-Ok.ensures.bound;
      wrote = Wrote-over_writer g.W.Write.contents c.self.inside.writer c.write_flushed.new.writer _ _ _ c.self.invariant c.in-Ok.ensures.bytes;
      nothing = grind (arith, common_steps);
      something = grind (arith, common_steps);
      nothing_asked = grind (arith, common_steps);
    })

pub returns-else-taken-eq0 : goal.returns-else-taken-eq0
returns-else-taken-eq0 g c =
    let new : SinkState = record { taken = g.W.Write.contents c.write_flushed.new.writer; room = 0; faults = c.self.inside.faults; tally = None } in
    let taken : ((c.in-Ok.taken ≡ 0 → 0 < length c.args.piece.now → ⊥) → Taken c.in-Ok.taken c.args.self.now new c.args.piece.now) =
    λ no_fault. subst (λ (old : SinkState). Taken c.in-Ok.taken old new c.args.piece.now) c.self.view_is (record {
      within = c.in-Ok.ensures.bound;
      wrote = Wrote-over_writer g.W.Write.contents c.self.inside.writer c.write_flushed.new.writer _ _ _ c.self.invariant c.in-Ok.ensures.bytes;
      nothing = λ none some. absurd (no_fault none some);
      something = λ some. refl;
      nothing_asked = λ none. refl;
    }) in
    elim c.else-taken-eq0.branch [
      | else-taken-eq0-via-then-taken-eq0+else-not-is_empty w ↦ rw w.self-is (taken (grind (arith, common_steps)))
      | else-taken-eq0-via-else-taken-eq0 w ↦ rw w.self-is (taken (λ none some. w.if-taken-eq0.false none))
    ]

pub returns-in-Err : goal.returns-in-Err
returns-in-Err g c =
    let new : SinkState = record { taken = g.W.Write.contents c.write_flushed.new.writer; room = 0; faults = c.saturating_add-self-inside-in-Err.result; tally = None } in
    let cut = c.in-Err.ensures.bytes in
    subst (λ (old : SinkState). Cut old new c.args.piece.now) c.self.view_is (record {
      front = cut.0;
      starts = cut.1;
      wrote = Wrote-over_writer g.W.Write.contents c.self.inside.writer c.write_flushed.new.writer _ _ _ c.self.invariant cut.2;
      faults = grind (arith, common_steps);
    })

use Rattle.std.proofs.Common.{◌≡◌, ◌+◌, [], ◌∷◌, ◌++◌, ap, sym, ◌∙◌, subst, arith}
use Rattle.std.specs.Prelude.{Option, MatchOption}
use Rattle.line_hunks.specs.declared.run.Run.{Run}
use Rattle.line_hunks.specs.Run.{is_new, run_marks}
use Rattle.line_hunks.specs.Runs.{marks_down}
use Rattle.line_hunks.proofs.RunMarks.{is_new-later, StandsBy-alike, cut-more, cut-marks}
use Rattle.line_hunks.proofs.edges.take_lines.Goals as goal

pub loop-rest-preserved : goal.loop-rest-preserved
loop-rest-preserved c =
    let old = c.loop-rest.sides in
    let new = c.pop_back.new.self in
    let run = c.unwrap-rest.result in
    let popped : old.back ≡ run ∷ new.back =
    subst (λ (o : Option Run). MatchOption o (old.back ≡ []) (λ run. old.back ≡ run ∷ new.back)) c.unwrap-rest.ensures c.pop_back.ensures.back in
    let room : new.room ≡ old.room + 1 =
    subst (λ (o : Option Run). MatchOption o (new.room ≡ old.room) (λ run. new.room ≡ old.room + 1)) c.unwrap-rest.ensures c.pop_back.ensures.room in (
      cut-more c.args.run c.args.sides.now.back c.args.lines c.loop-rest.rest old.back c.loop-rest.more run new.back
          c.loop-rest.invariant.0 c.loop-rest-test.true popped,
      omega (arith, room, c.loop-rest.invariant.1),
      c.pop_back.ensures.front ∙ c.loop-rest.invariant.2,
    )

pub returns-clause-marks : goal.returns-clause-marks
returns-clause-marks c =
    ap (λ (r : Run). run_marks r ++ marks_down c.loop-rest.sides.back) c.split.ensures.behind
    ∙ cut-marks c.args.run c.args.sides.now.back c.args.lines c.loop-rest.rest c.loop-rest.sides.back c.loop-rest.more c.loop-rest.invariant.0 (omega arith)

pub returns-clause-apart : goal.returns-clause-apart
returns-clause-apart c =
    StandsBy-alike c.loop-rest.rest.first c.split.result.1.first c.loop-rest.sides.back
    (sym (ap (λ (r : Run). is_new r.first) c.split.ensures.behind ∙ is_new-later c.loop-rest.rest.first c.loop-rest.more)) c.loop-rest.invariant.0.apart

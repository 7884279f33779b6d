use Rattle.std.proofs.Common.{◌<◌, ◌+◌, length, drop, ap, sym, ◌∙◌, arith}
use Rattle.std.proofs.lemmas.Bool.{false≢true}
use Rattle.std.proofs.lemmas.Grind.{common_steps}
use Rattle.std.proofs.lemmas.List.{drop_all, append-nil, length-append}
use Rattle.line_starts.proofs.Starts.{break_ends_at_end, push_at_end, push_at_other}
use Rattle.text_rules.specs.Breaks.{break_ends}
use Rattle.line_starts.proofs.push_rest.Goals as goal
use Rattle.line_starts.proofs.push_rest.Goals.{then-is_break_end+in_ok-push, else-is_break_end}

pub returns-in_err-push-clause-with_room : goal.returns-in_err-push-clause-with_room
returns-in_err-push-clause-with_room c =
    λ room.
    let x = c.args.units.now in
    let at = c.loop-at.at in
    let place = c.args.start + at in
    let more = ap length (break_ends_at_end place at x (omega arith) (sym c.is_break_end.ensures ∙ c.if-is_break_end.true)) in
    let before = length-append c.loop-at.out.items (break_ends place (drop at x)) in
    let after = length-append c.args.out.now.items (break_ends (c.args.start + c.args.from) (drop c.args.from x)) in
    absurd (false≢true (c.in_err-push.ensures.succeeds (omega (arith, more, before, after, ap length c.loop-at.invariant.places, room))))

pub loop-at-preserved : goal.loop-at-preserved
loop-at-preserved c =
    let inside : c.loop-at.at < length c.args.units.now = omega arith in
    elim c.if-is_break_end.branch [
      | then-is_break_end+in_ok-push w ↦ record {
        places = rw (w.out-is, w.in_ok-push.ensures.items)
            (push_at_end c.loop-at.out.items _ c.args.start c.loop-at.at c.args.units.now inside (sym c.is_break_end.ensures ∙ w.if-is_break_end.true) c.loop-at.invariant.places);
        before = rw (w.out-is) (grind (arith, common_steps));
        grown = rw (w.out-is) (grind (arith, common_steps));
        capacity = rw (w.out-is) (grind (arith, common_steps));
      }
      | else-is_break_end w ↦ record {
        places = rw w.out-is
            (push_at_other c.loop-at.out.items _ c.args.start c.loop-at.at c.args.units.now inside (sym c.is_break_end.ensures ∙ w.if-is_break_end.false) c.loop-at.invariant.places);
        before = rw (w.out-is) c.loop-at.invariant.before;
        grown = rw (w.out-is) c.loop-at.invariant.grown;
        capacity = rw (w.out-is) c.loop-at.invariant.capacity;
      }
    ]

pub returns-clause-ok : goal.returns-clause-ok
returns-clause-ok c =
    let x = c.args.units.now in
    let rest = ap (break_ends (c.args.start + c.loop-at.at)) (drop_all c.loop-at.at x (omega arith)) in
    rw (rest, append-nil) at c.loop-at.invariant.places

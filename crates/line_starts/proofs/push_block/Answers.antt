use Rattle.std.proofs.Common.{◌≡◌, ◌+◌, ◌-◌, ◌++◌, ◌∷◌, [], length, drop, ap, sym, ◌∙◌, arith}
use Rattle.std.proofs.lemmas.Bool.{false≢true}
use Rattle.std.proofs.lemmas.Grind.{common_steps}
use Rattle.std.proofs.lemmas.List.{append_assoc, append-nil, length-append}
use Rattle.text_rules.specs.Breaks.{break_ends}
use Rattle.line_starts.proofs.Blocks.{block_marks, marked, length-block_marks, block_breaks, next_mark, none_marked}
use Rattle.line_starts.proofs.push_block.Goals as goal

pub overflow_add-place : goal.overflow_add-place
overflow_add-place c =
    let many = length-block_marks c.args.at c.args.units.now c.requires.within in
    let next = next_mark c.args.start c.loop-left.place c.loop-left.left c.from-place.result _ many c.loop-left.invariant.within.0 c.loop-left.invariant.left c.loop-left-test.true c.from-place.ensures in
    omega (arith, next.0, c.requires.short)

pub returns-in_err-push-clause-with_room : goal.returns-in_err-push-clause-with_room
returns-in_err-push-clause-with_room c =
    λ room.
    let at = c.args.at in
    let x = c.args.units.now in
    let start = c.args.start in
    let place = c.loop-left.place in
    let ms = block_marks at x in
    let many = length-block_marks at x c.requires.within in
    let next = next_mark start place c.loop-left.left c.from-place.result ms many c.loop-left.invariant.within.0 c.loop-left.invariant.left c.loop-left-test.true c.from-place.ensures in
    let rest = break_ends (start + 32) (drop (at + 32) x) in
    let so_far = length-append c.loop-left.out.items (marked place (drop (place - start) ms)) in
    let all = length-append c.args.out.now.items (marked start ms) in
    let breaks = length-append (marked start ms) rest in
    absurd (false≢true (c.in_err-push.ensures.succeeds
    (omega (arith, ap length next.2, so_far, all, breaks, ap length (block_breaks at x c.requires.within start), ap length c.loop-left.invariant.places, room))))

pub overflow_shr-left : goal.overflow_shr-left
overflow_shr-left c =
    let many = length-block_marks c.args.at c.args.units.now c.requires.within in
    let next = next_mark c.args.start c.loop-left.place c.loop-left.left c.from-place.result _ many c.loop-left.invariant.within.0 c.loop-left.invariant.left c.loop-left-test.true c.from-place.ensures in
    omega (arith, next.0, c.loop-left.invariant.within.0, c.from-place.ensures)

pub loop-left-smaller : goal.loop-left-smaller
loop-left-smaller c =
    let many = length-block_marks c.args.at c.args.units.now c.requires.within in
    let next = next_mark c.args.start c.loop-left.place c.loop-left.left c.from-place.result _ many c.loop-left.invariant.within.0 c.loop-left.invariant.left c.loop-left-test.true c.from-place.ensures in
    omega (arith, next.0, c.from-place.ensures)

pub loop-left-preserved : goal.loop-left-preserved
loop-left-preserved c =
    let start = c.args.start in
    let place = c.loop-left.place in
    let later = place + c.from-place.result in
    let ms = block_marks c.args.at c.args.units.now in
    let many = length-block_marks c.args.at c.args.units.now c.requires.within in
    let next = next_mark start place c.loop-left.left c.from-place.result ms many c.loop-left.invariant.within.0 c.loop-left.invariant.left c.loop-left-test.true c.from-place.ensures in
    record {
      left = next.1;
      places = rw c.in_ok-push.ensures.items
          (append_assoc c.loop-left.out.items (later ∷ []) (marked later (drop (later - start) ms)) ∙ ap (λ l. c.loop-left.out.items ++ l) (sym next.2) ∙ c.loop-left.invariant.places);
      within = (omega (arith, c.loop-left.invariant.within.0), next.0);
      before = grind (arith, common_steps);
      grown = grind (arith, common_steps);
      capacity = grind (arith, common_steps);
    }

pub returns-clause-ok : goal.returns-clause-ok
returns-clause-ok c =
    let at = c.args.at in
    let x = c.args.units.now in
    let start = c.args.start in
    let ms = block_marks at x in
    let rest = break_ends (start + 32) (drop (at + 32) x) in
    let none = none_marked c.loop-left.place (drop (c.loop-left.place - start) ms) (sym c.loop-left.invariant.left ∙ c.loop-left-test.false) in
    let found : c.loop-left.out.items ≡ c.args.out.now.items ++ marked start ms = sym (append-nil c.loop-left.out.items) ∙ ap (λ l. c.loop-left.out.items ++ l) (sym none) ∙ c.loop-left.invariant.places in
    ap (λ l. l ++ rest) found ∙ append_assoc c.args.out.now.items (marked start ms) rest ∙ ap (λ l. c.args.out.now.items ++ l) (block_breaks at x c.requires.within start)

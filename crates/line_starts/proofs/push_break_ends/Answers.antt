use Rattle.std.proofs.Common.{◌≡◌, ℕ, ◌+◌, ◌++◌, List, length, drop, ap, sym, ◌∙◌, arith}
use Rattle.std.proofs.lemmas.Bool.{false≢true}
use Rattle.std.proofs.lemmas.List.{length-append}
use Rattle.std.proofs.lemmas.Result.{on_ok_weaker}
use Rattle.text_rules.specs.Breaks.{break_ends}
use Rattle.line_starts.specs.Starts.{break_ends_at}
use Rattle.line_starts.proofs.Blocks.{same_count}
use Rattle.line_starts.proofs.Starts.{break_count_is, break_ends_at_is}
use Rattle.line_starts.proofs.push_break_ends.Goals as goal

-- the places so far and the rest need as much room as all places at once
room_left : (out old rest x : List ℕ) (start : ℕ) → out ++ rest ≡ old ++ break_ends start x → length out + length rest ≡ length old + length (break_ends 0 x)
room_left out old rest x start places = omega (arith, length-append out rest, length-append old (break_ends start x), same_count start 0 x, ap length places)

-- what was appended so far, and the rest
all_ends : (new out old x : List ℕ) (start at : ℕ) → out ++ break_ends (start + at) (drop at x) ≡ old ++ break_ends start x
    → new ≡ out ++ break_ends (start + at) (drop at x) → new ≡ old ++ break_ends_at start x
all_ends new out old x start at so_far rest = rest ∙ so_far ∙ ap (λ l. old ++ l) (sym (break_ends_at_is start x))

pub returns-in_err-push_block-clause-with_room : goal.returns-in_err-push_block-clause-with_room
returns-in_err-push_block-clause-with_room c =
    λ room.
    let x = c.args.units.now in
    let left = room_left c.loop-at.out.items c.args.out.now.items (break_ends (c.args.start + c.loop-at.at) (drop c.loop-at.at x)) x c.args.start c.loop-at.invariant.places in
    absurd (false≢true (c.in_err-push_block.ensures.with_room (omega (arith, left, break_count_is x, room))))

pub returns-clause-ok : goal.returns-clause-ok
returns-clause-ok c =
    on_ok_weaker _ (all_ends _ _ _ c.args.units.now c.args.start c.loop-at.at c.loop-at.invariant.places) c.push_rest.ensures.ok

pub returns-clause-with_room : goal.returns-clause-with_room
returns-clause-with_room c =
    λ room.
    let x = c.args.units.now in
    let left = room_left c.loop-at.out.items c.args.out.now.items (break_ends (c.args.start + c.loop-at.at) (drop c.loop-at.at x)) x c.args.start c.loop-at.invariant.places in
    c.push_rest.ensures.with_room (omega (arith, left, break_count_is x, room))

use Rattle.std.proofs.Common.{◌≡◌, ℕ, ◌+◌, ◌*◌, ◌≤◌, List, length, drop, ap, arith}
use Rattle.std.proofs.lemmas.List.{drop_all}
use Rattle.text_rules.proofs.Breaks.{break_ends_few}
use Rattle.text_rules.specs.Breaks.{break_ends}
use Rattle.line_starts.proofs.Starts.{break_count_is}
use Rattle.line_starts.proofs.Blocks.{fewer_later}
use Rattle.line_starts.proofs.count_breaks.Goals as goal

-- the breaks of a part are those from its start on, without those from the start of the next part on
ordered : (x : List ℕ) (quarter at : ℕ) → at ≤ quarter
    → (length (break_ends 0 (drop quarter x)) ≤ length (break_ends 0 (drop at x)))
    × (length (break_ends 0 (drop (quarter * 2) x)) ≤ length (break_ends 0 (drop (quarter + at) x)))
    × (length (break_ends 0 (drop (quarter * 3) x)) ≤ length (break_ends 0 (drop (quarter * 2 + at) x)))
ordered x quarter at within = (fewer_later at quarter x within, fewer_later (quarter + at) (quarter * 2) x (omega arith), fewer_later (quarter * 2 + at) (quarter * 3) x (omega arith))

none_left : (x : List ℕ) → length (break_ends 0 (drop (length x) x)) ≡ 0
none_left x = ap (λ s. length (break_ends 0 s)) (drop_all (length x) x (omega arith))

pub overflow_add-breaks : goal.overflow_add-breaks
overflow_add-breaks c =
    let x = c.args.units.now in
    let quarter = c.apart-quarter.result in
    let at = c.loop-at.at in
    let first = fewer_later (at + 32) quarter x (omega arith) in
    let second = fewer_later (quarter + at + 32) (quarter * 2) x (omega arith) in
    let third = fewer_later (quarter * 2 + at + 32) (quarter * 3) x (omega arith) in
    omega (arith, c.loop-at.invariant.counted, c.breaks_in_blocks-breaks.ensures, first, second, third, break_ends_few 0 x)

pub overflow_add-result : goal.overflow_add-result
overflow_add-result c =
    let x = c.args.units.now in
    let later = ordered x c.apart-quarter.result c.loop-at.at c.loop-at.invariant.within in
    omega (arith, c.loop-at.invariant.counted, c.breaks_between.ensures, later.1, later.2, break_ends_few 0 x)

pub overflow_add-result-2 : goal.overflow_add-result-2
overflow_add-result-2 c =
    let x = c.args.units.now in
    let later = ordered x c.apart-quarter.result c.loop-at.at c.loop-at.invariant.within in
    omega (arith, c.loop-at.invariant.counted, c.breaks_between.ensures, c.breaks_between-2.ensures, later.2, break_ends_few 0 x)

pub overflow_add-result-3 : goal.overflow_add-result-3
overflow_add-result-3 c =
    omega (arith, c.loop-at.invariant.counted, c.breaks_between.ensures, c.breaks_between-2.ensures, c.breaks_between-3.ensures, break_ends_few 0 c.args.units.now)

pub overflow_add-result-4 : goal.overflow_add-result-4
overflow_add-result-4 c =
    omega (arith, c.loop-at.invariant.counted, c.breaks_between.ensures, c.breaks_between-2.ensures, c.breaks_between-3.ensures, c.breaks_between-4.ensures, break_ends_few 0 c.args.units.now)

pub returns-clause-breaks : goal.returns-clause-breaks
returns-clause-breaks c =
    let x = c.args.units.now in
    omega (arith, c.loop-at.invariant.counted, c.breaks_between.ensures, c.breaks_between-2.ensures, c.breaks_between-3.ensures, c.breaks_between-4.ensures, none_left x, break_count_is x)

pub returns-clause-few : goal.returns-clause-few
returns-clause-few c =
    omega (arith, c.loop-at.invariant.counted, c.breaks_between.ensures, c.breaks_between-2.ensures, c.breaks_between-3.ensures, c.breaks_between-4.ensures, break_ends_few 0 c.args.units.now)

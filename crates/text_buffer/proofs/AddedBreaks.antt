-- How many breaks an edit appends: those of its text, and those that it takes along on both sides.
use Rattle.std.proofs.Common.{ℕ, ◌+◌, ◌*◌, ◌≤◌, ◌==◌, ◌&&◌, ◌||◌, Bool, cond, true, false, List, [], ◌∷◌, ◌++◌, length, arith}
use Rattle.text_rules.specs.Lines.{line_feed, carriage_return, begins_with}
use Rattle.text_rules.specs.Breaks.{ends_break, break_ends}
use Rattle.text_rules.proofs.Breaks.{break_ends_few}
use Rattle.line_starts.specs.Starts.{break_count}
use Rattle.line_starts.proofs.Starts.{break_count_is}
use Rattle.line_starts.proofs.Blocks.{same_count}
use Rattle.text_buffer.specs.Text.{unit_if}

-- the last unit of a front ends a break before other units only if it does so at the end of a text
last_most : (cr lf joined : Bool) (end : ℕ) (ends : List ℕ)
    → length (cond (cond (cr && joined) false (cr || lf)) (end ∷ ends) ends) ≤ length (cond (cond (cr && false) false (cr || lf)) (end ∷ []) []) + length ends
last_most true lf true end ends = omega arith
last_most true lf false end ends = omega arith
last_most false true joined end ends = omega arith
last_most false false joined end ends = omega arith

ends_most : (at : ℕ) (x y : List ℕ) → length (break_ends at (x ++ y)) ≤ length (break_ends at x) + length (break_ends 0 y)
ends_most at [] y = omega (arith, same_count at 0 y)
ends_most at (u ∷ []) y =
    let last = last_most (u == carriage_return) (u == line_feed) (begins_with line_feed y) (at + 1) (break_ends (at + 1) y) in
    omega (arith, last, same_count (at + 1) 0 y)
ends_most at (u ∷ v ∷ x) y =
    let rest = ends_most (at + 1) (v ∷ x) y in
    elim (ends_break u (v ∷ x)) as (λ b. length (cond b ((at + 1) ∷ break_ends (at + 1) ((v ∷ x) ++ y)) (break_ends (at + 1) ((v ∷ x) ++ y)))
    ≤ length (cond b ((at + 1) ∷ break_ends (at + 1) (v ∷ x)) (break_ends (at + 1) (v ∷ x))) + length (break_ends 0 y))
    [ true ↦ omega arith | false ↦ omega arith ]

-- two texts as one have no more breaks than the two
break_count-append : (x y : List ℕ) → break_count (x ++ y) ≤ break_count x + break_count y
break_count-append x y = omega (arith, break_count_is (x ++ y), break_count_is x, break_count_is y, ends_most 0 x y)

pub one_break_most : (b : Bool) (unit : ℕ) → break_count (unit_if b unit) ≤ 1
one_break_most true unit = omega (arith, break_count_is (unit ∷ []), break_ends_few 0 (unit ∷ []))
one_break_most false unit = omega arith

-- what an edit appends
pub added_breaks : (n : ℕ) (before text after : List ℕ) → break_count before ≤ n → break_count after ≤ n → break_count (before ++ text ++ after) ≤ break_count text + 2 * n
added_breaks n before text after one two = omega (arith, break_count-append (before ++ text) after, break_count-append before text, one, two)

ends_least : (at : ℕ) (x y : List ℕ) → length (break_ends at x) + length (break_ends 0 y) ≤ length (break_ends at (x ++ y)) + 1
ends_least at [] y = omega (arith, same_count at 0 y)
ends_least at (u ∷ []) y =
    let own = break_ends_few at (u ∷ []) in
    let more = ends_more at u y in
    omega (arith, own, more, same_count (at + 1) 0 y)
  where
    ends_more : (at u : ℕ) (y : List ℕ) → length (break_ends (at + 1) y) ≤ length (break_ends at (u ∷ y))
    ends_more at u [] = omega arith
    ends_more at u (v ∷ y) =
        elim (ends_break u (v ∷ y)) as (λ b. length (break_ends (at + 1) (v ∷ y)) ≤ length (cond b ((at + 1) ∷ break_ends (at + 1) (v ∷ y)) (break_ends (at + 1) (v ∷ y))))
        [ true ↦ omega arith | false ↦ omega arith ]
ends_least at (u ∷ v ∷ x) y =
    let rest = ends_least (at + 1) (v ∷ x) y in
    elim (ends_break u (v ∷ x)) as (λ b. length (cond b ((at + 1) ∷ break_ends (at + 1) (v ∷ x)) (break_ends (at + 1) (v ∷ x))) + length (break_ends 0 y)
    ≤ length (cond b ((at + 1) ∷ break_ends (at + 1) ((v ∷ x) ++ y)) (break_ends (at + 1) ((v ∷ x) ++ y))) + 1)
    [ true ↦ omega arith | false ↦ omega arith ]

-- a text that is cut has at most one break more in its parts: a CR LF may be cut
pub break_count-split : (x y : List ℕ) → break_count x + break_count y ≤ break_count (x ++ y) + 1
break_count-split x y = omega (arith, break_count_is (x ++ y), break_count_is x, break_count_is y, ends_least 0 x y)

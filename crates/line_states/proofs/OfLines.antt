-- Laws of marks whose kept numbers are at most `lines`.
use Rattle.std.proofs.Common.{◌≡◌, ℕ, zero, suc, ◌+◌, ◌-◌, ◌<◌, ◌≤◌, List, [], ◌∷◌, ◌++◌, take, drop, refl, ap, ◌∙◌, arith}
use Rattle.std.specs.Prelude.{⊤, replicate, slice_index_or}
use Rattle.mark_rules.specs.declared.Mark.{Mark}
use Rattle.mark_rules.specs.declared.Mark.TheVariants.{Kept, New}
use Rattle.mark_rules.specs.Marks.{kept_marks, clean_marks, edited_marks}
use Rattle.line_states.specs.Settling.{AreOf}

-- the same from mark to mark
OfLines : ℕ → List Mark → Type 0
OfLines lines [] = ⊤
OfLines lines (New ∷ marks) = OfLines lines marks
OfLines lines (Kept i ∷ marks) = (i ≤ lines) × OfLines lines marks

each_of : (lines : ℕ) (marks : List Mark) → OfLines lines marks → (j i : ℕ) → slice_index_or marks j New ≡ Kept i → i ≤ lines
unfolding OfLines
each_of lines [] of j i e = absurd cc
each_of lines (New ∷ marks) of zero i e = absurd cc
each_of lines (New ∷ marks) of (suc j) i e = each_of lines marks of j i e
each_of lines (Kept k ∷ marks) of zero i e = let same : k ≡ i = cc in omega (arith, of.0)
each_of lines (Kept k ∷ marks) of (suc j) i e = each_of lines marks of.1 j i e

of_each : (lines : ℕ) (marks : List Mark) → ((j i : ℕ) → slice_index_or marks j New ≡ Kept i → i ≤ lines) → OfLines lines marks
unfolding OfLines
of_each lines [] each = tt
of_each lines (New ∷ marks) each = of_each lines marks (λ j i e. each (suc j) i e)
of_each lines (Kept k ∷ marks) each = (each 0 k refl, of_each lines marks (λ j i e. each (suc j) i e))

OfLines-are : (lines : ℕ) (marks : List Mark) → AreOf lines marks → OfLines lines marks
OfLines-are lines marks are =
    of_each lines marks (λ j i e. are (suc j) i (let at : suc j - 1 ≡ j = omega arith in ap (λ k. slice_index_or marks k New) at ∙ e))

AreOf-each : (lines : ℕ) (marks : List Mark) → OfLines lines marks → AreOf lines marks
AreOf-each lines marks of n i e = each_of lines marks of (n - 1) i e

-- ---- of parts

OfLines-append : (lines : ℕ) (first second : List Mark) → OfLines lines first → OfLines lines second → OfLines lines (first ++ second)
unfolding OfLines
OfLines-append lines [] second of others = others
OfLines-append lines (New ∷ first) second of others = OfLines-append lines first second of others
OfLines-append lines (Kept i ∷ first) second of others = (of.0, OfLines-append lines first second of.1 others)

OfLines-take : (lines n : ℕ) (marks : List Mark) → OfLines lines marks → OfLines lines (take n marks)
unfolding OfLines
OfLines-take lines zero marks of = tt
OfLines-take lines (suc n) [] of = tt
OfLines-take lines (suc n) (New ∷ marks) of = OfLines-take lines n marks of
OfLines-take lines (suc n) (Kept i ∷ marks) of = (of.0, OfLines-take lines n marks of.1)

OfLines-drop : (lines n : ℕ) (marks : List Mark) → OfLines lines marks → OfLines lines (drop n marks)
unfolding OfLines
OfLines-drop lines zero marks of = of
OfLines-drop lines (suc n) [] of = tt
OfLines-drop lines (suc n) (New ∷ marks) of = OfLines-drop lines n marks of
OfLines-drop lines (suc n) (Kept i ∷ marks) of = OfLines-drop lines n marks of.1

OfLines-new : (lines more : ℕ) → OfLines lines (replicate more New)
unfolding OfLines
OfLines-new lines zero = tt
OfLines-new lines (suc more) = OfLines-new lines more

OfLines-kept : (lines first more : ℕ) → first + more ≤ lines + 1 → OfLines lines (kept_marks first more)
unfolding OfLines
OfLines-kept lines first zero within = tt
OfLines-kept lines first (suc more) within = (omega arith, OfLines-kept lines (suc first) more (omega arith))

-- the last of lines kept with consecutive numbers
last_is_of : (lines first more : ℕ) → OfLines lines (kept_marks first more) → 0 < more → first + more ≤ lines + 1
unfolding OfLines
last_is_of lines first zero of some = absurd (omega arith)
last_is_of lines first (suc zero) of some = omega (arith, of.0)
last_is_of lines first (suc (suc more)) of some =
    let rest = last_is_of lines (suc first) (suc more) of.1 (omega arith) in omega arith

-- ---- the laws

-- a line that is kept after an edit was kept before it
pub AreOf-edited : (lines first old new : ℕ) (marks : List Mark) → AreOf lines marks → AreOf lines (edited_marks first old new marks)
AreOf-edited lines first old new marks are =
    let of = OfLines-are lines marks are in
    let before = OfLines-take lines (first - 1) marks of in
    let behind = OfLines-drop lines (first - 1 + old) marks of in
    let middle = OfLines-append lines (take (first - 1) marks) (replicate new New) before (OfLines-new lines new) in
    AreOf-each lines (edited_marks first old new marks)
    (OfLines-append lines (take (first - 1) marks ++ replicate new New) (drop (first - 1 + old) marks) middle behind)

pub AreOf-clean : (lines : ℕ) → AreOf lines (clean_marks lines)
AreOf-clean lines = AreOf-each lines (clean_marks lines) (OfLines-kept lines 1 lines (omega arith))

pub AreOf-new : (lines new : ℕ) → AreOf lines (replicate new New)
AreOf-new lines new = AreOf-each lines (replicate new New) (OfLines-new lines new)

-- lines kept with consecutive numbers, after the first n lines
pub run_is_of : (lines n first more : ℕ) (marks : List Mark) → AreOf lines marks → take more (drop n marks) ≡ kept_marks first more → 0 < more
    → first + more ≤ lines + 1
run_is_of lines n first more marks are run some =
    let of = OfLines-take lines more (drop n marks) (OfLines-drop lines n marks (OfLines-are lines marks are)) in
    last_is_of lines first more (rw run at of) some

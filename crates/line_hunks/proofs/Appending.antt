-- Lines behind the last one, and the numbers of kept ones.
use Rattle.std.proofs.Common.{◌≡◌, ℕ, zero, suc, ◌+◌, ◌-◌, ◌^◌, ◌<◌, ◌≤◌, true, List, [], ◌∷◌, ◌++◌, refl, sym, ◌∙◌, ap, subst, arith}
use Rattle.std.specs.Prelude.{replicate}
use Rattle.std.proofs.lemmas.List.{append_assoc, append-nil, replicate-append-replicate}
use Rattle.mark_rules.specs.declared.Mark.{Mark}
use Rattle.mark_rules.specs.declared.Mark.TheVariants.{Kept, New}
use Rattle.mark_rules.specs.Marks.{mark_at, GoesOn, RisesFrom, Rises}
use Rattle.mark_rules.proofs.MarkLaws.{RisesFrom-drop}
use Rattle.line_hunks.specs.declared.run.Run.{Run}
use Rattle.line_hunks.specs.declared.run.Place.{Place}
use Rattle.line_hunks.specs.declared.runs.Runs.{Runs}
use Rattle.line_hunks.specs.Run.{is_new, later_mark, marks_from, run_marks, lines_in, kept_of, numbers_end}
use Rattle.line_hunks.specs.Runs.{marks_up, marks_around, all_marks, line_count, StandsBy, IsWhole}
use Rattle.line_hunks.specs.Places.{IsPlace}
use Rattle.line_hunks.specs.Numbers.{AreNumbers}
use Rattle.line_hunks.proofs.RunMarks.{is_new-later, range-behind}
use Rattle.line_hunks.proofs.PlaceLaws.{gap-place, mark-here, rest-here}

pub marks-same : (r s : Runs) → s.sides.front ≡ r.sides.front → s.gap ≡ r.gap → s.sides.back ≡ r.sides.back → all_marks s ≡ all_marks r
marks-same r s front gap back = cc

-- The run of the last line.

pub last-none : (mark : Mark) (runs : List Run) → StandsBy mark runs → lines_in runs ≡ 0 → runs ≡ []
last-none mark [] stands none = refl
last-none mark (run ∷ runs) stands none = absurd (omega (arith, stands.1, none))

pub last-is_new : (r : Runs) (n : ℕ) → IsWhole r → r.sides.back ≡ [] → n ≡ line_count r → mark_at n (all_marks r) ≡ New → is_new r.gap.first ≡ true
last-is_new r n whole last count new =
    let before = r.gap.lines - 1 in
    let place : IsPlace (all_marks r) n (record { run = r.gap; before = before }) =
    gap-place r.sides.front r.gap r.sides.back n before whole (omega (arith, count, whole.some, ap lines_in last)) (omega (arith, whole.some)) in
    sym (is_new-later r.gap.first before) ∙ ap is_new (mark-here (all_marks r) n (record { run = r.gap; before = before }) place ∙ new)

-- More lines in it.

more-new : (mark : Mark) (lines more : ℕ) → mark ≡ New → marks_from mark (lines + more) ≡ marks_from mark lines ++ replicate more New
more-new New lines more new = sym (replicate-append-replicate lines more New)
more-new (Kept i) lines more new = cc

abbrev longer : Run → ℕ → Run
longer gap more = record { first = gap.first; lines = gap.lines + more }

longer-last : (front : List Run) (gap : Run) (more : ℕ) → gap.first ≡ New
    → marks_around front (longer gap more) [] ≡ marks_around front gap [] ++ replicate more New
longer-last front gap more new =
    ap (λ ms. marks_up front ++ ms) (append-nil (run_marks (longer gap more)) ∙ more-new gap.first gap.lines more new)
    ∙ sym (append_assoc (marks_up front) (run_marks gap) (replicate more New))
    ∙ ap (λ ms. (marks_up front ++ ms) ++ replicate more New) (sym (append-nil (run_marks gap)))

pub longer-marks : (front : List Run) (gap : Run) (back : List Run) (more : ℕ) → back ≡ [] → gap.first ≡ New
    → marks_around front (longer gap more) back ≡ marks_around front gap back ++ replicate more New
longer-marks front gap back more last new =
    subst (λ runs. marks_around front (longer gap more) runs ≡ marks_around front gap runs ++ replicate more New) (sym last)
    (longer-last front gap more new)

-- The kept numbers increase also with new lines appended.

GoesOn-behind : (i lines : ℕ) (marks : List Mark) → GoesOn i marks → GoesOn i (marks ++ replicate lines New)
GoesOn-behind i zero [] on = tt
GoesOn-behind i (suc lines) [] on = tt
GoesOn-behind i lines (New ∷ marks) on = tt
GoesOn-behind i lines (Kept j ∷ marks) on = on

RisesFrom-new : (least lines : ℕ) → RisesFrom least (replicate lines New)
RisesFrom-new least zero = tt
RisesFrom-new least (suc lines) = RisesFrom-new least lines

RisesFrom-behind : (least lines : ℕ) (marks : List Mark) → RisesFrom least marks → RisesFrom least (marks ++ replicate lines New)
RisesFrom-behind least lines [] rises = RisesFrom-new least lines
RisesFrom-behind least lines (New ∷ marks) rises = RisesFrom-behind least lines marks rises
RisesFrom-behind least lines (Kept i ∷ marks) rises =
    (rises.0, GoesOn-behind i lines marks rises.1, RisesFrom-behind (suc i) lines marks rises.2)

pub Rises-new : (lines : ℕ) → Rises (replicate lines New)
Rises-new lines = RisesFrom-new 1 lines

pub Rises-behind : (lines : ℕ) (marks : List Mark) → Rises marks → Rises (marks ++ replicate lines New)
Rises-behind lines marks rises = RisesFrom-behind 1 lines marks rises

-- The numbers of the lines from a place on.

AreNumbers-from : (mark : Mark) (lines : ℕ) (behind : List Mark) → 0 < lines → numbers_end mark lines ≤ 2 ^ 62
    → Rises (marks_from mark lines ++ behind) → AreNumbers mark (kept_of mark lines)
AreNumbers-from New lines behind some range rises = tt
AreNumbers-from (Kept number) zero behind some range rises = absurd (omega arith)
AreNumbers-from (Kept number) (suc lines) behind some range rises = (rises.0, range)

pub numbers-here : (marks : List Mark) (n : ℕ) (place : Place) → IsPlace marks n place → Rises marks
    → AreNumbers (later_mark place.run.first place.before) (kept_of (later_mark place.run.first place.before) (place.run.lines - place.before))
numbers-here marks n place is rises =
    AreNumbers-from (later_mark place.run.first place.before) (place.run.lines - place.before) is.upper
    (omega (arith, is.within))
    (range-behind place.run.first place.run.lines place.before (omega (arith, is.within)) is.range)
    (subst Rises (rest-here marks n place is) (RisesFrom-drop 1 (n - 1) marks rises))

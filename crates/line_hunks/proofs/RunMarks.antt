-- The marks of runs, and of neighbouring runs.
use Rattle.std.proofs.Common.{◌≡◌, ℕ, ◌+◌, ◌-◌, ◌^◌, ◌<◌, ◌≤◌, Bool, true, false, not, List, [], ◌∷◌, ◌++◌, length, take, drop, refl, sym, ◌∙◌, ap, subst, arith}
use Rattle.std.specs.Prelude.{replicate}
use Rattle.std.proofs.lemmas.List.{append_assoc, length-append, length-replicate, replicate-append-replicate, take_at, drop_at, drop-drop}
use Rattle.mark_rules.specs.declared.Mark.{Mark}
use Rattle.mark_rules.specs.declared.Mark.TheVariants.{Kept, New}
use Rattle.mark_rules.specs.Marks.{edited_marks}
use Rattle.mark_rules.proofs.MarkLaws.{length-kept_marks, kept_marks-add}
use Rattle.line_hunks.specs.declared.run.Run.{Run}
use Rattle.line_hunks.specs.declared.runs.Runs.{Runs}
use Rattle.line_hunks.specs.Run.{is_new, later_mark, marks_from, run_marks, lines_in, numbers_end, IsInRange}
use Rattle.line_hunks.specs.Runs.{marks_up, marks_down, marks_around, all_marks, line_count, marks_behind, StandsBy}

-- The marks of `lines` lines from one with this mark on.

pub length-marks_from : (mark : Mark) (lines : ℕ) → length (marks_from mark lines) ≡ lines
length-marks_from New lines = length-replicate lines New
length-marks_from (Kept number) lines = length-kept_marks number lines

marks_from-add : (mark : Mark) (lines more : ℕ) → marks_from mark (lines + more) ≡ marks_from mark lines ++ marks_from (later_mark mark lines) more
marks_from-add New lines more = sym (replicate-append-replicate lines more New)
marks_from-add (Kept number) lines more = kept_marks-add number lines more

pub marks_from-split : (mark : Mark) (lines before : ℕ) → before ≤ lines
    → marks_from mark lines ≡ marks_from mark before ++ marks_from (later_mark mark before) (lines - before)
marks_from-split mark lines before within =
    let sum : lines ≡ before + (lines - before) = omega arith in
    ap (marks_from mark) sum ∙ marks_from-add mark before (lines - before)

pub length-marks_up : (runs : List Run) → length (marks_up runs) ≡ lines_in runs
length-marks_up [] = refl
length-marks_up (run ∷ runs) =
    omega (arith, length-append (marks_up runs) (run_marks run), length-marks_up runs, length-marks_from run.first run.lines)

pub length-marks_down : (runs : List Run) → length (marks_down runs) ≡ lines_in runs
length-marks_down [] = refl
length-marks_down (run ∷ runs) =
    omega (arith, length-append (run_marks run) (marks_down runs), length-marks_down runs, length-marks_from run.first run.lines)

pub length-marks_around : (front : List Run) (gap : Run) (back : List Run)
    → length (marks_around front gap back) ≡ lines_in front + gap.lines + lines_in back
length-marks_around front gap back =
    omega (
      arith,
      length-append (marks_up front) (run_marks gap ++ marks_down back),
      length-append (run_marks gap) (marks_down back),
      length-marks_up front,
      length-marks_from gap.first gap.lines,
      length-marks_down back,
    )

-- Parts of a run.

pub is_new-later : (mark : Mark) (lines : ℕ) → is_new (later_mark mark lines) ≡ is_new mark
is_new-later New lines = refl
is_new-later (Kept number) lines = refl

pub range-before : (mark : Mark) (lines before : ℕ) → before ≤ lines → numbers_end mark lines ≤ 2 ^ 62 → numbers_end mark before ≤ 2 ^ 62
range-before New lines before within range = omega arith
range-before (Kept number) lines before within range = omega arith

pub range-behind : (mark : Mark) (lines before : ℕ) → before ≤ lines → numbers_end mark lines ≤ 2 ^ 62
    → numbers_end (later_mark mark before) (lines - before) ≤ 2 ^ 62
range-behind New lines before within range = omega arith
range-behind (Kept number) lines before within range = omega arith

not-other : (a b : Bool) → a ≡ not b → b ≡ not a
not-other true true same = (cc)
not-other true false same = refl
not-other false true same = refl
not-other false false same = (cc)

pub StandsBy-alike : (mark other : Mark) (runs : List Run) → is_new mark ≡ is_new other → StandsBy mark runs → StandsBy other runs
StandsBy-alike mark other [] alike stands = tt
StandsBy-alike mark other (run ∷ runs) alike stands = (stands.0 ∙ ap not alike, stands.1, stands.2, stands.3)

pub StandsBy-turned : (mark : Mark) (run : Run) (runs : List Run) (gap : Run) (others : List Run) → gap.first ≡ mark → StandsBy mark (run ∷ runs)
    → 0 < gap.lines → IsInRange gap → StandsBy mark others → StandsBy run.first (gap ∷ others)
StandsBy-turned mark run runs gap others is stands some range beside = (
  not-other (is_new run.first) (is_new gap.first) (stands.0 ∙ ap (λ (m : Mark). not (is_new m)) (sym is)),
  some,
  range,
  subst (λ (m : Mark). StandsBy m others) (sym is) beside,
)

-- Lines that are removed.

-- the state of a cut, with `more` lines still to remove
pub record IsCut (run : Run) (runs : List Run) (lines : ℕ) (rest : Run) (left : List Run) (more : ℕ) : Type 0 where
  pub marks : drop more (marks_behind rest left) ≡ drop lines (marks_behind run runs)
  pub count : lines_in (rest ∷ left) + lines ≡ lines_in (run ∷ runs) + more
  pub within : more ≤ lines_in (rest ∷ left)
  pub range : IsInRange rest
  pub apart : StandsBy rest.first left
  pub fewer : length left ≤ length runs

take_more : (rest : Run) (left : List Run) (more : ℕ) → rest.lines < more
    → drop more (run_marks rest ++ marks_down left) ≡ drop (more - rest.lines) (marks_down left)
take_more rest left more less =
    let sum : more ≡ rest.lines + (more - rest.lines) = omega arith in
    ap (λ n. drop n (run_marks rest ++ marks_down left)) sum
    ∙ sym (drop-drop (more - rest.lines) rest.lines (run_marks rest ++ marks_down left))
    ∙ ap (drop (more - rest.lines)) (drop_at (run_marks rest) (marks_down left) rest.lines (length-marks_from rest.first rest.lines))

pub cut-none : (run : Run) (runs : List Run) (lines : ℕ) → lines ≤ run.lines + lines_in runs → IsInRange run → StandsBy run.first runs
    → IsCut run runs lines run runs lines
cut-none run runs lines within range apart =
    record { marks = refl; count = refl; within = within; range = range; apart = apart; fewer = omega arith }

pub cut-more : (run : Run) (runs : List Run) (lines : ℕ) (rest : Run) (left : List Run) (more : ℕ) (next : Run) (others : List Run)
    → IsCut run runs lines rest left more → rest.lines < more → left ≡ next ∷ others → IsCut run runs lines next others (more - rest.lines)
cut-more run runs lines rest left more next others cut less is =
    let stands : StandsBy rest.first (next ∷ others) = subst (StandsBy rest.first) is cut.apart in
    record {
      marks = ap (λ rs. drop (more - rest.lines) (marks_down rs)) (sym is) ∙ sym (take_more rest left more less) ∙ cut.marks;
      count = omega (arith, cut.count, ap lines_in is);
      within = omega (arith, cut.within, ap lines_in is);
      range = stands.2;
      apart = stands.3;
      fewer = omega (arith, cut.fewer, ap (length {A = Run}) is);
    }

pub cut-marks : (run : Run) (runs : List Run) (lines : ℕ) (rest : Run) (left : List Run) (more : ℕ) → IsCut run runs lines rest left more → more ≤ rest.lines
    → marks_from (later_mark rest.first more) (rest.lines - more) ++ marks_down left ≡ drop lines (run_marks run ++ marks_down runs)
cut-marks run runs lines rest left more cut within =
    let head = marks_from rest.first more in
    let tail = marks_from (later_mark rest.first more) (rest.lines - more) in
    sym (drop_at head (tail ++ marks_down left) more (length-marks_from rest.first more))
    ∙ ap (drop more) (sym (append_assoc head tail (marks_down left)))
    ∙ ap (λ ms. drop more (ms ++ marks_down left)) (sym (marks_from-split rest.first rest.lines more within))
    ∙ cut.marks

-- Lines of the gap that are replaced.

halved : (front : List Run) (gap : Run) (back : List Run) (before : ℕ) → before ≤ gap.lines
    → marks_around front gap back
    ≡ (marks_up front ++ marks_from gap.first before) ++ (marks_from (later_mark gap.first before) (gap.lines - before) ++ marks_down back)
halved front gap back before within =
    let head = marks_from gap.first before in
    let tail = marks_from (later_mark gap.first before) (gap.lines - before) in
    ap (λ ms. marks_up front ++ (ms ++ marks_down back)) (marks_from-split gap.first gap.lines before within)
    ∙ ap (λ ms. marks_up front ++ ms) (append_assoc head tail (marks_down back))
    ∙ sym (append_assoc (marks_up front) head (tail ++ marks_down back))

length-head : (front : List Run) (mark : Mark) (before : ℕ) → length (marks_up front ++ marks_from mark before) ≡ lines_in front + before
length-head front mark before = omega (arith, length-append (marks_up front) (marks_from mark before), length-marks_up front, length-marks_from mark before)

with_joined : (front back : List Run) (a b new : ℕ)
    → marks_up front ++ (replicate (a + b + new) New ++ marks_down back)
    ≡ (marks_up front ++ replicate a New) ++ (replicate new New ++ (replicate b New ++ marks_down back))
with_joined front back a b new =
    let parts : replicate (a + b + new) New ≡ replicate a New ++ (replicate new New ++ replicate b New) =
    ap (λ n. replicate n New) (omega arith)
    ∙ sym (replicate-append-replicate a (new + b) New)
    ∙ ap (λ ms. replicate a New ++ ms) (sym (replicate-append-replicate new b New)) in
    ap (λ ms. marks_up front ++ (ms ++ marks_down back)) parts ∙ simp append_assoc

-- the line with `before` lines before it is the first edited line
edited_behind : (before old new : ℕ) (marks : List Mark) → take before marks ++ (replicate new New ++ drop (before + old) marks) ≡ edited_marks (before + 1) old new marks
edited_behind before old new marks =
    let same : before + 1 - 1 ≡ before = omega arith in
    rw same (sym (append_assoc (take before marks) (replicate new New) (drop (before + old) marks)))

pub replaced-marks : (front : List Run) (gap : Run) (back : List Run) (before old new : ℕ) (head tail : List Mark) (a b : ℕ) (front' back' : List Run)
    → before ≤ gap.lines
    → head ≡ marks_from gap.first before
    → tail ≡ drop old (marks_from (later_mark gap.first before) (gap.lines - before) ++ marks_down back)
    → marks_up front' ++ replicate a New ≡ marks_up front ++ head
    → replicate b New ++ marks_down back' ≡ tail
    → marks_up front' ++ (replicate (a + b + new) New ++ marks_down back')
    ≡ edited_marks (lines_in front + before + 1) old new (marks_around front gap back)
replaced-marks front gap back before old new head tail a b front' back' within head_is tail_is up down =
    let all = marks_around front gap back in
    let start = marks_up front ++ marks_from gap.first before in
    let end = marks_from (later_mark gap.first before) (gap.lines - before) ++ marks_down back in
    let halves : all ≡ start ++ end = halved front gap back before within in
    let size : length start ≡ lines_in front + before = length-head front gap.first before in
    let taken : take (lines_in front + before) all ≡ start = ap (take (lines_in front + before)) halves ∙ take_at start end (lines_in front + before) size in
    let dropped : drop (lines_in front + before + old) all ≡ drop old end =
    sym (drop-drop old (lines_in front + before) all)
    ∙ ap (λ ms. drop old (drop (lines_in front + before) ms)) halves
    ∙ ap (drop old) (drop_at start end (lines_in front + before) size) in
    with_joined front' back' a b new
    ∙ ap (λ ms. ms ++ (replicate new New ++ (replicate b New ++ marks_down back'))) (up ∙ ap (λ ms. marks_up front ++ ms) head_is ∙ sym taken)
    ∙ ap (λ ms. take (lines_in front + before) all ++ (replicate new New ++ ms)) (down ∙ tail_is ∙ sym dropped)
    ∙ edited_behind (lines_in front + before) old new all

pub line_count-marks : (r : Runs) (marks : List Mark) → all_marks r ≡ marks → line_count r ≡ length marks
line_count-marks r marks is = sym (length-marks_around r.sides.front r.gap r.sides.back) ∙ ap length is

-- The places of lines.
use Rattle.std.proofs.Common.{◌≡◌, ℕ, zero, suc, ◌+◌, ◌-◌, ◌<◌, Bool, true, false, not, ◌||◌, eqb, inl, inr, List, [], ◌∷◌, ◌++◌, length, get_or, take, drop, refl, sym, ◌∙◌, ap, subst, arith}
use Rattle.std.specs.Prelude.{replicate}
use Rattle.std.proofs.lemmas.Bool.{cases_lt, eq-eqb, ne_eqb}
use Rattle.std.proofs.lemmas.List.{append_assoc, append-nil, length-append, replicate_more, get_or_at, get_or_append_left, take_at, drop_at, drop_all, nil_from_length}
use Rattle.mark_rules.specs.declared.Mark.{Mark}
use Rattle.mark_rules.specs.declared.Mark.TheVariants.{Kept, New}
use Rattle.mark_rules.specs.Marks.{kept_marks, mark_at, kept_run, new_run, has_new, SpansNew}
use Rattle.mark_rules.proofs.MarkLaws.{length-kept_marks, kept_run-kept_marks, has_new-append, has_new-kept_marks}
use Rattle.line_hunks.specs.declared.run.Run.{Run}
use Rattle.line_hunks.specs.declared.run.Place.{Place}
use Rattle.line_hunks.specs.Run.{is_new, later_mark, marks_from, run_marks, lines_in, kept_of, kept_lines, new_of}
use Rattle.line_hunks.specs.Runs.{marks_up, marks_down, marks_around, StandsBy, Stands}
use Rattle.line_hunks.specs.Places.{EndsNew, IsPlace}
use Rattle.line_hunks.proofs.RunMarks.{length-marks_from, length-marks_up, marks_from-split}

-- The line after a kept run does not continue its numbers.

kept_run-new : (mark : Mark) (lines : ℕ) (marks : List Mark) → is_new mark ≡ true → 0 < lines → kept_run (marks_from mark lines ++ marks) ≡ 0
kept_run-new mark zero marks is some = absurd (omega arith)
kept_run-new New (suc lines) marks is some = refl
kept_run-new (Kept number) (suc lines) marks is some = (cc)

pub not-kept : (kept mark : Bool) → kept ≡ not mark → kept ≡ false → mark ≡ true
not-kept true true opposite is = refl
not-kept true false opposite is = (cc)
not-kept false true opposite is = refl
not-kept false false opposite is = (cc)

not-mark : (run mark : Bool) → run ≡ not mark → mark ≡ false → run ≡ true
not-mark true true opposite is = refl
not-mark true false opposite is = refl
not-mark false true opposite is = (cc)
not-mark false false opposite is = (cc)

apart-down : (mark : Mark) (runs : List Run) → StandsBy mark runs → is_new mark ≡ false → kept_run (marks_down runs) ≡ 0
apart-down mark [] stands kept = refl
apart-down mark (run ∷ runs) stands kept =
    kept_run-new run.first run.lines (marks_down runs) (not-mark (is_new run.first) (is_new mark) stands.0 kept) stands.1

-- The line after a new run is not new.

new_run-kept : (mark : Mark) (lines : ℕ) (marks : List Mark) → is_new mark ≡ false → 0 < lines → new_run (marks_from mark lines ++ marks) ≡ 0
new_run-kept mark zero marks is some = absurd (omega arith)
new_run-kept New (suc lines) marks is some = (cc)
new_run-kept (Kept number) (suc lines) marks is some = refl

ends-down : (mark : Mark) (runs : List Run) → StandsBy mark runs → is_new mark ≡ true → new_run (marks_down runs) ≡ 0
ends-down mark [] stands new = refl
ends-down mark (run ∷ runs) stands new = new_run-kept run.first run.lines (marks_down runs) (stands.0 ∙ ap not new) stands.1

-- The last line before a kept run is new.

EndsNew-new : (marks : List Mark) → EndsNew (marks ++ New ∷ [])
EndsNew-new marks = get_or_at marks New [] New (length (marks ++ New ∷ []) - 1) (omega (arith, length-append marks (New ∷ [])))

EndsNew-run : (marks : List Mark) (mark : Mark) (lines : ℕ) → is_new mark ≡ true → 0 < lines → EndsNew (marks ++ marks_from mark lines)
EndsNew-run marks mark zero is some = absurd (omega arith)
EndsNew-run marks (Kept number) (suc lines) is some = cc
EndsNew-run marks New (suc lines) is some =
    let more : suc lines ≡ lines + 1 = omega arith in
    let last : replicate (suc lines) New ≡ replicate lines New ++ New ∷ [] = ap (λ n. replicate n New) more ∙ sym (replicate_more lines New) in
    subst EndsNew (sym (ap (λ ms. marks ++ ms) last ∙ sym (append_assoc marks (replicate lines New) (New ∷ []))))
    (EndsNew-new (marks ++ replicate lines New))

under-up : (mark : Mark) (runs : List Run) → StandsBy mark runs → is_new mark ≡ false → EndsNew (marks_up runs)
under-up mark [] stands kept = refl
under-up mark (run ∷ runs) stands kept =
    EndsNew-run (marks_up runs) run.first run.lines (not-mark (is_new run.first) (is_new mark) stands.0 kept) stands.1

pub gap-place : (front : List Run) (gap : Run) (back : List Run) (n before : ℕ) → Stands front gap back → n ≡ lines_in front + before + 1 → before < gap.lines
    → IsPlace (marks_around front gap back) n (record { run = gap; before = before })
gap-place front gap back n before stands line within = record {
  lower = marks_up front;
  upper = marks_down back;
  parts = refl;
  line = omega (arith, length-marks_up front);
  within = within;
  range = stands.range;
  under = under-up gap.first front stands.before;
  apart = apart-down gap.first back stands.behind;
  ends = ends-down gap.first back stands.behind;
}

-- The marks around a place.

marks_from-first : (mark : Mark) (lines : ℕ) → 0 < lines → marks_from mark lines ≡ mark ∷ marks_from (later_mark mark 1) (lines - 1)
marks_from-first mark zero some = absurd (omega arith)
marks_from-first New (suc lines) some = ap (λ n. New ∷ replicate n New) (omega arith)
marks_from-first (Kept number) (suc lines) some =
    ap (λ n. Kept number ∷ kept_marks n lines) (omega arith) ∙ ap (λ n. Kept number ∷ kept_marks (number + 1) n) (omega arith)

kept_of-run : (mark : Mark) (before lines : ℕ) (behind : List Mark) → 0 < lines → (is_new mark ≡ false → kept_run behind ≡ 0)
    → kept_of (later_mark mark before) lines ≡ kept_run (marks_from (later_mark mark before) lines ++ behind)
kept_of-run New before lines behind some apart = sym (kept_run-new New lines behind refl some)
kept_of-run (Kept number) before lines behind some apart = sym (kept_run-kept_marks (number + before) lines behind some (apart refl))

new_run-replicate : (lines : ℕ) (behind : List Mark) → new_run behind ≡ 0 → new_run (replicate lines New ++ behind) ≡ lines
new_run-replicate zero behind ends = ends
new_run-replicate (suc lines) behind ends = ap suc (new_run-replicate lines behind ends)

new_of-run : (mark : Mark) (before lines : ℕ) (behind : List Mark) → 0 < lines → (is_new mark ≡ true → new_run behind ≡ 0)
    → new_of (later_mark mark before) lines ≡ new_run (marks_from (later_mark mark before) lines ++ behind)
new_of-run New before lines behind some ends = sym (new_run-replicate lines behind (ends refl))
new_of-run (Kept number) before lines behind some ends = sym (new_run-kept (Kept (number + before)) lines behind refl some)

module _ (marks : List Mark) (n : ℕ) (place : Place) (is : IsPlace marks n place) where
  -- the lines before line n, and those from it on
  from-here : marks ≡ (is.lower ++ marks_from place.run.first place.before)
      ++ (marks_from (later_mark place.run.first place.before) (place.run.lines - place.before) ++ is.upper)
  from-here =
      is.parts
      ∙ ap (λ ms. is.lower ++ (ms ++ is.upper)) (marks_from-split place.run.first place.run.lines place.before (omega (arith, is.within)))
      ∙ simp append_assoc

  before-here : length (is.lower ++ marks_from place.run.first place.before) ≡ n - 1
  before-here = omega (arith, is.line, length-append is.lower (marks_from place.run.first place.before), length-marks_from place.run.first place.before)

  pub mark-here : later_mark place.run.first place.before ≡ mark_at n marks
  mark-here =
      let here = later_mark place.run.first place.before in
      let lower = is.lower ++ marks_from place.run.first place.before in
      let left = place.run.lines - place.before in
      let first : marks_from here left ≡ here ∷ marks_from (later_mark here 1) (left - 1) = marks_from-first here left (omega (arith, is.within)) in
      sym (
      ap (λ ms. get_or ms (n - 1) New) (from-here ∙ ap (λ ms. lower ++ (ms ++ is.upper)) first)
      ∙ get_or_at lower here (marks_from (later_mark here 1) (left - 1) ++ is.upper) New (n - 1) before-here
      )

  pub rest-here : drop (n - 1) marks ≡ marks_from (later_mark place.run.first place.before) (place.run.lines - place.before) ++ is.upper
  rest-here =
      ap (drop (n - 1)) from-here
      ∙ drop_at (is.lower ++ marks_from place.run.first place.before)
      (marks_from (later_mark place.run.first place.before) (place.run.lines - place.before) ++ is.upper) (n - 1) before-here

  pub kept-here : kept_of (later_mark place.run.first place.before) (place.run.lines - place.before) ≡ kept_run (drop (n - 1) marks)
  kept-here =
      kept_of-run place.run.first place.before (place.run.lines - place.before) is.upper (omega (arith, is.within)) is.apart ∙ ap kept_run (sym rest-here)

  pub new-here : new_of (later_mark place.run.first place.before) (place.run.lines - place.before) ≡ new_run (drop (n - 1) marks)
  new-here =
      new_of-run place.run.first place.before (place.run.lines - place.before) is.upper (omega (arith, is.within)) is.ends ∙ ap new_run (sym rest-here)

-- A text in which no line is new.

has_new-run : (mark : Mark) (lines : ℕ) → 0 < lines → has_new (marks_from mark lines) ≡ is_new mark
has_new-run mark zero some = absurd (omega arith)
has_new-run New (suc lines) some = refl
has_new-run (Kept number) (suc lines) some = has_new-kept_marks number (suc lines)

or-left : (x y : Bool) → x ≡ true → (x || y) ≡ true
or-left x y is = ap (λ b. b || y) is

or-right : (x y : Bool) → y ≡ true → (x || y) ≡ true
or-right true y is = refl
or-right false y is = is

new-beside : (mark : Mark) (run : Run) (runs : List Run) → StandsBy mark (run ∷ runs) → is_new mark ≡ false → has_new (run_marks run) ≡ true
new-beside mark run runs stands kept = has_new-run run.first run.lines stands.1 ∙ not-mark (is_new run.first) (is_new mark) stands.0 kept

pub new-gap : (front : List Run) (gap : Run) (back : List Run) → Stands front gap back → is_new gap.first ≡ true → has_new (marks_around front gap back) ≡ true
new-gap front gap back stands is =
    has_new-append (marks_up front) (run_marks gap ++ marks_down back)
    ∙ or-right (has_new (marks_up front)) (has_new (run_marks gap ++ marks_down back))
    (has_new-append (run_marks gap) (marks_down back)
    ∙ or-left (has_new (run_marks gap)) (has_new (marks_down back)) (has_new-run gap.first gap.lines stands.some ∙ is))

pub new-front : (front : List Run) (gap : Run) (back : List Run) → Stands front gap back → is_new gap.first ≡ false → 0 < length front
    → has_new (marks_around front gap back) ≡ true
new-front [] gap back stands kept some = absurd (omega arith)
new-front (run ∷ runs) gap back stands kept some =
    has_new-append (marks_up runs ++ run_marks run) (run_marks gap ++ marks_down back)
    ∙ or-left (has_new (marks_up runs ++ run_marks run)) (has_new (run_marks gap ++ marks_down back))
    (has_new-append (marks_up runs) (run_marks run)
    ∙ or-right (has_new (marks_up runs)) (has_new (run_marks run)) (new-beside gap.first run runs stands.before kept))

pub new-back : (front : List Run) (gap : Run) (back : List Run) → Stands front gap back → is_new gap.first ≡ false → 0 < length back
    → has_new (marks_around front gap back) ≡ true
new-back front gap [] stands kept some = absurd (omega arith)
new-back front gap (run ∷ runs) stands kept some =
    has_new-append (marks_up front) (run_marks gap ++ (run_marks run ++ marks_down runs))
    ∙ or-right (has_new (marks_up front)) (has_new (run_marks gap ++ (run_marks run ++ marks_down runs)))
    (has_new-append (run_marks gap) (run_marks run ++ marks_down runs)
    ∙ or-right (has_new (run_marks gap)) (has_new (run_marks run ++ marks_down runs))
    (has_new-append (run_marks run) (marks_down runs)
    ∙ or-left (has_new (run_marks run)) (has_new (marks_down runs)) (new-beside gap.first run runs stands.behind kept)))

pub new-nowhere : (front : List Run) (gap : Run) (back : List Run) → Stands front gap back → is_new gap.first ≡ false → length front ≡ 0 → length back ≡ 0
    → has_new (marks_around front gap back) ≡ false
new-nowhere [] gap [] stands kept none_before none_behind =
    ap has_new (append-nil (run_marks gap)) ∙ has_new-run gap.first gap.lines stands.some ∙ kept
new-nowhere (run ∷ runs) gap back stands kept none_before none_behind = absurd (omega arith)
new-nowhere [] gap (run ∷ runs) stands kept none_before none_behind = absurd (omega arith)

pub clean-lines : (front : List Run) (gap : Run) (back : List Run) (n : ℕ) → Stands front gap back → is_new gap.first ≡ false
    → n ≡ lines_in front + lines_in back → eqb n 0 ≡ not (has_new (marks_around front gap back))
clean-lines [] gap [] n stands kept same =
    eq-eqb n 0 same ∙ ap not (sym (new-nowhere [] gap [] stands kept refl refl))
clean-lines (run ∷ front) gap back n stands kept same =
    ne_eqb n 0 (λ none. absurd (omega (arith, same, stands.before.1, none)))
    ∙ ap not (sym (new-front (run ∷ front) gap back stands kept (omega arith)))
clean-lines [] gap (run ∷ back) n stands kept same =
    ne_eqb n 0 (λ none. absurd (omega (arith, same, stands.behind.1, none)))
    ∙ ap not (sym (new-back [] gap (run ∷ back) stands kept (omega arith)))

-- The first and the last new line.

or-none : (x y : Bool) → y ≡ false → (x || y) ≡ x
or-none true y none = refl
or-none false y none = none

has_new-some : (marks : List Mark) → has_new marks ≡ true → 0 < length marks
has_new-some [] stale = cc
has_new-some (mark ∷ marks) stale = omega arith

has_new-take : (n k : ℕ) (marks : List Mark) → n < k → n < length marks → get_or marks n New ≡ New → has_new (take k marks) ≡ true
has_new-take n zero marks less within new = absurd (omega arith)
has_new-take n (suc k) [] less within new = absurd (omega arith)
has_new-take n (suc k) (New ∷ marks) less within new = refl
has_new-take zero (suc k) (Kept i ∷ marks) less within new = cc
has_new-take (suc n) (suc k) (Kept i ∷ marks) less within new = has_new-take n k marks (omega arith) (omega arith) new

-- the first `kept` lines are kept, and the next one is new
pub record FirstNew (marks : List Mark) (kept : ℕ) : Type 0 where
  pub within : kept < length marks
  pub new : mark_at (kept + 1) marks ≡ New
  pub before : has_new (take kept marks) ≡ false

FirstNew-behind : (kept behind : List Mark) (n : ℕ) → length kept ≡ n → has_new kept ≡ false → kept_run behind ≡ 0 → has_new behind ≡ true
    → FirstNew (kept ++ behind) n
FirstNew-behind kept [] n size clean apart stale = cc
FirstNew-behind kept (Kept i ∷ marks) n size clean apart stale = absurd (omega arith)
FirstNew-behind kept (New ∷ marks) n size clean apart stale = record {
  within = omega (arith, size, length-append kept (New ∷ marks));
  new = get_or_at kept New marks New (n + 1 - 1) (omega (arith, size));
  before = ap has_new (take_at kept (New ∷ marks) n size) ∙ clean;
}

FirstNew-run : (mark : Mark) (lines : ℕ) (behind : List Mark) → 0 < lines → (is_new mark ≡ false → kept_run behind ≡ 0)
    → has_new (marks_from mark lines ++ behind) ≡ true → FirstNew (marks_from mark lines ++ behind) (kept_of mark lines)
FirstNew-run New zero behind some apart stale = absurd (omega arith)
FirstNew-run New (suc lines) behind some apart stale = record { within = omega arith; new = refl; before = refl }
FirstNew-run (Kept number) lines behind some apart stale =
    let kept = kept_marks number lines in
    let clean : has_new kept ≡ false = has_new-kept_marks number lines in
    let later : has_new behind ≡ true = ap (λ b. b || has_new behind) (sym clean) ∙ sym (has_new-append kept behind) ∙ stale in
    FirstNew-behind kept behind lines (length-kept_marks number lines) clean (apart refl) later

pub first-new : (marks : List Mark) (place : Place) → IsPlace marks 1 place → has_new marks ≡ true → FirstNew marks (kept_lines place.run)
first-new marks place is stale =
    let none : is.lower ≡ [] = nil_from_length is.lower (omega (arith, is.line)) in
    let parts : marks ≡ run_marks place.run ++ is.upper = is.parts ∙ ap (λ ms. ms ++ (run_marks place.run ++ is.upper)) none in
    subst (λ ms. FirstNew ms (kept_lines place.run)) (sym parts)
    (FirstNew-run place.run.first place.run.lines is.upper (omega (arith, is.within)) is.apart (ap has_new (sym parts) ∙ stale))

-- the last `kept` lines are kept, and the one before them is new
pub record LastNew (marks : List Mark) (kept : ℕ) : Type 0 where
  pub within : kept < length marks
  pub new : mark_at (length marks - kept) marks ≡ New
  pub behind : has_new (drop (length marks - kept) marks) ≡ false

LastNew-run : (lower : List Mark) (mark : Mark) (lines : ℕ) → 0 < lines → (is_new mark ≡ false → EndsNew lower)
    → has_new (lower ++ marks_from mark lines) ≡ true → LastNew (lower ++ marks_from mark lines) (kept_of mark lines)
LastNew-run lower New lines some under stale =
    let marks = lower ++ marks_from New lines in
    record {
      within = omega (arith, length-append lower (marks_from New lines), length-marks_from New lines);
      new = subst (λ n. mark_at n marks ≡ New) (omega arith) (EndsNew-run lower New lines refl some);
      behind = ap has_new (drop_all (length marks - 0) marks (omega arith));
    }
LastNew-run lower (Kept number) lines some under stale =
    let kept = kept_marks number lines in
    let clean : has_new kept ≡ false = has_new-kept_marks number lines in
    let earlier : has_new lower ≡ true = sym (or-none (has_new lower) (has_new kept) clean) ∙ sym (has_new-append lower kept) ∙ stale in
    let long : 0 < length lower = has_new-some lower earlier in
    let sum : length (lower ++ kept) ≡ length lower + lines = omega (arith, length-append lower kept, length-kept_marks number lines) in
    let size : length (lower ++ kept) - lines ≡ length lower = omega (arith, sum) in
    record {
      within = omega (arith, sum, long);
      new = ap (λ n. mark_at n (lower ++ kept)) size ∙ get_or_append_left lower kept New (length lower - 1) (omega (arith, long)) ∙ under refl;
      behind = ap (λ n. has_new (drop n (lower ++ kept))) size ∙ ap has_new (drop_at lower kept (length lower) refl) ∙ clean;
    }

pub last-new : (marks : List Mark) (n : ℕ) (place : Place) → IsPlace marks n place → n ≡ length marks → has_new marks ≡ true
    → LastNew marks (kept_lines place.run)
last-new marks n place is last stale =
    let run = run_marks place.run in
    let none : is.upper ≡ [] =
    nil_from_length is.upper
    (omega (
      arith,
      is.line,
      last,
      is.within,
      ap length is.parts,
      length-append is.lower (run ++ is.upper),
      length-append run is.upper,
      length-marks_from place.run.first place.run.lines,
    )) in
    let parts : marks ≡ is.lower ++ run = is.parts ∙ ap (λ ms. is.lower ++ (run ++ ms)) none ∙ ap (λ ms. is.lower ++ ms) (append-nil run) in
    subst (λ ms. LastNew ms (kept_lines place.run)) (sym parts)
    (LastNew-run is.lower place.run.first place.run.lines (omega (arith, is.within)) is.under (ap has_new (sym parts) ∙ stale))

pub SpansNew-between : (marks : List Mark) (before behind : ℕ) → FirstNew marks before → LastNew marks behind
    → SpansNew marks (before + 1) (length marks - behind)
SpansNew-between marks before behind first last =
    let first_at : has_new (take (before + 1 - 1) marks) ≡ false = ap (λ n. has_new (take n marks)) (omega arith) ∙ first.before in
    record {
      from = omega arith;
      ordered = elim (cases_lt (length marks - behind) (before + 1)) [
        | inl less ↦
            let new : has_new (take before marks) ≡ true =
            has_new-take (length marks - behind - 1) before marks (omega (arith, less, last.within)) (omega (arith, last.within)) last.new in
            cc
        | inr ordered ↦ ordered
      ];
      to = omega arith;
      first_new = first.new;
      last_new = last.new;
      kept_before = first_at;
      kept_behind = last.behind;
    }

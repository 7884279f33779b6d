-- Laws of a walk over the lines of a text: no step changes the outcome of all lines.
use Rattle.std.proofs.Common.{◌≡◌, ℕ, suc, ◌+◌, ◌-◌, ◌<◌, ◌≤◌, ◌^◌, true, List, [], ◌∷◌, ◌++◌, length, take, drop, ap, sym, ◌∙◌, subst, append_assoc, arith}
use Rattle.std.proofs.lemmas.List.{append-nil, length-append, length-drop, length-take-le, drop-drop, get_or_push}
use Rattle.mark_rules.specs.declared.Mark.TheVariants.{Kept, New}
use Rattle.mark_rules.specs.Marks.{mark_at, kept_marks, kept_run, Rises}
use Rattle.mark_rules.proofs.MarkLaws.{length-kept_marks}
use Rattle.hiding_rules.specs.declared.LineState.{LineState}
use Rattle.hiding_rules.specs.declared.LineState.TheVariants.{Code}
use Rattle.hiding_rules.specs.Hidden.{hidden_scan}
use Rattle.hiding_rules.specs.States.{states_from}
use Rattle.hiding_rules.specs.Known.{is_scanned, Lead}
use Rattle.line_states.specs.declared.settle.Walk.{Walk}
use Rattle.line_states.specs.Lines.{LinesState, AsksFront, content_at}
use Rattle.line_states.specs.Settling.{known_of, known_lines}
use Rattle.line_states.specs.Outcome.{Task, IsTask, CanSettle, Outcome, outcome, outcome_of, outcome_from, followed_by, ended, scanned_line, kept_lines}
use Rattle.line_states.specs.Walk.{so_far, ahead, comes_of, EndsNew, IsOnWay, CanKeep, HasKept, HasScanned, HasPassed, HasCome}
use Rattle.line_states.proofs.SettledMarks.{began, Rises-settled}
use Rattle.line_states.proofs.OfLines.{run_is_of}
use Rattle.line_states.proofs.KeptRuns.{run_is_kept, run_has_line, kept_run_within, none_behind_run, Rises-front}
use Rattle.line_states.proofs.Walking.{followed_by-followed_by, scanned_step, run_step, nothing_ahead}

-- ---- lines of which only those that are asked for change

pub CanSettle-same : (t : Task) (q r : LinesState) → r.contents ≡ q.contents → CanSettle t q → CanSettle t r
CanSettle-same t q r same can = record {
  count = can.count ∙ sym (ap (λ (xs : List (List ℕ)). length xs) same);
  lead = subst (λ xs. Lead t.by (known_lines t.last t.marks) xs) (sym same) can.lead;
}

outcome_from-same : (t : Task) (q r : LinesState) (n : ℕ) (s : LineState) → r.contents ≡ q.contents → outcome_from t r n s ≡ outcome_from t q n s
outcome_from-same t q r n s same = ap (λ xs. outcome_of t.by t.last (suc n) (drop n t.marks) (drop n xs) s) same

-- ---- one step

stays_so : (t : Task) (q r : LinesState) (v w : Walk) (piece : Outcome) → so_far w r ≡ followed_by (so_far v q) piece
    → ahead t q v ≡ followed_by piece (ahead t r w) → comes_of t r w ≡ comes_of t q v
stays_so t q r v w piece passed left =
    ap (λ first. followed_by first (ahead t r w)) passed ∙ followed_by-followed_by (so_far v q) piece (ahead t r w)
    ∙ ap (followed_by (so_far v q)) (sym left)

rises_still : (t : Task) (q r : LinesState) (v w : Walk) → comes_of t r w ≡ comes_of t q v → Rises (comes_of t q v).marks → Rises (comes_of t r w).marks
rises_still t q r v w same rises = subst (λ (o : Outcome). Rises o.marks) (sym same) rises

-- ---- kept lines

-- `k` kept lines are next, from line `first` of the last parse on, and the first of them begins in the same state
pub record RunAhead (t : Task) (q : LinesState) (v : Walk) (first k : ℕ) : Type 0 where
  pub is_task : IsTask t
  pub can : CanSettle t q
  pub way : IsOnWay t q v
  pub mark : mark_at (v.passed + 1) t.marks ≡ Kept first
  pub run : k ≡ kept_run (drop (v.passed + 1 - 1) t.marks)
  pub counted : 1 ≤ first
  pub range : first + k ≤ 2 ^ 62
  pub begins : began t.last first ≡ v.state

module _ {t : Task} {q : LinesState} {v : Walk} {first k : ℕ} (next : RunAhead t q v first k) where
  run_here : k ≡ kept_run (drop v.passed t.marks)
  run_here = next.run ∙ ap (λ n. kept_run (drop n t.marks)) (omega arith)

  run_step_here : ahead t q v ≡ followed_by (kept_lines t.last first k) (outcome_from t q (v.passed + k) (ended t.last first k))
  run_step_here = run_step t q v.passed first k v.state next.can next.is_task.lines_of_last next.mark run_here next.counted next.begins

  some_lines : 0 < k
  some_lines = omega (arith, run_has_line v.passed first t.marks next.mark, run_here)

  lines_there : v.passed + k ≤ length t.marks
  lines_there = omega (arith, run_here, kept_run_within (drop v.passed t.marks), length-drop v.passed t.marks, next.way.within)

  run_within : first + k ≤ length t.last.begins + 1
  run_within =
      run_is_of (length t.last.begins) v.passed first k t.marks next.is_task.lines_of_last
      (subst (λ m. take m (drop v.passed t.marks) ≡ kept_marks first m) (sym run_here) (run_is_kept v.passed first t.marks next.mark)) some_lines

  rises_here : Rises (v.marks ++ kept_marks first k)
  rises_here =
      let behind = outcome_from t q (v.passed + k) (ended t.last first k) in
      let parts = ap (λ (o : Outcome). v.marks ++ o.marks) run_step_here ∙ sym (append_assoc v.marks (kept_marks first k) behind.marks) in
      Rises-front (v.marks ++ kept_marks first k) behind.marks (subst Rises parts next.way.rises)

  pub can_keep : CanKeep t.last v first k
  can_keep = record {
    counted = next.counted;
    some = omega (arith, some_lines);
    within = omega (arith, run_within);
    range = next.range;
    passed = omega (arith, lines_there, next.is_task.few);
    marks = next.way.marks;
    begins = next.way.begins;
    apart = next.way.apart (omega (arith, some_lines, run_here));
    rises = rises_here;
  }

  module _ (w : Walk) (kept : HasKept t.last v w first k) where
    comes_still : comes_of t q w ≡ comes_of t q v
    comes_still =
        let none = append-nil q.asked in
        let came : so_far w q ≡ followed_by (so_far v q) (kept_lines t.last first k) = cc in
        let there : ahead t q w ≡ outcome_from t q (v.passed + k) (ended t.last first k) = cc in
        stays_so t q q v w (kept_lines t.last first k) came (run_step_here ∙ ap (followed_by (kept_lines t.last first k)) (sym there))

    none_next : kept_run (drop w.passed t.marks) ≡ 0
    none_next =
        ap (λ n. kept_run (drop n t.marks)) kept.passed ∙ ap kept_run (sym (drop-drop k v.passed t.marks))
        ∙ ap (λ n. kept_run (drop n (drop v.passed t.marks))) run_here ∙ none_behind_run v.passed t.marks next.is_task.rises

    pub passes_run : HasPassed t q q v w
    passes_run = record {
      on = omega (arith, some_lines, kept.passed);
      way = record {
        within = omega (arith, lines_there, kept.passed);
        marks = omega (arith, ap length kept.marks, length-append v.marks (kept_marks first k), length-kept_marks first k, next.way.marks, kept.passed);
        begins =
            omega (
              arith,
              ap length kept.begins,
              length-append v.begins (take k (drop (first - 1) t.last.begins)),
              length-take-le k (drop (first - 1) t.last.begins) (omega (arith, length-drop (first - 1) t.last.begins, run_within)),
              next.way.begins,
              kept.passed,
            );
        rises = rises_still t q q v w comes_still next.way.rises;
        apart = λ some. absurd (omega (arith, some, none_next));
      };
      comes = comes_still;
    }

-- ---- a line that is scanned

-- a line to be scanned is next
pub record LineAhead (t : Task) (q : LinesState) (v : Walk) : Type 0 where
  pub is_task : IsTask t
  pub can : CanSettle t q
  pub way : IsOnWay t q v
  pub more : v.passed < length t.marks
  pub scanned : is_scanned (known_of t.last (mark_at (v.passed + 1) t.marks)) v.state ≡ true

module _ {t : Task} {q : LinesState} {v : Walk} (next : LineAhead t q v) (r : LinesState) where
  end_here : LineState
  end_here = (hidden_scan t.by v.state (content_at (v.passed + 1) q.contents)).state

  scanned_step_here : ahead t q v ≡ followed_by (scanned_line (v.passed + 1) v.state end_here) (outcome_from t q (v.passed + 1) end_here)
  unfolding end_here
  scanned_step_here = scanned_step t q v.passed v.state next.can next.more next.scanned

  -- after an error the lines asked for are a prefix
  pub front_of_all : AsksFront ((v.passed + 1) ∷ []) q.asked r.asked → AsksFront (ahead t q v).asked q.asked r.asked
  front_of_all front =
      let behind = outcome_from t q (v.passed + 1) end_here in (
        front.0 ++ behind.asked,
        sym (append_assoc r.asked front.0 behind.asked) ∙ ap (λ lines. lines ++ behind.asked) front.1
            ∙ append_assoc q.asked ((v.passed + 1) ∷ []) behind.asked ∙ ap (λ (o : Outcome). q.asked ++ o.asked) (sym scanned_step_here),
      )

  module _ (w : Walk) (passed : HasScanned t.by q r v w) (contents : r.contents ≡ q.contents) where
    comes_still_here : comes_of t r w ≡ comes_of t q v
    unfolding end_here
    comes_still_here =
        let came : so_far w r ≡ followed_by (so_far v q) (scanned_line (v.passed + 1) v.state end_here) = cc in
        let same = outcome_from-same t q r w.passed w.state contents in
        let there : outcome_from t q w.passed w.state ≡ outcome_from t q (v.passed + 1) end_here = cc in
        stays_so t q r v w (scanned_line (v.passed + 1) v.state end_here) came
        (scanned_step_here ∙ ap (followed_by (scanned_line (v.passed + 1) v.state end_here)) (sym (same ∙ there)))

    long : length w.marks ≡ v.passed + 1
    long = omega (arith, ap length passed.marks, length-append v.marks (New ∷ []), next.way.marks)

    ends_new : EndsNew w.marks
    ends_new =
        ap (λ n. mark_at n w.marks) long ∙ ap (mark_at (v.passed + 1)) passed.marks
        ∙ get_or_push v.marks New New (v.passed + 1 - 1) (omega (arith, next.way.marks))

    pub passes_line : HasPassed t q r v w
    passes_line = record {
      on = omega (arith, passed.passed);
      way = record {
        within = omega (arith, next.more, passed.passed);
        marks = long ∙ sym passed.passed;
        begins = omega (arith, ap length passed.begins, length-append v.begins (v.state ∷ []), next.way.begins, passed.passed);
        rises = rises_still t q r v w comes_still_here next.way.rises;
        apart = λ some. ends_new;
      };
      comes = comes_still_here;
    }

-- ---- the whole way

-- the outcome of all lines, with the lines asked for before
abbrev pub whole : Task → LinesState → Outcome
whole t q = record {
  marks = (outcome t q).marks;
  begins = (outcome t q).begins;
  asked = q.asked ++ (outcome t q).asked;
  ends = (outcome t q).ends;
}

-- a walk that has passed no line
pub starts : (t : Task) (q : LinesState) (w : Walk) → IsTask t → CanSettle t q → w.passed ≡ 0 → w.state ≡ Code → w.marks ≡ [] → w.begins ≡ []
    → IsOnWay t q w × (comes_of t q w ≡ whole t q)
starts t q w is_task can passed state marks begins =
    let all : comes_of t q w ≡ whole t q = cc in (
      record {
        within = omega (arith, passed);
        marks = ap length marks ∙ sym passed;
        begins = ap length begins ∙ sym passed;
        rises =
            subst (λ (o : Outcome). Rises o.marks) (sym all) (Rises-settled t.last t.marks (states_from t.by Code q.contents) is_task.rises);
        apart = λ some. ap (λ ms. mark_at (length ms) ms) marks;
      },
      all,
    )

nothing_behind : (o : Outcome) → followed_by o (record { marks = []; begins = []; asked = []; ends = o.ends }) ≡ o
nothing_behind o =
    ap (λ ms. record { marks = ms; begins = o.begins ++ []; asked = o.asked ++ []; ends = o.ends }) (append-nil o.marks)
    ∙ ap (λ ss. record { marks = o.marks; begins = ss; asked = o.asked ++ []; ends = o.ends }) (append-nil o.begins)
    ∙ ap (λ ns. record { marks = o.marks; begins = o.begins; asked = ns; ends = o.ends }) (append-nil o.asked)

-- a walk that has passed all lines
pub ends_so : (t : Task) (q r : LinesState) (w : Walk) → IsTask t → CanSettle t q → r.contents ≡ q.contents → IsOnWay t r w
    → comes_of t r w ≡ whole t q → length t.marks ≤ w.passed → HasCome t q r w
ends_so t q r w is_task can same way all past =
    let none = nothing_ahead t r w.passed w.state (CanSettle-same t q r same can) past in
    let came : so_far w r ≡ whole t q = sym (nothing_behind (so_far w r)) ∙ ap (followed_by (so_far w r)) (sym none) ∙ all in
    record {
      marks = ap (λ (o : Outcome). o.marks) came;
      begins = ap (λ (o : Outcome). o.begins) came;
      ends = ap (λ (o : Outcome). o.ends) came;
      asked = ap (λ (o : Outcome). o.asked) came;
      some = omega (arith, way.marks, past, is_task.some);
      few = omega (arith, way.marks, way.within, is_task.few);
      count = way.begins ∙ sym way.marks;
    }

-- after an error in the middle of the walk the lines asked for are a prefix
pub front_so_far : (t : Task) (q r : LinesState) (w : Walk) (asked : List ℕ) → comes_of t r w ≡ whole t q
    → AsksFront (ahead t r w).asked r.asked asked → AsksFront (outcome t q).asked q.asked asked
front_so_far t q r w asked all front = (front.0, front.1 ∙ ap (λ (o : Outcome). o.asked) all)

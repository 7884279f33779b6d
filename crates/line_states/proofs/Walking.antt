-- Laws of the steps of a walk over the lines: one scanned line, or kept lines none of which is scanned.
use Rattle.std.proofs.Common.{◌≡◌, ℕ, suc, ◌+◌, ◌-◌, ◌<◌, ◌≤◌, true, List, [], ◌∷◌, ◌++◌, length, take, drop, map, refl, ap, sym, ◌∙◌, subst, append_assoc, arith}
use Rattle.std.specs.Prelude.{slice_index_or}
use Rattle.std.proofs.lemmas.List.{drop_all, drop_more, take-append-drop, drop-drop, drop-map, take-map, map-append, length-take-le, length-drop, length-map}
use Rattle.mark_rules.specs.declared.Mark.{Mark}
use Rattle.mark_rules.specs.declared.Mark.TheVariants.{Kept, New}
use Rattle.mark_rules.specs.Marks.{mark_at, kept_marks, kept_run}
use Rattle.mark_rules.proofs.MarkLaws.{length-kept_marks}
use Rattle.hiding_rules.specs.declared.LineState.{LineState}
use Rattle.hiding_rules.specs.Hidden.{Scanner, hidden_scan}
use Rattle.hiding_rules.specs.States.{states_from}
use Rattle.hiding_rules.specs.Known.{is_scanned, scanned_lines, Lead, AreChained, all_known}
use Rattle.hiding_rules.proofs.Runs.{states_of_both, Stays, chained_stays}
use Rattle.line_states.specs.Lines.{LinesState, content_at}
use Rattle.line_states.specs.Settling.{Borders, known_of, known_lines, AreOf}
use Rattle.line_states.specs.Outcome.{Task, CanSettle, Outcome, outcome_of, outcome_from, followed_by, ended, scanned_line, kept_lines}
use Rattle.line_states.proofs.SettledMarks.{began}
use Rattle.line_states.proofs.OfLines.{run_is_of}
use Rattle.line_states.proofs.KeptRuns.{run_is_kept, run_has_line, kept_run_within}
use Rattle.line_states.proofs.Parts.{state_behind-append, settled_marks-append, scanned_lines-append, Lead-drop, Lead-take}
use Rattle.line_states.proofs.Staying.{run_known, length-run_known, run_known-all, run_known-begins, chained_run, settled_run}

pub followed_by-followed_by : (a b c : Outcome) → followed_by (followed_by a b) c ≡ followed_by a (followed_by b c)
followed_by-followed_by a b c =
    let marks = append_assoc a.marks b.marks c.marks in
    let begins = append_assoc a.begins b.begins c.begins in
    let asked = append_assoc a.asked b.asked c.asked in
    cc

-- ---- one line that is scanned

scanned_first : (by : Scanner) (last : Borders) (number : ℕ) (m : Mark) (marks : List Mark) (x : List ℕ) (contents : List (List ℕ)) (s : LineState)
    → is_scanned (known_of last m) s ≡ true
    → outcome_of by last number (m ∷ marks) (x ∷ contents) s
    ≡ followed_by (scanned_line number s (hidden_scan by s x).state) (outcome_of by last (suc number) marks contents (hidden_scan by s x).state)
scanned_first by last number New marks x contents s scanned = refl
scanned_first by last number (Kept i) marks x contents s scanned = rw scanned

pub scanned_step : (t : Task) (lines : LinesState) (n : ℕ) (s : LineState) → CanSettle t lines → n < length t.marks
    → is_scanned (known_of t.last (mark_at (n + 1) t.marks)) s ≡ true
    → outcome_from t lines n s
    ≡ followed_by (scanned_line (n + 1) s (hidden_scan t.by s (content_at (n + 1) lines.contents)).state)
    (outcome_from t lines (n + 1) (hidden_scan t.by s (content_at (n + 1) lines.contents)).state)
scanned_step t lines n s can within scanned =
    let at : n + 1 - 1 ≡ n = omega arith in
    let suc_is : suc n ≡ n + 1 = omega arith in
    let count = can.count in
    let marks = drop_more t.marks n New within in
    let contents = drop_more lines.contents n [] (omega arith) in
    let here : is_scanned (known_of t.last (slice_index_or t.marks n New)) s ≡ true =
    subst (λ k. is_scanned (known_of t.last (slice_index_or t.marks k New)) s ≡ true) at scanned in
    let step = scanned_first t.by t.last (suc n) (slice_index_or t.marks n New) (drop (n + 1) t.marks) (slice_index_or lines.contents n []) (drop (n + 1) lines.contents) s here in
    cc

-- ---- lines that are kept one after another

module _ (by : Scanner) (last : Borders) (first k : ℕ) (s : LineState) (number : ℕ) (xs ys : List (List ℕ)) (marks : List Mark)
    (is_first : 1 ≤ first) (some : 0 < k) (within : first + k ≤ length last.begins + 1) (begins : began last first ≡ s)
    (count : length xs ≡ k) (lead : Lead by (known_lines last (kept_marks first k)) xs) where
  stays : Stays by s (ended last first k) (run_known last first k) xs
  stays =
      let chained : AreChained s (run_known last first k) (ended last first k) =
      subst (λ from. AreChained from (run_known last first k) (ended last first k)) begins
      (chained_run last first k is_first some within) in
      let leads : Lead by (all_known (run_known last first k)) xs = subst (λ known. Lead by known xs) (run_known-all last first k) lead in
      chained_stays by s (ended last first k) (run_known last first k) xs (length-run_known last first k ∙ sym count) leads chained

  states : states_from by s (xs ++ ys) ≡ map (λ l. l.begins) (run_known last first k) ++ states_from by (ended last first k) ys
  states =
      let both = states_of_both by s xs ys in let here = stays.states in let behind = stays.behind in cc

  same_count : length (kept_marks first k) ≡ length (map (λ l. l.begins) (run_known last first k))
  same_count = length-kept_marks first k ∙ sym (length-run_known last first k) ∙ sym (length-map (run_known last first k) (λ l. l.begins))

  no_line : scanned_lines number (known_lines last (kept_marks first k)) (map (λ l. l.begins) (run_known last first k)) ≡ []
  no_line =
      let none = stays.none number in
      let states = stays.states in
      let known = run_known-all last first k in
      cc

  asked : scanned_lines number (known_lines last (kept_marks first k ++ marks)) (map (λ l. l.begins) (run_known last first k) ++ states_from by (ended last first k) ys)
      ≡ scanned_lines (number + k) (known_lines last marks) (states_from by (ended last first k) ys)
  asked =
      let known : known_lines last (kept_marks first k ++ marks) ≡ known_lines last (kept_marks first k) ++ known_lines last marks =
      map-append (known_of last) (kept_marks first k) marks in
      let as_many : length (known_lines last (kept_marks first k)) ≡ k = length-map (kept_marks first k) (known_of last) ∙ length-kept_marks first k in
      let both = scanned_lines-append number (known_lines last (kept_marks first k)) (known_lines last marks)
      (map (λ l. l.begins) (run_known last first k)) (states_from by (ended last first k) ys) (as_many ∙ sym (length-kept_marks first k) ∙ same_count) in
      let none = no_line in
      cc

  kept_step : outcome_of by last number (kept_marks first k ++ marks) (xs ++ ys) s
      ≡ followed_by (kept_lines last first k) (outcome_of by last (number + k) marks ys (ended last first k))
  kept_step =
      let all = states in
      let both = settled_marks-append last (kept_marks first k) marks (map (λ l. l.begins) (run_known last first k)) (states_from by (ended last first k) ys) same_count in
      let run = settled_run last first k in
      let begins = run_known-begins last first k is_first within in
      let lines = asked in
      let ends = state_behind-append by s xs ys in
      let behind = stays.behind in
      cc

pub run_step : (t : Task) (lines : LinesState) (n i k : ℕ) (s : LineState) → CanSettle t lines → AreOf (length t.last.begins) t.marks
    → mark_at (n + 1) t.marks ≡ Kept i → k ≡ kept_run (drop n t.marks) → 1 ≤ i → began t.last i ≡ s
    → outcome_from t lines n s
    ≡ followed_by (kept_lines t.last i k) (outcome_from t lines (n + k) (ended t.last i k))
run_step t lines n i k s can of mark is first begins =
    let run : take k (drop n t.marks) ≡ kept_marks i k =
    subst (λ m. take m (drop n t.marks) ≡ kept_marks i m) (sym is) (run_is_kept n i t.marks mark) in
    let some : 0 < k = omega (arith, run_has_line n i t.marks mark) in
    let within = run_is_of (length t.last.begins) n i k t.marks of run some in
    let known : take k (drop n (known_lines t.last t.marks)) ≡ known_lines t.last (kept_marks i k) =
    ap (take k) (drop-map (known_of t.last) n t.marks) ∙ take-map (known_of t.last) k (drop n t.marks) ∙ ap (known_lines t.last) run in
    let leads = Lead-take t.by k (drop n (known_lines t.last t.marks)) (drop n lines.contents) (Lead-drop t.by n (known_lines t.last t.marks) lines.contents can.lead) in
    let lead : Lead t.by (known_lines t.last (kept_marks i k)) (take k (drop n lines.contents)) = subst (λ ks. Lead t.by ks (take k (drop n lines.contents))) known leads in
    let same = can.count in
    let room = kept_run_within (drop n t.marks) in
    let long = length-drop n t.marks in
    let also_long = length-drop n lines.contents in
    let count = length-take-le k (drop n lines.contents) (omega arith) in
    let step = kept_step t.by t.last i k s (suc n) (take k (drop n lines.contents)) (drop k (drop n lines.contents)) (drop k (drop n t.marks)) first some within begins count lead in
    let marks : drop n t.marks ≡ kept_marks i k ++ drop k (drop n t.marks) =
    sym (take-append-drop k (drop n t.marks)) ∙ ap (λ ms. ms ++ drop k (drop n t.marks)) run in
    let contents = sym (take-append-drop k (drop n lines.contents)) in
    let number : suc n + k ≡ suc (n + k) = omega arith in
    ap (λ ms. outcome_of t.by t.last (suc n) ms (drop n lines.contents) s) marks
    ∙ ap (λ xs. outcome_of t.by t.last (suc n) (kept_marks i k ++ drop k (drop n t.marks)) xs s) contents
    ∙ step
    ∙ ap (λ m. followed_by (kept_lines t.last i k) (outcome_of t.by t.last m (drop k (drop n t.marks)) (drop k (drop n lines.contents)) (ended t.last i k))) number
    ∙ ap (λ ms. followed_by (kept_lines t.last i k) (outcome_of t.by t.last (suc (n + k)) ms (drop k (drop n lines.contents)) (ended t.last i k))) (drop-drop k n t.marks)
    ∙ ap (λ xs. followed_by (kept_lines t.last i k) (outcome_of t.by t.last (suc (n + k)) (drop (n + k) t.marks) xs (ended t.last i k))) (drop-drop k n lines.contents)

-- ---- the whole way

pub nothing_ahead : (t : Task) (lines : LinesState) (n : ℕ) (s : LineState) → CanSettle t lines → length t.marks ≤ n
    → outcome_from t lines n s ≡ record { marks = []; begins = []; asked = []; ends = s }
nothing_ahead t lines n s can past =
    let count = can.count in
    let marks = drop_all n t.marks past in
    let contents = drop_all n lines.contents (omega arith) in
    cc

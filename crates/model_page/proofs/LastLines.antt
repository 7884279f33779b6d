-- The lines of a text as they were parsed last: after an edit, after a parse, and once they are settled for the next one.
use Rattle.std.proofs.Common.{◌≡◌, ℕ, zero, suc, ◌+◌, ◌-◌, ◌<◌, ◌≤◌, Bool, true, false, cond, List, [], ◌∷◌, ◌++◌, length, map, take, drop, get_or, Option, Some, None, refl, ap, sym, ◌∙◌, subst, arith, append_assoc, drop-cons}
use Rattle.std.specs.Prelude.{replicate, slice_index_or}
use Rattle.std.proofs.lemmas.List.{length-append, length-drop, length-map, length-replicate, length-take-le, take_all, drop_all, take-append-le, take-append-drop, drop-drop, drop-map, take-map, get_or-drop, get_or-map, drop-append-le}
use Rattle.bracket_rules.specs.Rows.{Row}
use Rattle.bracket_rules.specs.TextRows.{empty_row}
use Rattle.hiding_rules.specs.declared.LineState.{LineState}
use Rattle.hiding_rules.specs.declared.LineState.TheVariants.{Code}
use Rattle.hiding_rules.specs.Hidden.{Scanner, hidden_scan}
use Rattle.hiding_rules.specs.Rows.{line_by, lines_by, broken, hidden_rows}
use Rattle.hiding_rules.specs.States.{states_from, line_states}
use Rattle.hiding_rules.specs.Known.{Known, Lead, is_restarted, state_behind}
use Rattle.hiding_rules.proofs.Rows.{length-broken, drop-broken, length-states_from, length-lines_by, line_by-at}
use Rattle.line_states.specs.Settling.{Borders, known_of, known_lines, settled_marks}
use Rattle.line_states.proofs.Parts.{Lead-take, Lead-drop}
use Rattle.line_states.proofs.SettledMarks.{length-settled, Rises-settled, kept_still}
use Rattle.mark_rules.specs.declared.Mark.{Mark}
use Rattle.mark_rules.specs.declared.Mark.TheVariants.{Kept, New}
use Rattle.mark_rules.specs.Marks.{mark_at, kept_marks, clean_marks, edited_marks}
use Rattle.reuse_rules.specs.Agreement.{Alike, GoOnAlike, BeginsAlike, Agrees}
use Rattle.reuse_rules.specs.Edits.{IsEdited}
use Rattle.node_reuse.specs.Reading.{AgreesIfThere}
use Rattle.bracket_tree_rules.specs.Tree.{Tree, tree_rows}
use Rattle.model_page.specs.Staying.{last_state, last_lines}
use Rattle.model_page.proofs.DirtyEdits.{length-after}
use Rattle.model_page.proofs.EditedMarks.{length-edited_marks}

-- ---- parts of lines

take-lines_by : (by : Scanner) (n : ℕ) (states : List LineState) (lines : List (List ℕ))
    → take n (lines_by by states lines) ≡ lines_by by (take n states) (take n lines)
take-lines_by by zero states lines = refl
take-lines_by by (suc n) [] lines = refl
take-lines_by by (suc n) (s ∷ states) [] = refl
take-lines_by by (suc n) (s ∷ states) (x ∷ lines) = ap (λ rows. line_by by s x ∷ rows) (take-lines_by by n states lines)

none_by : (by : Scanner) (states : List LineState) → lines_by by states [] ≡ []
none_by by [] = refl
none_by by (s ∷ states) = refl

drop-lines_by : (by : Scanner) (n : ℕ) (states : List LineState) (lines : List (List ℕ))
    → drop n (lines_by by states lines) ≡ lines_by by (drop n states) (drop n lines)
drop-lines_by by zero states lines = refl
drop-lines_by by (suc n) [] lines = refl
drop-lines_by by (suc n) (s ∷ states) [] = sym (none_by by (drop n states))
drop-lines_by by (suc n) (s ∷ states) (x ∷ lines) = drop-lines_by by n states lines

-- ---- marks that an edit leaves

module _ (first old new : ℕ) (marks : List Mark) (within : first - 1 + old ≤ length marks) where
  front : List Mark
  front = take (first - 1) marks

  length-front : length front ≡ first - 1
  unfolding front
  length-front = length-take-le (first - 1) marks (omega (arith, within))

  changed : List Mark
  changed = front ++ replicate new New

  length-changed : length changed ≡ first - 1 + new
  unfolding changed
  length-changed = omega (arith, length-append front (replicate new New), length-front, length-replicate new New)

  parts : edited_marks first old new marks ≡ changed ++ drop (first - 1 + old) marks
  unfolding changed front
  parts = refl

  front_marks : take (first - 1) (edited_marks first old new marks) ≡ take (first - 1) marks
  unfolding changed front
  front_marks =
      ap (take (first - 1)) parts
      ∙ take-append-le (first - 1) changed (drop (first - 1 + old) marks) (omega (arith, length-changed))
      ∙ take-append-le (first - 1) front (replicate new New) (omega (arith, length-front))
      ∙ take_all (first - 1) front (omega (arith, length-front))

  rest_marks : drop (first - 1 + new) (edited_marks first old new marks) ≡ drop (first - 1 + old) marks
  rest_marks =
      let all : length changed ≤ first - 1 + new = omega (arith, length-changed) in
      let none : first - 1 + new ≤ length changed = omega (arith, length-changed) in
      ap (drop (first - 1 + new)) parts
      ∙ drop-append-le (first - 1 + new) changed (drop (first - 1 + old) marks) none
      ∙ ap (λ (front : List Mark). front ++ drop (first - 1 + old) marks) (drop_all (first - 1 + new) changed all)

module _ (last : Borders) (by : Scanner) (first old new : ℕ) (marks : List Mark) (before after : List (List ℕ))
    (edit : IsEdited first old new before after) (same : length marks ≡ length before) where
  inside : first - 1 + old ≤ length marks
  inside = let within = edit.within in omega arith

  marks' : List Mark
  marks' = edited_marks first old new marks

  same_after : length marks' ≡ length after
  unfolding marks'
  same_after = omega (arith, length-edited_marks first old new marks inside, length-after first old new before after edit, same)

  states_of : List Mark → List LineState
  states_of ms = map (last_state last) ms

  length-last : (ms : List Mark) (xs : List (List ℕ)) → length ms ≡ length xs → length (last_lines last ms by xs) ≡ length xs
  length-last ms xs e = length-lines_by by (map (last_state last) ms) xs (length-map ms (last_state last) ∙ e)

  -- the lines of an edited text
  pub last_lines_edited : IsEdited first old new (last_lines last marks by before) (last_lines last (edited_marks first old new marks) by after)
  unfolding marks' states_of
  last_lines_edited = record {
    first_is = edit.first_is;
    some = edit.some;
    more = edit.more;
    within = omega (arith, edit.within, length-last marks before same);
    there = omega (arith, edit.there, length-last marks' after same_after);
    front =
        take-lines_by by (first - 1) (states_of marks') after
        ∙ ap (λ ss. lines_by by ss (take (first - 1) after))
        (take-map (last_state last) (first - 1) marks' ∙ ap states_of (front_marks first old new marks inside) ∙ sym (take-map (last_state last) (first - 1) marks))
        ∙ ap (lines_by by (take (first - 1) (states_of marks))) edit.front
        ∙ sym (take-lines_by by (first - 1) (states_of marks) before);
    rest =
        drop-lines_by by (first - 1 + new) (states_of marks') after
        ∙ ap (λ ss. lines_by by ss (drop (first - 1 + new) after))
        (drop-map (last_state last) (first - 1 + new) marks' ∙ ap states_of (rest_marks first old new marks inside) ∙ sym (drop-map (last_state last) (first - 1 + old) marks))
        ∙ ap (lines_by by (drop (first - 1 + old) (states_of marks))) edit.rest
        ∙ sym (drop-lines_by by (first - 1 + old) (states_of marks) before);
  }

-- ---- known lines

pub Lead-new : (by : Scanner) (last : Borders) (n : ℕ) (xs : List (List ℕ)) → Lead by (known_lines last (replicate n New)) xs
Lead-new by last zero xs = tt
Lead-new by last (suc n) [] = tt
Lead-new by last (suc n) (x ∷ xs) = (tt, Lead-new by last n xs)

Lead-append : (by : Scanner) (known more : List (Option Known)) (xs ys : List (List ℕ)) → length known ≡ length xs → Lead by known xs → Lead by more ys
    → Lead by (known ++ more) (xs ++ ys)
Lead-append by [] more [] ys same lead behind = behind
Lead-append by [] more (x ∷ xs) ys same lead behind = absurd (omega (arith, same))
Lead-append by (k ∷ known) more [] ys same lead behind = absurd (omega (arith, same))
Lead-append by (k ∷ known) more (x ∷ xs) ys same lead behind = (lead.0, Lead-append by known more xs ys (omega (arith, same)) lead.1 behind)

known-append : (last : Borders) (marks more : List Mark) → known_lines last (marks ++ more) ≡ known_lines last marks ++ known_lines last more
known-append last [] more = refl
known-append last (m ∷ marks) more = ap (λ known. known_of last m ∷ known) (known-append last marks more)

-- the known lines of an edited text
pub Lead-edited : (last : Borders) (by : Scanner) (first old new : ℕ) (marks : List Mark) (before after : List (List ℕ))
    → IsEdited first old new before after → length marks ≡ length before → Lead by (known_lines last marks) before
    → Lead by (known_lines last (edited_marks first old new marks)) after
Lead-edited last by first old new marks before after edit same lead =
    let a : ℕ = first - 1 in
    let within = edit.within in
    let there : a + new ≤ length after = edit.there in
    let inside : a + old ≤ length marks = omega arith in
    let in_front : Lead by (known_lines last (take a marks)) (take a after) =
    subst (λ (xs : List (List ℕ)). Lead by (known_lines last (take a marks)) xs) (sym edit.front)
    (subst (λ (known : List (Option Known)). Lead by known (take a before)) (take-map (known_of last) a marks) (Lead-take by a (known_lines last marks) before lead)) in
    let rest : Lead by (known_lines last (drop (a + old) marks)) (drop (a + new) after) =
    subst (λ (xs : List (List ℕ)). Lead by (known_lines last (drop (a + old) marks)) xs) (sym edit.rest)
    (subst (λ (known : List (Option Known)). Lead by known (drop (a + old) before)) (drop-map (known_of last) (a + old) marks)
    (Lead-drop by (a + old) (known_lines last marks) before lead)) in
    let middle : List (List ℕ) = take new (drop a after) in
    let whole : take a after ++ (middle ++ drop (a + new) after) ≡ after =
    ap (λ (xs : List (List ℕ)). take a after ++ (middle ++ xs)) (sym (drop-drop new a after))
    ∙ ap (λ (xs : List (List ℕ)). take a after ++ xs) (take-append-drop new (drop a after)) ∙ take-append-drop a after in
    let marked : edited_marks first old new marks ≡ take a marks ++ (replicate new New ++ drop (a + old) marks) =
    append_assoc (take a marks) (replicate new New) (drop (a + old) marks) in
    let known : known_lines last (edited_marks first old new marks)
    ≡ known_lines last (take a marks) ++ (known_lines last (replicate new New) ++ known_lines last (drop (a + old) marks)) =
    ap (known_lines last) marked ∙ known-append last (take a marks) (replicate new New ++ drop (a + old) marks)
    ∙ ap (λ more. known_lines last (take a marks) ++ more) (known-append last (replicate new New) (drop (a + old) marks)) in
    let front_count : length (known_lines last (take a marks)) ≡ length (take a after) =
    omega (arith, length-map (take a marks) (known_of last), length-take-le a marks (omega (arith, inside)), length-take-le a after (omega (arith, there))) in
    let middle_count : length (known_lines last (replicate new New)) ≡ length middle =
    omega (arith, length-map (replicate new New) (known_of last), length-replicate new New, length-drop a after, length-take-le new (drop a after) (omega (arith, there, length-drop a after))) in
    subst (λ (xs : List (List ℕ)). Lead by (known_lines last (edited_marks first old new marks)) xs) whole
    (subst (λ (ks : List (Option Known)). Lead by ks (take a after ++ (middle ++ drop (a + new) after))) (sym known)
    (Lead-append by _ _ (take a after) _ front_count in_front (Lead-append by _ _ middle _ middle_count (Lead-new by last new middle) rest)))

-- ---- after a parse

clean_states : (last : Borders) (k n : ℕ) → k + n ≡ length last.begins → map (last_state last) (kept_marks (suc k) n) ≡ drop k last.begins
clean_states last k zero all = sym (drop_all k last.begins (omega (arith, all)))
clean_states last k (suc n) all =
    let at : suc k - 1 ≡ k = omega arith in
    ap (λ (states : List LineState). last_state last (Kept (suc k)) ∷ states) (clean_states last (suc k) n (omega (arith, all)))
    ∙ ap (λ (i : ℕ). slice_index_or last.begins i Code ∷ drop (suc k) last.begins) at ∙ sym (drop-cons last.begins k Code (omega (arith, all)))

-- each line begins as it was parsed
pub clean_lines : (by : Scanner) (contents : List (List ℕ)) (states : Borders) → states.begins ≡ line_states by contents
    → last_lines states (clean_marks (length contents)) by contents ≡ lines_by by (line_states by contents) contents
clean_lines by contents states begins =
    let count : 0 + length contents ≡ length states.begins = omega (arith, ap length begins, length-states_from by Code contents) in
    ap (λ (ss : List LineState). lines_by by ss contents) (clean_states states 0 (length contents) count ∙ begins)

-- the state behind a line, by those of the lines behind it
next_state : (by : Scanner) (s : LineState) (xs : List (List ℕ)) (begins : List LineState) (ends : LineState) → begins ≡ states_from by s xs
    → ends ≡ state_behind by s xs → get_or begins 0 ends ≡ s
next_state by s [] begins ends is behind = ap (λ (states : List LineState). get_or states 0 ends) is ∙ behind
next_state by s (x ∷ xs) begins ends is behind = ap (λ (states : List LineState). get_or states 0 ends) is

lead_from : (by : Scanner) (last : Borders) (k : ℕ) (s : LineState) (xs : List (List ℕ)) → drop k last.begins ≡ states_from by s xs
    → last.ends ≡ state_behind by s xs → Lead by (known_lines last (kept_marks (suc k) (length xs))) xs
lead_from by last k s [] begins ends = tt
lead_from by last k s (x ∷ xs) begins ends =
    let behind : LineState = (hidden_scan by s x).state in
    let one_more : suc k ≡ k + 1 = omega arith in
    let this_one : suc k - 1 ≡ k + 0 = omega arith in
    let next_one : suc k ≡ suc k + 0 = omega arith in
    let rest : drop (suc k) last.begins ≡ states_from by behind xs =
    ap (λ (n : ℕ). drop n last.begins) one_more ∙ sym (drop-drop 1 k last.begins) ∙ ap (drop 1) begins in
    let first : slice_index_or last.begins (suc k - 1) Code ≡ s =
    ap (λ (n : ℕ). slice_index_or last.begins n Code) this_one ∙ sym (get_or-drop k last.begins 0 Code)
    ∙ ap (λ (states : List LineState). get_or states 0 Code) begins in
    let second : slice_index_or last.begins (suc k) last.ends ≡ behind =
    ap (λ (n : ℕ). slice_index_or last.begins n last.ends) next_one ∙ sym (get_or-drop (suc k) last.begins 0 last.ends)
    ∙ next_state by behind xs (drop (suc k) last.begins) last.ends rest ends in
    (ap (λ (t : LineState). (hidden_scan by t x).state) first ∙ sym second, lead_from by last (suc k) behind xs rest ends)

pub Lead-clean : (by : Scanner) (contents : List (List ℕ)) (states : Borders) → states.begins ≡ line_states by contents
    → states.ends ≡ state_behind by Code contents → Lead by (known_lines states (clean_marks (length contents))) contents
Lead-clean by contents states begins ends = lead_from by states 0 Code contents begins ends

-- ---- settled lines

go_on : (old : List Row) (r s : Row) (rest more : List Row) → GoOnAlike old (broken (r ∷ rest)) → GoOnAlike old (broken (s ∷ more))
go_on [] r s [] more h = elim h [ ]
go_on [] r s (x ∷ rest) more h = elim h [ ]
go_on (o ∷ old) r s rest [] h = tt
go_on (o ∷ old) r s rest (y ∷ more) h = tt

-- the same line, which others follow or not
alike_line : (old : List Row) (r : Row) (rest more : List Row) → length rest ≡ length more → Alike 1 old (broken (r ∷ rest)) → Alike 1 old (broken (r ∷ more))
alike_line [] r [] more same h = elim h [ ]
alike_line [] r (s ∷ rest) more same h = elim h [ ]
alike_line (o ∷ old) r [] [] same h = h
alike_line (o ∷ old) r [] (t ∷ more) same h = absurd (omega (arith, same))
alike_line (o ∷ old) r (s ∷ rest) [] same h = absurd (omega (arith, same))
alike_line (o ∷ old) r (s ∷ rest) (t ∷ more) same h = (h.0, (go_on old s t rest more h.1.0, tt))

begins_settled : (last : Borders) (marks : List Mark) (states : List LineState) → BeginsAlike marks → BeginsAlike (settled_marks last marks states)
begins_settled last [] states begins = tt
begins_settled last (m ∷ marks) [] begins = tt
begins_settled last (New ∷ marks) (s ∷ states) begins = tt
begins_settled last (Kept i ∷ marks) (s ∷ states) begins = either (is_restarted (known_of last (Kept i)) s)
  where
    either : (b : Bool) → BeginsAlike (cond b New (Kept i) ∷ settled_marks last marks states)
    either true = tt
    either false = begins

module _ (last : Borders) (marks : List Mark) (by : Scanner) (contents : List (List ℕ)) (count : length marks ≡ length contents) where
  states : List LineState
  states = line_states by contents

  as_many_states : length states ≡ length contents
  unfolding states
  as_many_states = length-states_from by Code contents

  was : List Row
  was = last_lines last marks by contents

  now : List Row
  now = lines_by by states contents

  length-was : length was ≡ length contents
  unfolding was
  length-was = length-lines_by by (map (last_state last) marks) contents (length-map marks (last_state last) ∙ count)

  length-now : length now ≡ length contents
  unfolding now states
  length-now = length-lines_by by states contents as_many_states

  -- a line that is kept still is the same
  same_line : (j i : ℕ) → j < length contents → mark_at (j + 1) (settled_marks last marks states) ≡ Kept i → get_or was j empty_row ≡ get_or now j empty_row
  unfolding was now states
  same_line j i within kept =
      let still = kept_still last marks states (j + 1) i kept in
      let at : j + 1 - 1 ≡ j = omega arith in
      let mark : get_or marks j New ≡ Kept i = ap (λ (n : ℕ). slice_index_or marks n New) (sym at) ∙ still.mark in
      let begins : get_or states j Code ≡ last_state last (Kept i) = ap (λ (n : ℕ). slice_index_or states n Code) (sym at) ∙ still.begins in
      let begun : get_or (map (last_state last) marks) j Code ≡ last_state last (Kept i) =
      get_or-map (last_state last) marks j New Code (omega (arith, count)) ∙ ap (last_state last) mark in
      line_by-at by (map (last_state last) marks) contents j (length-map marks (last_state last) ∙ count) within
      ∙ ap (λ (s : LineState). line_by by s (get_or contents j [])) (begun ∙ sym begins)
      ∙ sym (line_by-at by states contents j as_many_states within)

  alike_settled : (old : List Row) (j i : ℕ) → j < length contents → mark_at (j + 1) (settled_marks last marks states) ≡ Kept i
      → Alike 1 old (drop j (broken was)) → Alike 1 old (drop j (broken now))
  unfolding states
  alike_settled old j i within kept h =
      let first = drop-cons was j empty_row (omega (arith, length-was)) in
      let other = drop-cons now j empty_row (omega (arith, length-now)) in
      let same : length (drop (suc j) was) ≡ length (drop (suc j) now) =
      omega (arith, length-drop (suc j) was, length-drop (suc j) now, length-was, length-now) in
      let here : Alike 1 old (broken (get_or was j empty_row ∷ drop (suc j) was)) =
      subst (λ (rows : List Row). Alike 1 old rows) (drop-broken j was ∙ ap broken first) h in
      let there = alike_line old (get_or was j empty_row) (drop (suc j) was) (drop (suc j) now) same here in
      subst (λ (rows : List Row). Alike 1 old rows) (sym (drop-broken j now ∙ ap broken other))
      (subst (λ (r : Row). Alike 1 old (broken (r ∷ drop (suc j) now))) (same_line j i within kept) there)

  agrees_settled : (old : List Row) → Agrees old marks (broken (last_lines last marks by contents))
      → Agrees old (settled_marks last marks (line_states by contents)) (hidden_rows by contents)
  unfolding states was now
  agrees_settled old agrees =
      let counted : length (settled_marks last marks states) ≡ length marks = length-settled last marks states (count ∙ sym as_many_states) in
      record {
        count = counted ∙ count ∙ sym (length-broken now ∙ length-now);
        rises = Rises-settled last marks states agrees.rises;
        begins = begins_settled last marks states agrees.begins;
        kept = λ j i inside kept.
            let still = kept_still last marks states (j + 1) (i + 1) kept in
            alike_settled (drop i old) j (i + 1) (omega (arith, inside, counted, count)) kept (agrees.kept j i (omega (arith, inside, counted)) still.mark);
      }

  -- the old tree agrees with the settled lines
  pub agrees_if_settled : (tree : Option Tree) → AgreesIfThere tree marks (broken (last_lines last marks by contents))
      → AgreesIfThere tree (settled_marks last marks (line_states by contents)) (hidden_rows by contents)
  unfolding states
  agrees_if_settled None all = λ n i kept. all n i (kept_still last marks states n i kept).mark
  agrees_if_settled (Some t) agrees = record { tree = agrees.tree; tight = agrees.tight; rows = agrees_settled (tree_rows t) agrees.rows }

-- Laws of lines kept with consecutive numbers, the first of which begins in the same state as before: none of them is
-- scanned.
use Rattle.std.proofs.Common.{◌≡◌, ℕ, zero, suc, ◌+◌, ◌-◌, ◌<◌, ◌≤◌, true, List, [], ◌∷◌, length, take, drop, map, refl, ap, sym, ◌∙◌, subst, arith}
use Rattle.std.specs.Prelude.{slice_index_or}
use Rattle.std.proofs.lemmas.List.{get_or_default, drop_more}
use Rattle.mark_rules.specs.Marks.{kept_marks}
use Rattle.hiding_rules.specs.declared.LineState.{LineState}
use Rattle.hiding_rules.specs.declared.LineState.TheVariants.{Code, Block}
use Rattle.hiding_rules.specs.Known.{Known, same_state, AreChained, all_known}
use Rattle.line_states.specs.Settling.{Borders, known_lines, settled_marks}
use Rattle.line_states.proofs.SettledMarks.{began, staying_is_kept}

-- what is known of `lines` lines, from line `i` on
abbrev pub run_known : Borders → ℕ → ℕ → List Known
run_known last i zero = []
run_known last i (suc lines) =
    record { begins = slice_index_or last.begins (i - 1) Code; ends = slice_index_or last.begins i last.ends } ∷ run_known last (suc i) lines

pub length-run_known : (last : Borders) (i lines : ℕ) → length (run_known last i lines) ≡ lines
length-run_known last i zero = refl
length-run_known last i (suc lines) = ap suc (length-run_known last (suc i) lines)

pub run_known-all : (last : Borders) (i lines : ℕ) → known_lines last (kept_marks i lines) ≡ all_known (run_known last i lines)
run_known-all last i zero = refl
run_known-all last i (suc lines) = let rest = run_known-all last (suc i) lines in cc

-- the states in which they began
pub run_known-begins : (last : Borders) (i lines : ℕ) → 1 ≤ i → i + lines ≤ length last.begins + 1
    → map (λ k. k.begins) (run_known last i lines) ≡ take lines (drop (i - 1) last.begins)
run_known-begins last i zero first within = refl
run_known-begins last i (suc lines) first within =
    let rest = run_known-begins last (suc i) lines (omega arith) (omega arith) in
    let here = drop_more last.begins (i - 1) Code (omega arith) in
    let next : i - 1 + 1 ≡ suc i - 1 = omega arith in
    let behind = ap (λ n. drop n last.begins) next in
    ap (λ states. slice_index_or last.begins (i - 1) Code ∷ states) (rest ∙ ap (take lines) (sym behind)) ∙ ap (take (suc lines)) (sym here)

-- each began in the state in which the one before it ended
run_is_chained : (last : Borders) (i lines : ℕ) → 1 ≤ i → i + lines ≤ length last.begins + 1
    → AreChained (slice_index_or last.begins (i - 1) last.ends) (run_known last i lines) (slice_index_or last.begins (i + lines - 1) last.ends)
run_is_chained last i zero first within = ap (λ n. slice_index_or last.begins n last.ends) (omega arith)
run_is_chained last i (suc lines) first within =
    let rest = run_is_chained last (suc i) lines (omega arith) (omega arith) in
    let here : suc i - 1 ≡ i = omega arith in
    let end : suc i + lines - 1 ≡ i + suc lines - 1 = omega arith in
    let from = rw here at rest in (
      get_or_default last.begins (i - 1) Code last.ends (omega arith),
      subst (λ n. AreChained (slice_index_or last.begins i last.ends) (run_known last (suc i) lines) (slice_index_or last.begins n last.ends)) end from,
    )

pub chained_run : (last : Borders) (i lines : ℕ) → 1 ≤ i → 0 < lines → i + lines ≤ length last.begins + 1
    → AreChained (slice_index_or last.begins (i - 1) Code) (run_known last i lines) (slice_index_or last.begins (i + lines - 1) last.ends)
chained_run last i lines first some within =
    subst (λ s. AreChained s (run_known last i lines) (slice_index_or last.begins (i + lines - 1) last.ends))
    (get_or_default last.begins (i - 1) last.ends Code (omega arith))
    (run_is_chained last i lines first within)

same_as_itself : (s : LineState) → same_state s s ≡ true
same_as_itself Code = refl
same_as_itself Block = refl

-- none is restarted
pub settled_run : (last : Borders) (i lines : ℕ) → settled_marks last (kept_marks i lines) (map (λ k. k.begins) (run_known last i lines)) ≡ kept_marks i lines
settled_run last i zero = refl
settled_run last i (suc lines) =
    let rest = settled_run last (suc i) lines in
    let here = staying_is_kept last i (began last i) (same_as_itself (began last i)) in
    cc

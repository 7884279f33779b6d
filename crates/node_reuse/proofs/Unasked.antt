-- The lines that a reader still has to ask for, from call to call.
use Rattle.std.proofs.Common.{◌≡◌, ℕ, zero, suc, ◌+◌, ◌<◌, ◌≤◌, Bool, true, false, cond, eqb, List, [], ◌∷◌, length, get_or, drop, ap, sym, ◌∙◌, arith, drop-cons}
use Rattle.std.proofs.lemmas.List.{drop-drop, drop_all}
use Rattle.mark_rules.specs.declared.Mark.{Mark}
use Rattle.mark_rules.specs.declared.Mark.TheVariants.{Kept, New}
use Rattle.mark_rules.specs.Marks.{mark_at, numbered, kept_run}
use Rattle.line_states.specs.Lines.{new_from, new_lines}
use Rattle.node_reuse.specs.Reader.{new_lines_at}

-- ---- kept lines are not asked for

skip_numbered : (n k number : ℕ) (marks : List Mark) → k ≤ numbered number marks → new_from (n + k) (drop k marks) ≡ new_from n marks
skip_numbered n zero number marks h = ap (λ (m : ℕ). new_from m marks) (omega arith)
skip_numbered n (suc k) number [] h = absurd (omega arith)
skip_numbered n (suc k) number (New ∷ marks) h = absurd (omega arith)
skip_numbered n (suc k) number (Kept i ∷ marks) h =
    ap (λ (m : ℕ). new_from m (drop k marks)) (omega arith) ∙ skip_numbered (suc n) k (suc number) marks (below (eqb i number) h)
  where
    below : (b : Bool) → suc k ≤ cond b (suc (numbered (suc number) marks)) 0 → k ≤ numbered (suc number) marks
    below true g = omega arith
    below false g = absurd (omega arith)

skip_run : (n k : ℕ) (marks : List Mark) → k ≤ kept_run marks → new_from (n + k) (drop k marks) ≡ new_from n marks
skip_run n zero marks h = ap (λ (m : ℕ). new_from m marks) (omega arith)
skip_run n (suc k) [] h = absurd (omega arith)
skip_run n (suc k) (New ∷ marks) h = absurd (omega arith)
skip_run n (suc k) (Kept i ∷ marks) h =
    ap (λ (m : ℕ). new_from m (drop k marks)) (omega arith) ∙ skip_numbered (suc n) k (suc i) marks (omega arith)

-- after kept lines of a run the same lines are left to ask for
pub run_unasked : (marks : List Mark) (j k : ℕ) → k ≤ kept_run (drop j marks) → new_lines_at (j + k) marks ≡ new_lines_at j marks
run_unasked marks j k h =
    ap (λ (ms : List Mark). new_from (suc (j + k)) ms) (sym (drop-drop k j marks))
    ∙ ap (λ (n : ℕ). new_from n (drop k (drop j marks))) (omega arith) ∙ skip_run (suc j) k (drop j marks) h

-- ---- a new line is the next to be asked for

pub new_unasked : (marks : List Mark) (j : ℕ) → j < length marks → mark_at (j + 1) marks ≡ New → new_lines_at j marks ≡ suc j ∷ new_lines_at (suc j) marks
new_unasked marks j h e =
    let first : get_or marks j New ≡ New = ap (λ (n : ℕ). get_or marks n New) (omega arith) ∙ e in
    ap (new_from (suc j)) (drop-cons marks j New h) ∙ ap (λ (m : Mark). new_from (suc j) (m ∷ drop (suc j) marks)) first

-- ---- the end

pub none_unasked : (marks : List Mark) (j : ℕ) → length marks ≤ j → new_lines_at j marks ≡ []
none_unasked marks j h = ap (new_from (suc j)) (drop_all j marks h)

-- after a kept last line no line is left to ask for
pub kept_last : (marks : List Mark) (j : ℕ) → length marks ≡ suc j → 0 < kept_run (drop j marks) → new_lines_at j marks ≡ []
kept_last marks j h k = sym (run_unasked marks j 1 (omega arith)) ∙ none_unasked marks (j + 1) (omega arith)

-- ---- how many there are

count_from : (n : ℕ) (marks : List Mark) → length (new_from n marks) ≤ length marks
count_from n [] = omega arith
count_from n (New ∷ marks) = let rest = count_from (suc n) marks in omega arith
count_from n (Kept i ∷ marks) = let rest = count_from (suc n) marks in omega arith

pub new_count : (marks : List Mark) → length (new_lines marks) ≤ length marks
new_count marks = count_from 1 marks

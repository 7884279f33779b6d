-- The cost of the way through the kept lines if the new lines are one run of adjacent lines.
use Rattle.std.proofs.Common.{◌≡◌, ℕ, suc, ◌+◌, ◌-◌, ◌<◌, ◌≤◌, List, [], ◌∷◌, length, drop, refl, ap, sym, ◌∙◌, subst, arith}
use Rattle.std.specs.Prelude.{slice_index_or}
use Rattle.std.proofs.lemmas.Bool.{eq-eqb, ne_eqb}
use Rattle.std.proofs.lemmas.Bool.Decides.{nat_tests}
use Rattle.std.proofs.lemmas.List.{drop-drop, length-drop, get_or-drop}
use Rattle.text_lengths.specs.declared.Length.{Length}
use Rattle.text_lengths.specs.Length.{length_of, no_length}
use Rattle.bracket_rules.specs.Rows.{Row}
use Rattle.bracket_rules.specs.TextRows.{rows_length}
use Rattle.bracket_tree_rules.specs.Tree.{Tree, tree_rows, tree_length}
use Rattle.bracket_tree_rules.proofs.Glue.{rows_length-tree, HasRow-tree_rows}
use Rattle.mark_rules.specs.declared.Mark.{Mark}
use Rattle.mark_rules.specs.declared.Mark.TheVariants.{Kept, New}
use Rattle.mark_rules.specs.Marks.{mark_at, numbered, kept_run, GoesOn, RisesFrom}
use Rattle.mark_rules.proofs.MarkLaws.{RisesFrom-drop}
use Rattle.reuse_rules.specs.Agreement.{Alike, Agrees, BeginsAlike}
use Rattle.reuse_rules.specs.Prices.{Costs, price}
use Rattle.reuse_rules.specs.Ways.{run_price, runs_price, lines_price, way_price, IsOneRun}
use Rattle.reuse_rules.proofs.Prices.{IsUpTo}
use Rattle.reuse_rules.proofs.KeptRuns.{kept_run_mark}
use Rattle.line_states.specs.Lines.{new_from, new_lines}
use Rattle.node_reuse.proofs.KeptSteps.{rows_count}

-- ---- lines that are kept up to the last one

pub none_behind : (n : ℕ) (lines : List ℕ) → n ∷ lines ≡ [] → ⊥
none_behind n lines e = let clash : suc (length lines) ≡ 0 = ap length e in absurd (omega arith)

not_earlier : (n : ℕ) (marks : List Mark) (m : ℕ) (lines : List ℕ) → new_from n marks ≡ m ∷ lines → n ≤ m
not_earlier n [] m lines e = absurd (none_behind m lines (sym e))
not_earlier n (New ∷ marks) m lines e = let first : n ≡ m = ap (λ (ls : List ℕ). slice_index_or ls 0 0) e in omega arith
not_earlier n (Kept i ∷ marks) m lines e = omega (arith, not_earlier (suc n) marks m lines e)

-- after a new line and a kept one, no line of the run is left
pub none_new : (n : ℕ) (marks : List Mark) → IsOneRun (n ∷ new_from (suc (suc n)) marks) → new_from (suc (suc n)) marks ≡ []
none_new n marks one = of (new_from (suc (suc n)) marks) refl one
  where
    of : (lines : List ℕ) → new_from (suc (suc n)) marks ≡ lines → IsOneRun (n ∷ lines) → lines ≡ []
    of [] e one = refl
    of (m ∷ lines) e one = absurd (omega (arith, not_earlier (suc (suc n)) marks m lines e, one.0))

-- the lines are one run
all_numbered : (n i : ℕ) (marks : List Mark) → GoesOn i marks → RisesFrom (suc i) marks → new_from n marks ≡ [] → numbered (suc i) marks ≡ length marks
all_numbered n i [] on rises none = refl
all_numbered n i (New ∷ marks) on rises none = absurd (none_behind n (new_from (suc n) marks) none)
all_numbered n i (Kept j ∷ marks) on rises none =
    rw (eq-eqb j (suc i) on)
    (ap suc (subst (λ (k : ℕ). numbered (suc k) marks ≡ length marks) on (all_numbered (suc n) j marks rises.1 rises.2 none)))

module _ (c : Costs) (old : Tree) where
  goes_on_free : (i j : ℕ) (marks : List Mark) → j ≡ suc i → runs_price c old (suc i) (Kept j ∷ marks) ≡ runs_price c old (suc j) marks
  goes_on_free i j marks e = rw (eq-eqb j (suc i) e) (omega arith)

  -- no later run is left
  none_later : (n i : ℕ) (marks : List Mark) → GoesOn i marks → RisesFrom (suc i) marks → new_from n marks ≡ [] → runs_price c old (suc i) marks ≡ 0
  none_later n i [] on rises none = refl
  none_later n i (New ∷ marks) on rises none = absurd (none_behind n (new_from (suc n) marks) none)
  none_later n i (Kept j ∷ marks) on rises none = goes_on_free i j marks on ∙ none_later (suc n) j marks rises.1 rises.2 none

-- ---- the last line

first_of : (marks rest : List Mark) (j : ℕ) (m : Mark) → drop j marks ≡ m ∷ rest → mark_at (j + 1) marks ≡ m
first_of marks rest j m e =
    let at : j + 1 - 1 ≡ j + 0 = omega arith in
    ap (λ (n : ℕ). slice_index_or marks n New) at ∙ sym (get_or-drop j marks 0 New) ∙ ap (λ (ms : List Mark). slice_index_or ms 0 New) e

rest_of : (marks rest : List Mark) (j : ℕ) (m : Mark) → drop j marks ≡ m ∷ rest → drop (suc j) marks ≡ rest
rest_of marks rest j m e =
    let at : suc j ≡ j + 1 = omega arith in
    ap (λ (n : ℕ). drop n marks) at ∙ sym (drop-drop 1 j marks) ∙ ap (drop 1) e

-- if the last current line is kept from an old line, that is the last old line
last_alike : (old now : List Row) (i j : ℕ) → suc j ≡ length now → Alike 1 (drop i old) (drop j now) → suc i ≡ length old
last_alike old now i j last alike = at (drop i old) (drop j now) (length-drop i old) (length-drop j now) alike
  where
    at : (a b : List Row) → length a ≡ length old - i → length b ≡ length now - j → Alike 1 a b → suc i ≡ length old
    at [] b e f h = elim h [ ]
    at (r ∷ a) [] e f h = elim h [ ]
    at (r ∷ []) (s ∷ []) e f h = omega (arith, e)
    at (r ∷ []) (s ∷ y ∷ b) e f h = elim h.1.0 [ ]
    at (r ∷ x ∷ a) (s ∷ []) e f h = elim h.1.0 [ ]
    at (r ∷ x ∷ a) (s ∷ y ∷ b) e f h = absurd (omega (arith, f, last))

up_to_later : (l : Length) (line : ℕ) → l.lines < line → IsUpTo l (length_of line 0)
up_to_later l line h = grind (arith, nat_tests)

module _ (c : Costs) (old : Tree) (marks : List Mark) (now : List Row) (agrees : Agrees (tree_rows old) marks now) (most_left most_right : ℕ)
    (left : (to : Length) → price c no_length to no_length old ≤ most_left)
    (right : (from to : Length) → IsUpTo (tree_length old) to → price c from to no_length old ≤ most_right) where
  rises_at : (j : ℕ) (rest : List Mark) → drop j marks ≡ rest → RisesFrom 1 rest
  rises_at j rest e = subst (RisesFrom 1) e (RisesFrom-drop 1 j marks agrees.rises)

  -- a run up to the last line ends at or after the end of the old tree
  to_the_end : (j n i : ℕ) (rest : List Mark) → drop j marks ≡ Kept i ∷ rest → new_from n rest ≡ [] → run_price c old (i - 1) 0 (Kept i ∷ rest) + runs_price c old (suc i) rest ≤ most_right
  to_the_end j n i rest e none =
      let rises : RisesFrom 1 (Kept i ∷ rest) = rises_at j (Kept i ∷ rest) e in
      let some : 1 ≤ i = rises.0 in
      let all : numbered (suc i) rest ≡ length rest = all_numbered n i rest rises.1 rises.2 none in
      let later = none_later c old n i rest rises.1 rises.2 none in
      let count : length (drop j marks) ≡ suc (length rest) = ap length e in
      let run : kept_run (drop j marks) ≡ suc (length rest) = ap kept_run e ∙ ap suc all in
      let first : mark_at (j + 1) marks ≡ Kept (i - 1 + 1) = first_of marks rest j (Kept i) e ∙ ap Kept (omega arith) in
      let mark : mark_at (j + length rest + 1) marks ≡ Kept (i - 1 + length rest + 1) = kept_run_mark marks (i - 1) j (length rest) first (omega arith) in
      let inside : j + length rest < length marks = omega (arith, count, length-drop j marks) in
      let last : suc (j + length rest) ≡ length now = omega (arith, count, length-drop j marks, agrees.count) in
      let end : suc (i - 1 + length rest) ≡ length (tree_rows old) =
      last_alike (tree_rows old) now (i - 1 + length rest) (j + length rest) last (agrees.kept (j + length rest) (i - 1 + length rest) inside mark) in
      let tall : length (tree_rows old) ≡ suc (rows_length (tree_rows old)).lines = rows_count (tree_rows old) (HasRow-tree_rows old) in
      let lines : (rows_length (tree_rows old)).lines ≡ (tree_length old).lines = ap (λ (l : Length). l.lines) (rows_length-tree old) in
      let behind : (tree_length old).lines < i - 1 + kept_run (Kept i ∷ rest) = omega (arith, end, tall, lines, all, some) in
      omega (
        arith,
        later,
        right (length_of (i - 1) 0) (length_of (i - 1 + kept_run (Kept i ∷ rest)) 0)
            (up_to_later (tree_length old) (i - 1 + kept_run (Kept i ∷ rest)) behind),
      )

  -- after a new line at most one run of kept lines is left
  after_new : (rest : List Mark) (j n : ℕ) → drop j marks ≡ rest → IsOneRun (n ∷ new_from (suc n) rest) → runs_price c old 0 rest ≤ most_right
  after_new [] j n e one = omega arith
  after_new (New ∷ rest) j n e one = after_new rest (suc j) (suc n) (rest_of marks rest j New e) one.1
  after_new (Kept i ∷ rest) j n e one =
      let some : 1 ≤ i = (rises_at j (Kept i ∷ rest) e).0 in
      let starts : runs_price c old 0 (Kept i ∷ rest) ≡ run_price c old (i - 1) 0 (Kept i ∷ rest) + runs_price c old (suc i) rest =
      rw (ne_eqb i 0 (λ x. absurd (omega arith))) refl in
      omega (arith, starts, to_the_end j (suc (suc n)) i rest e (none_new n rest one))

  after_kept : (rest : List Mark) (j n i : ℕ) → drop j marks ≡ rest → GoesOn i rest → IsOneRun (new_from n rest) → runs_price c old (suc i) rest ≤ most_right
  after_kept [] j n i e on one = omega arith
  after_kept (New ∷ rest) j n i e on one = after_new rest (suc j) n (rest_of marks rest j New e) one
  after_kept (Kept k ∷ rest) j n i e on one =
      omega (arith, goes_on_free c old i k rest on, after_kept rest (suc j) (suc n) k (rest_of marks rest j (Kept k) e) (rises_at j (Kept k ∷ rest) e).1 one)

  -- from the start: one way to the new lines, and one from them to the end
  pub one_run_price : IsOneRun (new_lines marks) → way_price c old marks no_length ≤ most_left + most_right
  one_run_price one = from_start marks refl one agrees.begins
    where
      from_start : (ms : List Mark) → marks ≡ ms → IsOneRun (new_from 1 ms) → BeginsAlike ms → lines_price c old 0 ms ≤ most_left + most_right
      from_start [] e one begins = omega arith
      from_start (New ∷ rest) e one begins = omega (arith, after_new rest 1 1 (rest_of marks rest 0 New e) one)
      from_start (Kept i ∷ rest) e one begins =
          let on : GoesOn i rest = (rises_at 0 (Kept i ∷ rest) e).1 in
          let first : i - 1 ≡ 0 = omega (arith, begins) in
          let way : run_price c old (i - 1) 0 (Kept i ∷ rest) ≤ most_left =
          subst (λ (n : ℕ). price c (length_of n 0) (length_of (n + kept_run (Kept i ∷ rest)) 0) no_length old ≤ most_left) (sym first)
          (left (length_of (0 + kept_run (Kept i ∷ rest)) 0)) in
          omega (arith, way, after_kept rest 1 2 i (rest_of marks rest 0 (Kept i) e) on one)

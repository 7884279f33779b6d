-- A run of kept lines is a run of alike rows.
use Rattle.std.proofs.Common.{◌≡◌, ℕ, zero, suc, ◌+◌, ◌-◌, ◌<◌, eqb, cond, true, false, Bool, List, [], ◌∷◌, length, drop, refl, ap, sym, ◌∙◌, subst, arith}
use Rattle.std.specs.Prelude.{slice_index_or}
use Rattle.std.proofs.lemmas.Bool.{eqb-true}
use Rattle.std.proofs.lemmas.List.{get_or-drop, length-drop}
use Rattle.bracket_rules.specs.Rows.{Row}
use Rattle.mark_rules.specs.declared.Mark.{Mark}
use Rattle.mark_rules.specs.declared.Mark.TheVariants.{Kept, New}
use Rattle.mark_rules.specs.Marks.{mark_at, numbered, kept_run}
use Rattle.reuse_rules.specs.Agreement.{Alike, Agrees}

-- the marks of a run, and that it lies within the marks
record IsKeptAt (number : ℕ) (marks : List Mark) (m : ℕ) : Type 0 where
  within : m < length marks
  mark : slice_index_or marks m New ≡ Kept (number + m)

numbered_here : (number i : ℕ) (marks : List Mark) (b : Bool) → eqb i number ≡ b → (m : ℕ) → m < cond b (suc (numbered (suc number) marks)) 0
    → ((k : ℕ) → k < numbered (suc number) marks → IsKeptAt (suc number) marks k) → IsKeptAt number (Kept i ∷ marks) m
numbered_here number i marks false e m h more = absurd (omega arith)
numbered_here number i marks true e zero h more = record { within = omega arith; mark = ap Kept (eqb-true i number e ∙ omega arith) }
numbered_here number i marks true e (suc m) h more =
    let rest = more m (omega arith) in
    let inside : m < length marks = rest.within in
    record { within = omega arith; mark = rest.mark ∙ ap Kept (omega arith) }

numbered-at : (number : ℕ) (marks : List Mark) (m : ℕ) → m < numbered number marks → IsKeptAt number marks m
numbered-at number [] m h = absurd (omega arith)
numbered-at number (New ∷ marks) m h = absurd (omega arith)
numbered-at number (Kept i ∷ marks) m h =
    numbered_here number i marks (eqb i number) refl m h (λ k l. numbered-at (suc number) marks k l)

number_of : Mark → ℕ
number_of (Kept i) = i
number_of New = 0

kept_run-at : (i : ℕ) (marks : List Mark) (m : ℕ) → slice_index_or marks 0 New ≡ Kept i → m < kept_run marks → IsKeptAt i marks m
unfolding number_of
kept_run-at i [] m e h = absurd (omega arith)
kept_run-at i (New ∷ marks) m e h = absurd (omega arith)
kept_run-at i (Kept j ∷ marks) zero e h = record { within = omega arith; mark = e ∙ ap Kept (omega arith) }
kept_run-at i (Kept j ∷ marks) (suc m) e h =
    let same : j ≡ i = ap number_of e in
    let rest = numbered-at (suc j) marks m (omega arith) in
    let inside : m < length marks = rest.within in
    record { within = omega arith; mark = rest.mark ∙ ap Kept (omega arith) }

-- ---- alike rows

drop_more : {X : Type 0} (n : ℕ) (xs : List X) → drop 1 (drop n xs) ≡ drop (suc n) xs
drop_more zero xs = refl
drop_more (suc n) [] = refl
drop_more (suc n) (x ∷ xs) = drop_more n xs

alike_more : (k : ℕ) (a b : List Row) → Alike 1 a b → Alike k (drop 1 a) (drop 1 b) → Alike (suc k) a b
alike_more k [] b h g = elim h [ ]
alike_more k (r ∷ a) [] h g = elim h [ ]
alike_more k (r ∷ a) (s ∷ b) h g = (h.0, (h.1.0, g))

alike_steps : (old now : List Row) (k i j : ℕ)
    → ((m : ℕ) → m < k → Alike 1 (drop (i + m) old) (drop (j + m) now)) → Alike k (drop i old) (drop j now)
alike_steps old now zero i j each = tt
alike_steps old now (suc k) i j each =
    let one_later : (m : ℕ) → m < k → Alike 1 (drop (suc i + m) old) (drop (suc j + m) now) = λ m h.
    let at_i : i + suc m ≡ suc i + m = omega arith in
    let at_j : j + suc m ≡ suc j + m = omega arith in
    subst (λ (n : ℕ). Alike 1 (drop n old) (drop (suc j + m) now)) at_i
    (subst (λ (n : ℕ). Alike 1 (drop (i + suc m) old) (drop n now)) at_j (each (suc m) (omega arith))) in
    let at_i : i + 0 ≡ i = omega arith in
    let at_j : j + 0 ≡ j = omega arith in
    alike_more k (drop i old) (drop j now)
    (subst (λ (n : ℕ). Alike 1 (drop n old) (drop j now)) at_i
    (subst (λ (n : ℕ). Alike 1 (drop (i + 0) old) (drop n now)) at_j (each 0 (omega arith))))
    (subst (λ (x : List Row). Alike k x (drop 1 (drop j now))) (sym (drop_more i old))
    (subst (λ (x : List Row). Alike k (drop (suc i) old) x) (sym (drop_more j now)) (alike_steps old now k (suc i) (suc j) one_later)))

-- if the current line j is kept as the old line i, the rows from there on are alike as far as the kept numbers are
-- consecutive
pub kept_run_alike : (old : List Row) (marks : List Mark) (now : List Row) (i j : ℕ) → Agrees old marks now → mark_at (j + 1) marks ≡ Kept (i + 1)
    → Alike (kept_run (drop j marks)) (drop i old) (drop j now)
kept_run_alike old marks now i j h e = alike_steps old now (kept_run (drop j marks)) i j each
  where
    first : slice_index_or (drop j marks) 0 New ≡ Kept (i + 1)
    first = get_or-drop j marks 0 New ∙ ap (λ (n : ℕ). slice_index_or marks n New) (omega arith) ∙ e

    each : (m : ℕ) → m < kept_run (drop j marks) → Alike 1 (drop (i + m) old) (drop (j + m) now)
    each m l =
        let at = kept_run-at (i + 1) (drop j marks) m first l in
        let inside : m < length (drop j marks) = at.within in
        let counted = length-drop j marks in
        h.kept (j + m) (i + m) (omega arith)
        (ap (λ (n : ℕ). slice_index_or marks n New) (omega arith) ∙ sym (get_or-drop j marks m New) ∙ at.mark ∙ ap Kept (omega arith))

-- ---- further on in a run

pub kept_run_mark : (marks : List Mark) (i j m : ℕ) → mark_at (j + 1) marks ≡ Kept (i + 1) → m < kept_run (drop j marks)
    → mark_at (j + m + 1) marks ≡ Kept (i + m + 1)
kept_run_mark marks i j m e l =
    let first : slice_index_or (drop j marks) 0 New ≡ Kept (i + 1) =
    get_or-drop j marks 0 New ∙ ap (λ (n : ℕ). slice_index_or marks n New) (omega arith) ∙ e in
    let at = kept_run-at (i + 1) (drop j marks) m first l in
    ap (λ (n : ℕ). slice_index_or marks n New) (omega arith) ∙ sym (get_or-drop j marks m New) ∙ at.mark ∙ ap Kept (omega arith)

numbered_later : (number : ℕ) (marks : List Mark) (m : ℕ) → m < numbered number marks → kept_run (drop m marks) ≡ numbered number marks - m
numbered_later number [] m h = absurd (omega arith)
numbered_later number (New ∷ marks) m h = absurd (omega arith)
numbered_later number (Kept i ∷ marks) m h = later number i marks (eqb i number) refl m h (λ k l. numbered_later (suc number) marks k l)
  where
    later : (number i : ℕ) (marks : List Mark) (b : Bool) → eqb i number ≡ b → (m : ℕ) → m < cond b (suc (numbered (suc number) marks)) 0
        → ((k : ℕ) → k < numbered (suc number) marks → kept_run (drop k marks) ≡ numbered (suc number) marks - k)
        → kept_run (drop m (Kept i ∷ marks)) ≡ cond b (suc (numbered (suc number) marks)) 0 - m
    later number i marks false e m h more = absurd (omega arith)
    later number i marks true e zero h more = ap (λ (n : ℕ). suc (numbered (suc n) marks)) (eqb-true i number e) ∙ omega arith
    later number i marks true e (suc m) h more = more m (omega arith) ∙ omega arith

pub kept_run_rest : (marks : List Mark) (m : ℕ) → m < kept_run marks → kept_run (drop m marks) ≡ kept_run marks - m
kept_run_rest [] m h = absurd (omega arith)
kept_run_rest (New ∷ marks) m h = absurd (omega arith)
kept_run_rest (Kept i ∷ marks) zero h = omega arith
kept_run_rest (Kept i ∷ marks) (suc m) h = numbered_later (suc i) marks m (omega arith) ∙ omega arith

-- Laws of marks.
use Rattle.std.proofs.Common.{◌≡◌, ℕ, zero, suc, ◌+◌, ◌-◌, ◌≤◌, ◌<◌, false, ◌||◌, eqb, List, [], ◌∷◌, ◌++◌, length, take, drop, refl, sym, ◌∙◌, ap, zero-add, add-zero, suc-add, add-suc, arith}
use Rattle.std.specs.Prelude.{replicate}
use Rattle.std.proofs.lemmas.Bool.{cond-true, eq-eqb}
use Rattle.mark_rules.specs.declared.Mark.{Mark}
use Rattle.mark_rules.specs.declared.Mark.TheVariants.{Kept, New}
use Rattle.mark_rules.specs.Marks.{kept_marks, clean_marks, edited_marks, numbered, kept_run, has_new, GoesOn, RisesFrom, Rises}

-- Kept lines with consecutive numbers.

pub length-kept_marks : (number lines : ℕ) → length (kept_marks number lines) ≡ lines
length-kept_marks number zero = refl
length-kept_marks number (suc lines) = ap suc (length-kept_marks (suc number) lines)

pub kept_marks-add : (number lines more : ℕ) → kept_marks number (lines + more) ≡ kept_marks number lines ++ kept_marks (number + lines) more
kept_marks-add number zero more = rw (zero-add, add-zero)
kept_marks-add number (suc lines) more =
    ap (kept_marks number) (suc-add lines more) ∙ ap (λ rest. Kept number ∷ rest) (kept_marks-add (suc number) lines more)
    ∙ ap (λ n. kept_marks number (suc lines) ++ kept_marks n more) (suc-add number lines ∙ sym (add-suc number lines))

pub kept_run-next : (i : ℕ) (marks : List Mark) → kept_run marks ≡ 0 → numbered i marks ≡ 0
kept_run-next i [] ends = refl
kept_run-next i (New ∷ marks) ends = refl
kept_run-next i (Kept j ∷ marks) ends = absurd (omega arith)

pub numbered-kept_marks : (number lines : ℕ) (marks : List Mark) → kept_run marks ≡ 0 → numbered number (kept_marks number lines ++ marks) ≡ lines
numbered-kept_marks number zero marks ends = kept_run-next number marks ends
numbered-kept_marks number (suc lines) marks ends =
    cond-true (eqb number number) (suc (numbered (suc number) (kept_marks (suc number) lines ++ marks))) 0 (eq-eqb number number refl)
    ∙ ap suc (numbered-kept_marks (suc number) lines marks ends)

pub kept_run-kept_marks : (number lines : ℕ) (marks : List Mark) → 0 < lines → kept_run marks ≡ 0 → kept_run (kept_marks number lines ++ marks) ≡ lines
kept_run-kept_marks number zero marks some ends = absurd (omega arith)
kept_run-kept_marks number (suc lines) marks some ends = ap suc (numbered-kept_marks (suc number) lines marks ends)

-- Lines that are New.

pub has_new-append : (marks others : List Mark) → has_new (marks ++ others) ≡ (has_new marks || has_new others)
has_new-append [] others = refl
has_new-append (New ∷ marks) others = refl
has_new-append (Kept i ∷ marks) others = has_new-append marks others

pub has_new-kept_marks : (number lines : ℕ) → has_new (kept_marks number lines) ≡ false
has_new-kept_marks number zero = refl
has_new-kept_marks number (suc lines) = has_new-kept_marks (suc number) lines

-- The kept numbers ascend after any edit.

RisesFrom-weaker : (least low : ℕ) (marks : List Mark) → low ≤ least → RisesFrom least marks → RisesFrom low marks
RisesFrom-weaker least low [] below rises = tt
RisesFrom-weaker least low (New ∷ marks) below rises = RisesFrom-weaker least low marks below rises
RisesFrom-weaker least low (Kept i ∷ marks) below rises = (omega (arith, rises.0), rises.1, rises.2)

pub RisesFrom-drop : (least n : ℕ) (marks : List Mark) → RisesFrom least marks → RisesFrom least (drop n marks)
RisesFrom-drop least zero marks rises = rises
RisesFrom-drop least (suc n) [] rises = tt
RisesFrom-drop least (suc n) (New ∷ marks) rises = RisesFrom-drop least n marks rises
RisesFrom-drop least (suc n) (Kept i ∷ marks) rises =
    RisesFrom-drop least n marks (RisesFrom-weaker (suc i) least marks (omega (arith, rises.0)) rises.2)

RisesFrom-new : (least lines : ℕ) (marks : List Mark) → RisesFrom least marks → RisesFrom least (replicate lines New ++ marks)
RisesFrom-new least zero marks rises = rises
RisesFrom-new least (suc lines) marks rises = RisesFrom-new least lines marks rises

-- new lines between the marks before one index and those after a later one
abbrev with_new : ℕ → ℕ → ℕ → List Mark → List Mark
with_new from to more marks = take from marks ++ New ∷ replicate more New ++ drop to marks

GoesOn-with_new : (i from to more : ℕ) (marks : List Mark) → GoesOn i marks → GoesOn i (with_new from to more marks)
GoesOn-with_new i zero to more marks on = tt
GoesOn-with_new i (suc from) to more [] on = tt
GoesOn-with_new i (suc from) to more (New ∷ marks) on = tt
GoesOn-with_new i (suc from) to more (Kept j ∷ marks) on = on

RisesFrom-with_new : (least from to more : ℕ) (marks : List Mark) → from ≤ to → RisesFrom least marks → RisesFrom least (with_new from to more marks)
RisesFrom-with_new least zero to more marks ordered rises = RisesFrom-new least more (drop to marks) (RisesFrom-drop least to marks rises)
RisesFrom-with_new least (suc from) zero more marks ordered rises = absurd (omega arith)
RisesFrom-with_new least (suc from) (suc to) more [] ordered rises = RisesFrom-new least more [] tt
RisesFrom-with_new least (suc from) (suc to) more (New ∷ marks) ordered rises = RisesFrom-with_new least from to more marks (omega arith) rises
RisesFrom-with_new least (suc from) (suc to) more (Kept i ∷ marks) ordered rises = (
  rises.0,
  GoesOn-with_new i from to more marks rises.1,
  RisesFrom-with_new (suc i) from to more marks (omega arith) rises.2,
)

pub Rises-edited : (first old new : ℕ) (marks : List Mark) → 0 < new → Rises marks → Rises (edited_marks first old new marks)
Rises-edited first old zero marks some rises = absurd (omega arith)
Rises-edited first old (suc more) marks some rises =
    RisesFrom-with_new 1 (first - 1) (first - 1 + old) more marks (omega arith) rises

GoesOn-kept_marks : (i lines : ℕ) → GoesOn i (kept_marks (suc i) lines)
GoesOn-kept_marks i zero = tt
GoesOn-kept_marks i (suc lines) = refl

RisesFrom-kept_marks : (least number lines : ℕ) → least ≤ number → RisesFrom least (kept_marks number lines)
RisesFrom-kept_marks least number zero below = tt
RisesFrom-kept_marks least number (suc lines) below =
    (below, GoesOn-kept_marks number lines, RisesFrom-kept_marks (suc number) (suc number) lines (omega arith))

pub Rises-clean : (lines : ℕ) → Rises (clean_marks lines)
Rises-clean lines = RisesFrom-kept_marks 1 1 lines (omega arith)

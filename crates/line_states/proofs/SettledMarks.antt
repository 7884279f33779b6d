-- Laws of settled marks, in which a restarted line is new.
use Rattle.std.proofs.Common.{◌≡◌, ℕ, zero, suc, ◌-◌, ◌⊎◌, Bool, true, false, List, [], ◌∷◌, length, refl, ap, sym, ◌∙◌, inl, inr, arith}
use Rattle.std.specs.Prelude.{replicate, slice_index_or}
use Rattle.std.proofs.lemmas.Bool.{cases_lt}
use Rattle.std.proofs.lemmas.List.{get_or-replicate, get_or_past, length-replicate}
use Rattle.mark_rules.specs.declared.Mark.{Mark}
use Rattle.mark_rules.specs.declared.Mark.TheVariants.{Kept, New}
use Rattle.mark_rules.specs.Marks.{mark_at, GoesOn, RisesFrom, Rises}
use Rattle.mark_rules.proofs.MarkLaws.{RisesFrom-drop}
use Rattle.hiding_rules.specs.declared.LineState.{LineState}
use Rattle.hiding_rules.specs.declared.LineState.TheVariants.{Code, Block}
use Rattle.hiding_rules.specs.Known.{same_state, scanned_lines}
use Rattle.line_states.specs.Lines.{new_from, new_lines}
use Rattle.line_states.specs.Settling.{Borders, known_lines, settled_mark, settled_marks}

-- the state in which a kept line began
abbrev pub began : Borders → ℕ → LineState
began last i = slice_index_or last.begins (i - 1) Code

-- ---- one line, by whether it begins as it did

pub new_stays_new : (last : Borders) (state : LineState) → settled_mark last New state ≡ New
new_stays_new last state = refl

pub restarted_is_new : (last : Borders) (i : ℕ) (state : LineState) → same_state (began last i) state ≡ false → settled_mark last (Kept i) state ≡ New
restarted_is_new last i state e = rw e

pub staying_is_kept : (last : Borders) (i : ℕ) (state : LineState) → same_state (began last i) state ≡ true → settled_mark last (Kept i) state ≡ Kept i
staying_is_kept last i state e = rw e

same_or_other : (b : Bool) → (b ≡ true) ⊎ (b ≡ false)
same_or_other true = inl refl
same_or_other false = inr refl

same_is : (s t : LineState) → same_state s t ≡ true → s ≡ t
same_is Code Code e = refl
same_is Block Block e = refl
same_is Code Block e = absurd cc
same_is Block Code e = absurd cc

-- ---- as many as there are states

pub length-settled : (last : Borders) (marks : List Mark) (states : List LineState) → length marks ≡ length states
    → length (settled_marks last marks states) ≡ length marks
length-settled last [] states e = refl
length-settled last (m ∷ marks) [] e = absurd cc
length-settled last (m ∷ marks) (s ∷ states) e = ap suc (length-settled last marks states (omega (arith, e)))

-- ---- the lines that are new then are those that are scanned

new_from-settled : (last : Borders) (n : ℕ) (marks : List Mark) (states : List LineState) → length marks ≡ length states
    → new_from n (settled_marks last marks states) ≡ scanned_lines n (known_lines last marks) states
new_from-settled last n [] states e = refl
new_from-settled last n (m ∷ marks) [] e = absurd cc
new_from-settled last n (New ∷ marks) (s ∷ states) e = ap (λ (lines : List ℕ). n ∷ lines) (new_from-settled last (suc n) marks states (omega (arith, e)))
new_from-settled last n (Kept i ∷ marks) (s ∷ states) e =
    let rest = new_from-settled last (suc n) marks states (omega (arith, e)) in
    elim (same_or_other (same_state (began last i) s)) [ inl same ↦ rw same rest | inr other ↦ rw other (ap (λ (lines : List ℕ). n ∷ lines) rest) ]

pub new_lines-settled : (last : Borders) (marks : List Mark) (states : List LineState) → length marks ≡ length states
    → new_lines (settled_marks last marks states) ≡ scanned_lines 1 (known_lines last marks) states
new_lines-settled last marks states e = new_from-settled last 1 marks states e

-- ---- the kept numbers rise still

GoesOn-settled : (last : Borders) (i : ℕ) (marks : List Mark) (states : List LineState) → GoesOn i marks → GoesOn i (settled_marks last marks states)
GoesOn-settled last i [] states on = tt
GoesOn-settled last i (m ∷ marks) [] on = tt
GoesOn-settled last i (New ∷ marks) (s ∷ states) on = tt
GoesOn-settled last i (Kept j ∷ marks) (s ∷ states) on =
    elim (same_or_other (same_state (began last j) s)) [ inl same ↦ rw same on | inr other ↦ rw other tt ]

RisesFrom-settled : (last : Borders) (least : ℕ) (marks : List Mark) (states : List LineState) → RisesFrom least marks
    → RisesFrom least (settled_marks last marks states)
RisesFrom-settled last least [] states rises = tt
RisesFrom-settled last least (m ∷ marks) [] rises = tt
RisesFrom-settled last least (New ∷ marks) (s ∷ states) rises = RisesFrom-settled last least marks states rises
RisesFrom-settled last least (Kept i ∷ marks) (s ∷ states) rises =
    elim (same_or_other (same_state (began last i) s)) [
      | inl same ↦ rw same (rises.0, GoesOn-settled last i marks states rises.1, RisesFrom-settled last (suc i) marks states rises.2)
      | inr other ↦ rw other (RisesFrom-settled last least marks states (RisesFrom-drop least 1 (Kept i ∷ marks) rises))
    ]

pub Rises-settled : (last : Borders) (marks : List Mark) (states : List LineState) → Rises marks → Rises (settled_marks last marks states)
Rises-settled last marks states rises = RisesFrom-settled last 1 marks states rises

-- ---- where every line begins in code, and did, none is restarted

in_code : (n j : ℕ) → slice_index_or (replicate n Code) j Code ≡ Code
in_code n j = elim (cases_lt j n) [
  | inl h ↦ get_or-replicate n j Code Code h
  | inr h ↦ let count : length (replicate n Code) ≡ n = length-replicate n Code in get_or_past (replicate n Code) j Code (omega arith)
]

pub settled_in_code : (last : Borders) (n : ℕ) (marks : List Mark) → last.begins ≡ replicate n Code
    → settled_marks last marks (replicate (length marks) Code) ≡ marks
settled_in_code last n [] e = refl
settled_in_code last n (New ∷ marks) e = ap (λ (ms : List Mark). New ∷ ms) (settled_in_code last n marks e)
settled_in_code last n (Kept i ∷ marks) e =
    let began_so : began last i ≡ Code = ap (λ (states : List LineState). slice_index_or states (i - 1) Code) e ∙ in_code n (i - 1) in
    let same : same_state (began last i) Code ≡ true = ap (λ (s : LineState). same_state s Code) began_so in
    rw same (ap (λ (ms : List Mark). Kept i ∷ ms) (settled_in_code last n marks e))

-- ---- a line that is kept still

-- the line was kept as line `i`, and begins in the same state
pub record StaysKept (last : Borders) (marks : List Mark) (states : List LineState) (n i : ℕ) : Type 0 where
  pub mark : mark_at n marks ≡ Kept i
  pub begins : slice_index_or states (n - 1) Code ≡ slice_index_or last.begins (i - 1) Code

new_or_kept : (i : ℕ) → New ≡ Kept i → ⊥
new_or_kept i e = absurd cc

at_first : (last : Borders) (m : Mark) (s : LineState) (i : ℕ) → settled_mark last m s ≡ Kept i → (m ≡ Kept i) × (s ≡ began last i)
at_first last New s i e = absurd cc
at_first last (Kept j) s i e =
    elim (same_or_other (same_state (began last j) s)) [
      | inl same ↦ (
          let kept = staying_is_kept last j s same in
          let number : Kept j ≡ Kept i = sym kept ∙ e in
          let begins : began last j ≡ s = same_is (began last j) s same in
          let numbers : j ≡ i = cc in
          (number, sym begins ∙ ap (began last) numbers)
          )
      | inr other ↦ absurd (new_or_kept i (sym (restarted_is_new last j s other) ∙ e))
    ]

kept_at : (last : Borders) (marks : List Mark) (states : List LineState) (j i : ℕ)
    → slice_index_or (settled_marks last marks states) j New ≡ Kept i
    → (slice_index_or marks j New ≡ Kept i) × (slice_index_or states j Code ≡ began last i)
kept_at last [] states j i e = absurd (new_or_kept i e)
kept_at last (m ∷ marks) [] j i e = absurd (new_or_kept i e)
kept_at last (m ∷ marks) (s ∷ states) zero i e = at_first last m s i e
kept_at last (m ∷ marks) (s ∷ states) (suc j) i e = kept_at last marks states j i e

pub kept_still : (last : Borders) (marks : List Mark) (states : List LineState) (n i : ℕ)
    → mark_at n (settled_marks last marks states) ≡ Kept i → StaysKept last marks states n i
kept_still last marks states n i e =
    let was = kept_at last marks states (n - 1) i e in
    record { mark = was.0; begins = was.1 }

-- The marks of the lines of a text, in order. Lines are counted from 1.
use Rattle.std.specs.Prelude.{ℕ, zero, suc, ◌+◌, ◌-◌, ◌≡◌, ◌≤◌, ◌==◌, ⊤, Bool, true, false, if◌then◌else◌, List, [], ◌∷◌, ◌++◌, length, take, drop, replicate, slice_index_or}
use Rattle.mark_rules.specs.declared.Mark.{Mark}
use Rattle.mark_rules.specs.declared.Mark.TheVariants.{Kept, New}

-- the marks of `lines` kept lines with consecutive numbers from `number` on
abbrev pub kept_marks : ℕ → ℕ → List Mark
kept_marks number zero = []
kept_marks number (suc lines) = Kept number ∷ kept_marks (suc number) lines

-- the marks after a parse of a text with `lines` lines
abbrev pub clean_marks : ℕ → List Mark
clean_marks lines = kept_marks 1 lines

-- the marks after `new` other lines replace `old` lines from line `first` on
abbrev pub edited_marks : ℕ → ℕ → ℕ → List Mark → List Mark
edited_marks first old new marks = take (first - 1) marks ++ replicate new New ++ drop (first - 1 + old) marks

-- the mark of line n
abbrev pub mark_at : ℕ → List Mark → Mark
mark_at n marks = slice_index_or marks (n - 1) New

-- the number of leading marks that are kept with consecutive numbers from `number` on
abbrev pub numbered : ℕ → List Mark → ℕ
numbered number [] = 0
numbered number (New ∷ marks) = 0
numbered number (Kept i ∷ marks) = if i == number then suc (numbered (suc number) marks) else 0

-- the number of leading lines that are kept with consecutive numbers
abbrev pub kept_run : List Mark → ℕ
kept_run [] = 0
kept_run (New ∷ marks) = 0
kept_run (Kept i ∷ marks) = suc (numbered (suc i) marks)

-- the number of leading lines that are new
abbrev pub new_run : List Mark → ℕ
new_run [] = 0
new_run (New ∷ marks) = suc (new_run marks)
new_run (Kept i ∷ marks) = 0

abbrev pub has_new : List Mark → Bool
has_new [] = false
has_new (New ∷ marks) = true
has_new (Kept i ∷ marks) = has_new marks

-- lines `first` and `last` are new, and all new lines are between them, both included
pub record SpansNew (marks : List Mark) (first last : ℕ) : Type 0 where
  pub from : 1 ≤ first
  pub ordered : first ≤ last
  pub to : last ≤ length marks
  pub first_new : mark_at first marks ≡ New
  pub last_new : mark_at last marks ≡ New
  pub kept_before : has_new (take (first - 1) marks) ≡ false
  pub kept_behind : has_new (drop last marks) ≡ false

-- if the line after kept line i is kept, its number is i + 1
abbrev pub GoesOn : ℕ → List Mark → Type 0
GoesOn i [] = ⊤
GoesOn i (New ∷ marks) = ⊤
GoesOn i (Kept j ∷ marks) = j ≡ suc i

-- the numbers of the kept lines ascend, are at least `least`, and are consecutive for adjacent kept lines
abbrev pub RisesFrom : ℕ → List Mark → Type 0
RisesFrom least [] = ⊤
RisesFrom least (New ∷ marks) = RisesFrom least marks
RisesFrom least (Kept i ∷ marks) = (least ≤ i) × GoesOn i marks × RisesFrom (suc i) marks

abbrev pub Rises : List Mark → Type 0
Rises marks = RisesFrom 1 marks

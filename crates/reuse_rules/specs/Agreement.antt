-- When the rows of an earlier text agree with those of the current text, under marks of its lines.
use Rattle.std.specs.Prelude.{◌≡◌, ℕ, zero, suc, ◌+◌, ◌<◌, List, [], ◌∷◌, length, drop, ⊤}
use Rattle.bracket_rules.specs.Rows.{Row}
use Rattle.mark_rules.specs.declared.Mark.{Mark}
use Rattle.mark_rules.specs.declared.Mark.TheVariants.{Kept, New}
use Rattle.mark_rules.specs.Marks.{mark_at, Rises}

-- both texts go on, or both end
abbrev pub GoOnAlike : List Row → List Row → Type 0
GoOnAlike [] [] = ⊤
GoOnAlike [] (s ∷ b) = ⊥
GoOnAlike (r ∷ a) [] = ⊥
GoOnAlike (r ∷ a) (s ∷ b) = ⊤

-- the first n rows are equal, and each of them is the last one in both texts or in neither
abbrev pub Alike : ℕ → List Row → List Row → Type 0
Alike zero a b = ⊤
Alike (suc n) [] b = ⊥
Alike (suc n) (r ∷ a) [] = ⊥
Alike (suc n) (r ∷ a) (s ∷ b) = (r ≡ s) × (GoOnAlike a b × Alike n a b)

-- the first line is new, or kept as the first line
abbrev pub BeginsAlike : List Mark → Type 0
BeginsAlike [] = ⊤
BeginsAlike (New ∷ marks) = ⊤
BeginsAlike (Kept i ∷ marks) = i ≡ 1

-- the old rows agree with the current rows under the marks: if line j is kept as line i, its row is the old one
pub record Agrees (old : List Row) (marks : List Mark) (now : List Row) : Type 0 where
  pub count : length marks ≡ length now
  pub rises : Rises marks
  pub begins : BeginsAlike marks
  pub kept : (j i : ℕ) → j < length marks → mark_at (j + 1) marks ≡ Kept (i + 1) → Alike 1 (drop i old) (drop j now)

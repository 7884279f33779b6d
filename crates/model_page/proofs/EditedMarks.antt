-- Marks of lines that were edited.
use Rattle.std.proofs.Common.{◌≡◌, ℕ, zero, suc, ◌+◌, ◌-◌, ◌<◌, ◌≤◌, Bool, true, false, ◌||◌, List, [], ◌∷◌, ◌++◌, length, take, drop, Some, refl, ap, ◌∙◌, arith}
use Rattle.std.specs.Prelude.{replicate, slice_index_or, ⊤}
use Rattle.std.proofs.Math.Bool.{or-true}
use Rattle.std.proofs.lemmas.List.{length-append, length-take-le, length-drop, length-replicate}
use Rattle.mark_rules.specs.declared.Mark.{Mark}
use Rattle.mark_rules.specs.declared.Mark.TheVariants.{Kept, New}
use Rattle.mark_rules.specs.Marks.{kept_marks, clean_marks, edited_marks, has_new, GoesOn, RisesFrom, Rises}
use Rattle.mark_rules.proofs.MarkLaws.{has_new-append, has_new-kept_marks}
use Rattle.bracket_tree_rules.specs.Tree.{Tree}
use Rattle.model_page.specs.Staying.{fresh_tree}
use Rattle.node_reuse.specs.Reading.{AllNew}
use Rattle.reuse_rules.specs.Agreement.{BeginsAlike}

-- ---- how many there are

pub length-edited_marks : (first old new : ℕ) (marks : List Mark) → first - 1 + old ≤ length marks
    → length (edited_marks first old new marks) ≡ first - 1 + new + (length marks - (first - 1 + old))
length-edited_marks first old new marks within =
    omega (
      arith,
      length-append (take (first - 1) marks ++ replicate new New) (drop (first - 1 + old) marks),
      length-append (take (first - 1) marks) (replicate new New),
      length-take-le (first - 1) marks (omega (arith, within)),
      length-replicate new New,
      length-drop (first - 1 + old) marks,
    )

-- ---- new lines

pub has_new-edited : (first old new : ℕ) (marks : List Mark) → 0 < new → has_new (edited_marks first old new marks) ≡ true
has_new-edited first old zero marks some = absurd (omega arith)
has_new-edited first old (suc new) marks some =
    has_new-append (take (first - 1) marks ++ replicate (suc new) New) (drop (first - 1 + old) marks)
    ∙ ap (λ b. b || has_new (drop (first - 1 + old) marks)) (has_new-append (take (first - 1) marks) (replicate (suc new) New) ∙ or-true (has_new (take (first - 1) marks)))

AreNew : List Mark → Type 0
AreNew [] = ⊤
AreNew (New ∷ marks) = AreNew marks
AreNew (Kept i ∷ marks) = ⊥

is_kept : Mark → Bool
is_kept (Kept i) = true
is_kept New = false

AreNew-of : (marks : List Mark) → AllNew marks → AreNew marks
unfolding AreNew
AreNew-of [] all = tt
AreNew-of (New ∷ marks) all = AreNew-of marks (later marks all)
  where
    later : (marks : List Mark) → AllNew (New ∷ marks) → AllNew marks
    later marks all zero i e = all 2 i e
    later marks all (suc n) i e =
        let one_less : suc (suc n) - 1 ≡ suc n = omega arith in
        let this_one : n ≡ suc n - 1 = omega arith in
        all (suc (suc n)) i
        (ap (λ (k : ℕ). slice_index_or (New ∷ marks) k New) one_less ∙ ap (λ (k : ℕ). slice_index_or marks k New) this_one ∙ e)
AreNew-of (Kept i ∷ marks) all = all 1 i refl

none_kept : (marks : List Mark) → AreNew marks → (m i : ℕ) → slice_index_or marks m New ≡ Kept i → ⊥
unfolding AreNew is_kept
none_kept [] new m i e = let clash : false ≡ true = ap is_kept e in cc
none_kept (New ∷ marks) new zero i e = let clash : false ≡ true = ap is_kept e in cc
none_kept (New ∷ marks) new (suc m) i e = none_kept marks new m i e
none_kept (Kept j ∷ marks) new m i e = new

AllNew-of : (marks : List Mark) → AreNew marks → AllNew marks
AllNew-of marks new n i e = none_kept marks new (n - 1) i e

AreNew-append : (marks others : List Mark) → AreNew marks → AreNew others → AreNew (marks ++ others)
unfolding AreNew
AreNew-append [] others new more = more
AreNew-append (New ∷ marks) others new more = AreNew-append marks others new more
AreNew-append (Kept i ∷ marks) others new more = elim new [ ]

AreNew-cut : (n : ℕ) (marks : List Mark) → AreNew marks → AreNew (take n marks) × AreNew (drop n marks)
unfolding AreNew
AreNew-cut zero marks new = (tt, new)
AreNew-cut (suc n) [] new = (tt, tt)
AreNew-cut (suc n) (New ∷ marks) new = AreNew-cut n marks new
AreNew-cut (suc n) (Kept i ∷ marks) new = elim new [ ]

AreNew-replicate : (n : ℕ) → AreNew (replicate n New)
unfolding AreNew
AreNew-replicate zero = tt
AreNew-replicate (suc n) = AreNew-replicate n

pub AllNew-replicate : (n : ℕ) → AllNew (replicate n New)
AllNew-replicate n = AllNew-of (replicate n New) (AreNew-replicate n)

-- where no line was kept, none is after an edit
pub AllNew-edited : (first old new : ℕ) (marks : List Mark) → AllNew marks → AllNew (edited_marks first old new marks)
AllNew-edited first old new marks all =
    let none : AreNew marks = AreNew-of marks all in
    AllNew-of (edited_marks first old new marks)
    (AreNew-append (take (first - 1) marks ++ replicate new New) (drop (first - 1 + old) marks)
    (AreNew-append (take (first - 1) marks) (replicate new New) (AreNew-cut (first - 1) marks none).0 (AreNew-replicate new)) (AreNew-cut (first - 1 + old) marks none).1)

-- ---- where no line is new

all_kept : (i : ℕ) (marks : List Mark) → has_new marks ≡ false → GoesOn i marks → RisesFrom (suc i) marks → marks ≡ kept_marks (suc i) (length marks)
all_kept i [] none on rises = refl
all_kept i (New ∷ marks) none on rises = absurd cc
all_kept i (Kept j ∷ marks) none on rises =
    ap (λ (rest : List Mark). Kept j ∷ rest) (all_kept j marks none rises.1 rises.2)
    ∙ ap (λ (k : ℕ). Kept k ∷ kept_marks (suc k) (length marks)) on

first_kept : (marks : List Mark) → BeginsAlike marks → GoesOn 0 marks
first_kept [] begins = tt
first_kept (New ∷ marks) begins = tt
first_kept (Kept i ∷ marks) begins = begins

-- each line is kept as itself
pub clean_where_kept : (marks : List Mark) → has_new marks ≡ false → Rises marks → BeginsAlike marks → marks ≡ clean_marks (length marks)
clean_where_kept marks none rises begins = all_kept 0 marks none (first_kept marks begins) rises

-- after a parse the tree is that of the text
pub fresh_after_parse : (t : Tree) (marks : List Mark) (lines : ℕ) → marks ≡ clean_marks lines → fresh_tree (Some t) marks ≡ Some t
fresh_after_parse t marks lines clean = rw (clean, has_new-kept_marks 1 lines) refl

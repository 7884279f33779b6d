-- Runs in order, with the gap at any of them.
use Rattle.std.proofs.Common.{◌≡◌, ◌+◌, List, [], ◌∷◌, ◌++◌, refl, sym, ◌∙◌, ap, subst, arith}
use Rattle.std.specs.Prelude.{⊤}
use Rattle.std.proofs.lemmas.List.{append_assoc}
use Rattle.line_hunks.specs.declared.run.Run.{Run}
use Rattle.line_hunks.specs.Run.{run_marks, lines_in}
use Rattle.line_hunks.specs.Sides.{turned}
use Rattle.line_hunks.specs.Runs.{marks_up, marks_down, marks_around, Stands}
use Rattle.line_hunks.proofs.RunMarks.{StandsBy-turned}

pub turned-turned : (front runs more : List Run) → turned (turned front runs) more ≡ turned runs (front ++ more)
turned-turned [] runs more = refl
turned-turned (run ∷ front) runs more = turned-turned front (run ∷ runs) more

pub turned-append : (front more runs : List Run) → turned (front ++ more) runs ≡ turned more (turned front runs)
turned-append [] more runs = refl
turned-append (run ∷ front) more runs = turned-append front more (run ∷ runs)

pub lines_in-turned : (front runs : List Run) → lines_in (turned front runs) ≡ lines_in front + lines_in runs
lines_in-turned [] runs = omega arith
lines_in-turned (run ∷ front) runs = omega (arith, lines_in-turned front (run ∷ runs))

-- The gap at another run.

marks_down-turned : (front runs : List Run) → marks_up front ++ marks_down runs ≡ marks_down (turned front runs)
marks_down-turned [] runs = refl
marks_down-turned (run ∷ front) runs =
    append_assoc (marks_up front) (run_marks run) (marks_down runs) ∙ marks_down-turned front (run ∷ runs)

module _ (front : List Run) (gap : Run) (back front' : List Run) (gap' : Run) (back' : List Run)
    (order : turned front' (gap' ∷ back') ≡ turned front (gap ∷ back)) where
  pub marks-moved : marks_around front' gap' back' ≡ marks_around front gap back
  marks-moved =
      marks_down-turned front' (gap' ∷ back') ∙ ap marks_down order ∙ sym (marks_down-turned front (gap ∷ back))

  pub lines-moved : lines_in front' + gap'.lines + lines_in back' ≡ lines_in front + gap.lines + lines_in back
  lines-moved =
      omega (arith, lines_in-turned front' (gap' ∷ back'), lines_in-turned front (gap ∷ back), ap lines_in order)

step-back : (run : Run) (front : List Run) (gap : Run) (back : List Run) → Stands (run ∷ front) gap back → Stands front run (gap ∷ back)
step-back run front gap back stands = record {
  before = stands.before.3;
  behind = StandsBy-turned gap.first run front gap back refl stands.before stands.some stands.range stands.behind;
  some = stands.before.1;
  range = stands.before.2;
  small = omega (arith, stands.small);
}

step-on : (run : Run) (front : List Run) (gap : Run) (back : List Run) → Stands front run (gap ∷ back) → Stands (run ∷ front) gap back
step-on run front gap back stands = record {
  before = StandsBy-turned run.first gap back run front refl stands.behind stands.some stands.range stands.before;
  behind = stands.behind.3;
  some = stands.behind.1;
  range = stands.behind.2;
  small = omega (arith, stands.small);
}

-- the invariant with the gap at the first run
abbrev AreInOrder : List Run → Type 0
AreInOrder [] = ⊤
AreInOrder (run ∷ runs) = Stands [] run runs

to-first : (front : List Run) (gap : Run) (back : List Run) → Stands front gap back → AreInOrder (turned front (gap ∷ back))
to-first [] gap back stands = stands
to-first (run ∷ front) gap back stands = to-first front run (gap ∷ back) (step-back run front gap back stands)

from-first : (front : List Run) (gap : Run) (back : List Run) → AreInOrder (turned front (gap ∷ back)) → Stands front gap back
from-first [] gap back stands = stands
from-first (run ∷ front) gap back stands = step-on run front gap back (from-first front run (gap ∷ back) stands)

pub Stands-moved : (front : List Run) (gap : Run) (back front' : List Run) (gap' : Run) (back' : List Run)
    → turned front' (gap' ∷ back') ≡ turned front (gap ∷ back) → Stands front gap back → Stands front' gap' back'
Stands-moved front gap back front' gap' back' order stands =
    from-first front' gap' back' (subst AreInOrder (sym order) (to-first front gap back stands))

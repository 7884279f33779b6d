-- What ops leave of the last parse and of the pieces, where calls before them and after them keep both.
use Rattle.std.proofs.Common.{◌≡◌, ℕ, List, sym, subst, ◌∙◌, arith}
use Rattle.mark_rules.specs.declared.Mark.{Mark}
use Rattle.model_page.specs.Asked.{KeptBy}
use Rattle.model_core.specs.State.{ModelState, KeepsParse, Leaves}

module _ (ops marking : ℕ) (marks : List Mark) (old mid new : ModelState) where
  pub leaves_from : KeepsParse old mid → Leaves ops marking marks mid new → Leaves ops marking marks old new
  leaves_from kept left = record {
    parsed = left.parsed ∙ kept.parsed;
    tree = left.tree ∙ kept.tree;
    states = left.states ∙ kept.states;
    marks = left.marks;
    fresh = subst (λ b. KeptBy marking b new.fresh) kept.fresh left.fresh;
    pieces = omega (arith, left.pieces, kept.pieces);
  }

  pub leaves_until : Leaves ops marking marks old mid → KeepsParse mid new → Leaves ops marking marks old new
  leaves_until left kept = record {
    parsed = kept.parsed ∙ left.parsed;
    tree = kept.tree ∙ left.tree;
    states = kept.states ∙ left.states;
    marks = kept.marks ∙ left.marks;
    fresh = subst (KeptBy marking old.fresh) (sym kept.fresh) left.fresh;
    pieces = omega (arith, left.pieces, kept.pieces);
  }

-- the same counts and marks in other words
pub leaves_as : (ops ops' marking marking' : ℕ) (marks marks' : List Mark) (old new : ModelState) → ops ≡ ops' → marking ≡ marking' → marks ≡ marks'
    → Leaves ops marking marks old new → Leaves ops' marking' marks' old new
leaves_as ops ops' marking marking' marks marks' old new same_ops same_marking same_marks left =
    subst (λ n. Leaves n marking' marks' old new) same_ops
    (subst (λ n. Leaves ops n marks' old new) same_marking (subst (λ m. Leaves ops marking m old new) same_marks left))

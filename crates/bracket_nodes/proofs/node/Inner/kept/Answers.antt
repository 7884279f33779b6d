use Rattle.std.proofs.Common.{◌≡◌, false, refl, subst}
use Rattle.bracket_tree_rules.specs.Tree.{Tree, weight, is_nothing}
use Rattle.bracket_nodes.specs.declared.node.Shape.{Shape}
use Rattle.bracket_nodes.specs.declared.node.Shape.TheVariants.{Text, Pair, Stray, Capped, Two, Three}
use Rattle.bracket_nodes.specs.Shapes.{tree_of}
use Rattle.bracket_nodes.specs.Kept.{Keeps}
use Rattle.bracket_nodes.specs.Bounds.{IsBounded}
use Rattle.bracket_nodes.proofs.KeptLemmas.{IsBounded-from_Keeps}
use Rattle.bracket_nodes.proofs.node.Inner.kept.Goals as goal

shape_some : (s : Shape) → is_nothing (tree_of s) ≡ false
shape_some (Text l) = refl
shape_some (Pair kind open_width inside close_width) = refl
shape_some (Stray kind width) = refl
shape_some (Capped kind width) = refl
shape_some (Two a b) = refl
shape_some (Three a b c) = refl

pub returns : goal.returns
returns c =
    let same : tree_of c.self.inside.shape ≡ c.args.self.now = c.self.view_is in
    let bounded = IsBounded-from_Keeps (tree_of c.self.inside.shape) c.self.inside.kept c.self.invariant in
    record {
      keeps = subst (λ (t : Tree). Keeps t c.self.inside.kept) same c.self.invariant;
      bounded = subst (λ (t : Tree). IsBounded (weight t) c.self.inside.kept) same bounded;
      some = subst (λ (t : Tree). is_nothing t ≡ false) same (shape_some c.self.inside.shape);
    }

-- A parsed tree in contracts.
use Rattle.std.specs.Prelude.{ℕ, refl}
use Rattle.std.specs.Coded.{Coded, code_by, coded_ℕ, coded×}
use Rattle.bracket_tree_rules.specs.Tree.{Tree}
use Rattle.bracket_tree_rules.specs.TreeCode.{tree_code}

-- the tree of a text, and the number of its lines that its parse asked for
pub record ParsedTree : Type 0 where
  pub tree : Tree
  pub asked : ℕ

-- by which proofs distinguish parsed trees
abbrev pub parsed_tree_code : Coded ParsedTree
parsed_tree_code =
    code_by (Tree × ℕ) (coded× tree_code coded_ℕ) (λ p. (p.tree, p.asked)) (λ p. record { tree = p.0; asked = p.1 }) (λ _. refl)

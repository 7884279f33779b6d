-- The walk down to the level at a place, step by step.
use Rattle.std.specs.Prelude.{◌≡◌, ℕ}
use Rattle.text_lengths.specs.declared.Length.{Length}
use Rattle.bracket_tree_rules.specs.Tree.{tree_entries, level_before}
use Rattle.bracket_tree_rules.specs.Parts.{IsPart}
use Rattle.bracket_nodes.specs.Seen.{seen_tree}
use Rattle.bracket_nodes.specs.Walks.{HasRoom}
use Rattle.bracket_nodes.specs.declared.lookups.LevelWalk.{LevelWalk}
use Rattle.bracket_nodes.specs.declared.lookups.LevelStep.{LevelStep}
use Rattle.bracket_nodes.specs.declared.lookups.LevelStep.TheVariants.{On, At}

-- the level at place q in the node that the walk has reached
abbrev pub level_told : LevelWalk → Length → ℕ
level_told w q = level_before q w.before (tree_entries w.here.start w.level (seen_tree w.here.node))

-- a step of the walk moves to a part in which the level is the same
pub record GoesOn (w : LevelWalk) (q : Length) (next : LevelWalk) : Type 0 where
  pub told : level_told w q ≡ level_told next q
  pub part : IsPart w.here.start (seen_tree w.here.node) next.here.start (seen_tree next.here.node)
  pub room : HasRoom next.here.start next.level (seen_tree next.here.node)

abbrev pub IsLevelStep : LevelWalk → Length → LevelStep → Type 0
IsLevelStep w q (On next) = GoesOn w q next
IsLevelStep w q (At level) = level_told w q ≡ level

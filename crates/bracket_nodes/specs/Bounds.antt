-- Bounds on what is kept of a tree, by the tree's weight.
use Rattle.std.specs.Prelude.{ℕ, ◌+◌, ◌≤◌, ◌^◌, unwrap_or}
use Rattle.bracket_nodes.specs.declared.kept.Kept.{Kept}

pub record IsBounded (weight : ℕ) (kept : Kept) : Type 0 where
  pub length : kept.length.lines + kept.length.columns ≤ weight
  pub height : kept.height ≤ 64
  pub low : 2 ^ kept.highest ≤ weight + 1
  pub nesting : kept.nesting ≤ weight
  pub last : unwrap_or kept.last_level 0 ≤ kept.nesting

-- The states that a tree holds.
use Rattle.std.specs.Prelude.{ℕ, ◌≡◌, ◌<◌, ◌≤◌, ◌^◌, List, ◌++◌, length, replicate}
use Rattle.hiding_rules.specs.declared.LineState.{LineState}
use Rattle.shared_states.specs.declared.node.Link.{Link}
use Rattle.shared_states.specs.declared.node.Link.TheVariants.{Run, Shared}

abbrev pub link_states : Link → List LineState
link_states (Run state lines) = replicate lines state
link_states (Shared inner) = inner.value

-- the states of two halves
abbrev pub joined : Link → Link → List LineState
joined left right = link_states left ++ link_states right

-- neither half is empty, and the stored numbers fit both
pub record IsJoined (first second : Link) (lines height : ℕ) : Type 0 where
  pub left : 0 < length (link_states first)
  pub right : 0 < length (link_states second)
  pub count : lines ≡ length (joined first second)
  pub fits : length (joined first second) < 2 ^ 64
  pub low : height ≤ length (joined first second)

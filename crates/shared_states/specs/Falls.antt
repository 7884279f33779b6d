-- Each half is shorter than the whole.
use Rattle.std.specs.Prelude.{◌+◌, ◌<◌, ◌≤◌, max, length}
use Rattle.std.proofs.Common.{length-append, arith}
use Rattle.shared_states.specs.declared.node.Link.{Link}
use Rattle.shared_states.specs.declared.node.Link.TheVariants.{Run, Shared}
use Rattle.shared_states.specs.declared.node.Inner.TheDeep.{deep-Link}
use Rattle.shared_states.specs.Shapes.{link_states, joined}

depth_of_link : (l : Link) → deep-Link l ≤ length (link_states l) + 1
depth_of_link (Run state lines) = omega arith
depth_of_link (Shared inner) = omega arith

pub depth_le-length : (left right : Link) → 0 < length (link_states left) → 0 < length (link_states right)
    → max (deep-Link left) (max (deep-Link right) 0) ≤ length (joined left right)
depth_le-length left right some others =
    omega (arith, depth_of_link left, depth_of_link right, length-append (link_states left) (link_states right))

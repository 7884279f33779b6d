-- The rest of the path still leads down from the root.
use Rattle.std.proofs.Common.{◌≡◌, All, vec_len}
use Rattle.bracket_nodes.specs.Forms.{IsSound}
use Rattle.bracket_nodes.specs.Paths.{IsOnPath}
use Rattle.bracket_nodes.specs.Seen.{seen_tree}
use Rattle.bracket_nodes.proofs.reader.NodeReader.back_before.Given as goal

abbrev pub invariant-loop-last : goal.invariant-loop-last
invariant-loop-last l =
    (seen_tree l.self-inside.root ≡ l.fn.self)
    × IsSound l.fn.self
    × All (IsOnPath l.fn.self) l.self-inside.path.items

abbrev pub decreases-loop-last : goal.decreases-loop-last
decreases-loop-last l = vec_len l.self-inside.path

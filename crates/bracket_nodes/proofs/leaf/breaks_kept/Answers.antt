use Rattle.bracket_nodes.proofs.Runs.{Keeps-breaks}
use Rattle.bracket_nodes.proofs.leaf.breaks_kept.Goals as goal

pub returns : goal.returns
returns c = rw (c.leaf_kept.ensures, c.none.ensures, c.breaks_length-length.ensures) (Keeps-breaks c.args.height c.requires)

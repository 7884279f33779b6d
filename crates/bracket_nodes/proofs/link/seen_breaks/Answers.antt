use Rattle.std.proofs.Common.{◌≡◌, min, ap, arith}
use Rattle.bracket_nodes.specs.declared.leaf.TheConstants.{HIGHEST_BREAKS}
use Rattle.bracket_nodes.specs.Forms.{breaks}
use Rattle.bracket_nodes.proofs.link.seen_breaks.Goals as goal

pub returns : goal.returns
returns c =
    let same : min c.args.height HIGHEST_BREAKS ≡ c.args.height = omega (arith, c.requires) in
    ap breaks same

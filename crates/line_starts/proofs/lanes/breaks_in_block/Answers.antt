use Rattle.std.proofs.Common.{ap, arith}
use lib.Count.{ones}
use Rattle.line_starts.proofs.Blocks.{block_count}
use Rattle.line_starts.proofs.lanes.breaks_in_block.Goals as goal

pub returns : goal.returns
returns c = omega (arith, ap ones c.ends_in_block.ensures, block_count c.args.at c.args.units.now c.requires)

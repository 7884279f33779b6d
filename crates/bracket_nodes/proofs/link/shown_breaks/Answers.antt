use Rattle.std.proofs.Common.{◌<◌, rules}
use Rattle.bracket_nodes.proofs.Runs.{breaks_halved}
use Rattle.bracket_nodes.proofs.link.shown_breaks.Goals as goal

pub returns : goal.returns
returns c =
    let some : 0 < c.args.height = search rules in
    rw (c.seen_breaks-first.ensures, c.seen_breaks-second.ensures) (breaks_halved c.args.height some)

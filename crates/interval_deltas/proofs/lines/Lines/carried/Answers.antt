use Rattle.std.proofs.Common.{arith}
use Rattle.decoration_rules.proofs.LineLemmas.{carried_place-rises, carried_place-within}
use Rattle.interval_deltas.proofs.lines.Lines.carried.Goals as goal

pub returns-clause-upright : goal.returns-clause-upright
returns-clause-upright c =
    let rises = carried_place-rises c.self.inside.moves.now c.args.span.start c.args.span.end c.self.invariant.0 c.requires in
    omega (arith, rises, c.carried.ensures, c.carried-2.ensures)

pub returns-clause-fits : goal.returns-clause-fits
returns-clause-fits c =
    let within = carried_place-within c.self.inside.moves.now c.args.span.end c.self.invariant.0 in let fits = c.self.invariant.0.fits in
    omega (arith, within, fits, c.carried-2.ensures)

use Rattle.std.proofs.Common.{subst, arith}
use Rattle.line_hunks.specs.Places.{IsPlace}
use Rattle.line_hunks.proofs.Turning.{marks-moved, Stands-moved}
use Rattle.line_hunks.proofs.PlaceLaws.{gap-place}
use Rattle.line_hunks.proofs.runs.Runs.place.Goals as goal

pub returns : goal.returns
returns c =
    let r = c.args.self.now in
    let place = c.place.result in
    let at = c.place.ensures in
    subst (λ marks. IsPlace marks c.args.n place)
    (marks-moved r.sides.front r.gap r.sides.back at.lower place.run at.upper at.order)
    (gap-place at.lower place.run at.upper c.args.n place.before
    (Stands-moved r.sides.front r.gap r.sides.back at.lower place.run at.upper at.order c.requires.whole)
    (omega (arith, at.line, c.requires.some)) at.within)

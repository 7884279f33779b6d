use Rattle.std.proofs.Common.{◌+◌, ◌<◌, ◌^◌, drop, arith}
use Rattle.std.proofs.lemmas.List.{length-drop}
use Rattle.node_reuse.proofs.OldRoom.{run_within, node_fits_if}
use Rattle.node_reuse.proofs.old.OldReader.node_at.Goals as goal

pub returns-clause-fits : goal.returns-clause-fits
returns-clause-fits c =
    let marks = c.args.self.now.marks in
    let old = c.in_ok-old.old in
    let room : c.args.place.lines + old.lines < 2 ^ 64 =
    omega (arith, run_within (drop c.args.place.lines marks), length-drop c.args.place.lines marks, c.in_ok-old.ensures.run, c.old_place.ensures.fits, c.requires) in
    node_fits_if c.in_ok-tree.tree.now marks c.args.place old.place old.lines c.args.opened c.args.level c.longest_at.result
    c.in_ok-old.ensures.some c.length-length.ensures.light room c.longest_at.ensures.some

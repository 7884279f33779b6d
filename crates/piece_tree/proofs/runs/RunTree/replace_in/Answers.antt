use Rattle.std.proofs.Common.{refl, ap, ◌∙◌}
use Rattle.std.specs.FinMap as map
use Rattle.raw_arena.specs.Arena.{nodes}
use Rattle.piece_tree.specs.Pieces.{sum_of}
use Rattle.piece_tree.proofs.Storing.{named, few_read}
use Rattle.piece_tree.proofs.ReplacedRuns.{stored_there, within_old, fits_old, is_value, small_sum, set_stored, set_shown}
use Rattle.piece_tree.proofs.runs.RunTree.replace_in.Goals as goal

pub get-at-requires : goal.get-at-requires
get-at-requires c =
    let f = c.requires.fits in
    named c.self.inside.tree c.self.inside.stored c.args.self.now c.self.view_is c.args.id (f.earlier, (f.pieces, (f.later, f.place)))

pub visit_mut-run-requires : goal.visit_mut-run-requires
visit_mut-run-requires c = let s = stored_there c.self.inside.tree c.self.inside.stored c.self.invariant c.args.self.now c.self.view_is c.args.id c.args.from c.args.to c.args.with.now c.requires.fits c.get-at.result c.get-at.ensures in (s.run, s.there)

pub replace-requires-clause-run : goal.replace-requires-clause-run
replace-requires-clause-run c = few_read c.self.inside.stored (c.args.id, c.get-at.result) (stored_there c.self.inside.tree c.self.inside.stored c.self.invariant c.args.self.now c.self.view_is c.args.id c.args.from c.args.to c.args.with.now c.requires.fits c.get-at.result c.get-at.ensures) c.visit_mut-run.result.now c.visit_mut-run.ensures.value

pub replace-requires-clause-within : goal.replace-requires-clause-within
replace-requires-clause-within c = within_old c.self.inside.tree c.self.inside.stored c.self.invariant c.args.self.now c.self.view_is c.args.id c.args.from c.args.to c.args.with.now c.requires.fits c.get-at.result c.get-at.ensures
    c.visit_mut-run.result.now c.visit_mut-run.ensures.value

pub replace-requires-clause-fits : goal.replace-requires-clause-fits
replace-requires-clause-fits c = fits_old c.self.inside.tree c.self.inside.stored c.self.invariant c.args.self.now c.self.view_is c.args.id c.args.from c.args.to c.args.with.now c.requires.fits c.get-at.result c.get-at.ensures
    c.visit_mut-run.result.now c.visit_mut-run.ensures.value

pub set-requires-clause-named : goal.set-requires-clause-named
set-requires-clause-named c =
    let f = c.requires.fits in
    named c.self.inside.tree c.self.inside.stored c.args.self.now c.self.view_is c.args.id (f.earlier, (f.pieces, (f.later, f.place)))

pub set-requires-clause-value : goal.set-requires-clause-value
set-requires-clause-value c = is_value c.self.inside.tree c.self.inside.stored c.self.invariant c.args.self.now c.self.view_is c.args.id c.args.from c.args.to c.args.with.now c.requires.fits c.get-at.result c.get-at.ensures
    c.visit_mut-run.result.now c.visit_mut-run.ensures.value
    c.requires.counted c.replace.new.self c.replace.ensures.pieces c.sum_of-sum.result (c.sum_of-sum.ensures ∙ ap sum_of c.pieces.ensures)

pub set-requires-clause-sum : goal.set-requires-clause-sum
set-requires-clause-sum c = small_sum c.self.inside.tree c.self.inside.stored c.self.invariant c.args.self.now c.self.view_is c.args.id c.args.from c.args.to c.args.with.now c.requires.fits c.get-at.result c.get-at.ensures
    c.visit_mut-run.result.now c.visit_mut-run.ensures.value
    c.requires.counted c.replace.new.self c.replace.ensures.pieces c.sum_of-sum.result (c.sum_of-sum.ensures ∙ ap sum_of c.pieces.ensures)

pub invariant_of-self : goal.invariant_of-self
invariant_of-self c = set_stored c.self.inside.tree c.self.inside.stored c.self.invariant c.args.self.now c.self.view_is c.args.id c.args.from c.args.to c.args.with.now c.requires.fits c.get-at.result c.get-at.ensures
    c.visit_mut-run.result.now c.visit_mut-run.ensures.value
    c.requires.counted c.replace.new.self c.replace.ensures.pieces c.sum_of-sum.result (c.sum_of-sum.ensures ∙ ap sum_of c.pieces.ensures)
    c.set.new.self c.set.ensures.items _ refl c.replace.ensures.run

pub returns-clause-runs : goal.returns-clause-runs
returns-clause-runs c = set_shown c.self.inside.tree c.self.inside.stored c.self.invariant c.args.self.now c.self.view_is c.args.id c.args.from c.args.to c.args.with.now c.requires.fits c.get-at.result c.get-at.ensures
    c.visit_mut-run.result.now c.visit_mut-run.ensures.value
    c.requires.counted c.replace.new.self c.replace.ensures.pieces c.sum_of-sum.result (c.sum_of-sum.ensures ∙ ap sum_of c.pieces.ensures)
    c.set.new.self c.set.ensures.items (nodes (map.insert c.self.inside.stored.live c.get-at.result.at c.replace.new.self) c.self.inside.stored.spare) refl

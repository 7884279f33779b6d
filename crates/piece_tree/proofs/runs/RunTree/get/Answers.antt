use Rattle.std.proofs.Common.{sym, subst, ◌∙◌, ◌<◌, ◌≤◌, length}
use Rattle.std.specs.List.{All}
use Rattle.piece_tree.specs.Searches.{few_breaks}
use Rattle.piece_tree.specs.Runs.{most_pieces}
use Rattle.piece_tree.proofs.OwnRuns.{own_shown}
use Rattle.piece_tree.proofs.Storing.{named, told_stored, told_pieces, few_read, few_pieces, some_read, counted_read}
use Rattle.piece_tree.proofs.runs.RunTree.get.Goals as goal

pub get-requires : goal.get-requires
get-requires c = named c.self.inside.tree c.self.inside.stored c.args.self.now c.self.view_is c.args.id c.requires

pub visit-run-requires : goal.visit-run-requires
visit-run-requires c =
    let s = told_stored c.self.inside.tree c.self.inside.stored c.args.self.now c.self.view_is c.args.id c.requires c.get.result c.get.ensures c.self.invariant in
    (s.run, s.there)

pub pieces-requires : goal.pieces-requires
pieces-requires c =
    let s = told_stored c.self.inside.tree c.self.inside.stored c.args.self.now c.self.view_is c.args.id c.requires c.get.result c.get.ensures c.self.invariant in
    few_read c.self.inside.stored (c.args.id, c.get.result) s c.visit-run.result.now c.visit-run.ensures.value

pub returns-clause-run : goal.returns-clause-run
returns-clause-run c = λ us x vs e.
    c.pieces.ensures ∙ told_pieces c.self.inside.tree c.self.inside.stored c.args.self.now c.self.view_is c.args.id c.requires c.get.result c.get.ensures c.self.invariant
    c.visit-run.result.now c.visit-run.ensures.value us x vs e

pub returns-clause-some : goal.returns-clause-some
returns-clause-some c =
    let s = told_stored c.self.inside.tree c.self.inside.stored c.args.self.now c.self.view_is c.args.id c.requires c.get.result c.get.ensures c.self.invariant in
    subst (λ ps. 0 < length ps) (sym c.pieces.ensures) (some_read c.self.inside.stored (c.args.id, c.get.result) s c.visit-run.result.now c.visit-run.ensures.value)

pub returns-clause-few : goal.returns-clause-few
returns-clause-few c =
    let s = told_stored c.self.inside.tree c.self.inside.stored c.args.self.now c.self.view_is c.args.id c.requires c.get.result c.get.ensures c.self.invariant in
    subst (λ ps. length ps ≤ most_pieces) (sym c.pieces.ensures) (few_pieces c.self.inside.stored (c.args.id, c.get.result) s c.visit-run.result.now c.visit-run.ensures.value)

pub returns-clause-counted : goal.returns-clause-counted
returns-clause-counted c =
    let s = told_stored c.self.inside.tree c.self.inside.stored c.args.self.now c.self.view_is c.args.id c.requires c.get.result c.get.ensures c.self.invariant in
    subst (All few_breaks) (sym c.pieces.ensures) (counted_read c.self.inside.stored (c.args.id, c.get.result) s c.visit-run.result.now c.visit-run.ensures.value)

pub returns-clause-own : goal.returns-clause-own
returns-clause-own c = own_shown c.args.id c.self.inside.tree c.self.inside.stored c.args.self.now c.self.invariant c.self.view_is c.get.result c.get.ensures

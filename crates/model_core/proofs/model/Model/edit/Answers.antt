use Rattle.std.proofs.Common.{Ok, arith}
use Rattle.std.proofs.lemmas.Grind.{common_steps}
use Rattle.document_rules.proofs.PairedStates.{IsPairedState-edit}
use Rattle.document_rules.specs.Document.{FlatState}
use Rattle.model_core.specs.Edited.{ops_as_done}
use Rattle.model_core.specs.Prepared.{IsEditReady, batch_of}
use Rattle.model_core.proofs.Held.{bound_as_prepared}
use Rattle.model_core.proofs.Preparing.{IsEdited, edited_as_prepared}
use Rattle.model_core.proofs.model.Model.edit.Goals as goal
use Rattle.model_core.proofs.model.Model.edit.Goals.{After-commit}

edited : (c : After-commit) → IsEdited c.args.ops.items c.args.self.now c.commit.new.self
edited c =
    let is : IsEditReady c.args.ops.items c.prepare.new.self c.in_ok-ready.ready = grind (arith, common_steps) in
    edited_as_prepared c.args.self.now c.prepare.new.self c.commit.new.self c.in_ok-ready.ready c.prepare.ensures.document c.prepare.ensures.parse
    c.commit.ensures.document c.commit.ensures.parse c.args.ops.items is

pub returns-clause-paired : goal.returns-clause-paired
returns-clause-paired c = (edited (goal.at.returns-clause-paired c).After-commit).paired

pub returns-clause-paired_state : goal.returns-clause-paired_state
returns-clause-paired_state c =
    λ texts paired. IsPairedState-edit (Ok tt) c.args.self.now.document _ c.args.ops.items (edited (goal.at.returns-clause-paired_state c).After-commit).document texts paired

pub returns-clause-parse : goal.returns-clause-parse
returns-clause-parse c = (edited (goal.at.returns-clause-parse c).After-commit).parse

pub returns-clause-held : goal.returns-clause-held
returns-clause-held c =
    let ops = c.args.ops.items in
    let is : IsEditReady ops c.prepare.new.self c.in_ok-ready.ready = grind (arith, common_steps) in
    bound_as_prepared c.in_ok-ready.ready.action (λ (f : FlatState). batch_of f (ops_as_done f ops)) c.args.self.now c.prepare.new.self c.commit.new.self
    is.action c.prepare.ensures.document c.prepare.ensures.parse c.commit.ensures.held

use Rattle.std.proofs.Common.{Option, Ok, subst}
use Rattle.search_rules.proofs.Replacing.{replaced_units, replaced_taken_back, replaced_paired}
use Rattle.document_rules.specs.Document.{FlatState}
use Rattle.model_core.specs.Prepared.{Prepared}
use Rattle.model_core.proofs.Held.{bound_as_prepared}
use Rattle.model_core.specs.Replaced.{replacement_of, PreparesReplace}
use Rattle.model_core.proofs.Searching.{IsReplaced, replaced_as_prepared}
use Rattle.model_core.proofs.model.Model.replace_all.Goals as goal
use Rattle.model_core.proofs.model.Model.replace_all.Goals.{After-commit_alone}

replaced : (c : After-commit_alone) → IsReplaced c.args.sought.now c.args.with.now c.args.self.now c.commit_alone.new.self
replaced c =
    let mid = c.prepare_replace_all.new.self in
    let ready = c.in-Some.ready in
    replaced_as_prepared mid c.commit_alone.new.self ready c.commit_alone.ensures.document c.commit_alone.ensures.parse
    c.args.self.now c.args.sought.now c.args.with.now c.prepare_replace_all.ensures.document c.prepare_replace_all.ensures.parse
    (subst (λ (o : Option Prepared). PreparesReplace c.args.sought.now c.args.with.now (Ok o) mid) c.in-Some.is c.in_ok-ready.ensures.ready)

pub returns-clause-document : goal.returns-clause-document
returns-clause-document c = (replaced (goal.at.returns-clause-document c).After-commit_alone).document

pub returns-clause-text : goal.returns-clause-text
returns-clause-text c =
    λ done. replaced_units c.args.self.now.document c.commit_alone.new.self.document c.args.sought.now c.args.with.now c.requires.some
    (replaced (goal.at.returns-clause-text c).After-commit_alone).document

pub returns-clause-back : goal.returns-clause-back
returns-clause-back c =
    λ done. replaced_taken_back c.args.self.now.document c.commit_alone.new.self.document c.args.sought.now c.args.with.now c.requires.some
    (replaced (goal.at.returns-clause-back c).After-commit_alone).document

pub returns-clause-paired_state : goal.returns-clause-paired_state
returns-clause-paired_state c =
    replaced_paired c.args.self.now.document c.commit_alone.new.self.document c.args.sought.now c.args.with.now
    (replaced (goal.at.returns-clause-paired_state c).After-commit_alone).document

pub returns-clause-parse : goal.returns-clause-parse
returns-clause-parse c = (replaced (goal.at.returns-clause-parse c).After-commit_alone).parse

pub returns-clause-held : goal.returns-clause-held
returns-clause-held c =
    let mid = c.prepare_replace_all.new.self in
    let is = subst (λ (o : Option Prepared). PreparesReplace c.args.sought.now c.args.with.now (Ok o) mid) c.in-Some.is c.in_ok-ready.ensures.ready in
    λ done. bound_as_prepared c.in-Some.ready.action (λ (f : FlatState). replacement_of f c.args.sought.now c.args.with.now) c.args.self.now mid c.commit_alone.new.self
    is.ready.action c.prepare_replace_all.ensures.document c.prepare_replace_all.ensures.parse c.commit_alone.ensures.held

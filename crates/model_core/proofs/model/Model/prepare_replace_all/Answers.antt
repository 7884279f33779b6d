use Rattle.std.proofs.Common.{◌≡◌, ◌<◌, List, length, Option, Result, Err, ap, sym, subst, ◌∙◌, arith}
use Rattle.std.proofs.lemmas.Grind.{common_steps}
use Rattle.text_rules.specs.declared.Op.{Op}
use Rattle.document_rules.specs.declared.ModelError.{ModelError}
use Rattle.document_rules.specs.Outcomes.{RefusedFor}
use Rattle.document_rules.specs.Document.{flat_edit}
use Rattle.model_core.specs.Prepared.{Prepared}
use Rattle.model_core.specs.Replaced.{replacing_ops, PreparesReplace}
use Rattle.model_core.proofs.Searching.{refused_replace}
use Rattle.model_core.proofs.model.Model.prepare_replace_all.Goals as goal

pub returns-in_err-prepare-clause-ready : goal.returns-in_err-prepare-clause-ready
returns-in_err-prepare-clause-ready c =
    let sought = c.args.sought.now in
    let text = c.args.with.now in
    let now = c.prepare.new.self in
    let e = c.in_err-prepare.field-0.0 in
    let found : c.in_ok-ops.ops.items ≡ replacing_ops c.args.self.now.document sought text = grind (arith, common_steps) in
    let ops : c.in_ok-ops.ops.items ≡ replacing_ops now.document sought text = found ∙ ap (λ f. replacing_ops f sought text) (sym c.prepare.ensures.document) in
    let some : 0 < length c.in_ok-ops.ops.items = grind (arith, common_steps) in
    let told : RefusedFor e (flat_edit now.document c.in_ok-ops.ops.items) = c.in_err-prepare.ensures.ready in
    let is : c.from_residual-in_err-prepare.result ≡ Err e = grind (arith, common_steps) in
    subst (λ (r : Result (Option Prepared) ModelError). PreparesReplace sought text r now) (sym is)
    (refused_replace now.document sought text e c.requires.some (subst (λ (l : List Op). 0 < length l) ops some)
    (subst (λ (l : List Op). RefusedFor e (flat_edit now.document l)) ops told))

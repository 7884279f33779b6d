use Rattle.std.proofs.Common.{◌∙◌, sym, arith}
use Rattle.std.proofs.lemmas.Bool.{eqb-false}
use Rattle.document_rules.specs.Document.{flat_changes}
use Rattle.textmodel_c.proofs.Collected.{telling_is}
use Rattle.textmodel_c.proofs.telling.Telling.of.Goals as goal

pub returns : goal.returns
returns c =
    let f = c.args.model.now.document in
    let some = eqb-false _ _ (sym c.is_empty.ensures ∙ c.if-is_empty.false) in
    telling_is c.args.doc f.version c.versions.result.0 c.in_ok-edits.edits.items c.in_ok-edits.texts.items (flat_changes f) c.versions.ensures.version
    (c.in_ok-edits.ensures.edits ∙ c.changes.ensures.changes) (λ none. some (omega (arith, none)))

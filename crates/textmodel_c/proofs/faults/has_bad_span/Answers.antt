use Rattle.std.proofs.Common.{◌≡◌, true, nat_lt, refl, sym, ap, ◌∙◌, arith}
use Rattle.std.proofs.lemmas.Bool.{lt-ltb}
use Rattle.text_rules.specs.Edits.{is_bad_span}
use Rattle.document_rules.specs.Document.{FlatState}
use Rattle.group_rules.specs.declared.TheConstants.{DOC_COUNT}
use Rattle.textmodel_c.specs.Rules.{span}
use Rattle.textmodel_c.proofs.faults.has_bad_span.Goals as goal

pub returns : goal.returns
returns c =
    let there : nat_lt c.args.op.doc DOC_COUNT ≡ true = lt-ltb c.args.op.doc DOC_COUNT (omega arith) in
    c.is_bad_span.ensures
    ∙ ap (λ (f : FlatState). is_bad_span f.kind f.units (span c.args.op.start c.args.op.end)) c.document.ensures
    ∙ sym (rw there refl)

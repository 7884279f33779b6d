use Rattle.document_rules.specs.Outcomes.{Gives}
use Rattle.document_rules.specs.Brackets.{flat_level}
use Rattle.textmodel_c.proofs.Others.{on_document, documents_kept}
use Rattle.textmodel_c.proofs.brackets.level_at.Goals as goal

pub returns-clause-level : goal.returns-clause-level
returns-clause-level c =
    (on_document c.args.doc (λ f g. Gives c.level_at.result (flat_level f c.args.at)) c.args.group.now c.level_at.new.self c.level_at.ensures
    c.level_at.ensures.done.0.answer).0

pub returns-clause-documents : goal.returns-clause-documents
returns-clause-documents c = documents_kept c.args.doc c.args.group.now c.level_at.new.self c.level_at.ensures c.level_at.ensures.done.0.parse.document

pub returns-clause-sure : goal.returns-clause-sure
returns-clause-sure c = λ fresh. c.level_at.ensures.done.0.sure (fresh c.level_at.ensures.before c.level_at.ensures.is)

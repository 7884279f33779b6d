use Rattle.document_rules.specs.Outcomes.{Gives}
use Rattle.document_rules.specs.Brackets.{flat_match}
use Rattle.textmodel_c.proofs.Others.{on_document, documents_kept}
use Rattle.textmodel_c.proofs.brackets.match_at.Goals as goal

pub returns-clause-partner : goal.returns-clause-partner
returns-clause-partner c =
    (on_document c.args.doc (λ f g. Gives c.match_at.result (flat_match f c.args.at)) c.args.group.now c.match_at.new.self c.match_at.ensures
    c.match_at.ensures.done.0.answer).0

pub returns-clause-documents : goal.returns-clause-documents
returns-clause-documents c = documents_kept c.args.doc c.args.group.now c.match_at.new.self c.match_at.ensures c.match_at.ensures.done.0.parse.document

pub returns-clause-sure : goal.returns-clause-sure
returns-clause-sure c = λ fresh. c.match_at.ensures.done.0.sure (fresh c.match_at.ensures.before c.match_at.ensures.is)

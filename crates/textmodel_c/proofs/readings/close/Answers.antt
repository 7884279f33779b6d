use Rattle.document_rules.specs.Outcomes.{Changes}
use Rattle.document_rules.specs.Snapshots.{flat_close_of}
use Rattle.textmodel_c.proofs.Others.{on_document}
use Rattle.textmodel_c.proofs.readings.close.Goals as goal

pub returns-clause-document : goal.returns-clause-document
returns-clause-document c =
    on_document c.args.doc (λ f g. Changes c.close.result f g (flat_close_of f c.args.id)) c.args.group.now c.close.new.self c.close.ensures.document
    c.close.ensures.document.done.0

use Rattle.document_rules.specs.Outcomes.{ChangesWith}
use Rattle.document_rules.specs.Snapshots.{flat_snapshot}
use Rattle.textmodel_c.proofs.Others.{on_document}
use Rattle.textmodel_c.proofs.readings.snapshot.Goals as goal

pub returns : goal.returns
returns c =
    on_document c.args.doc (λ f g. ChangesWith f.shelf.next_id c.snapshot.result f g (flat_snapshot f)) c.args.group.now c.snapshot.new.self
    c.snapshot.ensures c.snapshot.ensures.done.0

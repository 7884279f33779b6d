use Rattle.std.proofs.Common.{◌≡◌}
use Rattle.document_rules.specs.Snapshots.{flat_skipped}
use Rattle.textmodel_c.proofs.Others.{on_document}
use Rattle.textmodel_c.proofs.readings.skip.Goals as goal

pub returns : goal.returns
returns c = on_document c.args.doc (λ f g. g ≡ flat_skipped f c.args.id c.args.count) c.args.group.now c.skip.new.self c.skip.ensures c.skip.ensures.done.0

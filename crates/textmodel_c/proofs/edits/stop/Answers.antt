use Rattle.std.proofs.Common.{◌≡◌}
use Rattle.document_rules.specs.Document.{flat_stop}
use Rattle.textmodel_c.proofs.Others.{on_document}
use Rattle.textmodel_c.proofs.edits.stop.Goals as goal

pub returns : goal.returns
returns c = on_document c.args.doc (λ f g. g ≡ flat_stop f) c.args.group.now c.stop.new.self c.stop.ensures c.stop.ensures.done.0

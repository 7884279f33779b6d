use Rattle.std.proofs.Common.{◌≡◌, map, replicate}
use Rattle.document_rules.specs.Document.{empty_document}
use Rattle.model_core.specs.State.{ModelState}
use Rattle.model_group.proofs.group.Group.new.Given as goal

abbrev pub invariant-loop : goal.invariant-loop
invariant-loop l = map (λ (m : ModelState). m.document) l.models.items ≡ replicate l.counter empty_document

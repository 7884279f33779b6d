use Rattle.std.proofs.Common.{◌≡◌, false, take}
use Rattle.std.specs.List.{list_any}
use Rattle.textmodel_c.specs.Faults.{overlap_on}
use Rattle.textmodel_c.proofs.faults.overlap_on_any.Given as goal

abbrev pub invariant-loop-doc : goal.invariant-loop-doc
invariant-loop-doc l = list_any (λ doc. overlap_on doc l.ops) (take l.doc-index l.docs) ≡ false

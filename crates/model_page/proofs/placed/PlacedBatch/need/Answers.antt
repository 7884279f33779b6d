use Rattle.std.proofs.Common.{subst}
use Rattle.model_page.specs.Placed.{IsKept}
use Rattle.model_page.proofs.placed.PlacedBatch.need.Goals as goal

-- the text has no more units than there is room for
pub shared_ref_as_front-of_edit : goal.shared_ref_as_front-of_edit
shared_ref_as_front-of_edit c = (subst IsKept c.in-Short.is c.self.invariant).0

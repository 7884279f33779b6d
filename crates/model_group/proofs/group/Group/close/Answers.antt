use Rattle.model_group.proofs.Grouping.{group_kept, kept_close}
use Rattle.model_group.proofs.group.Group.close.Goals as goal

pub invariant_of-self : goal.invariant_of-self
invariant_of-self c = group_kept _ _ _ _ c.self.invariant c.requires c.index_mut.ensures.value (kept_close _ _ _ _ c.close.ensures.document)

use Rattle.model_group.proofs.Grouping.{group_kept, kept_same}
use Rattle.model_group.proofs.group.Group.prepare_replace_all.Goals as goal

pub invariant_of-self : goal.invariant_of-self
invariant_of-self c = group_kept _ _ _ _ c.self.invariant c.requires.there c.index_mut.ensures.value (kept_same _ _ c.prepare_replace_all.ensures.document)

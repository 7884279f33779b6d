use Rattle.model_group.proofs.Grouping.{group_kept, kept_decorate}
use Rattle.model_group.proofs.group.Group.decorate.Goals as goal

pub invariant_of-self : goal.invariant_of-self
invariant_of-self c =
    group_kept _ _ _ _ c.self.invariant c.requires c.index_mut.ensures.value (kept_decorate _ _ c.args.owner c.args.remove.now c.args.add.now _ c.decorate.ensures.document)

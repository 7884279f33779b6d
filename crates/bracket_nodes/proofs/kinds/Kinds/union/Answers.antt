use Rattle.bracket_nodes.proofs.kinds.Kinds.union.Goals as goal

pub returns : goal.returns
returns c = cc

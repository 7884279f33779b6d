use Rattle.bracket_nodes.specs.Forms.{form_tree}
use Rattle.bracket_nodes.proofs.KeptLemmas.{IsBounded-from_Keeps}
use Rattle.bracket_nodes.proofs.link.Seen.kept.Goals as goal

pub returns-in-Here-clause-bounded : goal.returns-in-Here-clause-bounded
returns-in-Here-clause-bounded c = rw c.in-Here.is (IsBounded-from_Keeps (form_tree c.in-Here.form) c.kept.result c.kept.ensures)

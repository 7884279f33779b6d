use Rattle.std.proofs.Common.{None, ap, ◌∙◌}
use Rattle.rb_arena.specs.RbTree.{last_or}
use Rattle.piece_tree.specs.Runs.{Runs}
use Rattle.piece_tree.proofs.Storing.{last_shown}
use Rattle.piece_tree.proofs.runs.RunTree.last.Goals as goal

pub returns : goal.returns
returns c = c.last.ensures ∙ last_shown c.self.inside.stored None c.self.inside.tree.items ∙ ap (λ (r : Runs). last_or None r.runs) c.self.view_is

use Rattle.std.proofs.Common.{◌∷◌, [], ◌++◌, ap, ◌∙◌}
use Rattle.bracket_nodes.specs.declared.node.Link.{Link}
use Rattle.bracket_nodes.proofs.Joined.{Takes-put}
use Rattle.bracket_nodes.proofs.joiner.Joiner.put.Goals as goal

pub returns : goal.returns
returns c =
    let old = c.args.self.now in
    Takes-put old (record { lists = c.push.new.self; last = c.replace-before.new.dest }) c.args.list
    (c.in_ok-push.ensures.items ∙ ap (λ (x : Link). old.lists.items ++ x ∷ []) c.replace-before.ensures.value)
    c.replace-before.ensures.after

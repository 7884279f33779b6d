use Rattle.std.proofs.Common.{arith}
use Rattle.std.proofs.lemmas.Grind.{common_steps}
use Rattle.bracket_nodes.proofs.JoinedLists.{Joins, joined_length, joined_tokens, joined_entries}
use Rattle.bracket_nodes.proofs.joiner.concat.Goals as goal

pub returns-clause-length : goal.returns-clause-length
returns-clause-length c =
    let in_order : Joins c.finish.result c.args.nodes.items = grind (arith, common_steps) in
    joined_length c.finish.result c.args.nodes.items in_order

pub returns-clause-tokens : goal.returns-clause-tokens
returns-clause-tokens c =
    let in_order : Joins c.finish.result c.args.nodes.items = grind (arith, common_steps) in
    joined_tokens c.finish.result c.args.nodes.items in_order

pub returns-clause-entries : goal.returns-clause-entries
returns-clause-entries c =
    let in_order : Joins c.finish.result c.args.nodes.items = grind (arith, common_steps) in
    joined_entries c.finish.result c.args.nodes.items in_order

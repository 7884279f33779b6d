use Rattle.std.proofs.Common.{subst}
use Rattle.rb_arena.specs.Searching as searching
use Rattle.line_hunks.specs.Weave.{adding, run_turn}
use Rattle.line_hunks.proofs.Finding.{finds}
use Rattle.line_hunks.proofs.find.find.Goals as goal

pub overflow_sub-place : goal.overflow_sub-place
overflow_sub-place c =
    (finds c.args.lines c.args.tree.now.items c.in-Some.found
    (subst (searching.Found adding run_turn c.args.lines c.args.tree.now.items) c.in-Some.is c.descend.ensures.found) c.requires).1

pub returns : goal.returns
returns c =
    (finds c.args.lines c.args.tree.now.items c.in-Some.found
    (subst (searching.Found adding run_turn c.args.lines c.args.tree.now.items) c.in-Some.is c.descend.ensures.found) c.requires).0

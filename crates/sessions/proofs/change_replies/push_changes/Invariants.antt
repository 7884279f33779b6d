use Rattle.std.proofs.Common.{◌≡◌, ◌++◌, length}
use Rattle.std.specs.List.{flat_map}
use Rattle.session_rules.specs.Step.{edit_part}
use Rattle.sessions.proofs.change_replies.push_changes.Given as goal

abbrev pub invariant-loop-change : goal.invariant-loop-change
invariant-loop-change l = l.reply.items ++ flat_map edit_part l.changes ≡ l.fn.reply.items ++ flat_map edit_part l.fn.changes

abbrev pub decreases-loop-change : goal.decreases-loop-change
decreases-loop-change l = length l.changes

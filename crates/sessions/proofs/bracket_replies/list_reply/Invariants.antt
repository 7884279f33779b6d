use Rattle.std.proofs.Common.{◌≡◌, ◌++◌, take, codes}
use Rattle.std.specs.List.{flat_map}
use Rattle.session_rules.specs.Step.{entry_part}
use Rattle.sessions.proofs.bracket_replies.list_reply.Given as goal

abbrev pub invariant-loop-entry : goal.invariant-loop-entry
invariant-loop-entry l = l.reply.items ≡ codes "ok" ++ flat_map entry_part (take l.entry-index l.entries)

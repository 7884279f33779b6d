use Rattle.std.proofs.Common.{◌≡◌, ◌++◌, take, codes}
use Rattle.std.specs.List.{flat_map}
use Rattle.script_lines.specs.Replies.{number_part}
use Rattle.sessions.proofs.snapshot_replies.numbers_reply.Given as goal

abbrev pub invariant-loop-number : goal.invariant-loop-number
invariant-loop-number l = l.reply.items ≡ codes "ok" ++ flat_map number_part (take l.number-index l.numbers)

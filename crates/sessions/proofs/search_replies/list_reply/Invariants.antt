use Rattle.std.proofs.Common.{◌≡◌, ◌++◌, take, codes}
use Rattle.std.specs.List.{flat_map}
use Rattle.script_lines.specs.Replies.{number_part}
use Rattle.session_rules.specs.Step.{span_numbers}
use Rattle.sessions.proofs.search_replies.list_reply.Given as goal

abbrev pub invariant-loop-span : goal.invariant-loop-span
invariant-loop-span l = l.reply.items ≡ codes "ok" ++ flat_map number_part (span_numbers (take l.span-index l.spans))

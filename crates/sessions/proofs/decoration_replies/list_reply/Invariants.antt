use Rattle.std.proofs.Common.{◌≡◌, ◌++◌, take, codes}
use Rattle.std.specs.List.{flat_map}
use Rattle.script_lines.specs.Replies.{number_part}
use Rattle.session_rules.specs.Step.{deco_numbers}
use Rattle.sessions.proofs.decoration_replies.list_reply.Given as goal

abbrev pub invariant-loop-deco : goal.invariant-loop-deco
invariant-loop-deco l = l.reply.items ≡ codes "ok" ++ flat_map number_part (deco_numbers (take l.deco-index l.decos))

use Rattle.std.proofs.Common.{◌≡◌, ◌≤◌, ◌+◌, ◌*◌, ◌++◌, take, codes, length}
use Rattle.std.specs.List.{flat_map}
use Rattle.script_lines.specs.Replies.{number_part}
use Rattle.script_lines.proofs.short.Short.ok.Given as goal

abbrev pub invariant-loop-part : goal.invariant-loop-part
invariant-loop-part l = record {
  text : l.bytes.items ≡ codes "ok" ++ flat_map number_part (take l.part-index l.parts);
  short : length l.bytes.items ≤ 2 + 21 * l.part-index;
}

use Rattle.std.proofs.Common.{◌≡◌, ◌+◌, ◌≤◌, length, flat_map}
use Rattle.std.specs.Char.Escape.{encode_utf16}
use Rattle.std.specs.Str.Iter.{chars_rest}
use Rattle.stops.proofs.width.Given as goal

abbrev pub invariant-loop-c : goal.invariant-loop-c
invariant-loop-c l = record {
  units : l.width ≡ length (flat_map encode_utf16 l.yielded);
  within : l.width + length (chars_rest l.c-iterator) ≤ length l.cluster;
}

use Rattle.std.proofs.Common.{◌≡◌, ◌≤◌, ◌++◌, length, take, vec_len}
use Rattle.unit_text.specs.Text.{utf8_of}
use Rattle.unit_text.proofs.utf8.push_utf8.Given as goal

abbrev pub invariant-loop-c : goal.invariant-loop-c
invariant-loop-c l = record {
  text : l.out.items ++ utf8_of l.rest ≡ l.fn.out.items ++ utf8_of l.fn.units;
  before : take (vec_len l.fn.out) l.out.items ≡ l.fn.out.items;
  grown : vec_len l.fn.out ≤ vec_len l.out;
}

abbrev pub decreases-loop-c : goal.decreases-loop-c
decreases-loop-c l = length l.rest

use Rattle.std.proofs.Common.{◌≡◌, ◌≤◌, ◌++◌, length, take, vec_len}
use Rattle.unit_text.specs.Kinds.{with_endings}
use Rattle.unit_text.proofs.kind.push_with_endings.Given as goal

abbrev pub invariant-loop-unit : goal.invariant-loop-unit
invariant-loop-unit l = record {
  text : l.out.items ++ with_endings l.fn.ending l.rest ≡ l.fn.out.items ++ with_endings l.fn.ending l.fn.units;
  before : take (vec_len l.fn.out) l.out.items ≡ l.fn.out.items;
  grown : vec_len l.fn.out ≤ vec_len l.out;
}

abbrev pub decreases-loop-unit : goal.decreases-loop-unit
decreases-loop-unit l = length l.rest

use Rattle.std.proofs.Common.{◌≡◌, ◌≤◌, ◌++◌, length, take, vec_len}
use denote.Text.{Utf8}
use denote.Shadow.{shadow}
use Rattle.unit_text.specs.Text.{units_of}
use Rattle.unit_text.proofs.utf8.push_units.Given as goal

abbrev pub invariant-loop-rest : goal.invariant-loop-rest
invariant-loop-rest l = record {
  utf8 : shadow (Utf8 l.rest);
  text : l.out.items ++ units_of l.rest ≡ l.fn.out.items ++ units_of l.fn.text;
  before : take (vec_len l.fn.out) l.out.items ≡ l.fn.out.items;
  grown : vec_len l.fn.out ≤ vec_len l.out;
}

abbrev pub decreases-loop-rest : goal.decreases-loop-rest
decreases-loop-rest l = length l.rest

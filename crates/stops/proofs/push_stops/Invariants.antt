use Rattle.std.proofs.Common.{◌≡◌, ◌+◌, ◌≤◌, ◌++◌, true, length, take, vec_len}
use Rattle.std.specs.List.{concat}
use Rattle.unicode_segmentation.specs.Grapheme.{graphemes}
use Rattle.unicode_segmentation.specs.Iter.{graphemes_left}
use Rattle.document_rules.specs.Stops.{starts_from}
use Rattle.stops.proofs.push_stops.Given as goal

abbrev pub invariant-loop-cluster : goal.invariant-loop-cluster
invariant-loop-cluster l = record {
  columns : l.out.items ++ starts_from l.column (graphemes_left l.cluster-iterator) ≡ l.fn.out.items ++ starts_from 1 (graphemes true l.text);
  within : l.column + length (concat (graphemes_left l.cluster-iterator)) ≤ 1 + length l.text;
  before : take (vec_len l.fn.out) l.out.items ≡ l.fn.out.items;
  grown : vec_len l.fn.out ≤ vec_len l.out;
}

use Rattle.std.proofs.Common.{◌≡◌, ◌≤◌, drop}
use Rattle.text_lengths.specs.Length.{length_of, length_plus}
use Rattle.text_rules.specs.Lines.{text_length}
use Rattle.line_starts.proofs.text_length.Given as goal

abbrev pub invariant-loop-at : goal.invariant-loop-at
invariant-loop-at l = record {
  so_far : length_plus (length_of l.lines l.columns) (text_length (drop l.at l.units)) ≡ text_length l.units;
  few_lines : l.lines ≤ l.at;
  few_columns : l.columns ≤ l.at;
}

use Rattle.std.proofs.Common.{◌≡◌, map, drop}
use Rattle.textmodel_c.specs.Columns.{Follow}
use Rattle.textmodel_c.specs.Rules.{all_of, bracket_in}
use Rattle.textmodel_c.proofs.JoinedTexts.{found_before}
use Rattle.textmodel_c.proofs.brackets.append_brackets.Given as goal

abbrev pub invariant-loop-entry : goal.invariant-loop-entry
invariant-loop-entry l = record {
  follows : Follow l.columns l.model.document;
  encoding : l.columns.encoding ≡ l.fn.encoding;
  found : found_before l.out.items (all_of (map (bracket_in l.model.document l.fn.encoding) (drop l.entry-index l.entries)))
      ≡ all_of (map (bracket_in l.model.document l.fn.encoding) l.fn.entries);
}

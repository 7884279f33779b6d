use Rattle.std.proofs.Common.{◌≡◌, drop}
use Rattle.textmodel_c.specs.Columns.{Follow}
use Rattle.textmodel_c.specs.Rules.{columns_in}
use Rattle.textmodel_c.proofs.JoinedTexts.{found_before}
use Rattle.textmodel_c.proofs.readings.append_columns.Given as goal

abbrev pub invariant-loop-stop : goal.invariant-loop-stop
invariant-loop-stop l = record {
  follows : Follow l.columns l.model.document;
  encoding : l.columns.encoding ≡ l.fn.encoding;
  found : found_before l.out.items (columns_in l.model.document l.fn.encoding l.fn.line (drop l.stop-index l.stops))
      ≡ columns_in l.model.document l.fn.encoding l.fn.line l.fn.stops;
}

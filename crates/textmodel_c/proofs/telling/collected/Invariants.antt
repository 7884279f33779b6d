use Rattle.std.proofs.Common.{◌≡◌, ◌++◌, length}
use Rattle.textmodel_c.specs.Tellings.{edits_in, units_in}
use Rattle.textmodel_c.proofs.telling.collected.Given as goal

abbrev pub invariant-loop-change : goal.invariant-loop-change
invariant-loop-change l = record {
  edits : edits_in l.edits.items l.texts.items ++ l.changes ≡ l.fn.changes;
  texts : units_in l.edits.items ≡ length l.texts.items;
}

abbrev pub decreases-loop-change : goal.decreases-loop-change
decreases-loop-change l = length l.changes

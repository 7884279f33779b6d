use Rattle.std.proofs.Common.{◌≡◌, take, Some}
use Rattle.serde_json.specs.View.{items_view}
use Rattle.script_lines.specs.Fields.{all_of}
use Rattle.script_lines.proofs.items.all_of.Given as goal

abbrev pub invariant-loop-value : goal.invariant-loop-value
invariant-loop-value g l = all_of g.T.Item.reads (items_view (take l.value-index l.values)) ≡ Some l.items.items

use Rattle.std.proofs.Common.{◌≡◌, drop}
use Rattle.std.specs.List.{list_any}
use Rattle.bracket_rules.specs.Table.{texts_of, same_units}
use Rattle.bracket_scan.proofs.rules.has_text.Given as goal

abbrev pub invariant-loop-pair : goal.invariant-loop-pair
invariant-loop-pair l =
    list_any (same_units l.text) (texts_of (drop l.pair-index l.pairs)) ≡ list_any (same_units l.text) (texts_of l.pairs)

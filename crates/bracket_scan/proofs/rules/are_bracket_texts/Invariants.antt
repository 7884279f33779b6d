use Rattle.std.proofs.Common.{◌≡◌, drop}
use Rattle.std.specs.List.{list_all}
use Rattle.bracket_rules.specs.Table.{texts_of, is_bracket_text}
use Rattle.bracket_scan.proofs.rules.are_bracket_texts.Given as goal

abbrev pub invariant-loop-pair : goal.invariant-loop-pair
invariant-loop-pair l =
    list_all is_bracket_text (texts_of (drop l.pair-index l.pairs)) ≡ list_all is_bracket_text (texts_of l.pairs)

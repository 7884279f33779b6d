use Rattle.std.proofs.Common.{◌≡◌, ◌<◌, ℕ, Bool, ◌||◌, length, drop}
use Rattle.std.specs.Prelude.{slice_index_or}
use Rattle.std.specs.List.{list_any}
use Rattle.bracket_rules.specs.Table.{texts_of}
use Rattle.bracket_scan.specs.declared.firsts.TheConstants.{CLASSES}
use Rattle.bracket_scan.specs.Firsts.{begins_in_class}
use Rattle.bracket_scan.proofs.firsts.firsts_of.Given as goal

abbrev pub invariant-loop-pair : goal.invariant-loop-pair
invariant-loop-pair l = record {
  all : length l.firsts.items ≡ CLASSES;
  each : (class : ℕ) (other : Bool) → class < CLASSES
      → (slice_index_or l.firsts.items class other || list_any (begins_in_class class) (texts_of (drop l.pair-index l.pairs)))
      ≡ list_any (begins_in_class class) (texts_of l.pairs);
}

use Rattle.std.proofs.Common.{◌≡◌, ◌≤◌, ◌++◌, length, take, vec_len, codes}
use Rattle.std.specs.Char.Utf16.{utf16_lossy_chars}
use Rattle.std.specs.List.{flat_map}
use Rattle.unit_text.specs.Text.{quoted_char}
use Rattle.unit_text.proofs.quote.push_quoted.Given as goal

abbrev pub invariant-loop-c : goal.invariant-loop-c
invariant-loop-c l = record {
  text : l.out.items ++ flat_map quoted_char (utf16_lossy_chars l.rest)
      ≡ (l.fn.out.items ++ codes "\"") ++ flat_map quoted_char (utf16_lossy_chars l.fn.units);
  before : take (vec_len l.fn.out) l.out.items ≡ l.fn.out.items;
  grown : vec_len l.fn.out ≤ vec_len l.out;
}

abbrev pub decreases-loop-c : goal.decreases-loop-c
decreases-loop-c l = length l.rest

use Rattle.std.proofs.Common.{◌≡◌, ◌+◌, ◌≤◌, ◌++◌, length, take, vec_len}
use Rattle.std.specs.Str.{IsUtf8}
use Rattle.std.specs.Str.Iter.{chars_rest}
use Rattle.unit_text.specs.Text.{units_of}
use Rattle.unit_text.proofs.utf8.push_characters.Given as goal

abbrev pub invariant-loop : goal.invariant-loop
invariant-loop l = record {
  utf8 : IsUtf8 (chars_rest l.chars);
  text : l.out.items ++ units_of (chars_rest l.chars) ≡ l.fn.out.items ++ units_of l.fn.text;
  shorter : length (chars_rest l.chars) + l.counter ≤ length l.fn.text;
  before : take (vec_len l.fn.out) l.out.items ≡ l.fn.out.items;
  grown : vec_len l.fn.out ≤ vec_len l.out;
}

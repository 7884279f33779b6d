use Rattle.std.proofs.Common.{◌≡◌, ◌≤◌, ◌++◌, map, take, vec_len}
use Rattle.std.specs.List.{filter}
use Rattle.decoration_rules.specs.Decorations.{deco_of, is_of}
use Rattle.decorations.proofs.set.push_owned.Given as goal

abbrev pub invariant-loop-mark : goal.invariant-loop-mark
invariant-loop-mark l = record {
  found : l.out.items ≡ l.fn.out.items ++ map deco_of (filter (is_of l.owner) (take l.mark-index l.marks));
  before : take (vec_len l.fn.out) l.out.items ≡ l.fn.out.items;
  grown : vec_len l.fn.out ≤ vec_len l.out;
}

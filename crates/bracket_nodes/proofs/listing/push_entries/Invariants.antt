-- The listed entries followed by those left are the entries of the whole.
use Rattle.std.proofs.Common.{◌≡◌, ◌++◌, All, length, take}
use Rattle.bracket_tree_rules.specs.Tree.{tree_entries}
use Rattle.bracket_nodes.specs.Seen.{seen_tree}
use Rattle.bracket_nodes.specs.Walks.{chosen}
use Rattle.bracket_nodes.specs.Listing.{all_left, all_steps, HasRoomLeft}
use Rattle.bracket_nodes.proofs.listing.push_entries.Given as goal

abbrev pub invariant-loop-next : goal.invariant-loop-next
invariant-loop-next l = record {
  listed : l.out.items ++ all_left l.lines.from l.lines.to l.left.items
      ≡ l.initial.out.items ++ chosen l.lines.from l.lines.to (tree_entries l.fn.whole.start 0 (seen_tree l.fn.whole.node));
  room : All HasRoomLeft l.left.items;
  front : take (length l.initial.out.items) l.out.items ≡ l.initial.out.items;
}

abbrev pub decreases-loop-next : goal.decreases-loop-next
decreases-loop-next l = all_steps l.left.items

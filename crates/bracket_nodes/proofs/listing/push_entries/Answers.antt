use Rattle.std.proofs.Common.{◌≡◌, ◌*◌, ◌<◌, ◌∙◌, refl, ap, arith}
use Rattle.std.proofs.lemmas.List.Elements.{All-pop}
use Rattle.bracket_tree_rules.specs.Tree.{tree_entries}
use Rattle.bracket_nodes.specs.Seen.{seen_tree}
use Rattle.bracket_nodes.specs.Shapes.{tree_size}
use Rattle.bracket_nodes.specs.Walks.{chosen}
use Rattle.bracket_nodes.specs.Listing.{entries_left, steps_left, all_steps, HasRoomLeft}
use Rattle.bracket_nodes.proofs.ListedEntries.{kept_on, kept_more, listed_on, steps_popped}
use Rattle.bracket_nodes.proofs.listing.push_entries.Goals as goal

pub loop-next-smaller-in-Continue-branch-2 : goal.loop-next-smaller-in-Continue-branch-2
loop-next-smaller-in-Continue-branch-2 c =
    let popped = steps_popped c.loop-next.left.items c.pop.new.self.items c.in-Some.next c.in-Some.ensures.items in
    let next : steps_left c.in-Some.next ≡ 2 * tree_size (seen_tree c.in-Part.here.node) = ap steps_left c.in-Part.is in
    let less : all_steps c.push_first.new.left.items < all_steps c.loop-next.left.items =
    omega (arith, c.in_ok-push_first-in-Part.ensures.fewer) in
    less

pub loop-next-preserved-in-Continue-branch-2 : goal.loop-next-preserved-in-Continue-branch-2
loop-next-preserved-in-Continue-branch-2 c =
    let from = c.args.lines.from in
    let to = c.args.lines.to in
    let next : entries_left from to c.in-Some.next
    ≡ chosen from to (tree_entries c.in-Part.here.start c.in-Part.level (seen_tree c.in-Part.here.node)) = ap (entries_left from to) c.in-Part.is in
    record {
      listed = listed_on from to c.loop-next.left.items c.push_first.new.left.items c.pop.new.self.items c.in-Some.next
          c.loop-next.out.items c.push_first.new.out.items c.in-Some.ensures.items
          (rw next c.in_ok-push_first-in-Part.ensures.listed) ∙ c.loop-next.invariant.listed;
      room = c.in_ok-push_first-in-Part.ensures.room
          (All-pop HasRoomLeft c.loop-next.left.items c.pop.new.self.items c.pop.result c.pop.ensures.items c.loop-next.invariant.room).0;
      front = kept_on c.args.out.now.items c.loop-next.out.items c.push_first.new.out.items c.loop-next.invariant.front c.push_first.ensures.front;
    }

pub loop-next-smaller : goal.loop-next-smaller
loop-next-smaller c =
    let popped = steps_popped c.loop-next.left.items c.pop.new.self.items c.in-Some.next c.in-Some.ensures.items in
    let next : steps_left c.in-Some.next ≡ 1 = ap steps_left c.in-One.is in
    let less : all_steps c.pop.new.self.items < all_steps c.loop-next.left.items = omega arith in
    less

pub loop-next-preserved : goal.loop-next-preserved
loop-next-preserved c =
    let from = c.args.lines.from in
    let to = c.args.lines.to in
    record {
      listed = listed_on from to c.loop-next.left.items c.pop.new.self.items c.pop.new.self.items c.in-Some.next
          c.loop-next.out.items c.push_if.new.out.items c.in-Some.ensures.items
          (rw (c.in_ok-push_if-in-One.ensures.ok, ap (entries_left from to) c.in-One.is) refl) ∙ c.loop-next.invariant.listed;
      room = (All-pop HasRoomLeft c.loop-next.left.items c.pop.new.self.items c.pop.result c.pop.ensures.items c.loop-next.invariant.room).0;
      front = rw c.in_ok-push_if-in-One.ensures.ok (kept_more c.args.out.now.items c.loop-next.out.items _ c.loop-next.invariant.front);
    }

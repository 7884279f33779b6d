use Rattle.std.proofs.Common.{rules, ◌≡◌, ◌+◌, ◌++◌, [], ◌∷◌, true, subst, arith}
use Rattle.text_lengths.specs.Length.{length_plus}
use Rattle.bracket_rules.specs.Parse.{bracket, spot, judged_opening}
use Rattle.bracket_tree_rules.specs.Tree.{Tree, pair, two, three, tree_length, tree_entries, inside_start, inside_end, closing_spot, closing_entries}
use Rattle.bracket_nodes.specs.Seen.{seen_tree}
use Rattle.bracket_nodes.specs.Walks.{chosen}
use Rattle.bracket_nodes.specs.Listing.{all_left}
use Rattle.bracket_nodes.proofs.ListedEntries.{some_size, listed_two, listed_three, listed_pair}
use Rattle.bracket_nodes.proofs.listing.push_first.Goals as goal

pub returns-then-end-lines-clause-fewer : goal.returns-then-end-lines-clause-fewer
returns-then-end-lines-clause-fewer c = let some = some_size (seen_tree c.args.here.node) in omega arith

pub returns-in_ok-leave-in-Two-2-clause-listed : goal.returns-in_ok-leave-in-Two-2-clause-listed
returns-in_ok-leave-in-Two-2-clause-listed c =
    let from = c.args.lines.from in
    let to = c.args.lines.to in
    let here = c.args.here in
    let a = seen_tree c.in-Two.a in
    let b = seen_tree c.in-Two.b in
    let t : two a b ≡ (seen_tree here.node) = search rules in
    let one : all_left from to c.leave-in-Two.new.left.items
    ≡ chosen from to (tree_entries (length_plus here.start (tree_length a)) c.args.level b) ++ all_left from to c.args.left.now.items =
    search (rules, c.in_ok-leave-in-Two.ensures.entries from to) in
    let both : all_left from to c.leave-in-Two-2.new.left.items
    ≡ chosen from to (tree_entries here.start c.args.level a) ++ all_left from to c.leave-in-Two.new.left.items =
    search (rules, c.in_ok-leave-in-Two-2.ensures.entries from to) in
    subst (λ (x : Tree). c.args.out.now.items ++ all_left from to c.leave-in-Two-2.new.left.items
    ≡ (c.args.out.now.items ++ chosen from to (tree_entries here.start c.args.level x)) ++ all_left from to c.args.left.now.items) t
    (listed_two from to here.start c.args.level a b c.args.out.now.items (all_left from to c.args.left.now.items) _ _ one both)

pub returns-in_ok-leave-in-Three-3-clause-listed : goal.returns-in_ok-leave-in-Three-3-clause-listed
returns-in_ok-leave-in-Three-3-clause-listed c =
    let from = c.args.lines.from in
    let to = c.args.lines.to in
    let here = c.args.here in
    let a = seen_tree c.in-Three.a in
    let b = seen_tree c.in-Three.b in
    let d = seen_tree c.in-Three.c in
    let second = length_plus here.start (tree_length a) in
    let t : three a b d ≡ (seen_tree here.node) = search rules in
    let one : all_left from to c.leave-in-Three.new.left.items
    ≡ chosen from to (tree_entries (length_plus second (tree_length b)) c.args.level d) ++ all_left from to c.args.left.now.items =
    search (rules, c.in_ok-leave-in-Three.ensures.entries from to) in
    let both : all_left from to c.leave-in-Three-2.new.left.items
    ≡ chosen from to (tree_entries second c.args.level b) ++ all_left from to c.leave-in-Three.new.left.items =
    search (rules, c.in_ok-leave-in-Three-2.ensures.entries from to) in
    let all : all_left from to c.leave-in-Three-3.new.left.items
    ≡ chosen from to (tree_entries here.start c.args.level a) ++ all_left from to c.leave-in-Three-2.new.left.items =
    search (rules, c.in_ok-leave-in-Three-3.ensures.entries from to) in
    subst (λ (x : Tree). c.args.out.now.items ++ all_left from to c.leave-in-Three-3.new.left.items
    ≡ (c.args.out.now.items ++ chosen from to (tree_entries here.start c.args.level x)) ++ all_left from to c.args.left.now.items) t
    (listed_three from to here.start c.args.level a b d c.args.out.now.items (all_left from to c.args.left.now.items) _ _ _ one both all)

pub returns-in_ok-leave-in-Three-3-clause-room : goal.returns-in_ok-leave-in-Three-3-clause-room
returns-in_ok-leave-in-Three-3-clause-room c = λ h.
    c.in_ok-leave-in-Three-3.ensures.room (c.in_ok-leave-in-Three-2.ensures.room (c.in_ok-leave-in-Three.ensures.room h))

pub returns-in_ok-leave-in-Pair-clause-listed : goal.returns-in_ok-leave-in-Pair-clause-listed
returns-in_ok-leave-in-Pair-clause-listed c =
    let from = c.args.lines.from in
    let to = c.args.lines.to in
    let here = c.args.here in
    let m = c.in-Pair in
    let i = seen_tree m.inside in
    let k = m.kind in
    let t : pair k m.opening i m.closing ≡ (seen_tree here.node) = search rules in
    let first : c.push_if.new.out.items
    ≡ c.args.out.now.items ++ chosen from to (judged_opening (bracket here.start m.opening k true) c.args.level (closing_spot (inside_end here.start m.opening i) m.closing) ∷ []) =
    rw (← c.opening_entry.ensures (inside_end here.start m.opening i)) c.in_ok-push_if-in-Pair.ensures.ok in
    let one : all_left from to c.leave_closing.new.left.items
    ≡ chosen from to (closing_entries (inside_end here.start m.opening i) k c.args.level m.closing (spot here.start m.opening)) ++ all_left from to c.args.left.now.items =
    search (rules, c.in_ok-leave_closing-in-Pair.ensures.entries (spot here.start m.opening) from to) in
    let both : all_left from to c.leave.new.left.items
    ≡ chosen from to (tree_entries (inside_start here.start m.opening) (c.args.level + 1) i) ++ all_left from to c.leave_closing.new.left.items =
    search (rules, c.in_ok-leave-in-Pair.ensures.entries from to) in
    subst (λ (x : Tree). c.push_if.new.out.items ++ all_left from to c.leave.new.left.items
    ≡ (c.args.out.now.items ++ chosen from to (tree_entries here.start c.args.level x)) ++ all_left from to c.args.left.now.items) t
    (listed_pair from to here.start c.args.level k m.opening i m.closing c.args.out.now.items (all_left from to c.args.left.now.items) _ _ _ first one both)

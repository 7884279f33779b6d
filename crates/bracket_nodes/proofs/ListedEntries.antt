-- Entries listed step by step.
use Rattle.std.proofs.Common.{◌≡◌, ℕ, ◌+◌, ◌<◌, ◌≤◌, true, Option, List, [], ◌∷◌, ◌++◌, length, take, refl, ap, sym, ◌∙◌, arith, append_assoc}
use Rattle.std.proofs.lemmas.List.{append-nil, take-append-le, take-take, take_all, length-take}
use Rattle.text_lengths.specs.declared.Length.{Length}
use Rattle.text_lengths.specs.Length.{length_plus}
use Rattle.bracket_rules.specs.declared.Entry.{Entry}
use Rattle.bracket_rules.specs.Parse.{bracket, spot, judged_opening}
use Rattle.bracket_tree_rules.specs.Tree.{Tree, text, pair, stray, capped, nothing, two, three, tree_length, tree_entries, inside_start, inside_end, closing_spot, closing_entries}
use Rattle.bracket_nodes.specs.Shapes.{tree_size}
use Rattle.bracket_nodes.specs.Walks.{chosen}
use Rattle.bracket_nodes.specs.declared.listing.Left.{Left}
use Rattle.bracket_nodes.specs.Listing.{entries_left, all_left, steps_left, all_steps}
use Rattle.bracket_nodes.proofs.EntryWalk.{chosen_of_two, chosen_of_pair}

pub some_size : (t : Tree) → 0 < tree_size t
some_size (text l) = omega arith
some_size (pair k o i c) = omega arith
some_size (stray k w) = omega arith
some_size (capped k w) = omega arith
some_size nothing = omega arith
some_size (two a b) = omega arith
some_size (three a b c) = omega arith

-- the last element is listed first
pub all_left-push : (from to : ℕ) (xs : List Left) (x : Left) → all_left from to (xs ++ x ∷ []) ≡ entries_left from to x ++ all_left from to xs
all_left-push from to [] x = sym (append-nil (entries_left from to x))
all_left-push from to (y ∷ ys) x =
    ap (λ (e : List Entry). e ++ entries_left from to y) (all_left-push from to ys x)
    ∙ append_assoc (entries_left from to x) (all_left from to ys) (entries_left from to y)

pub all_steps-push : (xs : List Left) (x : Left) → all_steps (xs ++ x ∷ []) ≡ steps_left x + all_steps xs
all_steps-push [] x = refl
all_steps-push (y ∷ ys) x = let rest = all_steps-push ys x in omega arith

-- the listed entries, and those left of the list before the rest
pub listed_two : (from to : ℕ) (q : Length) (level : ℕ) (a b : Tree) (items rest one both : List Entry)
    → one ≡ chosen from to (tree_entries (length_plus q (tree_length a)) level b) ++ rest
    → both ≡ chosen from to (tree_entries q level a) ++ one
    → items ++ both ≡ (items ++ chosen from to (tree_entries q level (two a b))) ++ rest
listed_two from to q level a b items rest one both e f =
    let first : List Entry = chosen from to (tree_entries q level a) in
    let second : List Entry = chosen from to (tree_entries (length_plus q (tree_length a)) level b) in
    ap (λ (x : List Entry). items ++ x) (f ∙ ap (λ (x : List Entry). first ++ x) e)
    ∙ sym (append_assoc items first (second ++ rest))
    ∙ sym (append_assoc (items ++ first) second rest)
    ∙ ap (λ (x : List Entry). x ++ rest) (sym (chosen_of_two from to q level a b items))

pub listed_three : (from to : ℕ) (q : Length) (level : ℕ) (a b c : Tree) (items rest one both all : List Entry)
    → one ≡ chosen from to (tree_entries (length_plus (length_plus q (tree_length a)) (tree_length b)) level c) ++ rest
    → both ≡ chosen from to (tree_entries (length_plus q (tree_length a)) level b) ++ one
    → all ≡ chosen from to (tree_entries q level a) ++ both
    → items ++ all ≡ (items ++ chosen from to (tree_entries q level (three a b c))) ++ rest
listed_three from to q level a b c items rest one both all e f g =
    let first : List Entry = chosen from to (tree_entries q level a) in
    let s : Length = length_plus q (tree_length a) in
    ap (λ (x : List Entry). items ++ x) g
    ∙ sym (append_assoc items first both)
    ∙ listed_two from to s level b c (items ++ first) rest one both e f
    ∙ ap (λ (x : List Entry). x ++ rest) (sym (chosen_of_two from to q level a (two b c) items))

pub listed_pair : (from to : ℕ) (q : Length) (level k o : ℕ) (i : Tree) (c : Option ℕ) (items rest one both first : List Entry)
    → first ≡ items ++ chosen from to (judged_opening (bracket q o k true) level (closing_spot (inside_end q o i) c) ∷ [])
    → one ≡ chosen from to (closing_entries (inside_end q o i) k level c (spot q o)) ++ rest
    → both ≡ chosen from to (tree_entries (inside_start q o) (level + 1) i) ++ one
    → first ++ both ≡ (items ++ chosen from to (tree_entries q level (pair k o i c))) ++ rest
listed_pair from to q level k o i c items rest one both first d e f =
    let opened : List Entry = items ++ chosen from to (judged_opening (bracket q o k true) level (closing_spot (inside_end q o i) c) ∷ []) in
    let inside : List Entry = chosen from to (tree_entries (inside_start q o) (level + 1) i) in
    let last : List Entry = chosen from to (closing_entries (inside_end q o i) k level c (spot q o)) in
    ap (λ (x : List Entry). x ++ both) d
    ∙ ap (λ (x : List Entry). opened ++ x) (f ∙ ap (λ (x : List Entry). inside ++ x) e)
    ∙ sym (append_assoc opened inside (last ++ rest))
    ∙ sym (append_assoc (opened ++ inside) last rest)
    ∙ ap (λ (x : List Entry). x ++ rest) (sym (chosen_of_pair from to q level k o i c items))

-- the old entries stay a prefix
pub kept_on : (old mid new : List Entry) → take (length old) mid ≡ old → take (length mid) new ≡ mid → take (length old) new ≡ old
kept_on old mid new h k =
    let fits : length old ≤ length mid = omega (arith, ap length h, length-take (length old) mid) in
    sym (take-take (length old) (length mid) new fits) ∙ ap (take (length old)) k ∙ h

pub kept_more : (old mid more : List Entry) → take (length old) mid ≡ old → take (length old) (mid ++ more) ≡ old
kept_more old mid more h =
    kept_on old mid (mid ++ more) h (take-append-le (length mid) mid more (omega arith) ∙ take_all (length mid) mid (omega arith))

-- the last element was listed before those left after it
pub listed_on : (from to : ℕ) (before after rest : List Left) (x : Left) (items now : List Entry) → before ≡ rest ++ x ∷ []
    → now ++ all_left from to after ≡ (items ++ entries_left from to x) ++ all_left from to rest
    → now ++ all_left from to after ≡ items ++ all_left from to before
listed_on from to before after rest x items now e h =
    h ∙ append_assoc items (entries_left from to x) (all_left from to rest)
    ∙ ap (λ (l : List Entry). items ++ l) (sym (ap (all_left from to) e ∙ all_left-push from to rest x))

pub steps_popped : (before rest : List Left) (x : Left) → before ≡ rest ++ x ∷ [] → all_steps before ≡ steps_left x + all_steps rest
steps_popped before rest x e = ap all_steps e ∙ all_steps-push rest x

pub ruleset pushes = (all_left-push, all_steps-push)

-- A node or bracket found in the part that holds a place is found in the tree; if no part holds the place, none is
-- found.
use Rattle.std.proofs.Common.{◌≡◌, ◌≢◌, ℕ, ◌+◌, ◌<◌, ◌≤◌, ◌^◌, true, false, Option, ◌++◌, refl, ap, sym, ◌∙◌, subst, arith, inl, inr}
use Rattle.std.proofs.lemmas.Bool.Decides.{nat_tests}
use Rattle.text_lengths.specs.declared.Length.{Length}
use Rattle.text_lengths.specs.Length.{no_length, length_plus, is_before}
use Rattle.bracket_rules.specs.declared.Token.{Token}
use Rattle.bracket_rules.specs.Parse.{Bracket}
use Rattle.bracket_tree_rules.specs.Tree.{Tree, text, pair, stray, capped, nothing, two, three, wide, width_of, tree_length, tree_tokens, closing_brackets, inside_start, inside_end, weight, is_nothing, IsTree}
use Rattle.bracket_tree_rules.specs.Places.{IsHere, HasNode, HasBracket, NoneMayBeTaken}
use Rattle.bracket_tree_rules.specs.Found.{IsTakenHere, IsNodeFound, NoBracketAt, IsBracketFound}
use Rattle.bracket_tree_rules.specs.Parts.{Holds, IsPart, NoPartHolds, NoOwnBracketAt, IsShown}
use Rattle.bracket_tree_rules.proofs.Weights.{plus_within, length_within}
use Rattle.bracket_tree_rules.proofs.Places.{IsAmong-append}
use Rattle.bracket_tree_rules.proofs.Levels.{not_before_later, not_before_itself}
use Rattle.bracket_tree_rules.proofs.Longest.{before_more, not_before_front, not_both, before_pair_end, before_two_end, before_three_end, node_from, node_ends, not_here, node_inside, node_in_first, node_in_second, node_in_first_of_three, node_in_second_of_three, node_in_third_of_three}
use Rattle.bracket_tree_rules.proofs.BracketAt.{bracket_from, bracket_ends, before_wide, lone_apart, closing_apart, bracket_inside, bracket_in_first, bracket_in_second, bracket_in_first_of_three, bracket_in_second_of_three, bracket_in_third_of_three}

-- ---- what is here

-- a property of the tree at its place holds for a node equal to it there, and conversely
of_here : (P : Length → Tree → Type 0) (p : Length) (t : Tree) (r : Length) (n : Tree) → IsHere p t r n → P p t → P r n
of_here P p t r n here h = subst (λ (x : Length). P x n) (sym here.place) (subst (P p) (sym here.node) h)

pub by_here : (P : Length → Tree → Type 0) (p : Length) (t : Tree) (r : Length) (n : Tree) → IsHere p t r n → P r n → P p t
by_here P p t r n here h = subst (λ (x : Length). P x t) here.place (subst (P r) here.node h)

pub here : (p : Length) (t : Tree) → IsHere p t p t
here p t = record { node = refl; place = refl }

pub held_here : (q p : Length) (t : Tree) (r : Length) (n : Tree) → IsHere p t r n → Holds r n q → Holds p t q
held_here q p t r n is h = by_here (λ (x : Length) (y : Tree). Holds x y q) p t r n is h

-- ---- where parts start and end

start_of_part : (p : Length) (t : Tree) (r : Length) (part : Tree) → IsHere p t r part → is_before r p ≡ false
start_of_part p t r part is = ap (λ (x : Length). is_before x p) is.place ∙ not_before_itself p

-- no part starts before the tree
part_starts : (p : Length) (t : Tree) (r : Length) (part : Tree) → IsPart p t r part → is_before r p ≡ false
part_starts p (text l) r part none = elim none [ ]
part_starts p (pair k o i c) r part is =
    not_before_front r p (wide o) (start_of_part (inside_start p o) i r part is)
part_starts p (stray k w) r part none = elim none [ ]
part_starts p (capped k w) r part none = elim none [ ]
part_starts p nothing r part none = elim none [ ]
part_starts p (two a b) r part (inl is) = start_of_part p a r part is
part_starts p (two a b) r part (inr is) =
    not_before_front r p (tree_length a) (start_of_part (length_plus p (tree_length a)) b r part is)
part_starts p (three a b c) r part (inl is) = start_of_part p a r part is
part_starts p (three a b c) r part (inr (inl is)) =
    not_before_front r p (tree_length a) (start_of_part (length_plus p (tree_length a)) b r part is)
part_starts p (three a b c) r part (inr (inr is)) =
    let s = length_plus p (tree_length a) in
    not_before_front r p (tree_length a) (not_before_front r s (tree_length b)
    (start_of_part (length_plus s (tree_length b)) c r part is))

-- a place that a part holds is before the end of the tree
part_ends : (q p : Length) (t : Tree) (r : Length) (part : Tree) → IsPart p t r part → Holds r part q
    → is_before q (length_plus p (tree_length t)) ≡ true
part_ends q p (text l) r part none h = elim none [ ]
part_ends q p (pair k o i c) r part is h =
    before_pair_end q p k o i c (before_more q (inside_end p o i) (wide (width_of c)) (held_here q (inside_start p o) i r part is h).ends)
part_ends q p (stray k w) r part none h = elim none [ ]
part_ends q p (capped k w) r part none h = elim none [ ]
part_ends q p nothing r part none h = elim none [ ]
part_ends q p (two a b) r part (inl is) h =
    before_two_end q p a b (before_more q (length_plus p (tree_length a)) (tree_length b) (held_here q p a r part is h).ends)
part_ends q p (two a b) r part (inr is) h =
    before_two_end q p a b (held_here q (length_plus p (tree_length a)) b r part is h).ends
part_ends q p (three a b c) r part (inl is) h =
    let s = length_plus p (tree_length a) in
    before_three_end q p a b c
    (before_more q (length_plus s (tree_length b)) (tree_length c) (before_more q s (tree_length b) (held_here q p a r part is h).ends))
part_ends q p (three a b c) r part (inr (inl is)) h =
    let s = length_plus p (tree_length a) in
    before_three_end q p a b c
    (before_more q (length_plus s (tree_length b)) (tree_length c) (held_here q s b r part is h).ends)
part_ends q p (three a b c) r part (inr (inr is)) h =
    before_three_end q p a b c (held_here q (length_plus (length_plus p (tree_length a)) (tree_length b)) c r part is h).ends

-- the tree holds every place that a part of it holds
pub part_held : (q p : Length) (t : Tree) (r : Length) (part : Tree) → IsPart p t r part → Holds r part q → Holds p t q
part_held q p t r part is h = record {
  from = not_before_later p r q (part_starts p t r part is) h.from;
  ends = part_ends q p t r part is h;
}

within_here : (p : Length) (t : Tree) (r : Length) (part : Tree) (most : ℕ) → IsHere p t r part → p.lines + p.columns + weight t ≤ most
    → r.lines + r.columns + weight part ≤ most
within_here p t r part most is h = of_here (λ (x : Length) (y : Tree). x.lines + x.columns + weight y ≤ most) p t r part is h

-- place and weight of a part together are at most those of the tree
pub part_within : (p : Length) (t : Tree) (r : Length) (part : Tree) → IsPart p t r part
    → r.lines + r.columns + weight part ≤ p.lines + p.columns + weight t
part_within p (text l) r part none = elim none [ ]
part_within p (pair k o i c) r part is =
    let most : ℕ = p.lines + p.columns + (o + (weight i + width_of c)) in
    let start = plus_within p (wide o) in
    within_here (inside_start p o) i r part most is (omega arith)
part_within p (stray k w) r part none = elim none [ ]
part_within p (capped k w) r part none = elim none [ ]
part_within p nothing r part none = elim none [ ]
part_within p (two a b) r part (inl is) = within_here p a r part (p.lines + p.columns + (weight a + weight b)) is (omega arith)
part_within p (two a b) r part (inr is) =
    let start = plus_within p (tree_length a) in
    let first = length_within a in
    within_here (length_plus p (tree_length a)) b r part (p.lines + p.columns + (weight a + weight b)) is (omega arith)
part_within p (three a b c) r part (inl is) =
    within_here p a r part (p.lines + p.columns + (weight a + (weight b + weight c))) is (omega arith)
part_within p (three a b c) r part (inr (inl is)) =
    let start = plus_within p (tree_length a) in
    let first = length_within a in
    within_here (length_plus p (tree_length a)) b r part (p.lines + p.columns + (weight a + (weight b + weight c))) is (omega arith)
part_within p (three a b c) r part (inr (inr is)) =
    let start = plus_within p (tree_length a) in
    let next = plus_within (length_plus p (tree_length a)) (tree_length b) in
    let first = length_within a in
    let second = length_within b in
    within_here (length_plus (length_plus p (tree_length a)) (tree_length b)) c r part
    (p.lines + p.columns + (weight a + (weight b + weight c))) is (omega arith)

-- ---- nodes

node_by_here : (p : Length) (t : Tree) (r : Length) (part : Tree) (q : Length) (lines kinds level : ℕ) (found : Option Tree)
    → IsHere p t r part → IsNodeFound r part q lines kinds level found → IsNodeFound p t q lines kinds level found
node_by_here p t r part q lines kinds level found is h =
    by_here (λ (x : Length) (y : Tree). IsNodeFound x y q lines kinds level found) p t r part is h

pub node_in_part : (p : Length) (t : Tree) (r : Length) (part : Tree) (q : Length) (lines kinds level : ℕ) (found : Option Tree)
    → IsTree t → IsPart p t r part → Holds r part q → (IsTakenHere p t q lines kinds level → ⊥)
    → IsNodeFound r part q lines kinds level found → IsNodeFound p t q lines kinds level found
node_in_part p (text l) r part q lines kinds level found tree no_part holds none h = elim no_part [ ]
node_in_part p (pair k o i c) r part q lines kinds level found tree is holds none h =
    node_inside p k o i c q lines kinds level found none
    (node_by_here (inside_start p o) i r part q lines kinds level found is h)
node_in_part p (stray k w) r part q lines kinds level found tree no_part holds none h = elim no_part [ ]
node_in_part p (capped k w) r part q lines kinds level found tree no_part holds none h = elim no_part [ ]
node_in_part p nothing r part q lines kinds level found tree no_part holds none h = elim no_part [ ]
node_in_part p (two a b) r part q lines kinds level found tree (inl is) holds none h =
    node_in_first p a b q lines kinds level found none (held_here q p a r part is holds).ends
    (node_by_here p a r part q lines kinds level found is h)
node_in_part p (two a b) r part q lines kinds level found tree (inr is) holds none h =
    let s = length_plus p (tree_length a) in
    node_in_second p a b q lines kinds level found none tree.1.0 (held_here q s b r part is holds).from
    (node_by_here s b r part q lines kinds level found is h)
node_in_part p (three a b c) r part q lines kinds level found tree (inl is) holds none h =
    node_in_first_of_three p a b c q lines kinds level found none (held_here q p a r part is holds).ends
    (node_by_here p a r part q lines kinds level found is h)
node_in_part p (three a b c) r part q lines kinds level found tree (inr (inl is)) holds none h =
    let s = length_plus p (tree_length a) in
    let held : Holds s b q = held_here q s b r part is holds in
    node_in_second_of_three p a b c q lines kinds level found none tree.1.0 held.from held.ends
    (node_by_here s b r part q lines kinds level found is h)
node_in_part p (three a b c) r part q lines kinds level found tree (inr (inr is)) holds none h =
    let s = length_plus p (tree_length a) in
    let u = length_plus s (tree_length b) in
    let held : Holds u c q = held_here q u c r part is holds in
    node_in_third_of_three p a b c q lines kinds level found none tree.1.0 tree.1.1.0
    (not_before_front q s (tree_length b) held.from) held.from
    (node_by_here u c r part q lines kinds level found is h)

held_by_node : (p : Length) (t : Tree) (q : Length) (n : Tree) → IsTree t → is_nothing n ≡ false → HasNode p t q n → Holds p t q
held_by_node p t q n tree some there = record { from = node_from p t q n there; ends = node_ends p t q n tree some there }

pub no_node_here : (p : Length) (t : Tree) (q : Length) (lines kinds level : ℕ) → IsTree t → NoPartHolds p t q
    → (IsTakenHere p t q lines kinds level → ⊥) → NoneMayBeTaken p t q lines kinds level
no_node_here p (text l) q lines kinds level tree apart none n is taken = not_here p (text l) q lines kinds level n none is taken
no_node_here p (pair k o i c) q lines kinds level tree apart none n (inl is) taken =
    not_here p (pair k o i c) q lines kinds level n none is taken
no_node_here p (pair k o i c) q lines kinds level tree apart none n (inr there) taken =
    let start = inside_start p o in apart start i (here start i) (held_by_node start i q n tree.1 taken.some there)
no_node_here p (stray k w) q lines kinds level tree apart none n is taken = not_here p (stray k w) q lines kinds level n none is taken
no_node_here p (capped k w) q lines kinds level tree apart none n is taken = not_here p (capped k w) q lines kinds level n none is taken
no_node_here p nothing q lines kinds level tree apart none n is taken = not_here p nothing q lines kinds level n none is taken
no_node_here p (two a b) q lines kinds level tree apart none n (inl is) taken = not_here p (two a b) q lines kinds level n none is taken
no_node_here p (two a b) q lines kinds level tree apart none n (inr (inl there)) taken =
    apart p a (inl (here p a)) (held_by_node p a q n tree.1.0 taken.some there)
no_node_here p (two a b) q lines kinds level tree apart none n (inr (inr there)) taken =
    let s = length_plus p (tree_length a) in apart s b (inr (here s b)) (held_by_node s b q n tree.1.1 taken.some there)
no_node_here p (three a b c) q lines kinds level tree apart none n (inl is) taken =
    not_here p (three a b c) q lines kinds level n none is taken
no_node_here p (three a b c) q lines kinds level tree apart none n (inr (inl there)) taken =
    apart p a (inl (here p a)) (held_by_node p a q n tree.1.0 taken.some there)
no_node_here p (three a b c) q lines kinds level tree apart none n (inr (inr (inl there))) taken =
    let s = length_plus p (tree_length a) in apart s b (inr (inl (here s b))) (held_by_node s b q n tree.1.1.0 taken.some there)
no_node_here p (three a b c) q lines kinds level tree apart none n (inr (inr (inr there))) taken =
    let u = length_plus (length_plus p (tree_length a)) (tree_length b) in
    apart u c (inr (inr (here u c))) (held_by_node u c q n tree.1.1.1 taken.some there)

-- ---- brackets

bracket_by_here : (p : Length) (t : Tree) (r : Length) (part : Tree) (q : Length) (found : Option Token)
    → IsHere p t r part → IsBracketFound r part q found → IsBracketFound p t q found
bracket_by_here p t r part q found is h =
    by_here (λ (x : Length) (y : Tree). IsBracketFound x y q found) p t r part is h

pub opening_apart : (p q : Length) (o : ℕ) → 0 < o → is_before q (inside_start p o) ≡ false → p ≢ q
opening_apart p q o some h same =
    not_both (is_before q (inside_start p o)) (ap (λ (x : Length). is_before x (inside_start p o)) (sym same) ∙ before_wide p o some) h

pub end_apart : (p q : Length) → is_before q p ≡ true → p ≢ q
end_apart p q h same = not_both (is_before q p) h (ap (is_before q) same ∙ not_before_itself q)

pub bracket_in_part : (p : Length) (t : Tree) (r : Length) (part : Tree) (q : Length) (found : Option Token)
    → IsTree t → IsPart p t r part → Holds r part q → IsBracketFound r part q found → IsBracketFound p t q found
bracket_in_part p (text l) r part q found tree no_part holds h = elim no_part [ ]
bracket_in_part p (pair k o i c) r part q found tree is holds h =
    let start = inside_start p o in
    let held : Holds start i q = held_here q start i r part is holds in
    bracket_inside p q k o i c found (opening_apart p q o tree.0.opening held.from) (inr (end_apart (inside_end p o i) q held.ends))
    (bracket_by_here start i r part q found is h)
bracket_in_part p (stray k w) r part q found tree no_part holds h = elim no_part [ ]
bracket_in_part p (capped k w) r part q found tree no_part holds h = elim no_part [ ]
bracket_in_part p nothing r part q found tree no_part holds h = elim no_part [ ]
bracket_in_part p (two a b) r part q found tree (inl is) holds h =
    bracket_in_first p a b q found (held_here q p a r part is holds).ends (bracket_by_here p a r part q found is h)
bracket_in_part p (two a b) r part q found tree (inr is) holds h =
    let s = length_plus p (tree_length a) in
    bracket_in_second p a b q found tree.1.0 (held_here q s b r part is holds).from (bracket_by_here s b r part q found is h)
bracket_in_part p (three a b c) r part q found tree (inl is) holds h =
    bracket_in_first_of_three p a b c q found (held_here q p a r part is holds).ends (bracket_by_here p a r part q found is h)
bracket_in_part p (three a b c) r part q found tree (inr (inl is)) holds h =
    let s = length_plus p (tree_length a) in
    let held : Holds s b q = held_here q s b r part is holds in
    bracket_in_second_of_three p a b c q found tree.1.0 held.from held.ends (bracket_by_here s b r part q found is h)
bracket_in_part p (three a b c) r part q found tree (inr (inr is)) holds h =
    let s = length_plus p (tree_length a) in
    let u = length_plus s (tree_length b) in
    let held : Holds u c q = held_here q u c r part is holds in
    bracket_in_third_of_three p a b c q found tree.1.0 tree.1.1.0 (not_before_front q s (tree_length b) held.from) held.from
    (bracket_by_here u c r part q found is h)

held_by_bracket : (p : Length) (t : Tree) (q : Length) (b : Bracket) → IsTree t → HasBracket p t b → b.place ≡ q → Holds p t q
held_by_bracket p t q b tree there same =
    subst (Holds p t) same (record { from = bracket_from p t b there; ends = bracket_ends p t b tree there })

pub no_bracket_here : (p : Length) (t : Tree) (q : Length) → IsTree t → NoPartHolds p t q → NoOwnBracketAt p t q → NoBracketAt p t q
no_bracket_here p (text l) q tree apart own b none same = elim none [ ]
no_bracket_here p (pair k o i c) q tree apart own b (inl first) same =
    own.0 (sym (ap (λ (x : Bracket). x.place) first) ∙ same)
no_bracket_here p (pair k o i c) q tree apart own b (inr later) same =
    let start = inside_start p o in
    elim (IsAmong-append b (tree_tokens start i) (closing_brackets (inside_end p o i) k c) later) [
      | inl there ↦ apart start i (here start i) (held_by_bracket start i q b tree.1 there same)
      | inr last ↦ closing_apart (inside_end p o i) q k c b own.1 last same
    ]
no_bracket_here p (stray k w) q tree apart own b there same = lone_apart p q w k false b own there same
no_bracket_here p (capped k w) q tree apart own b there same = lone_apart p q w k true b own there same
no_bracket_here p nothing q tree apart own b none same = elim none [ ]
no_bracket_here p (two x y) q tree apart own b there same =
    let s = length_plus p (tree_length x) in
    elim (IsAmong-append b (tree_tokens p x) (tree_tokens s y) there) [
      | inl in_x ↦ apart p x (inl (here p x)) (held_by_bracket p x q b tree.1.0 in_x same)
      | inr in_y ↦ apart s y (inr (here s y)) (held_by_bracket s y q b tree.1.1 in_y same)
    ]
no_bracket_here p (three x y z) q tree apart own b there same =
    let s = length_plus p (tree_length x) in
    let u = length_plus s (tree_length y) in
    elim (IsAmong-append b (tree_tokens p x) (tree_tokens s y ++ tree_tokens u z) there) [
      | inl in_x ↦ apart p x (inl (here p x)) (held_by_bracket p x q b tree.1.0 in_x same)
      | inr later ↦ elim (IsAmong-append b (tree_tokens s y) (tree_tokens u z) later) [
        | inl in_y ↦ apart s y (inr (inl (here s y))) (held_by_bracket s y q b tree.1.1.0 in_y same)
        | inr in_z ↦ apart u z (inr (inr (here u z))) (held_by_bracket u z q b tree.1.1.1 in_z same)
      ]
    ]

-- ---- the whole

pub whole_shown : (t : Tree) → weight t < 2 ^ 64 → IsShown t no_length t
whole_shown t light = record {
  light = omega arith;
  nodes = λ q after holds lines kinds level found h. h;
  brackets = λ q holds found h. h;
}

started : (p r q : Length) → is_before r p ≡ false → is_before r q ≡ true → is_before p q ≡ true
started p r q h k = grind (arith, nat_tests)

not_taken_after : (p q : Length) (t : Tree) (lines kinds level : ℕ) → is_before p q ≡ true → IsTakenHere p t q lines kinds level → ⊥
not_taken_after p q t lines kinds level h taken =
    not_both (is_before p q) h (ap (λ (x : Length). is_before x q) taken.0 ∙ not_before_itself q)

pub part_shown : (whole : Tree) (p : Length) (t : Tree) (r : Length) (part : Tree) → IsTree t → IsShown whole p t → IsPart p t r part
    → IsShown whole r part
part_shown whole p t r part tree shown is = record {
  light = let within = part_within p t r part is in let light = shown.light in omega arith;
  nodes = λ q after holds lines kinds level found h.
      let before : is_before p q ≡ true = started p r q (part_starts p t r part is) after in
      shown.nodes q before (part_held q p t r part is holds) lines kinds level found
      (node_in_part p t r part q lines kinds level found tree is holds (not_taken_after p q t lines kinds level before) h);
  brackets = λ q holds found h.
      shown.brackets q (part_held q p t r part is holds) found (bracket_in_part p t r part q found tree is holds h);
}

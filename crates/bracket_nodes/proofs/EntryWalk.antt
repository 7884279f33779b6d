-- The walk down to the entries of some lines: a part before or after these lines has no entry in them.
use Rattle.std.proofs.Common.{◌≡◌, ℕ, suc, ◌+◌, ◌<◌, ◌≤◌, Bool, true, false, cond, ◌&&◌, leb, Option, List, [], ◌∷◌, ◌++◌, length, take, refl, ap, sym, ◌∙◌, arith, append_assoc, add-one}
use Rattle.std.specs.List.{filter}
use Rattle.std.proofs.lemmas.Bool.Decides.{nat_tests}
use Rattle.std.proofs.lemmas.List.{append-nil, take-append-le, take-take, take_all, length-append}
use Rattle.std.proofs.lemmas.List.Elements.{filter-append}
use Rattle.text_lengths.specs.declared.Length.{Length}
use Rattle.text_lengths.specs.Length.{length_plus}
use Rattle.bracket_rules.specs.declared.Entry.{Entry}
use Rattle.bracket_rules.specs.Parse.{bracket, spot, Judged, judged_opening, entries_of, is_between}
use Rattle.bracket_tree_rules.specs.Tree.{Tree, pair, two, three, tree_length, inside_start, inside_end, closing_spot, closing_entries, tree_entries, IsTree}
use Rattle.bracket_nodes.specs.Walks.{chosen, entry_if}
use Rattle.bracket_nodes.proofs.EntryPlaces.{EachPlace, each_later, each_earlier}

entries_of-append : (xs ys : List Judged) → entries_of (xs ++ ys) ≡ entries_of xs ++ entries_of ys
entries_of-append [] ys = refl
entries_of-append (x ∷ xs) ys = ap (λ (z : List Entry). x.entry ∷ z) (entries_of-append xs ys)

pub chosen-append : (from to : ℕ) (xs ys : List Judged) → chosen from to (xs ++ ys) ≡ chosen from to xs ++ chosen from to ys
chosen-append from to xs ys =
    ap (filter (is_between from to)) (entries_of-append xs ys) ∙ filter-append (is_between from to) (entries_of xs) (entries_of ys)

-- an entry at this place does not start in these lines
abbrev IsOutside : ℕ → ℕ → Length → Type 0
IsOutside from to place = (leb from place.lines && leb place.lines to) ≡ false

chosen-none : (from to : ℕ) (js : List Judged) → EachPlace (IsOutside from to) js → chosen from to js ≡ []
chosen-none from to [] h = refl
chosen-none from to (j ∷ js) h =
    ap (λ (b : Bool). cond b (j.entry ∷ chosen from to js) (chosen from to js)) h.0 ∙ chosen-none from to js h.1

later_lines : (from to n : ℕ) → to < n → (leb from n && leb n to) ≡ false
later_lines from to n h = grind (arith, nat_tests)

earlier_lines : (from to n : ℕ) → n < from → (leb from n && leb n to) ≡ false
earlier_lines from to n h = grind (arith, nat_tests)

none_later : (from to : ℕ) (q : Length) (level : ℕ) (t : Tree) → to < q.lines → EachPlace (IsOutside from to) (tree_entries q level t)
none_later from to q level t h =
    each_later (λ (x : Length). to < x.lines) (IsOutside from to)
    (λ (x l : Length) (e : to < x.lines). omega arith) (λ (x : Length) (e : to < x.lines). later_lines from to x.lines e) q level t h

none_earlier : (from to : ℕ) (q : Length) (level : ℕ) (t : Tree) → IsTree t → (length_plus q (tree_length t)).lines < from
    → EachPlace (IsOutside from to) (tree_entries q level t)
none_earlier from to q level t h e =
    each_earlier (λ (x : Length). x.lines < from) (IsOutside from to)
    (λ (x l : Length) (f : x.lines + l.lines < from). omega arith)
    (λ (x : Length) (w : ℕ) (some : 0 < w) (f : x.lines + 0 < from). earlier_lines from to x.lines (omega arith)) q level t h e

-- ---- what a walk appends

pub chosen_later : (from to : ℕ) (q : Length) (level : ℕ) (t : Tree) (items : List Entry) → to < q.lines
    → items ++ chosen from to (tree_entries q level t) ≡ items
chosen_later from to q level t items h =
    ap (λ (x : List Entry). items ++ x) (chosen-none from to (tree_entries q level t) (none_later from to q level t h)) ∙ append-nil items

pub chosen_earlier : (from to : ℕ) (q : Length) (level : ℕ) (t : Tree) (items : List Entry) → IsTree t → (length_plus q (tree_length t)).lines < from
    → items ++ chosen from to (tree_entries q level t) ≡ items
chosen_earlier from to q level t items h e =
    ap (λ (x : List Entry). items ++ x) (chosen-none from to (tree_entries q level t) (none_earlier from to q level t h e)) ∙ append-nil items

pub chosen_of_two : (from to : ℕ) (q : Length) (level : ℕ) (a b : Tree) (items : List Entry)
    → items ++ chosen from to (tree_entries q level (two a b))
    ≡ (items ++ chosen from to (tree_entries q level a)) ++ chosen from to (tree_entries (length_plus q (tree_length a)) level b)
chosen_of_two from to q level a b items =
    ap (λ (x : List Entry). items ++ x) (chosen-append from to (tree_entries q level a) (tree_entries (length_plus q (tree_length a)) level b))
    ∙ sym (append_assoc items (chosen from to (tree_entries q level a)) (chosen from to (tree_entries (length_plus q (tree_length a)) level b)))

pub chosen_of_three : (from to : ℕ) (q : Length) (level : ℕ) (a b c : Tree) (items : List Entry)
    → items ++ chosen from to (tree_entries q level (three a b c))
    ≡ ((items ++ chosen from to (tree_entries q level a)) ++ chosen from to (tree_entries (length_plus q (tree_length a)) level b))
    ++ chosen from to (tree_entries (length_plus (length_plus q (tree_length a)) (tree_length b)) level c)
chosen_of_three from to q level a b c items =
    chosen_of_two from to q level a (two b c) items
    ∙ chosen_of_two from to (length_plus q (tree_length a)) level b c (items ++ chosen from to (tree_entries q level a))

one_chosen : (from to : ℕ) (j : Judged) (js : List Judged) → chosen from to (j ∷ js) ≡ entry_if (is_between from to j.entry) j.entry ++ chosen from to js
one_chosen from to j js = either (is_between from to j.entry)
  where
    either : (b : Bool) → cond b (j.entry ∷ chosen from to js) (chosen from to js) ≡ entry_if b j.entry ++ chosen from to js
    either true = refl
    either false = refl

pub chosen_of_pair : (from to : ℕ) (q : Length) (level k o : ℕ) (i : Tree) (c : Option ℕ) (items : List Entry)
    → items ++ chosen from to (tree_entries q level (pair k o i c))
    ≡ ((items ++ chosen from to (judged_opening (bracket q o k true) level (closing_spot (inside_end q o i) c) ∷ []))
    ++ chosen from to (tree_entries (inside_start q o) (level + 1) i))
    ++ chosen from to (closing_entries (inside_end q o i) k level c (spot q o))
chosen_of_pair from to q level k o i c items =
    let first : List Judged = judged_opening (bracket q o k true) level (closing_spot (inside_end q o i) c) ∷ [] in
    let inside : List Judged = tree_entries (inside_start q o) (suc level) i in
    let last : List Judged = closing_entries (inside_end q o i) k level c (spot q o) in
    rw (add-one level)
    (ap (λ (x : List Entry). items ++ x) (chosen-append from to first (inside ++ last)
    ∙ ap (λ (x : List Entry). chosen from to first ++ x) (chosen-append from to inside last))
    ∙ sym (append_assoc items (chosen from to first) (chosen from to inside ++ chosen from to last))
    ∙ sym (append_assoc (items ++ chosen from to first) (chosen from to inside) (chosen from to last)))

-- the old entries stay a prefix after one more append
pub kept_through : (old more new : List Entry) → take (length (old ++ more)) new ≡ old ++ more → take (length old) new ≡ old
kept_through old more new h =
    let fits : length old ≤ length (old ++ more) = omega (arith, length-append old more) in
    sym (take-take (length old) (length (old ++ more)) new fits) ∙ ap (take (length old)) h ∙ take-append-le (length old) old more (omega arith) ∙ take_all (length old) old (omega arith)

pub ruleset entry_steps = (chosen_later, chosen_earlier, chosen_of_two, chosen_of_three, chosen_of_pair, kept_through)

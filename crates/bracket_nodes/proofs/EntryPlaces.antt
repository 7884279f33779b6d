-- The places of the entries of a tree: at or after its start, and before its end.
use Rattle.std.proofs.Common.{◌≡◌, ℕ, suc, ◌<◌, true, Option, Some, None, List, [], ◌∷◌, ◌++◌, sym, ap, subst, ◌∙◌}
use Rattle.text_lengths.specs.declared.Length.{Length}
use Rattle.text_lengths.specs.Length.{length_plus}
use Rattle.text_lengths.proofs.Lengths.{length_plus_assoc}
use Rattle.bracket_rules.specs.Parse.{Bracket, bracket, Spot, spot, Judged, judged_opening}
use Rattle.bracket_tree_rules.specs.Tree.{Tree, text, pair, stray, capped, nothing, two, three, wide, width_of, tree_length, inside_start, inside_end, closing_spot, closing_entries, tree_entries, IsWidth, IsTree}

-- the property holds for the place of each of these entries
abbrev pub EachPlace : (Length → Type 0) → List Judged → Type 0
EachPlace P [] = Unit {0}
EachPlace P (j ∷ js) = P j.entry.place × EachPlace P js

EachPlace-append : (P : Length → Type 0) (xs ys : List Judged) → EachPlace P xs → EachPlace P ys → EachPlace P (xs ++ ys)
EachPlace-append P [] ys h k = k
EachPlace-append P (x ∷ xs) ys h k = (h.0, EachPlace-append P xs ys h.1 k)

EachPlace-opening : (P : Length → Type 0) (b : Bracket) (level : ℕ) (closer : Option Spot) (rest : List Judged)
    → P b.place → EachPlace P rest → EachPlace P (judged_opening b level closer ∷ rest)
EachPlace-opening P b level None rest h r = (h, r)
EachPlace-opening P b level (Some s) rest h r = (h, r)

EachPlace-closing : (P : Length → Type 0) (q : Length) (k level : ℕ) (c : Option ℕ) (opener : Spot)
    → P q → EachPlace P (closing_entries q k level c opener)
EachPlace-closing P q k level None opener h = tt
EachPlace-closing P q k level (Some w) opener h = (h, tt)

-- A property that holds at the tree's start, and is inherited by later places, holds for the place of each entry.
pub each_later : (P Q : Length → Type 0) → ((x l : Length) → P x → P (length_plus x l)) → ((x : Length) → P x → Q x)
    → (q : Length) (level : ℕ) (t : Tree) → P q → EachPlace Q (tree_entries q level t)
each_later P Q later tells q level (text l) h = tt
each_later P Q later tells q level (pair k o i c) h =
    let start : Length = inside_start q o in
    let ends : Length = inside_end q o i in
    let at_start : P start = later q (wide o) h in
    EachPlace-opening Q (bracket q o k true) level (closing_spot ends c) _ (tells q h)
    (EachPlace-append Q (tree_entries start (suc level) i) (closing_entries ends k level c (spot q o))
    (each_later P Q later tells start (suc level) i at_start)
    (EachPlace-closing Q ends k level c (spot q o) (tells ends (later start (tree_length i) at_start))))
each_later P Q later tells q level (stray k w) h = (tells q h, tt)
each_later P Q later tells q level (capped k w) h = tt
each_later P Q later tells q level nothing h = tt
each_later P Q later tells q level (two a b) h =
    let r : Length = length_plus q (tree_length a) in
    EachPlace-append Q (tree_entries q level a) (tree_entries r level b)
    (each_later P Q later tells q level a h) (each_later P Q later tells r level b (later q (tree_length a) h))
each_later P Q later tells q level (three a b c) h =
    let r : Length = length_plus q (tree_length a) in
    let s : Length = length_plus r (tree_length b) in
    let at_r : P r = later q (tree_length a) h in
    EachPlace-append Q (tree_entries q level a) (tree_entries r level b ++ tree_entries s level c) (each_later P Q later tells q level a h)
    (EachPlace-append Q (tree_entries r level b) (tree_entries s level c)
    (each_later P Q later tells r level b at_r) (each_later P Q later tells s level c (later r (tree_length b) at_r)))

closing_earlier : (P Q : Length → Type 0) → ((x : Length) (w : ℕ) → 0 < w → P (length_plus x (wide w)) → Q x)
    → (q : Length) (k level : ℕ) (c : Option ℕ) (opener : Spot) → IsWidth c → P (length_plus q (wide (width_of c)))
    → EachPlace Q (closing_entries q k level c opener)
closing_earlier P Q tells q k level None opener h e = tt
closing_earlier P Q tells q k level (Some w) opener h e = (tells q w h e, tt)

-- A property that holds at the tree's end, and is inherited by earlier places, holds at the end of each entry and so
-- implies Q at its place.
pub each_earlier : (P Q : Length → Type 0) → ((x l : Length) → P (length_plus x l) → P x)
    → ((x : Length) (w : ℕ) → 0 < w → P (length_plus x (wide w)) → Q x)
    → (q : Length) (level : ℕ) (t : Tree) → IsTree t → P (length_plus q (tree_length t)) → EachPlace Q (tree_entries q level t)
each_earlier P Q earlier tells q level (text l) h e = tt
each_earlier P Q earlier tells q level (pair k o i c) h e =
    let start : Length = inside_start q o in
    let ends : Length = inside_end q o i in
    let closer : Length = wide (width_of c) in
    let all : length_plus q (tree_length (pair k o i c)) ≡ length_plus ends closer =
    sym (ap (λ (l : Length). length_plus l closer) (length_plus_assoc q (wide o) (tree_length i))
    ∙ length_plus_assoc q (length_plus (wide o) (tree_length i)) closer) in
    let at_end : P (length_plus ends closer) = subst P all e in
    let inside_ends : P ends = earlier ends closer at_end in
    EachPlace-opening Q (bracket q o k true) level (closing_spot ends c) _
    (tells q o h.0.opening (earlier start (tree_length i) inside_ends))
    (EachPlace-append Q (tree_entries start (suc level) i) (closing_entries ends k level c (spot q o))
    (each_earlier P Q earlier tells start (suc level) i h.1 inside_ends)
    (closing_earlier P Q tells ends k level c (spot q o) h.0.closing at_end))
each_earlier P Q earlier tells q level (stray k w) h e = (tells q w h.wide e, tt)
each_earlier P Q earlier tells q level (capped k w) h e = tt
each_earlier P Q earlier tells q level nothing h e = tt
each_earlier P Q earlier tells q level (two a b) h e =
    let r : Length = length_plus q (tree_length a) in
    let at_end : P (length_plus r (tree_length b)) = subst P (sym (length_plus_assoc q (tree_length a) (tree_length b))) e in
    EachPlace-append Q (tree_entries q level a) (tree_entries r level b)
    (each_earlier P Q earlier tells q level a h.1.0 (earlier r (tree_length b) at_end))
    (each_earlier P Q earlier tells r level b h.1.1 at_end)
each_earlier P Q earlier tells q level (three a b c) h e =
    let r : Length = length_plus q (tree_length a) in
    let s : Length = length_plus r (tree_length b) in
    let all : length_plus q (tree_length (three a b c)) ≡ length_plus s (tree_length c) =
    sym (ap (λ (l : Length). length_plus l (tree_length c)) (length_plus_assoc q (tree_length a) (tree_length b))
    ∙ length_plus_assoc q (length_plus (tree_length a) (tree_length b)) (tree_length c)) in
    let at_end : P (length_plus s (tree_length c)) = subst P all e in
    let b_ends : P s = earlier s (tree_length c) at_end in
    EachPlace-append Q (tree_entries q level a) (tree_entries r level b ++ tree_entries s level c)
    (each_earlier P Q earlier tells q level a h.1.0 (earlier r (tree_length b) b_ends))
    (EachPlace-append Q (tree_entries r level b) (tree_entries s level c)
    (each_earlier P Q earlier tells r level b h.1.1.0 b_ends) (each_earlier P Q earlier tells s level c h.1.1.1 at_end))

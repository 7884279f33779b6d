-- The walk down to the level at a place: the entries of a part all start before the place, or none does.
use Rattle.std.proofs.Common.{◌≡◌, ℕ, suc, ◌+◌, Bool, true, false, cond, Option, Some, None, List, [], ◌∷◌, ◌++◌, ◌&&◌, refl, ap, ◌∙◌, arith, add-one}
use Rattle.text_lengths.specs.declared.Length.{Length}
use Rattle.text_lengths.specs.Length.{length_plus, is_before}
use Rattle.text_lengths.proofs.Lengths.{length_plus_assoc}
use Rattle.bracket_rules.specs.Parse.{bracket, Spot, spot, Judged, judged_opening}
use Rattle.bracket_tree_rules.specs.Tree.{is_some_width, Tree, text, pair, stray, capped, nothing, two, three, wide, tree_length, inside_start, inside_end, closing_entries, tree_entries, level_after, level_before}
use Rattle.bracket_tree_rules.proofs.Levels.{not_before_later, not_before_sum, level_before-opening}
use Rattle.bracket_nodes.specs.Kept.{later, inside_level, last_level}
use Rattle.bracket_nodes.specs.Walks.{level_from}
use Rattle.bracket_nodes.proofs.EntryPlaces.{EachPlace, each_later}

pub level_before-append : (p : Length) (level : ℕ) (xs ys : List Judged)
    → level_before p level (xs ++ ys) ≡ level_before p (level_before p level xs) ys
level_before-append p level [] ys = refl
level_before-append p level (x ∷ xs) ys = level_before-append p (cond (is_before x.entry.place p) (level_after x.entry) level) xs ys

-- ---- none starts before the place

pub not_before_plus : (p q l : Length) → is_before q p ≡ false → is_before (length_plus q l) p ≡ false
not_before_plus p q l h = not_before_later p q (length_plus q l) h (not_before_sum q l)

level_before-none : (p : Length) (before : ℕ) (js : List Judged) → EachPlace (λ (x : Length). is_before x p ≡ false) js
    → level_before p before js ≡ before
level_before-none p before [] h = refl
level_before-none p before (j ∷ js) h =
    ap (λ (c : Bool). level_before p (cond c (level_after j.entry) before) js) h.0 ∙ level_before-none p before js h.1

pub level_before-late : (p q : Length) (level before : ℕ) (t : Tree) → is_before q p ≡ false
    → level_before p before (tree_entries q level t) ≡ before
level_before-late p q level before t h =
    let Late : Length → Type 0 = λ (x : Length). is_before x p ≡ false in
    level_before-none p before (tree_entries q level t)
    (each_later Late Late (λ (x l : Length) (e : Late x). not_before_plus p x l e) (λ (x : Length) (e : Late x). e) q level t h)

-- ---- all start before the place

pub before_start : (p q l : Length) → is_before (length_plus q l) p ≡ true → is_before q p ≡ true
before_start p q l h = either (is_before q p) refl
  where
    either : (b : Bool) → is_before q p ≡ b → is_before q p ≡ true
    either true e = e
    either false e = let late = not_before_plus p q l e in cc

level_from-later : (level before : ℕ) (a b : Option ℕ) → level_from level (level_from level before a) b ≡ level_from level before (later a b)
level_from-later level before a None = refl
level_from-later level before a (Some n) = refl

early_joined : (p : Length) (level before : ℕ) (xs ys : List Judged) (a b : Option ℕ)
    → level_before p before xs ≡ level_from level before a → ((n : ℕ) → level_before p n ys ≡ level_from level n b)
    → level_before p before (xs ++ ys) ≡ level_from level before (later a b)
early_joined p level before xs ys a b h k =
    level_before-append p before xs ys
    ∙ ap (λ (n : ℕ). level_before p n ys) h
    ∙ k (level_from level before a)
    ∙ level_from-later level before a b

level_from-inside : (level : ℕ) (o : Option ℕ) (before : ℕ)
    → level_from (suc level) (suc level) o ≡ level_from level before (inside_level o None)
level_from-inside level None before = omega arith
level_from-inside level (Some n) before = omega arith

early_opening : (p q : Length) (o k level before : ℕ) (closer : Option Spot) (rest : List Judged) → is_before q p ≡ true
    → level_before p before (judged_opening (bracket q o k true) level closer ∷ rest) ≡ level_before p (suc level) rest
early_opening p q o k level before closer rest h =
    level_before-opening p before (bracket q o k true) level closer rest
    ∙ ap (λ (c : Bool). level_before p (cond c (suc level) before) rest) h

-- the entries before the place in a pair whose opening bracket starts before it and which ends at or before it
pair_end : (q : Length) (o : ℕ) (i : Tree) (w : ℕ)
    → length_plus (inside_end q o i) (wide w) ≡ length_plus q (length_plus (length_plus (wide o) (tree_length i)) (wide w))
pair_end q o i w =
    ap (λ (l : Length). length_plus l (wide w)) (length_plus_assoc q (wide o) (tree_length i))
    ∙ length_plus_assoc q (length_plus (wide o) (tree_length i)) (wide w)

pub level_before-early : (p q : Length) (level before : ℕ) (t : Tree) → is_before (length_plus q (tree_length t)) p ≡ true
    → level_before p before (tree_entries q level t) ≡ level_from level before (last_level t)
level_before-early p q level before (text l) h = refl
level_before-early p q level before (pair k o i None) h =
    let start : Length = inside_start q o in
    let ends : Length = inside_end q o i in
    let ends_early : is_before ends p ≡ true =
    before_start p ends (wide 0) (ap (λ (l : Length). is_before l p) (pair_end q o i 0) ∙ h) in
    early_opening p q o k level before None (tree_entries start (suc level) i ++ []) (before_start p q (tree_length (pair k o i None)) h)
    ∙ level_before-append p (suc level) (tree_entries start (suc level) i) []
    ∙ level_before-early p start (suc level) (suc level) i ends_early
    ∙ level_from-inside level (last_level i) before
level_before-early p q level before (pair k o i (Some w)) h =
    let start : Length = inside_start q o in
    let ends : Length = inside_end q o i in
    let inside : List Judged = tree_entries start (suc level) i in
    let ends_early : is_before ends p ≡ true =
    before_start p ends (wide w) (ap (λ (l : Length). is_before l p) (pair_end q o i w) ∙ h) in
    early_opening p q o k level before (Some (spot ends w)) (inside ++ closing_entries ends k level (Some w) (spot q o)) (before_start p q (tree_length (pair k o i (Some w))) h)
    ∙ level_before-append p (suc level) inside (closing_entries ends k level (Some w) (spot q o))
    ∙ ap (λ (c : Bool). cond c level (level_before p (suc level) inside)) ends_early
    ∙ omega arith
level_before-early p q level before (stray k w) h =
    ap (λ (c : Bool). cond c level before) (before_start p q (wide w) h) ∙ omega arith
level_before-early p q level before (capped k w) h = refl
level_before-early p q level before nothing h = refl
level_before-early p q level before (two a b) h =
    let r : Length = length_plus q (tree_length a) in
    let b_early : is_before (length_plus r (tree_length b)) p ≡ true =
    ap (λ (l : Length). is_before l p) (length_plus_assoc q (tree_length a) (tree_length b)) ∙ h in
    early_joined p level before (tree_entries q level a) (tree_entries r level b) (last_level a) (last_level b)
    (level_before-early p q level before a (before_start p r (tree_length b) b_early))
    (λ (n : ℕ). level_before-early p r level n b b_early)
level_before-early p q level before (three a b c) h =
    let r : Length = length_plus q (tree_length a) in
    let s : Length = length_plus r (tree_length b) in
    let c_early : is_before (length_plus s (tree_length c)) p ≡ true =
    ap (λ (l : Length). is_before l p) (ap (λ (l : Length). length_plus l (tree_length c)) (length_plus_assoc q (tree_length a) (tree_length b))
    ∙ length_plus_assoc q (length_plus (tree_length a) (tree_length b)) (tree_length c)) ∙ h in
    let b_early = before_start p s (tree_length c) c_early in
    early_joined p level before (tree_entries q level a) (tree_entries r level b ++ tree_entries s level c)
    (last_level a) (later (last_level b) (last_level c))
    (level_before-early p q level before a (before_start p r (tree_length b) b_early))
    (λ (n : ℕ). early_joined p level n (tree_entries r level b) (tree_entries s level c) (last_level b) (last_level c)
    (level_before-early p r level n b b_early) (λ (m : ℕ). level_before-early p s level m c c_early))

-- ---- the part that decides

pub level_in_pair_before : (p q : Length) (level before k o : ℕ) (i : Tree) (c : Option ℕ) → is_before q p ≡ false
    → level_before p before (tree_entries q level (pair k o i c)) ≡ before
level_in_pair_before p q level before k o i c h = level_before-late p q level before (pair k o i c) h

-- the closing bracket starts before the place
pub level_past_pair : (p q : Length) (level before k o : ℕ) (i : Tree) (c : Option ℕ) → is_before q p ≡ true
    → (is_some_width c && is_before (inside_end q o i) p) ≡ true
    → level_before p before (tree_entries q level (pair k o i c)) ≡ level
level_past_pair p q level before k o i None h e = cc
level_past_pair p q level before k o i (Some w) h e =
    let start : Length = inside_start q o in
    let inside : List Judged = tree_entries start (suc level) i in
    early_opening p q o k level before (Some (spot (inside_end q o i) w)) (inside ++ closing_entries (inside_end q o i) k level (Some w) (spot q o)) h
    ∙ level_before-append p (suc level) inside (closing_entries (inside_end q o i) k level (Some w) (spot q o))
    ∙ ap (λ (b : Bool). cond b level (level_before p (suc level) inside)) e

-- there is no closing bracket, or it does not start before the place
pub level_inside : (p q : Length) (level before k o : ℕ) (i : Tree) (c : Option ℕ) → is_before q p ≡ true
    → (is_some_width c && is_before (inside_end q o i) p) ≡ false
    → level_before p before (tree_entries q level (pair k o i c)) ≡ level_before p (level + 1) (tree_entries (inside_start q o) (level + 1) i)
level_inside p q level before k o i None h e =
    rw (add-one level) (early_opening p q o k level before None (tree_entries (inside_start q o) (suc level) i ++ []) h
    ∙ level_before-append p (suc level) (tree_entries (inside_start q o) (suc level) i) [])
level_inside p q level before k o i (Some w) h e =
    let start : Length = inside_start q o in
    let inside : List Judged = tree_entries start (suc level) i in
    rw (add-one level) (early_opening p q o k level before (Some (spot (inside_end q o i) w)) (inside ++ closing_entries (inside_end q o i) k level (Some w) (spot q o)) h
    ∙ level_before-append p (suc level) inside (closing_entries (inside_end q o i) k level (Some w) (spot q o))
    ∙ ap (λ (b : Bool). cond b level (level_before p (suc level) inside)) e)

pub level_in_first : (p q : Length) (level before : ℕ) (a b : Tree) → is_before (length_plus q (tree_length a)) p ≡ false
    → level_before p before (tree_entries q level (two a b)) ≡ level_before p before (tree_entries q level a)
level_in_first p q level before a b h =
    let r : Length = length_plus q (tree_length a) in
    level_before-append p before (tree_entries q level a) (tree_entries r level b)
    ∙ level_before-late p r level (level_before p before (tree_entries q level a)) b h

pub level_in_second : (p q : Length) (level before : ℕ) (a b : Tree) → is_before (length_plus q (tree_length a)) p ≡ true
    → level_before p before (tree_entries q level (two a b))
    ≡ level_before p (level_from level before (last_level a)) (tree_entries (length_plus q (tree_length a)) level b)
level_in_second p q level before a b h =
    let r : Length = length_plus q (tree_length a) in
    level_before-append p before (tree_entries q level a) (tree_entries r level b)
    ∙ ap (λ (n : ℕ). level_before p n (tree_entries r level b)) (level_before-early p q level before a h)

-- a list of three has the levels of a list of the first and a list of the other two
pub level_in_first_of_three : (p q : Length) (level before : ℕ) (a b c : Tree) → is_before (length_plus q (tree_length a)) p ≡ false
    → level_before p before (tree_entries q level (three a b c)) ≡ level_before p before (tree_entries q level a)
level_in_first_of_three p q level before a b c h = level_in_first p q level before a (two b c) h

pub level_in_second_of_three : (p q : Length) (level before : ℕ) (a b c : Tree) → is_before (length_plus q (tree_length a)) p ≡ true
    → is_before (length_plus (length_plus q (tree_length a)) (tree_length b)) p ≡ false
    → level_before p before (tree_entries q level (three a b c))
    ≡ level_before p (level_from level before (last_level a)) (tree_entries (length_plus q (tree_length a)) level b)
level_in_second_of_three p q level before a b c h e =
    level_in_second p q level before a (two b c) h
    ∙ level_in_first p (length_plus q (tree_length a)) level (level_from level before (last_level a)) b c e

pub level_in_third_of_three : (p q : Length) (level before : ℕ) (a b c : Tree) → is_before (length_plus q (tree_length a)) p ≡ true
    → is_before (length_plus (length_plus q (tree_length a)) (tree_length b)) p ≡ true
    → level_before p before (tree_entries q level (three a b c))
    ≡ level_before p (level_from level (level_from level before (last_level a)) (last_level b))
    (tree_entries (length_plus (length_plus q (tree_length a)) (tree_length b)) level c)
level_in_third_of_three p q level before a b c h e =
    level_in_second p q level before a (two b c) h
    ∙ level_in_second p (length_plus q (tree_length a)) level (level_from level before (last_level a)) b c e

pub ruleset level_steps = (level_in_pair_before, level_past_pair, level_inside, level_in_first, level_in_second, level_in_first_of_three, level_in_second_of_three, level_in_third_of_three)

-- The walk down to the partner of the entry at a place: at most one part has an entry there.
use Rattle.std.proofs.Common.{◌≡◌, ◌≢◌, ℕ, suc, ◌<◌, inl, inr, subst, Bool, true, false, cond, ◌&&◌, Option, Some, None, List, [], ◌∷◌, ◌++◌, refl, ap, ◌∙◌, arith}
use Rattle.std.specs.Option.{option_map}
use Rattle.std.proofs.lemmas.Bool.Decides.{nat_tests}
use Rattle.std.proofs.lemmas.Grind.{common_steps}
use Rattle.text_lengths.specs.declared.Length.{Length}
use Rattle.text_lengths.specs.Length.{length_plus, is_before}
use Rattle.bracket_rules.specs.Parse.{bracket, Spot, spot, Judged, judged_opening, same_place, partner_at}
use Rattle.text_lengths.proofs.Lengths.{same_length}
use Rattle.bracket_tree_rules.specs.Tree.{Tree, text, pair, stray, capped, nothing, two, three, wide, is_some_width, tree_length, inside_start, inside_end, closing_spot, closing_entries, tree_entries, IsTree}
use Rattle.bracket_tree_rules.specs.Parts.{Holds, IsPart, NoPartHolds}
use Rattle.bracket_tree_rules.proofs.Levels.{not_before_later, not_before_sum}
use Rattle.bracket_tree_rules.proofs.Longest.{not_before_front}
use Rattle.bracket_tree_rules.proofs.Parts.{here, by_here, held_here, opening_apart, end_apart}
use Rattle.bracket_nodes.specs.Walks.{place_and_len, NoOwnPartnerAt}
use Rattle.bracket_nodes.proofs.EntryPlaces.{EachPlace, each_later, each_earlier}

-- no entry starts at the place
abbrev NoneAt : Length → List Judged → Type 0
NoneAt p js = EachPlace (λ (x : Length). same_place x p ≡ false) js

partner_at-past : (p : Length) (xs ys : List Judged) → NoneAt p xs → partner_at p (xs ++ ys) ≡ partner_at p ys
partner_at-past p [] ys h = refl
partner_at-past p (x ∷ xs) ys h =
    ap (λ (b : Bool). cond b x.partner (partner_at p (xs ++ ys))) h.0 ∙ partner_at-past p xs ys h.1

partner_at-none : (p : Length) (ys : List Judged) → NoneAt p ys → partner_at p ys ≡ None
partner_at-none p [] h = refl
partner_at-none p (y ∷ ys) h = ap (λ (b : Bool). cond b y.partner (partner_at p ys)) h.0 ∙ partner_at-none p ys h.1

partner_at-before : (p : Length) (xs ys : List Judged) → NoneAt p ys → partner_at p (xs ++ ys) ≡ partner_at p xs
partner_at-before p [] ys h = partner_at-none p ys h
partner_at-before p (x ∷ xs) ys h =
    ap (λ (o : Option Spot). cond (same_place x.entry.place p) x.partner o) (partner_at-before p xs ys h)

-- ---- places apart

apart_before : (p q : Length) → is_before p q ≡ true → same_place q p ≡ false
apart_before p q h = grind (arith, nat_tests)

apart_after : (p q : Length) (w : ℕ) → 0 < w → is_before p (length_plus q (wide w)) ≡ false → same_place q p ≡ false
apart_after p q w h k = grind (arith, nat_tests, common_steps)

reached : (p q l : Length) → is_before p (length_plus q l) ≡ false → is_before p q ≡ false
reached p q l h = not_before_later q (length_plus q l) p (not_before_sum q l) h

before_plus : (p q l : Length) → is_before p q ≡ true → is_before p (length_plus q l) ≡ true
before_plus p q l h = either (is_before p (length_plus q l)) refl
  where
    either : (b : Bool) → is_before p (length_plus q l) ≡ b → is_before p (length_plus q l) ≡ true
    either true e = e
    either false e = let reaches = reached p q l e in cc

not_before_same : (p q : Length) → same_place q p ≡ true → is_before p q ≡ false
not_before_same p q h = grind (arith, nat_tests)

-- ---- a tree after the place, and one that ends there or before

closing_apart : (p q : Length) (k level : ℕ) (c : Option ℕ) (s : Spot) → (is_some_width c && same_place q p) ≡ false → NoneAt p (closing_entries q k level c s)
closing_apart p q k level None s h = tt
closing_apart p q k level (Some w) s h = (h, tt)

none_before : (p q : Length) (level : ℕ) (t : Tree) → is_before p q ≡ true → NoneAt p (tree_entries q level t)
none_before p q level t h =
    each_later (λ (x : Length). is_before p x ≡ true) (λ (x : Length). same_place x p ≡ false)
    (λ (x l : Length) (e : is_before p x ≡ true). before_plus p x l e) (λ (x : Length) (e : is_before p x ≡ true). apart_before p x e) q level t h

none_after : (p q : Length) (level : ℕ) (t : Tree) → IsTree t → is_before p (length_plus q (tree_length t)) ≡ false → NoneAt p (tree_entries q level t)
none_after p q level t h e =
    each_earlier (λ (x : Length). is_before p x ≡ false) (λ (x : Length). same_place x p ≡ false)
    (λ (x l : Length) (f : is_before p (length_plus x l) ≡ false). reached p x l f)
    (λ (x : Length) (w : ℕ) (some : 0 < w) (f : is_before p (length_plus x (wide w)) ≡ false). apart_after p x w some f) q level t h e

-- ---- the part that decides

partner_of_start : (p q : Length) (level k o : ℕ) (i : Tree) (c : Option ℕ) → same_place q p ≡ true
    → partner_at p (tree_entries q level (pair k o i c)) ≡ closing_spot (inside_end q o i) c
partner_of_start p q level k o i c h = either (closing_spot (inside_end q o i) c)
  where
    rest : List Judged
    rest = tree_entries (inside_start q o) (suc level) i ++ closing_entries (inside_end q o i) k level c (spot q o)

    either : (s : Option Spot) → partner_at p (judged_opening (bracket q o k true) level s ∷ rest) ≡ s
    either None = ap (λ (b : Bool). cond b None (partner_at p rest)) h
    either (Some s) = ap (λ (b : Bool). cond b (Some s) (partner_at p rest)) h

past_opening : (p q : Length) (o k level : ℕ) (s : Option Spot) (rest : List Judged) → same_place q p ≡ false
    → partner_at p (judged_opening (bracket q o k true) level s ∷ rest) ≡ partner_at p rest
past_opening p q o k level None rest h = ap (λ (b : Bool). cond b None (partner_at p rest)) h
past_opening p q o k level (Some s) rest h = ap (λ (b : Bool). cond b (Some s) (partner_at p rest)) h

partner_of_end : (p q : Length) (level k o : ℕ) (i : Tree) (c : Option ℕ) → same_place q p ≡ false
    → (is_some_width c && same_place (inside_end q o i) p) ≡ true → IsTree i
    → partner_at p (tree_entries q level (pair k o i c)) ≡ Some (spot q o)
partner_of_end p q level k o i None h e t = cc
partner_of_end p q level k o i (Some w) h e t =
    let start : Length = inside_start q o in
    let ends : Length = inside_end q o i in
    past_opening p q o k level (Some (spot ends w)) (tree_entries start (suc level) i ++ closing_entries ends k level (Some w) (spot q o)) h
    ∙ partner_at-past p (tree_entries start (suc level) i) (closing_entries ends k level (Some w) (spot q o))
    (none_after p start (suc level) i t (not_before_same p ends e))
    ∙ ap (λ (b : Bool). cond b (Some (spot q o)) None) e

partner_inside : (p q : Length) (level k o : ℕ) (i : Tree) (c : Option ℕ) → same_place q p ≡ false
    → (is_some_width c && same_place (inside_end q o i) p) ≡ false
    → partner_at p (tree_entries q level (pair k o i c)) ≡ partner_at p (tree_entries (inside_start q o) (suc level) i)
partner_inside p q level k o i c h e =
    let start : Length = inside_start q o in
    let ends : Length = inside_end q o i in
    past_opening p q o k level (closing_spot ends c) (tree_entries start (suc level) i ++ closing_entries ends k level c (spot q o)) h
    ∙ partner_at-before p (tree_entries start (suc level) i) (closing_entries ends k level c (spot q o)) (closing_apart p ends k level c (spot q o) e)

partner_in_first : (p q : Length) (level : ℕ) (a b : Tree) → is_before p (length_plus q (tree_length a)) ≡ true
    → partner_at p (tree_entries q level (two a b)) ≡ partner_at p (tree_entries q level a)
partner_in_first p q level a b h =
    partner_at-before p (tree_entries q level a) (tree_entries (length_plus q (tree_length a)) level b)
    (none_before p (length_plus q (tree_length a)) level b h)

partner_in_second : (p q : Length) (level : ℕ) (a b : Tree) → is_before p (length_plus q (tree_length a)) ≡ false → IsTree a
    → partner_at p (tree_entries q level (two a b)) ≡ partner_at p (tree_entries (length_plus q (tree_length a)) level b)
partner_in_second p q level a b h t =
    partner_at-past p (tree_entries q level a) (tree_entries (length_plus q (tree_length a)) level b) (none_after p q level a t h)

-- ---- the part that holds the place

apart : (q p : Length) → q ≢ p → same_place q p ≡ false
apart q p h = either (same_place q p) refl
  where
    either : (b : Bool) → same_place q p ≡ b → same_place q p ≡ false
    either true e = absurd (h (same_length q p (grind (arith, nat_tests)) (grind (arith, nat_tests))))
    either false e = e

together : (q p : Length) → q ≡ p → same_place q p ≡ true
together q p h = subst (λ (x : Length). same_place q x ≡ true) h (grind (arith, nat_tests))

closing_not_at : (p q : Length) (c : Option ℕ) → q ≢ p → (is_some_width c && same_place q p) ≡ false
closing_not_at p q None h = refl
closing_not_at p q (Some w) h = apart q p h

-- the other bracket of a pair, at any level
abbrev FoundAt : Length → Option (Length × ℕ) → Length → Tree → Type 0
FoundAt p found q t = (level : ℕ) → option_map place_and_len (partner_at p (tree_entries q level t)) ≡ found

pub partner_in_part : (p q : Length) (t : Tree) (r : Length) (part : Tree) (found : Option (Length × ℕ)) → IsTree t → IsPart q t r part → Holds r part p
    → ((level : ℕ) → option_map place_and_len (partner_at p (tree_entries r level part)) ≡ found)
    → (level : ℕ) → option_map place_and_len (partner_at p (tree_entries q level t)) ≡ found
partner_in_part p q (text l) r part found tree no_part holds h level = elim no_part [ ]
partner_in_part p q (pair k o i c) r part found tree is holds h level =
    let start : Length = inside_start q o in
    let ends : Length = inside_end q o i in
    let held : Holds start i p = held_here p start i r part is holds in
    ap (option_map place_and_len) (partner_inside p q level k o i c
    (apart q p (opening_apart q p o tree.0.opening held.from)) (closing_not_at p ends c (end_apart ends p held.ends)))
    ∙ by_here (FoundAt p found) start i r part is h (suc level)
partner_in_part p q (stray k w) r part found tree no_part holds h level = elim no_part [ ]
partner_in_part p q (capped k w) r part found tree no_part holds h level = elim no_part [ ]
partner_in_part p q nothing r part found tree no_part holds h level = elim no_part [ ]
partner_in_part p q (two a b) r part found tree (inl is) holds h level =
    ap (option_map place_and_len) (partner_in_first p q level a b (held_here p q a r part is holds).ends)
    ∙ by_here (FoundAt p found) q a r part is h level
partner_in_part p q (two a b) r part found tree (inr is) holds h level =
    let s : Length = length_plus q (tree_length a) in
    ap (option_map place_and_len) (partner_in_second p q level a b (held_here p s b r part is holds).from tree.1.0)
    ∙ by_here (FoundAt p found) s b r part is h level
partner_in_part p q (three a b c) r part found tree (inl is) holds h level =
    ap (option_map place_and_len) (partner_in_first p q level a (two b c) (held_here p q a r part is holds).ends)
    ∙ by_here (FoundAt p found) q a r part is h level
partner_in_part p q (three a b c) r part found tree (inr (inl is)) holds h level =
    let s : Length = length_plus q (tree_length a) in
    let held : Holds s b p = held_here p s b r part is holds in
    ap (option_map place_and_len) (partner_in_second p q level a (two b c) held.from tree.1.0
    ∙ partner_in_first p s level b c held.ends)
    ∙ by_here (FoundAt p found) s b r part is h level
partner_in_part p q (three a b c) r part found tree (inr (inr is)) holds h level =
    let s : Length = length_plus q (tree_length a) in
    let u : Length = length_plus s (tree_length b) in
    let held : Holds u c p = held_here p u c r part is holds in
    ap (option_map place_and_len) (partner_in_second p q level a (two b c) (not_before_front p s (tree_length b) held.from) tree.1.0
    ∙ partner_in_second p s level b c held.from tree.1.1.0)
    ∙ by_here (FoundAt p found) u c r part is h level

-- ---- no part holds the place

none_held : (p q : Length) (level : ℕ) (t : Tree) → IsTree t → (Holds q t p → ⊥) → NoneAt p (tree_entries q level t)
none_held p q level t tree h = either (is_before p q) refl (is_before p (length_plus q (tree_length t))) refl
  where
    either : (b : Bool) → is_before p q ≡ b → (e : Bool) → is_before p (length_plus q (tree_length t)) ≡ e → NoneAt p (tree_entries q level t)
    either true f e g = none_before p q level t f
    either false f false g = none_after p q level t tree g
    either false f true g = absurd (h (record { from = f; ends = g }))

no_choice : (b : Bool) (o : Option Spot) → cond b o o ≡ o
no_choice true o = refl
no_choice false o = refl

pub no_partner_here : (p q : Length) (t : Tree) → IsTree t → NoPartHolds q t p → NoOwnPartnerAt q t p
    → (level : ℕ) → option_map place_and_len (partner_at p (tree_entries q level t)) ≡ None
no_partner_here p q (text l) tree parts own level = refl
no_partner_here p q (pair k o i None) tree parts own level = either (same_place q p) refl
  where
    either : (b : Bool) → same_place q p ≡ b → option_map place_and_len (partner_at p (tree_entries q level (pair k o i None))) ≡ None
    either true e = ap (option_map place_and_len) (partner_of_start p q level k o i None e)
    either false e =
        let start : Length = inside_start q o in
        ap (option_map place_and_len) (partner_inside p q level k o i None e refl
        ∙ partner_at-none p (tree_entries start (suc level) i) (none_held p start (suc level) i tree.1 (parts start i (here start i))))
no_partner_here p q (pair k o i (Some w)) tree parts own level =
    let start : Length = inside_start q o in
    ap (option_map place_and_len) (partner_inside p q level k o i (Some w) (apart q p own.0) (apart (inside_end q o i) p own.1)
    ∙ partner_at-none p (tree_entries start (suc level) i) (none_held p start (suc level) i tree.1 (parts start i (here start i))))
no_partner_here p q (stray k w) tree parts own level = ap (option_map place_and_len) (no_choice (same_place q p) None)
no_partner_here p q (capped k w) tree parts own level = refl
no_partner_here p q nothing tree parts own level = refl
no_partner_here p q (two a b) tree parts own level =
    let s : Length = length_plus q (tree_length a) in
    ap (option_map place_and_len) (partner_at-past p (tree_entries q level a) (tree_entries s level b) (none_held p q level a tree.1.0 (parts q a (inl (here q a))))
    ∙ partner_at-none p (tree_entries s level b) (none_held p s level b tree.1.1 (parts s b (inr (here s b)))))
no_partner_here p q (three a b c) tree parts own level =
    let s : Length = length_plus q (tree_length a) in
    let u : Length = length_plus s (tree_length b) in
    ap (option_map place_and_len) (partner_at-past p (tree_entries q level a) (tree_entries s level b ++ tree_entries u level c)
    (none_held p q level a tree.1.0 (parts q a (inl (here q a))))
    ∙ partner_at-past p (tree_entries s level b) (tree_entries u level c) (none_held p s level b tree.1.1.0 (parts s b (inr (inl (here s b)))))
    ∙ partner_at-none p (tree_entries u level c) (none_held p u level c tree.1.1.1 (parts u c (inr (inr (here u c))))))

-- ---- the pair's own brackets

pub partner_of_opening : (p q : Length) (k o : ℕ) (i : Tree) (w : ℕ) → q ≡ p
    → (level : ℕ) → option_map place_and_len (partner_at p (tree_entries q level (pair k o i (Some w)))) ≡ Some (inside_end q o i, w)
partner_of_opening p q k o i w same level =
    ap (option_map place_and_len) (partner_of_start p q level k o i (Some w) (together q p same))

pub partner_of_closing : (p q : Length) (k o : ℕ) (i : Tree) (w : ℕ) → q ≢ p → inside_end q o i ≡ p → IsTree i
    → (level : ℕ) → option_map place_and_len (partner_at p (tree_entries q level (pair k o i (Some w)))) ≡ Some (q, o)
partner_of_closing p q k o i w other same tree level =
    ap (option_map place_and_len) (partner_of_end p q level k o i (Some w) (apart q p other) (together (inside_end q o i) p same) tree)

pub ruleset own_partners = (partner_of_opening, partner_of_closing)

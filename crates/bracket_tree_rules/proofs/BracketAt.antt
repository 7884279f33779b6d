-- The walk down to the bracket at a place: at most one part of a list has brackets there.
use Rattle.std.proofs.Common.{◌≡◌, ◌≢◌, ℕ, ◌<◌, ◌⊎◌, Bool, true, false, Option, Some, None, List, [], ◌∷◌, ◌++◌, refl, ap, sym, ◌∙◌, subst, arith, inl, inr}
use Rattle.text_lengths.specs.declared.Length.{Length}
use Rattle.text_lengths.specs.Length.{length_plus, is_before}
use Rattle.bracket_rules.specs.declared.Token.{Token}
use Rattle.bracket_rules.specs.Parse.{Bracket, bracket}
use Rattle.bracket_tree_rules.specs.Tree.{Tree, text, pair, stray, capped, nothing, two, three, wide, width_of, tree_length, tree_tokens, closing_brackets, inside_start, inside_end, IsTree, IsWidth}
use Rattle.bracket_tree_rules.specs.Places.{IsAmong, HasBracket}
use Rattle.bracket_tree_rules.specs.Found.{token_at, NoBracketAt, IsBracketFound}
use Rattle.bracket_tree_rules.proofs.Places.{IsAmong-append, IsAmong-left, IsAmong-right}
use Rattle.bracket_tree_rules.proofs.Longest.{before_more, not_before_front, before_units, not_before_itself, not_both, before_pair_end, before_two_end, before_three_end}

-- ---- where brackets start

lone_from : (p : Length) (w k : ℕ) (opening : Bool) (b : Bracket) → IsAmong b (bracket p w k opening ∷ []) → is_before b.place p ≡ false
lone_from p w k opening b (inl first) = ap (λ (x : Bracket). is_before x.place p) first ∙ not_before_itself p
lone_from p w k opening b (inr none) = elim none [ ]

closing_from : (p : Length) (k : ℕ) (c : Option ℕ) (b : Bracket) → IsAmong b (closing_brackets p k c) → is_before b.place p ≡ false
closing_from p k None b h = elim h [ ]
closing_from p k (Some w) b h = lone_from p w k false b h

-- no bracket of a tree starts before the tree
pub bracket_from : (p : Length) (t : Tree) (b : Bracket) → HasBracket p t b → is_before b.place p ≡ false
bracket_from p (text l) b none = elim none [ ]
bracket_from p (pair k o i c) b (inl first) = ap (λ (x : Bracket). is_before x.place p) first ∙ not_before_itself p
bracket_from p (pair k o i c) b (inr later) =
    not_before_front b.place p (wide o)
    (elim (IsAmong-append b (tree_tokens (inside_start p o) i) (closing_brackets (inside_end p o i) k c) later) [
      | inl in_it ↦ bracket_from (inside_start p o) i b in_it
      | inr last ↦ not_before_front b.place (inside_start p o) (tree_length i) (closing_from (inside_end p o i) k c b last)
    ])
bracket_from p (stray k w) b h = lone_from p w k false b h
bracket_from p (capped k w) b h = lone_from p w k true b h
bracket_from p nothing b none = elim none [ ]
bracket_from p (two x y) b h =
    let r = length_plus p (tree_length x) in
    elim (IsAmong-append b (tree_tokens p x) (tree_tokens r y) h) [
      | inl in_x ↦ bracket_from p x b in_x
      | inr in_y ↦ not_before_front b.place p (tree_length x) (bracket_from r y b in_y)
    ]
bracket_from p (three x y z) b h =
    let r = length_plus p (tree_length x) in
    let s = length_plus r (tree_length y) in
    elim (IsAmong-append b (tree_tokens p x) (tree_tokens r y ++ tree_tokens s z) h) [
      | inl in_x ↦ bracket_from p x b in_x
      | inr later ↦ not_before_front b.place p (tree_length x)
          (elim (IsAmong-append b (tree_tokens r y) (tree_tokens s z) later) [
            | inl in_y ↦ bracket_from r y b in_y
            | inr in_z ↦ not_before_front b.place r (tree_length y) (bracket_from s z b in_z)
          ])
    ]

pub before_wide : (p : Length) (w : ℕ) → 0 < w → is_before p (length_plus p (wide w)) ≡ true
before_wide p w h = before_units p (wide w) (omega arith)

lone_ends : (p : Length) (w k : ℕ) (opening : Bool) (b : Bracket) → 0 < w → IsAmong b (bracket p w k opening ∷ [])
    → is_before b.place (length_plus p (wide w)) ≡ true
lone_ends p w k opening b h (inl first) = ap (λ (x : Bracket). is_before x.place (length_plus p (wide w))) first ∙ before_wide p w h
lone_ends p w k opening b h (inr none) = elim none [ ]

closing_ends : (p : Length) (k : ℕ) (c : Option ℕ) (b : Bracket) → IsWidth c → IsAmong b (closing_brackets p k c)
    → is_before b.place (length_plus p (wide (width_of c))) ≡ true
closing_ends p k None b h none = elim none [ ]
closing_ends p k (Some w) b h last = lone_ends p w k false b h last

-- every bracket of a tree starts before the end of the tree
pub bracket_ends : (p : Length) (t : Tree) (b : Bracket) → IsTree t → HasBracket p t b → is_before b.place (length_plus p (tree_length t)) ≡ true
bracket_ends p (text l) b h none = elim none [ ]
bracket_ends p (pair k o i c) b h (inl first) =
    before_pair_end b.place p k o i c
    (before_more b.place (inside_end p o i) (wide (width_of c)) (before_more b.place (inside_start p o) (tree_length i)
    (ap (λ (x : Bracket). is_before x.place (inside_start p o)) first ∙ before_wide p o h.0.opening)))
bracket_ends p (pair k o i c) b h (inr later) =
    before_pair_end b.place p k o i c
    (elim (IsAmong-append b (tree_tokens (inside_start p o) i) (closing_brackets (inside_end p o i) k c) later) [
      | inl in_it ↦ before_more b.place (inside_end p o i) (wide (width_of c)) (bracket_ends (inside_start p o) i b h.1 in_it)
      | inr last ↦ closing_ends (inside_end p o i) k c b h.0.closing last
    ])
bracket_ends p (stray k w) b h there = lone_ends p w k false b h.wide there
bracket_ends p (capped k w) b h there = lone_ends p w k true b h.wide there
bracket_ends p nothing b h none = elim none [ ]
bracket_ends p (two x y) b h there =
    let r = length_plus p (tree_length x) in
    before_two_end b.place p x y
    (elim (IsAmong-append b (tree_tokens p x) (tree_tokens r y) there) [
      | inl in_x ↦ before_more b.place r (tree_length y) (bracket_ends p x b h.1.0 in_x)
      | inr in_y ↦ bracket_ends r y b h.1.1 in_y
    ])
bracket_ends p (three x y z) b h there =
    let r = length_plus p (tree_length x) in
    let s = length_plus r (tree_length y) in
    before_three_end b.place p x y z
    (elim (IsAmong-append b (tree_tokens p x) (tree_tokens r y ++ tree_tokens s z) there) [
      | inl in_x ↦ before_more b.place s (tree_length z) (before_more b.place r (tree_length y) (bracket_ends p x b h.1.0 in_x))
      | inr later ↦ elim (IsAmong-append b (tree_tokens r y) (tree_tokens s z) later) [
        | inl in_y ↦ before_more b.place s (tree_length z) (bracket_ends r y b h.1.1.0 in_y)
        | inr in_z ↦ bracket_ends s z b h.1.1.1 in_z
      ]
    ])

-- a part that starts after the place, or ends at or before it, has no bracket there
none_behind : (p : Length) (t : Tree) (q : Length) → is_before q p ≡ true → NoBracketAt p t q
none_behind p t q h b there same =
    not_both (is_before q p) h (ap (λ (x : Length). is_before x p) (sym same) ∙ bracket_from p t b there)

none_passed : (p : Length) (t : Tree) (q : Length) → IsTree t → is_before q (length_plus p (tree_length t)) ≡ false → NoBracketAt p t q
none_passed p t q tree h b there same =
    not_both (is_before q (length_plus p (tree_length t)))
    (ap (λ (x : Length). is_before x (length_plus p (tree_length t))) (sym same) ∙ bracket_ends p t b tree there) h

-- ---- the one part whose brackets count

-- every bracket of the part belongs to the tree, and every bracket of the tree at place q belongs to the part
record OnlyIn (p : Length) (t : Tree) (r : Length) (part : Tree) (q : Length) : Type 0 where
  up : (b : Bracket) → HasBracket r part b → HasBracket p t b
  down : (b : Bracket) → HasBracket p t b → b.place ≡ q → HasBracket r part b

found_by : (p : Length) (t : Tree) (r : Length) (part : Tree) (q : Length) (o : Option Token)
    → OnlyIn p t r part q → IsBracketFound r part q o → IsBracketFound p t q o
found_by p t r part q None only h = λ b there same. h b (only.down b there same) same
found_by p t r part q (Some found) only h = record {
  stands = only.up (bracket q found.len found.kind found.opening) h.stands;
  column = h.column;
}

-- ---- the steps of the walk

pub no_bracket_of_text : (p l q : Length) → IsBracketFound p (text l) q None
no_bracket_of_text p l q = λ b none same. elim none [ ]

pub no_bracket_of_nothing : (p q : Length) → IsBracketFound p nothing q None
no_bracket_of_nothing p q = λ b none same. elim none [ ]

pub lone_apart : (p q : Length) (w k : ℕ) (opening : Bool) (b : Bracket) → (p ≡ q → ⊥) → IsAmong b (bracket p w k opening ∷ []) → b.place ≢ q
lone_apart p q w k opening b apart (inl first) = λ same. apart (sym (ap (λ (x : Bracket). x.place) first) ∙ same)
lone_apart p q w k opening b apart (inr none) = elim none [ ]

first_here : (p q : Length) (w k : ℕ) (opening : Bool) (rest : List Bracket) → p ≡ q → IsAmong (bracket q w k opening) (bracket p w k opening ∷ rest)
first_here p q w k opening rest same = inl (ap (λ (x : Length). bracket x w k opening) (sym same))

pub bracket_of_stray : (p q : Length) (k w : ℕ) → p ≡ q → IsBracketFound p (stray k w) q (Some (token_at q w k false))
bracket_of_stray p q k w same = record { stands = first_here p q w k false [] same; column = refl }

pub no_bracket_of_stray : (p q : Length) (k w : ℕ) → (p ≡ q → ⊥) → IsBracketFound p (stray k w) q None
no_bracket_of_stray p q k w apart = λ b there. lone_apart p q w k false b apart there

pub bracket_of_capped : (p q : Length) (k w : ℕ) → p ≡ q → IsBracketFound p (capped k w) q (Some (token_at q w k true))
bracket_of_capped p q k w same = record { stands = first_here p q w k true [] same; column = refl }

pub no_bracket_of_capped : (p q : Length) (k w : ℕ) → (p ≡ q → ⊥) → IsBracketFound p (capped k w) q None
no_bracket_of_capped p q k w apart = λ b there. lone_apart p q w k true b apart there

pub bracket_opens : (p q : Length) (k o : ℕ) (i : Tree) (c : Option ℕ) → p ≡ q
    → IsBracketFound p (pair k o i c) q (Some (token_at q o k true))
bracket_opens p q k o i c same = record {
  stands = first_here p q o k true (tree_tokens (inside_start p o) i ++ closing_brackets (inside_end p o i) k c) same;
  column = refl;
}

pub bracket_closes : (p q : Length) (k o : ℕ) (i : Tree) (c : Option ℕ) (w : ℕ) → c ≡ Some w → inside_end p o i ≡ q
    → IsBracketFound p (pair k o i c) q (Some (token_at q w k false))
bracket_closes p q k o i c w closing same = record {
  stands = inr (IsAmong-right (bracket q w k false) (tree_tokens (inside_start p o) i) (closing_brackets (inside_end p o i) k c)
      (subst (λ (x : Option ℕ). IsAmong (bracket q w k false) (closing_brackets (inside_end p o i) k x)) (sym closing)
      (first_here (inside_end p o i) q w k false [] same)));
  column = refl;
}

pub closing_apart : (ends q : Length) (k : ℕ) (c : Option ℕ) (b : Bracket) → (c ≡ None) ⊎ (ends ≢ q) → IsAmong b (closing_brackets ends k c) → b.place ≢ q
closing_apart ends q k None b h none = elim none [ ]
closing_apart ends q k (Some w) b (inl unclosed) last = cc
closing_apart ends q k (Some w) b (inr apart) last = lone_apart ends q w k false b apart last

pub bracket_inside : (p q : Length) (k o : ℕ) (i : Tree) (c : Option ℕ) (found : Option Token) → (p ≡ q → ⊥)
    → (c ≡ None) ⊎ (inside_end p o i ≢ q)
    → IsBracketFound (inside_start p o) i q found → IsBracketFound p (pair k o i c) q found
bracket_inside p q k o i c found apart last h =
    found_by p (pair k o i c) (inside_start p o) i q found
    (record { up = λ b in_it. inr (IsAmong-left b (tree_tokens (inside_start p o) i) (closing_brackets (inside_end p o i) k c) in_it); down = down }) h
  where
    down : (b : Bracket) → HasBracket p (pair k o i c) b → b.place ≡ q → HasBracket (inside_start p o) i b
    down b (inl first) same = absurd (apart (sym (ap (λ (x : Bracket). x.place) first) ∙ same))
    down b (inr later) same =
        elim (IsAmong-append b (tree_tokens (inside_start p o) i) (closing_brackets (inside_end p o i) k c) later)
        [ inl in_it ↦ in_it | inr closing ↦ absurd (closing_apart (inside_end p o i) q k c b last closing same) ]

pub bracket_in_first : (p : Length) (x y : Tree) (q : Length) (found : Option Token) → is_before q (length_plus p (tree_length x)) ≡ true
    → IsBracketFound p x q found → IsBracketFound p (two x y) q found
bracket_in_first p x y q found e h =
    found_by p (two x y) p x q found
    (record { up = λ b in_x. IsAmong-left b (tree_tokens p x) (tree_tokens (length_plus p (tree_length x)) y) in_x; down = down }) h
  where
    down : (b : Bracket) → HasBracket p (two x y) b → b.place ≡ q → HasBracket p x b
    down b there same =
        elim (IsAmong-append b (tree_tokens p x) (tree_tokens (length_plus p (tree_length x)) y) there)
        [ inl in_x ↦ in_x | inr in_y ↦ absurd (none_behind (length_plus p (tree_length x)) y q e b in_y same) ]

pub bracket_in_second : (p : Length) (x y : Tree) (q : Length) (found : Option Token) → IsTree x → is_before q (length_plus p (tree_length x)) ≡ false
    → IsBracketFound (length_plus p (tree_length x)) y q found → IsBracketFound p (two x y) q found
bracket_in_second p x y q found tree e h =
    found_by p (two x y) (length_plus p (tree_length x)) y q found
    (record { up = λ b in_y. IsAmong-right b (tree_tokens p x) (tree_tokens (length_plus p (tree_length x)) y) in_y; down = down }) h
  where
    down : (b : Bracket) → HasBracket p (two x y) b → b.place ≡ q → HasBracket (length_plus p (tree_length x)) y b
    down b there same =
        elim (IsAmong-append b (tree_tokens p x) (tree_tokens (length_plus p (tree_length x)) y) there)
        [ inl in_x ↦ absurd (none_passed p x q tree e b in_x same) | inr in_y ↦ in_y ]

-- a list of three parts has the brackets of a list of the first and a list of the other two
of_three : (p : Length) (x y z : Tree) (q : Length) (found : Option Token) → IsBracketFound p (two x (two y z)) q found → IsBracketFound p (three x y z) q found
of_three p x y z q None h = h
of_three p x y z q (Some found) h = record { stands = h.stands; column = h.column }

pub bracket_in_first_of_three : (p : Length) (x y z : Tree) (q : Length) (found : Option Token) → is_before q (length_plus p (tree_length x)) ≡ true
    → IsBracketFound p x q found → IsBracketFound p (three x y z) q found
bracket_in_first_of_three p x y z q found e h = of_three p x y z q found (bracket_in_first p x (two y z) q found e h)

pub bracket_in_second_of_three : (p : Length) (x y z : Tree) (q : Length) (found : Option Token) → IsTree x
    → is_before q (length_plus p (tree_length x)) ≡ false
    → is_before q (length_plus (length_plus p (tree_length x)) (tree_length y)) ≡ true
    → IsBracketFound (length_plus p (tree_length x)) y q found → IsBracketFound p (three x y z) q found
bracket_in_second_of_three p x y z q found tree e f h =
    of_three p x y z q found
    (bracket_in_second p x (two y z) q found tree e (bracket_in_first (length_plus p (tree_length x)) y z q found f h))

pub bracket_in_third_of_three : (p : Length) (x y z : Tree) (q : Length) (found : Option Token) → IsTree x → IsTree y
    → is_before q (length_plus p (tree_length x)) ≡ false
    → is_before q (length_plus (length_plus p (tree_length x)) (tree_length y)) ≡ false
    → IsBracketFound (length_plus (length_plus p (tree_length x)) (tree_length y)) z q found → IsBracketFound p (three x y z) q found
bracket_in_third_of_three p x y z q found tree_x tree_y e f h =
    of_three p x y z q found
    (bracket_in_second p x (two y z) q found tree_x e (bracket_in_second (length_plus p (tree_length x)) y z q found tree_y f h))

pub ruleset own_brackets = (bracket_of_stray, bracket_of_capped, bracket_opens, bracket_closes)

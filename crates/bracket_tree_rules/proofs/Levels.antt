-- The level at a place is the level after the last entry before it.
use Rattle.std.proofs.Common.{◌≡◌, ◌⊎◌, ℕ, suc, Bool, true, false, cond, Option, Some, None, List, [], ◌∷◌, ◌++◌, length, drop, refl, ap, sym, ◌∙◌, subst, arith, inl, inr}
use Rattle.std.proofs.lemmas.Bool.Decides.{nat_tests}
use Rattle.std.proofs.lemmas.Grind.{common_steps}
use Rattle.text_lengths.specs.declared.Length.{Length}
use Rattle.text_lengths.specs.Length.{no_length, length_plus, is_before}
use Rattle.text_lengths.proofs.Lengths.{length_plus_assoc}
use Rattle.bracket_rules.specs.Parse.{Bracket, bracket, Spot, Judged, Event, opens, too_deep, closes, unexpected, event, stack_after, judged_opening, Story, first_closer, told, parse, bracket_story, stack_before, bracket_level}
use Rattle.bracket_tree_rules.specs.Tree.{Tree, text, pair, stray, capped, nothing, two, three, wide, width_of, tree_length, inside_start, inside_end, closing_brackets, tree_tokens, level_before, tree_story, tree_level}

pub level_before-opening : (p : Length) (level : ℕ) (b : Bracket) (n : ℕ) (closer : Option Spot) (rest : List Judged)
    → level_before p level (judged_opening b n closer ∷ rest) ≡ level_before p (cond (is_before b.place p) (suc n) level) rest
level_before-opening p level b n None rest = refl
level_before-opening p level b n (Some c) rest = refl

length-cond : (c : Bool) (x y : List Bracket) → length (cond c x y) ≡ cond c (length x) (length y)
length-cond true x y = refl
length-cond false x y = refl

cond_same : (c : Bool) (n : ℕ) → cond c n n ≡ n
cond_same true n = refl
cond_same false n = refl

level_before-told : (p : Length) (stack : List Bracket) (b : Bracket) (e : Event) (s : Story)
    → level_before p (length stack) (told stack b e s).entries
    ≡ level_before p (length (cond (is_before b.place p) (stack_after stack b e) stack)) s.entries
level_before-told p stack b opens s =
    level_before-opening p (length stack) b (length stack) (first_closer s.closers) s.entries
    ∙ ap (λ (n : ℕ). level_before p n s.entries) (sym (length-cond (is_before b.place p) (b ∷ stack) stack))
level_before-told p stack b too_deep s =
    ap (λ (n : ℕ). level_before p n s.entries) (sym (cond_same (is_before b.place p) (length stack)) ∙ sym (length-cond (is_before b.place p) stack stack))
level_before-told p stack b (closes depth) s =
    ap (λ (n : ℕ). level_before p n s.entries) (sym (length-cond (is_before b.place p) (stack_after stack b (closes depth)) stack))
level_before-told p stack b unexpected s =
    ap (λ (n : ℕ). level_before p n s.entries) (sym (length-cond (is_before b.place p) stack stack))

-- ---- brackets in order

pub not_before_later : (p q r : Length) → is_before q p ≡ false → is_before r q ≡ false → is_before r p ≡ false
not_before_later p q r h k = grind (arith, nat_tests)

-- the brackets are in order, between p and q
pub IsWithin : Length → Length → List Bracket → Type 0
IsWithin p q [] = is_before q p ≡ false
IsWithin p q (b ∷ rest) = (is_before b.place p ≡ false) × IsWithin b.place q rest

IsWithin-from : (o p q : Length) (bs : List Bracket) → is_before p o ≡ false → IsWithin p q bs → IsWithin o q bs
unfolding IsWithin
IsWithin-from o p q [] h k = not_before_later o p q h k
IsWithin-from o p q (b ∷ rest) h k = (not_before_later o p b.place h k.0, k.1)

IsWithin-append : (p q r : Length) (xs ys : List Bracket) → IsWithin p q xs → IsWithin q r ys → IsWithin p r (xs ++ ys)
unfolding IsWithin
IsWithin-append p q r [] ys h k = IsWithin-from p q r ys h k
IsWithin-append p q r (b ∷ rest) ys h k = (h.0, IsWithin-append b.place q r rest ys h.1 k)

pub not_before_sum : (p l : Length) → is_before (length_plus p l) p ≡ false
not_before_sum p l = grind (arith, nat_tests, common_steps)

pub not_before_itself : (p : Length) → is_before p p ≡ false
not_before_itself p = grind (arith, nat_tests)

IsWithin-one : (p : Length) (w k : ℕ) (opening : Bool) → IsWithin p (length_plus p (wide w)) (bracket p w k opening ∷ [])
unfolding IsWithin
IsWithin-one p w k opening = (not_before_itself p, not_before_sum p (wide w))

IsWithin-closing : (p : Length) (k : ℕ) (c : Option ℕ) → IsWithin p (length_plus p (wide (width_of c))) (closing_brackets p k c)
unfolding IsWithin
IsWithin-closing p k None = not_before_sum p (wide 0)
IsWithin-closing p k (Some w) = IsWithin-one p w k false

to_end : (p : Length) (bs : List Bracket) (q r : Length) → q ≡ r → IsWithin p q bs → IsWithin p r bs
to_end p bs q r e h = subst (λ (x : Length). IsWithin p x bs) e h

pub IsWithin-tree : (p : Length) (t : Tree) → IsWithin p (length_plus p (tree_length t)) (tree_tokens p t)
unfolding IsWithin
IsWithin-tree p (text l) = not_before_sum p l
IsWithin-tree p (pair k o i c) =
    let start : Length = inside_start p o in
    let ends : Length = inside_end p o i in
    to_end p (tree_tokens p (pair k o i c)) (length_plus ends (wide (width_of c))) (length_plus p (tree_length (pair k o i c)))
    (ap (λ (l : Length). length_plus l (wide (width_of c))) (length_plus_assoc p (wide o) (tree_length i))
    ∙ length_plus_assoc p (length_plus (wide o) (tree_length i)) (wide (width_of c))) (
      not_before_itself p,
      IsWithin-append p ends (length_plus ends (wide (width_of c))) (tree_tokens start i) (closing_brackets ends k c)
          (IsWithin-from p start ends (tree_tokens start i) (not_before_sum p (wide o)) (IsWithin-tree start i))
          (IsWithin-closing ends k c),
    )
IsWithin-tree p (stray k w) = IsWithin-one p w k false
IsWithin-tree p (capped k w) = IsWithin-one p w k true
IsWithin-tree p nothing = not_before_sum p no_length
IsWithin-tree p (two a b) =
    let q : Length = length_plus p (tree_length a) in
    to_end p (tree_tokens p (two a b)) (length_plus q (tree_length b)) (length_plus p (tree_length (two a b)))
    (length_plus_assoc p (tree_length a) (tree_length b))
    (IsWithin-append p q (length_plus q (tree_length b)) (tree_tokens p a) (tree_tokens q b) (IsWithin-tree p a) (IsWithin-tree q b))
IsWithin-tree p (three a b c) =
    let q : Length = length_plus p (tree_length a) in
    let r : Length = length_plus q (tree_length b) in
    let rest = IsWithin-append q r (length_plus r (tree_length c)) (tree_tokens q b) (tree_tokens r c) (IsWithin-tree q b) (IsWithin-tree r c) in
    to_end p (tree_tokens p (three a b c)) (length_plus r (tree_length c)) (length_plus p (tree_length (three a b c)))
    (ap (λ (l : Length). length_plus l (tree_length c)) (length_plus_assoc p (tree_length a) (tree_length b))
    ∙ length_plus_assoc p (length_plus (tree_length a) (tree_length b)) (tree_length c))
    (IsWithin-append p q (length_plus r (tree_length c)) (tree_tokens p a) (tree_tokens q b ++ tree_tokens r c) (IsWithin-tree p a) rest)

-- ---- the level

-- brackets at or after q do not start before p
stack_before-past : (p q r : Length) (stack bs : List Bracket) → is_before q p ≡ false → IsWithin q r bs → stack_before p stack bs ≡ stack
unfolding IsWithin
stack_before-past p q r stack [] h k = refl
stack_before-past p q r stack (b ∷ rest) h k =
    let late : is_before b.place p ≡ false = not_before_later p q b.place h k.0 in
    rw late (stack_before-past p b.place r stack rest late k.1)

late_told : (p : Length) (level : ℕ) (stack : List Bracket) (b : Bracket) (e : Event) (s : Story) → is_before b.place p ≡ false
    → level_before p level (told stack b e s).entries ≡ level_before p level s.entries
late_told p level stack b opens s late =
    level_before-opening p level b (length stack) (first_closer s.closers) s.entries
    ∙ ap (λ (c : Bool). level_before p (cond c (suc (length stack)) level) s.entries) late
late_told p level stack b too_deep s late = refl
late_told p level stack b (closes depth) s late =
    ap (λ (c : Bool). level_before p (cond c (length (drop (suc depth) stack)) level) s.entries) late
late_told p level stack b unexpected s late =
    ap (λ (c : Bool). level_before p (cond c (length stack) level) s.entries) late

level_before-past : (p q r : Length) (level : ℕ) (stack bs : List Bracket) → is_before q p ≡ false → IsWithin q r bs
    → level_before p level (parse stack bs).entries ≡ level
unfolding IsWithin
level_before-past p q r level stack [] h k = refl
level_before-past p q r level stack (b ∷ rest) h k =
    let late : is_before b.place p ≡ false = not_before_later p q b.place h k.0 in
    let e : Event = event stack b in
    late_told p level stack b e (parse (stack_after stack b e) rest) late
    ∙ level_before-past p b.place r level (stack_after stack b e) rest late k.1

early_case : (p q r : Length) (stack : List Bracket) (b : Bracket) (rest : List Bracket) → is_before b.place p ≡ true → IsWithin q r (b ∷ rest)
    → level_before p (length (stack_after stack b (event stack b))) (parse (stack_after stack b (event stack b)) rest).entries
    ≡ length (stack_before p (stack_after stack b (event stack b)) rest)
    → level_before p (length stack) (parse stack (b ∷ rest)).entries ≡ length (stack_before p stack (b ∷ rest))
early_case p q r stack b rest early k ih =
    let e : Event = event stack b in
    let s : Story = parse (stack_after stack b e) rest in
    level_before-told p stack b e s
    ∙ ap (λ (c : Bool). level_before p (length (cond c (stack_after stack b e) stack)) s.entries) early
    ∙ ih
    ∙ ap (λ (c : Bool). length (stack_before p (cond c (stack_after stack b e) stack) rest)) (sym early)

late_case : (p q r : Length) (stack : List Bracket) (b : Bracket) (rest : List Bracket) → is_before b.place p ≡ false → IsWithin q r (b ∷ rest)
    → level_before p (length stack) (parse stack (b ∷ rest)).entries ≡ length (stack_before p stack (b ∷ rest))
unfolding IsWithin
late_case p q r stack b rest late k =
    let e : Event = event stack b in
    late_told p (length stack) stack b e (parse (stack_after stack b e) rest) late
    ∙ level_before-past p b.place r (length stack) (stack_after stack b e) rest late k.1
    ∙ ap length (sym (stack_before-past p b.place r stack rest late k.1))
    ∙ ap (λ (c : Bool). length (stack_before p (cond c (stack_after stack b e) stack) rest)) (sym late)

bool_cases : (b : Bool) → (b ≡ true) ⊎ (b ≡ false)
bool_cases true = inl refl
bool_cases false = inr refl

pub level_before-parse : (p q r : Length) (stack bs : List Bracket) → IsWithin q r bs
    → level_before p (length stack) (parse stack bs).entries ≡ length (stack_before p stack bs)
unfolding IsWithin
level_before-parse p q r stack [] k = refl
level_before-parse p q r stack (b ∷ rest) k = elim (bool_cases (is_before b.place p)) [
  | inl early ↦ early_case p q r stack b rest early k (level_before-parse p b.place r (stack_after stack b (event stack b)) rest k.1)
  | inr late ↦ late_case p q r stack b rest late k
]

pub tree_level-is : (t : Tree) (p : Length) → bracket_story (tree_tokens no_length t) ≡ tree_story t
    → tree_level t p ≡ bracket_level (tree_tokens no_length t) p
tree_level-is t p h =
    ap (level_before p 0) (sym h)
    ∙ level_before-parse p no_length (length_plus no_length (tree_length t)) [] (tree_tokens no_length t) (IsWithin-tree no_length t)

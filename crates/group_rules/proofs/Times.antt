-- The number of occurrences of a tag in a list, and in a filtered list.
use Rattle.std.proofs.Common.{◌≡◌, ℕ, suc, ◌+◌, ◌<◌, ◌≤◌, ◌==◌, ◌&&◌, arith, Bool, true, false, if◌then◌else◌, List, [], ◌∷◌, ◌++◌, length, filter, refl, sym, ap, ap₂, subst, ◌∙◌, eqb-true}
use Rattle.std.proofs.lemmas.Bool.{and_parts, eq-eqb, true_from_ne_false}
use Rattle.std.proofs.lemmas.List.{length-append}
use Rattle.std.proofs.lemmas.List.Elements.{filter-append}
use Rattle.undo_rules.specs.declared.Tag.{Tag}
use Rattle.undo_rules.specs.Tags.{is_same_tag}
use Rattle.group_rules.specs.Shared.{times}

pub is_same_tag_self : (tag : Tag) → is_same_tag tag tag ≡ true
is_same_tag_self tag =
    ap (λ t. t && tag.version == tag.version && tag.members == tag.members) (eq-eqb tag.least tag.least refl)
    ∙ ap (λ t. t && tag.members == tag.members) (eq-eqb tag.version tag.version refl) ∙ eq-eqb tag.members tag.members refl

pub same_tag : (a b : Tag) → is_same_tag a b ≡ true → a ≡ b
same_tag a b same =
    let parts = and_parts (a.least == b.least && a.version == b.version) (a.members == b.members) same in
    let first = and_parts (a.least == b.least) (a.version == b.version) parts.0 in
    ap (λ (n : ℕ). record a { least = n }) (eqb-true a.least b.least first.0)
    ∙ ap (λ (n : ℕ). record a { least = b.least; version = n }) (eqb-true a.version b.version first.1)
    ∙ ap (λ (n : ℕ). record b { members = n }) (eqb-true a.members b.members parts.1)

pub is_same_tag_sym : (a b : Tag) → is_same_tag a b ≡ is_same_tag b a
is_same_tag_sym a b = by (is_same_tag a b) (is_same_tag b a) refl refl
  where
    by : (s t : Bool) → is_same_tag a b ≡ s → is_same_tag b a ≡ t → s ≡ t
    by true true e f = refl
    by true false e f = sym (is_same_tag_self b) ∙ ap (is_same_tag b) (sym (same_tag a b e)) ∙ f
    by false true e f = sym e ∙ ap (is_same_tag a) (same_tag b a f) ∙ is_same_tag_self a
    by false false e f = refl

pub times-append : (tag : Tag) (xs ys : List Tag) → times tag (xs ++ ys) ≡ times tag xs + times tag ys
times-append tag xs ys =
    ap length (filter-append (is_same_tag tag) xs ys) ∙ length-append (filter (is_same_tag tag) xs) (filter (is_same_tag tag) ys)

pub times-cons : (tag x : Tag) (tags : List Tag) → times tag (x ∷ tags) ≡ (if is_same_tag tag x then suc (times tag tags) else times tag tags)
times-cons tag x tags = by (is_same_tag tag x)
  where
    by : (t : Bool) → length (if t then x ∷ filter (is_same_tag tag) tags else filter (is_same_tag tag) tags)
        ≡ (if t then suc (times tag tags) else times tag tags)
    by true = refl
    by false = refl

pub times_same : (tag x : Tag) (tags : List Tag) → is_same_tag tag x ≡ true → times tag (x ∷ tags) ≡ suc (times tag tags)
times_same tag x tags same = times-cons tag x tags ∙ ap (λ t. if t then suc (times tag tags) else times tag tags) same

pub times_other : (tag x : Tag) (tags : List Tag) → is_same_tag tag x ≡ false → times tag (x ∷ tags) ≡ times tag tags
times_other tag x tags other = times-cons tag x tags ∙ ap (λ t. if t then suc (times tag tags) else times tag tags) other

pub times_head : (tag : Tag) (tags : List Tag) → 0 < times tag (tag ∷ tags)
times_head tag tags = omega (arith, times_same tag tag tags (is_same_tag_self tag))

pub times_tail : (tag x : Tag) (tags : List Tag) → times tag tags ≤ times tag (x ∷ tags)
times_tail tag x tags = grind (arith, times-cons tag x tags)

-- an item of a list is the first one or one of the rest
pub times_cases : (P : Tag → Type 0) (x : Tag) (tags : List Tag) → P x → ((tag : Tag) → 0 < times tag tags → P tag)
    → (tag : Tag) → 0 < times tag (x ∷ tags) → P tag
times_cases P x tags here later tag there = by (is_same_tag tag x) refl
  where
    by : (t : Bool) → is_same_tag tag x ≡ t → P tag
    by true e = subst P (sym (same_tag tag x e)) here
    by false e = later tag (omega (arith, there, times_other tag x tags e))

-- a filter keeps all occurrences of a tag that passes it
pub times-filter_in : (test : Tag → Bool) (tag : Tag) (tags : List Tag) → test tag ≡ true → times tag (filter test tags) ≡ times tag tags
times-filter_in test tag [] pass = refl
times-filter_in test tag (x ∷ tags) pass = grind (arith, times-cons, same_tag tag x, times-filter_in test tag tags pass)

times-filter_out : (test : Tag → Bool) (tag : Tag) (tags : List Tag) → test tag ≡ false → times tag (filter test tags) ≡ 0
times-filter_out test tag [] fail = refl
times-filter_out test tag (x ∷ tags) fail = grind (arith, times-cons, same_tag tag x, times-filter_out test tag tags fail)

-- a tag that a filter keeps passes it
pub times_filter_passes : (test : Tag → Bool) (tag : Tag) (tags : List Tag) → 0 < times tag (filter test tags) → test tag ≡ true
times_filter_passes test tag tags there =
    true_from_ne_false (test tag) (λ fail. omega (arith, there, times-filter_out test tag tags fail))

pub times-filter-le : (test : Tag → Bool) (tag : Tag) (tags : List Tag) → times tag (filter test tags) ≤ times tag tags
times-filter-le test tag [] = omega arith
times-filter-le test tag (x ∷ tags) = grind (arith, times-cons, times-filter-le test tag tags)

-- two tests that agree on each of the tags
pub filter_same : (p q : Tag → Bool) (tags : List Tag) → ((tag : Tag) → 0 < times tag tags → p tag ≡ q tag) → filter p tags ≡ filter q tags
filter_same p q [] same = refl
filter_same p q (x ∷ tags) same =
    ap₂ (λ t rest. if t then x ∷ rest else rest) (same x (times_head x tags))
    (filter_same p q tags (λ tag there. same tag (omega (arith, there, times_tail tag x tags))))

pub filter_comm : (p q : Tag → Bool) (tags : List Tag) → filter p (filter q tags) ≡ filter q (filter p tags)
filter_comm p q [] = refl
filter_comm p q (x ∷ tags) = grind (arith, filter_comm p q tags)

pub filter_all : (tags : List Tag) → filter (λ tag. true) tags ≡ tags
filter_all [] = refl
filter_all (x ∷ tags) = ap (λ rest. x ∷ rest) (filter_all tags)

pub filter_none : (tags : List Tag) → filter (λ tag. false) tags ≡ []
filter_none [] = refl
filter_none (x ∷ tags) = filter_none tags

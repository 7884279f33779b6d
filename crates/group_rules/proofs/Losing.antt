-- The steps of a document that lost tags.
use Rattle.std.proofs.Common.{◌≡◌, ℕ, ◌&&◌, ◌||◌, not, nat_lt, arith, Bool, true, false, if◌then◌else◌, List, [], ◌∷◌, ◌++◌, map, filter, Option, Some, None, option_to_list, refl, sym, ap, ap₂, ◌∙◌, ⊎_elim}
use Rattle.std.proofs.lemmas.Bool.{and_parts, and_right, or_cases, lt-ltb}
use Rattle.undo_rules.specs.declared.Tag.{Tag}
use Rattle.undo_rules.specs.Stack.{Step, Stack}
use Rattle.undo_rules.specs.Tags.{is_same_tag, is_tag, without_tag, is_member, passes}
use Rattle.document_rules.specs.Document.{FlatChange, FlatState, flat_untag}
use Rattle.group_rules.specs.Group.{tags_of, without_tags}
use Rattle.group_rules.specs.Shared.{times}
use Rattle.group_rules.proofs.Times.{same_tag, is_same_tag_sym, times_same, times_other}

-- the tag, unless it passes the test
abbrev pub kept : (Tag → Bool) → Option Tag → Option Tag
kept test None = None
kept test (Some tag) = if test tag then None else Some tag

abbrev pub losing : (Tag → Bool) → Step FlatChange → Step FlatChange
losing test step = record step { tag = kept test step.tag }

abbrev pub losing_all : (Tag → Bool) → Stack FlatChange → Stack FlatChange
losing_all test s = record s { undo = map (losing test) s.undo; redo = map (losing test) s.redo }

pub losing_is : (test : Tag → Bool) (step : Step FlatChange)
    → (if passes test step.tag then record step { tag = None } else step) ≡ losing test step
losing_is test step = by step.tag refl
  where
    one : (b : Bool) (tag : Tag) → step.tag ≡ Some tag
        → (if b then record step { tag = None } else step) ≡ record step { tag = if b then None else Some tag }
    one true tag e = refl
    one false tag e = ap (λ (tag : Option Tag). record step { tag = tag }) e

    by : (tag : Option Tag) → step.tag ≡ tag → (if passes test tag then record step { tag = None } else step) ≡ record step { tag = kept test tag }
    by None e = ap (λ (tag : Option Tag). record step { tag = tag }) e
    by (Some tag) e = one (test tag) tag e

losing_one : (tag : Tag) (steps : List (Step FlatChange)) → map (without_tag tag) steps ≡ map (losing (is_same_tag tag)) steps
losing_one tag [] = refl
losing_one tag (step ∷ steps) =
    ap₂ (λ (s : Step FlatChange) rest. s ∷ rest)
    (ap (λ t. if t then record step { tag = None } else step) (by step.tag) ∙ losing_is (is_same_tag tag) step) (losing_one tag steps)
  where
    by : (own : Option Tag) → is_tag tag own ≡ passes (is_same_tag tag) own
    by None = refl
    by (Some other) = refl

losing_none : (steps : List (Step FlatChange)) → map (losing (λ tag. false)) steps ≡ steps
losing_none [] = refl
losing_none (step ∷ steps) = ap₂ (λ (tag : Option Tag) rest. record step { tag = tag } ∷ rest) (by step.tag) (losing_none steps)
  where
    by : (tag : Option Tag) → kept (λ tag. false) tag ≡ tag
    by None = refl
    by (Some tag) = refl

losing_twice : (p q : Tag → Bool) (steps : List (Step FlatChange))
    → map (losing q) (map (losing p) steps) ≡ map (losing (λ tag. p tag || q tag)) steps
losing_twice p q [] = refl
losing_twice p q (step ∷ steps) = ap₂ (λ (tag : Option Tag) rest. record step { tag = tag } ∷ rest) (by step.tag) (losing_twice p q steps)
  where
    one : (b : Bool) (tag : Tag) → kept q (if b then None else Some tag) ≡ (if b || q tag then None else Some tag)
    one true tag = refl
    one false tag = refl

    by : (tag : Option Tag) → kept q (kept p tag) ≡ kept (λ tag. p tag || q tag) tag
    by None = refl
    by (Some tag) = one (p tag) tag

-- the tags that are left
pub tags_of-losing : (test : Tag → Bool) (steps : List (Step FlatChange))
    → tags_of (map (losing test) steps) ≡ filter (λ tag. not (test tag)) (tags_of steps)
tags_of-losing test [] = refl
tags_of-losing test (step ∷ steps) = by step.tag (tags_of-losing test steps)
  where
    one : (b : Bool) (tag : Tag) (tags rest : List Tag) → tags ≡ rest
        → option_to_list (if b then None else Some tag) ++ tags ≡ (if not b then tag ∷ rest else rest)
    one true tag tags rest same = same
    one false tag tags rest same = ap (λ tags. tag ∷ tags) same

    by : (tag : Option Tag) → tags_of (map (losing test) steps) ≡ filter (λ tag. not (test tag)) (tags_of steps)
        → option_to_list (kept test tag) ++ tags_of (map (losing test) steps) ≡ filter (λ tag. not (test tag)) (option_to_list tag ++ tags_of steps)
    by None same = same
    by (Some tag) same = one (test tag) tag (tags_of (map (losing test) steps)) (filter (λ tag. not (test tag)) (tags_of steps)) same

-- ---- tags that are lost in document n

abbrev pub is_lost : List Tag → Tag → Bool
is_lost lost tag = nat_lt 0 (times tag lost)

abbrev pub lost_in : List Tag → ℕ → Tag → Bool
lost_in [] n tag = false
lost_in (one ∷ lost) n tag = (is_member n one && is_same_tag one tag) || lost_in lost n tag

pub without_tags-is : (lost : List Tag) (n : ℕ) (f : FlatState) → without_tags lost n f ≡ record f { history = losing_all (lost_in lost n) f.history }
without_tags-is [] n f =
    ap₂ (λ (u r : List (Step FlatChange)). record f { history = record f.history { undo = u; redo = r } }) (sym (losing_none f.history.undo))
    (sym (losing_none f.history.redo))
without_tags-is (tag ∷ lost) n f = by (is_member n tag) (λ f. without_tags-is lost n f)
  where
    both : (steps : List (Step FlatChange))
        → map (losing (lost_in lost n)) (map (without_tag tag) steps) ≡ map (losing (λ other. is_same_tag tag other || lost_in lost n other)) steps
    both steps = ap (map (losing (lost_in lost n))) (losing_one tag steps) ∙ losing_twice (is_same_tag tag) (lost_in lost n) steps

    by : (b : Bool) → ((f : FlatState) → without_tags lost n f ≡ record f { history = losing_all (lost_in lost n) f.history })
        → without_tags lost n (if b then flat_untag f tag else f)
        ≡ record f { history = losing_all (λ other. (b && is_same_tag tag other) || lost_in lost n other) f.history }
    by true rest =
        rest (flat_untag f tag)
        ∙ ap₂ (λ (u r : List (Step FlatChange)). record f { history = record f.history { undo = u; redo = r } }) (both f.history.undo)
        (both f.history.redo)
    by false rest = rest f

-- a tag of document n is lost there where it is lost at all
pub lost_in-member : (lost : List Tag) (n : ℕ) (tag : Tag) → is_member n tag ≡ true → lost_in lost n tag ≡ is_lost lost tag
lost_in-member [] n tag member = refl
lost_in-member (one ∷ lost) n tag member = by (is_same_tag one tag) refl (lost_in-member lost n tag member)
  where
    by : (s : Bool) → is_same_tag one tag ≡ s → lost_in lost n tag ≡ is_lost lost tag
        → ((is_member n one && s) || lost_in lost n tag) ≡ is_lost (one ∷ lost) tag
    by true e rest =
        ap (λ t. (t && true) || lost_in lost n tag) (ap (is_member n) (same_tag one tag e) ∙ member)
        ∙ sym (lt-ltb 0 (times tag (one ∷ lost)) (omega (arith, times_same tag one lost (is_same_tag_sym tag one ∙ e))))
    by false e rest =
        ap (λ t. t || lost_in lost n tag) (and_right (is_member n one) false refl) ∙ rest
        ∙ ap (nat_lt 0) (sym (times_other tag one lost (is_same_tag_sym tag one ∙ e)))

pub lost_in_only : (lost : List Tag) (n : ℕ) (tag : Tag) → lost_in lost n tag ≡ true → is_member n tag ≡ true
lost_in_only [] n tag is = absurd cc
lost_in_only (one ∷ lost) n tag is =
    ⊎_elim
    (λ here. let parts = and_parts (is_member n one) (is_same_tag one tag) here in ap (is_member n) (sym (same_tag one tag parts.1)) ∙ parts.0)
    (λ later. lost_in_only lost n tag later)
    (or_cases (is_member n one && is_same_tag one tag) (lost_in lost n tag) is)

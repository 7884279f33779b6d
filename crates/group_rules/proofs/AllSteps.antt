-- The tags of all steps of a document, in the order in which they were made.
use Rattle.std.proofs.Common.{◌≡◌, ◌+◌, Bool, true, false, if◌then◌else◌, List, [], ◌∷◌, ◌++◌, length, reverse, filter, Option, Some, None, option_to_list, refl, sym, ap, ap₂, ◌∙◌, append_assoc}
use Rattle.std.proofs.lemmas.List.{append-nil, reverse-append, length-reverse}
use Rattle.std.proofs.lemmas.List.Elements.{filter-append}
use Rattle.undo_rules.specs.declared.Tag.{Tag}
use Rattle.undo_rules.specs.Stack.{Step, Stack}
use Rattle.undo_rules.specs.Tags.{is_same_tag, all_steps}
use Rattle.document_rules.specs.Document.{FlatChange}
use Rattle.group_rules.specs.Group.{tags_of}
use Rattle.group_rules.specs.Shared.{times}
use Rattle.group_rules.proofs.Times.{times-append}

pub tags_of-append : (xs ys : List (Step FlatChange)) → tags_of (xs ++ ys) ≡ tags_of xs ++ tags_of ys
tags_of-append [] ys = refl
tags_of-append (step ∷ xs) ys =
    ap (λ tags. option_to_list step.tag ++ tags) (tags_of-append xs ys)
    ∙ sym (append_assoc (option_to_list step.tag) (tags_of xs) (tags_of ys))

tags_of-reverse : (steps : List (Step FlatChange)) → tags_of (reverse steps) ≡ reverse (tags_of steps)
tags_of-reverse [] = refl
tags_of-reverse (step ∷ steps) =
    ap tags_of (reverse-append (step ∷ []) steps) ∙ tags_of-append (reverse steps) (step ∷ [])
    ∙ ap₂ (λ s t. s ++ t) (tags_of-reverse steps) (append-nil (option_to_list step.tag) ∙ by step.tag)
    ∙ sym (reverse-append (option_to_list step.tag) (tags_of steps))
  where
    by : (tag : Option Tag) → option_to_list tag ≡ reverse (option_to_list tag)
    by None = refl
    by (Some tag) = refl

pub filter-reverse : (test : Tag → Bool) (tags : List Tag) → filter test (reverse tags) ≡ reverse (filter test tags)
filter-reverse test [] = refl
filter-reverse test (tag ∷ tags) =
    ap (filter test) (reverse-append (tag ∷ []) tags) ∙ filter-append test (reverse tags) (tag ∷ [])
    ∙ ap (λ s. s ++ filter test (tag ∷ [])) (filter-reverse test tags) ∙ by (test tag)
  where
    by : (t : Bool) → reverse (filter test tags) ++ (if t then tag ∷ [] else []) ≡ reverse (if t then tag ∷ filter test tags else filter test tags)
    by true = sym (reverse-append (tag ∷ []) (filter test tags))
    by false = append-nil (reverse (filter test tags))

pub tags_of-all_steps : (s : Stack FlatChange) → tags_of (all_steps s) ≡ reverse (tags_of s.undo) ++ tags_of s.redo
tags_of-all_steps s = tags_of-append (reverse s.undo) s.redo ∙ ap (λ t. t ++ tags_of s.redo) (tags_of-reverse s.undo)

pub times-all_steps : (tag : Tag) (s : Stack FlatChange) → times tag (tags_of (all_steps s)) ≡ times tag (tags_of s.undo) + times tag (tags_of s.redo)
times-all_steps tag s =
    ap (times tag) (tags_of-all_steps s) ∙ times-append tag (reverse (tags_of s.undo)) (tags_of s.redo)
    ∙ ap (λ n. n + times tag (tags_of s.redo))
    (ap length (filter-reverse (is_same_tag tag) (tags_of s.undo)) ∙ length-reverse (filter (is_same_tag tag) (tags_of s.undo)))

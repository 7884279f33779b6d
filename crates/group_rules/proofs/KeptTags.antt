-- A property of the tags of a document's steps is kept by each call: no rule of one document makes a tag.
use Rattle.std.proofs.Common.{◌≡◌, ℕ, ◌+◌, ◌-◌, not, ◌<◌, arith, map, reverse, Bool, nat_lt, List, [], ◌∷◌, ◌++◌, length, Option, Some, None, IfSome, option_to_list, Ok, All, sym, subst}
use Rattle.std.proofs.lemmas.List.{length-reverse, reverse-reverse, get_or-reverse, length-append, get_or_append_left, get_or-append-add}
use Rattle.std.proofs.lemmas.List.Elements.{All-nil, All-cons, All-head, All-tail, All-append, All-filter}
use Rattle.unit_text.specs.declared.kind.Kind.{Kind}
use Rattle.unit_text.specs.Kinds.{normalized}
use Rattle.text_rules.specs.declared.Op.{Op}
use Rattle.batch_rules.specs.Batches.{most_units}
use Rattle.hiding_rules.specs.Hidden.{Scanner}
use Rattle.undo_rules.specs.declared.Tag.{Tag}
use Rattle.undo_rules.specs.Stack.{Step, Stack, empty_stack}
use Rattle.undo_rules.specs.Tags.{tagged_front, tagged, all_steps}
use Rattle.document_rules.specs.Document.{FlatChange, FlatState, flat_open, flat_edit, flat_eol, flat_undo, flat_redo}
use Rattle.search_rules.specs.Replacing.{edited_alone, flat_replace_all}
use Rattle.group_rules.specs.Group.{tags_of}
use Rattle.group_rules.specs.Going.{undoing, redoing, front_tag}
use Rattle.group_rules.proofs.Changed.{IsChanged, accepted_value, changed_edit, changed_eol, changed_alone, changed_replace_all, HasMoved, undoing_moves, redoing_moves}
use Rattle.group_rules.proofs.Losing.{losing, losing_all, tags_of-losing}

-- ---- steps

-- P holds for the step's tag, if it has one
abbrev pub IsFor : (Tag → Type 0) → Step FlatChange → Type 0
IsFor P step = IfSome step.tag P

-- P holds for the tags of all steps
pub record AllTags (P : Tag → Type 0) (s : Stack FlatChange) : Type 0 where
  pub undo : All (IsFor P) s.undo
  pub redo : All (IsFor P) s.redo

pub no_tags : (P : Tag → Type 0) → AllTags P empty_stack
no_tags P = record { undo = All-nil (IsFor P); redo = All-nil (IsFor P) }

tags_front : (P : Tag → Type 0) (tag : Tag) (steps : List (Step FlatChange)) → P tag → All (IsFor P) steps → All (IsFor P) (tagged_front steps tag)
tags_front P tag [] p kept = kept
tags_front P tag (step ∷ steps) p kept = All-cons (IsFor P) (record step { tag = Some tag }) steps p (All-tail (IsFor P) step steps kept)

pub kept_tagged : (P : Tag → Type 0) (s : Stack FlatChange) (tag : Tag) → P tag → AllTags P s → AllTags P (tagged s tag)
kept_tagged P s tag p h = record { undo = tags_front P tag s.undo p h.undo; redo = h.redo }

-- ---- between the steps and the list of their tags

tag_first : (P : Tag → Type 0) (tag : Option Tag) (tags : List Tag) → All P (option_to_list tag ++ tags) → IfSome tag P × All P tags
tag_first P None tags h = (tt, h)
tag_first P (Some tag) tags h = (All-head P tag tags h, All-tail P tag tags h)

first_tag : (P : Tag → Type 0) (tag : Option Tag) (tags : List Tag) → IfSome tag P → All P tags → All P (option_to_list tag ++ tags)
first_tag P None tags p h = h
first_tag P (Some tag) tags p h = All-cons P tag tags p h

pub steps_from_tags : (P : Tag → Type 0) (steps : List (Step FlatChange)) → All P (tags_of steps) → All (IsFor P) steps
steps_from_tags P [] h = All-nil (IsFor P)
steps_from_tags P (step ∷ steps) h =
    let parts = tag_first P step.tag (tags_of steps) h in All-cons (IsFor P) step steps parts.0 (steps_from_tags P steps parts.1)

pub tags_from_steps : (P : Tag → Type 0) (steps : List (Step FlatChange)) → All (IsFor P) steps → All P (tags_of steps)
tags_from_steps P [] h = All-nil P
tags_from_steps P (step ∷ steps) h =
    first_tag P step.tag (tags_of steps) (All-head (IsFor P) step steps h) (tags_from_steps P steps (All-tail (IsFor P) step steps h))

All-reverse : {X : Type 0} (P : X → Type 0) (xs : List X) → All P xs → All P (reverse xs)
All-reverse P xs h k d lt =
    let inside : k < length xs = omega (arith, length-reverse xs) in
    subst P (sym (get_or-reverse xs k d inside)) (h (length xs - 1 - k) d (omega arith))

All-reversed : {X : Type 0} (P : X → Type 0) (xs : List X) → All P (reverse xs) → All P xs
All-reversed P xs h = subst (All P) (reverse-reverse xs) (All-reverse P (reverse xs) h)

All-left : {X : Type 0} (P : X → Type 0) (xs ys : List X) → All P (xs ++ ys) → All P xs
All-left P xs ys h k d lt = subst P (get_or_append_left xs ys d k lt) (h k d (omega (arith, length-append xs ys)))

All-right : {X : Type 0} (P : X → Type 0) (xs ys : List X) → All P (xs ++ ys) → All P ys
All-right P xs ys h k d lt = subst P (get_or-append-add xs ys k d) (h (length xs + k) d (omega (arith, length-append xs ys)))

-- the tags of all steps, in the order in which they were made
pub AllTags-from_tags : (P : Tag → Type 0) (s : Stack FlatChange) → All P (tags_of (all_steps s)) → AllTags P s
AllTags-from_tags P s h =
    let steps = steps_from_tags P (all_steps s) h in record {
      undo = All-reversed (IsFor P) s.undo (All-left (IsFor P) (reverse s.undo) s.redo steps);
      redo = All-right (IsFor P) (reverse s.undo) s.redo steps;
    }

pub tags_from_AllTags : (P : Tag → Type 0) (s : Stack FlatChange) → AllTags P s → All P (tags_of (all_steps s))
tags_from_AllTags P s h =
    tags_from_steps P (all_steps s) (All-append (IsFor P) (reverse s.undo) s.redo (All-reverse (IsFor P) s.undo h.undo) h.redo)

-- ---- the rules of one document

-- a new document has no steps
pub kept_open : (P : Tag → Type 0) (text : List ℕ) (scanner : Scanner) (kind : Kind) (f : FlatState) → flat_open text scanner kind ≡ Ok f
    → AllTags P f.history
kept_open P text scanner kind f done =
    accepted_value (λ f. AllTags P f.history) (nat_lt most_units (length (normalized kind text))) _ f done (no_tags P)

pub kept_losing : (P : Tag → Type 0) (test : Tag → Bool) (s : Stack FlatChange) → AllTags P s → AllTags P (losing_all test s)
kept_losing P test s h = record { undo = less s.undo h.undo; redo = less s.redo h.redo }
  where
    less : (steps : List (Step FlatChange)) → All (IsFor P) steps → All (IsFor P) (map (losing test) steps)
    less steps h =
        steps_from_tags P (map (losing test) steps)
        (subst (All P) (sym (tags_of-losing test steps)) (All-filter (λ tag. not (test tag)) P (tags_of steps) (tags_from_steps P steps h)))

kept_changed : (P : Tag → Type 0) (f g : FlatState) → IsChanged f g → AllTags P f.history → AllTags P g.history
kept_changed P f g changed h = record {
  undo = steps_from_tags P g.history.undo (subst (All P) (sym changed.undo) (tags_from_steps P f.history.undo h.undo));
  redo = subst (All (IsFor P)) (sym changed.redo) (All-nil (IsFor P));
}

pub kept_edit : (P : Tag → Type 0) (f g : FlatState) (ops : List Op) → flat_edit f ops ≡ Ok g → AllTags P f.history → AllTags P g.history
kept_edit P f g ops done h = kept_changed P f g (changed_edit f g ops done) h

pub kept_eol : (P : Tag → Type 0) (f g : FlatState) (kind : Kind) → flat_eol f kind ≡ Ok (Some g) → AllTags P f.history → AllTags P g.history
kept_eol P f g kind done h = kept_changed P f g (changed_eol f g kind done) h

-- a batch as a step of its own
pub kept_alone : (P : Tag → Type 0) (f g : FlatState) (ops : List Op) → edited_alone f ops ≡ Ok (Some g) → AllTags P f.history → AllTags P g.history
kept_alone P f g ops done h = kept_changed P f g (changed_alone f g ops done) h

pub kept_replace_all : (P : Tag → Type 0) (f g : FlatState) (sought text : List ℕ) → flat_replace_all f sought text ≡ Ok (Some g) → AllTags P f.history
    → AllTags P g.history
kept_replace_all P f g sought text done h = kept_changed P f g (changed_replace_all f g sought text done) h

kept_moved : (P : Tag → Type 0) (from to : FlatState → List (Step FlatChange)) (tag : Option Tag) (f g : FlatState) → HasMoved from to tag f g
    → All (IsFor P) (from f) → All (IsFor P) (to f) → All (IsFor P) (from g) × All (IsFor P) (to g)
kept_moved P from to tag f g moved h k =
    let parts = tag_first P tag (tags_of (from g)) (subst (All P) moved.taken (tags_from_steps P (from f) h)) in (
      steps_from_tags P (from g) parts.1,
      steps_from_tags P (to g) (subst (All P) (sym moved.put) (first_tag P tag (tags_of (to f)) parts.0 (tags_from_steps P (to f) k))),
    )

pub kept_undo : (P : Tag → Type 0) (f g : FlatState) → flat_undo f ≡ Ok (Some g) → AllTags P f.history → AllTags P g.history
kept_undo P f g done h =
    let lists = kept_moved P undoing.steps redoing.steps (front_tag f.history.undo) f g (undoing_moves.moved f g done) h.undo h.redo in
    record { undo = lists.0; redo = lists.1 }

pub kept_redo : (P : Tag → Type 0) (f g : FlatState) → flat_redo f ≡ Ok (Some g) → AllTags P f.history → AllTags P g.history
kept_redo P f g done h =
    let lists = kept_moved P redoing.steps undoing.steps (front_tag f.history.redo) f g (redoing_moves.moved f g done) h.redo h.undo in
    record { undo = lists.1; redo = lists.0 }

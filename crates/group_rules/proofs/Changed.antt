-- What the rules of one document do to the tags of its steps.
use Rattle.std.proofs.Common.{◌≡◌, ℕ, ◌+◌, ◌≤◌, ◌||◌, arith, nat_lt, nat_le, Bool, true, false, if◌then◌else◌, List, [], ◌∷◌, ◌++◌, length, Option, Some, None, option_to_list, Result, Ok, Err, refl, sym, ap, subst, subst₂}
use Rattle.unit_text.specs.declared.kind.Kind.{Kind}
use Rattle.unit_text.specs.Kinds.{normalized}
use Rattle.text_rules.specs.declared.Op.{Op}
use Rattle.batch_rules.specs.Refusals.{BatchRefusal}
use Rattle.batch_rules.specs.Batches.{most_units, checked_batch}
use Rattle.undo_rules.specs.declared.Tag.{Tag}
use Rattle.undo_rules.specs.Stack.{Step, joined, undone_lists, redone_lists}
use Rattle.undo_rules.specs.Tags.{is_tag}
use Rattle.document_rules.specs.Refusals.{FlatRefusal, limit}
use Rattle.document_rules.specs.Document.{greatest_version, FlatChange, FlatState, empty_document, flat_stop, edited_by, flat_edit, is_same_kind, after_batch, after_recast, flat_eol, undone_step, redone_step}
use Rattle.search_rules.specs.Replacing.{closed_after, edited_alone, flat_find, replacing, flat_replace_all}
use Rattle.group_rules.specs.Group.{tags_of}
use Rattle.group_rules.specs.Going.{Going, undoing, redoing, front_tag, is_front, is_last_version, gone_or_same}
use Rattle.group_rules.proofs.Times.{same_tag}

pub accepted_value : (P : FlatState → Type 0) (refused : Bool) (new f : FlatState) → (if refused then Err limit else Ok new) ≡ Ok f → P new → P f
accepted_value P true new f same h = absurd cc
accepted_value P false new f same h = let is : new ≡ f = cc in subst P is h

accepted_move : (P : FlatState → Type 0) (refused : Bool) (new f : FlatState) → (if refused then Err limit else Ok (Some new)) ≡ Ok (Some f) → P new → P f
accepted_move P true new f same h = absurd cc
accepted_move P false new f same h = let is : new ≡ f = cc in subst P is h

-- ---- a change

-- The redo steps are removed, and the undo steps keep their tags.
pub record IsChanged (old new : FlatState) : Type 0 where
  pub undo : tags_of new.history.undo ≡ tags_of old.history.undo
  pub redo : new.history.redo ≡ []
  pub version : old.version ≤ new.version

tags_of-joined : (is_open : Bool) (steps : List (Step FlatChange)) (change : FlatChange) (before after : ℕ)
    → tags_of (joined is_open steps change before after) ≡ tags_of steps
tags_of-joined true (step ∷ steps) change before after = refl
tags_of-joined true [] change before after = refl
tags_of-joined false steps change before after = refl

changed_by : (f g : FlatState) (r : Result (List Op) BatchRefusal) → edited_by f r ≡ Ok g → IsChanged f g
changed_by f g (Err why) done = absurd cc
changed_by f g (Ok ops) done =
    accepted_value (IsChanged f) (nat_le greatest_version f.version) (after_batch f ops) g done
    (record { undo = tags_of-joined f.history.is_open f.history.undo _ _ _; redo = refl; version = omega arith })

pub changed_edit : (f g : FlatState) (ops : List Op) → flat_edit f ops ≡ Ok g → IsChanged f g
changed_edit f g ops done = changed_by f g (checked_batch f.kind f.units ops) done

changed_recast : (f g : FlatState) (kind : Kind) (same refused : Bool)
    → (if same then Ok None else (if refused then Err limit else Ok (Some (after_recast f kind)))) ≡ Ok (Some g) → IsChanged f g
changed_recast f g kind true refused done = absurd cc
changed_recast f g kind false refused done =
    accepted_move (IsChanged f) refused (after_recast f kind) g done (record { undo = refl; redo = refl; version = omega arith })

pub changed_eol : (f g : FlatState) (kind : Kind) → flat_eol f kind ≡ Ok (Some g) → IsChanged f g
changed_eol f g kind done =
    changed_recast f g kind (is_same_kind kind f.kind) (nat_lt most_units (length (normalized kind f.units)) || nat_le greatest_version f.version) done

changed_closed : (f g : FlatState) (r : Result FlatState FlatRefusal) → closed_after r ≡ Ok (Some g)
    → ((new : FlatState) → r ≡ Ok new → IsChanged (flat_stop f) new) → IsChanged f g
changed_closed f g (Err why) done h = absurd cc
changed_closed f g (Ok new) done h =
    let is : flat_stop new ≡ g = cc in
    let changed = h new refl in
    subst (IsChanged f) is (record { undo = changed.undo; redo = changed.redo; version = changed.version })

-- a batch as a step of its own
pub changed_alone : (f g : FlatState) (ops : List Op) → edited_alone f ops ≡ Ok (Some g) → IsChanged f g
changed_alone f g [] done = absurd cc
changed_alone f g (op ∷ ops) done =
    changed_closed f g (flat_edit (flat_stop f) (op ∷ ops)) done (λ new e. changed_edit (flat_stop f) new (op ∷ ops) e)

pub changed_replace_all : (f g : FlatState) (sought text : List ℕ) → flat_replace_all f sought text ≡ Ok (Some g) → IsChanged f g
changed_replace_all f g sought text done = changed_alone f g (replacing (flat_find f sought) text) done

-- ---- undo and redo

-- The step that came next, with this tag, came from one list to the other.
pub record HasMoved (from to : FlatState → List (Step FlatChange)) (tag : Option Tag) (old new : FlatState) : Type 0 where
  pub taken : tags_of (from old) ≡ option_to_list tag ++ tags_of (from new)
  pub put : tags_of (to new) ≡ option_to_list tag ++ tags_of (to old)
  pub version : new.version ≡ old.version + 1

-- A way on which steps come from one list to another. Only the last version keeps a document from the step that comes next.
pub record IsMoving (going : Going) (to : FlatState → List (Step FlatChange)) : Type 0 where
  pub moved : (f new : FlatState) → going.rule f ≡ Ok (Some new) → HasMoved going.steps to (front_tag (going.steps f)) f new
  pub made : (f : FlatState) (tag : Tag) → is_front tag (going.steps f) ≡ true → is_last_version f ≡ false
      → (new : FlatState) × (going.rule f ≡ Ok (Some new))
  pub none : going.rule empty_document ≡ Ok None

front_is : (tag : Tag) (steps : List (Step FlatChange)) → is_front tag steps ≡ true → front_tag steps ≡ Some tag
front_is tag [] front = absurd cc
front_is tag (step ∷ steps) front = by step.tag front
  where
    by : (own : Option Tag) → is_tag tag own ≡ true → own ≡ Some tag
    by None is = absurd cc
    by (Some other) is = ap Some (sym (same_tag tag other is))

pub gone_moved : (going : Going) (to : FlatState → List (Step FlatChange)) (f : FlatState) (tag : Tag) → IsMoving going to
    → is_front tag (going.steps f) ≡ true → is_last_version f ≡ false → HasMoved going.steps to (Some tag) f (gone_or_same f (going.rule f))
gone_moved going to f tag moves front in_time =
    let made = moves.made f tag front in_time in
    subst₂ (λ own new. HasMoved going.steps to own f new) (front_is tag (going.steps f) front) (sym (ap (gone_or_same f) made.1))
    (moves.moved f made.0 made.1)

undone_taken : (undo redo : List (Step FlatChange)) → tags_of undo ≡ option_to_list (front_tag undo) ++ tags_of (undone_lists undo redo).undo
undone_taken [] redo = refl
undone_taken (step ∷ steps) redo = refl

undone_put : (undo redo : List (Step FlatChange)) → tags_of (undone_lists undo redo).redo ≡ option_to_list (front_tag undo) ++ tags_of redo
undone_put [] redo = refl
undone_put (step ∷ steps) redo = refl

redone_taken : (undo redo : List (Step FlatChange)) (is_open : Bool)
    → tags_of redo ≡ option_to_list (front_tag redo) ++ tags_of (redone_lists undo redo is_open).redo
redone_taken undo [] is_open = refl
redone_taken undo (step ∷ steps) is_open = refl

redone_put : (undo redo : List (Step FlatChange)) (is_open : Bool)
    → tags_of (redone_lists undo redo is_open).undo ≡ option_to_list (front_tag redo) ++ tags_of undo
redone_put undo [] is_open = refl
redone_put undo (step ∷ steps) is_open = refl

made_unless : (last : Bool) (new : FlatState) → last ≡ false → (made : FlatState) × ((if last then Err limit else Ok (Some new)) ≡ Ok (Some made))
made_unless last new not_last = (new, ap (λ t. if t then Err limit else Ok (Some new)) not_last)

pub undoing_moves : IsMoving undoing redoing.steps
undoing_moves = record {
  moved = λ f new done. moved f new f.history.undo done;
  made = λ f tag front not_last. made f tag f.history.undo front not_last;
  none = refl;
}
  where
    moved : (f new : FlatState) (steps : List (Step FlatChange)) → undone_step f steps ≡ Ok (Some new)
        → HasMoved undoing.steps redoing.steps (front_tag f.history.undo) f new
    moved f new [] done = absurd cc
    moved f new (step ∷ steps) done =
        accepted_move (HasMoved undoing.steps redoing.steps (front_tag f.history.undo) f) (is_last_version f) _ new done (record {
          taken = undone_taken f.history.undo f.history.redo;
          put = undone_put f.history.undo f.history.redo;
          version = refl;
        })

    made : (f : FlatState) (tag : Tag) (steps : List (Step FlatChange)) → is_front tag steps ≡ true → is_last_version f ≡ false
        → (new : FlatState) × (undone_step f steps ≡ Ok (Some new))
    made f tag [] front not_last = absurd cc
    made f tag (step ∷ steps) front not_last = made_unless (is_last_version f) _ not_last

pub redoing_moves : IsMoving redoing undoing.steps
redoing_moves = record {
  moved = λ f new done. moved f new f.history.redo done;
  made = λ f tag front not_last. made f tag f.history.redo front not_last;
  none = refl;
}
  where
    moved : (f new : FlatState) (steps : List (Step FlatChange)) → redone_step f steps ≡ Ok (Some new)
        → HasMoved redoing.steps undoing.steps (front_tag f.history.redo) f new
    moved f new [] done = absurd cc
    moved f new (step ∷ steps) done =
        accepted_move (HasMoved redoing.steps undoing.steps (front_tag f.history.redo) f) (is_last_version f) _ new done (record {
          taken = redone_taken f.history.undo f.history.redo f.history.is_open;
          put = redone_put f.history.undo f.history.redo f.history.is_open;
          version = refl;
        })

    made : (f : FlatState) (tag : Tag) (steps : List (Step FlatChange)) → is_front tag steps ≡ true → is_last_version f ≡ false
        → (new : FlatState) × (redone_step f steps ≡ Ok (Some new))
    made f tag [] front not_last = absurd cc
    made f tag (step ∷ steps) front not_last = made_unless (is_last_version f) _ not_last

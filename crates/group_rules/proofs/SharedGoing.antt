-- An undo or a redo keeps the tags that documents share in order.
use Rattle.std.proofs.Common.{◌≡◌, ℕ, ◌<◌, ◌≤◌, arith, Bool, true, false, if◌then◌else◌, List, ◌∷◌, length, Option, Some, None, Ok, refl, sym, subst, le_refl}
use Rattle.undo_rules.specs.declared.Tag.{Tag}
use Rattle.undo_rules.specs.Stack.{Step}
use Rattle.undo_rules.specs.Tags.{is_member}
use Rattle.document_rules.specs.Document.{FlatChange, FlatState}
use Rattle.group_rules.specs.declared.TheConstants.{DOC_COUNT}
use Rattle.group_rules.specs.Group.{FlatGroup, doc_in, tags_of}
use Rattle.group_rules.specs.Going.{Going, undoing, redoing, front_tag, some_last_from, other_next_from, gone_or_same, all_gone, go_by, group_undo, group_redo}
use Rattle.group_rules.specs.Shared.{versions_in, AreInOrder, AreShared}
use Rattle.group_rules.proofs.InOrder.{put, AreInOrder-swap, AreInOrder-alike, AreInOrder-moved}
use Rattle.group_rules.proofs.Changed.{HasMoved, IsMoving, gone_moved, undoing_moves, redoing_moves}
use Rattle.group_rules.proofs.Places.{doc_in-each}
use Rattle.group_rules.proofs.Shared.{tags_by, AreInOrder-with_doc}
use Rattle.group_rules.proofs.Together.{accepted_gone, accepted_together, members_in_time, members_in_front}

module _ (going : Going) (to : FlatState → List (Step FlatChange)) (moves : IsMoving going to) where
  -- the document takes the step of this tag, if it is a member
  record Goes (member : Bool) (tag : Tag) (old new : FlatState) : Type 0 where
    taken : tags_of (going.steps old) ≡ (if member then tag ∷ tags_of (going.steps new) else tags_of (going.steps new))
    put : tags_of (to new) ≡ (if member then tag ∷ tags_of (to old) else tags_of (to old))
    version : old.version ≤ new.version

  one_goes : (member : Bool) (tag : Tag) (f : FlatState) → (member ≡ true → HasMoved going.steps to (Some tag) f (gone_or_same f (going.rule f)))
      → Goes member tag f (if member then gone_or_same f (going.rule f) else f)
  one_goes true tag f moved = let new = moved refl in record { taken = new.taken; put = new.put; version = omega (arith, new.version) }
  one_goes false tag f moved = record { taken = refl; put = refl; version = le_refl f.version }

  all_gone_in_order : (g : FlatGroup) (tag : Tag) → length g ≡ DOC_COUNT → some_last_from 0 tag g ≡ false → other_next_from 0 going tag g ≡ None
      → AreInOrder (tags_by going.steps g) (tags_by to g) (versions_in g)
      → AreInOrder (tags_by going.steps (all_gone going g tag)) (tags_by to (all_gone going g tag)) (versions_in (all_gone going g tag))
  all_gone_in_order g tag long in_time next a =
      let h = all_gone going g tag in
      let from = tags_by going.steps h in
      let goes : (k : ℕ) → k < DOC_COUNT → Goes (is_member k tag) tag (doc_in g k) (doc_in h k) = λ k below.
      subst (Goes (is_member k tag) tag (doc_in g k))
      (sym (doc_in-each (λ n f. if is_member n tag then gone_or_same f (going.rule f) else f) g k (omega arith)))
      (one_goes (is_member k tag) tag (doc_in g k) (λ member.
      gone_moved going to (doc_in g k) tag moves (members_in_front going 0 k k tag g (omega arith) (omega arith) next member)
      (members_in_time 0 k k tag g (omega arith) (omega arith) in_time member))) in
      let taken = AreInOrder-alike (tags_by going.steps g) (tags_by to g) (put tag from) (tags_by to g) (versions_in g) (versions_in g) a
      (λ n below. sym (goes n below).taken) (λ n below. refl) (λ n other below there. le_refl (versions_in g n)) in
      AreInOrder-alike from (put tag (tags_by to g)) from (tags_by to h) (versions_in g) (versions_in h)
      (AreInOrder-moved tag from (tags_by to g) (versions_in g) taken) (λ n below. refl) (λ n below. (goes n below).put)
      (λ n other below there. (goes n below).version)

  go_in_order : (g h : FlatGroup) (n : ℕ) (tag : Option Tag) → length g ≡ DOC_COUNT → front_tag (going.steps (doc_in g n)) ≡ tag
      → AreInOrder (tags_by going.steps g) (tags_by to g) (versions_in g) → go_by going g n tag ≡ Ok (Some h)
      → AreInOrder (tags_by going.steps h) (tags_by to h) (versions_in h)
  go_in_order g h n None long front a done =
      let accepted = accepted_gone g h n (going.rule (doc_in g n)) done in
      let f = accepted.0 in
      let moved = subst (λ tag. HasMoved going.steps to tag (doc_in g n) f) front (moves.moved (doc_in g n) f accepted.1) in
      subst (λ (h : FlatGroup). AreInOrder (tags_by going.steps h) (tags_by to h) (versions_in h)) accepted.2
      (AreInOrder-with_doc going.steps to g n f a (record { taken = sym moved.taken; put = moved.put; version = omega (arith, moved.version) }))
  go_in_order g h n (Some tag) long front a done =
      let accepted = accepted_together (some_last_from 0 tag g) (other_next_from 0 going tag g) (all_gone going g tag) h done in
      subst (λ (h : FlatGroup). AreInOrder (tags_by going.steps h) (tags_by to h) (versions_in h)) accepted.2
      (all_gone_in_order g tag long accepted.0 accepted.1 a)

pub shared_undo : (g h : FlatGroup) (n : ℕ) → AreShared g → length g ≡ DOC_COUNT → group_undo g n ≡ Ok (Some h) → AreShared h
shared_undo g h n s long done = record {
  in_order = go_in_order undoing redoing.steps undoing_moves g h n (front_tag (undoing.steps (doc_in g n))) long refl s.in_order done;
}

pub shared_redo : (g h : FlatGroup) (n : ℕ) → AreShared g → length g ≡ DOC_COUNT → group_redo g n ≡ Ok (Some h) → AreShared h
shared_redo g h n s long done =
    let swapped = AreInOrder-swap (tags_by undoing.steps g) (tags_by redoing.steps g) (versions_in g) s.in_order in
    record {
      in_order = AreInOrder-swap (tags_by redoing.steps h) (tags_by undoing.steps h) (versions_in h)
          (go_in_order redoing undoing.steps redoing_moves g h n (front_tag (redoing.steps (doc_in g n))) long refl swapped done);
    }

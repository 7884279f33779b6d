-- What the answer of a call on documents says where a set has all these documents or none: with all of them, a smaller group
-- that has the documents of the set in common gives the same answer; with none of them, the documents of the set stay.
use Rattle.std.proofs.Common.{◌≡◌, ℕ, Bool, true, false, if◌then◌else◌, List, Option, Some, None, IfSome, Result, Ok, Err, All, refl, sym, ap, subst, ◌∙◌, true≢false}
use Rattle.std.proofs.lemmas.Bool.{false_from_ne_true}
use Rattle.std.proofs.lemmas.List.Elements.{All-weaker}
use Rattle.std.proofs.lemmas.Option.{IfSome_then}
use Rattle.undo_rules.specs.declared.Tag.{Tag}
use Rattle.undo_rules.specs.Tags.{is_member}
use Rattle.document_rules.specs.Refusals.{FlatRefusal, limit}
use Rattle.document_rules.specs.Document.{FlatState, empty_document}
use Rattle.group_rules.specs.Refusals.{GroupRefusal, plain}
use Rattle.group_rules.specs.Group.{FlatGroup, doc_in, changed_in, moved_in}
use Rattle.group_rules.specs.Going.{Going, front_tag, some_last_from, other_next_from, unless_other, all_gone, gone_in, go_by, group_go}
use Rattle.group_rules.proofs.KeptTags.{AllTags}
use Rattle.group_rules.proofs.Kept.{AllTagsIn, AllTagsIn-with_doc, AllTagsIn-with_changed, AllTagsIn-all_gone, IsKeeping}
use Rattle.group_rules.proofs.Alike.{SameIn, SameItems-self, SameItems-trans, SameItems-set, SameItems-set_outside, SameIn-with_changed, IsInside, some_last_same, other_next_same, SameIn-all_gone}
use Rattle.group_rules.proofs.Apart.{IsOutside, SameIn-with_changed_outside, SameIn-all_gone_outside}
use Rattle.session_rules.specs.Step.{change_reply, changed, moved, gone}
use Rattle.session_rules.specs.Apart.{Docs, IsWhole}

-- ---- tags

-- the tag stands in a member of it, and the set has all its members or none
abbrev pub IsApart : Docs → ℕ → Tag → Type 0
IsApart set n tag = (is_member n tag ≡ true) × IsWhole set tag

abbrev pub AreApart : Docs → FlatGroup → Type 0
AreApart set g = AllTagsIn (IsApart set) g

pub inside_of : (set : Docs) (n : ℕ) → set n ≡ true → (tag : Tag) → IsApart set n tag → IsInside set tag
inside_of set n on tag p m member = p.1.1 m member ∙ sym (p.1.1 n p.0) ∙ on

pub outside_of : (set : Docs) (n : ℕ) → set n ≡ false → (tag : Tag) → IsApart set n tag → IsOutside set tag
outside_of set n off tag p m on =
    false_from_ne_true (is_member m tag) (λ member. true≢false (sym on ∙ p.1.1 m member ∙ sym (p.1.1 n p.0) ∙ off))

-- ---- answers

pub record SameAnswer (set : Docs) (a b : List ℕ × FlatGroup) : Type 0 where
  pub reply : a.0 ≡ b.0
  pub same : SameIn set a.1 b.1

-- The call on the whole group had the answer a, and on the smaller group, which was h, the answer b. Where the set has all
-- documents of the call, the smaller group goes on with it; where it has none, the smaller group stays.
pub record Goes (set : Docs) (h : FlatGroup) (all : Bool) (a b : List ℕ × FlatGroup) : Type 0 where
  pub same : SameIn set a.1 (if all then b.1 else h)
  pub sound : AreApart set a.1
  pub reply : all ≡ true → a.0 ≡ b.0

pub goes_from : (set : Docs) (g h : FlatGroup) (all : Bool) (a b : List ℕ × FlatGroup) → SameIn set g h → AreApart set a.1
    → (all ≡ true → SameAnswer set a b) → (all ≡ false → SameIn set a.1 g) → Goes set h all a b
goes_from set g h true a b same sound on off = let t = on refl in record { same = t.same; sound = sound; reply = λ e. t.reply }
goes_from set g h false a b same sound on off =
    record { same = SameItems-trans empty_document set a.1 g h (off refl) same; sound = sound; reply = λ e. absurd cc }

-- what the smaller group would answer is asked only where the set has all documents
pub goes_beside : (set : Docs) (h : FlatGroup) (all : Bool) (a b c : List ℕ × FlatGroup) → Goes set h all a b → (all ≡ true → b ≡ c) → Goes set h all a c
goes_beside set h true a b c goes is = subst (λ (d : List ℕ × FlatGroup). Goes set h true a d) (is refl) goes
goes_beside set h false a b c goes is = record { same = goes.same; sound = goes.sound; reply = λ e. absurd cc }

module _ (set : Docs) (g h : FlatGroup) (a : SameIn set g h) (sound : AreApart set g) where
  -- an answer that leaves the groups
  pub goes_unchanged : (all : Bool) (reply : List ℕ) → Goes set h all (reply, g) (reply, h)
  goes_unchanged all reply =
      goes_from set g h all (reply, g) (reply, h) a sound (λ on. record { reply = refl; same = a }) (λ off. SameItems-self empty_document set g a.left)

  module _ (n : ℕ) where
    -- ---- a change

    same_changed : (lost : List Tag) (r : Result FlatState FlatRefusal) → set n ≡ true
        → SameAnswer set (changed g n (changed_in g lost n r)) (changed h n (changed_in h lost n r))
    same_changed lost (Ok f) on = let new = SameIn-with_changed set g h lost n f a in record { reply = ap change_reply (new.same n on); same = new }
    same_changed lost (Err why) on = record { reply = refl; same = a }

    apart_changed : (lost : List Tag) (r : Result FlatState FlatRefusal) → set n ≡ false → All (IsOutside set) lost
        → SameIn set (changed g n (changed_in g lost n r)).1 g
    apart_changed lost (Ok f) off out = SameIn-with_changed_outside set g lost n f a.left off out
    apart_changed lost (Err why) off out = SameItems-self empty_document set g a.left

    kept_changed : (lost : List Tag) (r : Result FlatState FlatRefusal) → ((f : FlatState) → r ≡ Ok f → AllTags (IsApart set n) f.history)
        → AreApart set (changed g n (changed_in g lost n r)).1
    kept_changed lost (Ok f) kept = AllTagsIn-with_changed (IsApart set) g lost n f sound (kept f refl)
    kept_changed lost (Err why) kept = sound

    pub goes_changed : (all : Bool) (lost : FlatState → List Tag) (rule : FlatState → Result FlatState FlatRefusal) → set n ≡ all
        → ((f : FlatState) → AllTags (IsApart set n) f.history → All (IsApart set n) (lost f))
        → ((f new : FlatState) → rule f ≡ Ok new → AllTags (IsApart set n) f.history → AllTags (IsApart set n) new.history)
        → Goes set h all (changed g n (changed_in g (lost (doc_in g n)) n (rule (doc_in g n))))
        (changed h n (changed_in h (lost (doc_in h n)) n (rule (doc_in h n))))
    goes_changed all lost rule e lost_kept kept =
        let f = doc_in g n in
        let a0 = changed g n (changed_in g (lost f) n (rule f)) in
        goes_from set g h all a0 (changed h n (changed_in h (lost (doc_in h n)) n (rule (doc_in h n)))) a
        (kept_changed (lost f) (rule f) (λ new done. kept f new done (sound n)))
        (λ on. subst (λ (d : FlatState). SameAnswer set a0 (changed h n (changed_in h (lost d) n (rule d)))) (a.same n (e ∙ on))
        (same_changed (lost f) (rule f) (e ∙ on)))
        (λ off. apart_changed (lost f) (rule f) (e ∙ off)
        (All-weaker (IsApart set n) (IsOutside set) (outside_of set n (e ∙ off)) (lost f) (lost_kept f (sound n))))

    -- ---- a change that may find nothing to do

    same_moved : (lost : List Tag) (r : Result (Option FlatState) FlatRefusal) → set n ≡ true
        → SameAnswer set (moved g n (moved_in g lost n r)) (moved h n (moved_in h lost n r))
    same_moved lost (Ok (Some f)) on = let new = SameIn-with_changed set g h lost n f a in record { reply = ap change_reply (new.same n on); same = new }
    same_moved lost (Ok None) on = record { reply = refl; same = a }
    same_moved lost (Err why) on = record { reply = refl; same = a }

    apart_moved : (lost : List Tag) (r : Result (Option FlatState) FlatRefusal) → set n ≡ false → All (IsOutside set) lost
        → SameIn set (moved g n (moved_in g lost n r)).1 g
    apart_moved lost (Ok (Some f)) off out = SameIn-with_changed_outside set g lost n f a.left off out
    apart_moved lost (Ok None) off out = SameItems-self empty_document set g a.left
    apart_moved lost (Err why) off out = SameItems-self empty_document set g a.left

    kept_moved : (lost : List Tag) (r : Result (Option FlatState) FlatRefusal) → ((f : FlatState) → r ≡ Ok (Some f) → AllTags (IsApart set n) f.history)
        → AreApart set (moved g n (moved_in g lost n r)).1
    kept_moved lost (Ok (Some f)) kept = AllTagsIn-with_changed (IsApart set) g lost n f sound (kept f refl)
    kept_moved lost (Ok None) kept = sound
    kept_moved lost (Err why) kept = sound

    pub goes_moved : (all : Bool) (lost : FlatState → List Tag) (rule : FlatState → Result (Option FlatState) FlatRefusal) → set n ≡ all
        → ((f : FlatState) → AllTags (IsApart set n) f.history → All (IsApart set n) (lost f))
        → ((f new : FlatState) → rule f ≡ Ok (Some new) → AllTags (IsApart set n) f.history → AllTags (IsApart set n) new.history)
        → Goes set h all (moved g n (moved_in g (lost (doc_in g n)) n (rule (doc_in g n))))
        (moved h n (moved_in h (lost (doc_in h n)) n (rule (doc_in h n))))
    goes_moved all lost rule e lost_kept kept =
        let f = doc_in g n in
        let a0 = moved g n (moved_in g (lost f) n (rule f)) in
        goes_from set g h all a0 (moved h n (moved_in h (lost (doc_in h n)) n (rule (doc_in h n)))) a
        (kept_moved (lost f) (rule f) (λ new done. kept f new done (sound n)))
        (λ on. subst (λ (d : FlatState). SameAnswer set a0 (moved h n (moved_in h (lost d) n (rule d)))) (a.same n (e ∙ on))
        (same_moved (lost f) (rule f) (e ∙ on)))
        (λ off. apart_moved (lost f) (rule f) (e ∙ off)
        (All-weaker (IsApart set n) (IsOutside set) (outside_of set n (e ∙ off)) (lost f) (lost_kept f (sound n))))

    -- ---- undo and redo

    same_gone_in : (r : Result (Option FlatState) FlatRefusal) → set n ≡ true → SameAnswer set (gone g n (gone_in g n r)) (gone h n (gone_in h n r))
    same_gone_in (Ok (Some f)) on =
        let new = SameItems-set empty_document set g h n f a in record { reply = ap change_reply (new.same n on); same = new }
    same_gone_in (Ok None) on = record { reply = refl; same = a }
    same_gone_in (Err why) on = record { reply = refl; same = a }

    apart_gone_in : (r : Result (Option FlatState) FlatRefusal) → set n ≡ false → SameIn set (gone g n (gone_in g n r)).1 g
    apart_gone_in (Ok (Some f)) off = SameItems-set_outside empty_document set g n f a.left off
    apart_gone_in (Ok None) off = SameItems-self empty_document set g a.left
    apart_gone_in (Err why) off = SameItems-self empty_document set g a.left

    kept_gone_in : (r : Result (Option FlatState) FlatRefusal) → ((f : FlatState) → r ≡ Ok (Some f) → AllTags (IsApart set n) f.history)
        → AreApart set (gone g n (gone_in g n r)).1
    kept_gone_in (Ok (Some f)) kept = AllTagsIn-with_doc (IsApart set) g n f sound (kept f refl)
    kept_gone_in (Ok None) kept = sound
    kept_gone_in (Err why) kept = sound

    -- by whether a member is in its last version, and which member has another step next
    abbrev together : Bool → Option ℕ → FlatGroup → Result (Option FlatGroup) GroupRefusal
    together last other new = if last then Err (plain limit) else unless_other other new

    same_together : (last : Bool) (other : Option ℕ) (new new' : FlatGroup) → set n ≡ true → SameIn set new new'
        → SameAnswer set (gone g n (together last other new)) (gone h n (together last other new'))
    same_together true other new new' on same = record { reply = refl; same = a }
    same_together false (Some k) new new' on same = record { reply = refl; same = a }
    same_together false None new new' on same = record { reply = ap change_reply (same.same n on); same = same }

    one_of : (P : FlatGroup → Type 0) (last : Bool) (other : Option ℕ) (new : FlatGroup) → P g → P new → P (gone g n (together last other new)).1
    one_of P true other new h k = h
    one_of P false (Some m) new h k = h
    one_of P false None new h k = k

    same_go_by : (going : Going) (tag : Option Tag) → set n ≡ true → IfSome tag (IsInside set)
        → SameAnswer set (gone g n (go_by going g n tag)) (gone h n (go_by going h n tag))
    same_go_by going None on inside =
        subst (λ (d : FlatState). SameAnswer set (gone g n (go_by going g n None)) (gone h n (gone_in h n (going.rule d)))) (a.same n on)
        (same_gone_in (going.rule (doc_in g n)) on)
    same_go_by going (Some tag) on inside =
        let last = some_last_same set going tag g h inside a in
        let next = other_next_same set going tag g h inside a in
        let new = all_gone going h tag in
        subst (λ (s : Bool). SameAnswer set (gone g n (go_by going g n (Some tag))) (gone h n (together s (other_next_from 0 going tag h) new))) last
        (subst (λ (o : Option ℕ). SameAnswer set (gone g n (go_by going g n (Some tag))) (gone h n (together (some_last_from 0 tag g) o new))) next
        (same_together (some_last_from 0 tag g) (other_next_from 0 going tag g) (all_gone going g tag) new on (SameIn-all_gone set going g h tag a)))

    apart_go_by : (going : Going) (tag : Option Tag) → set n ≡ false → IfSome tag (IsOutside set) → SameIn set (gone g n (go_by going g n tag)).1 g
    apart_go_by going None off out = apart_gone_in (going.rule (doc_in g n)) off
    apart_go_by going (Some tag) off out =
        one_of (λ (k : FlatGroup). SameIn set k g) (some_last_from 0 tag g) (other_next_from 0 going tag g) (all_gone going g tag)
        (SameItems-self empty_document set g a.left) (SameIn-all_gone_outside set going g tag a.left out)

    kept_go_by : (going : Going) (tag : Option Tag) → IsKeeping going → AreApart set (gone g n (go_by going g n tag)).1
    kept_go_by going None keeps =
        kept_gone_in (going.rule (doc_in g n)) (λ new done. keeps.kept (IsApart set n) (doc_in g n) new done (sound n))
    kept_go_by going (Some tag) keeps =
        one_of (AreApart set) (some_last_from 0 tag g) (other_next_from 0 going tag g) (all_gone going g tag)
        sound (AllTagsIn-all_gone (IsApart set) going g tag keeps sound)

    pub goes_gone : (all : Bool) (going : Going) → set n ≡ all → IsKeeping going
        → Goes set h all (gone g n (group_go going g n)) (gone h n (group_go going h n))
    goes_gone all going e keeps =
        let f = doc_in g n in
        let tag = front_tag (going.steps f) in
        let front = keeps.front (IsApart set n) f (sound n) in
        goes_from set g h all (gone g n (go_by going g n tag)) (gone h n (group_go going h n)) a (kept_go_by going tag keeps)
        (λ on. subst (λ (d : FlatState). SameAnswer set (gone g n (go_by going g n tag)) (gone h n (go_by going h n (front_tag (going.steps d)))))
        (a.same n (e ∙ on))
        (same_go_by going tag (e ∙ on) (IfSome_then tag {P = IsApart set n} {Q = IsInside set} front (inside_of set n (e ∙ on)))))
        (λ off. apart_go_by going tag (e ∙ off) (IfSome_then tag {P = IsApart set n} {Q = IsOutside set} front (outside_of set n (e ∙ off))))

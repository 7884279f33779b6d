-- A joint edit keeps the tags that documents share in order.
use Rattle.std.proofs.Common.{◌≡◌, ℕ, ◌<◌, ◌≤◌, ◌==◌, ◌||◌, arith, Bool, true, false, if◌then◌else◌, List, [], ◌∷◌, ◌++◌, length, filter, Ok, All, refl, sym, ap, subst, ◌∙◌, eqb-true, ⊎_elim, le_refl}
use Rattle.std.proofs.lemmas.Bool.{cases_lt}
use Rattle.std.proofs.lemmas.List.Elements.{All-head, All-tail, All-weaker}
use Rattle.undo_rules.specs.declared.Tag.{Tag}
use Rattle.undo_rules.specs.Tags.{is_member}
use Rattle.document_rules.specs.Document.{FlatState}
use Rattle.group_rules.specs.declared.TheConstants.{DOC_COUNT}
use Rattle.group_rules.specs.Group.{FlatGroup, doc_in, tags_of}
use Rattle.group_rules.specs.Joint.{FlatBatch, docs_of, joint_refusal, least_of, tag_of, batch_for, lost_by_joint, joined_doc, joined, group_joint}
use Rattle.group_rules.specs.Shared.{times, undo_tags, redo_tags, versions_in, IsOf, AreShared}
use Rattle.group_rules.proofs.Times.{times-append}
use Rattle.group_rules.proofs.InOrder.{put, same_times, AreInOrder-alike, AreInOrder-filter, AreInOrder-put}
use Rattle.group_rules.proofs.Losing.{without_tags-is}
use Rattle.group_rules.proofs.Members.{is_named, is_member-tag_of, batch_for_none, named_kept, least_below, least_named}
use Rattle.group_rules.proofs.Places.{doc_in-each}
use Rattle.group_rules.proofs.Shared.{left, filter_left, filter_lost, other_less}
use Rattle.group_rules.proofs.Together.{AreAccepted, accepted_batches, accepted_joint, all_numbered, joined_named, joined_all_go_on}

-- the number of occurrences of a tag that are lost
lost_nowhere : (g : FlatGroup) (batches : List FlatBatch) (tag : Tag) → All (λ n. times tag (redo_tags g n) ≡ 0) (docs_of batches)
    → times tag (lost_by_joint g batches) ≡ 0
lost_nowhere g [] tag none = refl
lost_nowhere g (b ∷ batches) tag none =
    omega (
      arith,
      times-append tag (redo_tags g b.doc) (lost_by_joint g batches),
      All-head (λ n. times tag (redo_tags g n) ≡ 0) b.doc (docs_of batches) none,
      lost_nowhere g batches tag (All-tail (λ n. times tag (redo_tags g n) ≡ 0) b.doc (docs_of batches) none),
    )

lost_somewhere : (g : FlatGroup) (batches : List FlatBatch) (tag : Tag) (k : ℕ) → is_named k batches ≡ true
    → times tag (redo_tags g k) ≤ times tag (lost_by_joint g batches)
lost_somewhere g [] tag k named = absurd cc
lost_somewhere g (b ∷ batches) tag k named = by (b.doc == k) refl (λ more. lost_somewhere g batches tag k more)
  where
    by : (t : Bool) → (b.doc == k) ≡ t → (is_named k batches ≡ true → times tag (redo_tags g k) ≤ times tag (lost_by_joint g batches))
        → times tag (redo_tags g k) ≤ times tag (redo_tags g b.doc ++ lost_by_joint g batches)
    by true e later =
        omega (arith, times-append tag (redo_tags g b.doc) (lost_by_joint g batches), ap (λ n. times tag (redo_tags g n)) (eqb-true b.doc k e))
    by false e later =
        omega (
          arith,
          times-append tag (redo_tags g b.doc) (lost_by_joint g batches),
          later (sym (ap (λ t. t || is_named k batches) e) ∙ named),
        )

-- what becomes of a document, which is one of the tag's or not
record IsJoined (tag : Tag) (lost : List Tag) (member : Bool) (old new : FlatState) : Type 0 where
  undo : tags_of new.history.undo
      ≡ (if member then tag ∷ filter (left lost) (tags_of old.history.undo) else filter (left lost) (tags_of old.history.undo))
  redo : tags_of new.history.redo ≡ filter (left lost) (tags_of old.history.redo)
  version : old.version ≤ new.version

module _ (g : FlatGroup) (batches : List FlatBatch) (s : AreShared g) (long : length g ≡ DOC_COUNT) (accepted : AreAccepted g batches)
    (some : All (λ (b : FlatBatch). 0 < length b.ops) batches) where
  -- what can be undone in a document can be redone in none of those that it shares it with
  not_lost : (k : ℕ) (tag : Tag) → k < DOC_COUNT → 0 < times tag (undo_tags g k) → times tag (lost_by_joint g batches) ≡ 0
  not_lost k tag below there =
      let none : (n : ℕ) → n < DOC_COUNT → times tag (redo_tags g n) ≡ 0 = λ n below_n.
      ⊎_elim
      (λ redone.
      let of_n = (s.in_order.own n tag below_n (omega (arith, redone))).member in
      let of_k = (s.in_order.own k tag below (omega (arith, there))).member in
      absurd (omega (arith, redone, there, same_times (redo_tags g) n k tag s.in_order.redo below_n below of_n of_k, s.in_order.once k tag below)))
      (λ no. omega (arith, no)) (cases_lt 0 (times tag (redo_tags g n))) in
      lost_nowhere g batches tag
      (All-weaker (λ n. n < DOC_COUNT) (λ n. times tag (redo_tags g n) ≡ 0) none (docs_of batches) (all_numbered (docs_of batches) accepted.named))

  joined_by : (k : ℕ) (b : Bool) → k < DOC_COUNT → is_named k batches ≡ b
      → IsJoined (tag_of g batches) (lost_by_joint g batches) b (doc_in g k) (doc_in (joined g batches) k)
  joined_by k true below named =
      let lost = lost_by_joint g batches in
      let tag = tag_of g batches in
      let new = joined_named g batches k long accepted some named in
      subst (IsJoined tag lost true (doc_in g k)) (sym new.1) (record {
        undo = ap (λ tags. tag ∷ tags) (sym (filter_left lost (undo_tags g k) (λ other there. not_lost k other below there)));
        redo = sym (filter_lost lost (redo_tags g k) (λ other there. omega (arith, there, lost_somewhere g batches other k named)));
        version = omega arith;
      })
  joined_by k false below named =
      let lost = lost_by_joint g batches in
      let tag = tag_of g batches in
      let f = doc_in g k in
      let less = other_less g lost k s below in
      subst (IsJoined tag lost false f)
      (sym (doc_in-each (λ n f. joined_doc tag lost n f (batch_for n batches)) g k (omega arith)
      ∙ ap (joined_doc tag lost k f) (batch_for_none batches k named)))
      (record { undo = less.undo; redo = less.redo; version = omega (arith, ap (λ (f : FlatState). f.version) (without_tags-is lost k f)) })

  joined_at : (k : ℕ) → k < DOC_COUNT
      → IsJoined (tag_of g batches) (lost_by_joint g batches) (is_member k (tag_of g batches)) (doc_in g k) (doc_in (joined g batches) k)
  joined_at k below = joined_by k (is_member k (tag_of g batches)) below (sym (is_member-tag_of g batches k accepted.named))

  -- the tag that the document has now
  new_tag : (k : ℕ) → is_member k (tag_of g batches) ≡ true → IsOf (versions_in (joined g batches)) k (tag_of g batches)
  new_tag k member =
      let named = sym (is_member-tag_of g batches k accepted.named) ∙ member in
      let below = named_kept (λ n. n < DOC_COUNT) batches k (all_numbered (docs_of batches) accepted.named) named in
      let there : least_of batches < DOC_COUNT = omega (arith, below, least_below batches k named) in
      let least = least_named batches there in
      record {
        member = member;
        there = there;
        least = is_member-tag_of g batches (least_of batches) accepted.named ∙ least;
        known = omega (arith, joined_all_go_on g batches long accepted some (least_of batches) least);
      }

  shared_joined : AreShared (joined g batches)
  shared_joined =
      let h = joined g batches in
      let tag = tag_of g batches in
      let kept = left (lost_by_joint g batches) in
      let undos = λ (n : ℕ). filter kept (undo_tags g n) in
      let redos = λ (n : ℕ). filter kept (redo_tags g n) in
      let less = AreInOrder-filter kept (undo_tags g) (redo_tags g) (versions_in g) s.in_order in
      let more = AreInOrder-put tag undos redos (versions_in g) (versions_in h) less (λ n below. (joined_at n below).version) (omega arith)
      (λ n below member. new_tag n member) in
      record {
        in_order = AreInOrder-alike (put tag undos) redos (undo_tags h) (redo_tags h) (versions_in h) (versions_in h) more
            (λ n below. (joined_at n below).undo) (λ n below. (joined_at n below).redo) (λ n other below there. le_refl (versions_in h n));
      }

pub shared_joint : (g h : FlatGroup) (batches : List FlatBatch) → AreShared g → length g ≡ DOC_COUNT → All (λ (b : FlatBatch). 0 < length b.ops) batches
    → group_joint g batches ≡ Ok h → AreShared h
shared_joint g h batches s long some done =
    let accepted = accepted_joint (joined g batches) h (joint_refusal g batches) done in
    subst AreShared accepted.1 (shared_joined g batches s long (accepted_batches g batches accepted.0) some)

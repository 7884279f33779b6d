-- A call on a group changes only the documents that it applies to and those that lose tags; and all documents that advance
-- together have the next version.
use Rattle.std.proofs.Common.{◌≡◌, ℕ, zero, suc, ◌+◌, ◌<◌, ◌==◌, ◌&&◌, ◌||◌, not, arith, Bool, true, false, nat_le, nat_lt, if◌then◌else◌, List, [], ◌∷◌, length, get_or, Option, Some, None, Result, Ok, Err, All, refl, sym, ap, subst, ◌∙◌, eqb-true, true≢false, ⊎_elim}
use Rattle.std.proofs.lemmas.Bool.{or_parts, and_parts, and_cases, cases_lt, eqb-false, ltb-true, ltb-false, leb-false, false_from_ne_true, not-false}
use Rattle.std.proofs.lemmas.List.Elements.{All-nil, All-cons, All-head, All-tail}
use Rattle.std.proofs.lemmas.List.Folds.{list_any_at}
use Rattle.std.specs.List.{list_any}
use Rattle.text_rules.specs.declared.Op.{Op}
use Rattle.unit_text.specs.declared.kind.Kind.{Kind}
use Rattle.hiding_rules.specs.Hidden.{Scanner}
use Rattle.batch_rules.specs.Refusals.{BatchRefusal}
use Rattle.batch_rules.specs.Refusals as refused
use Rattle.batch_rules.specs.Batches.{checked_batch}
use Rattle.undo_rules.specs.declared.Tag.{Tag}
use Rattle.undo_rules.specs.Stack.{Step}
use Rattle.undo_rules.specs.Tags.{is_member}
use Rattle.document_rules.specs.Refusals.{FlatRefusal, unknown, range, overlap, limit}
use Rattle.document_rules.specs.Document.{FlatChange, FlatState, greatest_version, flat_open, flat_edit, flat_eol, edited_by, after_batch, flat_stop, flat_tag}
use Rattle.search_rules.specs.Replacing.{flat_replace_all, edited_alone, closed_after}
use Rattle.group_rules.specs.declared.TheConstants.{DOC_COUNT}
use Rattle.group_rules.specs.Refusals.{plain}
use Rattle.group_rules.specs.Group.{FlatGroup, doc_in, with_doc, each_from, lost_by_change, lost_by_open, without_tags, with_changed, changed_in, moved_in, group_open, group_edit, group_eol, group_replace_all}
use Rattle.group_rules.specs.Joint.{FlatBatch, docs_of, names_badly, is_refused_for, some_refused, joint_refusal, tag_of, batch_for, lost_by_joint, tagged_after, joined_doc, joined, unless_refused, group_joint}
use Rattle.group_rules.specs.Going.{Going, front_tag, is_front, is_last_version, some_last_from, other_next_from, unless_other, gone_or_same, all_gone, gone_in, go_by, group_go}
use Rattle.group_rules.specs.Together.{Stay, AllGoOn, members_of_any, reached, named_by, reached_by_joint, gone_with}
use Rattle.group_rules.proofs.Members.{batch_for_none, named_kept}
use Rattle.group_rules.proofs.Places.{doc_in_past, each_past, doc_in-with_same, doc_in-with_other, doc_in-each, doc_in-each_left}
use Rattle.group_rules.proofs.Apart.{without_tags_left}
use Rattle.group_rules.proofs.Changed.{IsMoving, gone_moved}

-- none of the items passes the test
none_pass : {X : Type 0} (test : X → Bool) (xs : List X) → list_any test xs ≡ false → All (λ x. test x ≡ false) xs
none_pass test xs none i d inside = false_from_ne_true (test (get_or xs i d)) (λ e. true≢false (sym (list_any_at test xs i d inside e) ∙ none))

-- ---- a change of one document

-- a document that is a member of none of the tags loses none
no_members_left : (tags : List Tag) (k : ℕ) (f : FlatState) → members_of_any tags k ≡ false → without_tags tags k f ≡ f
no_members_left tags k f none = without_tags_left tags k f (none_pass (is_member k) tags none)

pub changed_others_stay : (g : FlatGroup) (lost : List Tag) (n : ℕ) (f : FlatState) → Stay (reached n lost) g (with_changed g lost n f)
changed_others_stay g lost n f k off =
    let parts = or_parts (k == n) (members_of_any lost k) off in
    doc_in-with_other (each_from 0 (without_tags lost) g) n k f (eqb-false k n parts.0)
    ∙ doc_in-each_left (without_tags lost) g k (no_members_left lost k (doc_in g k) parts.1)

changed_in_others_stay : (g h : FlatGroup) (lost : List Tag) (n : ℕ) (r : Result FlatState FlatRefusal) → changed_in g lost n r ≡ Ok h
    → Stay (reached n lost) g h
changed_in_others_stay g h lost n (Err why) done = absurd cc
changed_in_others_stay g h lost n (Ok f) done =
    let is : with_changed g lost n f ≡ h = cc in subst (Stay (reached n lost) g) is (changed_others_stay g lost n f)

moved_in_others_stay : (g h : FlatGroup) (lost : List Tag) (n : ℕ) (r : Result (Option FlatState) FlatRefusal) → moved_in g lost n r ≡ Ok (Some h)
    → Stay (reached n lost) g h
moved_in_others_stay g h lost n (Err why) done = absurd cc
moved_in_others_stay g h lost n (Ok None) done = absurd cc
moved_in_others_stay g h lost n (Ok (Some f)) done =
    let is : with_changed g lost n f ≡ h = cc in subst (Stay (reached n lost) g) is (changed_others_stay g lost n f)

pub open_others_stay : (g h : FlatGroup) (n : ℕ) (text : List ℕ) (scanner : Scanner) (kind : Kind) → group_open g n text scanner kind ≡ Ok h
    → Stay (reached n (lost_by_open (doc_in g n))) g h
open_others_stay g h n text scanner kind done =
    changed_in_others_stay g h (lost_by_open (doc_in g n)) n (flat_open text scanner kind) done

pub edit_others_stay : (g h : FlatGroup) (n : ℕ) (ops : List Op) → group_edit g n ops ≡ Ok h → Stay (reached n (lost_by_change (doc_in g n))) g h
edit_others_stay g h n ops done = changed_in_others_stay g h (lost_by_change (doc_in g n)) n (flat_edit (doc_in g n) ops) done

pub eol_others_stay : (g h : FlatGroup) (n : ℕ) (kind : Kind) → group_eol g n kind ≡ Ok (Some h)
    → Stay (reached n (lost_by_change (doc_in g n))) g h
eol_others_stay g h n kind done = moved_in_others_stay g h (lost_by_change (doc_in g n)) n (flat_eol (doc_in g n) kind) done

pub replace_all_others_stay : (g h : FlatGroup) (n : ℕ) (sought text : List ℕ) → group_replace_all g n sought text ≡ Ok (Some h)
    → Stay (reached n (lost_by_change (doc_in g n))) g h
replace_all_others_stay g h n sought text done =
    moved_in_others_stay g h (lost_by_change (doc_in g n)) n (flat_replace_all (doc_in g n) sought text) done

-- ---- a joint edit

pub accepted_joint : (new h : FlatGroup) (why : Option FlatRefusal) → unless_refused new why ≡ Ok h → (why ≡ None) × (new ≡ h)
accepted_joint new h (Some why) done = absurd cc
accepted_joint new h None done = (refl, cc)

joined_others_stay : (g : FlatGroup) (batches : List FlatBatch) → Stay (reached_by_joint g batches) g (joined g batches)
joined_others_stay g batches k off =
    let lost = lost_by_joint g batches in
    let parts = or_parts (named_by batches k) (members_of_any lost k) off in
    doc_in-each_left (λ n f. joined_doc (tag_of g batches) lost n f (batch_for n batches)) g k
    (ap (joined_doc (tag_of g batches) lost k (doc_in g k)) (batch_for_none batches k parts.0) ∙ no_members_left lost k (doc_in g k) parts.1)

pub joint_others_stay : (g h : FlatGroup) (batches : List FlatBatch) → group_joint g batches ≡ Ok h → Stay (reached_by_joint g batches) g h
joint_others_stay g h batches done =
    let accepted = accepted_joint (joined g batches) h (joint_refusal g batches) done in
    subst (Stay (reached_by_joint g batches) g) accepted.1 (joined_others_stay g batches)

-- the batch is refused for none of the reasons
record IsAccepted (r : Result FlatState FlatRefusal) : Type 0 where
  in_range : is_refused_for range r ≡ false
  apart : is_refused_for overlap r ≡ false
  within : is_refused_for limit r ≡ false

-- so are all batches, and the numbers are those of documents
pub record AreAccepted (g : FlatGroup) (batches : List FlatBatch) : Type 0 where
  pub named : names_badly (docs_of batches) ≡ false
  in_range : some_refused range g batches ≡ false
  apart : some_refused overlap g batches ≡ false
  within : some_refused limit g batches ≡ false

pub accepted_batches : (g : FlatGroup) (batches : List FlatBatch) → joint_refusal g batches ≡ None → AreAccepted g batches
accepted_batches g batches none =
    by (names_badly (docs_of batches)) (some_refused range g batches) (some_refused overlap g batches) (some_refused limit g batches)
    refl refl refl refl none
  where
    by : (b r o l : Bool) → names_badly (docs_of batches) ≡ b → some_refused range g batches ≡ r → some_refused overlap g batches ≡ o
        → some_refused limit g batches ≡ l
        → (if b then Some unknown else (if r then Some range else (if o then Some overlap else (if l then Some limit else None)))) ≡ None
        → AreAccepted g batches
    by true r o l eb er eo el none = absurd cc
    by false true o l eb er eo el none = absurd cc
    by false false true l eb er eo el none = absurd cc
    by false false false true eb er eo el none = absurd cc
    by false false false false eb er eo el none = record { named = eb; in_range = er; apart = eo; within = el }

pub all_numbered : (docs : List ℕ) → names_badly docs ≡ false → All (λ n. n < DOC_COUNT) docs
all_numbered [] good = All-nil (λ n. n < DOC_COUNT)
all_numbered (n ∷ docs) good =
    let parts = or_parts (nat_le DOC_COUNT n || list_any (λ m. m == n) docs) (names_badly docs) good in
    let there = or_parts (nat_le DOC_COUNT n) (list_any (λ m. m == n) docs) parts.0 in
    All-cons (λ n. n < DOC_COUNT) n docs (leb-false DOC_COUNT n there.0) (all_numbered docs parts.1)

-- a named document has a batch, for which each property of all batches holds
named_batch_for : (P : ℕ → List Op → Type 0) (batches : List FlatBatch) (n : ℕ) → All (λ (b : FlatBatch). P b.doc b.ops) batches
    → named_by batches n ≡ true → (ops : List Op) × (batch_for n batches ≡ Some ops) × P n ops
named_batch_for P [] n h named = absurd cc
named_batch_for P (b ∷ batches) n h named =
    by (b.doc == n) refl (λ more. named_batch_for P batches n (All-tail (λ (b : FlatBatch). P b.doc b.ops) b batches h) more)
  where
    by : (t : Bool) → (b.doc == n) ≡ t → (named_by batches n ≡ true → (ops : List Op) × (batch_for n batches ≡ Some ops) × P n ops)
        → (ops : List Op) × ((if t then Some b.ops else batch_for n batches) ≡ Some ops) × P n ops
    by true e later =
        (b.ops, refl, subst (λ k. P k b.ops) (eqb-true b.doc n e) (All-head (λ (b : FlatBatch). P b.doc b.ops) b batches h))
    by false e later = later (sym (ap (λ t. t || named_by batches n) e) ∙ named)

-- the document after a joint edit with a batch for it
abbrev pub after_joint : Tag → FlatState → List Op → FlatState
after_joint tag f checked = flat_tag (flat_stop (after_batch (flat_stop f) checked)) tag

-- an accepted batch with ops is carried out
joined_made : (tag : Tag) (f : FlatState) (ops : List Op) → 0 < length ops → IsAccepted (flat_edit f ops)
    → (checked : List Op) × (tagged_after tag f (edited_alone f ops) ≡ after_joint tag f checked)
joined_made tag f [] some accepted = absurd (omega arith)
joined_made tag f (op ∷ ops) some accepted = by (checked_batch f.kind f.units (op ∷ ops)) accepted
  where
    in_time : (late : Bool) (checked : List Op) → IsAccepted (if late then Err limit else Ok (after_batch f checked))
        → tagged_after tag f (closed_after (if late then Err limit else Ok (after_batch (flat_stop f) checked))) ≡ after_joint tag f checked
    in_time true checked accepted = absurd (true≢false accepted.within)
    in_time false checked accepted = refl

    by : (r : Result (List Op) BatchRefusal) → IsAccepted (edited_by f r)
        → (checked : List Op) × (tagged_after tag f (closed_after (edited_by (flat_stop f) r)) ≡ after_joint tag f checked)
    by (Err refused.range) accepted = absurd (true≢false accepted.in_range)
    by (Err refused.overlap) accepted = absurd (true≢false accepted.apart)
    by (Err refused.limit) accepted = absurd (true≢false accepted.within)
    by (Ok checked) accepted = (checked, in_time (nat_le greatest_version f.version) checked accepted)

pub joined_named : (g : FlatGroup) (batches : List FlatBatch) (k : ℕ) → length g ≡ DOC_COUNT → AreAccepted g batches
    → All (λ (b : FlatBatch). 0 < length b.ops) batches → named_by batches k ≡ true
    → (checked : List Op) × (doc_in (joined g batches) k ≡ after_joint (tag_of g batches) (doc_in g k) checked)
joined_named g batches k long accepted some named =
    let tag = tag_of g batches in
    let lost = lost_by_joint g batches in
    let f = doc_in g k in
    let numbered : k < DOC_COUNT = named_kept (λ n. n < DOC_COUNT) batches k (all_numbered (docs_of batches) accepted.named) named in
    let refused = λ (why : FlatRefusal) (b : FlatBatch). is_refused_for why (flat_edit (doc_in g b.doc) b.ops) in
    let found = named_batch_for (λ n ops. (0 < length ops) × IsAccepted (flat_edit (doc_in g n) ops)) batches k
    (λ i d inside. (
      some i d inside,
      record {
        in_range = none_pass (refused range) batches accepted.in_range i d inside;
        apart = none_pass (refused overlap) batches accepted.apart i d inside;
        within = none_pass (refused limit) batches accepted.within i d inside;
      },
    )) named in
    let made = joined_made tag f found.0 found.2.0 found.2.1 in (
      made.0,
      doc_in-each (λ n f. joined_doc tag lost n f (batch_for n batches)) g k (omega arith)
          ∙ ap (λ b. joined_doc tag lost k f b) found.1 ∙ made.1,
    )

pub joined_all_go_on : (g : FlatGroup) (batches : List FlatBatch) → length g ≡ DOC_COUNT → AreAccepted g batches
    → All (λ (b : FlatBatch). 0 < length b.ops) batches → AllGoOn (named_by batches) g (joined g batches)
joined_all_go_on g batches long accepted some k named = ap (λ (f : FlatState). f.version) (joined_named g batches k long accepted some named).1

pub joint_all_go_on : (g h : FlatGroup) (batches : List FlatBatch) → length g ≡ DOC_COUNT → group_joint g batches ≡ Ok h
    → All (λ (b : FlatBatch). 0 < length b.ops) batches → AllGoOn (named_by batches) g h
joint_all_go_on g h batches long done some =
    let accepted = accepted_joint (joined g batches) h (joint_refusal g batches) done in
    subst (AllGoOn (named_by batches) g) accepted.1 (joined_all_go_on g batches long (accepted_batches g batches accepted.0) some)

-- ---- undo and redo

pub accepted_gone : (g h : FlatGroup) (n : ℕ) (r : Result (Option FlatState) FlatRefusal) → gone_in g n r ≡ Ok (Some h)
    → (f : FlatState) × (r ≡ Ok (Some f)) × (with_doc g n f ≡ h)
accepted_gone g h n (Err why) done = absurd cc
accepted_gone g h n (Ok None) done = absurd cc
accepted_gone g h n (Ok (Some f)) done = (f, refl, cc)

pub accepted_together : (last : Bool) (other : Option ℕ) (new h : FlatGroup) → (if last then Err (plain limit) else unless_other other new) ≡ Ok (Some h)
    → (last ≡ false) × (other ≡ None) × (new ≡ h)
accepted_together true other new h done = absurd cc
accepted_together false (Some k) new h done = absurd cc
accepted_together false None new h done = (refl, refl, cc)

go_by_others_stay : (going : Going) (g h : FlatGroup) (n : ℕ) (tag : Option Tag) → length g ≡ DOC_COUNT → go_by going g n tag ≡ Ok (Some h)
    → Stay (gone_with n tag) g h
go_by_others_stay going g h n None long done =
    let accepted = accepted_gone g h n (going.rule (doc_in g n)) done in
    subst (Stay (gone_with n None) g) accepted.2 (λ k off. doc_in-with_other g n k accepted.0 (eqb-false k n off))
go_by_others_stay going g h n (Some tag) long done =
    let accepted = accepted_together (some_last_from 0 tag g) (other_next_from 0 going tag g) (all_gone going g tag) h done in
    let change = λ (k : ℕ) (f : FlatState). if is_member k tag then gone_or_same f (going.rule f) else f in
    subst (Stay (gone_with n (Some tag)) g) accepted.2
    (λ k off. ⊎_elim (λ past. let out = ltb-false k DOC_COUNT past in each_past change g k (omega arith))
    (λ out. doc_in-each_left change g k (ap (λ t. if t then gone_or_same (doc_in g k) (going.rule (doc_in g k)) else doc_in g k) out))
    (and_cases (nat_lt k DOC_COUNT) (is_member k tag) off))

pub go_others_stay : (going : Going) (g h : FlatGroup) (n : ℕ) → length g ≡ DOC_COUNT → group_go going g n ≡ Ok (Some h)
    → Stay (gone_with n (front_tag (going.steps (doc_in g n)))) g h
go_others_stay going g h n long done = go_by_others_stay going g h n (front_tag (going.steps (doc_in g n))) long done

-- no member is in its last version
pub members_in_time : (n k m : ℕ) (tag : Tag) (g : FlatGroup) → m ≡ n + k → k < length g → some_last_from n tag g ≡ false → is_member m tag ≡ true
    → is_last_version (doc_in g k) ≡ false
members_in_time n k m tag [] at inside none member = absurd (omega arith)
members_in_time n zero m tag (f ∷ g) at inside none member =
    let parts = or_parts (is_member n tag && is_last_version f) (some_last_from (suc n) tag g) none in
    let here : is_member n tag ≡ true = subst (λ i. is_member i tag ≡ true) (omega arith) member in
    sym (ap (λ t. t && is_last_version f) here) ∙ parts.0
members_in_time n (suc k) m tag (f ∷ g) at inside none member =
    let parts = or_parts (is_member n tag && is_last_version f) (some_last_from (suc n) tag g) none in
    members_in_time (suc n) k m tag g (omega arith) (omega arith) parts.1 member

none_here : (b : Bool) (n : ℕ) (rest : Option ℕ) → (if b then Some n else rest) ≡ None → (b ≡ false) × (rest ≡ None)
none_here true n rest none = absurd cc
none_here false n rest none = (refl, none)

-- each member has the step of the tag next
pub members_in_front : (going : Going) (n k m : ℕ) (tag : Tag) (g : FlatGroup) → m ≡ n + k → k < length g → other_next_from n going tag g ≡ None
    → is_member m tag ≡ true → is_front tag (going.steps (doc_in g k)) ≡ true
members_in_front going n k m tag [] at inside none member = absurd (omega arith)
members_in_front going n zero m tag (f ∷ g) at inside none member =
    let parts = none_here (is_member n tag && not (is_front tag (going.steps f))) n (other_next_from (suc n) going tag g) none in
    let here : is_member n tag ≡ true = subst (λ i. is_member i tag ≡ true) (omega arith) member in
    not-false (is_front tag (going.steps f)) (sym (ap (λ t. t && not (is_front tag (going.steps f))) here) ∙ parts.0)
members_in_front going n (suc k) m tag (f ∷ g) at inside none member =
    let parts = none_here (is_member n tag && not (is_front tag (going.steps f))) n (other_next_from (suc n) going tag g) none in
    members_in_front going (suc n) k m tag g (omega arith) (omega arith) parts.1 member

go_by_all_go_on : (going : Going) (to : FlatState → List (Step FlatChange)) (g h : FlatGroup) (n : ℕ) (tag : Option Tag)
    → IsMoving going to → length g ≡ DOC_COUNT → go_by going g n tag ≡ Ok (Some h) → AllGoOn (gone_with n tag) g h
go_by_all_go_on going to g h n None moves long done =
    let accepted = accepted_gone g h n (going.rule (doc_in g n)) done in
    let f = accepted.0 in
    let inside : n < length g =
    ⊎_elim (λ inside. inside)
    (λ past. let none = ap going.rule (doc_in_past g n past) ∙ moves.none in let rule = accepted.1 in absurd cc)
    (cases_lt n (length g)) in
    let new = ap (λ (d : FlatState). d.version) (doc_in-with_same g n f inside) ∙ (moves.moved (doc_in g n) f accepted.1).version in
    subst (AllGoOn (gone_with n None) g) accepted.2
    (λ k on. subst (λ i. (doc_in (with_doc g n f) i).version ≡ (doc_in g i).version + 1) (sym (eqb-true k n on)) new)
go_by_all_go_on going to g h n (Some tag) moves long done =
    let accepted = accepted_together (some_last_from 0 tag g) (other_next_from 0 going tag g) (all_gone going g tag) h done in
    let change = λ (k : ℕ) (f : FlatState). if is_member k tag then gone_or_same f (going.rule f) else f in
    subst (AllGoOn (gone_with n (Some tag)) g) accepted.2 (λ k on.
    let parts = and_parts (nat_lt k DOC_COUNT) (is_member k tag) on in
    let lower = ltb-true k DOC_COUNT parts.0 in
    let inside : k < length g = omega arith in
    let f = doc_in g k in
    ap (λ (d : FlatState). d.version) (doc_in-each change g k inside)
    ∙ ap (λ t. (if t then gone_or_same f (going.rule f) else f).version) parts.1
    ∙ (gone_moved going to f tag moves (members_in_front going 0 k k tag g (omega arith) inside accepted.1 parts.1)
    (members_in_time 0 k k tag g (omega arith) inside accepted.0 parts.1)).version)

pub go_all_go_on : (going : Going) (to : FlatState → List (Step FlatChange)) (g h : FlatGroup) (n : ℕ) → IsMoving going to → length g ≡ DOC_COUNT
    → group_go going g n ≡ Ok (Some h) → AllGoOn (gone_with n (front_tag (going.steps (doc_in g n)))) g h
go_all_go_on going to g h n moves long done = go_by_all_go_on going to g h n (front_tag (going.steps (doc_in g n))) moves long done

-- Which flat session a session represents after a request.
use Rattle.std.proofs.Common.{◌≡◌, ◌≢◌, ℕ, zero, suc, ◌<◌, ◌≤◌, nat_lt, cond, Bool, true, false, List, [], ◌∷◌, ◌++◌, length, set, slice_get, unwrap_or, replicate, Some, None, Result, Ok, Err, refl, ap, sym, ◌∙◌, subst, ⊎_elim, arith}
use Rattle.std.proofs.lemmas.Bool.{cases_eq, cases_lt, le-leb, lt-leb}
use Rattle.std.proofs.lemmas.List.{length-set}
use Rattle.unit_text.specs.declared.kind.Kind.{Kind}
use Rattle.unit_text.specs.Kinds.{normalized}
use Rattle.batch_rules.specs.Batches.{most_units}
use Rattle.hiding_rules.specs.Hidden.{Scanner}
use Rattle.undo_rules.specs.declared.Tag.{Tag}
use Rattle.document_rules.specs.declared.ModelError.{ModelError}
use Rattle.document_rules.specs.Refusals.{FlatRefusal, limit}
use Rattle.document_rules.specs.Outcomes.{RefusedFor}
use Rattle.document_rules.specs.Document.{FlatState, empty_document, new_document, unless_too_long, flat_open}
use Rattle.group_rules.specs.declared.TheConstants.{DOC_COUNT}
use Rattle.group_rules.specs.Group.{FlatGroup, doc_in, with_doc, each_from, new_group, lost_by_open, without_tags, changed_in, group_open}
use Rattle.group_rules.proofs.Places.{doc_in_past, doc_in-with_same, doc_in-with_other}
use Rattle.model_group.specs.State.{documents}
use Rattle.model_group.proofs.Lists.{slice_get-set_same, slice_get-set_other, set_back, item_within}
use Rattle.script_lines.specs.declared.command.Command.{Command}
use Rattle.script_lines.specs.declared.reason.Refusal.TheVariants as refusal
use Rattle.script_lines.specs.declared.request.Request.TheVariants.{One}
use Rattle.script_lines.specs.Requests.{request_of}
use Rattle.session_rules.specs.Session.{FlatFollower, FlatSession, new_session, no_follower, follower_in, with_follower}
use Rattle.session_rules.specs.Script.{is_refused, is_too_long, is_blank, has_reply, requested, turn}
use Rattle.session_rules.specs.Step.{change_reply, within, following, opened, step, request_answer, Answers, answered, out_of_memory}
use Rattle.sessions.specs.declared.outcome.Reply.{Reply}
use Rattle.sessions.specs.declared.outcome.Refused.{Refused}
use Rattle.sessions.specs.declared.session.Follower.{Follower}
use Rattle.sessions.specs.declared.session.Session.{Session}
use Rattle.sessions.specs.Bytes.{bytes_of, bytes_of_outcome, refusal_of}
use Rattle.sessions.specs.Standing.{Follows, Represents, IsFresh, AreFresh, BeginsAnew, Turns}
use Rattle.sessions.specs.Told.{TellsBy, Tells, TellsOf, TellsAfter}
use Rattle.sessions.proofs.AnswerLemmas.{tells_refusal}
use Rattle.sessions.proofs.GoesLemmas.{Goes, AllGo, go_without}
use Rattle.sessions.proofs.FollowLemmas.{follows_on, follows_new}

-- ---- after a change of documents alone

module _ (old new : Session) (flat : FlatSession) (stands : Represents old flat) (followers : new.followers.items ≡ old.followers.items) where
  stands_by : (g : FlatGroup) → g ≡ documents new.group → AllGo (documents old.group) g → Represents new (record flat { documents = g })
  stands_by g is go = record {
    documents = is;
    count = ap length followers ∙ stands.count;
    flat_count = stands.flat_count;
    each = λ n own follower at there.
        follows_on (doc_in (documents old.group) n) (doc_in g n) own.mirror own.sent.items follower (go n)
        (subst (λ d. Follows (doc_in d n) own.mirror own.sent.items follower) stands.documents
        (stands.each n own follower (sym (ap (λ xs. slice_get xs n) followers) ∙ at) there));
  }

  pub stands_still : documents new.group ≡ documents old.group → Represents new flat
  stands_still same = record {
    documents = stands.documents ∙ sym same;
    count = ap length followers ∙ stands.count;
    flat_count = stands.flat_count;
    each = λ n own follower at there. stands.each n own follower (sym (ap (λ xs. slice_get xs n) followers) ∙ at) there;
  }

  pub stands_on : AllGo (documents old.group) (documents new.group) → Represents new (record flat { documents = documents new.group })
  stands_on go = stands_by (documents new.group) refl go

-- a session after a request, which answers one that the old one represents
abbrev pub Leaves : (FlatSession → List ℕ × FlatSession) → List ℕ → FlatSession → Session → Type 0
Leaves rule reply flat new = (next : FlatSession) × Answers (rule flat) flat reply next × Represents new next

module _ (old new : Session) (reply : List ℕ) (flat : FlatSession) (stands : Represents old flat) (followers : new.followers.items ≡ old.followers.items) where
  leaves_within : (answer : FlatGroup → List ℕ × FlatGroup) → AllGo (documents old.group) (answer (documents old.group)).1
      → Answers (answer (documents old.group)) (documents old.group) reply (documents new.group) → Leaves (λ s. within s (answer s.documents)) reply flat new
  leaves_within answer go (answered is to) = (
    record flat { documents = documents new.group },
    answered (is ∙ ap (λ d. (answer d).0) (sym stands.documents))
        (ap (λ d. record flat { documents = d }) (to ∙ ap (λ d. (answer d).1) (sym stands.documents))),
    stands_on old new flat stands followers (subst (AllGo (documents old.group)) (sym to) go),
  )
  leaves_within answer go (out_of_memory is to) = (flat, out_of_memory is refl, stands_still old new flat stands followers to)

  leaves_asked : (answer : FlatGroup → List ℕ) → Answers (answer (documents old.group), documents old.group) (documents old.group) reply (documents new.group)
      → Leaves (λ s. (answer s.documents, s)) reply flat new
  leaves_asked answer (answered is to) = (flat, answered (is ∙ ap answer (sym stands.documents)) refl, stands_still old new flat stands followers to)
  leaves_asked answer (out_of_memory is to) = (flat, out_of_memory is refl, stands_still old new flat stands followers to)

module _ (old new : Session) (outcome : Result Reply Refused) (followers : new.followers.items ≡ old.followers.items) where
  -- a request that leaves what follows the documents
  pub tells_within : (answer : FlatGroup → List ℕ × FlatGroup) → AllGo (documents old.group) (answer (documents old.group)).1
      → TellsBy (answer (documents old.group)) (documents old.group) outcome (documents new.group) → TellsOf (λ s. within s (answer s.documents)) old outcome new
  tells_within answer go told = record {
    answer = λ flat stands. leaves_within old new (bytes_of_outcome outcome) flat stands followers answer go told.answer;
    accepted = told.accepted;
  }

  -- a question about the documents
  pub tells_asked : (answer : FlatGroup → List ℕ) → TellsBy (answer (documents old.group), documents old.group) (documents old.group) outcome (documents new.group)
      → TellsOf (λ s. (answer s.documents, s)) old outcome new
  tells_asked answer told = record {
    answer = λ flat stands. leaves_asked old new (bytes_of_outcome outcome) flat stands followers answer told.answer;
    accepted = told.accepted;
  }

-- a question about one document
pub tells_asked_of : (s new : Session) → new.followers.items ≡ s.followers.items → new.group ≡ s.group → (n : ℕ) (f : FlatState) (outcome : Result Reply Refused)
    (answer : FlatState → List ℕ) → doc_in (documents s.group) n ≡ f
    → TellsBy (answer f, f) f outcome f → TellsOf (λ flat. (answer (doc_in flat.documents n), flat)) s outcome new
tells_asked_of s new followers same n f outcome answer is told =
    tells_asked s new outcome followers (λ g. answer (doc_in g n)) (record { answer = here told.answer; accepted = told.accepted })
  where
    here : Answers (answer f, f) f (bytes_of_outcome outcome) f
        → Answers (answer (doc_in (documents s.group) n), documents s.group) (documents s.group) (bytes_of_outcome outcome) (documents new.group)
    here (answered bytes to) = answered (bytes ∙ ap answer (sym is)) (ap documents same)
    here (out_of_memory bytes to) = out_of_memory bytes (ap documents same)

-- ---- after a change of what follows one document

module _ (old new : Session) (flat : FlatSession) (stands : Represents old flat) (n : ℕ) (own : Follower) (follower : FlatFollower)
    (same : documents new.group ≡ documents old.group) (put : new.followers.items ≡ set old.followers.items n own)
    (follows : Follows (doc_in (documents old.group) n) own.mirror own.sent.items follower) where
  stands_following : n < DOC_COUNT → Represents new (record flat { followers = with_follower flat.followers n follower })
  stands_following inside = record {
    documents = stands.documents ∙ sym same;
    count = ap length put ∙ length-set old.followers.items n own ∙ stands.count;
    flat_count = length-set flat.followers n follower ∙ stands.flat_count;
    each = λ k x y at there. ⊎_elim (λ (e : k ≡ n). here k x y e at there) (λ other. beside k x y other at there) (cases_eq k n);
  }
    where
      here : (k : ℕ) (x : Follower) (y : FlatFollower) → k ≡ n → slice_get new.followers.items k ≡ Some x → slice_get (with_follower flat.followers n follower) k ≡ Some y
          → Follows (doc_in flat.documents k) x.mirror x.sent.items y
      here k x y e at there =
          let mine : slice_get (set old.followers.items n own) n ≡ Some own = slice_get-set_same old.followers.items n own (omega (arith, stands.count, inside)) in
          let flats : slice_get (set flat.followers n follower) n ≡ Some follower = slice_get-set_same flat.followers n follower (omega (arith, stands.flat_count, inside)) in
          let first : Some own ≡ Some x = sym mine ∙ ap (slice_get (set old.followers.items n own)) (sym e) ∙ ap (λ xs. slice_get xs k) (sym put) ∙ at in
          let second : Some follower ≡ Some y = sym flats ∙ ap (slice_get (set flat.followers n follower)) (sym e) ∙ there in
          let x_is : own ≡ x = cc in
          let y_is : follower ≡ y = cc in
          subst (λ m. Follows (doc_in flat.documents m) x.mirror x.sent.items y) (sym e)
          (subst (λ g. Follows (doc_in g n) x.mirror x.sent.items y) (sym stands.documents)
          (subst (λ z. Follows (doc_in (documents old.group) n) x.mirror x.sent.items z) y_is
          (subst (λ (z : Follower). Follows (doc_in (documents old.group) n) z.mirror z.sent.items follower) x_is follows)))

      beside : (k : ℕ) (x : Follower) (y : FlatFollower) → k ≢ n → slice_get new.followers.items k ≡ Some x
          → slice_get (with_follower flat.followers n follower) k ≡ Some y → Follows (doc_in flat.documents k) x.mirror x.sent.items y
      beside k x y other at there =
          stands.each k x y (sym (slice_get-set_other old.followers.items n k own other) ∙ ap (λ xs. slice_get xs k) (sym put) ∙ at)
          (sym (slice_get-set_other flat.followers n k follower other) ∙ there)

module _ (old new : Session) (n : ℕ) (before after : Follower) (outcome : Result Reply Refused) (inside : n < DOC_COUNT)
    (there : slice_get old.followers.items n ≡ Some before) (same : documents new.group ≡ documents old.group)
    (put : new.followers.items ≡ set old.followers.items n after) where
  -- a command on what follows one document
  pub tells_following : (rule : FlatState → FlatFollower → List ℕ × FlatFollower)
      → TellsAfter (doc_in (documents old.group) n) (rule (doc_in (documents old.group) n)) before outcome after
      → TellsOf (λ s. following s n (rule (doc_in s.documents n) (follower_in s.followers n))) old outcome new
  tells_following rule told = record { answer = λ flat stands. leaves flat stands; accepted = told.accepted }
    where
      leaves : (flat : FlatSession) → Represents old flat
          → Leaves (λ s. following s n (rule (doc_in s.documents n) (follower_in s.followers n))) (bytes_of_outcome outcome) flat new
      leaves flat stands =
          let item = item_within flat.followers n (omega (arith, stands.flat_count, inside)) in
          let is : follower_in flat.followers n ≡ item.0 = ap (λ o. unwrap_or o no_follower) item.1 in
          let follows = subst (λ g. Follows (doc_in g n) before.mirror before.sent.items item.0) stands.documents (stands.each n before item.0 there item.1) in
          let next = told.answer item.0 follows in
          by item.0 next.0 item.1 is next.1 (stands_following old new flat stands n after next.0 same put next.2 inside)
        where
          by : (f next : FlatFollower) → slice_get flat.followers n ≡ Some f → follower_in flat.followers n ≡ f
              → Answers (rule (doc_in (documents old.group) n) f) f (bytes_of_outcome outcome) next
              → Represents new (record flat { followers = with_follower flat.followers n next })
              → Leaves (λ s. following s n (rule (doc_in s.documents n) (follower_in s.followers n))) (bytes_of_outcome outcome) flat new
          by f next at is (answered bytes to) standing =
              let rules : rule (doc_in (documents old.group) n) f ≡ rule (doc_in flat.documents n) (follower_in flat.followers n) =
              ap (λ g. rule (doc_in g n) f) (sym stands.documents) ∙ ap (rule (doc_in flat.documents n)) (sym is) in (
                record flat { followers = with_follower flat.followers n next },
                answered (bytes ∙ ap (λ r. r.0) rules)
                    (ap (λ x. record flat { followers = with_follower flat.followers n x }) (to ∙ ap (λ r. r.1) rules)),
                standing,
              )
          by f next at is (out_of_memory bytes to) standing =
              let back : record flat { followers = with_follower flat.followers n next } ≡ flat =
              ap (λ x. record flat { followers = with_follower flat.followers n x }) to
              ∙ ap (λ xs. record flat { followers = xs }) (set_back flat.followers n f at) in
              (flat, out_of_memory bytes refl, subst (Represents new) back standing)

-- a question about what follows one document
pub tells_asked_after : (s : Session) (n : ℕ) (own : Follower) (outcome : Result Reply Refused) → n < DOC_COUNT → slice_get s.followers.items n ≡ Some own
    → (answer : FlatFollower → List ℕ) → TellsAfter (doc_in (documents s.group) n) (λ flat. (answer flat, flat)) own outcome own
    → TellsOf (λ flat. (answer (follower_in flat.followers n), flat)) s outcome s
tells_asked_after s n own outcome inside there answer told = record { answer = λ flat stands. leaves flat stands; accepted = told.accepted }
  where
    leaves : (flat : FlatSession) → Represents s flat → Leaves (λ flat. (answer (follower_in flat.followers n), flat)) (bytes_of_outcome outcome) flat s
    leaves flat stands =
        let item = item_within flat.followers n (omega (arith, stands.flat_count, inside)) in
        let is : follower_in flat.followers n ≡ item.0 = ap (λ o. unwrap_or o no_follower) item.1 in
        let follows = subst (λ g. Follows (doc_in g n) own.mirror own.sent.items item.0) stands.documents (stands.each n own item.0 there item.1) in
        let next = told.answer item.0 follows in by item.0 next.0 is next.1
      where
        by : (f next : FlatFollower) → follower_in flat.followers n ≡ f → Answers (answer f, f) f (bytes_of_outcome outcome) next
            → Leaves (λ flat. (answer (follower_in flat.followers n), flat)) (bytes_of_outcome outcome) flat s
        by f next is (answered bytes to) = (flat, answered (bytes ∙ ap answer (sym is)) refl, stands)
        by f next is (out_of_memory bytes to) = (flat, out_of_memory bytes refl, stands)

-- ---- new documents

new_by : (units : List ℕ) (scanner : Scanner) (kind : Kind) (is_long : Bool) (new : FlatState)
    → cond is_long (Err limit) (Ok (new_document units scanner kind)) ≡ Ok new → (new.version ≡ 1) × (new.last ≡ None)
new_by units scanner kind true new is = absurd cc
new_by units scanner kind false new is =
    let same : new_document units scanner kind ≡ new = cc in
    (ap (λ (f : FlatState). f.version) (sym same), ap (λ (f : FlatState). f.last) (sym same))

-- a document that was opened has no change behind it
opened_new : (units : List ℕ) (scanner : Scanner) (kind : Kind) (new : FlatState) → unless_too_long units scanner kind ≡ Ok new
    → (new.version ≡ 1) × (new.last ≡ None)
opened_new units scanner kind new is = new_by units scanner kind (nat_lt most_units (length units)) new is

module _ {X : Type 0} where
  replicated : (k : ℕ) (x : X) (n : ℕ) (y : X) → slice_get (replicate k x) n ≡ Some y → y ≡ x
  replicated zero x n y is = absurd cc
  replicated (suc k) x zero y is = cc
  replicated (suc k) x (suc n) y is = replicated k x n y is

  replicated_or : (k : ℕ) (x : X) (n : ℕ) → unwrap_or (slice_get (replicate k x) n) x ≡ x
  replicated_or zero x n = refl
  replicated_or (suc k) x zero = refl
  replicated_or (suc k) x (suc n) = replicated_or k x n

  replicated_count : (k : ℕ) (x : X) → length (replicate k x) ≡ k
  replicated_count zero x = refl
  replicated_count (suc k) x = ap suc (replicated_count k x)

-- the documents before any text was opened
pub stands_fresh : (s : Session) → documents s.group ≡ new_group → AreFresh s.followers.items → Represents s new_session
stands_fresh s same fresh = record {
  documents = sym same;
  count = fresh.count;
  flat_count = replicated_count DOC_COUNT no_follower;
  each = λ n own follower at there.
      let doc : doc_in new_group n ≡ empty_document = replicated_or DOC_COUNT empty_document n in
      let none : follower ≡ no_follower = replicated DOC_COUNT no_follower n follower there in
      let own_is = fresh.each n own at in
      subst (Follows (doc_in new_group n) own.mirror own.sent.items) (sym none)
      (follows_new (doc_in new_group n) own.mirror own.sent.items (ap (λ (f : FlatState). f.version) doc) (ap (λ (f : FlatState). f.last) doc)
      own_is.mirror own_is.sent);
}

-- a document was put there that has no change behind it
new_at : (g : FlatGroup) (n : ℕ) (f : FlatState) → (f.version ≡ 1) × (f.last ≡ None)
    → ((doc_in (with_doc g n f) n).version ≡ 1) × ((doc_in (with_doc g n f) n).last ≡ None)
new_at g n f first = ⊎_elim (λ inside. unchanged f (doc_in-with_same g n f inside) first)
    (λ past. unchanged empty_document (doc_in_past (with_doc g n f) n (omega (arith, length-set g n f, past))) (refl, refl)) (cases_lt n (length g))
  where
    unchanged : (d : FlatState) → doc_in (with_doc g n f) n ≡ d → (d.version ≡ 1) × (d.last ≡ None)
        → ((doc_in (with_doc g n f) n).version ≡ 1) × ((doc_in (with_doc g n f) n).last ≡ None)
    unchanged d is first = (ap (λ (x : FlatState). x.version) is ∙ first.0, ap (λ (x : FlatState). x.last) is ∙ first.1)

changed_by : (g : FlatGroup) (lost : List Tag) (n : ℕ) (rule : Result FlatState FlatRefusal) (new : FlatGroup) → changed_in g lost n rule ≡ Ok new
    → (f : FlatState) × (rule ≡ Ok f) × (new ≡ with_doc (each_from 0 (without_tags lost) g) n f)
changed_by g lost n (Err why) new is = absurd cc
changed_by g lost n (Ok f) new is = (f, refl, cc)

module _ (old new : Session) (flat : FlatSession) (stands : Represents old flat) (n : ℕ) (lost : List Tag) (f : FlatState) (inside : n < DOC_COUNT)
    (first : (f.version ≡ 1) × (f.last ≡ None)) (is : documents new.group ≡ with_doc (each_from 0 (without_tags lost) (documents old.group)) n f)
    (anew : BeginsAnew n old.followers.items new.followers.items) where
  -- a new document, and nothing follows it
  stands_new : Represents new (record { documents = documents new.group; followers = with_follower flat.followers n no_follower })
  stands_new = record {
    documents = refl;
    count = anew.count ∙ stands.count;
    flat_count = length-set flat.followers n no_follower ∙ stands.flat_count;
    each = λ k x y at there. ⊎_elim (λ (e : k ≡ n). here k x y e at there) (λ other. beside k x y other at there) (cases_eq k n);
  }
    where
      here : (k : ℕ) (x : Follower) (y : FlatFollower) → k ≡ n → slice_get new.followers.items k ≡ Some x
          → slice_get (with_follower flat.followers n no_follower) k ≡ Some y → Follows (doc_in (documents new.group) k) x.mirror x.sent.items y
      here k x y e at there =
          let fresh = anew.anew x (ap (slice_get new.followers.items) (sym e) ∙ at) in
          let flats : slice_get (set flat.followers n no_follower) n ≡ Some no_follower = slice_get-set_same flat.followers n no_follower (omega (arith, stands.flat_count, inside)) in
          let same : Some no_follower ≡ Some y = sym flats ∙ ap (slice_get (set flat.followers n no_follower)) (sym e) ∙ there in
          let none : no_follower ≡ y = cc in
          let less : FlatGroup = each_from 0 (without_tags lost) (documents old.group) in
          let doc : doc_in (documents new.group) k ≡ doc_in (with_doc less n f) n = ap (λ g. doc_in g k) is ∙ ap (doc_in (with_doc less n f)) e in
          let begun = new_at less n f first in
          subst (Follows (doc_in (documents new.group) k) x.mirror x.sent.items) none
          (follows_new (doc_in (documents new.group) k) x.mirror x.sent.items (ap (λ (d : FlatState). d.version) doc ∙ begun.0)
          (ap (λ (d : FlatState). d.last) doc ∙ begun.1) fresh.mirror fresh.sent)

      beside : (k : ℕ) (x : Follower) (y : FlatFollower) → k ≢ n → slice_get new.followers.items k ≡ Some x
          → slice_get (with_follower flat.followers n no_follower) k ≡ Some y → Follows (doc_in (documents new.group) k) x.mirror x.sent.items y
      beside k x y other at there =
          let less : FlatGroup = each_from 0 (without_tags lost) (documents old.group) in
          let doc : doc_in less k ≡ doc_in (documents new.group) k = sym (doc_in-with_other less n k f other) ∙ ap (λ g. doc_in g k) (sym is) in
          let before = stands.each k x y (sym (anew.rest k other) ∙ at) (sym (slice_get-set_other flat.followers n k no_follower other) ∙ there) in
          follows_on (doc_in (documents old.group) k) (doc_in (documents new.group) k) x.mirror x.sent.items y
          (subst (Goes (doc_in (documents old.group) k)) doc (go_without (documents old.group) lost k))
          (subst (λ g. Follows (doc_in g k) x.mirror x.sent.items y) stands.documents before)

-- a document was opened
pub tells_opened : (old new : Session) (n : ℕ) (text : List ℕ) (scanner : Scanner) (kind : Kind) (reply : Reply) → n < DOC_COUNT
    → group_open (documents old.group) n text scanner kind ≡ Ok (documents new.group) → BeginsAnew n old.followers.items new.followers.items
    → bytes_of reply ≡ change_reply (doc_in (documents new.group) n) → TellsOf (λ s. opened s n (group_open s.documents n text scanner kind)) old (Ok reply) new
tells_opened old new n text scanner kind reply inside rule anew bytes = record {
  answer = λ flat stands.
      let g = documents old.group in
      let lost = lost_by_open (doc_in g n) in
      let made = changed_by g lost n (flat_open text scanner kind) (documents new.group) rule in
      let first = opened_new (normalized kind text) scanner kind made.0 made.1 in
      let opening : opened flat n (group_open flat.documents n text scanner kind) ≡ opened flat n (Ok (documents new.group)) =
      ap (λ d. opened flat n (group_open d n text scanner kind)) stands.documents ∙ ap (opened flat n) rule in (
        record { documents = documents new.group; followers = with_follower flat.followers n no_follower },
        answered (bytes ∙ ap (λ r. r.0) (sym opening)) (ap (λ r. r.1) (sym opening)),
        stands_new old new flat stands n lost made.0 inside first made.2 anew,
      );
  accepted = ap is_refused bytes;
}

-- no document was opened
pub tells_unopened : (old new : Session) (n : ℕ) (text : List ℕ) (scanner : Scanner) (kind : Kind) (e : ModelError)
    → (documents new.group ≡ documents old.group) × RefusedFor e (group_open (documents old.group) n text scanner kind)
    → new.followers.items ≡ old.followers.items
    → TellsOf (λ s. opened s n (group_open s.documents n text scanner kind)) old (Err (record { 0 = refusal_of e })) new
tells_unopened old new n text scanner kind e (same, why) followers = record {
  answer = λ flat stands.
      let refused = subst (λ g. RefusedFor e (group_open g n text scanner kind)) (sym stands.documents) why in
      let told = tells_refusal (opened flat n) flat flat e (group_open flat.documents n text scanner kind) (λ why. refl) (refl, refused) in
      (flat, told.answer, stands_still old new flat stands followers same);
  accepted = tt;
}

-- one more follower, of which nothing was mirrored or sent
pub fresh_more : (followers : List Follower) (own : Follower) → ((n : ℕ) (x : Follower) → slice_get followers n ≡ Some x → IsFresh x) → IsFresh own
    → (n : ℕ) (x : Follower) → slice_get (followers ++ own ∷ []) n ≡ Some x → IsFresh x
fresh_more [] own each fresh zero x is = let same : own ≡ x = cc in subst IsFresh same fresh
fresh_more [] own each fresh (suc n) x is = absurd cc
fresh_more (f ∷ followers) own each fresh zero x is = each zero x is
fresh_more (f ∷ followers) own each fresh (suc n) x is = fresh_more followers own (λ k. each (suc k)) fresh n x is

-- ---- requests

-- a document that is not there
pub tells_no_document : (s : Session) (n : ℕ) (command : Command) → DOC_COUNT ≤ n
    → TellsOf (λ flat. request_answer flat (One n command)) s (Err (record { 0 = refusal.Unknown })) s
tells_no_document s n command past = record {
  answer = λ flat stands. (flat, rw (le-leb DOC_COUNT n past) (answered refl refl), stands);
  accepted = tt;
}

-- one that is there
pub tells_one : (old new : Session) (n : ℕ) (command : Command) (outcome : Result Reply Refused) → n < DOC_COUNT → Tells old n command outcome new
    → TellsOf (λ flat. request_answer flat (One n command)) old outcome new
tells_one old new n command outcome inside told = record {
  answer = λ flat stands.
      let next = told.answer flat stands in
      let same : request_answer flat (One n command) ≡ step flat n command = rw (lt-leb DOC_COUNT n inside) refl in
      (next.0, subst (λ r. Answers r flat (bytes_of_outcome outcome) next.0) (sym same) next.1, next.2);
  accepted = told.accepted;
}

-- a line that is neither too long nor blank is answered as its request is
pub turns_by : (old new : Session) (line : List ℕ) (outcome : Result Reply Refused) → is_too_long line ≡ false → is_blank line ≡ false
    → TellsOf (λ flat. requested flat (request_of line)) old outcome new → Turns old line (bytes_of_outcome outcome) new
turns_by old new line outcome short some told = λ flat stands.
    let next = told.answer flat stands in
    let reply : has_reply line ≡ true = rw (short, some) refl in
    let same : turn flat line ≡ requested flat (request_of line) = rw short refl in (
      next.0,
      rw reply (subst (λ r. Answers r flat (bytes_of_outcome outcome) next.0) (sym same) next.1),
      next.2,
    )

-- One request on a session, and on a smaller one that has the same documents of a set with the same followers.
use Rattle.std.proofs.Common.{◌≡◌, ℕ, Bool, true, false, if◌then◌else◌, List, [], ◌∷◌, length, Option, Some, None, Result, Ok, Err, refl, ap, ap₂, subst, ◌∙◌}
use Rattle.text_rules.specs.declared.Op.{Op}
use Rattle.decoration_rules.specs.Refusals.{DecoRefusal}
use Rattle.decoration_rules.specs.Decorations.{Decorations}
use Rattle.decoration_rules.specs.Decorations as decorations
use Rattle.undo_rules.specs.declared.Tag.{Tag}
use Rattle.snapshot_rules.specs.Refusals.{ShelfRefusal}
use Rattle.snapshot_rules.specs.Snapshots.{FlatShelf, flat_take, flat_close}
use Rattle.document_rules.specs.Refusals.{FlatRefusal}
use Rattle.document_rules.specs.Document.{FlatState, empty_document, flat_open, flat_edit, flat_eol, flat_stop, with_decorations, flat_decorate, flat_deco, flat_decos, flat_line, flat_value, flat_position, flat_offset, flat_line_count}
use Rattle.document_rules.specs.Snapshots.{with_shelf, flat_snapshot, flat_peek_of, flat_close_of}
use Rattle.document_rules.specs.Stops.{flat_stops}
use Rattle.document_rules.specs.Brackets.{flat_brackets, flat_match, flat_level}
use Rattle.search_rules.specs.Replacing.{flat_find, flat_replace_all}
use Rattle.group_rules.specs.Group.{FlatGroup, doc_in, with_doc, changed_in, lost_by_change, lost_by_open}
use Rattle.group_rules.specs.Going.{undoing, redoing}
use Rattle.group_rules.proofs.KeptTags.{AllTags, kept_open, kept_edit, kept_eol, kept_replace_all}
use Rattle.group_rules.proofs.Kept.{AllTagsIn-with_doc, lost_by_change_kept, lost_by_open_kept, undoing_keeps, redoing_keeps}
use Rattle.group_rules.proofs.Alike.{SameIn, SameItems, SameItems-trans, SameItems-set, SameItems-set_outside}
use Rattle.script_lines.specs.declared.command.Command.{Command}
use Rattle.script_lines.specs.declared.command.Command.TheVariants.{Open, Edit, Eol, Decorate, Undo, Redo, Stop, Size, Version, Changes, Line, Value, Offset, Decos, Brackets, Match, Level, Snapshot, Read, Close, Stops, Find, Replace, Mirror, Send, Deliver, Mirrored}
use Rattle.script_lines.specs.declared.command.Command.TheVariants as command
use Rattle.script_lines.specs.declared.reason.Refusal.TheVariants as refusal
use Rattle.script_lines.specs.Replies.{ok_reply, refusal_reply}
use Rattle.session_rules.specs.Session.{FlatSession, FlatFollower, no_follower, follower_in, with_follower}
use Rattle.session_rules.specs.Step.{within, within_doc, changed, decorated, deco_answer, decos_answer, text_answer, offset_answer, position_answer, brackets_answer, match_answer, level_answer, snapshot_answer, read_answer, close_answer, stops_answer, spans_reply, changes_reply, ops_at, edited_at, following, opened, mirror_answer, send_answer, sent_at, deliver_answer, mirrored_answer, scanner_for, step}
use Rattle.session_rules.specs.Apart.{Docs}
use Rattle.session_rules.proofs.Answering.{IsApart, AreApart, Goes, goes_from, goes_beside, goes_unchanged, goes_changed, goes_moved, goes_gone}

pub record Related (set : Docs) (s t : FlatSession) : Type 0 where
  pub documents : SameIn set s.documents t.documents
  pub followers : SameItems no_follower set s.followers t.followers
  pub sound : AreApart set s.documents

-- A request on the session had the answer a, and on the smaller session, which was t, the answer b. Where the set has all
-- documents of the request, the smaller session goes on with it; where it has none, the smaller session stays.
pub record GoesOn (set : Docs) (t : FlatSession) (all : Bool) (a b : List ℕ × FlatSession) : Type 0 where
  pub related : Related set a.1 (if all then b.1 else t)
  pub reply : all ≡ true → a.0 ≡ b.0

module _ (set : Docs) (s t : FlatSession) (r : Related set s t) where
  pub goes_within : (all : Bool) (a b : List ℕ × FlatGroup) → Goes set t.documents all a b → GoesOn set t all (within s a) (within t b)
  goes_within true a b goes =
      record { related = record { documents = goes.same; followers = r.followers; sound = goes.sound }; reply = goes.reply }
  goes_within false a b goes =
      record { related = record { documents = goes.same; followers = r.followers; sound = goes.sound }; reply = goes.reply }

  -- an answer that leaves the sessions
  pub goes_read : (all : Bool) (x y : List ℕ) → (all ≡ true → x ≡ y) → GoesOn set t all (x, s) (y, t)
  goes_read true x y same = record { related = r; reply = same }
  goes_read false x y same = record { related = r; reply = same }

  module _ (n : ℕ) where
    -- a change of the follower of the document
    goes_following : (all : Bool) (a b : List ℕ × FlatFollower) → set n ≡ all → (all ≡ true → a ≡ b)
        → GoesOn set t all (following s n a) (following t n b)
    goes_following true a b e same =
        subst (λ (c : List ℕ × FlatFollower). GoesOn set t true (following s n a) (following t n c)) (same refl) (record {
          related = record {
            documents = r.documents;
            followers = SameItems-set no_follower set s.followers t.followers n a.1 r.followers;
            sound = r.sound;
          };
          reply = λ on. refl;
        })
    goes_following false a b e same = record {
      related = record {
        documents = r.documents;
        followers = SameItems-trans no_follower set (with_follower s.followers n a.1) s.followers t.followers
            (SameItems-set_outside no_follower set s.followers n a.1 r.followers.left e) r.followers;
        sound = r.sound;
      };
      reply = λ on. absurd cc;
    }

    -- a change of the document that loses no tags
    goes_with_doc : (all : Bool) (reply : List ℕ) (f : FlatState) → set n ≡ all → AllTags (IsApart set n) f.history
        → Goes set t.documents all (reply, with_doc s.documents n f) (reply, with_doc t.documents n f)
    goes_with_doc all reply f e kept =
        let g = s.documents in
        let h = t.documents in
        goes_from set g h all (reply, with_doc g n f) (reply, with_doc h n f) r.documents (AllTagsIn-with_doc (IsApart set) g n f r.sound kept)
        (λ on. record { reply = refl; same = SameItems-set empty_document set g h n f r.documents })
        (λ off. SameItems-set_outside empty_document set g n f r.documents.left (e ∙ off))

    goes_doc : (all : Bool) (a b : List ℕ × FlatState) → set n ≡ all → AllTags (IsApart set n) a.1.history → (all ≡ true → a ≡ b)
        → GoesOn set t all (within_doc s n a) (within_doc t n b)
    goes_doc all a b e kept same =
        let after : List ℕ × FlatState → List ℕ × FlatGroup = λ c. (c.0, with_doc t.documents n c.1) in
        goes_within all (a.0, with_doc s.documents n a.1) (after b)
        (goes_beside set t.documents all (a.0, with_doc s.documents n a.1) (after a) (after b)
        (goes_with_doc all a.0 a.1 e kept) (λ on. ap after (same on)))

    -- a new document takes the place of the old one
    goes_opened : (all : Bool) (new : Result FlatState FlatRefusal) (lost lost' : List Tag) → set n ≡ all
        → Goes set t.documents all (changed s.documents n (changed_in s.documents lost n new)) (changed t.documents n (changed_in t.documents lost' n new))
        → GoesOn set t all (opened s n (changed_in s.documents lost n new)) (opened t n (changed_in t.documents lost' n new))
    goes_opened true (Ok f) lost lost' e goes = record {
      related = record {
        documents = goes.same;
        followers = SameItems-set no_follower set s.followers t.followers n no_follower r.followers;
        sound = goes.sound;
      };
      reply = goes.reply;
    }
    goes_opened false (Ok f) lost lost' e goes = record {
      related = record {
        documents = goes.same;
        followers = SameItems-trans no_follower set (with_follower s.followers n no_follower) s.followers t.followers
            (SameItems-set_outside no_follower set s.followers n no_follower r.followers.left e) r.followers;
        sound = goes.sound;
      };
      reply = goes.reply;
    }
    goes_opened all (Err why) lost lost' e goes = goes_read all (refusal_reply _) (refusal_reply _) goes.reply

-- ---- the tags of the document after calls that change neither list of steps

kept_decorated : (P : Tag → Type 0) (f : FlatState) (count : ℕ) (d : Result Decorations DecoRefusal) → AllTags P f.history
    → AllTags P (decorated f count (with_decorations f d)).1.history
kept_decorated P f count (Ok d) h = h
kept_decorated P f count (Err why) h = h

kept_snapshot : (P : Tag → Type 0) (f : FlatState) (shelf : Result FlatShelf ShelfRefusal) → AllTags P f.history
    → AllTags P (snapshot_answer f (with_shelf f shelf)).1.history
kept_snapshot P f (Ok shelf) h = h
kept_snapshot P f (Err why) h = h

kept_read : (P : Tag → Type 0) (f : FlatState) (id : ℕ) (units : Result (List ℕ) FlatRefusal) → AllTags P f.history
    → AllTags P (read_answer f id units).1.history
kept_read P f id (Ok units) h = h
kept_read P f id (Err why) h = h

kept_close : (P : Tag → Type 0) (f : FlatState) (shelf : Result FlatShelf ShelfRefusal) → AllTags P f.history
    → AllTags P (close_answer f (with_shelf f shelf)).1.history
kept_close P f (Ok shelf) h = h
kept_close P f (Err why) h = h

kept_stop : (P : Tag → Type 0) (f : FlatState) → AllTags P f.history → AllTags P (flat_stop f).history
kept_stop P f h = record { undo = h.undo; redo = h.redo }

-- ---- each command

module _ (set : Docs) (s t : FlatSession) (r : Related set s t) (n : ℕ) (all : Bool) (e : set n ≡ all) where
  doc_same : all ≡ true → doc_in s.documents n ≡ doc_in t.documents n
  doc_same on = r.documents.same n (e ∙ on)

  follower_same : all ≡ true → follower_in s.followers n ≡ follower_in t.followers n
  follower_same on = r.followers.same n (e ∙ on)

  -- a reply that depends only on the document and its follower
  asked : (reply : FlatState → List ℕ) → GoesOn set t all (reply (doc_in s.documents n), s) (reply (doc_in t.documents n), t)
  asked reply = goes_read set s t r all (reply (doc_in s.documents n)) (reply (doc_in t.documents n)) (λ on. ap reply (doc_same on))

  put : (answer : FlatState → List ℕ × FlatState) → AllTags (IsApart set n) (answer (doc_in s.documents n)).1.history
      → GoesOn set t all (within_doc s n (answer (doc_in s.documents n))) (within_doc t n (answer (doc_in t.documents n)))
  put answer kept =
      goes_doc set s t r n all (answer (doc_in s.documents n)) (answer (doc_in t.documents n)) e kept (λ on. ap answer (doc_same on))

  followed : (answer : FlatState → FlatFollower → List ℕ × FlatFollower)
      → GoesOn set t all (following s n (answer (doc_in s.documents n) (follower_in s.followers n)))
      (following t n (answer (doc_in t.documents n) (follower_in t.followers n)))
  followed answer =
      goes_following set s t r n all (answer (doc_in s.documents n) (follower_in s.followers n))
      (answer (doc_in t.documents n) (follower_in t.followers n)) e
      (λ on. ap₂ answer (doc_same on) (follower_same on))

  edited_by : (ops : Option (List Op)) → Goes set t.documents all (edited_at s.documents n ops) (edited_at t.documents n ops)
  edited_by None = goes_unchanged set s.documents t.documents r.documents r.sound all (refusal_reply refusal.Range)
  edited_by (Some ops) =
      goes_changed set s.documents t.documents r.documents r.sound n all lost_by_change (λ f. flat_edit f ops) e
      (lost_by_change_kept (IsApart set n)) (λ f new done h. kept_edit (IsApart set n) f new ops done h)

  pub goes_step : (command : Command) → GoesOn set t all (step s n command) (step t n command)
  goes_step (Open text brackets marks kind) =
      let scanner = scanner_for brackets marks in
      goes_opened set s t r n all (flat_open text scanner kind) (lost_by_open (doc_in s.documents n)) (lost_by_open (doc_in t.documents n)) e
      (goes_changed set s.documents t.documents r.documents r.sound n all lost_by_open (λ f. flat_open text scanner kind) e
      (lost_by_open_kept (IsApart set n)) (λ f new done h. kept_open (IsApart set n) text scanner kind new done))
  goes_step (Edit ops) =
      let f = doc_in s.documents n in
      let f' = doc_in t.documents n in
      let full = edited_at s.documents n (ops_at f ops) in
      let small = edited_at t.documents n (ops_at f' ops) in
      goes_within set s t r all full small
      (goes_beside set t.documents all full (edited_at t.documents n (ops_at f ops)) small
      (edited_by (ops_at f ops)) (λ on. ap (λ d. edited_at t.documents n (ops_at d ops)) (doc_same on)))
  goes_step (Eol kind) =
      goes_within set s t r all _ _
      (goes_moved set s.documents t.documents r.documents r.sound n all lost_by_change (λ f. flat_eol f kind) e
      (lost_by_change_kept (IsApart set n)) (λ f new done h. kept_eol (IsApart set n) f new kind done h))
  goes_step (Replace sought text) =
      goes_within set s t r all _ _
      (goes_moved set s.documents t.documents r.documents r.sound n all lost_by_change (λ f. flat_replace_all f sought text) e
      (lost_by_change_kept (IsApart set n)) (λ f new done h. kept_replace_all (IsApart set n) f new sought text done h))
  goes_step Undo = goes_within set s t r all _ _ (goes_gone set s.documents t.documents r.documents r.sound n all undoing e undoing_keeps)
  goes_step Redo = goes_within set s t r all _ _ (goes_gone set s.documents t.documents r.documents r.sound n all redoing e redoing_keeps)
  goes_step (Decorate owner remove add) =
      let f = doc_in s.documents n in
      put (λ f. decorated f (length add) (flat_decorate f owner remove add))
      (kept_decorated (IsApart set n) f (length add) (decorations.decorated f.decorations owner remove add f.kind f.units) (r.sound n))
  goes_step Stop = put (λ f. (ok_reply [], flat_stop f)) (kept_stop (IsApart set n) (doc_in s.documents n) (r.sound n))
  goes_step Snapshot =
      let f = doc_in s.documents n in
      put (λ f. snapshot_answer f (flat_snapshot f)) (kept_snapshot (IsApart set n) f (flat_take f.shelf f.units) (r.sound n))
  goes_step (Read id count) =
      let f = doc_in s.documents n in
      put (λ f. read_answer f id (flat_peek_of f id count)) (kept_read (IsApart set n) f id (flat_peek_of f id count) (r.sound n))
  goes_step (Close id) =
      let f = doc_in s.documents n in
      put (λ f. close_answer f (flat_close_of f id)) (kept_close (IsApart set n) f (flat_close f.shelf id) (r.sound n))
  goes_step Version = asked (λ f. ok_reply (f.version ∷ f.alternative ∷ []))
  goes_step Size = asked (λ f. ok_reply (length f.units ∷ flat_line_count f ∷ []))
  goes_step Changes = asked changes_reply
  goes_step (Line line) = asked (λ f. text_answer (flat_line f line))
  goes_step (Value span) = asked (λ f. text_answer (flat_value f span))
  goes_step (Offset p) = asked (λ f. offset_answer (flat_offset f p))
  goes_step (command.Position offset) = asked (λ f. position_answer (flat_position f offset))
  goes_step (command.Deco id) = asked (λ f. deco_answer (flat_deco f id))
  goes_step (Decos span owner) = asked (λ f. decos_answer (flat_decos f span owner))
  goes_step (Brackets from to) = asked (λ f. brackets_answer (flat_brackets f from to))
  goes_step (Match p) = asked (λ f. match_answer (flat_match f p))
  goes_step (Level p) = asked (λ f. level_answer (flat_level f p))
  goes_step (Stops line) = asked (λ f. stops_answer (flat_stops f line))
  goes_step (Find sought) = asked (λ f. spans_reply (flat_find f sought))
  goes_step Mirror = followed mirror_answer
  goes_step Send = followed send_answer
  goes_step (Deliver k) = followed (λ f follower. deliver_answer follower follower.mirror (sent_at follower.sent k))
  goes_step (Mirrored line) =
      goes_read set s t r all (mirrored_answer (follower_in s.followers n).mirror line) (mirrored_answer (follower_in t.followers n).mirror line)
      (λ on. ap (λ (follower : FlatFollower). mirrored_answer follower.mirror line) (follower_same on))

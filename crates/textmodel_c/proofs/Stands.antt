-- A session that represents a flat one goes on representing one after each call: with the documents of then, and with what followed them.
use Rattle.std.proofs.Common.{◌≡◌, ◌<◌, ℕ, Bool, true, false, List, [], ◌∷◌, Option, Some, None, Result, Ok, Err, refl, sym, ap, ◌∙◌, subst}
use Rattle.std.specs.Prelude.{⊤}
use Rattle.unit_text.specs.declared.kind.Kind.{Kind}
use Rattle.text_lengths.specs.declared.Position.{Position}
use Rattle.text_lengths.specs.declared.Span.{Span}
use Rattle.text_rules.specs.declared.Op.{Op}
use Rattle.hiding_rules.specs.Hidden.{Scanner, scanner}
use Rattle.column_encodings.specs.declared.Encoding.{Encoding}
use Rattle.decoration_rules.specs.declared.NewDeco.{NewDeco}
use Rattle.document_rules.specs.declared.ModelError.{ModelError}
use Rattle.document_rules.specs.declared.ModelError.TheVariants as error
use Rattle.document_rules.specs.Refusals.{FlatRefusal}
use Rattle.document_rules.specs.Outcomes.{Changes, ChangesWith, Moves}
use Rattle.document_rules.specs.Document.{FlatState, flat_stop, flat_decorate}
use Rattle.document_rules.specs.Snapshots.{flat_snapshot, flat_close_of}
use Rattle.group_rules.specs.declared.TheConstants.{DOC_COUNT}
use Rattle.group_rules.specs.declared.GroupError.{GroupError}
use Rattle.group_rules.specs.Refusals.{GroupRefusal}
use Rattle.group_rules.specs.Outcomes.{MovesAll}
use Rattle.group_rules.specs.Group.{FlatGroup, doc_in, group_open, group_edit, group_eol}
use Rattle.group_rules.specs.Going.{group_undo, group_redo}
use Rattle.model_group.specs.State.{documents}
use Rattle.session_rules.specs.Session.{FlatSession}
use Rattle.session_rules.specs.Script.{is_refused}
use Rattle.session_rules.specs.Step.{Answers, answered, out_of_memory, change_reply, changed, moved, gone, opened, decorated, snapshot_answer, close_answer}
use Rattle.sessions.specs.declared.outcome.Reply.TheVariants.{Short}
use Rattle.sessions.specs.declared.session.Session.{Session}
use Rattle.sessions.specs.Standing.{Represents, BeginsAnew}
use Rattle.sessions.proofs.GoesLemmas.{Goes, stays, AllGo, go_edited, go_eol, go_replaced, go_undo, go_redo, go_with_doc, goes_stop, goes_decorated, goes_snapshot, goes_close}
use Rattle.sessions.proofs.StandingLemmas.{stands_on, tells_opened}
use Rattle.textmodel_c.specs.declared.contents.Contents.{Contents}
use Rattle.textmodel_c.specs.declared.status.Status.{Status}
use Rattle.textmodel_c.specs.declared.status.Status.TheVariants as status
use Rattle.textmodel_c.specs.Statuses.{number_of, status_of_error, status_of_given}
use Rattle.textmodel_c.specs.Documents.{document_in, OnDocument}
use Rattle.textmodel_c.specs.Rules.{or_range, or_refused, one_op, kind_of, Scanning, encoding_of, span_between, group_open_as, group_edit_at, group_eol_as, group_replace_some}
use Rattle.textmodel_c.specs.Told.{KeepsRest, ChangesDocs, MovesDocs, Went, Changed, Decorated, Shelved, Becomes, Replaced, HasRead, Reads, HasReadUtf8, ReadsUtf8, KeepsText, Opens, Opened, StaysFlat, StaysFlatAnew, followers_after}

-- ---- each document goes on by one version, or stays at its text

rest : (g : FlatGroup) → AllGo g g
rest g = go_edited g 0 None

module _ (doc : ℕ) (g new : FlatGroup) where
  change_goes : (answer : Result ⊤ ModelError) (rule : Result FlatGroup FlatRefusal) → AllGo g (changed g doc rule).1 → Changes answer g new rule → AllGo g new
  change_goes (Ok x) rule go is = subst (λ r. AllGo g (changed g doc r).1) is go
  change_goes (Err e) rule go (same, why) = subst (AllGo g) (sym same) (rest g)

  move_goes : (answer : Result Bool ModelError) (rule : Result (Option FlatGroup) FlatRefusal) → AllGo g (moved g doc rule).1 → Moves answer g new rule
      → AllGo g new
  move_goes (Ok true) rule go is = subst (λ r. AllGo g (moved g doc r).1) is go
  move_goes (Ok false) rule go (none, same) = subst (AllGo g) (sym same) (rest g)
  move_goes (Err e) rule go (same, why) = subst (AllGo g) (sym same) (rest g)

  going_goes : (answer : Result Bool GroupError) (rule : Result (Option FlatGroup) GroupRefusal) → AllGo g (gone g doc rule).1 → MovesAll answer g new rule
      → AllGo g new
  going_goes (Ok true) rule go is = subst (λ r. AllGo g (gone g doc r).1) is go
  going_goes (Ok false) rule go (none, same) = subst (AllGo g) (sym same) (rest g)
  going_goes (Err e) rule go (same, why) = subst (AllGo g) (sym same) (rest g)

module _ (doc : ℕ) (g : FlatGroup) where
  go_edited_in : (span : Option Span) (text : List ℕ) → AllGo g (changed g doc (or_range span (λ span. group_edit g doc (one_op span text false)))).1
  go_edited_in None text = rest g
  go_edited_in (Some span) text = go_edited g doc (Some (one_op span text false))

  go_edited_at : (encoding : Option Encoding) (from to : Position) (text : List ℕ)
      → AllGo g (changed g doc (or_range encoding (λ encoding. or_range (span_between (doc_in g doc) encoding from to) (λ span. group_edit g doc (one_op span text false))))).1
  go_edited_at None from to text = rest g
  go_edited_at (Some encoding) from to text = go_edited_in (span_between (doc_in g doc) encoding from to) text

  go_eol_as : (kind : Option Kind) → AllGo g (moved g doc (or_range kind (group_eol g doc))).1
  go_eol_as None = rest g
  go_eol_as (Some kind) = go_eol g doc kind

  go_replaced_some : (sought text : List ℕ) → AllGo g (moved g doc (group_replace_some doc sought text g)).1
  go_replaced_some [] text = rest g
  go_replaced_some (u ∷ units) text = go_replaced g doc (u ∷ units) text

module _ (f new : FlatState) where
  same_goes : new ≡ f → Goes f new
  same_goes same = subst (Goes f) (sym same) (stays refl refl refl)

  changed_goes : (answer : Result ⊤ ModelError) (rule : Result FlatState FlatRefusal) → Goes f (close_answer f rule).1 → Changes answer f new rule → Goes f new
  changed_goes (Ok x) rule go is = subst (λ r. Goes f (close_answer f r).1) is go
  changed_goes (Err e) rule go (same, why) = same_goes same

  told_goes : (answer : Result ℕ ModelError) (told : ℕ) (rule : Result FlatState FlatRefusal) → Goes f (decorated f 0 rule).1
      → ChangesWith told answer f new rule → Goes f new
  told_goes (Ok n) told rule go (is, same) = subst (λ r. Goes f (decorated f 0 r).1) is go
  told_goes (Err e) told rule go (same, why) = same_goes same

  read_goes : (s : Status) (id : ℕ) (out out' : List ℕ) (count count' : ℕ) → Reads s id out out' count count' f new → Goes f new
  read_goes status.Ok id out out' count count' reads = subst (Goes f) (sym (reads.passed refl)) (stays refl refl refl)
  read_goes s id out out' count count' reads = same_goes (reads.kept (λ ok. absurd cc))

  read_utf8_goes : (s : Status) (id : ℕ) (out out' : List ℕ) (count count' : ℕ) → ReadsUtf8 s id out out' count count' f new → Goes f new
  read_utf8_goes status.Ok id out out' count count' reads = subst (Goes f) (sym (reads.passed refl)) (stays refl refl refl)
  read_utf8_goes s id out out' count count' reads = same_goes (reads.kept (λ ok. absurd cc))

snapshot_goes : (f : FlatState) (rule : Result FlatState FlatRefusal) → Goes f (snapshot_answer f rule).1 → Goes f (decorated f 0 rule).1
snapshot_goes f (Ok new) go = go
snapshot_goes f (Err why) go = go

-- ---- each call

module _ (n doc : ℕ) (old new : Contents) where
  abbrev G : FlatGroup
  G = documents old.session.group

  abbrev H : FlatGroup
  H = documents new.session.group

  goes_stand : KeepsRest old new → AllGo G H → StaysFlat old new
  goes_stand kept go flat was = stands_on old.session new.session flat was kept.followers go

  changes_stand : (rule : FlatGroup → Result FlatGroup FlatRefusal) → AllGo G (changed G doc (rule G)).1 → ChangesDocs n rule old new → StaysFlat old new
  changes_stand rule go (answer, is, done, kept) = goes_stand kept (change_goes doc G H answer (rule G) go done)

  moves_stand : (rule : FlatGroup → Result (Option FlatGroup) FlatRefusal) → AllGo G (moved G doc (rule G)).1 → MovesDocs n rule old new → StaysFlat old new
  moves_stand rule go (answer, is, done, kept) = goes_stand kept (move_goes doc G H answer (rule G) go done)

  going_stands : (rule : FlatGroup → Result (Option FlatGroup) GroupRefusal) → AllGo G (gone G doc (rule G)).1 → (out out' : ℕ) → Went n out out' rule old new → StaysFlat old new
  going_stands rule go out out' (answer, is, done, kept) = goes_stand kept (going_goes doc G H answer (rule G) go done.moves)

  document_stands : (says : FlatState → FlatState → Type 0) → ((f g : FlatState) → says f g → Goes f g) → KeepsRest old new
      → OnDocument doc says old.session.group new.session.group → StaysFlat old new
  document_stands says goes kept (done, others) =
      let f = document_in old.session.group doc in let f' = document_in new.session.group doc in
      goes_stand kept (subst (AllGo G) (sym others) (go_with_doc G doc f' (goes f f' done)))

  pub edit_stands : (span : Span) (text : List ℕ) → ChangesDocs n (λ g. group_edit g doc (one_op span text false)) old new → StaysFlat old new
  edit_stands span text = changes_stand (λ g. group_edit g doc (one_op span text false)) (go_edited G doc (Some (one_op span text false)))

  pub edit_at_stands : (encoding : ℕ) (from to : Position) (text : List ℕ) → ChangesDocs n (group_edit_at doc encoding from to text) old new
      → StaysFlat old new
  edit_at_stands encoding from to text =
      changes_stand (group_edit_at doc encoding from to text) (go_edited_at doc G (encoding_of encoding) from to text)

  pub eol_stands : (kind : ℕ) → MovesDocs n (group_eol_as doc kind) old new → StaysFlat old new
  eol_stands kind = moves_stand (group_eol_as doc kind) (go_eol_as doc G (kind_of kind))

  pub replace_stands : (sought text : List ℕ) (count count' : ℕ) → Replaced n doc sought text count count' old new → StaysFlat old new
  replace_stands sought text count count' (answer, is, done, kept) =
      moves_stand (group_replace_some doc sought text) (go_replaced_some doc G sought text) (answer, is, done.moves, kept)

  pub undo_stands : (out out' : ℕ) → Went n out out' (λ g. group_undo g doc) old new → StaysFlat old new
  undo_stands = going_stands (λ g. group_undo g doc) (go_undo G doc)

  pub redo_stands : (out out' : ℕ) → Went n out out' (λ g. group_redo g doc) old new → StaysFlat old new
  redo_stands = going_stands (λ g. group_redo g doc) (go_redo G doc)

  pub stop_stands : Becomes n doc flat_stop old new → StaysFlat old new
  stop_stands (x, is, done, kept) = document_stands (λ f g. g ≡ flat_stop f) (λ f g same. subst (Goes f) (sym same) (goes_stop f)) kept done

  pub close_stands : (id : ℕ) → Changed n doc (λ f. flat_close_of f id) old new → StaysFlat old new
  close_stands id (answer, is, done, kept) =
      document_stands (λ f g. Changes answer f g (flat_close_of f id)) (λ f g. changed_goes f g answer (flat_close_of f id) (goes_close f _)) kept done

  pub snapshot_stands : (out out' : ℕ) → Shelved n doc out out' old new → StaysFlat old new
  snapshot_stands out out' (answer, is, (given, done), kept) =
      document_stands (λ f g. ChangesWith f.shelf.next_id answer f g (flat_snapshot f))
      (λ f g. told_goes f g answer f.shelf.next_id (flat_snapshot f) (snapshot_goes f (flat_snapshot f) (goes_snapshot f _))) kept done

  pub decorate_stands : (out out' owner : ℕ) (remove : List ℕ) (add : List NewDeco) → Decorated n doc out out' owner remove add old new → StaysFlat old new
  decorate_stands out out' owner remove add (answer, is, (given, done), kept) =
      let rule : FlatState → Result FlatState FlatRefusal = λ f. flat_decorate f owner remove add in
      document_stands (λ f g. ChangesWith f.decorations.next_id answer f g (rule f))
      (λ f g. told_goes f g answer f.decorations.next_id (rule f) (goes_decorated f 0 _)) kept done

  pub read_stands : (id : ℕ) (out out' : List ℕ) (count count' : ℕ) → HasRead n doc id out out' count count' old new → StaysFlat old new
  read_stands id out out' count count' (s, is, done, kept) =
      document_stands (Reads s id out out' count count') (λ f g. read_goes f g s id out out' count count') kept done

  pub read_utf8_stands : (id : ℕ) (out out' : List ℕ) (count count' : ℕ) → HasReadUtf8 n doc id out out' count count' old new → StaysFlat old new
  read_utf8_stands id out out' count count' (s, is, done, kept) =
      document_stands (ReadsUtf8 s id out out' count count') (λ f g. read_utf8_goes f g s id out out' count count') kept done

  -- a question about brackets
  pub asked_stands : KeepsText (Some old) (Some new) → StaysFlat old new
  asked_stands (same, kept) = goes_stand kept (subst (AllGo G) (sym same) (rest G))

-- ---- a new document

-- the rule opens one, or refuses
abbrev IsOpening : ℕ → FlatGroup → Result FlatGroup FlatRefusal → Type 0
IsOpening doc g rule = (new : FlatGroup) → rule ≡ Ok new
    → (text : List ℕ) × (by : Scanner) × (kind : Kind) × (group_open g doc text by kind ≡ Ok new)

opens_as : (doc : ℕ) (g : FlatGroup) (text : List ℕ) (kind : Option Kind) (scanning : Scanning)
    → IsOpening doc g (or_range kind (λ kind. or_refused scanning (λ by. group_open g doc text (scanner by.0 by.1) kind)))
opens_as doc g text None scanning new is = absurd cc
opens_as doc g text (Some kind) (Err why) new is = absurd cc
opens_as doc g text (Some kind) (Ok by) new is = (text, scanner by.0 by.1, kind, is)

-- the flat session of these documents, in which nothing follows the opened one where the status is that of an opened one
abbrev after : ℕ → ℕ → FlatSession → FlatGroup → FlatSession
after n doc flat g = record { documents = g; followers = followers_after n doc flat.followers }

module _ (doc : ℕ) (inside : doc < DOC_COUNT) (old new : Session) (flat : FlatSession) (was : Represents old flat) where
  new_stands : (text : List ℕ) (by : Scanner) (kind : Kind) → group_open (documents old.group) doc text by kind ≡ Ok (documents new.group)
      → BeginsAnew doc old.followers.items new.followers.items → Represents new (after 0 doc flat (documents new.group))
  new_stands text scanner kind rule anew =
      let told = (tells_opened old new doc text scanner kind (Short (change_reply (doc_in (documents new.group) doc))) inside rule anew refl).answer flat was in
      by told.0 told.1 told.2
    where
      by : (next : FlatSession)
          → Answers (opened flat doc (group_open flat.documents doc text scanner kind)) flat (change_reply (doc_in (documents new.group) doc)) next
          → Represents new next → Represents new (after 0 doc flat (documents new.group))
      by next (answered is to) stands =
          subst (Represents new) (to ∙ ap (λ g. (opened flat doc (group_open g doc text scanner kind)).1) was.documents
          ∙ ap (λ r. (opened flat doc r).1) rule) stands
      by next (out_of_memory is to) stands = let wrong : false ≡ true = ap is_refused is in absurd cc

  refused_stands : (e : ModelError) → Represents new (record flat { documents = documents new.group })
      → Represents new (after (number_of (status_of_error e)) doc flat (documents new.group))
  refused_stands error.Unknown stands = stands
  refused_stands error.Range stands = stands
  refused_stands error.Overlap stands = stands
  refused_stands error.Limit stands = stands
  refused_stands error.Memory stands = stands

  same_stands : documents new.group ≡ documents old.group → new.followers.items ≡ old.followers.items
      → Represents new (record flat { documents = documents new.group })
  same_stands same followers = stands_on old new flat was followers (subst (AllGo (documents old.group)) (sym same) (rest (documents old.group)))

  opens_stand : (answer : Result ⊤ ModelError) (rule : Result FlatGroup FlatRefusal) → IsOpening doc (documents old.group) rule → Opens answer doc old new rule
      → Represents new (after (number_of (status_of_given answer)) doc flat (documents new.group))
  opens_stand (Ok x) rule opening opens =
      let made = opening (documents new.group) opens.group in new_stands made.0 made.1 made.2 made.3 opens.followers
  opens_stand (Err e) rule opening opens = refused_stands e (same_stands opens.group.0 opens.followers)

module _ (n doc : ℕ) (inside : doc < DOC_COUNT) (old new : Contents) where
  pub open_stands : (kind : ℕ) (scanning : Scanning) (text : List ℕ) → Opened n doc (group_open_as doc kind scanning text) old new
      → StaysFlatAnew n doc old new
  open_stands kind scanning text (answer, is, opens, kept) flat was =
      let rule = group_open_as doc kind scanning text (documents old.session.group) in
      subst (λ m. Represents new.session (after m doc flat (documents new.session.group))) (sym is)
      (opens_stand doc inside old.session new.session flat was answer rule (opens_as doc (documents old.session.group) text (kind_of kind) scanning) opens)

use Rattle.std.proofs.Common.{ℕ, List, refl, subst, length, []}
use Rattle.document_rules.specs.Document.{FlatState, flat_stop, flat_decorate, flat_offset, flat_position, flat_deco, flat_decos}
use Rattle.document_rules.specs.Snapshots.{flat_snapshot, flat_peek_of, flat_close_of}
use Rattle.document_rules.specs.Stops.{flat_stops}
use Rattle.search_rules.specs.Replacing.{flat_find}
use Rattle.group_rules.specs.Group.{doc_in, with_doc, group_eol, group_replace_all}
use Rattle.group_rules.specs.Going.{group_undo, group_redo}
use Rattle.script_lines.specs.Replies.{ok_reply}
use Rattle.session_rules.specs.Step.{ops_at, edited_at, moved, gone, decorated, snapshot_answer, read_answer, close_answer, offset_answer, position_answer, deco_answer, decos_answer, stops_answer, spans_reply, answered}
use Rattle.model_group.proofs.Lists.{doc_in-is}
use Rattle.sessions.proofs.GoesLemmas.{go_edited, go_eol, go_replaced, go_undo, go_redo, go_with_doc, goes_decorated, goes_stop, goes_snapshot, goes_read, goes_close}
use Rattle.sessions.proofs.StandingLemmas.{tells_within, tells_asked_of}
use Rattle.sessions.specs.Told.{TellsBy}
use Rattle.sessions.proofs.reply.carry_out.Goals as goal

pub returns-in-Open : goal.returns-in-Open
returns-in-Open c = rw c.in-Open.is (rw c.as_slice.ensures at c.open_reply.ensures)

pub returns-in-Edit : goal.returns-in-Edit
returns-in-Edit c =
    rw c.in-Edit.is (tells_within _ _ _ refl (λ g. edited_at g c.args.doc (ops_at (doc_in g c.args.doc) c.in-Edit.ops)) (go_edited _ _ _)
    c.edit_reply.ensures)

pub returns-in-Eol : goal.returns-in-Eol
returns-in-Eol c =
    rw c.in-Eol.is (tells_within _ _ _ refl (λ g. moved g c.args.doc (group_eol g c.args.doc c.in-Eol.kind)) (go_eol _ _ _) c.eol_reply.ensures)

pub returns-in-Replace : goal.returns-in-Replace
returns-in-Replace c =
    rw c.in-Replace.is (tells_within _ _ _ refl
    (λ g. moved g c.args.doc (group_replace_all g c.args.doc c.in-Replace.sought c.in-Replace.text)) (go_replaced _ _ _ _)
    (rw (c.as_slice-in-Replace.ensures.value, c.as_slice-in-Replace-2.ensures) at c.replace_reply.ensures))

pub returns-in-Undo : goal.returns-in-Undo
returns-in-Undo c =
    rw c.in-Undo.is (tells_within _ _ _ refl (λ g. gone g c.args.doc (group_undo g c.args.doc)) (go_undo _ _) c.undo_reply.ensures)

pub returns-in-Redo : goal.returns-in-Redo
returns-in-Redo c =
    rw c.in-Redo.is (tells_within _ _ _ refl (λ g. gone g c.args.doc (group_redo g c.args.doc)) (go_redo _ _) c.redo_reply.ensures)

pub returns-in-Decorate : goal.returns-in-Decorate
returns-in-Decorate c =
    let rule : FlatState → List ℕ × FlatState = λ f. decorated f (length c.in-Decorate.add) (flat_decorate f c.in-Decorate.owner c.in-Decorate.remove c.in-Decorate.add) in
    rw c.in-Decorate.is (tells_within _ _ _ refl (λ g. ((rule (doc_in g c.args.doc)).0, with_doc g c.args.doc (rule (doc_in g c.args.doc)).1))
    (go_with_doc _ _ _ (goes_decorated _ _ _)) c.decorate_reply.ensures)

pub returns-in-Stop : goal.returns-in-Stop
returns-in-Stop c =
    rw c.in-Stop.is (tells_within _ _ _ refl (λ g. (ok_reply [], with_doc g c.args.doc (flat_stop (doc_in g c.args.doc))))
    (go_with_doc _ _ _ (goes_stop _)) c.stop_reply.ensures)

pub returns-in-Snapshot : goal.returns-in-Snapshot
returns-in-Snapshot c =
    let rule : FlatState → List ℕ × FlatState = λ f. snapshot_answer f (flat_snapshot f) in
    rw c.in-Snapshot.is (tells_within _ _ _ refl (λ g. ((rule (doc_in g c.args.doc)).0, with_doc g c.args.doc (rule (doc_in g c.args.doc)).1))
    (go_with_doc _ _ _ (goes_snapshot _ _)) c.snapshot_reply.ensures)

pub returns-in-Read : goal.returns-in-Read
returns-in-Read c =
    let rule : FlatState → List ℕ × FlatState = λ f. read_answer f c.in-Read.id (flat_peek_of f c.in-Read.id c.in-Read.count) in
    rw c.in-Read.is (tells_within _ _ _ refl (λ g. ((rule (doc_in g c.args.doc)).0, with_doc g c.args.doc (rule (doc_in g c.args.doc)).1))
    (go_with_doc _ _ _ (goes_read _ _ _)) c.read_reply.ensures)

pub returns-in-Close : goal.returns-in-Close
returns-in-Close c =
    let rule : FlatState → List ℕ × FlatState = λ f. close_answer f (flat_close_of f c.in-Close.id) in
    rw c.in-Close.is (tells_within _ _ _ refl (λ g. ((rule (doc_in g c.args.doc)).0, with_doc g c.args.doc (rule (doc_in g c.args.doc)).1))
    (go_with_doc _ _ _ (goes_close _ _)) c.close_reply.ensures)

pub returns-in-Offset : goal.returns-in-Offset
returns-in-Offset c =
    rw c.in-Offset.is (tells_asked_of _ _ refl refl c.args.doc _ _ (λ f. offset_answer (flat_offset f c.in-Offset.p))
    (doc_in-is c.args.session.now.group c.args.doc c.doc-in-Offset.result.now c.doc-in-Offset.ensures) (record { answer = answered c.offset_reply.ensures.answer refl; accepted = c.offset_reply.ensures.accepted }))

pub returns-in-Position : goal.returns-in-Position
returns-in-Position c =
    rw c.in-Position.is (tells_asked_of _ _ refl refl c.args.doc _ _ (λ f. position_answer (flat_position f c.in-Position.offset))
    (doc_in-is c.args.session.now.group c.args.doc c.doc-in-Position.result.now c.doc-in-Position.ensures) (record { answer = answered c.position_reply.ensures.answer refl; accepted = c.position_reply.ensures.accepted }))

pub returns-in-Deco : goal.returns-in-Deco
returns-in-Deco c =
    rw c.in-Deco.is (tells_asked_of _ _ refl refl c.args.doc _ _ (λ f. deco_answer (flat_deco f c.in-Deco.id))
    (doc_in-is c.args.session.now.group c.args.doc c.doc-in-Deco.result.now c.doc-in-Deco.ensures) (record { answer = answered c.deco_reply.ensures.answer refl; accepted = c.deco_reply.ensures.accepted }))

pub returns-in-Decos : goal.returns-in-Decos
returns-in-Decos c =
    rw c.in-Decos.is (tells_asked_of _ _ refl refl c.args.doc _ _ (λ f. decos_answer (flat_decos f c.in-Decos.at c.in-Decos.owner))
    (doc_in-is c.args.session.now.group c.args.doc c.doc-in-Decos.result.now c.doc-in-Decos.ensures) c.decos_reply.ensures)

pub returns-in-Stops : goal.returns-in-Stops
returns-in-Stops c =
    rw c.in-Stops.is (tells_asked_of _ _ refl refl c.args.doc _ _ (λ f. stops_answer (flat_stops f c.in-Stops.n))
    (doc_in-is c.args.session.now.group c.args.doc c.doc-in-Stops.result.now c.doc-in-Stops.ensures) c.stops_reply.ensures)

pub returns-in-Find : goal.returns-in-Find
returns-in-Find c =
    let f = c.doc-in-Find.result.now.document in
    rw c.in-Find.is (tells_asked_of _ _ refl refl c.args.doc f _ (λ f. spans_reply (flat_find f c.in-Find.sought))
    (doc_in-is c.args.session.now.group c.args.doc c.doc-in-Find.result.now c.doc-in-Find.ensures)
    (subst (λ x. TellsBy (spans_reply (flat_find f x), f) f c.find_reply.result f) c.as_slice-in-Find.ensures.value c.find_reply.ensures))

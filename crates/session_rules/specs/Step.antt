-- The effect of one request on the flat session: its reply, and the session after it.
use Rattle.std.specs.Prelude.{◌≡◌, ℕ, ◌+◌, ◌-◌, ◌^◌, ◌==◌, nat_le, if◌then◌else◌, List, [], ◌∷◌, ◌++◌, codes, unwrap_or, map, length, slice_get, Option, Some, None, option_map, option_and_then, Result, Ok, Err}
use Rattle.text_lengths.specs.declared.Position.{Position}
use Rattle.text_lengths.specs.declared.Span.{Span}
use Rattle.text_rules.specs.declared.Op.{Op}
use Rattle.decoration_rules.specs.declared.Deco.{Deco}
use Rattle.std.specs.List.{flat_map}
use Rattle.document_rules.specs.Refusals.{FlatRefusal, unknown, range, overlap, limit}
use Rattle.document_rules.specs.Document.{FlatState, flat_stop, flat_decorate, flat_deco, flat_decos, flat_line, flat_value, flat_position, flat_offset, flat_line_count, flat_changes, content_of}
use Rattle.document_rules.specs.Snapshots.{flat_snapshot, flat_peek_of, flat_skipped, flat_close_of}
use Rattle.document_rules.specs.Stops.{flat_stops}
use Rattle.search_rules.specs.Replacing.{flat_find}
use Rattle.script_lines.specs.declared.command.Command.{Command}
use Rattle.script_lines.specs.declared.command.Command.TheVariants.{Open, Edit, Eol, Decorate, Undo, Redo, Stop, Size, Version, Changes, Line, Value, Offset, Decos, Brackets, Match, Level, Snapshot, Read, Close, Stops, Find, Replace, Mirror, Send, Deliver, Mirrored}
use Rattle.script_lines.specs.declared.command.Command.TheVariants as command
use Rattle.script_lines.specs.declared.op.LineOp.{LineOp}
use Rattle.script_lines.specs.declared.op.Place.{Place}
use Rattle.script_lines.specs.declared.op.Place.TheVariants.{At, InRange}
use Rattle.script_lines.specs.declared.reason.Refusal.{Refusal}
use Rattle.script_lines.specs.declared.reason.Refusal.TheVariants as refusal
use Rattle.bracket_rules.specs.Table.{Table, standard_table}
use Rattle.hiding_rules.specs.Hidden.{Scanner, scanner}
use Rattle.hiding_rules.specs.Marks.{Marks, no_marks}
use Rattle.bracket_rules.specs.declared.Entry.{Entry}
use Rattle.bracket_rules.specs.declared.Status.{Status}
use Rattle.bracket_rules.specs.declared.Status.TheVariants.{PairedOpening, PairedClosing, Unclosed, Unexpected}
use Rattle.document_rules.specs.Brackets.{flat_brackets, flat_match, flat_level}
use Rattle.script_lines.specs.Replies.{number_part, text_part, ok_reply, none_reply, old_reply, text_reply, refusal_reply}
use Rattle.text_rules.specs.Lines.{lines_of, line_at}
use Rattle.mirror_rules.specs.Mirrors.{MirrorState, SentEvent, by_version}
use Rattle.script_lines.specs.declared.request.Request.{Request}
use Rattle.script_lines.specs.declared.request.Request.TheVariants.{One, Joint}
use Rattle.script_lines.specs.declared.request.DocEdit.{DocEdit}
use Rattle.script_lines.specs.Reading.{◌>>=◌}
use Rattle.group_rules.specs.declared.TheConstants.{DOC_COUNT}
use Rattle.group_rules.specs.Refusals.{GroupRefusal, plain, joint}
use Rattle.group_rules.specs.Group.{FlatGroup, doc_in, with_doc, group_open, group_edit, group_eol, group_replace_all}
use Rattle.group_rules.specs.Joint.{FlatBatch, names_badly, group_joint}
use Rattle.group_rules.specs.Going.{group_undo, group_redo}
use Rattle.session_rules.specs.Session.{FlatSession, FlatFollower, no_follower, follower_in, with_follower}

-- the refusal of a rule as named in replies
abbrev pub reason_of : FlatRefusal → Refusal
reason_of unknown = refusal.Unknown
reason_of range = refusal.Range
reason_of overlap = refusal.Overlap
reason_of limit = refusal.Limit

abbrev pub memory_reply : List ℕ
memory_reply = refusal_reply refusal.Memory

-- `ok VERSION UNITS LINES`
abbrev pub change_reply : FlatState → List ℕ
change_reply f = ok_reply (f.version ∷ length f.units ∷ flat_line_count f ∷ [])

-- the session after an answer on the documents: their followers are unchanged
abbrev pub within : FlatSession → List ℕ × FlatGroup → List ℕ × FlatSession
within s answer = (answer.0, record s { documents = answer.1 })

-- the session after an answer on document n: the other documents are unchanged
abbrev pub within_doc : FlatSession → ℕ → List ℕ × FlatState → List ℕ × FlatSession
within_doc s n answer = within s (answer.0, with_doc s.documents n answer.1)

-- the reply to a change of document n that the rule accepts or refuses, and the documents after it
abbrev pub changed : FlatGroup → ℕ → Result FlatGroup FlatRefusal → List ℕ × FlatGroup
changed old n (Ok new) = (change_reply (doc_in new n), new)
changed old n (Err why) = (refusal_reply (reason_of why), old)

-- the same for a change for which there may be nothing to do: the reply is `ok none` then
abbrev pub moved : FlatGroup → ℕ → Result (Option FlatGroup) FlatRefusal → List ℕ × FlatGroup
moved old n (Ok None) = (none_reply, old)
moved old n (Ok (Some new)) = (change_reply (doc_in new n), new)
moved old n (Err why) = (refusal_reply (reason_of why), old)

-- the refusal of a rule on several documents as named in replies
abbrev pub group_reason_of : GroupRefusal → Refusal
group_reason_of (plain why) = reason_of why
group_reason_of (joint n) = refusal.Joint n

-- the reply to an undo or a redo of document n, and the documents after it
abbrev pub gone : FlatGroup → ℕ → Result (Option FlatGroup) GroupRefusal → List ℕ × FlatGroup
gone old n (Ok None) = (none_reply, old)
gone old n (Ok (Some new)) = (change_reply (doc_in new n), new)
gone old n (Err why) = (refusal_reply (group_reason_of why), old)

-- `ok "TEXT"`, or the refusal
abbrev pub text_answer : Result (List ℕ) FlatRefusal → List ℕ
text_answer (Ok units) = text_reply units
text_answer (Err why) = refusal_reply (reason_of why)

-- `ok` and the number, or `! range`
abbrev pub offset_answer : Option ℕ → List ℕ
offset_answer None = refusal_reply refusal.Range
offset_answer (Some offset) = ok_reply (offset ∷ [])

-- `ok LINE COL`, or `! range`
abbrev pub position_answer : Option Position → List ℕ
position_answer None = refusal_reply refusal.Range
position_answer (Some p) = ok_reply (p.line ∷ p.column ∷ [])

-- `ok FIRSTID COUNT`, or the refusal
abbrev pub decorated : FlatState → ℕ → Result FlatState FlatRefusal → List ℕ × FlatState
decorated old count (Ok new) = (ok_reply (old.decorations.next_id ∷ count ∷ []), new)
decorated old count (Err why) = (refusal_reply (reason_of why), old)

-- `ok START END STICK OWNER`, or `! unknown`
abbrev pub deco_answer : Option Deco → List ℕ
deco_answer None = refusal_reply refusal.Unknown
deco_answer (Some d) = ok_reply (d.span.start ∷ d.span.end ∷ d.stick ∷ d.owner ∷ [])

-- ID, START and END of each decoration
abbrev pub deco_numbers : List Deco → List ℕ
deco_numbers decos = flat_map (λ d. d.id ∷ d.span.start ∷ d.span.end ∷ []) decos

-- `ok` and for each decoration ` ID START END`, or the refusal
abbrev pub decos_answer : Result (List Deco) FlatRefusal → List ℕ
decos_answer (Ok decos) = ok_reply (deco_numbers decos)
decos_answer (Err why) = refusal_reply (reason_of why)

-- the letter of a bracket status: `o` opening and `c` closing bracket of a pair, `u` unclosed opening, `x` unexpected closing bracket
abbrev pub status_letter : Status → ℕ
status_letter PairedOpening = 111
status_letter PairedClosing = 99
status_letter Unclosed = 117
status_letter Unexpected = 120

-- ` LINE COL LEN KIND STATUS LEVEL`
abbrev pub entry_part : Entry → List ℕ
entry_part e =
    number_part (e.place.lines + 1) ++ number_part (e.place.columns + 1) ++ number_part e.len ++ number_part e.kind
    ++ 32 ∷ status_letter e.status ∷ number_part e.level

-- `ok` and the part of each bracket
abbrev pub entries_reply : List Entry → List ℕ
entries_reply entries = codes "ok" ++ flat_map entry_part entries ++ codes "\n"

abbrev pub brackets_answer : Result (List Entry) FlatRefusal → List ℕ
brackets_answer (Ok entries) = entries_reply entries
brackets_answer (Err why) = refusal_reply (reason_of why)

-- `ok LINE COL LEN`, or `ok none`
abbrev pub match_answer : Result (Option (Position × ℕ)) FlatRefusal → List ℕ
match_answer (Ok None) = none_reply
match_answer (Ok (Some partner)) = ok_reply (partner.0.line ∷ partner.0.column ∷ partner.1 ∷ [])
match_answer (Err why) = refusal_reply (reason_of why)

-- `ok LEVEL`
abbrev pub level_answer : Result ℕ FlatRefusal → List ℕ
level_answer (Ok level) = ok_reply (level ∷ [])
level_answer (Err why) = refusal_reply (reason_of why)

-- `ok ID`, or the refusal
abbrev pub snapshot_answer : FlatState → Result FlatState FlatRefusal → List ℕ × FlatState
snapshot_answer old (Ok new) = (ok_reply (old.shelf.next_id ∷ []), new)
snapshot_answer old (Err why) = (refusal_reply (reason_of why), old)

-- `ok "TEXT"`, and the snapshot goes on behind the units of TEXT; or the refusal
abbrev pub read_answer : FlatState → ℕ → Result (List ℕ) FlatRefusal → List ℕ × FlatState
read_answer old id (Ok units) = (text_reply units, flat_skipped old id (length units))
read_answer old id (Err why) = (refusal_reply (reason_of why), old)

-- `ok`, or the refusal
abbrev pub close_answer : FlatState → Result FlatState FlatRefusal → List ℕ × FlatState
close_answer old (Ok new) = (ok_reply [], new)
close_answer old (Err why) = (refusal_reply (reason_of why), old)

-- `ok` and for each cluster ` COL`, or the refusal
abbrev pub stops_answer : Result (List ℕ) FlatRefusal → List ℕ
stops_answer (Ok columns) = ok_reply columns
stops_answer (Err why) = refusal_reply (reason_of why)

abbrev pub span_between : Option ℕ → Option ℕ → Option Span
span_between None end = None
span_between (Some start) None = None
span_between (Some start) (Some end) = Some (record { start = start; end = end })

-- the span of the place of an op; None if one of its positions is invalid
abbrev pub span_of : FlatState → Place → Option Span
span_of f (At span) = Some span
span_of f (InRange start end) = span_between (flat_offset f start) (flat_offset f end)

-- the op at its span
abbrev pub op_at : FlatState → LineOp → Option Op
op_at f op = option_map (λ span. record { span = span; text = op.text; force = op.force }) (span_of f op.place)

-- the ops at their spans; None if one of their positions is invalid
abbrev pub ops_at : FlatState → List LineOp → Option (List Op)
ops_at f [] = Some []
ops_at f (op ∷ ops) = option_and_then (λ first. option_map (λ rest. first ∷ rest) (ops_at f ops)) (op_at f op)

abbrev pub edited_at : FlatGroup → ℕ → Option (List Op) → List ℕ × FlatGroup
edited_at g n None = (refusal_reply refusal.Range, g)
edited_at g n (Some ops) = changed g n (group_edit g n ops)

-- ---- a joint edit

-- the batches with their ops at their spans; None if one of their positions is invalid
abbrev pub batches_at : FlatGroup → List DocEdit → Option (List FlatBatch)
batches_at g [] = Some []
batches_at g (edit ∷ edits) = do
  ops ← ops_at (doc_in g edit.doc) edit.ops
  batches ← batches_at g edits
  Some (record { doc = edit.doc; ops = ops } ∷ batches)

-- ` DOC VERSION UNITS LINES`
abbrev pub doc_numbers : FlatGroup → ℕ → List ℕ
doc_numbers g n = let f = doc_in g n in n ∷ f.version ∷ length f.units ∷ flat_line_count f ∷ []

-- `ok` and the numbers of each document in the order of the batches
abbrev pub joint_reply : FlatGroup → List ℕ → List ℕ
joint_reply g docs = ok_reply (flat_map (doc_numbers g) docs)

abbrev pub joined_by : FlatGroup → List ℕ → Result FlatGroup GroupRefusal → List ℕ × FlatGroup
joined_by old docs (Ok new) = (joint_reply new docs, new)
joined_by old docs (Err why) = (refusal_reply (group_reason_of why), old)

abbrev pub joined_at : FlatGroup → List ℕ → Option (List FlatBatch) → List ℕ × FlatGroup
joined_at g docs None = (refusal_reply refusal.Range, g)
joined_at g docs (Some batches) = joined_by g docs (group_joint g batches)

-- The check for documents that are out of range or named twice comes before that of the positions.
abbrev pub joint_answer : FlatGroup → List DocEdit → List ℕ × FlatGroup
joint_answer g edits =
    let docs = map (λ (edit : DocEdit). edit.doc) edits in
    if names_badly docs then (refusal_reply refusal.Unknown, g) else joined_at g docs (batches_at g edits)

-- ---- search results

-- START and END of each span
abbrev pub span_numbers : List Span → List ℕ
span_numbers spans = flat_map (λ span. span.start ∷ span.end ∷ []) spans

-- `ok` and for each span ` START END`
abbrev pub spans_reply : List Span → List ℕ
spans_reply spans = ok_reply (span_numbers spans)

-- ---- the last change

-- ` START END "TEXT"`
abbrev pub edit_part : Op → List ℕ
edit_part op = number_part op.span.start ++ number_part op.span.end ++ text_part op.text

-- `ok VERSION` and each edit
abbrev pub changes_reply : FlatState → List ℕ
changes_reply f = codes "ok" ++ (number_part f.version ++ flat_map edit_part (flat_changes f)) ++ codes "\n"

-- ---- a mirror and its events

-- the session after an answer on the follower of document n: the rest is unchanged
abbrev pub following : FlatSession → ℕ → List ℕ × FlatFollower → List ℕ × FlatSession
following s n answer = (answer.0, record s { followers = with_follower s.followers n answer.1 })

-- a new document has no mirror and no sent events
abbrev pub opened : FlatSession → ℕ → Result FlatGroup FlatRefusal → List ℕ × FlatSession
opened s n (Ok new) =
    (change_reply (doc_in new n), record { documents = new; followers = with_follower s.followers n no_follower })
opened s n (Err why) = (refusal_reply (reason_of why), s)

-- `ok VERSION`: a mirror of the current text replaces the old mirror
abbrev pub mirror_answer : FlatState → FlatFollower → List ℕ × FlatFollower
mirror_answer f follower =
    (ok_reply (f.version ∷ []), record follower { mirror = Some (record { version = f.version; units = f.units }) })

-- the maximum number of sent events of one document
abbrev pub most_sent : ℕ
most_sent = 2 ^ 16

-- `ok N FROM`: the last change is sent as event N; `ok none` in the first version; `! limit` after `most_sent` events
abbrev pub send_answer : FlatState → FlatFollower → List ℕ × FlatFollower
send_answer f follower =
    if f.version == 1 then (none_reply, follower) else
    (if nat_le most_sent (length follower.sent) then (refusal_reply refusal.Limit, follower) else (
      ok_reply ((length follower.sent + 1) ∷ (f.version - 1) ∷ []),
      record follower { sent = follower.sent ++ record { from = f.version - 1; after = f.units } ∷ [] },
    ))

-- event n, counted from 1; None if it does not exist
abbrev pub sent_at : List SentEvent → ℕ → Option SentEvent
sent_at sent n = if n == 0 then None else slice_get sent (n - 1)

-- `ok VERSION UNITS LINES`
abbrev pub mirror_reply : MirrorState → List ℕ
mirror_reply m = ok_reply (m.version ∷ length m.units ∷ length (lines_of m.units) ∷ [])

abbrev pub followed : FlatFollower → MirrorState → List ℕ × FlatFollower
followed follower m = (mirror_reply m, record follower { mirror = Some m })

-- the mirror takes the text after the event if it has the version before it
abbrev pub delivered : FlatFollower → MirrorState → SentEvent → List ℕ × FlatFollower
delivered follower m e =
    by_version e.from m.version (old_reply, follower) (refusal_reply (refusal.Gap m.version e.from), follower)
    (followed follower (record { version = m.version + 1; units = e.after }))

abbrev pub deliver_answer : FlatFollower → Option MirrorState → Option SentEvent → List ℕ × FlatFollower
deliver_answer follower None event = (refusal_reply refusal.Unknown, follower)
deliver_answer follower (Some m) None = (refusal_reply refusal.Unknown, follower)
deliver_answer follower (Some m) (Some e) = delivered follower m e

-- `ok "TEXT"`: the content of line n of the mirror, counted from 1; or the refusal
abbrev pub mirrored_answer : Option MirrorState → ℕ → List ℕ
mirrored_answer None n = refusal_reply refusal.Unknown
mirrored_answer (Some m) n = text_answer (content_of (line_at m.units n))

-- ---- each command

-- the scanner for the given table, or the standard table, and the given marks, or no marks
abbrev pub scanner_for : Option Table → Option Marks → Scanner
scanner_for brackets marks = scanner (unwrap_or brackets standard_table) (unwrap_or marks no_marks)

-- a command on document n, which is f, with its follower
abbrev pub step_on : FlatSession → ℕ → FlatState → FlatFollower → Command → List ℕ × FlatSession
step_on s n f follower (Open text brackets marks kind) = opened s n (group_open s.documents n text (scanner_for brackets marks) kind)
step_on s n f follower (Edit ops) = within s (edited_at s.documents n (ops_at f ops))
step_on s n f follower (Eol kind) = within s (moved s.documents n (group_eol s.documents n kind))
step_on s n f follower (Replace sought text) = within s (moved s.documents n (group_replace_all s.documents n sought text))
step_on s n f follower Undo = within s (gone s.documents n (group_undo s.documents n))
step_on s n f follower Redo = within s (gone s.documents n (group_redo s.documents n))
step_on s n f follower (Decorate owner remove add) =
    within_doc s n (decorated f (length add) (flat_decorate f owner remove add))
step_on s n f follower Stop = within_doc s n (ok_reply [], flat_stop f)
step_on s n f follower Snapshot = within_doc s n (snapshot_answer f (flat_snapshot f))
step_on s n f follower (Read id count) = within_doc s n (read_answer f id (flat_peek_of f id count))
step_on s n f follower (Close id) = within_doc s n (close_answer f (flat_close_of f id))
step_on s n f follower Version = (ok_reply (f.version ∷ f.alternative ∷ []), s)
step_on s n f follower Size = (ok_reply (length f.units ∷ flat_line_count f ∷ []), s)
step_on s n f follower Changes = (changes_reply f, s)
step_on s n f follower (Line line) = (text_answer (flat_line f line), s)
step_on s n f follower (Value span) = (text_answer (flat_value f span), s)
step_on s n f follower (Offset p) = (offset_answer (flat_offset f p), s)
step_on s n f follower (command.Position offset) = (position_answer (flat_position f offset), s)
step_on s n f follower (command.Deco id) = (deco_answer (flat_deco f id), s)
step_on s n f follower (Decos span owner) = (decos_answer (flat_decos f span owner), s)
step_on s n f follower (Brackets from to) = (brackets_answer (flat_brackets f from to), s)
step_on s n f follower (Match p) = (match_answer (flat_match f p), s)
step_on s n f follower (Level p) = (level_answer (flat_level f p), s)
step_on s n f follower (Stops line) = (stops_answer (flat_stops f line), s)
step_on s n f follower (Find sought) = (spans_reply (flat_find f sought), s)
step_on s n f follower Mirror = following s n (mirror_answer f follower)
step_on s n f follower Send = following s n (send_answer f follower)
step_on s n f follower (Deliver k) = following s n (deliver_answer follower follower.mirror (sent_at follower.sent k))
step_on s n f follower (Mirrored line) = (mirrored_answer follower.mirror line, s)

abbrev pub step : FlatSession → ℕ → Command → List ℕ × FlatSession
step s n command = step_on s n (doc_in s.documents n) (follower_in s.followers n) command

-- A request on a document that does not exist is refused.
abbrev pub request_answer : FlatSession → Request → List ℕ × FlatSession
request_answer s (One n command) = if nat_le DOC_COUNT n then (refusal_reply refusal.Unknown, s) else step s n command
request_answer s (Joint edits) = within s (joint_answer s.documents edits)

-- The reply and the new state are those of `flat`; or the reply is `! memory`, and the state is unchanged.
pub data Answers {S : Type 0} (flat : List ℕ × S) (old : S) (reply : List ℕ) (new : S) : Type 0 where
  answered : reply ≡ flat.0 → new ≡ flat.1 → Answers flat old reply new
  out_of_memory : reply ≡ memory_reply → new ≡ old → Answers flat old reply new

-- Each flat reply is one line, and none is `! memory`.
use Rattle.std.proofs.Common.{◌≡◌, ℕ, zero, suc, ◌+◌, ◌-◌, ◌/◌, ◌%◌, ◌≤◌, ◌==◌, nat_lt, nat_le, Bool, true, false, cond, ltb, eqb, List, [], ◌∷◌, ◌++◌, map, length, Option, Some, None, Result, Ok, Err, codes, refl, ap, ◌∙◌, arith}
use Rattle.std.specs.List.{flat_map}
use Rattle.std.specs.Fmt.{digits, digits_onto, digit_glyph}
use Rattle.std.specs.Char.{digit_char}
use Rattle.std.specs.Char.Utf16.{utf16_lossy_chars}
use Rattle.std.specs.Str.{bytes_eq, encode_utf8_all}
use lib.Utf8.{encode}
use Rattle.std.proofs.lemmas.Bool.{ne_eqb, ltb-false, both_ways}
use Rattle.text_lengths.specs.declared.Position.{Position}
use Rattle.unit_text.specs.Text.{quoted_char, quoted}
use Rattle.decoration_rules.specs.declared.Deco.{Deco}
use Rattle.bracket_rules.specs.declared.Entry.{Entry}
use Rattle.bracket_rules.specs.declared.Status.{Status}
use Rattle.bracket_rules.specs.declared.Status.TheVariants.{PairedOpening, PairedClosing, Unclosed, Unexpected}
use Rattle.document_rules.specs.Refusals.{FlatRefusal, unknown, range, overlap, limit}
use Rattle.document_rules.specs.Document.{FlatState, flat_decorate, flat_deco, flat_decos, flat_line, flat_value, flat_position, flat_offset, flat_line_count, flat_changes, content_of}
use Rattle.document_rules.specs.Brackets.{flat_brackets, flat_match, flat_level}
use Rattle.document_rules.specs.Snapshots.{flat_snapshot, flat_peek_of, flat_close_of}
use Rattle.document_rules.specs.Stops.{flat_stops}
use Rattle.search_rules.specs.Replacing.{flat_find}
use Rattle.group_rules.specs.declared.TheConstants.{DOC_COUNT}
use Rattle.group_rules.specs.Refusals.{GroupRefusal, plain, joint}
use Rattle.group_rules.specs.Group.{FlatGroup, doc_in, group_open, group_edit, group_eol, group_replace_all}
use Rattle.group_rules.specs.Joint.{FlatBatch, names_badly, group_joint}
use Rattle.group_rules.specs.Going.{group_undo, group_redo}
use Rattle.script_lines.specs.declared.command.Command.{Command}
use Rattle.script_lines.specs.declared.command.Command.TheVariants as command
use Rattle.script_lines.specs.declared.reason.Refusal.TheVariants as refusal
use Rattle.script_lines.specs.declared.request.DocEdit.{DocEdit}
use Rattle.script_lines.specs.declared.request.Request.{Request}
use Rattle.script_lines.specs.declared.request.Request.TheVariants.{One, Joint}
use Rattle.script_lines.specs.Requests.{request_of}
use Rattle.script_lines.specs.Replies.{number_part, text_part, ok_reply, none_reply, old_reply, text_reply, refusal_reply}
use Rattle.text_rules.specs.declared.Op.{Op}
use Rattle.text_rules.specs.Lines.{lines_of, line_at}
use Rattle.mirror_rules.specs.Mirrors.{MirrorState, SentEvent}
use Rattle.session_rules.specs.Session.{FlatFollower, FlatSession, follower_in}
use Rattle.session_rules.specs.Step.{reason_of, group_reason_of, memory_reply, change_reply, ops_at, batches_at, doc_numbers, joined_by, joined_at, joint_answer, deco_numbers, changed, moved, gone, decorated, edited_at, text_answer, offset_answer, position_answer, deco_answer, decos_answer, status_letter, entry_part, entries_reply, brackets_answer, match_answer, level_answer, snapshot_answer, read_answer, close_answer, stops_answer, span_numbers, edit_part, changes_reply, opened, most_sent, send_answer, sent_at, followed, delivered, deliver_answer, mirrored_answer, scanner_for, step_on, step, request_answer}
use Rattle.session_rules.specs.Script.{after_byte, IsInOneLine, IsOneLine, requested, is_too_long, turn}
use Rattle.session_rules.proofs.CutLemmas.{cut-append_line}

-- ---- bytes with no LF among them

pub one-append : (x y : List ℕ) → IsInOneLine x → IsInOneLine y → IsInOneLine (x ++ y)
one-append x y first second = cut-append_line x y second ∙ ap (λ c. record { ended = c.ended; rest = c.rest ++ y }) first

one-cons : (byte : ℕ) (x : List ℕ) → (byte ≡ 10 → ⊥) → IsInOneLine x → IsInOneLine (byte ∷ x)
one-cons byte x other rest = ap (after_byte byte) rest ∙ rw (ne_eqb byte 10 other) refl

one-either : (b : Bool) (x y : List ℕ) → (b ≡ true → IsInOneLine x) → (b ≡ false → IsInOneLine y) → IsInOneLine (cond b x y)
one-either true x y first second = first refl
one-either false x y first second = second refl

one-flat_map : {X : Type 0} (f : X → List ℕ) → ((x : X) → IsInOneLine (f x)) → (xs : List X) → IsInOneLine (flat_map f xs)
one-flat_map f each [] = refl
one-flat_map f each (x ∷ xs) = one-append (f x) (flat_map f xs) (each x) (one-flat_map f each xs)

glyph-other : (d : ℕ) → digit_glyph false d ≡ 10 → ⊥
glyph-other d is = elim (ltb d 10) as (λ b. cond b (48 + d) (87 + d) ≡ 10 → ⊥) [ true ↦ λ e. omega arith | false ↦ λ e. omega arith ] is

one-digits_onto : (k n : ℕ) (x : List ℕ) → IsInOneLine x → IsInOneLine (digits_onto k 10 false n x)
one-digits_onto zero n x one = one
one-digits_onto (suc k) n x one =
    let d = digit_glyph false (n % 10) in
    let more : IsInOneLine (d ∷ x) = one-cons d x (glyph-other (n % 10)) one in
    one-either (eqb (n / 10) 0) (d ∷ x) (digits_onto k 10 false (n / 10) (d ∷ x)) (λ e. more) (λ e. one-digits_onto k (n / 10) (d ∷ x) more)

one-number_part : (n : ℕ) → IsInOneLine (number_part n)
unfolding digits
one-number_part n = one-cons 32 (digits_onto 64 10 false n []) (λ e. omega arith) (one-digits_onto 64 n [] refl)

hex-other : (d : ℕ) → digit_char d ≡ 10 → ⊥
hex-other d is = elim (ltb d 10) as (λ b. cond b (48 + d) (87 + d) ≡ 10 → ⊥) [ true ↦ λ e. omega arith | false ↦ λ e. omega arith ] is

one-encode : (c : ℕ) → (c ≡ 10 → ⊥) → IsInOneLine (encode c)
unfolding encode
one-encode c other =
    one-either (ltb c 128) (c ∷ []) _ (λ e. one-cons c [] other refl)
    (λ e. one-either (ltb c 2048) ((192 + c / 64) ∷ (128 + c % 64) ∷ []) _
    (λ e. one-cons _ _ (λ e. omega arith) (one-cons _ _ (λ e. omega arith) refl))
    (λ e. one-either (ltb c 65536) ((224 + c / 4096) ∷ (128 + (c / 64) % 64) ∷ (128 + c % 64) ∷ []) ((240 + c / 262144) ∷ (128 + (c / 4096) % 64) ∷ (128 + (c / 64) % 64) ∷ (128 + c % 64) ∷ [])
    (λ e. one-cons _ _ (λ e. omega arith) (one-cons _ _ (λ e. omega arith) (one-cons _ _ (λ e. omega arith) refl)))
    (λ e. one-cons _ _ (λ e. omega arith) (one-cons _ _ (λ e. omega arith) (one-cons _ _ (λ e. omega arith) (one-cons _ _ (λ e. omega arith) refl))))))

one-quoted_char : (c : ℕ) → IsInOneLine (quoted_char c)
one-quoted_char c =
    one-either (eqb c 34) (codes "\\\"") _ (λ e. refl)
    (λ e. one-either (eqb c 92) (codes "\\\\") _ (λ e. refl)
    (λ e. one-either (eqb c 10) (codes "\\n") _ (λ e. refl)
    (λ e. one-either (eqb c 13) (codes "\\r") _ (λ e. refl)
    (λ e. one-either (eqb c 9) (codes "\\t") _ (λ e. refl)
    (λ e. one-either (ltb c 32) (codes "\\u00" ++ digit_char (c / 16) ∷ digit_char (c % 16) ∷ []) (encode_utf8_all (c ∷ []))
    (λ e. one-append (codes "\\u00") (digit_char (c / 16) ∷ digit_char (c % 16) ∷ []) refl
    (one-cons (digit_char (c / 16)) (digit_char (c % 16) ∷ []) (hex-other (c / 16)) (one-cons (digit_char (c % 16)) [] (hex-other (c % 16)) refl)))
    (λ e. let high : 32 ≤ c = ltb-false c 32 e in one-append (encode c) [] (one-encode c (λ e. omega arith)) refl))))))

one-quoted : (units : List ℕ) → IsInOneLine (quoted units)
one-quoted units =
    one-append (codes "\"" ++ flat_map quoted_char (utf16_lossy_chars units)) (codes "\"")
    (one-append (codes "\"") (flat_map quoted_char (utf16_lossy_chars units)) refl (one-flat_map quoted_char one-quoted_char (utf16_lossy_chars units))) refl

letter-other : (s : Status) → status_letter s ≡ 10 → ⊥
letter-other PairedOpening is = omega arith
letter-other PairedClosing is = omega arith
letter-other Unclosed is = omega arith
letter-other Unexpected is = omega arith

one-entry_part : (e : Entry) → IsInOneLine (entry_part e)
one-entry_part e =
    let a = number_part (e.place.lines + 1) in
    let b = number_part (e.place.columns + 1) in
    let c = number_part e.len in
    let d = number_part e.kind in
    one-append (((a ++ b) ++ c) ++ d) (32 ∷ status_letter e.status ∷ number_part e.level)
    (one-append ((a ++ b) ++ c) d (one-append (a ++ b) c (one-append a b (one-number_part _) (one-number_part _)) (one-number_part _)) (one-number_part _))
    (one-cons 32 _ (λ e. omega arith) (one-cons (status_letter e.status) _ (letter-other e.status) (one-number_part e.level)))

one-edit_part : (op : Op) → IsInOneLine (edit_part op)
one-edit_part op =
    one-append (number_part op.span.start ++ number_part op.span.end) (text_part op.text)
    (one-append (number_part op.span.start) (number_part op.span.end) (one-number_part op.span.start) (one-number_part op.span.end))
    (one-cons 32 (quoted op.text) (λ e. omega arith) (one-quoted op.text))

-- ---- replies

-- the properties of a flat reply
pub record IsFlatReply (reply : List ℕ) : Type 0 where
  pub line : IsOneLine reply
  pub sure : reply ≡ memory_reply → ⊥

-- a test that tells the reply from `! memory`
sure_by : (reply : List ℕ) → bytes_eq reply memory_reply ≡ false → reply ≡ memory_reply → ⊥
sure_by reply other is = both_ways _ other (ap (λ x. bytes_eq x memory_reply) is)

flat_ok : (parts : List ℕ) → IsInOneLine parts → IsFlatReply (codes "ok" ++ parts ++ codes "\n")
flat_ok parts one = record { line = (codes "ok" ++ parts, one-append (codes "ok") parts refl one, refl); sure = sure_by _ refl }

flat_numbers : (numbers : List ℕ) → IsFlatReply (ok_reply numbers)
flat_numbers numbers = flat_ok (flat_map number_part numbers) (one-flat_map number_part one-number_part numbers)

flat_none : IsFlatReply none_reply
flat_none = record { line = (codes "ok none", refl, refl); sure = sure_by _ refl }

flat_text : (units : List ℕ) → IsFlatReply (text_reply units)
flat_text units = flat_ok (text_part units) (one-cons 32 (quoted units) (λ e. omega arith) (one-quoted units))

flat_changes_reply : (f : FlatState) → IsFlatReply (changes_reply f)
flat_changes_reply f =
    flat_ok (number_part f.version ++ flat_map edit_part (flat_changes f))
    (one-append (number_part f.version) (flat_map edit_part (flat_changes f)) (one-number_part f.version) (one-flat_map edit_part one-edit_part (flat_changes f)))

flat_entries : (entries : List Entry) → IsFlatReply (entries_reply entries)
flat_entries entries = flat_ok (flat_map entry_part entries) (one-flat_map entry_part one-entry_part entries)

flat_syntax : IsFlatReply (refusal_reply refusal.Syntax)
flat_syntax = record { line = (codes "! syntax", refl, refl); sure = sure_by _ refl }

flat_refusal : (why : FlatRefusal) → IsFlatReply (refusal_reply (reason_of why))
flat_refusal unknown = record { line = (codes "! unknown", refl, refl); sure = sure_by _ refl }
flat_refusal range = record { line = (codes "! range", refl, refl); sure = sure_by _ refl }
flat_refusal overlap = record { line = (codes "! overlap", refl, refl); sure = sure_by _ refl }
flat_refusal limit = record { line = (codes "! limit", refl, refl); sure = sure_by _ refl }

flat_not_next : (n : ℕ) → IsFlatReply (refusal_reply (refusal.Joint n))
flat_not_next n = record {
  line = (codes "! joint" ++ number_part n, one-append (codes "! joint") (number_part n) refl (one-number_part n), refl);
  sure = sure_by _ refl;
}

flat_group_refusal : (why : GroupRefusal) → IsFlatReply (refusal_reply (group_reason_of why))
flat_group_refusal (plain why) = flat_refusal why
flat_group_refusal (joint n) = flat_not_next n

-- `ok VERSION UNITS LINES`
flat_change : (f : FlatState) → IsFlatReply (change_reply f)
flat_change f = flat_numbers (f.version ∷ length f.units ∷ flat_line_count f ∷ [])

flat_changed : (g : FlatGroup) (n : ℕ) (rule : Result FlatGroup FlatRefusal) → IsFlatReply (changed g n rule).0
flat_changed g n (Ok new) = flat_change (doc_in new n)
flat_changed g n (Err why) = flat_refusal why

flat_moved : (g : FlatGroup) (n : ℕ) (rule : Result (Option FlatGroup) FlatRefusal) → IsFlatReply (moved g n rule).0
flat_moved g n (Ok None) = flat_none
flat_moved g n (Ok (Some new)) = flat_change (doc_in new n)
flat_moved g n (Err why) = flat_refusal why

flat_gone : (g : FlatGroup) (n : ℕ) (rule : Result (Option FlatGroup) GroupRefusal) → IsFlatReply (gone g n rule).0
flat_gone g n (Ok None) = flat_none
flat_gone g n (Ok (Some new)) = flat_change (doc_in new n)
flat_gone g n (Err why) = flat_group_refusal why

flat_edited : (g : FlatGroup) (n : ℕ) (ops : Option (List Op)) → IsFlatReply (edited_at g n ops).0
flat_edited g n None = flat_refusal range
flat_edited g n (Some ops) = flat_changed g n (group_edit g n ops)

flat_decorated : (f : FlatState) (count : ℕ) (rule : Result FlatState FlatRefusal) → IsFlatReply (decorated f count rule).0
flat_decorated f count (Ok new) = flat_numbers (f.decorations.next_id ∷ count ∷ [])
flat_decorated f count (Err why) = flat_refusal why

flat_text_answer : (rule : Result (List ℕ) FlatRefusal) → IsFlatReply (text_answer rule)
flat_text_answer (Ok units) = flat_text units
flat_text_answer (Err why) = flat_refusal why

flat_offset_answer : (offset : Option ℕ) → IsFlatReply (offset_answer offset)
flat_offset_answer None = flat_refusal range
flat_offset_answer (Some offset) = flat_numbers (offset ∷ [])

flat_position_answer : (p : Option Position) → IsFlatReply (position_answer p)
flat_position_answer None = flat_refusal range
flat_position_answer (Some p) = flat_numbers (p.line ∷ p.column ∷ [])

flat_deco_answer : (deco : Option Deco) → IsFlatReply (deco_answer deco)
flat_deco_answer None = flat_refusal unknown
flat_deco_answer (Some deco) = flat_numbers (deco.span.start ∷ deco.span.end ∷ deco.stick ∷ deco.owner ∷ [])

flat_decos_answer : (rule : Result (List Deco) FlatRefusal) → IsFlatReply (decos_answer rule)
flat_decos_answer (Ok decos) = flat_numbers (deco_numbers decos)
flat_decos_answer (Err why) = flat_refusal why

flat_brackets_answer : (rule : Result (List Entry) FlatRefusal) → IsFlatReply (brackets_answer rule)
flat_brackets_answer (Ok entries) = flat_entries entries
flat_brackets_answer (Err why) = flat_refusal why

flat_match_answer : (rule : Result (Option (Position × ℕ)) FlatRefusal) → IsFlatReply (match_answer rule)
flat_match_answer (Ok None) = flat_none
flat_match_answer (Ok (Some partner)) = flat_numbers (partner.0.line ∷ partner.0.column ∷ partner.1 ∷ [])
flat_match_answer (Err why) = flat_refusal why

flat_level_answer : (rule : Result ℕ FlatRefusal) → IsFlatReply (level_answer rule)
flat_level_answer (Ok level) = flat_numbers (level ∷ [])
flat_level_answer (Err why) = flat_refusal why

flat_snapshot_answer : (f : FlatState) (rule : Result FlatState FlatRefusal) → IsFlatReply (snapshot_answer f rule).0
flat_snapshot_answer f (Ok new) = flat_numbers (f.shelf.next_id ∷ [])
flat_snapshot_answer f (Err why) = flat_refusal why

flat_read_answer : (f : FlatState) (id : ℕ) (rule : Result (List ℕ) FlatRefusal) → IsFlatReply (read_answer f id rule).0
flat_read_answer f id (Ok units) = flat_text units
flat_read_answer f id (Err why) = flat_refusal why

flat_close_answer : (f : FlatState) (rule : Result FlatState FlatRefusal) → IsFlatReply (close_answer f rule).0
flat_close_answer f (Ok new) = flat_numbers []
flat_close_answer f (Err why) = flat_refusal why

flat_stops_answer : (rule : Result (List ℕ) FlatRefusal) → IsFlatReply (stops_answer rule)
flat_stops_answer (Ok columns) = flat_numbers columns
flat_stops_answer (Err why) = flat_refusal why

flat_old : IsFlatReply old_reply
flat_old = record { line = (codes "ok old", refl, refl); sure = sure_by _ refl }

flat_gap : (have need : ℕ) → IsFlatReply (refusal_reply (refusal.Gap have need))
flat_gap have need =
    let front : List ℕ = codes "! gap" ++ number_part have in
    record {
      line = (
        front ++ number_part need,
        one-append front (number_part need)
            (one-append (codes "! gap") (number_part have) refl (one-number_part have)) (one-number_part need),
        refl,
      );
      sure = sure_by _ refl;
    }

flat_opened : (s : FlatSession) (n : ℕ) (rule : Result FlatGroup FlatRefusal) → IsFlatReply (opened s n rule).0
flat_opened s n (Ok new) = flat_change (doc_in new n)
flat_opened s n (Err why) = flat_refusal why

flat_if : {S : Type 0} (b : Bool) (x y : List ℕ × S) → IsFlatReply x.0 → IsFlatReply y.0 → IsFlatReply (cond b x y).0
flat_if true x y first second = first
flat_if false x y first second = second

flat_joined_by : (g : FlatGroup) (docs : List ℕ) (rule : Result FlatGroup GroupRefusal) → IsFlatReply (joined_by g docs rule).0
flat_joined_by g docs (Ok new) = flat_numbers (flat_map (doc_numbers new) docs)
flat_joined_by g docs (Err why) = flat_group_refusal why

flat_joined_at : (g : FlatGroup) (docs : List ℕ) (batches : Option (List FlatBatch)) → IsFlatReply (joined_at g docs batches).0
flat_joined_at g docs None = flat_refusal range
flat_joined_at g docs (Some batches) = flat_joined_by g docs (group_joint g batches)

flat_joint : (g : FlatGroup) (edits : List DocEdit) → IsFlatReply (joint_answer g edits).0
flat_joint g edits =
    let docs = map (λ (edit : DocEdit). edit.doc) edits in
    flat_if (names_badly docs) (refusal_reply refusal.Unknown, g) (joined_at g docs (batches_at g edits)) (flat_refusal unknown)
    (flat_joined_at g docs (batches_at g edits))

flat_send : (f : FlatState) (s : FlatFollower) → IsFlatReply (send_answer f s).0
flat_send f s =
    let sent : List ℕ × FlatFollower = (
      ok_reply ((length s.sent + 1) ∷ (f.version - 1) ∷ []),
      record s { sent = s.sent ++ record { from = f.version - 1; after = f.units } ∷ [] },
    ) in
    flat_if (f.version == 1) (none_reply, s) _ flat_none
    (flat_if (nat_le most_sent (length s.sent)) (refusal_reply refusal.Limit, s) sent (flat_refusal limit)
    (flat_numbers ((length s.sent + 1) ∷ (f.version - 1) ∷ [])))

flat_delivered : (s : FlatFollower) (m : MirrorState) (e : SentEvent) → IsFlatReply (delivered s m e).0
flat_delivered s m e =
    let next : MirrorState = record { version = m.version + 1; units = e.after } in
    flat_if (nat_lt e.from m.version) (old_reply, s) _ flat_old
    (flat_if (nat_lt m.version e.from) (refusal_reply (refusal.Gap m.version e.from), s) (followed s next) (flat_gap m.version e.from)
    (flat_numbers (next.version ∷ length next.units ∷ length (lines_of next.units) ∷ [])))

flat_deliver : (s : FlatFollower) (m : Option MirrorState) (e : Option SentEvent) → IsFlatReply (deliver_answer s m e).0
flat_deliver s None e = flat_refusal unknown
flat_deliver s (Some m) None = flat_refusal unknown
flat_deliver s (Some m) (Some e) = flat_delivered s m e

flat_mirrored : (m : Option MirrorState) (n : ℕ) → IsFlatReply (mirrored_answer m n)
flat_mirrored None n = flat_refusal unknown
flat_mirrored (Some m) n = flat_text_answer (content_of (line_at m.units n))

flat_step_on : (s : FlatSession) (n : ℕ) (f : FlatState) (follower : FlatFollower) (c : Command) → IsFlatReply (step_on s n f follower c).0
flat_step_on s n f follower (command.Open text brackets marks kind) = flat_opened s n (group_open s.documents n text (scanner_for brackets marks) kind)
flat_step_on s n f follower (command.Edit ops) = flat_edited s.documents n (ops_at f ops)
flat_step_on s n f follower (command.Eol kind) = flat_moved s.documents n (group_eol s.documents n kind)
flat_step_on s n f follower (command.Replace sought text) = flat_moved s.documents n (group_replace_all s.documents n sought text)
flat_step_on s n f follower command.Undo = flat_gone s.documents n (group_undo s.documents n)
flat_step_on s n f follower command.Redo = flat_gone s.documents n (group_redo s.documents n)
flat_step_on s n f follower (command.Decorate owner remove add) = flat_decorated f (length add) (flat_decorate f owner remove add)
flat_step_on s n f follower command.Stop = flat_numbers []
flat_step_on s n f follower command.Version = flat_numbers (f.version ∷ f.alternative ∷ [])
flat_step_on s n f follower command.Size = flat_numbers (length f.units ∷ flat_line_count f ∷ [])
flat_step_on s n f follower command.Changes = flat_changes_reply f
flat_step_on s n f follower (command.Line line) = flat_text_answer (flat_line f line)
flat_step_on s n f follower (command.Value span) = flat_text_answer (flat_value f span)
flat_step_on s n f follower (command.Offset p) = flat_offset_answer (flat_offset f p)
flat_step_on s n f follower (command.Position offset) = flat_position_answer (flat_position f offset)
flat_step_on s n f follower (command.Deco id) = flat_deco_answer (flat_deco f id)
flat_step_on s n f follower (command.Decos span owner) = flat_decos_answer (flat_decos f span owner)
flat_step_on s n f follower (command.Brackets from to) = flat_brackets_answer (flat_brackets f from to)
flat_step_on s n f follower (command.Match p) = flat_match_answer (flat_match f p)
flat_step_on s n f follower (command.Level p) = flat_level_answer (flat_level f p)
flat_step_on s n f follower command.Snapshot = flat_snapshot_answer f (flat_snapshot f)
flat_step_on s n f follower (command.Read id count) = flat_read_answer f id (flat_peek_of f id count)
flat_step_on s n f follower (command.Close id) = flat_close_answer f (flat_close_of f id)
flat_step_on s n f follower (command.Stops line) = flat_stops_answer (flat_stops f line)
flat_step_on s n f follower (command.Find sought) = flat_numbers (span_numbers (flat_find f sought))
flat_step_on s n f follower command.Mirror = flat_numbers (f.version ∷ [])
flat_step_on s n f follower command.Send = flat_send f follower
flat_step_on s n f follower (command.Deliver k) = flat_deliver follower follower.mirror (sent_at follower.sent k)
flat_step_on s n f follower (command.Mirrored line) = flat_mirrored follower.mirror line

flat_request : (s : FlatSession) (request : Request) → IsFlatReply (request_answer s request).0
flat_request s (One n c) =
    flat_if (nat_le DOC_COUNT n) (refusal_reply refusal.Unknown, s) (step s n c) (flat_refusal unknown)
    (flat_step_on s n (doc_in s.documents n) (follower_in s.followers n) c)
flat_request s (Joint edits) = flat_joint s.documents edits

flat_requested : (s : FlatSession) (request : Option Request) → IsFlatReply (requested s request).0
flat_requested s None = flat_syntax
flat_requested s (Some request) = flat_request s request

-- the flat reply to any line
pub flat_turn : (s : FlatSession) (line : List ℕ) → IsFlatReply (turn s line).0
flat_turn s line = flat_if (is_too_long line) (refusal_reply refusal.Limit, s) (requested s (request_of line)) (flat_refusal limit) (flat_requested s (request_of line))

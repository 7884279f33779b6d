-- Worked examples of the definitions.
use Rattle.std.specs.Prelude.{◌≡◌, ℕ, List, ◌∷◌, [], codes, refl, false, Some, None, Ok}
use Rattle.unit_text.specs.declared.kind.Kind.TheVariants.{Mixed, Lf, Crlf}
use Rattle.bracket_rules.specs.declared.Status.TheVariants.{PairedClosing}
use Rattle.document_rules.specs.Document.{new_document}
use Rattle.hiding_rules.specs.Hidden.{standard_scanner}
use Rattle.script_lines.specs.declared.command.Command.{Command}
use Rattle.script_lines.specs.declared.command.Command.TheVariants.{Open, Edit, Eol, Undo, Version, Size, Line, Offset, Snapshot, Read, Close, Stops, Mirror, Send, Deliver, Mirrored}
use Rattle.script_lines.specs.declared.command.Command.TheVariants as command
use Rattle.script_lines.specs.declared.op.LineOp.{LineOp}
use Rattle.script_lines.specs.declared.op.Place.TheVariants.{At, InRange}
use Rattle.std.specs.Fmt.{digits}
use Rattle.std.specs.Char.Utf16.{utf16_chars}
use lib.Utf8.{encode}
use Rattle.group_rules.specs.Group.{with_doc, new_group}
use Rattle.script_lines.specs.declared.request.DocEdit.{DocEdit}
use Rattle.script_lines.specs.declared.request.Request.TheVariants.{One, Joint}
use Rattle.session_rules.specs.Session.{FlatSession, new_session}
use Rattle.session_rules.specs.Step.{brackets_answer, match_answer, level_answer, spans_reply, step, request_answer}
use Rattle.session_rules.specs.Script.{all_lines, whole_lines, has_reply}

-- a session with a new document 0 of this text, whose line endings are kept
abbrev text : List ℕ → FlatSession
text units = record { documents = with_doc new_group 0 (new_document units standard_scanner Mixed); followers = new_session.followers }

-- a command on document 0
abbrev ask : FlatSession → Command → List ℕ × FlatSession
ask s command = step s 0 command

two_lines_and_a_rest : all_lines (codes "ab\n\nc") ≡ codes "ab" ∷ [] ∷ codes "c" ∷ []
two_lines_and_a_rest = refl

no_line_after_the_last_break : all_lines (codes "ab\n") ≡ codes "ab" ∷ []
no_line_after_the_last_break = refl

the_rest_is_no_whole_line : whole_lines (codes "ab\nc") ≡ codes "ab" ∷ []
the_rest_is_no_whole_line = refl

a_blank_line_has_no_reply : has_reply (codes " \t\r") ≡ false
a_blank_line_has_no_reply = refl

opened : ask new_session (Open (codes "ab\ncd") None None Mixed) ≡ (codes "ok 1 5 2\n", text (codes "ab\ncd"))
unfolding digits
opened = refl

-- an op at a span
abbrev over : ℕ → ℕ → List ℕ → LineOp
over start end text = record { place = At (record { start = start; end = end }); text = text; force = false }

edited_over_a_break : (ask (text (codes "ab\ncd")) (Edit (over 1 4 (codes "X") ∷ []))).0 ≡ codes "ok 2 3 1\n"
unfolding digits
edited_over_a_break = refl

two_edits_that_overlap : ask (text (codes "abcde"))
    (Edit (over 1 4 [] ∷ over 3 3 [] ∷ []))
    ≡ (codes "! overlap\n", text (codes "abcde"))
two_edits_that_overlap = refl

nothing_to_undo : ask (text (codes "ab")) Undo ≡ (codes "ok none\n", text (codes "ab"))
nothing_to_undo = refl

versions_of_a_new_document : ask new_session Version ≡ (codes "ok 1 1\n", new_session)
unfolding digits
versions_of_a_new_document = refl

the_first_line : ask (text (codes "aXd")) (Line 1)
    ≡ (codes "ok \"aXd\"\n", text (codes "aXd"))
unfolding utf16_chars encode
the_first_line = refl

size_of_a_new_document : ask new_session Size ≡ (codes "ok 0 1\n", new_session)
unfolding digits
size_of_a_new_document = refl

-- an op in a range of positions
abbrev in_range : ℕ → ℕ → ℕ → ℕ → List ℕ → LineOp
in_range line column line' column' text = record {
  place = InRange (record { line = line; column = column }) (record { line = line'; column = column' });
  text = text;
  force = false;
}

edited_by_range : (ask (text (codes "ab\ncd")) (Edit (in_range 1 2 2 2 (codes "X") ∷ []))).0
    ≡ codes "ok 2 3 1\n"
unfolding digits
edited_by_range = refl

a_range_with_no_such_column : ask (text (codes "ab\ncd")) (Edit (in_range 1 4 2 1 [] ∷ []))
    ≡ (codes "! range\n", text (codes "ab\ncd"))
a_range_with_no_such_column = refl

offset_after_a_break : ask (text (codes "ab\r\ncd")) (Offset (record { line = 2; column = 1 }))
    ≡ (codes "ok 4\n", text (codes "ab\r\ncd"))
unfolding digits
offset_after_a_break = refl

position_inside_a_break : ask (text (codes "ab\r\ncd")) (command.Position 3)
    ≡ (codes "ok 1 4\n", text (codes "ab\r\ncd"))
unfolding digits
position_inside_a_break = refl

-- the reply with brackets, independent of any text
a_bracket_is_told :
    brackets_answer (Ok (record { place = record { lines = 0; columns = 2 }; len = 1; kind = 0; status = PairedClosing; level = 0 } ∷ []))
    ≡ codes "ok 1 3 1 0 c 0\n"
unfolding digits
a_bracket_is_told = refl

a_partner_is_told : match_answer (Ok (Some (record { line = 1; column = 3 }, 1))) ≡ codes "ok 1 3 1\n"
unfolding digits
a_partner_is_told = refl

a_level_is_told : level_answer (Ok 2) ≡ codes "ok 2\n"
unfolding digits
a_level_is_told = refl

-- the reply with spans, independent of any text
two_spans_are_told :
    spans_reply (record { start = 0; end = 2 } ∷ record { start = 9; end = 11 } ∷ []) ≡ codes "ok 0 2 9 11\n"
unfolding digits
two_spans_are_told = refl

no_spans_are_told : spans_reply [] ≡ codes "ok\n"
no_spans_are_told = refl

abbrev hi : FlatSession
hi = text (codes "hi")

-- with a snapshot, which has id 1
abbrev kept : FlatSession
kept = (ask hi Snapshot).1

the_first_snapshot : (ask hi Snapshot).0 ≡ codes "ok 1\n"
unfolding digits
the_first_snapshot = refl

a_read : (ask kept (Read 1 2)).0 ≡ codes "ok \"hi\"\n"
unfolding utf16_chars encode
a_read = refl

nothing_is_left : (ask (ask kept (Read 1 2)).1 (Read 1 2)).0 ≡ codes "ok \"\"\n"
unfolding utf16_chars encode
nothing_is_left = refl

a_read_of_one_unit : ask kept (Read 1 1) ≡ (codes "! range\n", kept)
a_read_of_one_unit = refl

a_close : (ask kept (Close 1)).0 ≡ codes "ok\n"
a_close = refl

no_such_snapshot : ask kept (Close 2) ≡ (codes "! unknown\n", kept)
no_such_snapshot = refl

no_such_line_has_stops : ask hi (Stops 2) ≡ (codes "! range\n", hi)
no_such_line_has_stops = refl

-- `a` and `b`, which were opened with LF
abbrev two_lines : FlatSession
two_lines = (ask new_session (Open (codes "a\r\nb") None None Lf)).1

opened_with_a_kind : (ask new_session (Open (codes "a\r\nb") None None Lf)).0 ≡ codes "ok 1 3 2\n"
unfolding digits
opened_with_a_kind = refl

other_endings : (ask two_lines (Eol Crlf)).0 ≡ codes "ok 2 4 2\n"
unfolding digits
other_endings = refl

the_same_endings : ask two_lines (Eol Lf) ≡ (codes "ok none\n", two_lines)
the_same_endings = refl

no_place_inside_an_ending : (ask (ask two_lines (Eol Crlf)).1 (command.Position 2)).0 ≡ codes "! range\n"
no_place_inside_an_ending = refl

-- ---- a mirror

-- `ab` and a mirror of it, then `x` before it and `y` behind it, each sent
abbrev mirrored : FlatSession
mirrored = (ask (text (codes "ab")) Mirror).1

abbrev after_both : FlatSession
after_both =
    let first = (ask mirrored (Edit (over 0 0 (codes "x") ∷ []))).1 in
    let second = (ask (ask first Send).1 (Edit (over 3 3 (codes "y") ∷ []))).1 in (ask second Send).1

a_mirror_of_now : (ask (text (codes "ab")) Mirror).0 ≡ codes "ok 1\n"
unfolding digits
a_mirror_of_now = refl

nothing_to_send : ask (text (codes "ab")) Send ≡ (codes "ok none\n", text (codes "ab"))
nothing_to_send = refl

the_second_comes_first : ask after_both (Deliver 2) ≡ (codes "! gap 1 2\n", after_both)
unfolding digits
the_second_comes_first = refl

abbrev after_one : FlatSession
after_one = (ask after_both (Deliver 1)).1

the_first_is_taken : (ask after_both (Deliver 1)).0 ≡ codes "ok 2 3 1\n"
unfolding digits
the_first_is_taken = refl

the_first_comes_again : ask after_one (Deliver 1) ≡ (codes "ok old\n", after_one)
the_first_comes_again = refl

a_line_of_the_mirror : (ask after_one (Mirrored 1)).0 ≡ codes "ok \"xab\"\n"
unfolding utf16_chars encode
a_line_of_the_mirror = refl

no_such_event : ask after_one (Deliver 3) ≡ (codes "! unknown\n", after_one)
no_such_event = refl

a_mirror_ends_with_its_document : ask (ask after_one (Open (codes "c") None None Mixed)).1 (Mirrored 1)
    ≡ (codes "! unknown\n", text (codes "c"))
a_mirror_ends_with_its_document = refl

-- ---- documents

-- `a` and `b`, and `x` behind the first with `y` before the second at once
abbrev two : FlatSession
two = (step (text (codes "a")) 1 (Open (codes "b") None None Mixed)).1

abbrev edits : List DocEdit
edits =
    record { doc = 0; ops = over 1 1 (codes "x") ∷ [] } ∷ record { doc = 1; ops = over 0 0 (codes "y") ∷ [] } ∷ []

abbrev both : FlatSession
both = (request_answer two (Joint edits)).1

changed_at_once : (request_answer two (Joint edits)).0 ≡ codes "ok 0 2 2 1 1 2 2 1\n"
unfolding digits
changed_at_once = refl

-- then `z` in the second alone
abbrev ahead : FlatSession
ahead = (step both 1 (Edit (over 2 2 (codes "z") ∷ []))).1

not_the_next_step : (ask ahead Undo).0 ≡ codes "! joint 1\n"
unfolding digits
not_the_next_step = refl

abbrev back : FlatSession
back = (ask (step ahead 1 Undo).1 Undo).1

undone_at_once : (ask (step ahead 1 Undo).1 Undo).0 ≡ codes "ok 3 1 1\n"
unfolding digits
undone_at_once = refl

undone_in_the_other : (step back 1 Size).0 ≡ codes "ok 1 1\n"
unfolding digits
undone_in_the_other = refl

no_such_document : request_answer two (One 64 Size) ≡ (codes "! unknown\n", two)
no_such_document = refl

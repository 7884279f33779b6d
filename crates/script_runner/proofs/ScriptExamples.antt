-- Worked examples of whole scripts, from their bytes to the bytes of their replies.
use Rattle.std.proofs.Common.{inl, arith}
use Rattle.std.specs.Prelude.{◌≡◌, ℕ, ◌<◌, true, false, List, [], ◌∷◌, length, Some, None, codes, refl}
use Rattle.std.specs.Fmt.{digits}
use Rattle.std.specs.Char.Utf16.{utf16_chars}
use lib.Utf8.{encode}
use Rattle.std.proofs.lemmas.Bool.{lt-ltb}
use Rattle.script_streams.specs.Streams.{SourceState, SinkState}
use Rattle.script_lines.proofs.ReadExamples.{an_opening, an_edit, a_line, a_size, a_word_is_no_command}
use Rattle.unit_text.specs.declared.kind.Kind.TheVariants.{Mixed}
use Rattle.text_rules.specs.declared.Op.{Op}
use Rattle.hiding_rules.specs.Hidden.{standard_scanner}
use Rattle.document_rules.specs.Document.{FlatState, new_document, after_batch}
use Rattle.group_rules.specs.Group.{doc_in, with_doc, new_group}
use Rattle.session_rules.specs.Session.{FlatSession, new_session}
use Rattle.session_rules.specs.Step.{answered, out_of_memory}
use Rattle.session_rules.specs.Script.{most_line_bytes, whole_lines, all_lines, Turn, Transcript}
use Rattle.script_runner.specs.declared.running.Status.TheVariants as status
use Rattle.script_runner.specs.Runs.{CutReplies, lines_read, Runs}

-- ---- lines

a_blank_line_gets_nothing : Turn new_session (codes " \t\r") [] new_session
a_blank_line_gets_nothing = (refl, refl)

abbrev size_line : List ℕ
size_line = codes "{\"cmd\":\"size\"}"

size_is_told : Turn new_session size_line (codes "ok 0 1\n") new_session
unfolding digits
size_is_told = rw a_size (answered refl refl)

memory_may_be_wanting : Turn new_session size_line (codes "! memory\n") new_session
memory_may_be_wanting = out_of_memory refl refl

no_command_is_told : Turn new_session (codes "size") (codes "! syntax\n") new_session
no_command_is_told = rw a_word_is_no_command (answered refl refl)

-- whatever its bytes are
a_line_that_is_too_long : (f : FlatSession) (line : List ℕ) → most_line_bytes < length line → Turn f line (codes "! limit\n") f
a_line_that_is_too_long f line long = rw (lt-ltb most_line_bytes (length line) long) (answered refl refl)

-- ---- the first example of the readme

abbrev open_line : List ℕ
open_line = codes "{\"cmd\":\"open\",\"text\":\"ab\\ncd\"}"

abbrev edit_line : List ℕ
edit_line = codes "{\"cmd\":\"edit\",\"ops\":[{\"at\":[1,4],\"text\":\"X\"}]}"

abbrev line_line : List ℕ
line_line = codes "{\"cmd\":\"line\",\"n\":1}"

-- a session with this document 0
abbrev session_of : FlatState → FlatSession
session_of f = record { documents = with_doc new_group 0 f; followers = new_session.followers }

abbrev opened : FlatSession
opened = session_of (new_document (codes "ab\ncd") standard_scanner Mixed)

abbrev edited : FlatSession
edited =
    let op : Op = record { span = record { start = 1; end = 4 }; text = codes "X"; force = false } in
    session_of (after_batch (doc_in opened.documents 0) (op ∷ []))

opened_turn : Turn new_session open_line (codes "ok 1 5 2\n") opened
unfolding digits
opened_turn = rw an_opening (answered refl refl)

edited_turn : Turn opened edit_line (codes "ok 2 3 1\n") edited
unfolding digits
edited_turn = rw an_edit (answered refl refl)

line_turn : Turn edited line_line (codes "ok \"aXd\"\n") edited
unfolding utf16_chars encode
line_turn = rw a_line (answered refl refl)

size_turn : Turn edited size_line (codes "ok 3 1\n") edited
unfolding digits
size_turn = rw a_size (answered refl refl)

four_lines : all_lines (codes "{\"cmd\":\"open\",\"text\":\"ab\\ncd\"}\n{\"cmd\":\"edit\",\"ops\":[{\"at\":[1,4],\"text\":\"X\"}]}\n{\"cmd\":\"line\",\"n\":1}\n{\"cmd\":\"size\"}\n")
    ≡ open_line ∷ edit_line ∷ line_line ∷ size_line ∷ []
four_lines = refl

-- its four lines are answered by these four replies
the_first_example : Transcript new_session (open_line ∷ edit_line ∷ line_line ∷ size_line ∷ [])
    (codes "ok 1 5 2\n" ∷ codes "ok 2 3 1\n" ∷ codes "ok \"aXd\"\n" ∷ codes "ok 3 1\n" ∷ []) edited
the_first_example = (opened, opened_turn, (edited, edited_turn, (edited, line_turn, (edited, size_turn, refl))))

-- ---- after a failed write

-- the first of two lines was answered, and of the second reply two bytes were written
a_reply_is_cut : CutReplies Transcript new_session (whole_lines (codes "{\"cmd\":\"size\"}\n{\"cmd\":\"size\"}\n"))
    (codes "ok 0 1\nok") new_session
a_reply_is_cut = record {
  done = size_line ∷ [];
  line = size_line;
  others = [];
  lines_are = refl;
  replies = codes "ok 0 1\n" ∷ [];
  mid = new_session;
  answers = (new_session, size_is_told, refl);
  reply = codes "ok 0 1\n";
  last = (new_session, size_is_told, refl);
  front = codes "ok";
  starts = (codes " 0 1\n", refl);
  bytes_are = refl;
}

-- an unfinished line is a line where the end was seen
a_line_may_go_on : lines_read false (codes "ab\nc") ≡ codes "ab" ∷ []
a_line_may_go_on = refl

the_end_ends_a_line : lines_read true (codes "ab\nc") ≡ codes "ab" ∷ codes "c" ∷ []
the_end_ends_a_line = refl

-- ---- a run that ends at a failed read

-- a source that holds a line and a part of one
abbrev a_source : SourceState
a_source = record { left = Some (codes "size\nsi"); given = 0; ended = false; faults = 0 }

abbrev a_sink : SinkState
a_sink = record { taken = Some []; room = 9; faults = 0; tally = None }

-- the line was answered, and the part of one was not
a_read_fails : Runs status.ReadFault a_source (record { left = Some []; given = 7; ended = false; faults = 1 })
    a_sink (record a_sink { taken = Some (codes "! syntax\n") })
a_read_fails = (
  new_session,
  record {
    script = codes "size\nsi";
    gave = refl;
    given = inl refl;
    bytes = codes "! syntax\n";
    writes = record { replies = codes "! syntax\n" ∷ []; answers = (new_session, no_command_is_told, refl); bytes_are = refl };
    wrote = record {
      took = refl;
      told = λ before is fits. let none : before ≡ [] = cc in rw none refl;
      room = refl;
      tally = λ before is whole. cc;
    };
    leaves = (omega arith, refl, inl (omega arith), refl);
  },
)

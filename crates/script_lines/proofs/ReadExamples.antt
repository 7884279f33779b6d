-- Worked examples of lines as they stand in a script, byte by byte.
use Rattle.std.specs.Prelude.{◌≡◌, false, [], ◌∷◌, Some, None, codes, refl}
use Rattle.std.specs.Str.{is_utf8, chars}
use Rattle.serde_json.proofs.OnLiterals.{serde_json_on_literals}
use Rattle.hiding_rules.specs.Marks.{marks}
use Rattle.unit_text.specs.declared.kind.Kind.TheVariants.{Mixed, Crlf}
use Rattle.script_lines.specs.declared.command.Command.TheVariants.{Open, Edit, Eol, Line, Size, Replace}
use Rattle.script_lines.specs.declared.op.Place.TheVariants.{At}
use Rattle.script_lines.specs.declared.request.Request.TheVariants.{One, Joint}
use Rattle.script_lines.specs.Requests.{request_of}

pub an_opening : request_of (codes "{\"cmd\":\"open\",\"text\":\"ab\\ncd\"}") ≡ Some (One 0 (Open (codes "ab\ncd") None None Mixed))
unfolding request_of is_utf8 chars serde_json_on_literals
an_opening = refl

pub an_edit : request_of (codes "{\"cmd\":\"edit\",\"ops\":[{\"at\":[1,4],\"text\":\"X\"}]}")
    ≡ Some (One 0 (Edit (record { place = At (record { start = 1; end = 4 }); text = codes "X"; force = false } ∷ [])))
unfolding request_of is_utf8 chars serde_json_on_literals
an_edit = refl

pub an_opening_with_eol : request_of (codes "{\"cmd\":\"open\",\"text\":\"ab\",\"eol\":\"crlf\"}") ≡ Some (One 0 (Open (codes "ab") None None Crlf))
unfolding request_of is_utf8 chars serde_json_on_literals
an_opening_with_eol = refl

pub an_opening_with_quotes : request_of (codes "{\"cmd\":\"open\",\"text\":\"\",\"marks\":{\"quotes\":[\"\\\"\"]}}")
    ≡ Some (One 0 (Open [] None (Some (marks None None (codes "\""))) Mixed))
unfolding request_of is_utf8 chars serde_json_on_literals
an_opening_with_quotes = refl

pub an_eol : request_of (codes "{\"cmd\":\"eol\",\"kind\":\"crlf\"}") ≡ Some (One 0 (Eol Crlf))
unfolding request_of is_utf8 chars serde_json_on_literals
an_eol = refl

pub a_replace : request_of (codes "{\"cmd\":\"replace\",\"find\":\"a\",\"text\":\"\"}") ≡ Some (One 0 (Replace (codes "a") []))
unfolding request_of is_utf8 chars serde_json_on_literals
a_replace = refl

pub a_line : request_of (codes "{\"cmd\":\"line\",\"n\":1}") ≡ Some (One 0 (Line 1))
unfolding request_of is_utf8 chars serde_json_on_literals
a_line = refl

pub a_size : request_of (codes "{\"cmd\":\"size\"}") ≡ Some (One 0 Size)
unfolding request_of is_utf8 chars serde_json_on_literals
a_size = refl

pub a_word_is_no_command : request_of (codes "size") ≡ None
unfolding request_of is_utf8 chars serde_json_on_literals
a_word_is_no_command = refl

an_object_without_fields : request_of (codes "{}") ≡ None
unfolding request_of is_utf8 chars serde_json_on_literals
an_object_without_fields = refl

the_last_of_two_fields_counts : request_of (codes "{\"cmd\":\"undo\",\"cmd\":\"size\"}") ≡ Some (One 0 Size)
unfolding request_of is_utf8 chars serde_json_on_literals
the_last_of_two_fields_counts = refl

a_number_with_a_point_is_not_whole : request_of (codes "{\"cmd\":\"line\",\"n\":1.0}") ≡ None
unfolding request_of is_utf8 chars serde_json_on_literals
a_number_with_a_point_is_not_whole = refl

a_byte_that_is_no_text : request_of (255 ∷ []) ≡ None
unfolding request_of is_utf8 chars serde_json_on_literals
a_byte_that_is_no_text = refl

-- ---- documents

pub a_size_of_another : request_of (codes "{\"cmd\":\"size\",\"doc\":1}") ≡ Some (One 1 Size)
unfolding request_of is_utf8 chars serde_json_on_literals
a_size_of_another = refl

pub a_joint : request_of (codes "{\"cmd\":\"joint\",\"edits\":[{\"doc\":3,\"ops\":[{\"at\":[1,4],\"text\":\"X\"}]},{\"doc\":0,\"ops\":[{\"at\":[0,0],\"text\":\"\"}]}]}")
    ≡ Some (Joint (record { doc = 3; ops = record { place = At (record { start = 1; end = 4 }); text = codes "X"; force = false } ∷ [] }
    ∷ record { doc = 0; ops = record { place = At (record { start = 0; end = 0 }); text = []; force = false } ∷ [] } ∷ []))
unfolding request_of is_utf8 chars serde_json_on_literals
a_joint = refl

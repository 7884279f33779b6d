-- Worked examples of the definitions.
use Rattle.std.specs.Prelude.{◌≡◌, ℕ, false, List, ◌∷◌, [], Option, Some, None, codes, refl}
use Rattle.std.specs.Fmt.{digits}
use Rattle.std.specs.Str.{chars}
use Rattle.unit_text.specs.declared.kind.Kind.TheVariants.{Mixed, Lf, Crlf}
use Rattle.hiding_rules.specs.Marks.{Marks, marks, no_marks}
use Rattle.serde_json.specs.Data.{Data, null, number, string, array, object, unsigned, Items, no_items, item, no_members, member}
use Rattle.script_lines.specs.declared.reason.Refusal.TheVariants.{Gap}
use Rattle.script_lines.specs.Replies.{ok_reply, refusal_reply}
use Rattle.script_lines.specs.Decorations.{new_deco_in}
use Rattle.script_lines.specs.Commands.{command_in}
use Rattle.script_lines.specs.Requests.{request_in}
use Rattle.script_lines.specs.declared.command.Command.{Command}
use Rattle.script_lines.specs.declared.command.Command.TheVariants.{Open, Eol, Decorate, Decos, Match, Level, Size, Read, Close, Stops, Find, Replace}
use Rattle.script_lines.specs.declared.op.LineOp.{LineOp}
use Rattle.script_lines.specs.declared.op.Place.TheVariants.{At}
use Rattle.script_lines.specs.declared.request.DocEdit.{DocEdit}
use Rattle.script_lines.specs.declared.request.Request.TheVariants.{One, Joint}

three_numbers : ok_reply (2 ∷ 3 ∷ 10 ∷ []) ≡ codes "ok 2 3 10\n"
unfolding digits
three_numbers = refl

two_versions : refusal_reply (Gap 1 12) ≡ codes "! gap 1 12\n"
unfolding digits
two_versions = refl

no_numbers : ok_reply [] ≡ codes "ok\n"
no_numbers = refl

-- ---- decorations

-- `N`, `[A,B]` and `{"at":[2,5],"stick":1}`
abbrev whole : ℕ → Data
whole n = number (unsigned n)

abbrev two : ℕ → ℕ → Items
two a b = item (whole a) (item (whole b) no_items)

abbrev new : Data
new = object (member (codes "at") (array (two 2 5)) (member (codes "stick") (whole 1) no_members))

-- a missing flag is false
new_without_collapse : new_deco_in new ≡ Some (record { span = record { start = 2; end = 5 }; stick = 1; collapse = false })
new_without_collapse = refl

-- `null` is no flag
new_with_null :
    new_deco_in (object (member (codes "at") (array (two 2 5))
    (member (codes "collapse") null (member (codes "stick") (whole 1) no_members))))
    ≡ None
new_with_null = refl

-- `{"add":[..],"cmd":"decorate","owner":7,"remove":[..]}`
abbrev decorate : Items → Items → Data
decorate remove add = object (member (codes "add") (array add) (member (codes "cmd") (string (codes "decorate"))
    (member (codes "owner") (whole 7) (member (codes "remove") (array remove) no_members))))

nothing_to_decorate : command_in (decorate no_items no_items) ≡ Some (Decorate 7 [] [])
nothing_to_decorate = refl

ids_in_their_order : command_in (decorate (two 9 4) (item new no_items))
    ≡ Some (Decorate 7 (9 ∷ 4 ∷ []) (record { span = record { start = 2; end = 5 }; stick = 1; collapse = false } ∷ []))
ids_in_their_order = refl

text_is_no_id : command_in (decorate (item (whole 9) (item (string (codes "4")) no_items)) no_items) ≡ None
text_is_no_id = refl

-- `{"at":[2,5],"cmd":"decos"}`, for any owner
of_any_owner : command_in (object (member (codes "at") (array (two 2 5)) (member (codes "cmd") (string (codes "decos")) no_members)))
    ≡ Some (Decos (record { start = 2; end = 5 }) None)
of_any_owner = refl

-- `{"at":[2,5],"cmd":"decos","owner":OWNER}`
abbrev of_owner : Data → Data
of_owner owner = object (member (codes "at") (array (two 2 5))
    (member (codes "cmd") (string (codes "decos")) (member (codes "owner") owner no_members)))

of_owner_7 : command_in (of_owner (whole 7)) ≡ Some (Decos (record { start = 2; end = 5 }) (Some 7))
of_owner_7 = refl

of_owner_null : command_in (of_owner null) ≡ None
of_owner_null = refl

-- ---- brackets

abbrev pair : List ℕ → List ℕ → Data
pair opening closing = array (item (string opening) (item (string closing) no_items))

-- `{"brackets":BRACKETS,"cmd":"open","text":""}`
abbrev open_with : Data → Data
open_with brackets = object (member (codes "brackets") brackets
    (member (codes "cmd") (string (codes "open")) (member (codes "text") (string []) no_members)))

open_without_brackets : command_in (object (member (codes "cmd") (string (codes "open")) (member (codes "text") (string []) no_members)))
    ≡ Some (Open [] None None Mixed)
unfolding chars
open_without_brackets = refl

pairs_in_their_order : command_in (open_with (array (item (pair (codes "<") (codes "<<")) (item (pair (codes "(") (codes ")")) no_items))))
    ≡ Some (Open [] (Some ((60 ∷ [], 60 ∷ 60 ∷ []) ∷ (40 ∷ [], 41 ∷ []) ∷ [])) None Mixed)
unfolding chars
pairs_in_their_order = refl

no_pairs : command_in (open_with (array no_items)) ≡ None
no_pairs = refl

equal_texts : command_in (open_with (array (item (pair (codes "(") (codes "(")) no_items))) ≡ None
unfolding chars
equal_texts = refl

three_texts : command_in (open_with (array (item
    (array (item (string (codes "(")) (item (string (codes ")")) (item (string (codes "]")) no_items)))) no_items))) ≡ None
three_texts = refl

null_table : command_in (open_with null) ≡ None
null_table = refl

-- `{"cmd":CMD,"col":3,"line":2}`
abbrev at_position : List ℕ → Data
at_position cmd = object (member (codes "cmd") (string cmd) (member (codes "col") (whole 3) (member (codes "line") (whole 2) no_members)))

match_at_position : command_in (at_position (codes "match")) ≡ Some (Match (record { line = 2; column = 3 }))
match_at_position = refl

level_at_position : command_in (at_position (codes "level")) ≡ Some (Level (record { line = 2; column = 3 }))
level_at_position = refl

-- ---- marks

-- `{"cmd":"open","marks":MARKS,"text":""}`
abbrev open_with_marks : Data → Data
open_with_marks given = object (member (codes "cmd") (string (codes "open"))
    (member (codes "marks") given (member (codes "text") (string []) no_members)))

abbrev marked : Marks → Option Command
marked m = Some (Open [] None (Some m) Mixed)

-- `{KEY:VALUE}`
abbrev only : List ℕ → Data → Data
only key value = object (member key value no_members)

abbrev quotes : List ℕ → Data
quotes text = only (codes "quotes") (array (item (string text) no_items))

no_marks_at_all : command_in (open_with_marks (object no_members)) ≡ marked no_marks
unfolding chars
no_marks_at_all = refl

no_quotes : command_in (open_with_marks (only (codes "quotes") (array no_items))) ≡ marked no_marks
unfolding chars
no_quotes = refl

-- `{"block":["/*","*/"],"line":"//","quotes":["\"","'"]}`
all_marks : command_in (open_with_marks (object (member (codes "block") (pair (codes "/*") (codes "*/"))
    (member (codes "line") (string (codes "//"))
    (member (codes "quotes") (array (item (string (codes "\"")) (item (string (codes "'")) no_items))) no_members)))))
    ≡ marked (marks (Some (codes "//")) (Some (codes "/*", codes "*/")) (codes "\"'"))
unfolding chars
all_marks = refl

empty_line_mark : command_in (open_with_marks (only (codes "line") (string []))) ≡ None
unfolding chars
empty_line_mark = refl

null_line_mark : command_in (open_with_marks (only (codes "line") null)) ≡ None
unfolding chars
null_line_mark = refl

three_block_marks : command_in (open_with_marks (only (codes "block")
    (array (item (string (codes "a")) (item (string (codes "b")) (item (string (codes "c")) no_items)))))) ≡ None
unfolding chars
three_block_marks = refl

quote_of_no_unit : command_in (open_with_marks (quotes [])) ≡ None
unfolding chars
quote_of_no_unit = refl

quote_of_two_units : command_in (open_with_marks (quotes (codes "''"))) ≡ None
unfolding chars
quote_of_two_units = refl

backslash_as_a_quote : command_in (open_with_marks (quotes (codes "\\"))) ≡ None
unfolding chars
backslash_as_a_quote = refl

another_mark : command_in (open_with_marks (only (codes "strings") (array no_items))) ≡ None
unfolding chars
another_mark = refl

null_marks : command_in (open_with_marks null) ≡ None
unfolding chars
null_marks = refl

-- ---- line endings

-- `{"cmd":"open","eol":EOL,"text":""}`
abbrev open_with_eol : Data → Data
open_with_eol eol = object (member (codes "cmd") (string (codes "open"))
    (member (codes "eol") eol (member (codes "text") (string []) no_members)))

open_with_lf : command_in (open_with_eol (string (codes "lf"))) ≡ Some (Open [] None None Lf)
unfolding chars
open_with_lf = refl

open_with_crlf : command_in (open_with_eol (string (codes "crlf"))) ≡ Some (Open [] None None Crlf)
unfolding chars
open_with_crlf = refl

-- without the field any line endings are allowed, and there is no word for this
open_with_mixed : command_in (open_with_eol (string (codes "mixed"))) ≡ None
unfolding chars
open_with_mixed = refl

open_with_null : command_in (open_with_eol null) ≡ None
unfolding chars
open_with_null = refl

-- `{"cmd":"eol","kind":KIND}`
abbrev eol : Data → Data
eol kind = object (member (codes "cmd") (string (codes "eol")) (member (codes "kind") kind no_members))

eol_of_lf : command_in (eol (string (codes "lf"))) ≡ Some (Eol Lf)
eol_of_lf = refl

eol_of_crlf : command_in (eol (string (codes "crlf"))) ≡ Some (Eol Crlf)
eol_of_crlf = refl

eol_of_another_word : command_in (eol (string (codes "cr"))) ≡ None
eol_of_another_word = refl

eol_of_capitals : command_in (eol (string (codes "LF"))) ≡ None
eol_of_capitals = refl

eol_of_mixed : command_in (eol (string (codes "mixed"))) ≡ None
eol_of_mixed = refl

eol_of_null : command_in (eol null) ≡ None
eol_of_null = refl

eol_without_kind : command_in (object (member (codes "cmd") (string (codes "eol")) no_members)) ≡ None
eol_without_kind = refl

eol_with_a_text : command_in (object (member (codes "cmd") (string (codes "eol"))
    (member (codes "kind") (string (codes "lf")) (member (codes "text") (string []) no_members)))) ≡ None
eol_with_a_text = refl

-- ---- snapshots and stops

-- `{"cmd":CMD,KEY:NUMBER}`, with its keys in order
abbrev with_number : List ℕ → List ℕ → ℕ → Data
with_number cmd key n = object (member (codes "cmd") (string cmd) (member key (whole n) no_members))

a_read : command_in (object (member (codes "cmd") (string (codes "read"))
    (member (codes "count") (whole 9) (member (codes "id") (whole 1) no_members))))
    ≡ Some (Read 1 9)
a_read = refl

read_without_count : command_in (with_number (codes "read") (codes "id") 1) ≡ None
read_without_count = refl

a_close : command_in (with_number (codes "close") (codes "id") 1) ≡ Some (Close 1)
a_close = refl

stops_of_a_line : command_in (with_number (codes "stops") (codes "n") 3) ≡ Some (Stops 3)
stops_of_a_line = refl

snapshot_of_a_number : command_in (with_number (codes "snapshot") (codes "id") 1) ≡ None
snapshot_of_a_number = refl

-- ---- find and replace

-- `{"cmd":"find","text":TEXT}`
abbrev find : List ℕ → Data
find text = object (member (codes "cmd") (string (codes "find")) (member (codes "text") (string text) no_members))

-- `{"cmd":CMD,"find":SOUGHT,"text":TEXT}`
abbrev with_both : List ℕ → List ℕ → List ℕ → Data
with_both cmd sought text = object (member (codes "cmd") (string cmd)
    (member (codes "find") (string sought) (member (codes "text") (string text) no_members)))

abbrev replace : List ℕ → List ℕ → Data
replace sought text = with_both (codes "replace") sought text

find_a_text : command_in (find (codes "ab")) ≡ Some (Find (codes "ab"))
unfolding chars
find_a_text = refl

find_an_empty_text : command_in (find []) ≡ None
unfolding chars
find_an_empty_text = refl

find_with_both_fields : command_in (with_both (codes "find") (codes "a") (codes "b")) ≡ None
find_with_both_fields = refl

replace_a_text : command_in (replace (codes "ab") (codes "c")) ≡ Some (Replace (codes "ab") (codes "c"))
unfolding chars
replace_a_text = refl

-- an empty text deletes the occurrences
replace_by_an_empty_text : command_in (replace (codes "ab") []) ≡ Some (Replace (codes "ab") [])
unfolding chars
replace_by_an_empty_text = refl

replace_an_empty_text : command_in (replace [] (codes "c")) ≡ None
unfolding chars
replace_an_empty_text = refl

-- ---- documents

-- `{"cmd":"size","doc":DOC}`
abbrev size_of : Data → Data
size_of doc = object (member (codes "cmd") (string (codes "size")) (member (codes "doc") doc no_members))

size_of_the_first : request_in (only (codes "cmd") (string (codes "size"))) ≡ Some (One 0 Size)
size_of_the_first = refl

size_of_another : request_in (size_of (whole 1)) ≡ Some (One 1 Size)
size_of_another = refl

-- the number of documents is not checked here
size_of_one_far_off : request_in (size_of (whole 64)) ≡ Some (One 64 Size)
size_of_one_far_off = refl

size_of_null : request_in (size_of null) ≡ None
size_of_null = refl

decos_of_another : request_in (object (member (codes "at") (array (two 2 5))
    (member (codes "cmd") (string (codes "decos")) (member (codes "doc") (whole 1) no_members))))
    ≡ Some (One 1 (Decos (record { start = 2; end = 5 }) None))
decos_of_another = refl

-- ---- joint edits

-- `{"at":[2,5],"text":"x"}`, as it is given and as it is read
abbrev given_op : Data
given_op = object (member (codes "at") (array (two 2 5)) (member (codes "text") (string (codes "x")) no_members))

abbrev op : LineOp
op = record { place = At (record { start = 2; end = 5 }); text = codes "x"; force = false }

-- `{"doc":DOC,"ops":[OP,..]}`
abbrev given_edit : ℕ → Items → Data
given_edit doc ops = object (member (codes "doc") (whole doc) (member (codes "ops") (array ops) no_members))

abbrev one_op : ℕ → Data
one_op doc = given_edit doc (item given_op no_items)

abbrev op_in_doc : ℕ → DocEdit
op_in_doc doc = record { doc = doc; ops = op ∷ [] }

-- `{"cmd":"joint","edits":[EDIT,..]}`
abbrev joint : Items → Data
joint edits = object (member (codes "cmd") (string (codes "joint")) (member (codes "edits") (array edits) no_members))

joint_of_two : request_in (joint (item (one_op 3) (item (one_op 0) no_items))) ≡ Some (Joint (op_in_doc 3 ∷ op_in_doc 0 ∷ []))
unfolding chars
joint_of_two = refl

joint_of_three : request_in (joint (item (one_op 1) (item (one_op 1) (item (one_op 64) no_items))))
    ≡ Some (Joint (op_in_doc 1 ∷ op_in_doc 1 ∷ op_in_doc 64 ∷ []))
unfolding chars
joint_of_three = refl

joint_of_one : request_in (joint (item (one_op 3) no_items)) ≡ None
joint_of_one = refl

joint_of_none : request_in (joint no_items) ≡ None
joint_of_none = refl

-- `doc` is a field of each edit, not of the joint edit
joint_with_a_doc : request_in (object (member (codes "cmd") (string (codes "joint")) (member (codes "doc") (whole 0)
    (member (codes "edits") (array (item (one_op 3) (item (one_op 0) no_items))) no_members)))) ≡ None
joint_with_a_doc = refl

joint_without_edits : request_in (only (codes "cmd") (string (codes "joint"))) ≡ None
joint_without_edits = refl

-- an edit must have the field `doc`
edit_without_doc : request_in (joint (item (one_op 3) (item (only (codes "ops") (array (item given_op no_items))) no_items))) ≡ None
unfolding chars
edit_without_doc = refl

edit_without_ops : request_in (joint (item (one_op 3) (item (only (codes "doc") (whole 0)) no_items))) ≡ None
unfolding chars
edit_without_ops = refl

edit_of_no_op : request_in (joint (item (one_op 3) (item (given_edit 0 no_items) no_items))) ≡ None
unfolding chars
edit_of_no_op = refl

edit_with_a_name : request_in (joint (item (one_op 3) (item (object (member (codes "cmd") (string (codes "edit"))
    (member (codes "doc") (whole 0) (member (codes "ops") (array (item given_op no_items)) no_members)))) no_items))) ≡ None
unfolding chars
edit_with_a_name = refl

-- a joint edit is no command on one document
joint_is_no_command : command_in (joint (item (one_op 3) (item (one_op 0) no_items))) ≡ None
joint_is_no_command = refl

-- Worked examples of the definitions.
use Rattle.std.specs.Prelude.{◌≡◌, ℕ, true, false, List, [], ◌∷◌, Some, None, Ok, Err, refl}
use Rattle.std.specs.Str.{is_utf8, chars}
use Rattle.text_lengths.specs.declared.Span.{Span}
use Rattle.text_rules.specs.declared.Op.{Op}
use Rattle.column_encodings.specs.declared.Encoding.TheVariants.{Utf8, Utf32}
use Rattle.document_rules.specs.Refusals.{range}
use Rattle.group_rules.specs.Joint.{FlatBatch, names_badly}
use Rattle.textmodel_c.specs.declared.joint.DocOp.{DocOp}
use Rattle.textmodel_c.specs.declared.search.Found.{Found}
use Rattle.textmodel_c.specs.Rules.{span, column_before, units_before, found_list}
use Rattle.textmodel_c.specs.JointOps.{batches_of, ops_in_units}
use Rattle.textmodel_c.specs.Faults.{docs_in_turn, pass_end, some_overlap}

-- ---- columns of the line `aé€`, which has six bytes in UTF-8

abbrev line : List ℕ
line = 0x61 ∷ 0xE9 ∷ 0x20AC ∷ []

at_its_end : column_before Utf8 line 3 ≡ Some 6
at_its_end = refl

-- in a mixed document the offset between a CR and its LF is valid: one beyond the content
between_cr_and_lf : column_before Utf8 line 4 ≡ Some 7
between_cr_and_lf = refl

beyond_the_line : column_before Utf8 line 5 ≡ None
beyond_the_line = refl

and_back : units_before Utf8 line 7 ≡ Some 4
and_back = refl

inside_a_character : units_before Utf8 line 2 ≡ None
inside_a_character = refl

in_code_points : units_before Utf32 line 2 ≡ Some 2
in_code_points = refl

-- ---- a search

abbrev found : ℕ → ℕ → Found
found start end = record { start = start; end = end }

abbrev spans : List Span
spans = span 0 2 ∷ span 4 6 ∷ []

from_a_place : found_list 1 false spans ≡ found 4 6 ∷ []
from_a_place = refl

back_from_the_end : found_list 6 true spans ≡ found 4 6 ∷ found 0 2 ∷ []
back_from_the_end = refl

back_from_inside : found_list 5 true spans ≡ found 0 2 ∷ []
back_from_inside = refl

-- ---- edits of several documents

-- an edit that replaces a span of the document by `units` units
abbrev edit : ℕ → ℕ → ℕ → ℕ → DocOp
edit doc start end units = record { doc = doc; start = start; end = end; units = units; force = false }

abbrev put : ℕ → ℕ → List ℕ → Op
put start end text = record { span = span start end; text = text; force = false }

abbrev batch : ℕ → List Op → FlatBatch
batch doc ops = record { doc = doc; ops = ops }

-- adjacent edits of one document are one batch
batches : batches_of (edit 3 0 1 1 ∷ edit 3 4 4 2 ∷ edit 5 0 0 1 ∷ []) (0x61 ∷ 0x62 ∷ 0x63 ∷ 0x64 ∷ [])
    ≡ Ok (batch 3 (put 0 1 (0x61 ∷ []) ∷ put 4 4 (0x62 ∷ 0x63 ∷ []) ∷ []) ∷ batch 5 (put 0 0 (0x64 ∷ []) ∷ []) ∷ [])
batches = refl

text_left_over : batches_of (edit 3 0 1 1 ∷ []) (0x61 ∷ 0x62 ∷ []) ≡ Err range
text_left_over = refl

-- `é` has two bytes, and is one unit
in_units : ops_in_units (edit 0 0 0 2 ∷ edit 0 1 1 1 ∷ []) (0xC3 ∷ 0xA9 ∷ 0x61 ∷ []) ≡ Ok (edit 0 0 0 1 ∷ edit 0 1 1 1 ∷ [])
unfolding is_utf8 chars lib.Utf8.encode
in_units = refl

ends_inside_a_character : ops_in_units (edit 0 0 0 1 ∷ edit 0 1 1 2 ∷ []) (0xC3 ∷ 0xA9 ∷ 0x61 ∷ []) ≡ Err range
unfolding is_utf8 chars
ends_inside_a_character = refl

-- ---- what an edit is refused for

in_turn : docs_in_turn (edit 3 0 0 0 ∷ edit 3 1 1 0 ∷ edit 5 0 0 0 ∷ edit 3 2 2 0 ∷ []) ≡ 3 ∷ 5 ∷ 3 ∷ []
in_turn = refl

comes_again : names_badly (3 ∷ 5 ∷ 3 ∷ []) ≡ true
comes_again = refl

text_is_short : pass_end 3 (edit 0 0 0 2 ∷ edit 0 1 1 2 ∷ []) ≡ true
text_is_short = refl

overlapping : some_overlap (edit 0 0 4 0 ∷ edit 0 3 5 0 ∷ []) ≡ true
overlapping = refl

touching : some_overlap (edit 0 0 4 0 ∷ edit 0 4 5 0 ∷ []) ≡ false
touching = refl

on_different_documents : some_overlap (edit 0 0 4 0 ∷ edit 1 3 5 0 ∷ []) ≡ false
on_different_documents = refl

-- Worked examples of the definitions.
use Rattle.std.specs.Prelude.{◌≡◌, ℕ, true, false, List, [], ◌∷◌, codes, replicate, Option, Some, None, refl}
use Rattle.text_lengths.specs.Length.{length_of, no_length}
use Rattle.bracket_rules.specs.Table.{token, standard_table}
use Rattle.bracket_rules.specs.Parse.{bracket}
use Rattle.hiding_rules.specs.declared.LineState.{LineState}
use Rattle.hiding_rules.specs.declared.LineState.TheVariants.{Code, Block}
use Rattle.hiding_rules.specs.Marks.{Marks, marks, no_marks, are_marks}
use Rattle.hiding_rules.specs.Hidden.{Scanner, scanner, Scanned, scanned, hidden_scan}
use Rattle.hiding_rules.specs.Rows.{hidden_brackets}
use Rattle.hiding_rules.specs.States.{line_states}
use Rattle.hiding_rules.specs.Known.{Known, scanned_lines}

-- `//`, `/*`, `*/`, `"` and `'`
abbrev like_c : Marks
like_c = marks (Some (codes "//")) (Some (codes "/*", codes "*/")) (codes "\"'")

abbrev c_scanner : Scanner
c_scanner = scanner standard_table like_c

abbrev scan : LineState → List ℕ → Scanned
scan state line = hidden_scan c_scanner state line

a_line_comment : scan Code (codes "( // )") ≡ scanned (token 0 1 0 true ∷ []) Code
a_line_comment = refl

a_block_comment_begins : scan Code (codes "( /* )") ≡ scanned (token 0 1 0 true ∷ []) Block
a_block_comment_begins = refl

a_block_comment_ends : scan Block (codes ") */ )") ≡ scanned (token 5 1 0 false ∷ []) Code
a_block_comment_ends = refl

-- `"(\"(" (`
a_quote_behind_a_backslash : scan Code (codes "\"(\\\"(\" (") ≡ scanned (token 7 1 0 true ∷ []) Code
a_quote_behind_a_backslash = refl

a_string_ends_with_its_line : scan Code (codes "\"(") ≡ scanned [] Code
a_string_ends_with_its_line = refl

-- `'"'(`
another_quote_ends_no_string : scan Code (codes "'\"'(") ≡ scanned (token 3 1 0 true ∷ []) Code
another_quote_ends_no_string = refl

-- the units of an opening mark are not part of the closing mark
a_slash_is_not_shared : scan Code (codes "/*/ (") ≡ scanned [] Block
a_slash_is_not_shared = refl

no_line_comment_in_a_block : scan Block (codes "// */(") ≡ scanned (token 5 1 0 true ∷ []) Code
no_line_comment_in_a_block = refl

states_of_four_lines :
    line_states c_scanner (codes "/*" ∷ codes "(" ∷ codes "*/" ∷ codes "y" ∷ []) ≡ Code ∷ Block ∷ Block ∷ Code ∷ []
states_of_four_lines = refl

-- before the edit `x` was in place of `/*`, so all lines began and ended in Code
abbrev in_code : Option Known
in_code = Some (record { begins = Code; ends = Code })

lines_scanned_again :
    scanned_lines 1 (None ∷ in_code ∷ in_code ∷ in_code ∷ []) (Code ∷ Block ∷ Block ∷ Code ∷ []) ≡ 1 ∷ 2 ∷ 3 ∷ []
lines_scanned_again = refl

-- `( /* )` and `) */ )`; then without the opening mark
brackets_around_a_comment :
    hidden_brackets c_scanner (codes "( /* )" ∷ codes ") */ )" ∷ [])
    ≡ bracket no_length 1 0 true ∷ bracket (length_of 1 5) 1 0 false ∷ []
brackets_around_a_comment = refl

brackets_of_a_comment_that_is_none :
    hidden_brackets c_scanner (codes "(  )" ∷ codes ") */ )" ∷ [])
    ≡ bracket no_length 1 0 true ∷ bracket (length_of 0 3) 1 0 false ∷ bracket (length_of 1 0) 1 0 false
    ∷ bracket (length_of 1 5) 1 0 false ∷ []
brackets_of_a_comment_that_is_none = refl

-- ---- which marks are valid

abbrev quoted : List ℕ → Marks
quoted quotes = record no_marks { quotes = quotes }

marks_like_c : are_marks like_c ≡ true
marks_like_c = refl

none_is_needed : are_marks no_marks ≡ true
none_is_needed = refl

line_text_is_empty : are_marks (record no_marks { line = Some [] }) ≡ false
line_text_is_empty = refl

block_text_is_too_long : are_marks (record no_marks { block = Some (codes "(", replicate 33 41) }) ≡ false
block_text_is_too_long = refl

equal_quotes : are_marks (quoted (codes "\"'\"")) ≡ false
equal_quotes = refl

a_backslash_is_no_quote : are_marks (quoted (codes "\\")) ≡ false
a_backslash_is_no_quote = refl

a_surrogate_is_no_quote : are_marks (quoted (55296 ∷ [])) ≡ false
a_surrogate_is_no_quote = refl

eight_quotes_and_nine : are_marks (quoted (codes "abcdefgh")) ≡ true
eight_quotes_and_nine = refl

nine_quotes : are_marks (quoted (codes "abcdefghi")) ≡ false
nine_quotes = refl

-- The marks of comments and strings: the texts of the line comment and the block comment in a "language configuration"
-- of Visual Studio Code, and the units that are quotes.
use Rattle.std.specs.Prelude.{ℕ, Bool, true, not, ◌&&◌, ◌==◌, nat_le, List, [], ◌∷◌, length, Option, Some, None, is_some}
use Rattle.std.specs.List.{list_all, list_any}
use Rattle.std.specs.Char.Utf16.{is_high_surrogate, is_low_surrogate}
use Rattle.bracket_rules.specs.Table.{is_bracket_text, is_in_line}
use Rattle.hiding_rules.specs.declared.TheConstants.{MOST_QUOTES, BACKSLASH}

pub record Marks : Type 0 where
  -- hides the rest of its line
  pub line : Option (List ℕ)
  -- hide everything between the two, across lines
  pub block : Option (List ℕ × List ℕ)
  -- each hides everything up to the next quote of the same unit, within a line
  pub quotes : List ℕ

abbrev pub marks : Option (List ℕ) → Option (List ℕ × List ℕ) → List ℕ → Marks
marks line block quotes = record { line = line; block = block; quotes = quotes }

abbrev pub no_marks : Marks
no_marks = marks None None []

-- there are block comments, which may begin in one line and end in another
abbrev pub has_block : Marks → Bool
has_block m = is_some m.block

-- there are no marks, so nothing begins a comment or a string
abbrev pub is_none : Marks → Bool
is_none m = not (is_some m.line) && not (has_block m) && length m.quotes == 0

-- ---- which marks are valid

abbrev pub has_line_text : Option (List ℕ) → Bool
has_line_text None = true
has_line_text (Some text) = is_bracket_text text

abbrev pub has_block_texts : Option (List ℕ × List ℕ) → Bool
has_block_texts None = true
has_block_texts (Some texts) = is_bracket_text texts.0 && is_bracket_text texts.1

abbrev pub is_quote : ℕ → Bool
is_quote u = is_in_line u && not (u == BACKSLASH) && not (is_high_surrogate u) && not (is_low_surrogate u)

abbrev pub differ : List ℕ → Bool
differ [] = true
differ (q ∷ quotes) = not (list_any (λ u. q == u) quotes) && differ quotes

abbrev pub are_quotes : List ℕ → Bool
are_quotes quotes = nat_le (length quotes) MOST_QUOTES && list_all is_quote quotes && differ quotes

abbrev pub are_marks : Marks → Bool
are_marks m = has_line_text m.line && has_block_texts m.block && are_quotes m.quotes

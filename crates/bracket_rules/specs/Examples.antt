-- Worked examples of the parse, as computed theorems. Places are (lines, columns) from (0, 0).
use Rattle.std.specs.Prelude.{◌≡◌, ℕ, zero, suc, Bool, true, false, ◌&&◌, List, [], ◌∷◌, Some, None, replicate, refl}
use Rattle.text_lengths.specs.Length.{length_of, no_length}
use Rattle.bracket_rules.specs.declared.Entry.{Entry}
use Rattle.bracket_rules.specs.declared.Status.{Status}
use Rattle.bracket_rules.specs.declared.Status.TheVariants.{PairedOpening, PairedClosing, Unclosed, Unexpected}
use Rattle.bracket_rules.specs.Table.{Table, standard_table}
use Rattle.bracket_rules.specs.Parse.{spot, bracket_entries, bracket_partner, bracket_level}
use Rattle.bracket_rules.specs.TextRows.{text_brackets}

-- an entry from its fields
abbrev pub entry : ℕ → ℕ → ℕ → ℕ → Status → ℕ → Entry
entry line column len kind status level = record {
  place = length_of line column;
  len = len;
  kind = kind;
  status = status;
  level = level;
}

abbrev entries_in : Table → List (List ℕ) → List Entry
entries_in table lines = bracket_entries (text_brackets table lines)

-- `x` and `)`; then the same text after `(`
unexpected_closing : entries_in standard_table ((120 ∷ []) ∷ (41 ∷ []) ∷ []) ≡ entry 1 0 1 0 Unexpected 0 ∷ []
unexpected_closing = refl

closed_from_the_line_above :
    entries_in standard_table ((40 ∷ 120 ∷ []) ∷ (41 ∷ []) ∷ [])
    ≡ entry 0 0 1 0 PairedOpening 0 ∷ entry 1 0 1 0 PairedClosing 0 ∷ []
closed_from_the_line_above = refl

-- `(x` and `)`
abbrev pair_over_lines : List (List ℕ)
pair_over_lines = (40 ∷ 120 ∷ []) ∷ (41 ∷ []) ∷ []

partner_on_the_line_above : bracket_partner (text_brackets standard_table pair_over_lines) (length_of 1 0) ≡ Some (spot no_length 1)
partner_on_the_line_above = refl

level_on_a_later_line : bracket_level (text_brackets standard_table pair_over_lines) (length_of 1 0) ≡ 1
level_on_a_later_line = refl

level_behind_a_later_line : bracket_level (text_brackets standard_table pair_over_lines) (length_of 1 1) ≡ 0
level_behind_a_later_line = refl

-- `([)]{`
abbrev crossed : List (List ℕ)
crossed = (40 ∷ 91 ∷ 41 ∷ 93 ∷ 123 ∷ []) ∷ []

entries_of_crossed :
    entries_in standard_table crossed
    ≡ entry 0 0 1 0 PairedOpening 0 ∷ entry 0 1 1 1 Unclosed 1 ∷ entry 0 2 1 0 PairedClosing 0
    ∷ entry 0 3 1 1 Unexpected 0 ∷ entry 0 4 1 2 Unclosed 0 ∷ []
entries_of_crossed = refl

partner_of_first : bracket_partner (text_brackets standard_table crossed) no_length ≡ Some (spot (length_of 0 2) 1)
partner_of_first = refl

partner_of_closing : bracket_partner (text_brackets standard_table crossed) (length_of 0 2) ≡ Some (spot no_length 1)
partner_of_closing = refl

unclosed_has_no_partner : bracket_partner (text_brackets standard_table crossed) (length_of 0 1) ≡ None
unclosed_has_no_partner = refl

level_inside : bracket_level (text_brackets standard_table crossed) (length_of 0 2) ≡ 2
level_inside = refl

level_after_closing : bracket_level (text_brackets standard_table crossed) (length_of 0 3) ≡ 0
level_after_closing = refl

level_at_end : bracket_level (text_brackets standard_table crossed) (length_of 0 5) ≡ 1
level_at_end = refl

-- 301 times `(`: the last one gives no entry
abbrev levels_of : List Entry → List ℕ
levels_of [] = []
levels_of (e ∷ es) = e.level ∷ levels_of es

abbrev is_unclosed : Status → Bool
is_unclosed Unclosed = true
is_unclosed PairedOpening = false
is_unclosed PairedClosing = false
is_unclosed Unexpected = false

abbrev all_unclosed : List Entry → Bool
all_unclosed [] = true
all_unclosed (e ∷ es) = is_unclosed e.status && all_unclosed es

abbrev counted : ℕ → ℕ → List ℕ
counted zero from = []
counted (suc n) from = from ∷ counted n (suc from)

levels_up_to_the_cap : levels_of (entries_in standard_table (replicate 301 40 ∷ [])) ≡ counted 300 0
levels_up_to_the_cap = refl

unclosed_up_to_the_cap : all_unclosed (entries_in standard_table (replicate 301 40 ∷ [])) ≡ true
unclosed_up_to_the_cap = refl

-- `begin ab end` with the pair `begin` and `end`
words :
    entries_in ((98 ∷ 101 ∷ 103 ∷ 105 ∷ 110 ∷ [], 101 ∷ 110 ∷ 100 ∷ []) ∷ [])
    ((98 ∷ 101 ∷ 103 ∷ 105 ∷ 110 ∷ 32 ∷ 97 ∷ 98 ∷ 32 ∷ 101 ∷ 110 ∷ 100 ∷ []) ∷ [])
    ≡ entry 0 0 5 0 PairedOpening 0 ∷ entry 0 9 3 0 PairedClosing 0 ∷ []
words = refl

-- `<<<` with the pair `<` and `<<`
overlapping_texts :
    entries_in ((60 ∷ [], 60 ∷ 60 ∷ []) ∷ []) ((60 ∷ 60 ∷ 60 ∷ []) ∷ [])
    ≡ entry 0 0 2 0 Unexpected 0 ∷ entry 0 2 1 0 Unclosed 0 ∷ []
overlapping_texts = refl

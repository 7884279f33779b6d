-- Bracket tables, and the tokens of a line: at each index the longest text of the table that starts there.
use Rattle.std.specs.Prelude.{◌≡◌, ◌<◌, ◌≤◌, ℕ, zero, suc, ◌+◌, ◌-◌, Bool, true, false, not, ◌&&◌, ◌==◌, nat_eq, nat_lt, nat_le, if◌then◌else◌, List, [], ◌∷◌, ◌++◌, length, Option, Some, None, refl}
use Rattle.std.specs.Cmp.Lexicographic.{pointwise}
use Rattle.std.specs.List.{starts_with, list_all, list_any}
use Rattle.std.specs.Option.{option_to_list}
use Rattle.unit_text.specs.declared.TheConstants.{LINE_FEED, CARRIAGE_RETURN}
use Rattle.bracket_rules.specs.declared.Token.{Token}
use Rattle.bracket_rules.specs.declared.TheConstants.{MOST_PAIRS, MOST_BRACKET_UNITS}

-- pairs of an opening and a closing text, each a list of UTF-16 code units; the kind of a pair is its index, from 0
abbrev pub Table : Type 0
Table = List (List ℕ × List ℕ)

-- ---- which lists of pairs are valid tables

abbrev pub texts_of : Table → List (List ℕ)
texts_of [] = []
texts_of (p ∷ ps) = p.0 ∷ p.1 ∷ texts_of ps

abbrev pub same_units : List ℕ → List ℕ → Bool
same_units = pointwise nat_eq

-- neither CR nor LF
abbrev pub is_in_line : ℕ → Bool
is_in_line u = not (u == CARRIAGE_RETURN) && not (u == LINE_FEED)

abbrev pub is_bracket_text : List ℕ → Bool
is_bracket_text x = nat_lt 0 (length x) && nat_le (length x) MOST_BRACKET_UNITS && list_all is_in_line x

abbrev pub are_distinct : List (List ℕ) → Bool
are_distinct [] = true
are_distinct (x ∷ xs) = not (list_any (same_units x) xs) && are_distinct xs

abbrev pub is_table : Table → Bool
is_table pairs = nat_lt 0 (length pairs) && nat_le (length pairs) MOST_PAIRS
    && list_all is_bracket_text (texts_of pairs) && are_distinct (texts_of pairs)

-- `()`, `[]` and `{}`
abbrev pub standard_table : Table
standard_table = (40 ∷ [], 41 ∷ []) ∷ (91 ∷ [], 93 ∷ []) ∷ (123 ∷ [], 125 ∷ []) ∷ []

-- ---- the tokens of a line

abbrev pub token : ℕ → ℕ → ℕ → Bool → Token
token at len kind opening = record { at = at; len = len; kind = kind; opening = opening }

-- the token of `text` at index `at` if the units begin with that text
abbrev pub standing : ℕ → ℕ → Bool → List ℕ → List ℕ → Option Token
standing at kind opening text units =
    if starts_with nat_eq units text then Some (token at (length text) kind opening) else None

abbrev pub longer : Option Token → Option Token → Option Token
longer None other = other
longer (Some t) None = Some t
longer (Some t) (Some u) = if nat_lt t.len u.len then Some u else Some t

-- the token of the longest text of the table with which the units begin; the first pair has kind `kind`
abbrev pub longest : ℕ → ℕ → Table → List ℕ → Option Token
longest at kind [] units = None
longest at kind (p ∷ ps) units =
    longer (standing at kind true p.0 units)
    (longer (standing at kind false p.1 units) (longest at (suc kind) ps units))

-- the number of units of a token after its first one; 0 if there is no token
abbrev pub units_after_first : Option Token → ℕ
units_after_first None = 0
units_after_first (Some t) = t.len - 1

-- the tokens of the units from index `at` on; the first `passed` units belong to an earlier token
abbrev pub tokens_from : Table → ℕ → ℕ → List ℕ → List Token
tokens_from table at passed [] = []
tokens_from table at (suc passed) (u ∷ units) = tokens_from table (suc at) passed units
tokens_from table at zero (u ∷ units) =
    let found = longest at 0 table (u ∷ units) in
    option_to_list found ++ tokens_from table (suc at) (units_after_first found) units

abbrev pub tokens_of : Table → List ℕ → List Token
tokens_of table line = tokens_from table 0 0 line

-- the tokens are in order, do not overlap, and lie in a line of `columns` units from this column on
abbrev pub AreInLine : ℕ → ℕ → List Token → Type 0
AreInLine column columns [] = column ≤ columns
AreInLine column columns (t ∷ ts) =
    (column ≤ t.at) × (0 < t.len) × (t.kind < MOST_PAIRS) × AreInLine (t.at + t.len) columns ts

-- ---- worked examples

-- `a([`
two_openings : tokens_of standard_table (97 ∷ 40 ∷ 91 ∷ []) ≡ token 1 1 0 true ∷ token 2 1 1 true ∷ []
two_openings = refl

-- `<<<` with the pair `<` and `<<`
the_longest_stands_first :
    tokens_of ((60 ∷ [], 60 ∷ 60 ∷ []) ∷ []) (60 ∷ 60 ∷ 60 ∷ [])
    ≡ token 0 2 0 false ∷ token 2 1 0 true ∷ []
the_longest_stands_first = refl

standard_is_table : is_table standard_table ≡ true
standard_is_table = refl

no_pair_is_no_table : is_table [] ≡ false
no_pair_is_no_table = refl

-- `a` and `a`
equal_texts_are_no_table : is_table ((97 ∷ [], 97 ∷ []) ∷ []) ≡ false
equal_texts_are_no_table = refl

empty_text_is_no_table : is_table ((40 ∷ [], []) ∷ []) ≡ false
empty_text_is_no_table = refl

line_break_is_no_table : is_table ((40 ∷ [], 10 ∷ []) ∷ []) ≡ false
line_break_is_no_table = refl

-- The tokens of a line that no comment or string hides, and the state in which the line ends.
use Rattle.std.specs.Prelude.{ℕ, zero, suc, ◌-◌, ◌==◌, nat_eq, if◌then◌else◌, List, [], ◌∷◌, ◌++◌, length, Option, Some, None, option_map, unwrap_or}
use Rattle.std.specs.List.{starts_with, list_any}
use Rattle.std.specs.Option.{option_to_list, option_or}
use Rattle.bracket_rules.specs.declared.Token.{Token}
use Rattle.bracket_rules.specs.Table.{Table, longest, standard_table, units_after_first}
use Rattle.hiding_rules.specs.declared.LineState.{LineState}
use Rattle.hiding_rules.specs.declared.LineState.TheVariants.{Code, Block}
use Rattle.hiding_rules.specs.declared.Within.{Within}
use Rattle.hiding_rules.specs.declared.Within.TheVariants.{State, Comment, String}
use Rattle.hiding_rules.specs.declared.Stretch.{Stretch}
use Rattle.hiding_rules.specs.declared.TheConstants.{BACKSLASH}
use Rattle.hiding_rules.specs.Marks.{Marks, no_marks}

abbrev pub code : Within
code = State Code

abbrev pub block : Within
block = State Block

-- the state at the end of a line; strings and line comments end with their line
abbrev pub ending : Within → LineState
ending (State state) = state
ending Comment = Code
ending (String opened) = Code

-- ---- the hidden units at the front

abbrev pub stretch : ℕ → Within → Stretch
stretch units behind = record { units = units; behind = behind }

abbrev pub one_unit : Within → Stretch
one_unit behind = stretch 1 behind

-- the stretch of the mark, which leads to `behind`, if there is a mark and the units begin with it
abbrev pub marked : Option (List ℕ) → Within → List ℕ → Option Stretch
marked None behind units = None
marked (Some text) behind units = if starts_with nat_eq units text then Some (stretch (length text) behind) else None

abbrev pub quoted : List ℕ → List ℕ → Option Stretch
quoted quotes [] = None
quoted quotes (u ∷ units) = if list_any (λ q. u == q) quotes then Some (one_unit (String u)) else None

abbrev pub block_opening : Marks → Option (List ℕ)
block_opening m = option_map (λ texts. texts.0) m.block

abbrev pub block_closing : Marks → Option (List ℕ)
block_closing m = option_map (λ texts. texts.1) m.block

-- the first mark with which the units begin: line comment, block comment or quote
abbrev pub hidden_in_code : Marks → List ℕ → Option Stretch
hidden_in_code m units =
    option_or (marked m.line Comment units)
    (option_or (marked (block_opening m) block units) (quoted m.quotes units))

abbrev pub hidden_in_block : Marks → List ℕ → Stretch
hidden_in_block m units = unwrap_or (marked (block_closing m) code units) (one_unit block)

-- a backslash hides the next unit as well
abbrev pub hidden_in_string : ℕ → List ℕ → Stretch
hidden_in_string opened [] = one_unit (String opened)
hidden_in_string opened (u ∷ units) =
    if u == BACKSLASH then stretch 2 (String opened)
    else if u == opened then one_unit code
    else one_unit (String opened)

-- the stretch at the front of these units that contains no bracket; None if the units begin with no mark and are not in
-- a comment or a string
abbrev pub hidden : Marks → Within → List ℕ → Option Stretch
hidden m (State Code) units = hidden_in_code m units
hidden m (State Block) units = Some (hidden_in_block m units)
hidden m Comment units = Some (one_unit Comment)
hidden m (String opened) units = Some (hidden_in_string opened units)

-- ---- a line

-- the parameters of a scan: the brackets, and the marks that hide them
pub record Scanner : Type 0 where
  pub table : Table
  pub marks : Marks

abbrev pub scanner : Table → Marks → Scanner
scanner table marks = record { table = table; marks = marks }

-- a scanner without marks, which hides nothing
abbrev pub plain_scanner : Table → Scanner
plain_scanner table = scanner table no_marks

abbrev pub standard_scanner : Scanner
standard_scanner = plain_scanner standard_table

-- the tokens of a line that no comment and no string hides, and the state in which it ends
pub record Scanned : Type 0 where
  pub tokens : List Token
  pub state : LineState

abbrev pub scanned : List Token → LineState → Scanned
scanned tokens state = record { tokens = tokens; state = state }

abbrev pub after : Option Token → Scanned → Scanned
after token s = scanned (option_to_list token ++ s.tokens) s.state

-- the front of some units: a token, or None; the number of units after the first one that it takes up; and the context
-- after it
pub record Front : Type 0 where
  pub token : Option Token
  pub after_first : ℕ
  pub behind : Within

-- a stretch that hides the front takes precedence over a token
abbrev pub front_of : Option Stretch → Option Token → Front
front_of (Some s) found = record { token = None; after_first = s.units - 1; behind = s.behind }
front_of None found = record { token = found; after_first = units_after_first found; behind = code }

abbrev pub front : Scanner → ℕ → Within → List ℕ → Front
front by at within units = front_of (hidden by.marks within units) (longest at 0 by.table units)

-- the scan of the units from index `at` on; the first `passed` units belong to an earlier stretch or token
abbrev pub scanned_from : Scanner → ℕ → ℕ → Within → List ℕ → Scanned
scanned_from by at passed within [] = scanned [] (ending within)
scanned_from by at (suc passed) within (u ∷ units) = scanned_from by (suc at) passed within units
scanned_from by at zero within (u ∷ units) =
    let f = front by at within (u ∷ units) in
    after f.token (scanned_from by (suc at) f.after_first f.behind units)

-- the scan of a line that begins in this state
abbrev pub hidden_scan : Scanner → LineState → List ℕ → Scanned
hidden_scan by state line = scanned_from by 0 0 (State state) line

-- The parts of a line, some of which comments and strings hide.
use Rattle.std.specs.Prelude.{◌≡◌, ℕ, ◌+◌, ◌<◌, ◌≤◌, Bool, false, ◌||◌, List, length, drop}
use Rattle.bracket_rules.specs.declared.TheConstants.{MOST_BRACKET_UNITS}
use Rattle.bracket_rules.specs.Table.{Table}
use Rattle.hiding_rules.specs.declared.LineState.TheVariants.{Code, Block}
use Rattle.hiding_rules.specs.declared.Within.{Within}
use Rattle.hiding_rules.specs.declared.Within.TheVariants.{State, Comment, String}
use Rattle.hiding_rules.specs.Hidden.{Scanner, after, Scanned, scanned_from}
use Rattle.hiding_marks.specs.Reacts.{may_react}
use Rattle.bracket_scan.specs.declared.table.hidden.Part.{Part}
use Rattle.bracket_scan.specs.Firsts.{may_begin}

-- the scan of a line from position `at` on; `within` says what that position lies in
abbrev pub scanned_at : Scanner → ℕ → Within → List ℕ → Scanned
scanned_at by at within line = scanned_from by at 0 within (drop at line)

-- the first part of these units, the first of which is at position `at`: its token, followed by the scan of the rest
pub record IsPart (by : Scanner) (at : ℕ) (within : Within) (units : List ℕ) (p : Part) : Type 0 where
  pub some : 0 < p.len
  pub few : p.len ≤ length units + MOST_BRACKET_UNITS
  pub rest : scanned_from by at 0 within units ≡ after p.token (scanned_from by (at + p.len) 0 p.behind (drop p.len units))

-- a text of the table may begin with this unit; none does in a comment or a string
abbrev pub may_show : Table → Within → ℕ → Bool
may_show table (State Code) u = may_begin table u
may_show table (State Block) u = false
may_show table Comment u = false
may_show table (String opened) u = false

-- a bracket or a mark may begin with this unit, or the context may end; if not, a scan may pass it
abbrev pub may_matter : Scanner → Within → ℕ → Bool
may_matter by within u = may_show by.table within u || may_react by.marks within u

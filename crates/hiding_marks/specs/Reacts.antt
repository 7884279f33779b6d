-- The units at which something hidden may begin or end.
use Rattle.std.specs.Prelude.{◌≡◌, ℕ, Bool, true, false, ◌==◌, ◌||◌, List, [], ◌∷◌, Option, None, Some, refl}
use Rattle.std.specs.List.{list_any}
use Rattle.hiding_rules.specs.declared.LineState.TheVariants.{Code, Block}
use Rattle.hiding_rules.specs.declared.Within.{Within}
use Rattle.hiding_rules.specs.declared.Within.TheVariants.{State, Comment, String}
use Rattle.hiding_rules.specs.declared.Stretch.{Stretch}
use Rattle.hiding_rules.specs.declared.TheConstants.{BACKSLASH}
use Rattle.hiding_rules.specs.Marks.{Marks, no_marks}
use Rattle.hiding_rules.specs.Hidden.{code, block, one_unit, block_opening, block_closing}

-- there is a text, and it may begin with this unit
abbrev pub may_start : Option (List ℕ) → ℕ → Bool
may_start None u = false
may_start (Some []) u = true
may_start (Some (v ∷ text)) u = v == u

-- a mark, a backslash or an end may begin with this unit; if not, the context goes on
abbrev pub may_react : Marks → Within → ℕ → Bool
may_react m (State Code) u = may_start m.line u || (may_start (block_opening m) u || list_any (λ q. u == q) m.quotes)
may_react m (State Block) u = may_start (block_closing m) u
may_react m Comment u = false
may_react m (String opened) u = u == BACKSLASH || u == opened

-- what is hidden at a unit without a meaning: nothing in code, else this unit
abbrev pub passing : Within → Option Stretch
passing (State Code) = None
passing (State Block) = Some (one_unit block)
passing Comment = Some (one_unit Comment)
passing (String opened) = Some (one_unit (String opened))

-- ---- worked examples

-- marks `--`, `/*` with `*/`, and the quote `"`
abbrev some_marks : Marks
some_marks = record { line = Some (45 ∷ 45 ∷ []); block = Some (47 ∷ 42 ∷ [], 42 ∷ 47 ∷ []); quotes = 34 ∷ [] }

a_dash_may_begin_a_comment : may_react some_marks code 45 ≡ true
a_dash_may_begin_a_comment = refl

a_star_begins_nothing_in_code : may_react some_marks code 42 ≡ false
a_star_begins_nothing_in_code = refl

a_star_may_end_a_block : may_react some_marks block 42 ≡ true
a_star_may_end_a_block = refl

a_quote_is_plain_in_a_block : may_react some_marks block 34 ≡ false
a_quote_is_plain_in_a_block = refl

without_marks_nothing_reacts : may_react no_marks code 34 ≡ false
without_marks_nothing_reacts = refl

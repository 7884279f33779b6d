-- The index of a table's first units, in classes. The class of a unit is its remainder by the number of classes.
use Rattle.std.specs.Prelude.{◌≡◌, ℕ, ◌%◌, ◌<◌, Bool, true, false, ◌==◌, ◌||◌, List, [], ◌∷◌, length, slice_index_or, refl}
use Rattle.std.specs.List.{list_any}
use Rattle.bracket_rules.specs.Table.{Table, texts_of, standard_table}
use Rattle.bracket_scan.specs.declared.firsts.TheConstants.{CLASSES}

abbrev pub begins_in_class : ℕ → List ℕ → Bool
begins_in_class class [] = false
begins_in_class class (u ∷ units) = u % CLASSES == class

-- whether a text of the table begins with a unit of the class of this one; if not, no text begins with this unit
abbrev pub may_begin : Table → ℕ → Bool
may_begin table unit = list_any (begins_in_class (unit % CLASSES)) (texts_of table)

-- the class of the text's first unit was added
abbrev pub AddsFirst : List Bool → List Bool → List ℕ → Type 0
AddsFirst old new text = (class : ℕ) (other : Bool) → class < CLASSES
    → slice_index_or new class other ≡ (slice_index_or old class other || begins_in_class class text)

-- there is one element for each class: whether a text of the pairs begins with a unit of the class
pub record Indexes (pairs : Table) (firsts : List Bool) : Type 0 where
  pub all : length firsts ≡ CLASSES
  pub each : (class : ℕ) (other : Bool) → class < CLASSES
      → slice_index_or firsts class other ≡ list_any (begins_in_class class) (texts_of pairs)

-- ---- worked examples

-- `(` and `a`
a_bracket_may_begin : may_begin standard_table 40 ≡ true
a_bracket_may_begin = refl

a_letter_begins_nothing : may_begin standard_table 97 ≡ false
a_letter_begins_nothing = refl

-- The lengths of brackets: no line, and at least one column.
use Rattle.std.specs.Prelude.{◌≡◌, ℕ, ◌<◌, Option, Some, None}
use Rattle.text_lengths.specs.declared.Length.{Length}

pub record IsBracketLength (l : Length) : Type 0 where
  pub in_line : l.lines ≡ 0
  pub wide : 0 < l.columns

abbrev pub columns_of : Option Length → Option ℕ
columns_of None = None
columns_of (Some l) = Some l.columns

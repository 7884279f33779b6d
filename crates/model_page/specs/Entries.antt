-- The brackets of a page.
use Rattle.std.specs.Prelude.{ℕ, List}
use Rattle.bracket_rules.specs.declared.Entry.{Entry}
use Rattle.bracket_rules.specs.Parse.{entries_between, bracket_entries}
use Rattle.hiding_rules.specs.Rows.{hidden_brackets}
use Rattle.document_rules.specs.Brackets.{line_contents}
use Rattle.model_page.specs.State.{PageState}

-- the brackets of the lines `from` to `to`, both counted from 0
abbrev pub entries_in : PageState → ℕ → ℕ → List Entry
entries_in page from to = entries_between from to (bracket_entries (hidden_brackets page.scanner (line_contents page.text.units)))

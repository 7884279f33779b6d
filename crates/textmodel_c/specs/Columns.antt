-- Columns converted from left to right in a line.
use Rattle.std.specs.Prelude.{◌≡◌, ℕ, Some, Result, Ok, Err, ⊤}
use Rattle.column_encodings.specs.Columns.{column_in}
use Rattle.document_rules.specs.declared.ModelError.{ModelError}
use Rattle.document_rules.specs.Outcomes.{RefusedFor}
use Rattle.document_rules.specs.Document.{FlatState, flat_line}
use Rattle.textmodel_c.specs.declared.columns.Columns.{Columns}

-- `before` and `column` are the same offset in the line, in units and in the encoding
abbrev pub IsAtPlace : Columns → Type 0
IsAtPlace c = column_in c.encoding c.content.items c.before ≡ Some c.column

-- the line that was read last, if any, is the document's
pub record Follow (c : Columns) (f : FlatState) : Type 0 where
  pub line : (c.line ≡ 0 → ⊥) → flat_line f c.line ≡ Ok c.content.items
  pub column : IsAtPlace c

-- the line was read, or its number is invalid and nothing changed
abbrev pub HasRead : Result ⊤ ModelError → FlatState → ℕ → Columns → Columns → Type 0
HasRead (Ok x) f line old new = Follow new f × (new.line ≡ line) × (new.encoding ≡ old.encoding)
    × (flat_line f line ≡ Ok new.content.items)
HasRead (Err e) f line old new = (new ≡ old) × RefusedFor e (flat_line f line)

-- the line and the encoding are the same
pub record IsSameLine (old new : Columns) : Type 0 where
  pub line : new.line ≡ old.line
  pub content : new.content ≡ old.content
  pub encoding : new.encoding ≡ old.encoding

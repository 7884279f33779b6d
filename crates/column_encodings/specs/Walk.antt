-- A step of the search for a column. Only the private contracts of the crate cite it.
use Rattle.std.specs.Prelude.{◌≡◌, ℕ, ◌+◌, ◌-◌, List, length, option_map}
use Rattle.column_encodings.specs.declared.Encoding.{Encoding}
use Rattle.column_encodings.specs.Columns.{offset_of}

-- the offset of the column is the length of the passed units plus the offset of column `left` in the units `rest`
abbrev pub LeadsOn : Encoding → List ℕ → ℕ → List ℕ → ℕ → Type 0
LeadsOn encoding units column rest left =
    offset_of encoding units column ≡ option_map (λ offset. length units - length rest + offset) (offset_of encoding rest left)

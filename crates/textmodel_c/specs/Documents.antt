-- The documents of a group by their numbers, and calls that change one of them.
use Rattle.std.specs.Prelude.{◌≡◌, ℕ, true, slice_get, Some}
use Rattle.document_rules.specs.Document.{FlatState}
use Rattle.group_rules.specs.Group.{doc_in, with_doc}
use Rattle.model_core.specs.State.{ModelState}
use Rattle.model_group.specs.State.{GroupState, documents}

-- the document of this number
abbrev pub document_in : GroupState → ℕ → FlatState
document_in g doc = doc_in (documents g) doc

-- the other documents are unchanged
abbrev pub KeepsOthers : ℕ → GroupState → GroupState → Type 0
KeepsOthers doc old new = documents new ≡ with_doc (documents old) doc (document_in new doc)

-- the call changes this document only, as `says` tells
abbrev pub OnDocument : ℕ → (FlatState → FlatState → Type 0) → GroupState → GroupState → Type 0
OnDocument doc says old new = says (document_in old doc) (document_in new doc) × KeepsOthers doc old new

-- its last parse, if any, is of its present text
abbrev pub IsFreshDoc : ℕ → GroupState → Type 0
IsFreshDoc doc g = (m : ModelState) → slice_get g doc ≡ Some m → m.fresh ≡ true

-- Decorations of a document, and the call that removes and adds some.
use Rattle.std.specs.Prelude.{ℕ, List, length, Result, All}
use Rattle.decoration_rules.specs.declared.Deco.{Deco}
use Rattle.decoration_rules.specs.declared.NewDeco.{NewDeco}
use Rattle.decoration_rules.specs.Moves.{IsSpanIn}
use Rattle.document_rules.specs.declared.ModelError.{ModelError}
use Rattle.document_rules.specs.Document.{FlatState, flat_decorate}
use Rattle.document_rules.specs.Outcomes.{ChangesWith}

-- the rule removes and adds these, and the first new id is returned
abbrev pub HasDecorated : ℕ → List ℕ → List NewDeco → Result ℕ ModelError → FlatState → FlatState → Type 0
HasDecorated owner remove add result old new =
    ChangesWith old.decorations.next_id result old new (flat_decorate old owner remove add)

-- the spans of the decorations are within the text
abbrev pub AreInText : FlatState → List Deco → Type 0
AreInText f decos = All (λ (deco : Deco). IsSpanIn deco.span (length f.units)) decos

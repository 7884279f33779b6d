-- Questions about brackets: their answers, the model after them, and their steps.
use Rattle.std.specs.Prelude.{◌≡◌, ℕ, true, List, Result, Ok, Err, OnOk, ⊤}
use Rattle.std.specs.List.{All}
use Rattle.bracket_rules.specs.declared.Entry.{Entry}
use Rattle.document_rules.specs.declared.ModelError.{ModelError}
use Rattle.document_rules.specs.declared.ModelError.TheVariants as error
use Rattle.document_rules.specs.Refusals.{FlatRefusal}
use Rattle.document_rules.specs.Document.{FlatState}
use Rattle.document_rules.specs.Outcomes.{Appends, Gives}
use Rattle.document_rules.specs.Brackets.{flat_brackets, IsSmall}
use Rattle.model_page.specs.Counting.{TakesFewSteps}
use Rattle.model_core.specs.State.{ModelState, Renews}

-- The answer is the rule's. Memory may be short only if the text must be parsed.
pub record Asks {A : Type 0} (rule : FlatState → Result A FlatRefusal) (result : Result A ModelError) (old new : ModelState) : Type 0 where
  pub answer : Gives result (rule old.document)
  pub parse : Renews result old new
  pub sure : old.fresh ≡ true → ¬ (result ≡ Err error.Memory)

-- the brackets of the lines `from` to `to` were appended, and their places are small
pub record AppendsBrackets (from to : ℕ) (result : Result ⊤ ModelError) (out out' : List Entry) (old new : ModelState) : Type 0 where
  pub entries : Appends result out out' (flat_brackets old.document from to)
  pub small : (entries : List Entry) → flat_brackets old.document from to ≡ Ok entries
      → OnOk result (All (λ (e : Entry). IsSmall e.place) entries)
  pub parse : Renews result old new

-- the number of steps is small if lines changed, and 0 if the last parse is of the present text
pub record AreFewSteps (from to : ℕ) (old : ModelState) : Type 0 where
  pub few : TakesFewSteps old.tree old.states old.marks old.document.scanner old.document.units from to
  pub none : old.fresh ≡ true → to ≡ from

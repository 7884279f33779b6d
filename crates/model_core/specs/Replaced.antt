-- A replacement of all occurrences: the last parse and the pieces after it, and its errors.
use Rattle.std.specs.Prelude.{◌≡◌, ◌<◌, ℕ, List, [], length, Bool, Option, Some, None, Result, Ok, Err, ⊤}
use Rattle.text_rules.specs.declared.Op.{Op}
use Rattle.document_rules.specs.declared.ModelError.{ModelError}
use Rattle.document_rules.specs.declared.ModelError.TheVariants.{Unknown, Range, Overlap, Limit, Memory}
use Rattle.document_rules.specs.Outcomes.{RefusedFor}
use Rattle.document_rules.specs.Document.{FlatState}
use Rattle.search_rules.specs.Replacing.{flat_find, replacing, flat_replace_all}
use Rattle.text_batches.specs.Needs.{edit_count}
use Rattle.model_page.specs.LineMarks.{marked_backwards}
use Rattle.model_core.specs.declared.ready.Action.{Action}
use Rattle.model_core.specs.Edited.{ops_as_done}
use Rattle.model_core.specs.Prepared.{Prepared, batch_of, IsEditReady}
use Rattle.model_core.specs.State.{ModelState, AfterMove, Leaves}

-- errors for lack of room: a limit, or memory
abbrev pub IsForRoom : ModelError → Type 0
IsForRoom Limit = ⊤
IsForRoom Memory = ⊤
IsForRoom Unknown = ⊥
IsForRoom Range = ⊥
IsForRoom Overlap = ⊥

-- the ops that replace all occurrences
abbrev pub replacing_ops : FlatState → List ℕ → List ℕ → List Op
replacing_ops f sought text = replacing (flat_find f sought) text

-- they as an action
abbrev pub replacement_of : FlatState → List ℕ → List ℕ → Action
replacement_of f sought text = batch_of f (ops_as_done f (replacing_ops f sought text))

-- as after these ops
abbrev pub HasReplaced : List ℕ → List ℕ → Result Bool ModelError → ModelState → ModelState → Type 0
HasReplaced sought text result old new =
    let f = old.document in let ops = replacing_ops f sought text in let done = ops_as_done f ops in
    AfterMove result (Leaves (edit_count done) (length ops) (marked_backwards f.units done old.marks)) old new

-- the ops are prepared, at least one
pub record IsReplaceReady (sought text : List ℕ) (now : ModelState) (prepared : Prepared) : Type 0 where
  pub some : 0 < length (replacing_ops now.document sought text)
  pub ready : IsEditReady (replacing_ops now.document sought text) now prepared

-- None exactly if there is no occurrence
abbrev pub PreparesReplace : List ℕ → List ℕ → Result (Option Prepared) ModelError → ModelState → Type 0
PreparesReplace sought text (Ok (Some ready)) now = IsReplaceReady sought text now ready
PreparesReplace sought text (Ok None) now = replacing_ops now.document sought text ≡ []
PreparesReplace sought text (Err e) now = RefusedFor e (flat_replace_all now.document sought text) × IsForRoom e

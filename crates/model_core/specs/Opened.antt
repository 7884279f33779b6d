-- A new model with a text.
use Rattle.std.specs.Prelude.{◌≡◌, ◌*◌, ◌<◌, ℕ, false, List, length, replicate, None, Result, Ok, Err, ⊤}
use Rattle.text_rules.specs.Lines.{lines_of}
use Rattle.text_buffer.specs.Room.{part_count}
use Rattle.mark_rules.specs.declared.Mark.TheVariants.{New}
use Rattle.document_rules.specs.declared.ModelError.{ModelError}
use Rattle.document_rules.specs.Refusals.{FlatRefusal}
use Rattle.document_rules.specs.Outcomes.{RefusedFor}
use Rattle.document_rules.specs.Document.{FlatState}
use Rattle.model_core.specs.State.{ModelState, AfterCall}

-- it represents the rule's new document, or the call fails for the rule's reason
abbrev pub Opens : Result ModelState ModelError → Result FlatState FlatRefusal → Type 0
Opens (Ok m) rule = rule ≡ Ok m.document
Opens (Err e) rule = RefusedFor e rule

-- the text was not parsed; it is one piece, or for more parts than one fewer than two a part
pub record IsUnparsed (units : List ℕ) (m : ModelState) : Type 0 where
  pub parsed : m.parsed ≡ None
  pub tree : m.tree ≡ None
  pub marks : m.marks ≡ replicate (length (lines_of units)) New
  pub fresh : m.fresh ≡ false
  pub pieces : m.pieces < 2 * part_count units

-- a new model replaced the old one, or the call failed
abbrev pub HasOpened : List ℕ → Result ⊤ ModelError → ModelState → ModelState → Type 0
HasOpened units result old new = AfterCall result (λ _ m. IsUnparsed units m) old new

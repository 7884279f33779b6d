-- Calls on the models of documents.
use Rattle.std.specs.Prelude.{ℕ, Bool, true, false, List, Option, Some, None, Result, Ok, Err, ⊤}
use Rattle.text_rules.specs.declared.Op.{Op}
use Rattle.undo_rules.specs.declared.Tag.{Tag}
use Rattle.document_rules.specs.declared.ModelError.{ModelError}
use Rattle.document_rules.specs.Outcomes.{ChangesWith}
use Rattle.document_rules.specs.Snapshots.{flat_snapshot}
use Rattle.group_rules.specs.declared.GroupError.{GroupError}
use Rattle.group_rules.specs.Group.{doc_in}
use Rattle.group_rules.specs.Joint.{FlatBatch, batch_for}
use Rattle.group_rules.specs.Going.{front_tag}
use Rattle.group_rules.specs.Together.{gone_with}
use Rattle.model_page.specs.declared.change.Way.{Way}
use Rattle.model_core.specs.Edited.{HasEdited}
use Rattle.model_core.specs.Going.{HasGone}
use Rattle.model_core.specs.State.{ModelState, KeepsParse}
use Rattle.model_group.specs.State.{GroupState, EachModel, KeepAllParses, documents}
use Rattle.model_group.specs.Prepared.{going_along}

-- a snapshot of the present text was opened, with the id that is returned
abbrev pub Shelves : Result ℕ ModelError → ModelState → ModelState → Type 0
Shelves result old new =
    ChangesWith old.document.shelf.next_id result old.document new.document (flat_snapshot old.document) × KeepsParse old new

-- ---- calls on several documents

-- the model of a document with a batch, or without one
abbrev pub HasJoined : Option (List Op) → ModelState → ModelState → Type 0
HasJoined (Some ops) old new = HasEdited ops (Ok tt) old new
HasJoined None old new = KeepsParse old new

abbrev pub AllJoin : List FlatBatch → Result ⊤ GroupError → GroupState → GroupState → Type 0
AllJoin batches (Ok x) old new = EachModel (λ n m k. HasJoined (batch_for n batches) m k) old new
AllJoin batches (Err e) old new = KeepAllParses old new

-- the model of a document that carries out its next step, or keeps its parse
abbrev pub GoesOrStays : Way → Bool → ModelState → ModelState → Type 0
GoesOrStays way true old new = HasGone way (Ok true) old new
GoesOrStays way false old new = KeepsParse old new

-- these documents carry out their next step, if there is one, and the other models keep their parse
abbrev pub TheyGo : Way → (ℕ → Bool) → Result Bool GroupError → GroupState → GroupState → Type 0
TheyGo way docs (Ok true) old new = EachModel (λ n m k. GoesOrStays way (docs n) m k) old new
TheyGo way docs (Ok false) old new = KeepAllParses old new
TheyGo way docs (Err e) old new = KeepAllParses old new

-- the tag of the next step in this document
abbrev pub next_tag : Way → GroupState → ℕ → Option Tag
next_tag way g doc = front_tag ((going_along way).steps (doc_in (documents g) doc))

-- that document, and those that share its next step
abbrev pub going_with : Way → GroupState → ℕ → ℕ → Bool
going_with way g doc = gone_with doc (next_tag way g doc)

abbrev pub AllGo : Way → ℕ → Result Bool GroupError → GroupState → GroupState → Type 0
AllGo way doc result old new = TheyGo way (going_with way old doc) result old new

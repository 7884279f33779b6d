-- Documents without lone surrogates.
use Rattle.std.specs.Prelude.{List, All, ⊤}
use Rattle.unit_text.specs.Units.{IsPaired}
use Rattle.text_rules.specs.declared.Op.{Op}
use Rattle.undo_rules.specs.Stack.{Step}
use Rattle.snapshot_rules.specs.Snapshots.{Snapshot, FlatShelf}
use Rattle.document_rules.specs.Document.{Deed, batch, recast, FlatChange, FlatState}

-- the texts that a deed inserts have no lone surrogate
abbrev pub IsPairedDeed : Deed → Type 0
IsPairedDeed (batch ops) = All (λ (op : Op). IsPaired op.text) ops
IsPairedDeed recast = ⊤

-- neither the inserted texts nor the whole texts before and after the change have a lone surrogate
pub record IsPairedChange (change : FlatChange) : Type 0 where
  pub before : IsPaired change.before.units
  pub deed : IsPairedDeed change.deed
  pub after : IsPaired change.after.units

-- undo or redo steps without lone surrogates
abbrev pub ArePairedSteps : List (Step FlatChange) → Type 0
ArePairedSteps steps = All (λ (step : Step FlatChange). All IsPairedChange step.changes) steps

-- the unread rest of each snapshot has no lone surrogate
abbrev pub IsPairedShelf : FlatShelf → Type 0
IsPairedShelf shelf = All (λ (snapshot : Snapshot). IsPaired snapshot.rest) shelf.snapshots

-- no text of the document has a lone surrogate: neither the current text, nor those of undo, redo and snapshots
pub record IsPairedState (f : FlatState) : Type 0 where
  pub units : IsPaired f.units
  pub undo : ArePairedSteps f.history.undo
  pub redo : ArePairedSteps f.history.redo
  pub shelf : IsPairedShelf f.shelf

-- The snapshots of the flat document: the current text is put on the shelf, and later read from its front.
use Rattle.std.specs.Prelude.{ℕ, ◌≡◌, false, List, Result, Ok, Err, IfSome}
use Rattle.unit_text.specs.Units.{cuts_pair}
use Rattle.snapshot_rules.specs.Refusals.{ShelfRefusal}
use Rattle.snapshot_rules.specs.Refusals as refused
use Rattle.snapshot_rules.specs.Snapshots.{FlatShelf, rest_of, flat_take, flat_peek, flat_skip, flat_close}
use Rattle.document_rules.specs.Refusals.{FlatRefusal, unknown, range, limit}
use Rattle.document_rules.specs.Document.{FlatState}

-- the refusal of a call on snapshots as one of the document
abbrev pub shelf_refusal : ShelfRefusal → FlatRefusal
shelf_refusal refused.unknown = unknown
shelf_refusal refused.range = range
shelf_refusal refused.limit = limit

abbrev pub with_shelf : FlatState → Result FlatShelf ShelfRefusal → Result FlatState FlatRefusal
with_shelf f (Err why) = Err (shelf_refusal why)
with_shelf f (Ok shelf) = Ok (record f { shelf = shelf })

-- takes a snapshot of the current text under the next id
abbrev pub flat_snapshot : FlatState → Result FlatState FlatRefusal
flat_snapshot f = with_shelf f (flat_take f.shelf f.units)

abbrev pub units_read : Result (List ℕ) ShelfRefusal → Result (List ℕ) FlatRefusal
units_read (Err why) = Err (shelf_refusal why)
units_read (Ok units) = Ok units

-- the units that a read of `count` units returns from snapshot `id`; the document is unchanged
abbrev pub flat_peek_of : FlatState → ℕ → ℕ → Result (List ℕ) FlatRefusal
flat_peek_of f id count = units_read (flat_peek f.shelf id count)

-- the document after n of the unread units of snapshot `id` were read
abbrev pub flat_skipped : FlatState → ℕ → ℕ → FlatState
flat_skipped f id n = record f { shelf = flat_skip f.shelf id n }

-- if snapshot `id` is open, the first n of its unread units do not end inside a surrogate pair
abbrev pub EndsBesidePairs : FlatState → ℕ → ℕ → Type 0
EndsBesidePairs f id n = IfSome (rest_of f.shelf id) (λ rest. cuts_pair rest n ≡ false)

-- closes snapshot `id`
abbrev pub flat_close_of : FlatState → ℕ → Result FlatState FlatRefusal
flat_close_of f id = with_shelf f (flat_close f.shelf id)

-- The snapshots that the model keeps, when its buffers grow, and after each call on them.
use Rattle.std.proofs.Common.{◌≡◌, ◌∙◌, ℕ, List, [], Result, Ok, Err, ap, sym, subst}
use Rattle.std.specs.Prelude.{⊤}
use Rattle.std.proofs.lemmas.List.Elements.{All-nil}
use Rattle.chunk_buffers.specs.Chunks.{Extends}
use Rattle.snapshot_rules.specs.declared.ShelfError.{ShelfError}
use Rattle.snapshot_rules.specs.Snapshots.{FlatShelf, IsSound, Takes, Closes, empty_shelf, flat_take, flat_skip, flat_close}
use Rattle.snapshot_rules.proofs.Shelves.{IsSound-empty, IsSound-take, IsSound-skip, IsSound-close}
use Rattle.snapshots.specs.Shown.{Shown, shown, Lies, LieIn}
use Rattle.snapshots.proofs.Growth.{shown-extended, LieIn-extended}
use Rattle.document_rules.specs.Document.{FlatState}
use Rattle.document_rules.specs.Paired.{IsPairedShelf, IsPairedState}
use Rattle.document_rules.specs.Snapshots.{with_shelf, EndsBesidePairs}
use Rattle.document_rules.proofs.PairedStates.{IsPairedState-snapshot, IsPairedState-skip, IsPairedState-close}
use Rattle.model_core.specs.Shelving.{IsShelf}

module _ (buffers : List (List ℕ)) (shelf : Shown) (is : shelf ≡ record { snapshots = []; next_id = 1 }) where
  pub shown-none : shown buffers shelf ≡ empty_shelf
  shown-none = ap (shown buffers) is

  pub IsShelf-none : IsShelf buffers shelf
  IsShelf-none = subst (IsShelf buffers) (sym is) (record { inside = All-nil (Lies buffers); sound = IsSound-empty })

module _ (old new : List (List ℕ)) (shelf : Shown) (grown : Extends old new) (kept : IsShelf old shelf) where
  pub shown-grown : shown new shelf ≡ shown old shelf
  shown-grown = shown-extended old new grown shelf kept.inside

  pub IsShelf-grown : IsShelf new shelf
  IsShelf-grown = record {
    inside = LieIn-extended old new grown shelf kept.inside;
    sound = subst IsSound (sym shown-grown) kept.sound;
  }

module _ (buffers : List (List ℕ)) (old new : Shown) (lie : LieIn buffers new) (kept : IsShelf buffers old) where
  pub IsShelf-taken : (result : Result ℕ ShelfError) (units : List ℕ)
      → Takes result (shown buffers old) (shown buffers new) (flat_take (shown buffers old) units)
      → IsShelf buffers new
  IsShelf-taken (Ok id) units taken =
      record { inside = lie; sound = IsSound-take (shown buffers old) (shown buffers new) units kept.sound taken.0 }
  IsShelf-taken (Err e) units taken = record { inside = lie; sound = subst IsSound (sym taken.0) kept.sound }

  pub IsShelf-skipped : (id n : ℕ) → shown buffers new ≡ flat_skip (shown buffers old) id n → IsShelf buffers new
  IsShelf-skipped id n is = record { inside = lie; sound = subst IsSound (sym is) (IsSound-skip id n (shown buffers old) kept.sound) }

  pub IsShelf-closed : (result : Result ⊤ ShelfError) (id : ℕ) → Closes result (shown buffers old) (shown buffers new) (flat_close (shown buffers old) id)
      → IsShelf buffers new
  IsShelf-closed (Ok x) id closed =
      record { inside = lie; sound = IsSound-close (shown buffers old) (shown buffers new) id kept.sound closed }
  IsShelf-closed (Err e) id closed = record { inside = lie; sound = subst IsSound (sym closed.0) kept.sound }

-- ---- no lone surrogate comes onto it

module _ (f : FlatState) (new : FlatShelf) (h : IsPairedState f) where
  same_paired : new ≡ f.shelf → IsPairedState (record f { shelf = new })
  same_paired is = record { units = h.units; undo = h.undo; redo = h.redo; shelf = subst IsPairedShelf (sym is) h.shelf }

  pub taken_paired : (result : Result ℕ ShelfError) (units : List ℕ) → units ≡ f.units → Takes result f.shelf new (flat_take f.shelf units)
      → IsPairedState (record f { shelf = new })
  taken_paired (Ok id) units is taken =
      let rule : flat_take f.shelf f.units ≡ Ok new = ap (flat_take f.shelf) (sym is) ∙ taken.0 in
      IsPairedState-snapshot f.shelf.next_id (Ok id) f (record f { shelf = new }) (ap (with_shelf f) rule, taken.1) h
  taken_paired (Err e) units is taken = same_paired taken.0

  pub skipped_paired : (id n : ℕ) → IsSound f.shelf → new ≡ flat_skip f.shelf id n → EndsBesidePairs f id n → IsPairedState (record f { shelf = new })
  skipped_paired id n sound is whole =
      IsPairedState-skip f (record f { shelf = new }) id n sound (ap (λ s. record f { shelf = s }) is) whole h

  pub closed_paired : (result : Result ⊤ ShelfError) (id : ℕ) → Closes result f.shelf new (flat_close f.shelf id) → IsPairedState (record f { shelf = new })
  closed_paired (Ok x) id closed = IsPairedState-close (Ok tt) f (record f { shelf = new }) id (ap (with_shelf f) closed) h
  closed_paired (Err e) id closed = same_paired closed.0

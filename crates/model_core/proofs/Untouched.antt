-- Where the page is as it was beside its room, or its text lies in other buffers: the history and the snapshots stay with it, and the
-- document shows the same.
use Rattle.std.proofs.Common.{◌≡◌, ℕ, [], Option, refl, ap, sym, subst}
use Rattle.std.specs.List.{All}
use Rattle.std.proofs.lemmas.List.Elements.{All-nil}
use Rattle.chunk_buffers.specs.Chunks.{Extends}
use Rattle.document_rules.specs.Document.{FlatState}
use Rattle.snapshot_rules.specs.Snapshots.{IsSound}
use Rattle.snapshots.specs.Shown.{Shown, shown, Lies}
use Rattle.undo_rules.specs.Stack.{Stack}
use Rattle.model_page.specs.declared.change.Change.{Change}
use Rattle.model_page.specs.State.{PageState, IsUntouched, flat_text}
use Rattle.model_page.specs.Compact.{IsCompacted}
use Rattle.model_core.specs.declared.latest.Latest.{Latest}
use Rattle.model_core.specs.History.{IsHistory}
use Rattle.model_core.specs.Shelving.{IsShelf}
use Rattle.model_core.proofs.Shelving.{shown-grown, IsShelf-grown}
use Rattle.model_core.proofs.Stepping.{document_of}

-- what a document shows of its page is as it was, but for the spans that spell the text
pub record ShowsSame (old new : PageState) : Type 0 where
  pub units : new.text.units ≡ old.text.units
  pub kind : new.text.kind ≡ old.text.kind
  pub buffers : Extends old.text.buffers new.text.buffers
  pub decorations : new.decorations ≡ old.decorations
  pub scanner : new.scanner ≡ old.scanner

module _ (old new : PageState) (kept : ShowsSame old new) where
  pub history_same : (old_stack stack : Stack Change) → stack ≡ old_stack → IsHistory (flat_text old.text) old_stack → IsHistory (flat_text new.text) stack
  history_same old_stack stack same history = rw (kept.units, kept.kind, same) history

  pub shelf_same : (shelf : Shown) → IsShelf old.text.buffers shelf → IsShelf new.text.buffers shelf
  shelf_same shelf sound = IsShelf-grown old.text.buffers new.text.buffers shelf kept.buffers sound

  pub document_same : (old_stack stack : Stack Change) → stack ≡ old_stack → (shelf : Shown) → IsShelf old.text.buffers shelf → (version alternative : ℕ) (latest : Option Latest) (now : FlatState)
      → document_of (flat_text old.text) version alternative old.decorations old.scanner (shown old.text.buffers shelf) latest old_stack ≡ now
      → document_of (flat_text new.text) version alternative new.decorations new.scanner (shown new.text.buffers shelf) latest stack ≡ now
  document_same old_stack stack same shelf sound version alternative latest now was =
      let shelves = shown-grown old.text.buffers new.text.buffers shelf kept.buffers sound in
      rw (kept.units, kept.kind, same, shelves, kept.decorations, kept.scanner) was

module _ (old new : PageState) (kept : IsUntouched old new) where
  shown_same : ShowsSame old new
  shown_same = record {
    units = kept.units;
    kind = kept.kind;
    buffers = kept.buffers;
    decorations = kept.decorations;
    scanner = kept.parse.scanner;
  }

  pub history_untouched : (old_stack stack : Stack Change) → stack ≡ old_stack → IsHistory (flat_text old.text) old_stack → IsHistory (flat_text new.text) stack
  history_untouched = history_same old new shown_same

  pub shelf_untouched : (shelf : Shown) → IsShelf old.text.buffers shelf → IsShelf new.text.buffers shelf
  shelf_untouched = shelf_same old new shown_same

  pub document_untouched : (old_stack stack : Stack Change) → stack ≡ old_stack → (shelf : Shown) → IsShelf old.text.buffers shelf → (version alternative : ℕ) (latest : Option Latest) (now : FlatState)
      → document_of (flat_text old.text) version alternative old.decorations old.scanner (shown old.text.buffers shelf) latest old_stack ≡ now
      → document_of (flat_text new.text) version alternative new.decorations new.scanner (shown new.text.buffers shelf) latest stack ≡ now
  document_untouched = document_same old new shown_same

-- the page is as it was, but its text may lie in other buffers, and no snapshot is open
module _ (old new : PageState) (kept : IsCompacted old new) (shelf : Shown) (none : shelf.snapshots ≡ []) where
  units_anew : new.text.units ≡ old.text.units
  units_anew = ap (λ text. text.units) kept.text

  kind_anew : new.text.kind ≡ old.text.kind
  kind_anew = ap (λ text. text.kind) kept.text

  shown_anew : shown new.text.buffers shelf ≡ shown old.text.buffers shelf
  shown_anew = rw none refl

  pub history_anew : (stack : Stack Change) → IsHistory (flat_text old.text) stack → IsHistory (flat_text new.text) stack
  history_anew stack history = rw (units_anew, kind_anew) history

  pub shelf_anew : IsShelf old.text.buffers shelf → IsShelf new.text.buffers shelf
  shelf_anew sound = record {
    inside = subst (All (Lies new.text.buffers)) (sym none) (All-nil (Lies new.text.buffers));
    sound = subst IsSound (sym shown_anew) sound.sound;
  }

  pub document_anew : (stack : Stack Change) (version alternative : ℕ) (latest : Option Latest) (now : FlatState)
      → document_of (flat_text old.text) version alternative old.decorations old.scanner (shown old.text.buffers shelf) latest stack ≡ now
      → document_of (flat_text new.text) version alternative new.decorations new.scanner (shown new.text.buffers shelf) latest stack ≡ now
  document_anew stack version alternative latest now was = rw (units_anew, kind_anew, shown_anew, kept.decorations, kept.parse.scanner) was

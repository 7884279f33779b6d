-- A text to be read.
use Rattle.std.specs.Prelude.{ℕ, ◌≡◌, ◌<◌, true, List, length, drop, map}
use Rattle.piece_tree.specs.Pieces.{Entry, pieces_of, StandsAt}
use Rattle.text_rules.specs.Lines.{lines_of}
use Rattle.unit_text.specs.declared.kind.Kind.{Kind}
use Rattle.unit_text.specs.Kinds.{is_place_in}
use Rattle.text_buffer.specs.declared.queries.Place.{Place}
use Rattle.text_buffer.specs.declared.rest.Rest.{Rest}
use Rattle.text_buffer.specs.declared.view.View.{View}
use Rattle.text_buffer.specs.Reading.{runs_of, pieces_left, lines_left, CanRead}
use Rattle.text_buffer.specs.Text.{units_from, IsTextWith}

-- the pieces and the buffers are a text, and the remembered pieces are among its pieces
abbrev pub IsView : View → Type 0
IsView view = IsTextWith view.pieces.now view.chunks.now view.remembered.now

abbrev pub units_in : View → List ℕ
units_in view = units_from view.pieces.now view.chunks.now

-- the pieces in order, each with its name
abbrev pub entries_in : View → List Entry
entries_in view = view.pieces.now.entries

abbrev pub buffers_in : View → List (List ℕ)
buffers_in view = view.chunks.now.buffers

-- the units of each piece
abbrev pub runs_in : View → List (List ℕ)
runs_in view = runs_of (buffers_in view) (map (λ p. p.span) (pieces_of (entries_in view)))

-- the offset is valid in a text of the kind, and the place has the piece of its unit, or none at the end
pub record IsPlaceAt (kind : Kind) (view : View) (offset : ℕ) (at : Place) : Type 0 where
  pub place : is_place_in kind (units_in view) offset ≡ true
  pub found : StandsAt (entries_in view) at.found offset
  pub there : at.offset ≡ offset

-- the rest begins after the first `before` lines
pub record GoesOnAfter (view : View) (before : ℕ) (rest : Rest) : Type 0 where
  pub can : CanRead (buffers_in view) (pieces_left (buffers_in view) rest)
  pub lines : before < length (lines_of (units_in view)) → lines_left (buffers_in view) rest ≡ drop before (lines_of (units_in view))

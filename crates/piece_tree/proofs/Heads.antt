-- The first of the pieces that a splice puts.
use Rattle.std.proofs.Common.{◌≡◌, ℕ, ◌+◌, ◌≤◌, Bool, true, false, Option, Some, None, List, [], ◌∷◌, ◌++◌, refl, ap, subst, ◌∙◌, arith}
use Rattle.std.specs.Option.{IfSome, option_map}
use Rattle.chunk_buffers.specs.declared.span.ChunkSpan.{ChunkSpan}
use Rattle.piece_tree.specs.declared.piece.Piece.{Piece}
use Rattle.piece_tree.specs.declared.piece.PieceId.{PieceId}
use Rattle.piece_tree.specs.declared.piece.PieceSum.{PieceSum}
use Rattle.piece_tree.specs.Pieces.{Entry, IsFound, pieces_of, sum_of, unit_count, piece_of, listed, span_of, goes_on, prolonged, followed_by}
use Rattle.piece_tree.specs.Runs.{entry_at, found_in}
use Rattle.piece_tree.specs.Splicing.{HeadsRest}
use Rattle.piece_tree.proofs.Sums.{units-cons}
use Rattle.piece_tree.proofs.Prolonged.{followed_on, followed_apart}

-- the head stands right after the entries before
heads_place : (us : List Entry) (ps : List Piece) (id : PieceId) (x : Piece) (new : List Entry) → HeadsRest us ps (Some (id, x)) new
    → (ws : List Entry) × (new ≡ us ++ entry_at id x ∷ ws)
heads_place us [] id x new none = absurd cc
heads_place us (p ∷ ps) id x new (name, (ws, told, place)) =
    let same : ◌≡◌ {A = PieceId × Piece} (name, p) (id, x) = cc in (ws, place ∙ ap (λ (at : PieceId × Piece). us ++ entry_at at.0 at.1 ∷ ws) same)

-- the head is the first of the pieces
heads_first : (us : List Entry) (p : Piece) (ps : List Piece) (id : PieceId) (x : Piece) (new : List Entry) → HeadsRest us (p ∷ ps) (Some (id, x)) new → x ≡ p
heads_first us p ps id x new (name, (ws, told, place)) = let same : ◌≡◌ {A = PieceId × Piece} (id, x) (name, p) = cc in ap (λ (e : PieceId × Piece). e.1) same

-- so a look-up returns it
pub heads_found : (us : List Entry) (ps : List Piece) (first : Option (PieceId × Piece)) (new : List Entry) (before : PieceSum) → before ≡ sum_of (pieces_of us)
    → HeadsRest us ps first new → IfSome (option_map (λ at. found_in at.0 at.1 before) first) (IsFound new)
heads_found us ps None new before sum heads = tt
heads_found us ps (Some at) new before sum heads =
    let (ws, place) = heads_place us ps at.0 at.1 new heads in record { earlier = us; later = ws; place = place; before = sum }

-- there is a head if there are pieces
heads_some : (us : List Entry) (p : Piece) (ps : List Piece) (new : List Entry) → HeadsRest us (p ∷ ps) None new → ⊥
heads_some us p ps new (name, (ws, told, place)) = absurd cc

module _ (b : List (List ℕ)) where
  followed_head : (own : Piece) (span : ChunkSpan) (goes : Bool) → goes_on own.span span ≡ goes
      → (p : Piece) × ((ps : List Piece) × (followed_by b (own ∷ []) (Some span) ≡ p ∷ ps) × (own.span.units ≤ p.span.units))
  followed_head own span true goes = (piece_of b (prolonged own.span span), ([], followed_on b own span goes, omega arith))
  followed_head own span false goes = (own, (piece_of b span ∷ [], followed_apart b own span goes, omega arith))

  -- a piece followed by a span begins with a piece that has at least its units
  followed_by_head : (own : Piece) (span : Option ChunkSpan)
      → (p : Piece) × ((ps : List Piece) × (followed_by b (own ∷ []) span ≡ p ∷ ps) × (own.span.units ≤ p.span.units))
  followed_by_head own None = (own, ([], refl, omega arith))
  followed_by_head own (Some span) = followed_head own span (goes_on own.span span) refl

module _ (b : List (List ℕ)) (us : List Entry) (ps : List Piece) (new : List Entry) where
  -- the first piece that a splice puts has at least the units of the rest on the left
  heads_units : (left : Option Piece) (span : Option ChunkSpan) (id : PieceId) (x : Piece) → HeadsRest us (followed_by b (listed left) span ++ ps) (Some (id, x)) new
      → unit_count (listed left) ≤ x.span.units
  heads_units None span id x heads = omega arith
  heads_units (Some own) span id x heads =
      let (p, (qs, e, within)) = followed_by_head b own span in
      let first = heads_first us p (qs ++ ps) id x new (subst (λ rs. HeadsRest us (rs ++ ps) (Some (id, x)) new) e heads) in
      omega (arith, within, units-cons own [], ap (λ (q : Piece). q.span.units) first)

  -- so the first piece reaches the offset
  pub heads_near : (left : Option Piece) (span : Option ChunkSpan) (first : Option (PieceId × Piece)) (before : PieceSum) (offset : ℕ) → before ≡ sum_of (pieces_of us)
      → offset ≡ unit_count (pieces_of us) + unit_count (listed left) → HeadsRest us (followed_by b (listed left) span ++ ps) first new
      → IfSome (option_map (λ at. found_in at.0 at.1 before) first) (λ found. (found.before.units ≤ offset) × (offset ≤ found.before.units + found.span.units))
  heads_near left span None before offset sum begins heads = tt
  heads_near left span (Some at) before offset sum begins heads =
      let units = ap (λ (s : PieceSum). s.units) sum in
      let reach = heads_units left span at.0 at.1 heads in (omega (arith, units, begins), omega (arith, units, begins, reach))

  -- there is a first piece if a new piece is put
  pub heads_none : (left piece : Option Piece) (first : Option (PieceId × Piece)) (before : PieceSum) → option_map (λ at. found_in at.0 at.1 before) first ≡ None
      → HeadsRest us (followed_by b (listed left) (span_of piece) ++ ps) first new → piece ≡ None
  heads_none left piece (Some at) before none heads = absurd cc
  heads_none left None None before none heads = refl
  heads_none None (Some q) None before none heads = absurd (heads_some us (piece_of b q.span) ps new heads)
  heads_none (Some own) (Some q) None before none heads =
      let (p, (qs, e, within)) = followed_by_head b own (Some q.span) in
      absurd (heads_some us p (qs ++ ps) new (subst (λ rs. HeadsRest us (rs ++ ps) None new) e heads))

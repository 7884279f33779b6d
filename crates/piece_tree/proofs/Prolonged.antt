-- Pieces with a span appended.
use Rattle.std.proofs.Common.{◌≡◌, ℕ, ◌+◌, ◌-◌, ◌≤◌, ◌==◌, Bool, true, false, Option, Some, None, List, [], ◌∷◌, ◌++◌, length, take, drop, refl, ap, sym, subst, ◌∙◌, arith}
use Rattle.std.specs.List.{All}
use Rattle.std.specs.Option.{ForSome}
use Rattle.std.proofs.Math.Seq.{take-add}
use Rattle.std.proofs.lemmas.Bool.{and_parts, eqb-true}
use Rattle.std.proofs.lemmas.List.{drop-drop}
use Rattle.std.proofs.lemmas.List.Elements.{All-head, All-tail, All-cons, All-nil, All-append}
use Rattle.std.proofs.lemmas.List.Sums.{sum_by-append}
use Rattle.chunk_buffers.specs.declared.span.ChunkSpan.{ChunkSpan}
use Rattle.chunk_buffers.specs.Chunks.{units_at, buffer_at, LiesIn}
use Rattle.piece_tree.specs.declared.piece.Piece.{Piece}
use Rattle.piece_tree.specs.Pieces.{unit_count, piece_of, piece_list, listed, span_of, IsPieceOf, goes_on, goes_on_from, prolonged, followed, followed_by, front, back, spliced}
use Rattle.piece_tree.proofs.Sums.{units-cons}
use Rattle.piece_tree.proofs.Cuts.{units-front, units-back, pieces-front, pieces-back}

module _ (first second : ChunkSpan) (goes : goes_on first second ≡ true) where
  parts : ((first.buffer == second.buffer) ≡ true) × ((first.start + first.units == second.start) ≡ true)
  parts = and_parts (first.buffer == second.buffer) (first.start + first.units == second.start) goes

  pub same_buffer : first.buffer ≡ second.buffer
  same_buffer = eqb-true first.buffer second.buffer parts.0

  pub meets : first.start + first.units ≡ second.start
  meets = eqb-true (first.start + first.units) second.start parts.1

  -- the units of both, one after another
  pub units_at-prolonged : (b : List (List ℕ)) → units_at b (prolonged first second) ≡ units_at b first ++ units_at b second
  units_at-prolonged b =
      let buffer = buffer_at b first.buffer in
      take-add first.units second.units (drop first.start buffer)
      ∙ ap (λ s. units_at b first ++ take second.units s) (drop-drop first.units first.start buffer)
      ∙ ap (λ (n : ℕ). units_at b first ++ take second.units (drop n buffer)) meets
      ∙ ap (λ (k : ℕ). units_at b first ++ take second.units (drop second.start (buffer_at b k))) same_buffer

  pub inside-prolonged : (b : List (List ℕ)) → LiesIn b second → LiesIn b (prolonged first second)
  inside-prolonged b lies =
      let size = ap (λ (k : ℕ). length (buffer_at b k)) same_buffer in
      record { buffer = omega (arith, same_buffer, lies.buffer); few = omega (arith, same_buffer, lies.few); end = omega (arith, size, meets, lies.end); fits = omega (arith, meets, lies.fits) }

-- only the last piece matters
pub goes_on_from-last : (ps : List Piece) (p : Piece) (span : ChunkSpan) → goes_on_from (ps ++ p ∷ []) span ≡ goes_on p.span span
goes_on_from-last [] p span = refl
goes_on_from-last (q ∷ []) p span = refl
goes_on_from-last (q ∷ r ∷ ps) p span = goes_on_from-last (r ∷ ps) p span

-- a counted piece is the piece of its span
module _ (b : List (List ℕ)) where
  pub listed_is : (piece : Option Piece) → ForSome piece (IsPieceOf b) → piece_list b (span_of piece) ≡ listed piece
  listed_is None counted = refl
  listed_is (Some p) counted = λ i. record { span = p.span; breaks = sym (counted p refl).breaks i } ∷ []

  pub inside_listed : (piece : Option Piece) → ForSome piece (IsPieceOf b) → ForSome (span_of piece) (LiesIn b)
  inside_listed None counted span e = absurd cc
  inside_listed (Some p) counted span e = let same : p.span ≡ span = cc in subst (LiesIn b) same (counted p refl).inside

module _ (b : List (List ℕ)) where
  pub followed_on : (p : Piece) (span : ChunkSpan) → goes_on p.span span ≡ true → followed b (p ∷ []) span ≡ piece_of b (prolonged p.span span) ∷ []
  followed_on p span goes = rw goes

  pub followed_apart : (p : Piece) (span : ChunkSpan) → goes_on p.span span ≡ false → followed b (p ∷ []) span ≡ p ∷ piece_of b span ∷ []
  followed_apart p span goes = rw goes

  -- only the last piece matters
  pub followed-last : (ps : List Piece) (p : Piece) (span : ChunkSpan) → followed b (ps ++ p ∷ []) span ≡ ps ++ followed b (p ∷ []) span
  followed-last [] p span = refl
  followed-last (q ∷ []) p span = refl
  followed-last (q ∷ r ∷ ps) p span = ap (λ qs. q ∷ qs) (followed-last (r ∷ ps) p span)

  -- a span that does not go on from the last piece is a piece of its own
  pub followed_new : (ps : List Piece) (span : ChunkSpan) → goes_on_from ps span ≡ false → followed b ps span ≡ ps ++ piece_of b span ∷ []
  followed_new [] span apart = refl
  followed_new (p ∷ []) span apart = followed_apart p span apart
  followed_new (p ∷ q ∷ ps) span apart = ap (λ qs. p ∷ qs) (followed_new (q ∷ ps) span apart)

  ends_one : (p : Piece) (span : ChunkSpan) (goes : Bool) → goes_on p.span span ≡ goes
      → (us : List Piece) × ((g : Piece) × (followed b (p ∷ []) span ≡ us ++ g ∷ []) × (g.span.buffer ≡ span.buffer) × (g.span.start + g.span.units ≡ span.start + span.units))
  ends_one p span true goes = ([], (piece_of b (prolonged p.span span), followed_on p span goes, same_buffer p.span span goes, omega (arith, meets p.span span goes)))
  ends_one p span false goes = (p ∷ [], (piece_of b span, followed_apart p span goes, refl, refl))

  -- the last of the pieces then ends where the span does
  pub followed_ends : (ps : List Piece) (span : ChunkSpan)
      → (us : List Piece) × ((g : Piece) × (followed b ps span ≡ us ++ g ∷ []) × (g.span.buffer ≡ span.buffer) × (g.span.start + g.span.units ≡ span.start + span.units))
  followed_ends [] span = ([], (piece_of b span, refl, refl, refl))
  followed_ends (p ∷ []) span = ends_one p span (goes_on p.span span) refl
  followed_ends (p ∷ q ∷ ps) span = let (us, (g, is, same, ends)) = followed_ends (q ∷ ps) span in (p ∷ us, (g, ap (λ l. p ∷ l) is, same, ends))

  pieces_one : (p : Piece) (span : ChunkSpan) (goes : Bool) → goes_on p.span span ≡ goes → LiesIn b span → IsPieceOf b p → All (IsPieceOf b) (followed b (p ∷ []) span)
  pieces_one p span true goes lies is =
      subst (All (IsPieceOf b)) (sym (followed_on p span goes))
      (All-cons (IsPieceOf b) (piece_of b (prolonged p.span span)) [] (record { inside = inside-prolonged p.span span goes b lies; breaks = refl }) (All-nil (IsPieceOf b)))
  pieces_one p span false goes lies is =
      subst (All (IsPieceOf b)) (sym (followed_apart p span goes))
      (All-cons (IsPieceOf b) p (piece_of b span ∷ []) is (All-cons (IsPieceOf b) (piece_of b span) [] (record { inside = lies; breaks = refl }) (All-nil (IsPieceOf b))))

  pieces-followed : (ps : List Piece) (span : ChunkSpan) → LiesIn b span → All (IsPieceOf b) ps → All (IsPieceOf b) (followed b ps span)
  pieces-followed [] span lies all = All-cons (IsPieceOf b) (piece_of b span) [] (record { inside = lies; breaks = refl }) (All-nil (IsPieceOf b))
  pieces-followed (p ∷ []) span lies all = pieces_one p span (goes_on p.span span) refl lies (All-head (IsPieceOf b) p [] all)
  pieces-followed (p ∷ q ∷ ps) span lies all =
      All-cons (IsPieceOf b) p (followed b (q ∷ ps) span) (All-head (IsPieceOf b) p (q ∷ ps) all) (pieces-followed (q ∷ ps) span lies (All-tail (IsPieceOf b) p (q ∷ ps) all))

  pub pieces-followed_by : (ps : List Piece) (span : Option ChunkSpan) → ForSome span (LiesIn b) → All (IsPieceOf b) ps → All (IsPieceOf b) (followed_by b ps span)
  pieces-followed_by ps None lies all = all
  pieces-followed_by ps (Some span) lies all = pieces-followed ps span (lies span refl) all

  units_one : (p : Piece) (span : ChunkSpan) (goes : Bool) → goes_on p.span span ≡ goes → unit_count (followed b (p ∷ []) span) ≡ p.span.units + span.units
  units_one p span true goes = ap unit_count (followed_on p span goes) ∙ units-cons (piece_of b (prolonged p.span span)) [] ∙ (let e : p.span.units + span.units + 0 ≡ p.span.units + span.units = omega arith in e)
  units_one p span false goes = omega (arith, ap unit_count (followed_apart p span goes), units-cons p (piece_of b span ∷ []), units-cons (piece_of b span) [])

  pub units-followed : (ps : List Piece) (span : ChunkSpan) → unit_count (followed b ps span) ≡ unit_count ps + span.units
  units-followed [] span = omega (arith, units-cons (piece_of b span) [])
  units-followed (p ∷ []) span = omega (arith, units_one p span (goes_on p.span span) refl, units-cons p [])
  units-followed (p ∷ q ∷ ps) span = omega (arith, units-cons p (followed b (q ∷ ps) span), units-cons p (q ∷ ps), units-followed (q ∷ ps) span)

  pub units-followed_by : (ps : List Piece) (span : Option ChunkSpan) → unit_count (followed_by b ps span) ≡ unit_count ps + unit_count (piece_list b span)
  units-followed_by ps None = omega arith
  units-followed_by ps (Some span) = omega (arith, units-followed ps span, units-cons (piece_of b span) [])

  length_one : (p : Piece) (span : ChunkSpan) (goes : Bool) → goes_on p.span span ≡ goes → length (followed b (p ∷ []) span) ≤ 2
  length_one p span true goes = omega (arith, ap length (followed_on p span goes))
  length_one p span false goes = omega (arith, ap length (followed_apart p span goes))

  length-followed : (ps : List Piece) (span : ChunkSpan) → length (followed b ps span) ≤ length ps + 1
  length-followed [] span = omega arith
  length-followed (p ∷ []) span = omega (arith, length_one p span (goes_on p.span span) refl)
  length-followed (p ∷ q ∷ ps) span = omega (arith, length-followed (q ∷ ps) span)

  -- at most one piece more
  pub length-followed_by : (ps : List Piece) (span : Option ChunkSpan) → length (followed_by b ps span) ≤ length ps + 1
  length-followed_by ps None = omega arith
  length-followed_by ps (Some span) = length-followed ps span

  pub pieces-spliced : (start end : ℕ) (span : Option ChunkSpan) (ps : List Piece) → ForSome span (LiesIn b) → All (IsPieceOf b) ps → All (IsPieceOf b) (spliced b start end span ps)
  pieces-spliced start end span ps lies all =
      All-append (IsPieceOf b) (followed_by b (front b start ps) span) (back b end ps)
      (pieces-followed_by (front b start ps) span lies (pieces-front b start ps all))
      (pieces-back b end ps all)

  pub units-spliced : (start end : ℕ) (span : Option ChunkSpan) (ps : List Piece) → start ≤ unit_count ps
      → unit_count (spliced b start end span ps) ≡ start + unit_count (piece_list b span) + (unit_count ps - end)
  units-spliced start end span ps h =
      omega (
        arith,
        sum_by-append (λ (q : Piece). q.span.units) (followed_by b (front b start ps) span) (back b end ps),
        units-followed_by (front b start ps) span,
        units-front b start ps h,
        units-back b end ps,
      )

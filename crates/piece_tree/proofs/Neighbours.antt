-- The pieces on both sides of one that was looked up.
use Rattle.std.proofs.Common.{◌≡◌, ℕ, ◌+◌, ◌-◌, ◌<◌, ◌≤◌, ◌^◌, Some, None, List, [], ◌∷◌, ◌++◌, refl, ap, sym, ◌∙◌, append_assoc, arith}
use Rattle.std.specs.List.{All, sum_by}
use Rattle.std.specs.Option.{unwrap_or}
use Rattle.std.proofs.lemmas.List.{map-append}
use Rattle.std.proofs.lemmas.List.Sums.{sum_by-cons, sum_by-append}
use Rattle.piece_tree.specs.declared.piece.Piece.{Piece}
use Rattle.piece_tree.specs.declared.piece.PieceId.{PieceId}
use Rattle.piece_tree.specs.declared.piece.Found.{Found}
use Rattle.piece_tree.specs.declared.piece.PieceSum.{PieceSum}
use Rattle.piece_tree.specs.Pieces.{Entry, IsAmong, IsFound, AreNeighbours, pieces_of, unit_count, break_count_of, sum_of}
use Rattle.piece_tree.specs.Runs.{entry_at, first_named, last_named}
use Rattle.piece_tree.specs.Searches.{few_breaks}
use Rattle.piece_tree.proofs.Sums.{breaks_few, sum_counts, sum_without}

sum-with : (f : Piece → ℕ) (es : List Entry) (e : Entry) (fs : List Entry) → sum_by f (pieces_of (es ++ e ∷ fs)) ≡ sum_by f (pieces_of es) + (f e.piece + sum_by f (pieces_of fs))
sum-with f es e fs =
    ap (sum_by f) (map-append (λ (d : Entry). d.piece) es (e ∷ fs)) ∙ sum_by-append f (pieces_of es) (e.piece ∷ pieces_of fs)
    ∙ ap (λ n. sum_by f (pieces_of es) + n) (sum_by-cons f e.piece (pieces_of fs))

-- the sum of some pieces and one more
sum_push : (es : List Entry) (e : Entry) → sum_of (pieces_of (es ++ e ∷ [])) ≡ record { units = unit_count (pieces_of es) + e.piece.span.units; breaks = break_count_of (pieces_of es) + e.piece.breaks }
sum_push es e =
    let units : unit_count (pieces_of (es ++ e ∷ [])) ≡ unit_count (pieces_of es) + e.piece.span.units = omega (arith, sum-with (λ p. p.span.units) es e []) in
    let breaks : break_count_of (pieces_of (es ++ e ∷ [])) ≡ break_count_of (pieces_of es) + e.piece.breaks = omega (arith, sum-with (λ p. p.breaks) es e []) in
    λ i. record { units = units i; breaks = breaks i }

-- the first and the last of some entries
pub first_there : (es : List Entry) (id : PieceId) (p : Piece) → Some (id, p) ≡ first_named es → (ws : List Entry) × (es ≡ entry_at id p ∷ ws)
first_there [] id p h = absurd cc
first_there (e ∷ es) id p h =
    (es, λ i. let at = unwrap_or {T = PieceId × Piece} (sym h i) (id, p) in entry_at at.0 at.1 ∷ es)

pub last_none : (es : List Entry) → None ≡ last_named es → es ≡ []
last_none [] h = refl
last_none (e ∷ []) h = absurd cc
last_none (e ∷ f ∷ es) h = let none : f ∷ es ≡ [] = last_none (f ∷ es) h in absurd cc

pub last_there : (es : List Entry) (id : PieceId) (p : Piece) → Some (id, p) ≡ last_named es → (ws : List Entry) × (es ≡ ws ++ entry_at id p ∷ [])
last_there [] id p h = absurd cc
last_there (e ∷ []) id p h = ([], λ i. let at = unwrap_or {T = PieceId × Piece} (sym h i) (id, p) in entry_at at.0 at.1 ∷ [])
last_there (e ∷ f ∷ es) id p h = let (ws, is) = last_there (f ∷ es) id p h in (e ∷ ws, ap (λ l. e ∷ l) is)

module _ (entries : List Entry) (near : Found) (is : IsFound entries near) where
  abbrev pub own : Entry
  own = record { id = near.id; piece = record { span = near.span; breaks = near.breaks } }

  pub among : IsAmong entries near.id
  among = record { earlier = is.earlier; later = is.later; piece = own.piece; place = is.place }

  -- the sum of the pieces up to this one is small
  pub small_reach : All few_breaks (pieces_of entries) → unit_count (pieces_of entries) < 2 ^ 62
      → (near.before.units + near.span.units < 2 ^ 62) × (near.before.breaks + near.breaks < 2 ^ 62)
  small_reach few small =
      let units = ap (λ es. unit_count (pieces_of es)) is.place ∙ sum-with (λ p. p.span.units) is.earlier own is.later in
      let breaks = ap (λ es. break_count_of (pieces_of es)) is.place ∙ sum-with (λ p. p.breaks) is.earlier own is.later in
      let all = breaks_few (pieces_of entries) few in
      (omega (arith, units, small, ap (λ s. s.units) is.before), omega (arith, breaks, all, small, ap (λ s. s.breaks) is.before))

  pub next_is : (e : Entry) (ws : List Entry) → is.later ≡ e ∷ ws
      → AreNeighbours entries near (record {
        id = e.id;
        span = e.piece.span;
        breaks = e.piece.breaks;
        before = record { units = near.before.units + near.span.units; breaks = near.before.breaks + near.breaks };
      })
  next_is e ws after = record {
    left = is;
    right = record {
      earlier = is.earlier ++ own ∷ [];
      later = ws;
      place = is.place ∙ ap (λ l. is.earlier ++ own ∷ l) after ∙ sym (append_assoc is.earlier (own ∷ []) (e ∷ ws));
      before = ap (λ (s : PieceSum). record { units = s.units + near.span.units; breaks = s.breaks + near.breaks }) is.before ∙ sym (sum_push is.earlier own);
    };
    beside = refl;
    before = refl;
  }

  -- the sum before a piece includes the previous piece
  prev_counted : (e : Entry) (ws : List Entry) → is.earlier ≡ ws ++ e ∷ [] → near.before ≡ sum_of (pieces_of ws ++ e.piece ∷ [])
  prev_counted e ws before = is.before ∙ ap (λ es. sum_of (pieces_of es)) before ∙ ap sum_of (map-append (λ (d : Entry). d.piece) ws (e ∷ []))

  pub prev_within : (e : Entry) (ws : List Entry) → is.earlier ≡ ws ++ e ∷ [] → (e.piece.span.units ≤ near.before.units) × (e.piece.breaks ≤ near.before.breaks)
  prev_within e ws before = sum_counts (pieces_of ws) e.piece near.before (prev_counted e ws before)

  pub prev_is : (e : Entry) (ws : List Entry) → is.earlier ≡ ws ++ e ∷ []
      → AreNeighbours entries (record {
        id = e.id;
        span = e.piece.span;
        breaks = e.piece.breaks;
        before = record { units = near.before.units - e.piece.span.units; breaks = near.before.breaks - e.piece.breaks };
      }) near
  prev_is e ws before =
      let (some_units, some_breaks) = prev_within e ws before in
      let units : near.before.units ≡ near.before.units - e.piece.span.units + e.piece.span.units = omega (arith, some_units) in
      let breaks : near.before.breaks ≡ near.before.breaks - e.piece.breaks + e.piece.breaks = omega (arith, some_breaks) in
      record {
        left = record {
          earlier = ws;
          later = own ∷ is.later;
          place = is.place ∙ ap (λ l. l ++ own ∷ is.later) before ∙ append_assoc ws (e ∷ []) (own ∷ is.later);
          before = sum_without (pieces_of ws) e.piece near.before (prev_counted e ws before);
        };
        right = is;
        beside = before;
        before = λ i. record { units = units i; breaks = breaks i };
      }

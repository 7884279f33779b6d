-- The pieces that lie in one run with a looked-up one.
use Rattle.std.proofs.Common.{◌≡◌, ◌≢◌, ℕ, suc, ◌+◌, ◌-◌, ◌<◌, ◌≤◌, ◌==◌, Bool, List, [], ◌∷◌, ◌++◌, length, get_or, take, drop, refl, ap, sym, ◌∙◌, append_assoc, eq-eqb, arith}
use Rattle.std.specs.List.{All}
use Rattle.std.proofs.lemmas.Bool.{ne_eqb}
use Rattle.std.proofs.lemmas.List.{append-nil, length-take, map-append}
use Rattle.std.proofs.lemmas.List.Elements.{All-head, All-tail, filter-append}
use Rattle.std.proofs.lemmas.List.Sums.{sum_by-append}
use Rattle.std.proofs.Math.Seq.{take-append_seam}
use Rattle.rb_arena.specs.RbTree.{AtItem}
use Rattle.piece_tree.specs.declared.piece.Piece.{Piece}
use Rattle.piece_tree.specs.declared.piece.PieceSum.{PieceSum}
use Rattle.piece_tree.specs.declared.piece.Found.{Found}
use Rattle.piece_tree.specs.Pieces.{Entry, IsFound, IsStretch, in_run, entry_found, pieces_of, unit_count, break_count_of, sum_of}
use Rattle.piece_tree.specs.Runs.{name_of, found_in, entries_of, entries_from, pieces_in}
use Rattle.piece_tree.proofs.Entries.{split_entries, entries-append, pieces_from, pieces_entries}
use Rattle.piece_tree.proofs.Sums.{All-parts}
use Rattle.piece_tree.proofs.Looking.{length-from}
use Rattle.piece_tree.proofs.NearPieces.{within}

module _ (run : ℕ) where
  own_run : (place : ℕ) (ps : List Piece) → in_run run (entries_from run place ps) ≡ entries_from run place ps
  own_run place [] = refl
  own_run place (p ∷ ps) = rw (eq-eqb run run refl, own_run (suc place) ps)

  other_run : (other place : ℕ) (ps : List Piece) → other ≢ run → in_run run (entries_from other place ps) ≡ []
  other_run other place [] ne = refl
  other_run other place (p ∷ ps) ne = rw (ne_eqb other run ne, other_run other (suc place) ps ne)

  other_runs : (runs : List (ℕ × List Piece)) → All (λ r. r.0 ≢ run) runs → in_run run (entries_of runs) ≡ []
  other_runs [] all = refl
  other_runs (r ∷ rs) all =
      let Q : ℕ × List Piece → Type 0 = λ q. q.0 ≢ run in
      let parts = filter-append (λ (e : Entry). e.id.run == run) (entries_from r.0 0 r.1) (entries_of rs) in
      rw (parts, other_run r.0 0 r.1 (All-head Q r rs all), other_runs rs (All-tail Q r rs all))

  all_own : (us vs : List (ℕ × List Piece)) (xs : List Piece) → All (λ r. r.0 ≢ run) (us ++ vs)
      → in_run run (entries_of us ++ (entries_from run 0 xs ++ entries_of vs)) ≡ entries_from run 0 xs
  all_own us vs xs others =
      let (left, right) = All-parts (λ (r : ℕ × List Piece). r.0 ≢ run) us vs others in
      let test : Entry → Bool = λ e. e.id.run == run in
      let own = entries_from run 0 xs in
      rw (filter-append test (entries_of us) (own ++ entries_of vs), filter-append test own (entries_of vs), other_runs us left, own_run 0 xs, other_runs vs right, append-nil own)

first-from : (run : ℕ) (ps : List Piece) (d : Piece) → 0 < length ps → entries_from run 0 ps ≡ record { id = name_of run 0; piece = get_or ps 0 d } ∷ entries_from run 1 (drop 1 ps)
first-from run [] d some = absurd (omega arith)
first-from run (p ∷ ps) d some = refl

module _ (runs : List (ℕ × List Piece)) (entries : List Entry) (shown : entries_of runs ≡ entries) (near : Found) (is : IsFound entries near)
    (xs : List Piece) (own : AtItem runs near.id.run (λ us x vs. xs ≡ x)) where
  pub place_within : near.id.place < length xs
  place_within = within runs near.id (entry_found near).piece is.earlier is.later (shown ∙ is.place) xs own

  pub place_front : near.id.place ≡ length (take near.id.place xs)
  place_front = omega (arith, place_within, length-take near.id.place xs)

  module _ (front : PieceSum) (counts : front ≡ sum_of (take near.id.place xs)) where
    -- the position of the run, and the sum before it
    parts : (us : List (ℕ × List Piece)) × ((vs : List (ℕ × List Piece)) × (runs ≡ us ++ (near.id.run, xs) ∷ vs)
        × (near.before.units ≡ unit_count (pieces_in us) + front.units) × (near.before.breaks ≡ break_count_of (pieces_in us) + front.breaks))
    parts =
        let own_piece = (entry_found near).piece in
        let (us, (x, (vs, (ps, (qs, at, pieces, place, before, behind))))) = split_entries runs is.earlier is.later (entry_found near) (shown ∙ is.place) in
        let same = own us x vs at in
        let all : xs ≡ ps ++ own_piece ∷ qs = same ∙ pieces in
        let cut : take near.id.place xs ≡ ps = (λ i. take (place i) (all i)) ∙ take-append_seam ps (own_piece ∷ qs) in
        let earlier : pieces_of is.earlier ≡ pieces_in us ++ ps =
        ap pieces_of before ∙ map-append (λ (e : Entry). e.piece) (entries_of us) (entries_from near.id.run 0 ps) ∙ (λ i. pieces_entries us i ++ pieces_from near.id.run 0 ps i) in
        let sum : near.before ≡ sum_of (pieces_in us ++ ps) = is.before ∙ ap sum_of earlier in
        let own_sum : front ≡ sum_of ps = counts ∙ ap sum_of cut in (
          us,
          (
            vs,
            at ∙ ap (λ l. us ++ (near.id.run, l) ∷ vs) (sym same),
            omega (arith, ap (λ (s : PieceSum). s.units) sum, ap (λ (s : PieceSum). s.units) own_sum, sum_by-append (λ (p : Piece). p.span.units) (pieces_in us) ps),
            omega (arith, ap (λ (s : PieceSum). s.breaks) sum, ap (λ (s : PieceSum). s.breaks) own_sum, sum_by-append (λ (p : Piece). p.breaks) (pieces_in us) ps),
          ),
        )

    pub front_counts : (front.units ≤ near.before.units) × (front.breaks ≤ near.before.breaks)
    front_counts = let (us, (vs, at, units, breaks)) = parts in (omega (arith, units), omega (arith, breaks))

    pub stretch_is : AtItem runs near.id.run (λ us x vs. All (λ r. r.0 ≢ near.id.run) (us ++ vs)) → (whole : PieceSum) → whole ≡ sum_of xs → (d : Piece) (first : Found)
        → first ≡ found_in (name_of near.id.run 0) (get_or xs 0 d) (record { units = near.before.units - front.units; breaks = near.before.breaks - front.breaks })
        → IsStretch entries near (record { first = first; units = whole.units; pieces = length xs })
    stretch_is others whole total d first told =
        let (us, (vs, at, units, breaks)) = parts in
        let run = near.id.run in
        let rest = entries_from run 1 (drop 1 xs) ++ entries_of vs in
        let split : entries ≡ entries_of us ++ (entries_from run 0 xs ++ entries_of vs) = sym shown ∙ ap entries_of at ∙ entries-append us ((run, xs) ∷ vs) in
        let all : in_run run entries ≡ entries_from run 0 xs = ap (in_run run) split ∙ all_own run us vs xs (others us xs vs at) in
        let first_units : near.before.units - front.units ≡ unit_count (pieces_of (entries_of us)) = omega (arith, units, ap unit_count (pieces_entries us)) in
        let first_breaks : near.before.breaks - front.breaks ≡ break_count_of (pieces_of (entries_of us)) = omega (arith, breaks, ap break_count_of (pieces_entries us)) in
        record {
          earlier = entries_of us;
          later = entries_of vs;
          place = split ∙ ap (λ es. entries_of us ++ (es ++ entries_of vs)) (sym all) ∙ sym (append_assoc (entries_of us) (in_run run entries) (entries_of vs));
          first = record {
            earlier = entries_of us;
            later = rest;
            place = split ∙ ap (λ es. entries_of us ++ (es ++ entries_of vs)) (first-from run xs d (omega (arith, place_within)))
                ∙ ap (λ f. entries_of us ++ entry_found f ∷ rest) (sym told);
            before = ap (λ (f : Found). f.before) told ∙ (λ i. record { units = first_units i; breaks = first_breaks i });
          };
          before = refl;
          units = ap (λ (s : PieceSum). s.units) total ∙ ap unit_count (sym (ap pieces_of all ∙ pieces_from run 0 xs));
          pieces = sym (ap length all ∙ length-from run 0 xs);
        }

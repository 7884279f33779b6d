-- Worked examples: pieces in runs, neighbours, stretches, where a splice cuts, what it puts and returns, and how a full run is split.
use Rattle.std.proofs.Common.{◌≡◌, ℕ, ◌-◌, zero, suc, Some, List, [], ◌∷◌, ◌++◌, codes, length, refl, ap, subst, arith}
use Rattle.chunk_buffers.specs.declared.span.ChunkSpan.{ChunkSpan}
use Rattle.rb_rules.specs.Woven as woven
use Rattle.piece_tree.specs.declared.cut.Cut.{Cut}
use Rattle.piece_tree.specs.declared.left.Left.{Left}
use Rattle.piece_tree.specs.declared.piece.Found.{Found}
use Rattle.piece_tree.specs.declared.piece.Piece.{Piece}
use Rattle.piece_tree.specs.declared.piece.PieceId.{PieceId}
use Rattle.piece_tree.specs.declared.weave.StoredRun.{StoredRun}
use Rattle.piece_tree.specs.Pieces.{Entry, unit_count, sum_of, spliced, IsPieceOf, AreNeighbours, IsStretch}
use Rattle.piece_tree.specs.Searches.{adding}
use Rattle.piece_tree.specs.Runs.{name_of, entry_at, entries_of, pieces_in, CanReplaceIn}
use Rattle.piece_tree.specs.Splicing.{IsCut, IsLeft, HeadsRest, Puts, Joins}

abbrev letters : List (List ℕ)
letters = codes "abcdefghij" ∷ []

abbrev span : ℕ → ℕ → ChunkSpan
span start units = record { buffer = 0; start = start; units = units }

abbrev piece : ℕ → ℕ → Piece
piece start units = record { span = span start units; breaks = 0 }

abbrev entry : ℕ → ℕ → Piece → Entry
entry run place p = entry_at (name_of run place) p

-- a looked-up piece, after `units` units
abbrev found : ℕ → ℕ → Piece → ℕ → Found
found run place p units = record { id = name_of run place; span = p.span; breaks = p.breaks; before = record { units = units; breaks = 0 } }

-- a piece of two units and an empty one, and pieces of three and two units
abbrev first : List Piece
first = piece 0 2 ∷ piece 2 0 ∷ []

abbrev second : List Piece
second = piece 7 3 ∷ piece 5 2 ∷ []

-- the text is "abhijfg"
abbrev runs : List (ℕ × List Piece)
runs = (7, first) ∷ (4, second) ∷ []

abbrev entries : List Entry
entries = entry 7 0 (piece 0 2) ∷ entry 7 1 (piece 2 0) ∷ entry 4 0 (piece 7 3) ∷ entry 4 1 (piece 5 2) ∷ []

-- a piece is named by its run and its place there
pieces_have_names : entries_of runs ≡ entries
pieces_have_names = refl

abbrev stored : ℕ → ℕ → StoredRun
stored at units = record { at = at; sum = record { units = units; breaks = 0 } }

-- the tree adds the sums of its runs
sums_add_up : woven.sum_of adding ((7, stored 0 2) ∷ (4, stored 1 5) ∷ []) ≡ sum_of (pieces_in runs)
sums_add_up = refl

-- the last piece of a run and the first of the next one are neighbours
neighbours_in_two_runs : AreNeighbours entries (found 7 1 (piece 2 0) 2) (found 4 0 (piece 7 3) 2)
neighbours_in_two_runs = record {
  left = record { earlier = entry 7 0 (piece 0 2) ∷ []; later = entries_of ((4, second) ∷ []); place = refl; before = refl };
  right = record { earlier = entries_of ((7, first) ∷ []); later = entry 4 1 (piece 5 2) ∷ []; place = refl; before = refl };
  beside = refl;
  before = refl;
}

-- the pieces of a run, from the second of them
a_run_is_a_stretch : IsStretch entries (found 4 1 (piece 5 2) 5) (record { first = found 4 0 (piece 7 3) 2; units = 5; pieces = 2 })
a_run_is_a_stretch = record {
  earlier = entries_of ((7, first) ∷ []);
  later = [];
  place = refl;
  first = record { earlier = entries_of ((7, first) ∷ []); later = entry 4 1 (piece 5 2) ∷ []; place = refl; before = refl };
  before = refl;
  units = refl;
  pieces = refl;
}

no_piece_is_left_out : IsStretch entries (found 4 1 (piece 5 2) 5) (record { first = found 4 1 (piece 5 2) 5; units = 2; pieces = 1 }) → ⊥
no_piece_is_left_out is = let count : 1 ≡ 2 = is.pieces in absurd (omega (arith, count))

-- "cd" replaces "i"
a_piece_is_cut : spliced letters 3 4 (Some (span 2 2)) (pieces_in runs) ≡ first ++ piece 7 1 ∷ piece 2 2 ∷ piece 9 1 ∷ piece 5 2 ∷ []
a_piece_is_cut = refl

-- "cd" is inserted after "ab", and extends the empty piece
a_piece_is_prolonged : spliced letters 2 2 (Some (span 2 2)) (pieces_in runs) ≡ piece 0 2 ∷ piece 2 2 ∷ second
a_piece_is_prolonged = refl

-- a cut of "hij" that leaves `units` of its units
abbrev cut : ℕ → Cut
cut units = record { id = name_of 4 0; left = Some (piece 7 units); end = 2; before = record { units = 2; breaks = 0 } }

-- "cd" replaces "i"
a_cut_counts_from_its_piece : IsCut letters 3 4 (Some (span 2 2)) entries (cut 1)
a_cut_counts_from_its_piece = record {
  earlier = entries_of ((7, first) ∷ []);
  piece = piece 7 3;
  later = entry 4 1 (piece 5 2) ∷ [];
  place = refl;
  counted = λ left e. let same : piece 7 1 ≡ left = cc in
      subst (IsPieceOf letters) same
      (record { inside = record { buffer = omega arith; few = omega arith; end = omega arith; fits = omega arith }; breaks = refl });
  reach = omega arith;
  before = refl;
  begins = refl;
  spliced = refl;
}

no_cut_leaves_more : IsCut letters 3 4 (Some (span 2 2)) entries (cut 2) → ⊥
no_cut_leaves_more is = absurd (omega (arith, is.begins, ap (λ s. s.units) is.before))

-- of the first piece of the second run the units from `start` on stay
abbrev rest : ℕ → Left
rest start = record { rest = Some (piece start (10 - start)); from = 1; missing = 0 }

-- two units of the second run are removed
a_rest_stays : IsLeft letters second 0 2 (rest 9)
a_rest_stays = record { ordered = omega arith; within = omega arith; cut = λ p e. omega arith; pieces_left = refl; missing = refl }

no_unit_that_goes_stays : IsLeft letters second 0 2 (rest 8) → ⊥
no_unit_that_goes_stays is = let units : 4 ≡ 3 = ap unit_count is.pieces_left in absurd (omega (arith, units))

-- adjacent pieces that are inserted
abbrev three : List Piece
three = piece 7 1 ∷ piece 2 2 ∷ piece 9 1 ∷ []

-- the second of them is not the answer
the_second_is_no_answer : (new : List Entry) → HeadsRest [] three (Some (name_of 4 1, piece 2 2)) new → ⊥
the_second_is_no_answer new (id, (ws, told, place)) =
    let same : ◌≡◌ {A = PieceId × Piece} (name_of 4 1, piece 2 2) (id, piece 7 1) = cc in
    absurd (omega (arith, ap (λ (e : PieceId × Piece). e.1.span.units) same))

-- two small runs become one, under the name of the first
runs_are_joined : Joins 7 [] first ((4, second) ∷ []) ((7, first ++ second) ∷ [])
runs_are_joined = record { more = second; later = []; place = refl; same = refl }

-- `count` pieces of one unit, one after the other
abbrev ones : ℕ → ℕ → List Piece
ones start zero = []
ones start (suc count) = piece start 1 ∷ ones (suc start) count

-- a run has at most 16 pieces
a_full_run_takes_no_more : CanReplaceIn ((7, ones 0 16) ∷ []) 7 16 16 (piece 20 1 ∷ []) → ⊥
a_full_run_takes_no_more is = absurd (omega (arith, is.few))

-- a piece is inserted after three pieces of a full run, and `behind` pieces go into a new run
abbrev split : ℕ → List (ℕ × List Piece)
split behind = (7, ones 0 3 ++ piece 20 1 ∷ []) ∷ (9, ones 3 behind) ∷ []

-- all later pieces go there, those before keep their names, and the inserted piece is the answer
a_full_run_is_split : Puts (name_of 7 3) 3 (piece 20 1 ∷ []) [] (ones 0 16) [] (split 13) (Some (name_of 7 3, piece 20 1))
a_full_run_is_split = record {
  pieces = refl;
  behind = entry 7 3 (piece 20 1) ∷ entries_of ((9, ones 3 13) ∷ []);
  front = refl;
  first = (name_of 7 3, (entries_of ((9, ones 3 13) ∷ []), refl, refl));
}

no_piece_is_lost : Puts (name_of 7 3) 3 (piece 20 1 ∷ []) [] (ones 0 16) [] (split 12) (Some (name_of 7 3, piece 20 1)) → ⊥
no_piece_is_lost is = let count : 16 ≡ 17 = ap length is.pieces in absurd (omega (arith, count))

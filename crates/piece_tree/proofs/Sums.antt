-- Sums over pieces.
use Rattle.std.proofs.Common.{◌≡◌, ◌+◌, ◌-◌, ◌≤◌, List, [], ◌∷◌, ◌++◌, ap, arith}
use Rattle.std.specs.List.{All}
use Rattle.std.proofs.lemmas.List.Elements.{All-head, All-tail, All-cons, All-nil}
use Rattle.std.proofs.lemmas.List.Sums.{sum_by-cons, sum_by-append}
use Rattle.piece_tree.specs.declared.piece.Piece.{Piece}
use Rattle.piece_tree.specs.declared.piece.PieceSum.{PieceSum}
use Rattle.piece_tree.specs.Pieces.{unit_count, break_count_of, sum_of}
use Rattle.piece_tree.specs.Searches.{few_breaks}

pub units-cons : (p : Piece) (ps : List Piece) → unit_count (p ∷ ps) ≡ p.span.units + unit_count ps
units-cons p ps = sum_by-cons (λ (q : Piece). q.span.units) p ps

pub breaks-cons : (p : Piece) (ps : List Piece) → break_count_of (p ∷ ps) ≡ p.breaks + break_count_of ps
breaks-cons p ps = sum_by-cons (λ (q : Piece). q.breaks) p ps

pub units-append : (ps qs : List Piece) → unit_count (ps ++ qs) ≡ unit_count ps + unit_count qs
units-append ps qs = sum_by-append (λ (q : Piece). q.span.units) ps qs

pub breaks_few : (ps : List Piece) → All few_breaks ps → break_count_of ps ≤ unit_count ps
breaks_few [] few = omega arith
breaks_few (p ∷ ps) few =
    let head : p.breaks ≤ p.span.units = All-head few_breaks p ps few in
    omega (arith, units-cons p ps, breaks-cons p ps, breaks_few ps (All-tail few_breaks p ps few))

-- the sum of some pieces and one more, and what it is without this one
module _ (ps : List Piece) (p : Piece) (sum : PieceSum) (is : sum ≡ sum_of (ps ++ p ∷ [])) where
  units_with : sum.units ≡ unit_count ps + p.span.units
  units_with = omega (arith, ap (λ (s : PieceSum). s.units) is, units-append ps (p ∷ []), units-cons p [])

  breaks_with : sum.breaks ≡ break_count_of ps + p.breaks
  breaks_with = omega (arith, ap (λ (s : PieceSum). s.breaks) is, sum_by-append (λ (q : Piece). q.breaks) ps (p ∷ []), breaks-cons p [])

  pub sum_counts : (p.span.units ≤ sum.units) × (p.breaks ≤ sum.breaks)
  sum_counts = (omega (arith, units_with), omega (arith, breaks_with))

  pub sum_without : record { units = sum.units - p.span.units; breaks = sum.breaks - p.breaks } ≡ sum_of ps
  sum_without =
      let units : sum.units - p.span.units ≡ unit_count ps = omega (arith, units_with) in
      let breaks : sum.breaks - p.breaks ≡ break_count_of ps = omega (arith, breaks_with) in
      λ i. record { units = units i; breaks = breaks i }

pub All-parts : {X : Type 0} (P : X → Type 0) (xs ys : List X) → All P (xs ++ ys) → All P xs × All P ys
All-parts P [] ys all = (All-nil P, all)
All-parts P (x ∷ xs) ys all =
    let (first, second) = All-parts P xs ys (All-tail P x (xs ++ ys) all) in (All-cons P x xs (All-head P x (xs ++ ys) all) first, second)

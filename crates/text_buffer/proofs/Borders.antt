-- Borders between pieces at which no CR LF is split.
use Rattle.std.proofs.Common.{◌≡◌, ℕ, zero, suc, ◌+◌, ◌-◌, ◌<◌, ◌≤◌, ◌&&◌, false, List, [], ◌∷◌, ◌++◌, length, take, drop, refl, ap, sym, subst, ◌∙◌, inl, inr, arith}
use Rattle.std.specs.List.{All}
use Rattle.std.proofs.lemmas.Bool.{cases_lt, cases_eq}
use Rattle.std.proofs.lemmas.List.{append-nil, length-append}
use Rattle.std.proofs.lemmas.List.Elements.{All-head, All-tail, All-cons, All-nil}
use Rattle.chunk_buffers.specs.Chunks.{units_at, part_of}
use Rattle.piece_tree.specs.declared.piece.Piece.{Piece}
use Rattle.piece_tree.specs.Pieces.{piece_of, IsPieceOf, front, back}
use Rattle.piece_tree.proofs.Cuts.{front_past, back_past, front_none, back_none, front_part, back_part}
use Rattle.text_rules.specs.Lines.{line_feed, carriage_return, begins_with}
use Rattle.text_rules.specs.Breaks.{ends_with, joins_pair}
use Rattle.text_rules.proofs.Breaks.{and_false}
use Rattle.text_buffer.specs.Text.{spelled, IsUnsplit}
use Rattle.text_buffer.proofs.Spelling.{spelled-append, spelled-front, length-units_at, back_of_piece}

pub begins_with-append : (unit : ℕ) (x y : List ℕ) → 0 < length x → begins_with unit (x ++ y) ≡ begins_with unit x
begins_with-append unit [] y h = absurd (omega arith)
begins_with-append unit (u ∷ x) y h = refl

pub ends_with-append : (unit : ℕ) (x y : List ℕ) → 0 < length y → ends_with unit (x ++ y) ≡ ends_with unit y
ends_with-append unit [] y h = refl
ends_with-append unit (u ∷ []) [] h = absurd (omega arith)
ends_with-append unit (u ∷ []) (v ∷ y) h = refl
ends_with-append unit (u ∷ w ∷ x) y h = ends_with-append unit (w ∷ x) y h

pub ends_with-drop : (unit n : ℕ) (x : List ℕ) → n < length x → ends_with unit (drop n x) ≡ ends_with unit x
ends_with-drop unit zero x h = refl
ends_with-drop unit (suc n) [] h = absurd (omega arith)
ends_with-drop unit (suc n) (u ∷ []) h = absurd (omega arith)
ends_with-drop unit (suc n) (u ∷ v ∷ x) h = ends_with-drop unit n (v ∷ x) (omega arith)

pub begins_with-take : (n : ℕ) (x y : List ℕ) → joins_pair x y ≡ false → joins_pair x (take n y) ≡ false
begins_with-take zero x y e = and_false (ends_with carriage_return x)
begins_with-take (suc n) x [] e = e
begins_with-take (suc n) x (u ∷ y) e = e

module _ (b : List (List ℕ)) where
  pub some_units : (p : Piece) → IsPieceOf b p → 0 < p.span.units → 0 < length (units_at b p.span)
  some_units p is h = omega (arith, length-units_at b p.span is.inside)

  pub some_spelled : (q : Piece) (ps : List Piece) → All (IsPieceOf b) (q ∷ ps) → All (λ (p : Piece). 0 < p.span.units) (q ∷ ps)
      → 0 < length (spelled b (q ∷ ps))
  some_spelled q ps all full =
      let head = some_units q (All-head (IsPieceOf b) q ps all) (All-head (λ (p : Piece). 0 < p.span.units) q ps full) in
      omega (arith, head, length-append (units_at b q.span) (spelled b ps))

  -- what begins with pieces that have units begins as they do
  begins_first : (q : Piece) (ps qs : List Piece) → 0 < length (spelled b (q ∷ ps))
      → begins_with line_feed (spelled b ((q ∷ ps) ++ qs)) ≡ begins_with line_feed (spelled b (q ∷ ps))
  begins_first q ps qs some =
      ap (begins_with line_feed) (spelled-append b (q ∷ ps) qs) ∙ begins_with-append line_feed (spelled b (q ∷ ps)) (spelled b qs) some

  -- two lists of pieces that make no pair at their border
  pub unsplit-append : (ps qs : List Piece) → All (IsPieceOf b) ps → All (λ (p : Piece). 0 < p.span.units) ps → IsUnsplit b ps → IsUnsplit b qs
      → joins_pair (spelled b ps) (spelled b qs) ≡ false → IsUnsplit b (ps ++ qs)
  unsplit-append [] qs all full a c border = c
  unsplit-append (p ∷ []) qs all full a c border = (subst (λ (s : List ℕ). joins_pair s (spelled b qs) ≡ false) (append-nil (units_at b p.span)) border, c)
  unsplit-append (p ∷ q ∷ ps) qs all full a c border =
      let tail : All (IsPieceOf b) (q ∷ ps) = All-tail (IsPieceOf b) p (q ∷ ps) all in
      let full_tail : All (λ (r : Piece). 0 < r.span.units) (q ∷ ps) = All-tail (λ (r : Piece). 0 < r.span.units) p (q ∷ ps) full in
      let some = some_spelled q ps tail full_tail in
      let after = begins_first q ps qs some in
      let last = ends_with-append carriage_return (units_at b p.span) (spelled b (q ∷ ps)) some in (
        ap (λ f. ends_with carriage_return (units_at b p.span) && f) after ∙ a.0,
        unsplit-append (q ∷ ps) qs tail full_tail a.1 c (ap (λ f. f && begins_with line_feed (spelled b qs)) (sym last) ∙ border),
      )

  -- the two parts of a list of pieces
  pub unsplit-parts : (ps qs : List Piece) → All (IsPieceOf b) ps → All (λ (p : Piece). 0 < p.span.units) ps → IsUnsplit b (ps ++ qs)
      → (joins_pair (spelled b ps) (spelled b qs) ≡ false) × (IsUnsplit b ps × IsUnsplit b qs)
  unsplit-parts [] qs all full a = (refl, (tt, a))
  unsplit-parts (p ∷ []) qs all full a = (
    subst (λ (s : List ℕ). joins_pair s (spelled b qs) ≡ false) (sym (append-nil (units_at b p.span))) a.0,
    ((and_false (ends_with carriage_return (units_at b p.span)), tt), a.1),
  )
  unsplit-parts (p ∷ q ∷ ps) qs all full a =
      let tail : All (IsPieceOf b) (q ∷ ps) = All-tail (IsPieceOf b) p (q ∷ ps) all in
      let full_tail : All (λ (r : Piece). 0 < r.span.units) (q ∷ ps) = All-tail (λ (r : Piece). 0 < r.span.units) p (q ∷ ps) full in
      let some = some_spelled q ps tail full_tail in
      let after = begins_first q ps qs some in
      let last = ends_with-append carriage_return (units_at b p.span) (spelled b (q ∷ ps)) some in
      let rest = unsplit-parts (q ∷ ps) qs tail full_tail a.1 in (
        ap (λ f. f && begins_with line_feed (spelled b qs)) last ∙ rest.0,
        ((ap (λ f. ends_with carriage_return (units_at b p.span) && f) (sym after) ∙ a.0, rest.1.0), rest.1.1),
      )

  pub unsplit-front : (n : ℕ) (ps : List Piece) → All (IsPieceOf b) ps → IsUnsplit b ps → IsUnsplit b (front b n ps)
  unsplit-front n [] all a = tt
  unsplit-front n (p ∷ ps) all a =
      let tail : All (IsPieceOf b) ps = All-tail (IsPieceOf b) p ps all in
      elim (cases_lt n p.span.units) [
        | inr past ↦ subst (IsUnsplit b) (sym (front_past b n p ps past)) (
          subst (λ (s : List ℕ). joins_pair (units_at b p.span) s ≡ false) (sym (spelled-front b (n - p.span.units) ps tail)) (begins_with-take (n - p.span.units) (units_at b p.span) (spelled b ps) a.0),
          unsplit-front (n - p.span.units) ps tail a.1,
        )
        | inl within ↦ elim (cases_eq n 0) [
          | inl none ↦ subst (IsUnsplit b) (sym (ap (λ (k : ℕ). front b k (p ∷ ps)) none ∙ front_none b p ps (omega arith))) tt
          | inr some ↦ subst (IsUnsplit b) (sym (front_part b n p ps (omega arith) within)) (and_false (ends_with carriage_return (units_at b (part_of p.span 0 n))), tt)
        ]
      ]

  pub unsplit-back : (n : ℕ) (ps : List Piece) → All (IsPieceOf b) ps → IsUnsplit b ps → IsUnsplit b (back b n ps)
  unsplit-back n [] all a = tt
  unsplit-back n (p ∷ ps) all a =
      let head : IsPieceOf b p = All-head (IsPieceOf b) p ps all in
      let tail : All (IsPieceOf b) ps = All-tail (IsPieceOf b) p ps all in
      elim (cases_lt n p.span.units) [
        | inr past ↦ subst (IsUnsplit b) (sym (back_past b n p ps past)) (unsplit-back (n - p.span.units) ps tail a.1)
        | inl within ↦ elim (cases_eq n 0) [
          | inl none ↦ subst (IsUnsplit b) (sym (ap (λ (k : ℕ). back b k (p ∷ ps)) none ∙ back_none b p ps (omega arith))) a
          | inr some ↦ subst (IsUnsplit b) (sym (back_part b n p ps (omega arith) within)) (
            ap (λ f. f && begins_with line_feed (spelled b ps))
                (ap (ends_with carriage_return) (back_of_piece b p n head (omega arith)) ∙ ends_with-drop carriage_return n (units_at b p.span) (omega (arith, length-units_at b p.span head.inside)))
                ∙ a.0,
            a.1,
          )
        ]
      ]

  pub full-front : (n : ℕ) (ps : List Piece) → All (λ (p : Piece). 0 < p.span.units) ps → All (λ (p : Piece). 0 < p.span.units) (front b n ps)
  full-front n [] full = full
  full-front n (p ∷ ps) full =
      let P : Piece → Type 0 = λ q. 0 < q.span.units in
      elim (cases_lt n p.span.units) [
        | inr past ↦ subst (All P) (sym (front_past b n p ps past)) (All-cons P p (front b (n - p.span.units) ps) (All-head P p ps full) (full-front (n - p.span.units) ps (All-tail P p ps full)))
        | inl within ↦ elim (cases_eq n 0) [
          | inl none ↦ subst (All P) (sym (ap (λ (k : ℕ). front b k (p ∷ ps)) none ∙ front_none b p ps (omega arith))) (All-nil P)
          | inr some ↦ subst (All P) (sym (front_part b n p ps (omega arith) within)) (All-cons P (piece_of b (part_of p.span 0 n)) [] (omega arith) (All-nil P))
        ]
      ]

  pub full-back : (n : ℕ) (ps : List Piece) → All (λ (p : Piece). 0 < p.span.units) ps → All (λ (p : Piece). 0 < p.span.units) (back b n ps)
  full-back n [] full = full
  full-back n (p ∷ ps) full =
      let P : Piece → Type 0 = λ q. 0 < q.span.units in
      elim (cases_lt n p.span.units) [
        | inr past ↦ subst (All P) (sym (back_past b n p ps past)) (full-back (n - p.span.units) ps (All-tail P p ps full))
        | inl within ↦ elim (cases_eq n 0) [
          | inl none ↦ subst (All P) (sym (ap (λ (k : ℕ). back b k (p ∷ ps)) none ∙ back_none b p ps (omega arith))) full
          | inr some ↦ subst (All P) (sym (back_part b n p ps (omega arith) within)) (All-cons P (piece_of b (part_of p.span n p.span.units)) ps (omega arith) (All-tail P p ps full))
        ]
      ]

  length-cut : (n : ℕ) (ps : List Piece) → (length (front b n ps) ≤ length ps) × (length (back b n ps) ≤ length ps)
  length-cut n [] = (omega arith, omega arith)
  length-cut n (p ∷ ps) =
      elim (cases_lt n p.span.units) [
        | inr past ↦ (let more : (length (front b (n - p.span.units) ps) ≤ length ps) × (length (back b (n - p.span.units) ps) ≤ length ps) = length-cut (n - p.span.units) ps in
            (omega (arith, ap length (front_past b n p ps past), more.0), omega (arith, ap length (back_past b n p ps past), more.1)))
        | inl within ↦ elim (cases_eq n 0) [
          | inl none ↦ (
            omega (arith, ap length (ap (λ (k : ℕ). front b k (p ∷ ps)) none ∙ front_none b p ps (omega arith))),
            omega (arith, ap length (ap (λ (k : ℕ). back b k (p ∷ ps)) none ∙ back_none b p ps (omega arith))),
          )
          | inr some ↦ (omega (arith, ap length (front_part b n p ps (omega arith) within)), omega (arith, ap length (back_part b n p ps (omega arith) within)))
        ]
      ]

  pub length-back : (n : ℕ) (ps : List Piece) → length (back b n ps) ≤ length ps
  length-back n ps = (length-cut n ps).1

  -- at most one piece is in both parts
  pub length-parts : (n m : ℕ) (ps : List Piece) → n ≤ m → length (front b n ps) + length (back b m ps) ≤ length ps + 1
  length-parts n m [] h = omega arith
  length-parts n m (p ∷ ps) h =
      elim (cases_lt n p.span.units) [
        | inr past ↦ omega (arith, ap length (front_past b n p ps past), ap length (back_past b m p ps (omega arith)), length-parts (n - p.span.units) (m - p.span.units) ps (omega arith))
        | inl within ↦ elim (cases_eq n 0) [
          | inl none ↦ omega (arith, ap length (ap (λ (k : ℕ). front b k (p ∷ ps)) none ∙ front_none b p ps (omega arith)), length-back m (p ∷ ps))
          | inr some ↦ omega (arith, ap length (front_part b n p ps (omega arith) within), length-back m (p ∷ ps))
        ]
      ]

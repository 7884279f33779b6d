-- What the parts of a list of pieces spell.
use Rattle.std.proofs.Common.{◌≡◌, ℕ, zero, suc, ◌-◌, ◌≤◌, List, [], ◌∷◌, ◌++◌, length, take, drop, refl, ap, sym, ◌∙◌, inl, inr, append_assoc, arith}
use Rattle.std.specs.List.{All}
use Rattle.std.proofs.lemmas.Bool.{cases_lt, cases_eq}
use Rattle.std.proofs.lemmas.List.{append-nil, take_all, take-append-le, drop-append-le, length-append, length-take-le, length-drop}
use Rattle.std.proofs.lemmas.List.Elements.{All-head, All-tail}
use Rattle.chunk_buffers.specs.declared.span.ChunkSpan.{ChunkSpan}
use Rattle.chunk_buffers.specs.Chunks.{units_at, LiesIn, part_of, buffer_at}
use Rattle.chunk_buffers.proofs.Spans.{units_at-part}
use Rattle.piece_tree.specs.declared.piece.Piece.{Piece}
use Rattle.piece_tree.specs.Pieces.{unit_count, IsPieceOf, front, back}
use Rattle.piece_tree.proofs.Sums.{units-cons}
use Rattle.piece_tree.proofs.Cuts.{front_past, back_past, front_none, back_none, front_part, back_part}
use Rattle.text_buffer.specs.Text.{spelled}

pub take-past : {A : Type 0} (n m : ℕ) (xs ys : List A) → m ≡ length xs → m ≤ n → take n (xs ++ ys) ≡ xs ++ take (n - m) ys
take-past n m [] ys is h = let e : n ≡ n - m = omega arith in ap (λ (k : ℕ). take k ys) e
take-past zero m (x ∷ xs) ys is h = absurd (omega arith)
take-past (suc n) m (x ∷ xs) ys is h =
    let e : n - length xs ≡ suc n - m = omega arith in
    ap (λ s. x ∷ s) (take-past n (length xs) xs ys refl (omega arith)) ∙ ap (λ (k : ℕ). x ∷ (xs ++ take k ys)) e

pub drop-past : {A : Type 0} (n m : ℕ) (xs ys : List A) → m ≡ length xs → m ≤ n → drop n (xs ++ ys) ≡ drop (n - m) ys
drop-past n m [] ys is h = let e : n ≡ n - m = omega arith in ap (λ (k : ℕ). drop k ys) e
drop-past zero m (x ∷ xs) ys is h = absurd (omega arith)
drop-past (suc n) m (x ∷ xs) ys is h =
    let e : n - length xs ≡ suc n - m = omega arith in
    drop-past n (length xs) xs ys refl (omega arith) ∙ ap (λ (k : ℕ). drop k ys) e

module _ (b : List (List ℕ)) where
  pub spelled-append : (ps qs : List Piece) → spelled b (ps ++ qs) ≡ spelled b ps ++ spelled b qs
  spelled-append [] qs = refl
  spelled-append (p ∷ ps) qs = ap (λ s. units_at b p.span ++ s) (spelled-append ps qs) ∙ sym (append_assoc (units_at b p.span) (spelled b ps) (spelled b qs))

  pub length-units_at : (span : ChunkSpan) → LiesIn b span → length (units_at b span) ≡ span.units
  length-units_at span lies = length-take-le span.units (drop span.start (buffer_at b span.buffer)) (omega (arith, length-drop span.start (buffer_at b span.buffer)))

  pub length-spelled : (ps : List Piece) → All (IsPieceOf b) ps → length (spelled b ps) ≡ unit_count ps
  length-spelled [] all = refl
  length-spelled (p ∷ ps) all =
      let head : IsPieceOf b p = All-head (IsPieceOf b) p ps all in
      omega (arith, units-cons p ps, length-append (units_at b p.span) (spelled b ps), length-units_at p.span head.inside, length-spelled ps (All-tail (IsPieceOf b) p ps all))

  pub front_of_piece : (p : Piece) (n : ℕ) → IsPieceOf b p → n ≤ p.span.units → units_at b (part_of p.span 0 n) ≡ take n (units_at b p.span)
  front_of_piece p n is h = units_at-part b p.span 0 n (omega arith) h is.inside ∙ ap (λ (k : ℕ). take k (units_at b p.span)) (let e : n - 0 ≡ n = omega arith in e)

  pub back_of_piece : (p : Piece) (n : ℕ) → IsPieceOf b p → n ≤ p.span.units → units_at b (part_of p.span n p.span.units) ≡ drop n (units_at b p.span)
  back_of_piece p n is h =
      units_at-part b p.span n p.span.units h (omega arith) is.inside
      ∙ take_all (p.span.units - n) (drop n (units_at b p.span)) (omega (arith, length-drop n (units_at b p.span), length-units_at p.span is.inside))

  spelled-cut : (n : ℕ) (ps : List Piece) → All (IsPieceOf b) ps
      → (spelled b (front b n ps) ≡ take n (spelled b ps)) × (spelled b (back b n ps) ≡ drop n (spelled b ps))
  spelled-cut zero [] all = (refl, refl)
  spelled-cut (suc n) [] all = (refl, refl)
  spelled-cut n (p ∷ ps) all =
      let head : IsPieceOf b p = All-head (IsPieceOf b) p ps all in
      let size = length-units_at p.span head.inside in
      let own = units_at b p.span in
      elim (cases_lt n p.span.units) [
        | inr past ↦ (let left : ℕ = n - p.span.units in
            let more : (spelled b (front b left ps) ≡ take left (spelled b ps)) × (spelled b (back b left ps) ≡ drop left (spelled b ps)) = spelled-cut left ps (All-tail (IsPieceOf b) p ps all) in (
              ap (spelled b) (front_past b n p ps past) ∙ ap (λ s. own ++ s) more.0 ∙ sym (take-past n p.span.units own (spelled b ps) (sym size) past),
              ap (spelled b) (back_past b n p ps past) ∙ more.1 ∙ sym (drop-past n p.span.units own (spelled b ps) (sym size) past),
            ))
        | inl within ↦ elim (cases_eq n 0) [
          | inl none ↦ (
            ap (λ (k : ℕ). spelled b (front b k (p ∷ ps))) none ∙ ap (spelled b) (front_none b p ps (omega arith)) ∙ ap (λ (k : ℕ). take k (spelled b (p ∷ ps))) (sym none),
            ap (λ (k : ℕ). spelled b (back b k (p ∷ ps))) none ∙ ap (spelled b) (back_none b p ps (omega arith)) ∙ ap (λ (k : ℕ). drop k (spelled b (p ∷ ps))) (sym none),
          )
          | inr some ↦ (
            ap (spelled b) (front_part b n p ps (omega arith) within) ∙ append-nil (units_at b (part_of p.span 0 n)) ∙ front_of_piece p n head (omega arith)
                ∙ sym (take-append-le n own (spelled b ps) (omega (arith, size))),
            ap (spelled b) (back_part b n p ps (omega arith) within) ∙ ap (λ s. s ++ spelled b ps) (back_of_piece p n head (omega arith))
                ∙ sym (drop-append-le n own (spelled b ps) (omega (arith, size))),
          )
        ]
      ]

  pub spelled-front : (n : ℕ) (ps : List Piece) → All (IsPieceOf b) ps → spelled b (front b n ps) ≡ take n (spelled b ps)
  spelled-front n ps all = (spelled-cut n ps all).0

  pub spelled-back : (n : ℕ) (ps : List Piece) → All (IsPieceOf b) ps → spelled b (back b n ps) ≡ drop n (spelled b ps)
  spelled-back n ps all = (spelled-cut n ps all).1

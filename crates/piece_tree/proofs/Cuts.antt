-- Cutting a list of pieces, and the sums of the parts.
use Rattle.std.proofs.Common.{◌≡◌, ℕ, ◌+◌, ◌-◌, ◌<◌, ◌≤◌, Option, List, [], ◌∷◌, ◌++◌, length, drop, refl, ap, sym, subst, ◌∙◌, inl, inr, zero-add, arith}
use Rattle.std.specs.List.{All}
use Rattle.std.specs.Option.{ForSome}
use Rattle.std.proofs.lemmas.Bool.{lt-leb, le-leb, cases_lt, cases_eq, ne_eqb}
use Rattle.std.proofs.lemmas.List.{length-take}
use Rattle.std.proofs.lemmas.List.Elements.{All-head, All-tail, All-cons, All-nil, All-weaker}
use Rattle.chunk_buffers.specs.declared.span.ChunkSpan.{ChunkSpan}
use Rattle.chunk_buffers.specs.Chunks.{units_at, LiesIn, part_of, buffer_at}
use Rattle.line_starts.proofs.Starts.{break_count_is}
use Rattle.text_rules.proofs.Breaks.{break_ends_few}
use Rattle.piece_tree.specs.declared.piece.Piece.{Piece}
use Rattle.piece_tree.specs.Pieces.{unit_count, piece_of, IsPieceOf, front, back}
use Rattle.piece_tree.specs.Searches.{few_breaks}
use Rattle.piece_tree.proofs.Sums.{units-cons}

module _ (b : List (List ℕ)) where
  pub front_past : (n : ℕ) (p : Piece) (ps : List Piece) → p.span.units ≤ n → front b n (p ∷ ps) ≡ p ∷ front b (n - p.span.units) ps
  front_past n p ps h = rw (le-leb p.span.units n h)

  pub back_past : (n : ℕ) (p : Piece) (ps : List Piece) → p.span.units ≤ n → back b n (p ∷ ps) ≡ back b (n - p.span.units) ps
  back_past n p ps h = rw (le-leb p.span.units n h)

  pub front_none : (p : Piece) (ps : List Piece) → 0 < p.span.units → front b 0 (p ∷ ps) ≡ []
  front_none p ps h = rw (lt-leb p.span.units 0 h)

  pub back_none : (p : Piece) (ps : List Piece) → 0 < p.span.units → back b 0 (p ∷ ps) ≡ p ∷ ps
  back_none p ps h = rw (lt-leb p.span.units 0 h)

  pub front_part : (n : ℕ) (p : Piece) (ps : List Piece) → 0 < n → n < p.span.units → front b n (p ∷ ps) ≡ piece_of b (part_of p.span 0 n) ∷ []
  front_part n p ps some h = let other : n ≡ 0 → ⊥ = λ e. absurd (omega arith) in rw (lt-leb p.span.units n h, ne_eqb n 0 other)

  pub back_part : (n : ℕ) (p : Piece) (ps : List Piece) → 0 < n → n < p.span.units → back b n (p ∷ ps) ≡ piece_of b (part_of p.span n p.span.units) ∷ ps
  back_part n p ps some h = let other : n ≡ 0 → ⊥ = λ e. absurd (omega arith) in rw (lt-leb p.span.units n h, ne_eqb n 0 other)

  pub units-front : (n : ℕ) (ps : List Piece) → n ≤ unit_count ps → unit_count (front b n ps) ≡ n
  units-front n [] h = omega arith
  units-front n (p ∷ ps) h =
      let whole = units-cons p ps in
      elim (cases_lt n p.span.units) [
        | inr past ↦ ap unit_count (front_past n p ps past) ∙ units-cons p (front b (n - p.span.units) ps)
            ∙ (let rest = units-front (n - p.span.units) ps (omega arith) in let e : p.span.units + unit_count (front b (n - p.span.units) ps) ≡ n = omega arith in e)
        | inl within ↦ elim (cases_eq n 0) [
          | inl none ↦ ap (λ (k : ℕ). unit_count (front b k (p ∷ ps))) none ∙ ap unit_count (front_none p ps (omega arith)) ∙ sym none
          | inr some ↦ ap unit_count (front_part n p ps (omega arith) within) ∙ (let e : 0 + (n - 0) ≡ n = omega arith in e)
        ]
      ]

  pub units-back : (n : ℕ) (ps : List Piece) → unit_count (back b n ps) ≡ unit_count ps - n
  units-back n [] = omega arith
  units-back n (p ∷ ps) =
      let whole = units-cons p ps in
      elim (cases_lt n p.span.units) [
        | inr past ↦ ap unit_count (back_past n p ps past) ∙ units-back (n - p.span.units) ps ∙ (let e : unit_count ps - (n - p.span.units) ≡ unit_count (p ∷ ps) - n = omega arith in e)
        | inl within ↦ elim (cases_eq n 0) [
          | inl none ↦ ap (λ (k : ℕ). unit_count (back b k (p ∷ ps))) none ∙ ap unit_count (back_none p ps (omega arith)) ∙ (let e : unit_count (p ∷ ps) ≡ unit_count (p ∷ ps) - n = omega arith in e)
          | inr some ↦ ap unit_count (back_part n p ps (omega arith) within) ∙ units-cons (piece_of b (part_of p.span n p.span.units)) ps
              ∙ (let e : (p.span.units - n) + unit_count ps ≡ unit_count (p ∷ ps) - n = omega arith in e)
        ]
      ]

  pub front-append : (fs ps : List Piece) (n d : ℕ) → n ≡ unit_count fs + d → front b n (fs ++ ps) ≡ fs ++ front b d ps
  front-append [] ps n d e = ap (λ k. front b k ps) (e ∙ zero-add d)
  front-append (f ∷ fs) ps n d e =
      let more = units-cons f fs in
      front_past n f (fs ++ ps) (omega arith) ∙ ap (λ qs. f ∷ qs) (front-append fs ps (n - f.span.units) d (omega arith))

  pub back-append : (fs ps : List Piece) (n d : ℕ) → n ≡ unit_count fs + d → back b n (fs ++ ps) ≡ back b d ps
  back-append [] ps n d e = ap (λ k. back b k ps) (e ∙ zero-add d)
  back-append (f ∷ fs) ps n d e =
      let more = units-cons f fs in
      back_past n f (fs ++ ps) (omega arith) ∙ back-append fs ps (n - f.span.units) d (omega arith)

  pub inside_part : (span : ChunkSpan) (from to : ℕ) → from ≤ to → to ≤ span.units → LiesIn b span → LiesIn b (part_of span from to)
  inside_part span from to ordered within lies = record { buffer = lies.buffer; few = lies.few; end = omega arith; fits = omega (arith, lies.fits) }

  pieces-both : (n : ℕ) (ps : List Piece) → All (IsPieceOf b) ps → All (IsPieceOf b) (front b n ps) × All (IsPieceOf b) (back b n ps)
  pieces-both n [] all = (all, all)
  pieces-both n (p ∷ ps) all =
      let P : Piece → Type 0 = IsPieceOf b in
      let head : IsPieceOf b p = All-head P p ps all in
      let tail : All P ps = All-tail P p ps all in
      elim (cases_lt n p.span.units) [
        | inr past ↦ (let more : All P (front b (n - p.span.units) ps) × All P (back b (n - p.span.units) ps) = pieces-both (n - p.span.units) ps tail in (
          subst (All P) (sym (front_past n p ps past)) (All-cons P p (front b (n - p.span.units) ps) head more.0),
          subst (All P) (sym (back_past n p ps past)) more.1,
        ))
        | inl within ↦ elim (cases_eq n 0) [
          | inl none ↦ (
            subst (All P) (sym (ap (λ (k : ℕ). front b k (p ∷ ps)) none ∙ front_none p ps (omega arith))) (All-nil P),
            subst (All P) (sym (ap (λ (k : ℕ). back b k (p ∷ ps)) none ∙ back_none p ps (omega arith))) all,
          )
          | inr some ↦ (
            subst (All P) (sym (front_part n p ps (omega arith) within))
                (All-cons P (piece_of b (part_of p.span 0 n)) [] (record { inside = inside_part p.span 0 n (omega arith) (omega arith) head.inside; breaks = refl }) (All-nil P)),
            subst (All P) (sym (back_part n p ps (omega arith) within))
                (All-cons P (piece_of b (part_of p.span n p.span.units)) ps (record { inside = inside_part p.span n p.span.units (omega arith) (omega arith) head.inside; breaks = refl }) tail),
          )
        ]
      ]

  pub pieces-front : (n : ℕ) (ps : List Piece) → All (IsPieceOf b) ps → All (IsPieceOf b) (front b n ps)
  pieces-front n ps all = (pieces-both n ps all).0

  pub pieces-back : (n : ℕ) (ps : List Piece) → All (IsPieceOf b) ps → All (IsPieceOf b) (back b n ps)
  pieces-back n ps all = (pieces-both n ps all).1

  pub piece_few : (p : Piece) → IsPieceOf b p → few_breaks p
  piece_few p is =
      let shown = units_at b p.span in
      omega (arith, is.breaks, break_count_is shown, break_ends_few 0 shown, length-take p.span.units (drop p.span.start (buffer_at b p.span.buffer)))

  pub some_few : (piece : Option Piece) → ForSome piece (IsPieceOf b) → ForSome piece few_breaks
  some_few piece counted p e = piece_few p (counted p e)

  pub span_few : (p : Piece) (span : ChunkSpan) → LiesIn b span → p ≡ piece_of b span → few_breaks p
  span_few p span lies e = subst few_breaks (sym e) (piece_few (piece_of b span) (record { inside = lies; breaks = refl }))

  pub pieces_few : (ps : List Piece) → All (IsPieceOf b) ps → All few_breaks ps
  pieces_few ps all = All-weaker (IsPieceOf b) few_breaks piece_few ps all

  -- if some of the pieces are left, all pieces behind them are left
  pub back_some : (n : ℕ) (ps qs : List Piece) → 0 < length (back b n ps) → back b n (ps ++ qs) ≡ back b n ps ++ qs
  back_some n [] qs some = absurd (omega (arith, some))
  back_some n (p ∷ ps) qs some = elim (cases_lt n p.span.units) [
    | inr past ↦ (let first = back_past n p ps past in
        back_past n p (ps ++ qs) past ∙ back_some (n - p.span.units) ps qs (omega (arith, some, ap length first)) ∙ ap (λ rs. rs ++ qs) (sym first))
    | inl within ↦ elim (cases_eq n 0) [
      | inl none ↦ (
          subst (λ (k : ℕ). back b k (p ∷ ps ++ qs) ≡ back b k (p ∷ ps) ++ qs) (sym none)
          (back_none p (ps ++ qs) (omega arith) ∙ ap (λ rs. rs ++ qs) (sym (back_none p ps (omega arith)))))
      | inr other ↦ back_part n p (ps ++ qs) (omega arith) within ∙ ap (λ rs. rs ++ qs) (sym (back_part n p ps (omega arith) within))
    ]
  ]

  -- if none of the pieces are left, the remaining units are removed from those behind
  pub back_all : (n : ℕ) (ps qs : List Piece) → back b n ps ≡ [] → back b n (ps ++ qs) ≡ back b (n - unit_count ps) qs
  back_all n [] qs none = let same : n ≡ n - unit_count [] = omega arith in ap (λ k. back b k qs) same
  back_all n (p ∷ ps) qs none = elim (cases_lt n p.span.units) [
    | inr past ↦ (
        let rest = back_all (n - p.span.units) ps qs (sym (back_past n p ps past) ∙ none) in
        let same : n - p.span.units - unit_count ps ≡ n - unit_count (p ∷ ps) = omega (arith, units-cons p ps) in
        back_past n p (ps ++ qs) past ∙ rest ∙ ap (λ k. back b k qs) same)
    | inl within ↦ (
        let left = units-back n (p ∷ ps) in
        absurd (omega (arith, left, ap unit_count none, units-cons p ps)))
  ]

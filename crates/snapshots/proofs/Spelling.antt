-- The rest of a text in spans after its first units were read.
use Rattle.std.proofs.Common.{◌≡◌, ℕ, suc, ◌+◌, ◌-◌, ◌<◌, ◌≤◌, min, List, [], ◌∷◌, ◌++◌, length, take, drop, ap, sym, ◌∙◌, inl, inr, append-nil, append_assoc, get_or, drop-cons, arith, lt-ltb, le-ltb}
use Rattle.std.specs.List.{All}
use Rattle.std.proofs.Math.Seq.{drop-append-add, take-append-add}
use Rattle.std.proofs.lemmas.Bool.{cases_lt}
use Rattle.std.proofs.lemmas.List.{length-take-le, length-drop, take_all, drop_all, take-append-le, drop-append-le}
use Rattle.std.proofs.lemmas.List.Elements.{All-cons, All-head, All-tail, All-get_or}
use Rattle.chunk_buffers.specs.declared.span.ChunkSpan.{ChunkSpan}
use Rattle.chunk_buffers.specs.Chunks.{units_at, LiesIn, part_of, buffer_at}
use Rattle.chunk_buffers.proofs.Spans.{units_at-part}
use Rattle.snapshots.specs.Spans.{spelled, without}

pub drop-past : (n m : ℕ) (x y : List ℕ) → m ≡ length x → m ≤ n → drop n (x ++ y) ≡ drop (n - m) y
drop-past n m x y is past = let e : n ≡ length x + (n - m) = omega (arith, is) in ap (λ (k : ℕ). drop k (x ++ y)) e ∙ drop-append-add x y (n - m)

pub take-past : (n m : ℕ) (x y : List ℕ) → m ≡ length x → m ≤ n → take n (x ++ y) ≡ x ++ take (n - m) y
take-past n m x y is past = let e : n ≡ length x + (n - m) = omega (arith, is) in ap (λ (k : ℕ). take k (x ++ y)) e ∙ take-append-add x y (n - m)

module _ (b : List (List ℕ)) where
  pub length-units_at : (span : ChunkSpan) → LiesIn b span → length (units_at b span) ≡ span.units
  length-units_at span lies =
      length-take-le span.units (drop span.start (buffer_at b span.buffer)) (omega (arith, length-drop span.start (buffer_at b span.buffer)))

  units_at-rest : (span : ChunkSpan) (n : ℕ) → LiesIn b span → n ≤ span.units → units_at b (part_of span n span.units) ≡ drop n (units_at b span)
  units_at-rest span n lies within =
      units_at-part b span n span.units within (omega arith) lies
      ∙ take_all (span.units - n) (drop n (units_at b span)) (omega (arith, length-drop n (units_at b span), length-units_at span lies))

  pub spelled-without : (n : ℕ) (spans : List ChunkSpan) → All (LiesIn b) spans → spelled b (without n spans) ≡ drop n (spelled b spans)
  spelled-without n [] all = sym (drop_all n (spelled b []) (omega arith))
  spelled-without n (span ∷ spans) all =
      let lies = All-head (LiesIn b) span spans all in
      let rest = All-tail (LiesIn b) span spans all in
      let size = length-units_at span lies in
      elim (cases_lt n span.units) [
        | inl inside ↦
            rw (lt-ltb n span.units inside)
            (ap (λ u. u ++ spelled b spans) (units_at-rest span n lies (omega arith))
            ∙ sym (drop-append-le n (units_at b span) (spelled b spans) (omega (arith, size))))
        | inr past ↦
            rw (le-ltb n span.units past)
            (spelled-without (n - span.units) spans rest ∙ sym (drop-past n span.units (units_at b span) (spelled b spans) (sym size) past))
      ]

  pub LiesIn-without : (n : ℕ) (spans : List ChunkSpan) → All (LiesIn b) spans → All (LiesIn b) (without n spans)
  LiesIn-without n [] all = all
  LiesIn-without n (span ∷ spans) all =
      let lies = All-head (LiesIn b) span spans all in
      let rest = All-tail (LiesIn b) span spans all in
      elim (cases_lt n span.units) [
        | inl inside ↦
            rw (lt-ltb n span.units inside)
            (All-cons (LiesIn b) (part_of span n span.units) spans
            (record { buffer = lies.buffer; few = lies.few; end = omega (arith, lies.end); fits = omega (arith, lies.fits) }) rest)
        | inr past ↦ rw (le-ltb n span.units past) (LiesIn-without (n - span.units) spans rest)
      ]

  -- a prefix of a text, taken from its first span and from the rest
  pub take-span : (left : ℕ) (span : ChunkSpan) (rest : List ℕ) → LiesIn b span
      → take left (units_at b span ++ rest) ≡ take (min left span.units) (units_at b span) ++ take (left - min left span.units) rest
  take-span left span rest lies =
      let size = length-units_at span lies in
      elim (cases_lt left span.units) [
        | inl inside ↦
            let least : min left span.units ≡ left = omega arith in
            let none : left - left ≡ 0 = omega arith in
            rw (least, none) (take-append-le left (units_at b span) rest (omega (arith, size)) ∙ sym (append-nil (take left (units_at b span))))
        | inr past ↦
            let least : min left span.units ≡ span.units = omega arith in
            rw least (take-past left span.units (units_at b span) rest (sym size) past
            ∙ ap (λ u. u ++ take (left - span.units) rest) (sym (take_all span.units (units_at b span) (omega (arith, size)))))
      ]

  -- one turn of the loop over the spans
  pub pushed-span : (spans : List ChunkSpan) (i left count : ℕ) (d : ChunkSpan) (out units new target : List ℕ) → i < length spans → All (LiesIn b) spans
      → out ++ take left (spelled b (drop i spans)) ≡ target → units ≡ units_at b (get_or spans i d) → count ≡ min left (get_or spans i d).units
      → new ≡ out ++ take count units → new ++ take (left - count) (spelled b (drop (i + 1) spans)) ≡ target
  pushed-span spans i left count d out units new target inside all so_far units_is count_is new_is =
      let next : suc i ≡ i + 1 = omega arith in
      let rest : drop i spans ≡ get_or spans i d ∷ drop (i + 1) spans = drop-cons spans i d inside ∙ ap (λ (k : ℕ). get_or spans i d ∷ drop k spans) next in
      rw (new_is, units_is, count_is)
      (append_assoc out (take (min left (get_or spans i d).units) (units_at b (get_or spans i d)))
      (take (left - min left (get_or spans i d).units) (spelled b (drop (i + 1) spans)))
      ∙ ap (λ u. out ++ u) (sym (take-span left (get_or spans i d) (spelled b (drop (i + 1) spans)) (All-get_or (LiesIn b) spans i d inside all)))
      ∙ ap (λ ss. out ++ take left (spelled b ss)) (sym rest) ∙ so_far)

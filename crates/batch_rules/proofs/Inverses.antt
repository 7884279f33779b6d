-- The inverse of a batch restores the text.
use Rattle.std.proofs.Common.{◌≡◌, ℕ, suc, ◌+◌, ◌-◌, false, List, [], ◌∷◌, ◌++◌, length, take, drop, refl, ap, sym, ◌∙◌, append_assoc, length-append, arith}
use Rattle.std.proofs.lemmas.List.{take-append-drop, take_at, drop_at, drop-drop}
use Rattle.unit_text.specs.declared.kind.Kind.{Kind}
use Rattle.text_rules.specs.declared.Op.{Op}
use Rattle.batch_rules.specs.Batches.{sorted_ops, has_bad_span, overlap, applied_from, applied, StandFrom, inverse_from, inverse_of}
use Rattle.batch_rules.proofs.Order.{sorted_ops_standing}
use Rattle.batch_rules.proofs.Standing.{sorted_ops_stand, length-kept, length-applied_from}

-- the spans of the inverse are ordered within the text after the batch
pub inverse_stands : (at now : ℕ) (x y : List ℕ) (ops : List Op) → StandFrom at x ops → now + length (applied_from at x ops) ≡ length y
    → StandFrom now y (inverse_from at now x ops)
inverse_stands at now x y [] standing e = omega (arith, standing)
inverse_stands at now x y (op ∷ ops) standing e =
    let later : ℕ = now + (op.span.start - at) + length op.text in
    (omega arith, omega arith, inverse_stands op.span.end later x y ops standing.2 (omega (arith, e, length-applied_from at x op ops standing)))

-- a list of three parts can be cut between them
pub middle_cut : (k n m : ℕ) (a b c y : List ℕ) → length a ≡ k → length b ≡ n → m ≡ k + n → y ≡ a ++ b ++ c → (take k y ≡ a) × (drop m y ≡ c)
middle_cut k n m a b c y la lb e same =
    let whole : y ≡ a ++ (b ++ c) = same ∙ append_assoc a b c in (
      ap (take k) whole ∙ take_at a (b ++ c) k la,
      ap (drop m) same ∙ drop_at (a ++ b) c m (omega (arith, length-append a b)),
    )

-- offset `now` of the new text corresponds to offset `at` of the old one
pub inverse_applied : (at now : ℕ) (x y : List ℕ) (ops : List Op) → StandFrom at x ops → drop now y ≡ applied_from at x ops
    → applied_from now y (inverse_from at now x ops) ≡ drop at x
inverse_applied at now x y [] standing e = e
inverse_applied at now x y (op ∷ ops) standing e =
    let k : ℕ = op.span.start - at in
    let later : ℕ = now + k + length op.text in
    let kept : List ℕ = take k (drop at x) in
    let cut = middle_cut k (length op.text) (k + length op.text) kept op.text (applied_from op.span.end x ops) (drop now y) (length-kept at x op ops standing) refl refl e in
    let start : drop (now + (k + length op.text)) y ≡ applied_from op.span.end x ops = sym (drop-drop (k + length op.text) now y) ∙ cut.1 in
    let rest = inverse_applied op.span.end later x y ops standing.2 (ap (λ (n : ℕ). drop n y) (omega arith) ∙ start) in
    let first : take (now + k - now) (drop now y) ≡ kept = ap (λ (n : ℕ). take n (drop now y)) (omega arith) ∙ cut.0 in
    let middle : take (op.span.end - op.span.start) (drop op.span.start x) ++ drop op.span.end x ≡ drop op.span.start x =
    ap (λ (z : List ℕ). take (op.span.end - op.span.start) (drop op.span.start x) ++ z) (ap (λ (n : ℕ). drop n x) (omega (arith, standing.1)) ∙ sym (drop-drop (op.span.end - op.span.start) op.span.start x))
    ∙ take-append-drop (op.span.end - op.span.start) (drop op.span.start x) in
    let all : kept ++ drop op.span.start x ≡ drop at x =
    ap (λ (z : List ℕ). kept ++ z) (ap (λ (n : ℕ). drop n x) (omega (arith, standing.0)) ∙ sym (drop-drop k at x)) ∙ take-append-drop k (drop at x) in
    rw (first, rest) (append_assoc kept _ _ ∙ ap (λ (z : List ℕ). kept ++ z) middle ∙ all)

-- the inverse has as many ops as the batch
pub length-inverse_from : (at now : ℕ) (x : List ℕ) (ops : List Op) → length (inverse_from at now x ops) ≡ length ops
length-inverse_from at now x [] = refl
length-inverse_from at now x (op ∷ ops) = ap suc (length-inverse_from op.span.end (now + (op.span.start - at) + length op.text) x ops)

-- applying an ordered batch and then its inverse restores the text
pub inverse_gives_back : (x : List ℕ) (ops : List Op) → StandFrom 0 x ops → applied_from 0 (applied_from 0 x ops) (inverse_from 0 0 x ops) ≡ x
inverse_gives_back x ops standing = inverse_applied 0 0 x (applied_from 0 x ops) ops standing refl

pub inverse_stands_from_start : (x : List ℕ) (ops : List Op) → StandFrom 0 x ops → StandFrom 0 (applied_from 0 x ops) (inverse_from 0 0 x ops)
inverse_stands_from_start x ops standing = inverse_stands 0 0 x (applied_from 0 x ops) ops standing (omega arith)

-- the inverse is in order
pub inverse_in_order : (x : List ℕ) (ops : List Op) → StandFrom 0 x ops → sorted_ops (inverse_from 0 0 x ops) ≡ inverse_from 0 0 x ops
inverse_in_order x ops standing = sorted_ops_standing 0 (applied_from 0 x ops) (inverse_from 0 0 x ops) (inverse_stands_from_start x ops standing)

pub inverse_takes_back : (x : List ℕ) (ops : List Op) → StandFrom 0 x ops → applied (applied x ops) (inverse_from 0 0 x ops) ≡ x
inverse_takes_back x ops standing =
    ap (λ l. applied (applied_from 0 x l) (inverse_from 0 0 x ops)) (sorted_ops_standing 0 x ops standing)
    ∙ ap (applied_from 0 (applied_from 0 x ops)) (inverse_in_order x ops standing) ∙ inverse_gives_back x ops standing

-- the same for any batch without an invalid span and without an overlap
pub inverse_of_gives_back : (kind : Kind) (x : List ℕ) (ops : List Op) → has_bad_span kind x ops ≡ false → overlap (sorted_ops ops) ≡ false
    → applied (applied x ops) (inverse_of x ops) ≡ x
inverse_of_gives_back kind x ops good apart =
    let standing = sorted_ops_stand kind x ops good apart in
    ap (applied_from 0 (applied x ops)) (inverse_in_order x (sorted_ops ops) standing) ∙ inverse_gives_back x (sorted_ops ops) standing

-- A batch applied op by op, from the last to the first.
use Rattle.std.proofs.Common.{◌≡◌, ℕ, zero, suc, ◌+◌, ◌-◌, ◌<◌, ◌≤◌, List, [], ◌∷◌, ◌++◌, length, take, drop, get_or, refl, ap, sym, ◌∙◌, append_assoc, take-append-drop, length-append, length-drop, arith}
use Rattle.std.proofs.lemmas.List.{length-take-le, take-take, take-append-le, drop_at}
use Rattle.std.proofs.lemmas.List.Sums.{sum_by-cons}
use Rattle.std.proofs.Math.Seq.{take-add}
use Rattle.text_rules.specs.declared.Op.{Op}
use Rattle.text_rules.specs.Edits.{edited}
use Rattle.batch_rules.specs.Batches.{applied_from, StandFrom, edited_backwards, text_units}
use Rattle.batch_rules.proofs.Standing.{standing_within, length-applied_from}

pub backwards_from : (at : ℕ) (x : List ℕ) (ops : List Op) → StandFrom at x ops → edited_backwards x ops ≡ take at x ++ applied_from at x ops
backwards_from at x [] standing = sym (take-append-drop at x)
backwards_from at x (op ∷ ops) standing =
    let s : ℕ = op.span.start in
    let e : ℕ = op.span.end in
    let rest : List ℕ = applied_from e x ops in
    let within : e ≤ length x = standing_within e x ops standing.2 in
    let before : edited_backwards x ops ≡ take e x ++ rest = backwards_from e x ops standing.2 in
    let front : take s (take e x ++ rest) ≡ take s x =
    take-append-le s (take e x) rest (omega (arith, length-take-le e x within, standing.1)) ∙ take-take s e x standing.1 in
    let back : drop e (take e x ++ rest) ≡ rest = drop_at (take e x) rest e (length-take-le e x within) in
    let cut : take s x ≡ take at x ++ take (s - at) (drop at x) = ap (λ (n : ℕ). take n x) (omega (arith, standing.0)) ∙ take-add at (s - at) x in
    rw (before, front, back, cut)
    (ap (λ (z : List ℕ). z ++ rest) (append_assoc (take at x) (take (s - at) (drop at x)) op.text) ∙ append_assoc (take at x) (take (s - at) (drop at x) ++ op.text) rest)

-- applying the ops one by one from the last to the first equals the single pass
pub backwards_is_one_pass : (x : List ℕ) (ops : List Op) → StandFrom 0 x ops → edited_backwards x ops ≡ applied_from 0 x ops
backwards_is_one_pass x ops standing = backwards_from 0 x ops standing

length_most : (at : ℕ) (x : List ℕ) (ops : List Op) → StandFrom at x ops → at + length (applied_from at x ops) ≤ length x + text_units ops
length_most at x [] standing = omega (arith, standing, length-drop at x)
length_most at x (op ∷ ops) standing =
    omega (arith, sum_by-cons {X = Op} (λ o. length o.text) op ops, length-applied_from at x op ops standing, length_most op.span.end x ops standing.2, standing.0, standing.1)

length_backwards : (at : ℕ) (x : List ℕ) (ops : List Op) → StandFrom at x ops → length (edited_backwards x ops) ≡ at + length (applied_from at x ops)
length_backwards at x ops standing =
    ap length (backwards_from at x ops standing)
    ∙ omega (arith, length-append (take at x) (applied_from at x ops), length-take-le at x (standing_within at x ops standing))

-- at each step the length of the text is at most that of the old text plus the new texts
pub backwards_few : (at : ℕ) (x : List ℕ) (ops : List Op) (done : ℕ) → StandFrom at x ops → length (edited_backwards x (drop done ops)) ≤ length x + text_units ops
backwards_few at x ops zero standing = omega (arith, length_backwards at x ops standing, length_most at x ops standing)
backwards_few at x [] (suc done) standing = omega arith
backwards_few at x (op ∷ ops) (suc done) standing =
    omega (arith, sum_by-cons {X = Op} (λ o. length o.text) op ops, backwards_few op.span.end x ops done standing.2)

-- The step of one op after the later ops are applied: its span lies within the text `now`, and its result is the text
-- `next`.
pub record IsStep (x : List ℕ) (op : Op) (now next : List ℕ) : Type 0 where
  pub ordered : op.span.start ≤ op.span.end
  pub within : op.span.end ≤ length now
  pub leaves : next ≡ edited now op

pub backwards_step : (at : ℕ) (x : List ℕ) (ops : List Op) (i : ℕ) (d : Op) → StandFrom at x ops → i < length ops
    → IsStep x (get_or ops i d) (edited_backwards x (drop (suc i) ops)) (edited_backwards x (drop i ops))
backwards_step at x [] i d standing inside = absurd (omega arith)
backwards_step at x (op ∷ ops) zero d standing inside =
    let few : op.span.end ≤ length (edited_backwards x ops) = omega (arith, length_backwards op.span.end x ops standing.2) in
    record { ordered = standing.1; within = few; leaves = refl }
backwards_step at x (op ∷ ops) (suc i) d standing inside = backwards_step op.span.end x ops i d standing.2 (omega arith)

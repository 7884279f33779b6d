-- One pass over the ops of a batch, which looks for an overlap.
use Rattle.std.proofs.Common.{◌≡◌, ℕ, ltb, Bool, false, ◌||◌, List, [], ◌∷◌, refl, ap, sym, arith}
use Rattle.std.proofs.lemmas.Bool.{le-ltb}
use Rattle.text_rules.specs.declared.Op.{Op}
use Rattle.batch_rules.specs.Batches.{overlap}

-- whether one of the ops starts below the end of the one before it, of which the first stands behind this place
abbrev pub overlap_after : ℕ → List Op → Bool
overlap_after end [] = false
overlap_after end (op ∷ ops) = ltb op.span.start end || overlap_after op.span.end ops

overlap_of_next : (op : Op) (ops : List Op) → overlap (op ∷ ops) ≡ overlap_after op.span.end ops
overlap_of_next op [] = refl
overlap_of_next op (next ∷ ops) = ap (λ b. ltb next.span.start op.span.end || b) (overlap_of_next next ops)

pub overlap_from_start : (ops : List Op) → overlap_after 0 ops ≡ overlap ops
overlap_from_start [] = refl
overlap_from_start (op ∷ ops) = rw (le-ltb op.span.start 0 (omega arith)) (sym (overlap_of_next op ops))

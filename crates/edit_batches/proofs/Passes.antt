-- One pass over the ops of a batch.
use Rattle.std.proofs.Common.{◌≡◌, ℕ, ◌+◌, ◌-◌, ◌<◌, ◌≤◌, ltb, Bool, false, ◌||◌, List, [], ◌∷◌, ◌++◌, length, take, drop, get_or, refl, ap, sym, subst, ◌∙◌, append_assoc, arith}
use Rattle.std.proofs.lemmas.Bool.{le-ltb}
use Rattle.std.proofs.lemmas.List.{drop_more, drop_all}
use Rattle.text_rules.specs.declared.Op.{Op}
use Rattle.batch_rules.specs.Batches.{overlap, applied_from, inverse_from, StandFrom}
use Rattle.batch_rules.proofs.Standing.{standing_within, length-applied_from}

-- whether one of the ops starts below the end of the one before it, or the first starts below `end`
abbrev pub overlap_after : ℕ → List Op → Bool
overlap_after end [] = false
overlap_after end (op ∷ ops) = ltb op.span.start end || overlap_after op.span.end ops

overlap_of_next : (op : Op) (ops : List Op) → overlap (op ∷ ops) ≡ overlap_after op.span.end ops
overlap_of_next op [] = refl
overlap_of_next op (next ∷ ops) = ap (λ b. ltb next.span.start op.span.end || b) (overlap_of_next next ops)

pub overlap_from_start : (ops : List Op) → overlap_after 0 ops ≡ overlap ops
overlap_from_start [] = refl
overlap_from_start (op ∷ ops) = rw (le-ltb op.span.start 0 (omega arith)) (sym (overlap_of_next op ops))

pub next_op : (ops : List Op) (i : ℕ) (op : Op) → i < length ops → op ≡ get_or ops i op → drop i ops ≡ op ∷ drop (i + 1) ops
next_op ops i op inside e = drop_more ops i op inside ∙ ap (λ o. o ∷ drop (i + 1) ops) (sym e)

-- the properties of the op at a position of the pass
pub record IsPassed (at : ℕ) (x : List ℕ) (ops : List Op) (i : ℕ) (op : Op) : Type 0 where
  pub above : at ≤ op.span.start
  pub ordered : op.span.start ≤ op.span.end
  pub within : op.span.end ≤ length x
  pub later : StandFrom op.span.end x (drop (i + 1) ops)
  pub units : length (applied_from at x (drop i ops)) ≡ op.span.start - at + length op.text + length (applied_from op.span.end x (drop (i + 1) ops))

pub passed : (at : ℕ) (x : List ℕ) (ops : List Op) (i : ℕ) (op : Op) → StandFrom at x (drop i ops) → i < length ops → op ≡ get_or ops i op → IsPassed at x ops i op
passed at x ops i op standing inside e =
    let next = next_op ops i op inside e in
    let here : StandFrom at x (op ∷ drop (i + 1) ops) = subst (StandFrom at x) next standing in
    record {
      above = here.0;
      ordered = here.1;
      within = standing_within op.span.end x (drop (i + 1) ops) here.2;
      later = here.2;
      units = ap (λ l. length (applied_from at x l)) next ∙ length-applied_from at x op (drop (i + 1) ops) here;
    }

pub passed_all : (at : ℕ) (x : List ℕ) (ops : List Op) (i : ℕ) → length ops ≤ i → applied_from at x (drop i ops) ≡ drop at x
passed_all at x ops i end = ap (applied_from at x) (drop_all i ops end)

-- the inverse so far, and one op more
pub inverse_more : (at now n i : ℕ) (x taken : List ℕ) (ops back after whole : List Op) (op : Op) → i < length ops → op ≡ get_or ops i op
    → n ≡ length op.text → taken ≡ take (op.span.end - op.span.start) (drop op.span.start x)
    → after ≡ back ++ (record { span = record { start = now + (op.span.start - at); end = now + (op.span.start - at) + n }; text = taken; force = false }) ∷ []
    → back ++ inverse_from at now x (drop i ops) ≡ whole
    → after ++ inverse_from op.span.end (now + (op.span.start - at) + n) x (drop (i + 1) ops) ≡ whole
inverse_more at now n i x taken ops back after whole op inside is count text pushed so_far =
    let k : ℕ = now + (op.span.start - at) in
    let made : Op = record { span = record { start = k; end = k + n }; text = taken; force = false } in
    let rest : List Op = inverse_from op.span.end (k + n) x (drop (i + 1) ops) in
    let next : made ∷ rest ≡ inverse_from at now x (op ∷ drop (i + 1) ops) = rw (count, text) refl in
    ap (λ l. l ++ rest) pushed ∙ append_assoc back (made ∷ []) rest ∙ ap (λ l. back ++ l) (next ∙ ap (inverse_from at now x) (sym (next_op ops i op inside is))) ∙ so_far

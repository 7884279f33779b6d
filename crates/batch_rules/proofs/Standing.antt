-- The spans of the ops of an accepted batch, and the length of the resulting text.
use Rattle.std.proofs.Common.{◌≡◌, ℕ, ◌+◌, ◌-◌, ◌≤◌, ltb, Bool, cond, true, false, List, [], ◌∷◌, ◌++◌, length, take, drop, Result, Ok, Err, refl, subst, length-append, length-drop, sym, arith}
use Rattle.std.specs.List.{All}
use Rattle.std.proofs.lemmas.Bool.{ltb-false, or_parts}
use Rattle.std.proofs.lemmas.List.{length-take-le}
use Rattle.std.proofs.lemmas.List.Elements.{All-nil, All-cons, All-head, All-tail}
use Rattle.std.proofs.lemmas.List.Sorted.{list_any-IsPermutation}
use Rattle.std.proofs.lemmas.List.Sums.{sum_by-cons}
use Rattle.unit_text.specs.declared.kind.Kind.{Kind}
use Rattle.text_rules.specs.declared.Op.{Op}
use Rattle.text_rules.specs.Edits.{is_bad_span}
use Rattle.text_rules.proofs.EditLemmas.{span_from_test}
use Rattle.batch_rules.specs.Refusals.{BatchRefusal}
use Rattle.batch_rules.specs.Refusals as refused
use Rattle.batch_rules.specs.Batches.{most_units, sorted_ops, has_bad_span, overlap, applied_from, applied, checked_ops, StandFrom, FollowFrom, text_units, inverse_from}
use Rattle.batch_rules.proofs.Order.{sorted_ops_move, All-sorted_ops}

abbrev pub IsGood : Kind → List ℕ → Op → Type 0
IsGood kind x op = is_bad_span kind x op.span ≡ false

pub all_good : (kind : Kind) (x : List ℕ) (ops : List Op) → has_bad_span kind x ops ≡ false → All (IsGood kind x) ops
all_good kind x [] e = All-nil (IsGood kind x)
all_good kind x (op ∷ ops) e =
    let parts = or_parts _ _ e in
    All-cons (IsGood kind x) op ops parts.0 (all_good kind x ops parts.1)

-- sorting does not change whether there is an invalid span
pub has_bad_span-sorted_ops : (kind : Kind) (x : List ℕ) (ops : List Op) → has_bad_span kind x (sorted_ops ops) ≡ has_bad_span kind x ops
has_bad_span-sorted_ops kind x ops =
    sym (list_any-IsPermutation (λ op. is_bad_span kind x op.span) ops (sorted_ops ops) (sorted_ops_move ops))

-- sorted ops without overlap and with valid spans are ordered within the text
pub stand_from_tests : (kind : Kind) (at : ℕ) (x : List ℕ) (op : Op) (ops : List Op) → at ≤ op.span.start → All (IsGood kind x) (op ∷ ops) → overlap (op ∷ ops) ≡ false → StandFrom at x (op ∷ ops)
stand_from_tests kind at x op [] above good apart =
    let span = span_from_test kind x op.span (All-head (IsGood kind x) op [] good) in
    (above, span.ordered, span.within)
stand_from_tests kind at x op (next ∷ ops) above good apart =
    let span = span_from_test kind x op.span (All-head (IsGood kind x) op (next ∷ ops) good) in
    let parts = or_parts _ _ apart in
    (above, span.ordered, stand_from_tests kind op.span.end x next ops (ltb-false _ _ parts.0) (All-tail (IsGood kind x) op (next ∷ ops) good) parts.1)

pub stand_from_start : (kind : Kind) (x : List ℕ) (ops : List Op) → All (IsGood kind x) ops → overlap ops ≡ false → StandFrom 0 x ops
stand_from_start kind x [] good apart = omega arith
stand_from_start kind x (op ∷ ops) good apart = stand_from_tests kind 0 x op ops (omega arith) good apart

pub sorted_ops_stand : (kind : Kind) (x : List ℕ) (ops : List Op) → has_bad_span kind x ops ≡ false → overlap (sorted_ops ops) ≡ false → StandFrom 0 x (sorted_ops ops)
sorted_ops_stand kind x ops good apart = stand_from_start kind x (sorted_ops ops) (All-sorted_ops (IsGood kind x) ops (all_good kind x ops good)) apart

-- the properties of an accepted batch for a text of a kind
pub record IsAccepted (kind : Kind) (x : List ℕ) (ops sorted : List Op) : Type 0 where
  pub in_order : sorted ≡ sorted_ops ops
  pub good : All (IsGood kind x) sorted
  pub standing : StandFrom 0 x sorted
  pub fits : length (applied_from 0 x sorted) ≤ most_units

abbrev answer_by : Bool → Bool → Bool → List Op → Result (List Op) BatchRefusal
answer_by bad overlaps long sorted = cond bad (Err refused.range) (cond overlaps (Err refused.overlap) (cond long (Err refused.limit) (Ok sorted)))

accepted_at : (kind : Kind) (x : List ℕ) (ops sorted : List Op) (bad overlaps long : Bool) → has_bad_span kind x ops ≡ bad → overlap (sorted_ops ops) ≡ overlaps → ltb most_units (length (applied x ops)) ≡ long
    → answer_by bad overlaps long (sorted_ops ops) ≡ Ok sorted → IsAccepted kind x ops sorted
accepted_at kind x ops sorted true overlaps long h1 h2 h3 e = absurd cc
accepted_at kind x ops sorted false true long h1 h2 h3 e = absurd cc
accepted_at kind x ops sorted false false true h1 h2 h3 e = absurd cc
accepted_at kind x ops sorted false false false h1 h2 h3 e =
    let same : sorted_ops ops ≡ sorted = cc in
    let good = All-sorted_ops (IsGood kind x) ops (all_good kind x ops h1) in
    subst (λ s. IsAccepted kind x ops s) same (record { in_order = refl; good = good; standing = stand_from_start kind x (sorted_ops ops) good h2; fits = ltb-false _ _ h3 })

pub accepted : (kind : Kind) (x : List ℕ) (ops sorted : List Op) → checked_ops kind x ops ≡ Ok sorted → IsAccepted kind x ops sorted
accepted kind x ops sorted e = accepted_at kind x ops sorted _ _ _ refl refl refl e

-- an offset from which ops are ordered lies within the text
pub standing_within : (at : ℕ) (x : List ℕ) (ops : List Op) → StandFrom at x ops → at ≤ length x
standing_within at x [] standing = standing
standing_within at x (op ∷ ops) standing =
    omega (arith, standing.0, standing.1, standing_within op.span.end x ops standing.2)

-- ops that are ordered within a text follow one another
pub follow_standing : (at : ℕ) (x : List ℕ) (ops : List Op) → StandFrom at x ops → FollowFrom at ops
follow_standing at x [] standing = tt
follow_standing at x (op ∷ ops) standing = (standing.0, standing.1, follow_standing op.span.end x ops standing.2)

pub length-kept : (at : ℕ) (x : List ℕ) (op : Op) (ops : List Op) → StandFrom at x (op ∷ ops)
    → length (take (op.span.start - at) (drop at x)) ≡ op.span.start - at
length-kept at x op ops standing =
    let within = standing_within op.span.end x ops standing.2 in
    length-take-le (op.span.start - at) (drop at x) (omega (arith, length-drop at x, standing.0, standing.1))

pub length-applied_from : (at : ℕ) (x : List ℕ) (op : Op) (ops : List Op) → StandFrom at x (op ∷ ops)
    → length (applied_from at x (op ∷ ops)) ≡ op.span.start - at + length op.text + length (applied_from op.span.end x ops)
length-applied_from at x op ops standing =
    omega (arith, length-append (take (op.span.start - at) (drop at x) ++ op.text) (applied_from op.span.end x ops), length-append (take (op.span.start - at) (drop at x)) op.text, length-kept at x op ops standing)

-- the length of the new texts together is at most that of the text after the batch
pub text_units_applied : (at : ℕ) (x : List ℕ) (ops : List Op) → StandFrom at x ops → text_units ops ≤ length (applied_from at x ops)
text_units_applied at x [] standing = omega arith
text_units_applied at x (op ∷ ops) standing =
    omega (arith, sum_by-cons {X = Op} (λ o. length o.text) op ops, length-applied_from at x op ops standing, text_units_applied op.span.end x ops standing.2)

-- the texts of the inverse were parts of the old text, so their length together is at most that of the old text from
-- `at` on
pub text_units_inverse : (at now : ℕ) (x : List ℕ) (ops : List Op) → StandFrom at x ops → at + text_units (inverse_from at now x ops) ≤ length x
text_units_inverse at now x [] standing = omega (arith, standing)
text_units_inverse at now x (op ∷ ops) standing =
    let later : ℕ = now + (op.span.start - at) + length op.text in
    let back : Op = record { span = record { start = now + (op.span.start - at); end = later }; text = take (op.span.end - op.span.start) (drop op.span.start x); force = false } in
    let within = standing_within op.span.end x ops standing.2 in
    let taken : length back.text ≡ op.span.end - op.span.start =
    length-take-le (op.span.end - op.span.start) (drop op.span.start x) (omega (arith, length-drop op.span.start x)) in
    omega (arith, sum_by-cons {X = Op} (λ o. length o.text) back (inverse_from op.span.end later x ops), taken, text_units_inverse op.span.end later x ops standing.2, standing.0, standing.1)

-- The result of a batch: an invalid span is reported first, then an overlap, then a text that would be too long.
use Rattle.std.proofs.Common.{◌≡◌, ◌<◌, ◌≤◌, cond, true, false, List, [], ◌∷◌, ℕ, length, map, Ok, Err, refl, ap, sym, ◌∙◌}
use Rattle.std.proofs.lemmas.Bool.{lt-ltb, le-ltb}
use Rattle.unit_text.specs.declared.kind.Kind.{Kind}
use Rattle.unit_text.specs.declared.kind.Kind.TheVariants.{Mixed, Lf, Crlf}
use Rattle.text_rules.specs.declared.Op.{Op}
use Rattle.batch_rules.specs.Refusals as refused
use Rattle.batch_rules.proofs.Order.{sorted_ops_again}
use Rattle.batch_rules.proofs.Standing.{has_bad_span-sorted_ops}
use Rattle.batch_rules.specs.Batches.{most_units, sorted_ops, has_bad_span, overlap, applied, op_in, ops_in, stands_before, put_in_order, checked_ops, checked_batch}

pub refused_for_range : (kind : Kind) (x : List ℕ) (ops : List Op) → has_bad_span kind x ops ≡ true → checked_ops kind x ops ≡ Err refused.range
refused_for_range kind x ops bad = rw bad refl

pub refused_for_overlap : (kind : Kind) (x : List ℕ) (ops : List Op) → has_bad_span kind x ops ≡ false → overlap (sorted_ops ops) ≡ true → checked_ops kind x ops ≡ Err refused.overlap
refused_for_overlap kind x ops good overlaps = rw (good, overlaps) refl

pub refused_for_limit : (kind : Kind) (x : List ℕ) (ops : List Op) → has_bad_span kind x ops ≡ false → overlap (sorted_ops ops) ≡ false → most_units < length (applied x ops)
    → checked_ops kind x ops ≡ Err refused.limit
refused_for_limit kind x ops good apart long = rw (good, apart, lt-ltb most_units (length (applied x ops)) long) refl

pub accepted_in_order : (kind : Kind) (x : List ℕ) (ops : List Op) → has_bad_span kind x ops ≡ false → overlap (sorted_ops ops) ≡ false → length (applied x ops) ≤ most_units
    → checked_ops kind x ops ≡ Ok (sorted_ops ops)
accepted_in_order kind x ops good apart fits = rw (good, apart, le-ltb most_units (length (applied x ops)) fits) refl

-- the order of the ops makes no difference to the rule
pub checked_ops-sorted_ops : (kind : Kind) (x : List ℕ) (ops : List Op) → checked_ops kind x (sorted_ops ops) ≡ checked_ops kind x ops
checked_ops-sorted_ops kind x ops = rw (has_bad_span-sorted_ops kind x ops, sorted_ops_again ops) refl

put_in_order-op_in : (kind : Kind) (op : Op) (ops : List Op)
    → map (op_in kind) (put_in_order op ops) ≡ put_in_order (op_in kind op) (map (op_in kind) ops)
put_in_order-op_in kind op [] = refl
put_in_order-op_in kind op (next ∷ ops) =
    elim (stands_before op next) as (λ b. map (op_in kind) (cond b (op ∷ next ∷ ops) (next ∷ put_in_order op ops))
    ≡ cond b (op_in kind op ∷ op_in kind next ∷ map (op_in kind) ops) (op_in kind next ∷ put_in_order (op_in kind op) (map (op_in kind) ops)))
    [ true ↦ refl | false ↦ ap (λ l. op_in kind next ∷ l) (put_in_order-op_in kind op ops) ]

sorted_ops-op_in : (kind : Kind) (ops : List Op) → map (op_in kind) (sorted_ops ops) ≡ sorted_ops (map (op_in kind) ops)
sorted_ops-op_in kind [] = refl
sorted_ops-op_in kind (op ∷ ops) =
    put_in_order-op_in kind op (sorted_ops ops) ∙ ap (put_in_order (op_in kind op)) (sorted_ops-op_in kind ops)

-- the order does not depend on the texts of the ops
pub sorted_ops-ops_in : (kind : Kind) (ops : List Op) → ops_in kind (sorted_ops ops) ≡ sorted_ops (ops_in kind ops)
sorted_ops-ops_in Mixed ops = refl
sorted_ops-ops_in Lf ops = sorted_ops-op_in Lf ops
sorted_ops-ops_in Crlf ops = sorted_ops-op_in Crlf ops

pub checked_batch-sorted_ops : (kind : Kind) (x : List ℕ) (ops : List Op) → checked_batch kind x (sorted_ops ops) ≡ checked_batch kind x ops
checked_batch-sorted_ops kind x ops =
    ap (checked_ops kind x) (sorted_ops-ops_in kind ops) ∙ checked_ops-sorted_ops kind x (ops_in kind ops)

-- replacing line endings by those of Mixed leaves a batch unchanged
map-op_in-mixed : (ops : List Op) → map (op_in Mixed) ops ≡ ops
map-op_in-mixed [] = refl
map-op_in-mixed (op ∷ ops) = ap (λ l. op ∷ l) (map-op_in-mixed ops)

-- the text of each op is normalized separately
pub ops_in-map : (kind : Kind) (ops : List Op) → ops_in kind ops ≡ map (op_in kind) ops
ops_in-map Mixed ops = sym (map-op_in-mixed ops)
ops_in-map Lf ops = refl
ops_in-map Crlf ops = refl

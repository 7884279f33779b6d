-- A batch of edits: several ops on one text, applied at once. All spans refer to the text before the batch.
use Rattle.std.specs.Prelude.{ℕ, ◌+◌, ◌-◌, ◌≤◌, ◌==◌, ◌&&◌, ◌||◌, Bool, false, nat_lt, nat_le, if◌then◌else◌, List, [], ◌∷◌, ◌++◌, length, map, take, drop, sum_by, Result, Ok, Err, ⊤}
use Rattle.std.specs.List.{list_any}
use Rattle.unit_text.specs.declared.kind.Kind.{Kind}
use Rattle.unit_text.specs.declared.kind.Kind.TheVariants.{Mixed, Lf, Crlf}
use Rattle.unit_text.specs.Kinds.{normalized, IsOfKind}
use Rattle.text_rules.specs.declared.Op.{Op}
use Rattle.text_rules.specs.declared.TheConstants.{MOST_TEXT_UNITS}
use Rattle.text_rules.specs.Edits.{is_bad_span, edited}
use Rattle.batch_rules.specs.Refusals.{BatchRefusal}
use Rattle.batch_rules.specs.Refusals as refused

-- the maximum number of units of a text
abbrev pub most_units : ℕ
most_units = MOST_TEXT_UNITS

-- op `a` is before op `b` in the order: its end is smaller, or the ends are equal and its start is not greater
abbrev pub stands_before : Op → Op → Bool
stands_before a b = nat_lt a.span.end b.span.end || (a.span.end == b.span.end && nat_le a.span.start b.span.start)

abbrev pub put_in_order : Op → List Op → List Op
put_in_order op [] = op ∷ []
put_in_order op (next ∷ ops) = if stands_before op next then op ∷ next ∷ ops else next ∷ put_in_order op ops

-- the ops ordered by end, then by start, then by index in the batch
abbrev pub sorted_ops : List Op → List Op
sorted_ops [] = []
sorted_ops (op ∷ ops) = put_in_order op (sorted_ops ops)

-- the span of at least one op is invalid for the text, which is of the kind
abbrev pub has_bad_span : Kind → List ℕ → List Op → Bool
has_bad_span kind x ops = list_any (λ op. is_bad_span kind x op.span) ops

-- in a list of ops in order, an op starts before the end of the preceding one; spans that only touch do not overlap
abbrev pub overlap : List Op → Bool
overlap [] = false
overlap (op ∷ []) = false
overlap (op ∷ next ∷ ops) = nat_lt next.span.start op.span.end || overlap (next ∷ ops)

-- The text from offset `at` on after the ops, in one pass: the units before each op are kept, and its text replaces its
-- span.
abbrev pub applied_from : ℕ → List ℕ → List Op → List ℕ
applied_from at x [] = drop at x
applied_from at x (op ∷ ops) = take (op.span.start - at) (drop at x) ++ op.text ++ applied_from op.span.end x ops

-- the text after the batch
abbrev pub applied : List ℕ → List Op → List ℕ
applied x ops = applied_from 0 x (sorted_ops ops)

-- the op, with the line endings of its text replaced by those of the kind
abbrev pub op_in : Kind → Op → Op
op_in kind op = record op { text = normalized kind op.text }

-- the ops with texts of the kind; Mixed leaves them unchanged
abbrev pub ops_in : Kind → List Op → List Op
ops_in Mixed ops = ops
ops_in Lf ops = map (op_in Lf) ops
ops_in Crlf ops = map (op_in Crlf) ops

-- the ops in order, or the reason for refusal; their texts are already of the kind
abbrev pub checked_ops : Kind → List ℕ → List Op → Result (List Op) BatchRefusal
checked_ops kind x ops =
    if has_bad_span kind x ops then Err refused.range else
    (if overlap (sorted_ops ops) then Err refused.overlap else
    (if nat_lt most_units (length (applied x ops)) then Err refused.limit
    else Ok (sorted_ops ops)))

-- The ops of a batch on a text of the kind, in order and with texts of the kind, or the reason for refusal.
abbrev pub checked_batch : Kind → List ℕ → List Op → Result (List Op) BatchRefusal
checked_batch kind x ops = checked_ops kind x (ops_in kind ops)

-- The spans are ordered within the text from offset `at` on: each starts at or after the end of the preceding one.
abbrev pub StandFrom : ℕ → List ℕ → List Op → Type 0
StandFrom at x [] = at ≤ length x
StandFrom at x (op ∷ ops) = (at ≤ op.span.start) × (op.span.start ≤ op.span.end) × StandFrom op.span.end x ops

-- the same without the text
abbrev pub FollowFrom : ℕ → List Op → Type 0
FollowFrom at [] = ⊤
FollowFrom at (op ∷ ops) = (at ≤ op.span.start) × (op.span.start ≤ op.span.end) × FollowFrom op.span.end ops

-- The ops that undo a batch; `at` is an offset of the old text and `now` the corresponding offset of the new one.
abbrev pub inverse_from : ℕ → ℕ → List ℕ → List Op → List Op
inverse_from at now x [] = []
inverse_from at now x (op ∷ ops) =
    record {
      span = record { start = now + (op.span.start - at); end = now + (op.span.start - at) + length op.text };
      text = take (op.span.end - op.span.start) (drop op.span.start x);
      force = false;
    } ∷ inverse_from op.span.end (now + (op.span.start - at) + length op.text) x ops

abbrev pub inverse_of : List ℕ → List Op → List Op
inverse_of x ops = inverse_from 0 0 x (sorted_ops ops)

-- the text after the ops are applied one by one, from the last to the first
abbrev pub edited_backwards : List ℕ → List Op → List ℕ
edited_backwards x [] = x
edited_backwards x (op ∷ ops) = edited (edited_backwards x ops) op

-- if they are applied so, the text is of the kind at each step
abbrev pub KeepsKind : Kind → List ℕ → List Op → Type 0
KeepsKind kind x ops = (k : ℕ) → IsOfKind kind (edited_backwards x (drop k ops))

-- the sum of the lengths of the ops' texts
abbrev pub text_units : List Op → ℕ
text_units ops = sum_by (λ op. length op.text) ops

-- The batches of the ops of a joint edit, and what the call does.
use Rattle.std.specs.Prelude.{◌≡◌, ◌⊎◌, ℕ, ◌<◌, ◌==◌, ◌||◌, not, nat_lt, Bool, true, false, if◌then◌else◌, List, [], ◌∷◌, ◌++◌, length, map, take, drop, Option, Result, Ok, Err, ⊤}
use Rattle.std.specs.declared.vec.Vec.{Vec}
use Rattle.std.specs.declared.alloc.Global.{Global}
use Rattle.std.specs.Str.{is_utf8}
use Rattle.unit_text.specs.Text.{units_of}
use Rattle.text_rules.specs.declared.Op.{Op}
use Rattle.document_rules.specs.Refusals.{FlatRefusal, range, unknown}
use Rattle.group_rules.specs.declared.DocBatch.{DocBatch}
use Rattle.group_rules.specs.declared.TheConstants.{DOC_COUNT}
use Rattle.group_rules.specs.declared.GroupError.{GroupError}
use Rattle.group_rules.specs.declared.GroupError.TheVariants.{Memory, Range}
use Rattle.group_rules.specs.Refusals.{GroupRefusal, plain}
use Rattle.group_rules.specs.Group.{FlatGroup, group_edit}
use Rattle.group_rules.specs.Joint.{FlatBatch, flat_batch, group_joint}
use Rattle.group_rules.specs.Outcomes.{ChangesAll}
use Rattle.model_group.specs.State.{documents}
use Rattle.textmodel_c.specs.declared.joint.DocOp.{DocOp}
use Rattle.textmodel_c.specs.declared.contents.Contents.{Contents}
use Rattle.textmodel_c.specs.Statuses.{status_of_joint}
use Rattle.textmodel_c.specs.Rules.{span, before_all, or_refused}
use Rattle.textmodel_c.specs.Told.{Does, LeavesSession}
use Rattle.textmodel_c.specs.Utf8.{InUtf8}

abbrev pub doc_op_of : DocOp → List ℕ → Op
doc_op_of op text = record { span = span op.start op.end; text = text; force = op.force }

abbrev pub one_op_batch : ℕ → Op → FlatBatch
one_op_batch doc op = record { doc = doc; ops = op ∷ [] }

-- Appends the op to the batch if it is for the same document. Otherwise begins a new batch with it.
abbrev pub batch_with : FlatBatch → ℕ → Op → List FlatBatch
batch_with b doc op =
    if b.doc == doc then record { doc = b.doc; ops = b.ops ++ op ∷ [] } ∷ [] else b ∷ one_op_batch doc op ∷ []

-- whether the last batch is of this document
abbrev pub ends_in : List FlatBatch → ℕ → Bool
ends_in [] doc = false
ends_in (b ∷ []) doc = b.doc == doc
ends_in (b ∷ c ∷ batches) doc = ends_in (c ∷ batches) doc

-- the batches with this op added at the end
abbrev pub with_op : List FlatBatch → ℕ → Op → List FlatBatch
with_op [] doc op = one_op_batch doc op ∷ []
with_op (b ∷ []) doc op = batch_with b doc op
with_op (b ∷ c ∷ batches) doc op = b ∷ with_op (c ∷ batches) doc op

-- these batches, followed by those of the ops, whose texts use up the joined text exactly
abbrev pub batches_from : List FlatBatch → List DocOp → List ℕ → Result (List FlatBatch) FlatRefusal
batches_from found [] [] = Ok found
batches_from found [] (unit ∷ text) = Err range
batches_from found (op ∷ ops) text =
    if nat_lt (length text) op.units then Err range
    else batches_from (with_op found op.doc (doc_op_of op (take op.units text))) ops (drop op.units text)

-- the batches of the ops: adjacent ones of one document are its batch
abbrev pub batches_of : List DocOp → List ℕ → Result (List FlatBatch) FlatRefusal
batches_of ops text = batches_from [] ops text

abbrev pub HasOps : DocBatch → Type 0
HasOps b = 0 < length b.ops.items

-- the result is these batches, or `Range` if the texts do not use up the joined text, or `Memory`
abbrev pub GivesBatches : Result (Vec DocBatch Global) GroupError → Result (List FlatBatch) FlatRefusal → Type 0
GivesBatches (Ok batches) rule = rule ≡ Ok (map flat_batch batches.items)
GivesBatches (Err e) rule = (e ≡ Memory) ⊎ ((e ≡ Range) × (rule ≡ Err range))

abbrev pub plainly : Result FlatGroup FlatRefusal → Result FlatGroup GroupRefusal
plainly (Ok g) = Ok g
plainly (Err why) = Err (plain why)

-- the batch carried out in its document
abbrev pub group_batch : FlatBatch → FlatGroup → Result FlatGroup GroupRefusal
group_batch b g = if nat_lt b.doc DOC_COUNT then plainly (group_edit g b.doc b.ops) else Err (plain unknown)

-- the batches carried out, all or none; at least one is needed
abbrev pub joint_of : Result (List FlatBatch) FlatRefusal → FlatGroup → Result FlatGroup GroupRefusal
joint_of (Err why) g = Err (plain why)
joint_of (Ok []) g = Err (plain range)
joint_of (Ok (b ∷ [])) g = group_batch b g
joint_of (Ok (b ∷ c ∷ batches)) g = group_joint g (b ∷ c ∷ batches)

abbrev pub group_joint_of : List DocOp → List ℕ → FlatGroup → Result FlatGroup GroupRefusal
group_joint_of ops text g = joint_of (batches_of ops text) g

-- the batches of the ops are carried out, all or none
abbrev pub JointlyChanged : ℕ → Result (List FlatBatch) FlatRefusal → Contents → Contents → Type 0
JointlyChanged n batches =
    Does status_of_joint (λ answer old new. ChangesAll answer (documents old) (documents new) (joint_of batches (documents old))) n

-- ---- texts in UTF-8

-- The ops, with the lengths of their texts converted from bytes to units. The texts use up the joined text, and none ends inside a
-- character.
abbrev pub ops_in_units : List DocOp → List ℕ → Result (List DocOp) FlatRefusal
ops_in_units [] [] = Ok []
ops_in_units [] (byte ∷ text) = Err range
ops_in_units (op ∷ ops) text =
    if nat_lt (length text) op.units || not (is_utf8 (take op.units text)) then Err range
    else before_all (record op { units = length (units_of (take op.units text)) }) (ops_in_units ops (drop op.units text))

-- the result is the op in units if its text is valid UTF-8, else `Range`; or `Memory`
abbrev pub CountsOp : DocOp → List ℕ → Result DocOp GroupError → Type 0
CountsOp op text (Ok counted) = (is_utf8 text ≡ true) × (counted ≡ record op { units = length (units_of text) })
CountsOp op text (Err e) = (e ≡ Memory) ⊎ ((e ≡ Range) × (is_utf8 text ≡ false))

-- the result is what the rule gives, or `Memory`
abbrev pub GivesOps : Result (Vec DocOp Global) GroupError → Result (List DocOp) FlatRefusal → Type 0
GivesOps (Ok ops) rule = rule ≡ Ok ops.items
GivesOps (Err e) rule = (e ≡ Memory) ⊎ ((e ≡ Range) × (rule ≡ Err range))

abbrev pub batches_in_utf8 : List DocOp → List ℕ → List ℕ → Result (List FlatBatch) FlatRefusal
batches_in_utf8 ops text units = or_refused (ops_in_units ops text) (λ counted. batches_of counted units)

-- `InUtf8` for a joint edit
abbrev pub JointInUtf8 : ℕ → List DocOp → List ℕ → Option Contents → Option Contents → Type 0
JointInUtf8 n ops text old new =
    InUtf8 n text (new ≡ old) (λ units. LeavesSession n old new ⊤ (JointlyChanged n (batches_in_utf8 ops text units)))

-- The batches of ops of several documents, as they are found op by op.
use Rattle.std.proofs.Common.{◌≡◌, ℕ, ◌+◌, ◌-◌, ◌<◌, Bool, true, false, cond, nat_lt, nat_eq, List, [], ◌∷◌, ◌++◌, map, length, take, drop, get_or, set, Result, Ok, Err, refl, sym, ap, ◌∙◌, subst, arith}
use Rattle.std.specs.List.{All}
use Rattle.std.proofs.lemmas.Grind.{common_steps}
use Rattle.std.proofs.lemmas.List.{set_at, take_more, take_all, map-append, length-take-le}
use Rattle.std.proofs.lemmas.List.Elements.{All-nil, All-cons, All-head, All-tail}
use Rattle.text_rules.specs.declared.Op.{Op}
use Rattle.document_rules.specs.Refusals.{FlatRefusal, range}
use Rattle.group_rules.specs.declared.DocBatch.{DocBatch}
use Rattle.group_rules.specs.Joint.{FlatBatch, flat_batch}
use Rattle.textmodel_c.specs.declared.joint.DocOp.{DocOp}
use Rattle.textmodel_c.specs.JointOps.{doc_op_of, one_op_batch, batch_with, ends_in, with_op, batches_from, batches_of}

-- ---- one op more

-- it goes to the last batch, or behind it
with_op-snoc : (front : List FlatBatch) (b : FlatBatch) (doc : ℕ) (op : Op) → with_op (front ++ b ∷ []) doc op ≡ front ++ batch_with b doc op
with_op-snoc [] b doc op = refl
with_op-snoc (x ∷ []) b doc op = refl
with_op-snoc (x ∷ y ∷ front) b doc op = ap (λ (rest : List FlatBatch). x ∷ rest) (with_op-snoc (y ∷ front) b doc op)

ends_in-snoc : (front : List FlatBatch) (b : FlatBatch) (doc : ℕ) → ends_in (front ++ b ∷ []) doc ≡ nat_eq b.doc doc
ends_in-snoc [] b doc = refl
ends_in-snoc (x ∷ []) b doc = refl
ends_in-snoc (x ∷ y ∷ front) b doc = ends_in-snoc (y ∷ front) b doc

-- no batch is of its document
with_op-behind : (found : List FlatBatch) (doc : ℕ) (op : Op) → ends_in found doc ≡ false → with_op found doc op ≡ found ++ one_op_batch doc op ∷ []
with_op-behind [] doc op other = refl
with_op-behind (b ∷ []) doc op other = rw other refl
with_op-behind (b ∷ c ∷ found) doc op other = ap (λ (rest : List FlatBatch). b ∷ rest) (with_op-behind (c ∷ found) doc op other)

pub push_behind : (items : List DocBatch) (doc : ℕ) (op : Op) (new : DocBatch) → ends_in (map flat_batch items) doc ≡ false → new.doc ≡ doc → new.ops.items ≡ op ∷ []
    → map flat_batch (items ++ new ∷ []) ≡ with_op (map flat_batch items) doc op
push_behind items doc op new other doc_is ops_are =
    let new_is : flat_batch new ≡ one_op_batch doc op = cc in
    map-append flat_batch items (new ∷ []) ∙ ap (λ b. map flat_batch items ++ b ∷ []) new_is ∙ sym (with_op-behind (map flat_batch items) doc op other)

pub ends_in-none : (items : List DocBatch) (doc : ℕ) → length items ≡ 0 → ends_in (map flat_batch items) doc ≡ false
ends_in-none [] doc none = refl
ends_in-none (b ∷ items) doc none = absurd (omega arith)

module _ (items : List DocBatch) (last : DocBatch) (some : 0 < length items) (is : get_or items (length items - 1) last ≡ last) where
  front : List DocBatch
  front = take (length items - 1) items

  items_end : items ≡ front ++ last ∷ []
  unfolding front
  items_end =
      let at : length items - 1 < length items = omega arith in
      let whole : length items - 1 + 1 ≡ length items = omega arith in
      sym (take_all (length items) items (omega arith)) ∙ ap (λ n. take n items) (sym whole) ∙ take_more items (length items - 1) last at
      ∙ ap (λ x. take (length items - 1) items ++ x ∷ []) is

  flat_end : map flat_batch items ≡ map flat_batch front ++ flat_batch last ∷ []
  flat_end = ap (map flat_batch) items_end ∙ map-append flat_batch front (last ∷ [])

  pub ends_in-last : (doc : ℕ) → ends_in (map flat_batch items) doc ≡ nat_eq last.doc doc
  ends_in-last doc = ap (λ bs. ends_in bs doc) flat_end ∙ ends_in-snoc (map flat_batch front) (flat_batch last) doc

  -- the last batch has one op more
  pub put_last : (doc : ℕ) (op : Op) (new : DocBatch) → ends_in (map flat_batch items) doc ≡ true → new.doc ≡ last.doc → new.ops.items ≡ last.ops.items ++ op ∷ []
      → map flat_batch (set items (length items - 1) new) ≡ with_op (map flat_batch items) doc op
  unfolding front
  put_last doc op new same doc_is ops_are =
      let len : length front ≡ length items - 1 = length-take-le (length items - 1) items (omega arith) in
      let new_is : flat_batch new ≡ record { doc = last.doc; ops = last.ops.items ++ op ∷ [] } = cc in
      let own : nat_eq last.doc doc ≡ true = sym (ends_in-last doc) ∙ same in
      ap (λ xs. map flat_batch (set xs (length items - 1) new)) items_end
      ∙ ap (map flat_batch) (set_at front last [] new (length items - 1) len)
      ∙ map-append flat_batch front (new ∷ [])
      ∙ ap (λ b. map flat_batch front ++ b ∷ []) new_is
      ∙ ap (λ bs. map flat_batch front ++ bs) (sym (rw own refl))
      ∙ sym (ap (λ bs. with_op bs doc op) flat_end ∙ with_op-snoc (map flat_batch front) (flat_batch last) doc op)

-- ---- no batch is empty

abbrev HasOps : FlatBatch → Type 0
HasOps b = 0 < length b.ops

some_with : (b : FlatBatch) (doc : ℕ) (op : Op) (is_same : Bool) → HasOps b
    → All HasOps (cond is_same (record { doc = b.doc; ops = b.ops ++ op ∷ [] } ∷ []) (b ∷ one_op_batch doc op ∷ []))
some_with b doc op true some = All-cons HasOps (record { doc = b.doc; ops = b.ops ++ op ∷ [] }) [] (grind (arith, common_steps)) (All-nil HasOps)
some_with b doc op false some = All-cons HasOps b (one_op_batch doc op ∷ []) some (All-cons HasOps (one_op_batch doc op) [] (omega arith) (All-nil HasOps))

some_with_op : (found : List FlatBatch) (doc : ℕ) (op : Op) → All HasOps found → All HasOps (with_op found doc op)
some_with_op [] doc op some = All-cons HasOps (one_op_batch doc op) [] (omega arith) (All-nil HasOps)
some_with_op (b ∷ []) doc op some = some_with b doc op (nat_eq b.doc doc) (All-head HasOps b [] some)
some_with_op (b ∷ c ∷ found) doc op some =
    All-cons HasOps b (with_op (c ∷ found) doc op) (All-head HasOps b (c ∷ found) some) (some_with_op (c ∷ found) doc op (All-tail HasOps b (c ∷ found) some))

unless_short : (is_short : Bool) (rest : Result (List FlatBatch) FlatRefusal) (batches : List FlatBatch) → cond is_short (Err range) rest ≡ Ok batches → rest ≡ Ok batches
unless_short true rest batches is = absurd cc
unless_short false rest batches is = is

some_from : (found : List FlatBatch) (ops : List DocOp) (text : List ℕ) (batches : List FlatBatch) → batches_from found ops text ≡ Ok batches → All HasOps found
    → All HasOps batches
some_from found [] [] batches is some = let same : found ≡ batches = cc in subst (All HasOps) same some
some_from found [] (unit ∷ text) batches is some = absurd cc
some_from found (op ∷ ops) text batches is some =
    some_from (with_op found op.doc (doc_op_of op (take op.units text))) ops (drop op.units text) batches
    (unless_short (nat_lt (length text) op.units) _ batches is) (some_with_op found op.doc (doc_op_of op (take op.units text)) some)

of_items : (items : List DocBatch) → All HasOps (map flat_batch items) → All (λ (b : DocBatch). 0 < length b.ops.items) items
of_items [] some = All-nil (λ (b : DocBatch). 0 < length b.ops.items)
of_items (b ∷ items) some =
    All-cons (λ (b : DocBatch). 0 < length b.ops.items) b items (All-head HasOps (flat_batch b) (map flat_batch items) some)
    (of_items items (All-tail HasOps (flat_batch b) (map flat_batch items) some))

pub all_have_ops : (ops : List DocOp) (text : List ℕ) (items : List DocBatch) → batches_of ops text ≡ Ok (map flat_batch items)
    → All (λ (b : DocBatch). 0 < length b.ops.items) items
all_have_ops ops text items is = of_items items (some_from [] ops text (map flat_batch items) is (All-nil HasOps))

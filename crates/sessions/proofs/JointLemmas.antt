-- A joint edit: its batches at their spans, one after another, and what comes of them.
use Rattle.std.proofs.Common.{◌≡◌, ◌⊎◌, inl, inr, ℕ, suc, ◌+◌, ◌<◌, ◌≤◌, ◌||◌, nat_le, ◌==◌, true, false, if◌then◌else◌, List, [], ◌∷◌, ◌++◌, map, length, take, get_or, Option, Some, None, Ok, Err, codes, refl, ap, sym, ◌∙◌, subst, append-nil, arith}
use Rattle.std.specs.List.{All, flat_map, list_any}
use Rattle.std.specs.Option.{option_and_then, option_map}
use Rattle.std.proofs.lemmas.Bool.{or_parts, leb-false}
use Rattle.std.proofs.lemmas.Grind.{flat_map-append}
use Rattle.std.proofs.lemmas.List.{take_more, take_all}
use Rattle.std.proofs.lemmas.List.Elements.{All-nil, All-cons, All-head, All-tail}
use Rattle.text_rules.specs.declared.Op.{Op}
use Rattle.document_rules.specs.Document.{FlatState}
use Rattle.group_rules.specs.declared.TheConstants.{DOC_COUNT}
use Rattle.group_rules.specs.declared.DocBatch.{DocBatch}
use Rattle.document_rules.specs.declared.ModelError.{ModelError}
use Rattle.document_rules.specs.declared.ModelError.TheVariants as one
use Rattle.group_rules.specs.declared.GroupError.{GroupError}
use Rattle.group_rules.specs.declared.GroupError.TheVariants as error
use Rattle.group_rules.specs.Group.{FlatGroup, doc_in}
use Rattle.group_rules.specs.Joint.{FlatBatch, flat_batch, names_badly, group_joint}
use Rattle.group_rules.specs.Outcomes.{IsRefusedFor, ChangesAll}
use Rattle.script_lines.specs.declared.op.LineOp.{LineOp}
use Rattle.script_lines.specs.declared.request.DocEdit.{DocEdit}
use Rattle.script_lines.specs.declared.reason.Refusal.TheVariants as refusal
use Rattle.script_lines.specs.Replies.{number_part, refusal_reply}
use Rattle.session_rules.specs.Step.{op_at, ops_at, batches_at, doc_numbers, joint_reply, joined_by, joined_at, joint_answer, Answers, answered, out_of_memory}
use Rattle.session_rules.specs.Script.{is_refused}
use Rattle.sessions.specs.declared.outcome.Reply.{Reply}
use Rattle.sessions.specs.Bytes.{bytes_of, refusal_of, refusal_of_group}
use Rattle.script_lines.specs.Proper.{HasOps}
use Rattle.sessions.specs.Joint.{doc_part}
use Rattle.sessions.specs.Told.{TellsBy}
use Rattle.sessions.proofs.AnswerLemmas.{tells_memory}

-- ---- batches at their spans

and_then_some : {A B : Type 0} (f : A → Option B) (o : Option A) (b : B) → option_and_then f o ≡ Some b → (a : A) × (o ≡ Some a) × (f a ≡ Some b)
and_then_some f None b is = absurd cc
and_then_some f (Some a) b is = (a, refl, is)

and_then_none : {A B : Type 0} (f : A → Option B) (o : Option A) → ((a : A) → f a ≡ None) → option_and_then f o ≡ None
and_then_none f None each = refl
and_then_none f (Some a) each = each a

ops_at-length : (f : FlatState) (ops : List LineOp) (found : List Op) → ops_at f ops ≡ Some found → length found ≡ length ops
ops_at-length f [] found is = let none : found ≡ [] = cc in ap length none
ops_at-length f (op ∷ ops) found is =
    let first = and_then_some (λ x. option_map (λ xs. x ∷ xs) (ops_at f ops)) (op_at f op) found is in
    let rest = mapped first.0 (ops_at f ops) found first.2 in
    ap length rest.2 ∙ ap suc (ops_at-length f ops rest.0 rest.1)
  where
    mapped : (x : Op) (o : Option (List Op)) (all : List Op) → option_map (λ xs. x ∷ xs) o ≡ Some all → (xs : List Op) × (o ≡ Some xs) × (all ≡ x ∷ xs)
    mapped x None all is = absurd cc
    mapped x (Some xs) all is = (xs, refl, cc)

heads : {X : Type 0} (x y : X) (xs ys : List X) → x ∷ xs ≡ y ∷ ys → (x ≡ y) × (xs ≡ ys)
heads x y xs ys is = (cc, cc)

module _ (g : FlatGroup) where
  -- the first batch and the others
  record IsFirst (edit : DocEdit) (edits : List DocEdit) (found : List FlatBatch) : Type 0 where
    pub ops : List Op
    pub batches : List FlatBatch
    pub here : ops_at (doc_in g edit.doc) edit.ops ≡ Some ops
    pub rest : batches_at g edits ≡ Some batches
    pub all : found ≡ record { doc = edit.doc; ops = ops } ∷ batches

  first_batch : (edit : DocEdit) (edits : List DocEdit) (found : List FlatBatch) → batches_at g (edit ∷ edits) ≡ Some found → IsFirst edit edits found
  first_batch edit edits found is =
      let first = and_then_some _ (ops_at (doc_in g edit.doc) edit.ops) found is in
      let rest = and_then_some _ (batches_at g edits) found first.2 in
      record { ops = first.0; batches = rest.0; here = first.1; rest = rest.1; all = cc }

  pub batches_at-more : (edits : List DocEdit) (edit : DocEdit) (found : List FlatBatch) (ops : List Op) → batches_at g edits ≡ Some found
      → ops_at (doc_in g edit.doc) edit.ops ≡ Some ops → batches_at g (edits ++ edit ∷ []) ≡ Some (found ++ record { doc = edit.doc; ops = ops } ∷ [])
  batches_at-more [] edit found ops before is =
      let none : found ≡ [] = cc in
      rw (is, none) refl
  batches_at-more (e ∷ edits) edit found ops before is =
      let first = first_batch e edits found before in
      let more = batches_at-more edits edit first.batches ops first.rest is in
      by first.ops first.batches first.here more first.all
    where
      by : (own : List Op) (batches : List FlatBatch) → ops_at (doc_in g e.doc) e.ops ≡ Some own
          → batches_at g (edits ++ edit ∷ []) ≡ Some (batches ++ record { doc = edit.doc; ops = ops } ∷ []) → found ≡ record { doc = e.doc; ops = own } ∷ batches
          → batches_at g (e ∷ edits ++ edit ∷ []) ≡ Some (found ++ record { doc = edit.doc; ops = ops } ∷ [])
      by own batches here more all = rw (here, more) (ap (λ (x : List FlatBatch). Some (x ++ record { doc = edit.doc; ops = ops } ∷ [])) (sym all))

  pub batches_at-refused : (edits : List DocEdit) (edit : DocEdit) (rest : List DocEdit) → ops_at (doc_in g edit.doc) edit.ops ≡ None
      → batches_at g (edits ++ edit ∷ rest) ≡ None
  batches_at-refused [] edit rest none = rw none refl
  batches_at-refused (e ∷ edits) edit rest none =
      let later = batches_at-refused edits edit rest none in
      and_then_none _ (ops_at (doc_in g e.doc) e.ops) (λ ops. rw later refl)

  -- there are as many as edits, and as many ops in each
  pub found_some : (edits : List DocEdit) (batches : List DocBatch) → batches_at g edits ≡ Some (map flat_batch batches)
      → All HasOps edits → (length batches ≡ length edits) × All (λ (b : DocBatch). 0 < length b.ops.items) batches
  found_some [] [] is some = (refl, All-nil (λ (b : DocBatch). 0 < length b.ops.items))
  found_some [] (b ∷ batches) is some = absurd cc
  found_some (e ∷ edits) [] is some =
      let first = first_batch e edits [] is in
      let all = first.all in absurd cc
  found_some (e ∷ edits) (b ∷ batches) is some =
      let first = first_batch e edits (map flat_batch (b ∷ batches)) is in
      let same = heads (flat_batch b) (record { doc = e.doc; ops = first.ops }) (map flat_batch batches) first.batches first.all in
      let rest_is : map flat_batch batches ≡ first.batches = same.1 in
      let ops_is : b.ops.items ≡ first.ops = ap (λ (x : FlatBatch). x.ops) same.0 in
      let rest = found_some edits batches (first.rest ∙ ap Some (sym rest_is)) (All-tail HasOps e edits some) in
      let count = ap length ops_is ∙ ops_at-length (doc_in g e.doc) e.ops first.ops first.here in
      (ap suc rest.0, All-cons (λ (b : DocBatch). 0 < length b.ops.items) b batches (omega (arith, count, All-head HasOps e edits some)) rest.1)

-- ---- their documents

-- what holds of all holds of one
pub all_at : {X : Type 0} (P : X → Type 0) (xs : List X) (x : X) (rest : List X) → All P (xs ++ x ∷ rest) → P x
all_at P [] x rest all = All-head P x rest all
all_at P (y ∷ xs) x rest all = all_at P xs x rest (All-tail P y (xs ++ x ∷ rest) all)

pub all_there : (docs : List ℕ) → names_badly docs ≡ false → All (λ n. n < DOC_COUNT) docs
all_there [] good = All-nil (λ n. n < DOC_COUNT)
all_there (n ∷ docs) good =
    let parts = or_parts (nat_le DOC_COUNT n || list_any (λ m. m == n) docs) (names_badly docs) good in
    let first = or_parts (nat_le DOC_COUNT n) (list_any (λ m. m == n) docs) parts.0 in
    All-cons (λ n. n < DOC_COUNT) n docs (omega (arith, leb-false DOC_COUNT n first.0)) (all_there docs parts.1)

pub edits_there : (edits : List DocEdit) → All (λ n. n < DOC_COUNT) (map (λ (edit : DocEdit). edit.doc) edits) → All (λ (edit : DocEdit). edit.doc < DOC_COUNT) edits
edits_there [] there = All-nil (λ (edit : DocEdit). edit.doc < DOC_COUNT)
edits_there (e ∷ edits) there =
    let docs = map (λ (edit : DocEdit). edit.doc) edits in
    All-cons (λ (edit : DocEdit). edit.doc < DOC_COUNT) e edits (All-head (λ n. n < DOC_COUNT) e.doc docs there)
    (edits_there edits (All-tail (λ n. n < DOC_COUNT) e.doc docs there))

-- ---- what is answered

module _ (g : FlatGroup) (edits : List DocEdit) (docs : List ℕ) (are : docs ≡ map (λ (edit : DocEdit). edit.doc) edits) where
  answered_by : joint_answer g edits ≡ (if names_badly docs then (refusal_reply refusal.Unknown, g) else joined_at g docs (batches_at g edits))
  answered_by = ap (λ ns. if names_badly ns then (refusal_reply refusal.Unknown, g) else joined_at g ns (batches_at g edits)) (sym are)

  -- a document is not there, or is named twice
  pub tells_badly : names_badly docs ≡ true → TellsBy (joint_answer g edits) g (Err (record { 0 = refusal.Unknown })) g
  tells_badly bad =
      let rule : joint_answer g edits ≡ (refusal_reply refusal.Unknown, g) = answered_by ∙ rw bad refl in
      record { answer = answered (ap (λ r. r.0) (sym rule)) (ap (λ r. r.1) (sym rule)); accepted = tt }

  module _ (good : names_badly docs ≡ false) where
    -- a position is invalid
    tells_no_batches : batches_at g edits ≡ None → TellsBy (joint_answer g edits) g (Err (record { 0 = refusal.Range })) g
    tells_no_batches none =
        let rule : joint_answer g edits ≡ (refusal_reply refusal.Range, g) = answered_by ∙ rw (good, none) refl in
        record { answer = answered (ap (λ r. r.0) (sym rule)) (ap (λ r. r.1) (sym rule)); accepted = tt }

    -- no batches, or no memory for them
    pub tells_unfound : (e : ModelError) (new : FlatGroup) → new ≡ g → (e ≡ one.Memory) ⊎ ((e ≡ one.Range) × (batches_at g edits ≡ None))
        → TellsBy (joint_answer g edits) g (Err (record { 0 = refusal_of e })) new
    tells_unfound e new same (inl memory) =
        rw memory (tells_memory (joint_answer g edits) g new same)
    tells_unfound e new same (inr (range, none)) =
        rw range (subst (TellsBy (joint_answer g edits) g (Err (record { 0 = refusal.Range }))) (sym same) (tells_no_batches none))

    joined_rule : (batches : List FlatBatch) → batches_at g edits ≡ Some batches → joint_answer g edits ≡ joined_by g docs (group_joint g batches)
    joined_rule batches found = answered_by ∙ rw (good, found) refl

    -- the group refused
    pub tells_unjoined : (batches : List FlatBatch) (e : GroupError) (new : FlatGroup) → batches_at g edits ≡ Some batches
        → ChangesAll (Err e) g new (group_joint g batches) → TellsBy (joint_answer g edits) g (Err (record { 0 = refusal_of_group e })) new
    tells_unjoined batches e new found (same, why) = record { answer = by e why; accepted = tt }
      where
        told : (reply : List ℕ) → joined_by g docs (group_joint g batches) ≡ (reply, g) → Answers (joint_answer g edits) g reply new
        told reply is =
            let rule = joined_rule batches found ∙ is in answered (ap (λ r. r.0) (sym rule)) (same ∙ ap (λ r. r.1) (sym rule))

        by : (e : GroupError) → IsRefusedFor e (group_joint g batches) → Answers (joint_answer g edits) g (refusal_reply (refusal_of_group e)) new
        by error.Unknown why = told _ (ap (joined_by g docs) why)
        by error.Range why = told _ (ap (joined_by g docs) why)
        by error.Overlap why = told _ (ap (joined_by g docs) why)
        by error.Limit why = told _ (ap (joined_by g docs) why)
        by (error.Joint n) why = told _ (ap (joined_by g docs) why)
        by error.Memory why = out_of_memory refl same

    -- all batches were carried out
    pub tells_joined : (batches : List FlatBatch) (new : FlatGroup) (reply : Reply) → batches_at g edits ≡ Some batches → group_joint g batches ≡ Ok new
        → bytes_of reply ≡ joint_reply new docs → TellsBy (joint_answer g edits) g (Ok reply) new
    tells_joined batches new reply found is bytes =
        let rule = joined_rule batches found ∙ ap (joined_by g docs) is in
        record { answer = answered (bytes ∙ ap (λ r. r.0) (sym rule)) (ap (λ r. r.1) (sym rule)); accepted = ap is_refused bytes }

-- ---- the bytes

numbers_of : (g : FlatGroup) (docs : List ℕ) → flat_map number_part (flat_map (doc_numbers g) docs) ≡ flat_map (λ n. doc_part n (doc_in g n)) docs
numbers_of g [] = refl
numbers_of g (n ∷ docs) =
    flat_map-append number_part (doc_numbers g n) (flat_map (doc_numbers g) docs) ∙ ap (λ x. doc_part n (doc_in g n) ++ x) (numbers_of g docs)

-- the parts of all documents, between `ok` and LF
pub joint_reply-parts : (g : FlatGroup) (docs : List ℕ) → joint_reply g docs ≡ (codes "ok" ++ flat_map (λ n. doc_part n (doc_in g n)) docs) ++ codes "\n"
joint_reply-parts g docs = ap (λ x. (codes "ok" ++ x) ++ codes "\n") (numbers_of g docs)

-- the parts of one document more, and of all
pub flat_map-take_more : (part : ℕ → List ℕ) (docs : List ℕ) (i : ℕ) → i < length docs
    → flat_map part (take (i + 1) docs) ≡ flat_map part (take i docs) ++ part (get_or docs i 0)
flat_map-take_more part docs i inside =
    ap (flat_map part) (take_more docs i 0 inside) ∙ flat_map-append part (take i docs) (get_or docs i 0 ∷ [])
    ∙ ap (λ x. flat_map part (take i docs) ++ x) (append-nil (part (get_or docs i 0)))

pub flat_map-take_all : (part : ℕ → List ℕ) (docs : List ℕ) (i : ℕ) → length docs ≤ i → flat_map part (take i docs) ≡ flat_map part docs
flat_map-take_all part docs i past = ap (flat_map part) (take_all i docs past)

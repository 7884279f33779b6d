-- For which edit or decoration a call was refused.
use Rattle.std.specs.Prelude.{◌≡◌, ℕ, suc, ◌-◌, ◌<◌, ◌==◌, ◌||◌, Bool, true, false, nat_lt, if◌then◌else◌, List, [], ◌∷◌, length, map, filter, take, Option, Some, None, Result, Ok, Err, ⊤}
use Rattle.std.specs.List.{list_any}
use Rattle.text_rules.specs.declared.Op.{Op}
use Rattle.text_rules.specs.Edits.{is_bad_span}
use Rattle.batch_rules.specs.Batches.{overlap, sorted_ops}
use Rattle.decoration_rules.specs.Decorations.{is_bad, is_unknown}
use Rattle.document_rules.specs.Document.{FlatState, empty_document}
use Rattle.group_rules.specs.declared.TheConstants.{DOC_COUNT}
use Rattle.group_rules.specs.Group.{FlatGroup, doc_in}
use Rattle.group_rules.specs.Joint.{names_badly}
use Rattle.model_group.specs.State.{documents}
use Rattle.textmodel_c.specs.declared.joint.DocOp.{DocOp}
use Rattle.textmodel_c.specs.declared.marks.NewDecoration.{NewDecoration}
use Rattle.textmodel_c.specs.declared.status.Status.{Status}
use Rattle.textmodel_c.specs.declared.status.Status.TheVariants as status
use Rattle.textmodel_c.specs.declared.contents.Contents.{Contents}
use Rattle.textmodel_c.specs.Documents.{document_in}
use Rattle.textmodel_c.specs.JointOps.{doc_op_of}
use Rattle.textmodel_c.specs.Rules.{span, new_deco_of}
use Rattle.textmodel_c.specs.Statuses.{number_of}
use Rattle.textmodel_c.specs.Told.{Called, CalledOn, Numbers}

-- the statuses for which an edit or a decoration may be at fault, by their numbers; all others give `Ok`
abbrev pub refusal_of : ℕ → Status
refusal_of number =
    if number == number_of status.Unknown then status.Unknown else
    (if number == number_of status.Range then status.Range else
    (if number == number_of status.Overlap then status.Overlap else status.Ok))

-- ---- joint edits

-- the documents of the ops in order, where adjacent ops of one document count once
abbrev pub docs_in_turn : List DocOp → List ℕ
docs_in_turn [] = []
docs_in_turn (op ∷ []) = op.doc ∷ []
docs_in_turn (op ∷ next ∷ ops) =
    if op.doc == next.doc then docs_in_turn (next ∷ ops) else op.doc ∷ docs_in_turn (next ∷ ops)

-- the texts of the ops have more than `left` units
abbrev pub pass_end : ℕ → List DocOp → Bool
pass_end left [] = false
pass_end left (op ∷ ops) = nat_lt left op.units || pass_end (left - op.units) ops

-- the document of this number, or an empty one where there is none
abbrev pub document_of : FlatGroup → ℕ → FlatState
document_of g doc = if nat_lt doc DOC_COUNT then doc_in g doc else empty_document

-- the span of the op is invalid in its document
abbrev pub has_bad_span : FlatGroup → DocOp → Bool
has_bad_span g op = let f = document_of g op.doc in is_bad_span f.kind f.units (span op.start op.end)

-- the ops of one document, without their texts
abbrev pub spans_on : ℕ → List DocOp → List Op
spans_on doc ops = map (λ op. doc_op_of op []) (filter (λ (op : DocOp). op.doc == doc) ops)

-- two of the ops on the document overlap
abbrev pub overlap_on : ℕ → List DocOp → Bool
overlap_on doc ops = overlap (sorted_ops (spans_on doc ops))

-- two of the ops on one document overlap
abbrev pub some_overlap : List DocOp → Bool
some_overlap ops = list_any (λ doc. overlap_on doc ops) (docs_in_turn ops)

-- `so` holds of the first n + 1 items, and not of the first n
pub record IsFirst {A : Type 0} (so : List A → Bool) (xs : List A) (n : ℕ) : Type 0 where
  pub within : n < length xs
  pub before : so (take n xs) ≡ false
  pub there : so (take (suc n) xs) ≡ true

-- the index of the first item with which `so` holds of the items up to it; None if it does not hold of all items
abbrev pub FindsFirst : {A : Type 0} → (List A → Bool) → List A → Option ℕ → Type 0
FindsFirst so xs None = so xs ≡ false
FindsFirst so xs (Some n) = IsFirst so xs n

-- the edit with this index is at fault: the edits before it would not be refused with this status
abbrev pub IsAtFault : Status → FlatGroup → ℕ → List DocOp → ℕ → Type 0
IsAtFault status.Unknown g left ops n = IsFirst (λ ops. names_badly (docs_in_turn ops)) ops n
IsAtFault status.Range g left ops n = IsFirst (λ ops. pass_end left ops || list_any (has_bad_span g) ops) ops n
IsAtFault status.Overlap g left ops n = IsFirst some_overlap ops n
IsAtFault s g left ops n = ⊥

-- no single edit is at fault for this status
abbrev pub NoneIsAtFault : Status → FlatGroup → ℕ → List DocOp → Type 0
NoneIsAtFault status.Unknown g left ops = names_badly (docs_in_turn ops) ≡ false
NoneIsAtFault status.Range g left ops = (pass_end left ops || list_any (has_bad_span g) ops) ≡ false
NoneIsAtFault status.Overlap g left ops = some_overlap ops ≡ false
NoneIsAtFault s g left ops = ⊤

abbrev pub FindsEdit : Status → FlatGroup → ℕ → List DocOp → Option ℕ → Type 0
FindsEdit why g left ops None = NoneIsAtFault why g left ops
FindsEdit why g left ops (Some n) = IsAtFault why g left ops n

-- the index that was found is stored, if any
abbrev pub TellsPlace : {E : Type 0} → Result (Option ℕ) E → Status → ℕ → ℕ → Type 0
TellsPlace (Ok (Some n)) s out out' = (s ≡ status.Ok) × (out' ≡ n)
TellsPlace (Ok None) s out out' = (s ≡ status.Nothing) × (out' ≡ out)
TellsPlace (Err e) s out out' = (s ≡ status.Memory) × (out' ≡ out)

-- the index of the edit is stored, or there is none, or memory is short
abbrev pub EditAtFault : Status → Status → FlatGroup → ℕ → List DocOp → ℕ → ℕ → Type 0
EditAtFault status.Ok why g left ops out out' = IsAtFault why g left ops out'
EditAtFault status.Nothing why g left ops out out' = NoneIsAtFault why g left ops × (out' ≡ out)
EditAtFault status.Memory why g left ops out out' = out' ≡ out
EditAtFault s why g left ops out out' = ⊥

abbrev pub EditAtFaultHeld : ℕ → ℕ → Option Contents → ℕ → List DocOp → ℕ → ℕ → Type 0
EditAtFaultHeld n why held left ops out out' = Called n held (out' ≡ out)
    (λ c. Numbers n (λ s. EditAtFault s (refusal_of why) (documents c.session.group) left ops out out'))

-- ---- decorations

-- the decoration with this index, in the list to remove or to add, is at fault for this status
abbrev pub DecoIsAtFault : Status → FlatState → ℕ → List ℕ → List NewDecoration → ℕ → Type 0
DecoIsAtFault status.Unknown f owner remove add n = IsFirst (is_unknown f.decorations.marks owner) remove n
DecoIsAtFault status.Range f owner remove add n = IsFirst (list_any (λ new. is_bad f.kind f.units (new_deco_of new))) add n
DecoIsAtFault s f owner remove add n = ⊥

abbrev pub NoDecoIsAtFault : Status → FlatState → ℕ → List ℕ → List NewDecoration → Type 0
NoDecoIsAtFault status.Unknown f owner remove add = is_unknown f.decorations.marks owner remove ≡ false
NoDecoIsAtFault status.Range f owner remove add = list_any (λ new. is_bad f.kind f.units (new_deco_of new)) add ≡ false
NoDecoIsAtFault s f owner remove add = ⊤

abbrev pub FindsDecoration : Status → FlatState → ℕ → List ℕ → List NewDecoration → Option ℕ → Type 0
FindsDecoration why f owner remove add None = NoDecoIsAtFault why f owner remove add
FindsDecoration why f owner remove add (Some n) = DecoIsAtFault why f owner remove add n

abbrev pub DecorationAtFault : Status → Status → FlatState → ℕ → List ℕ → List NewDecoration → ℕ → ℕ → Type 0
DecorationAtFault status.Ok why f owner remove add out out' = DecoIsAtFault why f owner remove add out'
DecorationAtFault status.Nothing why f owner remove add out out' = NoDecoIsAtFault why f owner remove add × (out' ≡ out)
DecorationAtFault status.Memory why f owner remove add out out' = out' ≡ out
DecorationAtFault s why f owner remove add out out' = ⊥

abbrev pub DecorationAtFaultHeld : ℕ → ℕ → ℕ → Option Contents → ℕ → List ℕ → List NewDecoration → ℕ → ℕ → Type 0
DecorationAtFaultHeld n why doc held owner remove add out out' = CalledOn n doc held (out' ≡ out)
    (λ c. Numbers n (λ s. DecorationAtFault s (refusal_of why) (document_in c.session.group doc) owner remove add out out'))

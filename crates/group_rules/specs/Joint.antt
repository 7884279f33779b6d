-- A joint edit: one batch in each of several documents, all or none.
use Rattle.std.specs.Prelude.{ℕ, ◌+◌, ◌^◌, ◌==◌, ◌||◌, min, Bool, true, false, nat_le, if◌then◌else◌, List, [], ◌∷◌, map, sum_by, Option, Some, None, Result, Ok, Err}
use Rattle.std.specs.List.{list_any, flat_map}
use Rattle.undo_rules.specs.declared.Tag.{Tag}
use Rattle.text_rules.specs.declared.Op.{Op}
use Rattle.document_rules.specs.Refusals.{FlatRefusal, unknown, range, overlap, limit}
use Rattle.document_rules.specs.Document.{FlatState, flat_edit, flat_tag}
use Rattle.search_rules.specs.Replacing.{edited_alone}
use Rattle.group_rules.specs.declared.TheConstants.{DOC_COUNT}
use Rattle.group_rules.specs.declared.DocBatch.{DocBatch}
use Rattle.group_rules.specs.Refusals.{GroupRefusal, plain}
use Rattle.group_rules.specs.Group.{FlatGroup, doc_in, each_from, lost_by_change, without_tags}

-- a batch, and the number of the document that it applies to
pub record FlatBatch : Type 0 where
  pub doc : ℕ
  pub ops : List Op

abbrev pub flat_batch : DocBatch → FlatBatch
flat_batch b = record { doc = b.doc; ops = b.ops.items }

abbrev pub docs_of : List FlatBatch → List ℕ
docs_of batches = map (λ (b : FlatBatch). b.doc) batches

-- ---- refusals

-- one of these numbers is out of range, or occurs twice
abbrev pub names_badly : List ℕ → Bool
names_badly [] = false
names_badly (n ∷ docs) = nat_le DOC_COUNT n || list_any (λ m. m == n) docs || names_badly docs

abbrev pub is_same_refusal : FlatRefusal → FlatRefusal → Bool
is_same_refusal unknown unknown = true
is_same_refusal range range = true
is_same_refusal overlap overlap = true
is_same_refusal limit limit = true
is_same_refusal why other = false

abbrev pub is_refused_for : {A : Type 0} → FlatRefusal → Result A FlatRefusal → Bool
is_refused_for why (Ok x) = false
is_refused_for why (Err other) = is_same_refusal why other

-- one of the batches is refused for this reason
abbrev pub some_refused : FlatRefusal → FlatGroup → List FlatBatch → Bool
some_refused why g batches = list_any (λ (b : FlatBatch). is_refused_for why (flat_edit (doc_in g b.doc) b.ops)) batches

-- The reason for which the edit is refused. Each reason is checked for all batches before the next reason.
abbrev pub joint_refusal : FlatGroup → List FlatBatch → Option FlatRefusal
joint_refusal g batches =
    if names_badly (docs_of batches) then Some unknown else
    (if some_refused range g batches then Some range else
    (if some_refused overlap g batches then Some overlap else
    (if some_refused limit g batches then Some limit else None)))

-- ---- the effect

-- the set of the documents as a bit mask, and the least of them
abbrev pub members_of : List FlatBatch → ℕ
members_of batches = sum_by (λ (b : FlatBatch). 2 ^ b.doc) batches

abbrev pub least_of : List FlatBatch → ℕ
least_of [] = DOC_COUNT
least_of (b ∷ batches) = min b.doc (least_of batches)

abbrev pub tag_of : FlatGroup → List FlatBatch → Tag
tag_of g batches = record {
  least = least_of batches;
  version = (doc_in g (least_of batches)).version + 1;
  members = members_of batches;
}

-- the batch for document n, if there is one
abbrev pub batch_for : ℕ → List FlatBatch → Option (List Op)
batch_for n [] = None
batch_for n (b ∷ batches) = if b.doc == n then Some b.ops else batch_for n batches

-- the tags that are lost with the redo steps of the edited documents
abbrev pub lost_by_joint : FlatGroup → List FlatBatch → List Tag
lost_by_joint g batches = flat_map (λ (b : FlatBatch). lost_by_change (doc_in g b.doc)) batches

-- the document after its batch, which is a step of its own with the tag; unchanged if it has no ops or is refused
abbrev pub tagged_after : Tag → FlatState → Result (Option FlatState) FlatRefusal → FlatState
tagged_after tag f (Ok (Some new)) = flat_tag new tag
tagged_after tag f (Ok None) = f
tagged_after tag f (Err why) = f

-- a document with a batch carries it out, and any other document loses tags
abbrev pub joined_doc : Tag → List Tag → ℕ → FlatState → Option (List Op) → FlatState
joined_doc tag lost n f (Some ops) = tagged_after tag f (edited_alone f ops)
joined_doc tag lost n f None = without_tags lost n f

abbrev pub joined : FlatGroup → List FlatBatch → FlatGroup
joined g batches =
    each_from 0 (λ n f. joined_doc (tag_of g batches) (lost_by_joint g batches) n f (batch_for n batches)) g

abbrev pub unless_refused : FlatGroup → Option FlatRefusal → Result FlatGroup GroupRefusal
unless_refused new (Some why) = Err (plain why)
unless_refused new None = Ok new

abbrev pub group_joint : FlatGroup → List FlatBatch → Result FlatGroup GroupRefusal
group_joint g batches = unless_refused (joined g batches) (joint_refusal g batches)

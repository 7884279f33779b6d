-- What a joint edit answers where a set has all its documents or none.
use Rattle.std.proofs.Common.{◌≡◌, ℕ, Bool, true, false, if◌then◌else◌, List, [], ◌∷◌, ◌++◌, map, length, Option, Some, None, All, refl, sym, ap, ap₂, subst, ◌∙◌}
use Rattle.std.proofs.lemmas.List.Elements.{All-head, All-tail, All-weaker}
use Rattle.std.specs.List.{flat_map}
use Rattle.text_rules.specs.declared.Op.{Op}
use Rattle.document_rules.specs.Refusals.{FlatRefusal}
use Rattle.document_rules.specs.Document.{FlatState, empty_document, flat_line_count}
use Rattle.group_rules.specs.Group.{FlatGroup, doc_in, lost_by_change}
use Rattle.group_rules.specs.Joint.{FlatBatch, docs_of, names_badly, joint_refusal, tag_of, lost_by_joint, joined, unless_refused, group_joint}
use Rattle.group_rules.proofs.Members.{is_named, is_member-tag_of, named_kept}
use Rattle.group_rules.proofs.Kept.{lost_by_change_kept, AllTagsIn-joined}
use Rattle.group_rules.proofs.Alike.{SameIn, SameItems-self, HaveSame, HaveSame-in, joint_refusal_same, SameIn-joined}
use Rattle.group_rules.proofs.Apart.{IsOutside, lost_by_joint_kept, SameIn-joined_outside}
use Rattle.script_lines.specs.declared.request.DocEdit.{DocEdit}
use Rattle.script_lines.specs.declared.reason.Refusal.TheVariants as refusal
use Rattle.script_lines.specs.Replies.{refusal_reply, ok_reply}
use Rattle.script_lines.specs.Reading.{◌>>=◌}
use Rattle.session_rules.specs.Step.{ops_at, batches_at, doc_numbers, joined_by, joined_at, joint_answer}
use Rattle.session_rules.specs.Apart.{Docs}
use Rattle.session_rules.proofs.Answering.{IsApart, AreApart, outside_of, SameAnswer, Goes, goes_from, goes_beside, goes_unchanged}

abbrev pub docs_of_edits : List DocEdit → List ℕ
docs_of_edits edits = map (λ (edit : DocEdit). edit.doc) edits

-- ---- the batches at their spans

batches_with : DocEdit → Option (List Op) → Option (List FlatBatch) → Option (List FlatBatch)
batches_with edit first rest = do
  ops ← first
  batches ← rest
  Some (record { doc = edit.doc; ops = ops } ∷ batches)

batches_same : (g h : FlatGroup) (edits : List DocEdit) → HaveSame g h (docs_of_edits edits) → batches_at g edits ≡ batches_at h edits
unfolding batches_with
batches_same g h [] same = refl
batches_same g h (edit ∷ edits) same =
    ap₂ (λ f rest. batches_with edit (ops_at f edit.ops) rest) (All-head (λ n. doc_in g n ≡ doc_in h n) edit.doc (docs_of_edits edits) same)
    (batches_same g h edits (All-tail (λ n. doc_in g n ≡ doc_in h n) edit.doc (docs_of_edits edits) same))

docs_with : (edit : DocEdit) (edits : List DocEdit) (first : Option (List Op)) (rest : Option (List FlatBatch)) (batches : List FlatBatch)
    → batches_with edit first rest ≡ Some batches → ((others : List FlatBatch) → rest ≡ Some others → docs_of others ≡ docs_of_edits edits)
    → docs_of batches ≡ docs_of_edits (edit ∷ edits)
unfolding batches_with
docs_with edit edits None rest batches e later = absurd cc
docs_with edit edits (Some ops) None batches e later = absurd cc
docs_with edit edits (Some ops) (Some others) batches e later =
    let is : record { doc = edit.doc; ops = ops } ∷ others ≡ batches = cc in
    ap docs_of (sym is) ∙ ap (λ docs. edit.doc ∷ docs) (later others refl)

-- they are for the documents of the edits
docs_of_batches : (g : FlatGroup) (edits : List DocEdit) (batches : List FlatBatch) → batches_at g edits ≡ Some batches
    → docs_of batches ≡ docs_of_edits edits
unfolding batches_with
docs_of_batches g [] batches e = let is : [] ≡ batches = cc in ap docs_of (sym is)
docs_of_batches g (edit ∷ edits) batches e =
    docs_with edit edits (ops_at (doc_in g edit.doc) edit.ops) (batches_at g edits) batches e (λ others found. docs_of_batches g edits others found)

-- ---- the answer

numbers_same : (g h : FlatGroup) (docs : List ℕ) → HaveSame g h docs → flat_map (doc_numbers g) docs ≡ flat_map (doc_numbers h) docs
numbers_same g h [] same = refl
numbers_same g h (n ∷ docs) same =
    ap₂ (λ s t. s ++ t)
    (ap (λ (f : FlatState). n ∷ f.version ∷ length f.units ∷ flat_line_count f ∷ []) (All-head (λ n. doc_in g n ≡ doc_in h n) n docs same))
    (numbers_same g h docs (All-tail (λ n. doc_in g n ≡ doc_in h n) n docs same))

module _ (set : Docs) (g h : FlatGroup) (a : SameIn set g h) (sound : AreApart set g) where
  same_joined_by : (docs : List ℕ) (why : Option FlatRefusal) (new new' : FlatGroup) → SameIn set new new' → All (λ n. set n ≡ true) docs
      → SameAnswer set (joined_by g docs (unless_refused new why)) (joined_by h docs (unless_refused new' why))
  same_joined_by docs (Some why) new new' same on = record { reply = refl; same = a }
  same_joined_by docs None new new' same on =
      record { reply = ap ok_reply (numbers_same new new' docs (HaveSame-in set new new' docs same on)); same = same }

  one_of : (P : FlatGroup → Type 0) (docs : List ℕ) (why : Option FlatRefusal) (new : FlatGroup) → P g → P new
      → P (joined_by g docs (unless_refused new why)).1
  one_of P docs (Some why) new h k = h
  one_of P docs None new h k = k

  module _ (all : Bool) where
    -- its tag has the documents of the batches for its members
    tag_apart : (batches : List FlatBatch) → names_badly (docs_of batches) ≡ false → All (λ n. set n ≡ all) (docs_of batches)
        → (n : ℕ) → is_named n batches ≡ true → IsApart set n (tag_of g batches)
    tag_apart batches good alike n named = (
      is_member-tag_of g batches n good ∙ named,
      (all, λ m member. named_kept (λ k. set k ≡ all) batches m alike (sym (is_member-tag_of g batches m good) ∙ member)),
    )

    lost_outside : (batches : List FlatBatch) → All (λ n. set n ≡ false) (docs_of batches) → All (IsOutside set) (lost_by_joint g batches)
    lost_outside batches off =
        lost_by_joint_kept (IsOutside set) g batches
        (All-weaker (λ n. set n ≡ false) (λ n. All (IsOutside set) (lost_by_change (doc_in g n)))
        (λ n out. All-weaker (IsApart set n) (IsOutside set) (outside_of set n out) (lost_by_change (doc_in g n))
        (lost_by_change_kept (IsApart set n) (doc_in g n) (sound n))) (docs_of batches) off)

    goes_joined : (batches : List FlatBatch) → names_badly (docs_of batches) ≡ false → All (λ n. set n ≡ all) (docs_of batches)
        → Goes set h all (joined_by g (docs_of batches) (group_joint g batches)) (joined_by h (docs_of batches) (group_joint h batches))
    goes_joined batches good alike =
        let docs = docs_of batches in
        let new = joined g batches in
        let why = joint_refusal g batches in
        goes_from set g h all (joined_by g docs (unless_refused new why)) (joined_by h docs (group_joint h batches)) a
        (one_of (AreApart set) docs why new sound (AllTagsIn-joined (IsApart set) g batches sound (tag_apart batches good alike)))
        (λ on. let inside = subst (λ b. All (λ n. set n ≡ b) docs) on alike in
        subst (λ (w : Option FlatRefusal). SameAnswer set (joined_by g docs (unless_refused new why))
        (joined_by h docs (unless_refused (joined h batches) w))) (joint_refusal_same g h batches (HaveSame-in set g h docs a inside))
        (same_joined_by docs why new (joined h batches) (SameIn-joined set g h batches a inside) inside))
        (λ off. let outside = subst (λ b. All (λ n. set n ≡ b) docs) off alike in
        one_of (λ (k : FlatGroup). SameIn set k g) docs why new (SameItems-self empty_document set g a.left)
        (SameIn-joined_outside set g batches a.left outside (lost_outside batches outside)))

    goes_joined_at : (edits : List DocEdit) (batches : Option (List FlatBatch)) → batches_at g edits ≡ batches → names_badly (docs_of_edits edits) ≡ false
        → All (λ n. set n ≡ all) (docs_of_edits edits)
        → Goes set h all (joined_at g (docs_of_edits edits) batches) (joined_at h (docs_of_edits edits) batches)
    goes_joined_at edits None found good alike = goes_unchanged set g h a sound all (refusal_reply refusal.Range)
    goes_joined_at edits (Some batches) found good alike =
        let docs = docs_of_batches g edits batches found in
        subst (λ (l : List ℕ). Goes set h all (joined_by g l (group_joint g batches)) (joined_by h l (group_joint h batches))) docs
        (goes_joined batches (ap names_badly docs ∙ good) (subst (All (λ n. set n ≡ all)) (sym docs) alike))

    -- the smaller group finds the same batches, where the set has their documents
    goes_found : (edits : List DocEdit) → names_badly (docs_of_edits edits) ≡ false → All (λ n. set n ≡ all) (docs_of_edits edits)
        → Goes set h all (joined_at g (docs_of_edits edits) (batches_at g edits)) (joined_at h (docs_of_edits edits) (batches_at h edits))
    goes_found edits good alike =
        let docs = docs_of_edits edits in
        goes_beside set h all (joined_at g docs (batches_at g edits)) (joined_at h docs (batches_at g edits)) (joined_at h docs (batches_at h edits))
        (goes_joined_at edits (batches_at g edits) refl good alike)
        (λ on. ap (joined_at h docs) (batches_same g h edits (HaveSame-in set g h docs a (subst (λ b. All (λ n. set n ≡ b) docs) on alike))))

    goes_joint_by : (edits : List DocEdit) (bad : Bool) → names_badly (docs_of_edits edits) ≡ bad
        → (bad ≡ false → All (λ n. set n ≡ all) (docs_of_edits edits))
        → Goes set h all (if bad then (refusal_reply refusal.Unknown, g) else joined_at g (docs_of_edits edits) (batches_at g edits))
        (if bad then (refusal_reply refusal.Unknown, h) else joined_at h (docs_of_edits edits) (batches_at h edits))
    goes_joint_by edits true bad alike = goes_unchanged set g h a sound all (refusal_reply refusal.Unknown)
    goes_joint_by edits false bad alike = goes_found edits bad (alike refl)

    -- where the numbers are those of documents, and none stands twice, they are all in the set, or none is
    pub goes_joint : (edits : List DocEdit) → (names_badly (docs_of_edits edits) ≡ false → All (λ n. set n ≡ all) (docs_of_edits edits))
        → Goes set h all (joint_answer g edits) (joint_answer h edits)
    goes_joint edits alike = goes_joint_by edits (names_badly (docs_of_edits edits)) refl alike

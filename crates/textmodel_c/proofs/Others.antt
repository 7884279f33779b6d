-- What a call on one document leaves of the others.
use Rattle.std.proofs.Common.{◌≡◌, ◌∙◌, ℕ, zero, suc, refl, sym, subst, ap, set, slice_get, List, [], ◌∷◌, Some, unwrap_or}
use Rattle.std.proofs.lemmas.Option.{slice_get_within}
use Rattle.document_rules.specs.Document.{FlatState, empty_document}
use Rattle.group_rules.specs.Group.{FlatGroup, doc_in, with_doc}
use Rattle.model_core.specs.State.{ModelState}
use Rattle.model_group.specs.State.{GroupState, OnDoc, documents}
use Rattle.model_group.proofs.Lists.{slice_get-set_same, doc_in-is, length-documents}
use Rattle.sessions.proofs.AnswerLemmas.{before_at, put_at, same_by, there_at}
use Rattle.textmodel_c.specs.Documents.{document_in, KeepsOthers, OnDocument}

-- the model of this number has that document
pub document_is : (g : GroupState) (doc : ℕ) (m : ModelState) → slice_get g doc ≡ Some m → document_in g doc ≡ m.document
document_is g doc m is = doc_in-is g doc m is

put_back : (g : FlatGroup) (doc : ℕ) → g ≡ with_doc g doc (doc_in g doc)
put_back [] doc = refl
put_back (f ∷ g) zero = refl
put_back (f ∷ g) (suc doc) = ap (λ (rest : FlatGroup). f ∷ rest) (put_back g doc)

-- where nothing changed, no other document did
pub others_same : (doc : ℕ) (g : GroupState) → KeepsOthers doc g g
others_same doc g = put_back (documents g) doc

-- what a call on the model of this number says of its document
pub on_document : {call : ModelState → ModelState → Type 0} (doc : ℕ) (says : FlatState → FlatState → Type 0) (old new : GroupState) (d : OnDoc doc call old new)
    → says d.before.document d.after.document → OnDocument doc says old new
on_document {call} doc says old new d is =
    let before : document_in old doc ≡ d.before.document = before_at doc call old new d in
    let put : documents new ≡ with_doc (documents old) doc d.after.document = put_at doc call old new d in
    let within = slice_get_within (documents old) doc d.before.document (there_at doc call old new d) in
    let after : document_in new doc ≡ d.after.document =
    ap (λ (g : FlatGroup). doc_in g doc) put
    ∙ ap (λ (f : _). unwrap_or f empty_document) (slice_get-set_same (documents old) doc d.after.document within) in (
      subst (λ (f : FlatState). says f (document_in new doc)) (sym before) (subst (λ (f : FlatState). says d.before.document f) (sym after) is),
      put ∙ ap (with_doc (documents old) doc) (sym after),
    )

-- where the call leaves its document, all are as they were
pub documents_kept : {call : ModelState → ModelState → Type 0} (doc : ℕ) (old new : GroupState) (d : OnDoc doc call old new)
    → d.after.document ≡ d.before.document → documents new ≡ documents old
documents_kept {call} doc old new d same = same_by doc call old new d same

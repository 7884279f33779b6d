use Rattle.std.proofs.Common.{ap, sym, ◌∙◌, subst}
use Rattle.std.proofs.lemmas.Result.{err_from_is_err_and}
use Rattle.document_rules.specs.Outcomes.{RefusedFor}
use Rattle.hiding_rules.specs.Hidden.{scanner}
use Rattle.group_rules.specs.Group.{group_open}
use Rattle.model_group.specs.State.{documents}
use Rattle.session_rules.specs.Step.{change_reply, scanner_for}
use Rattle.model_group.proofs.Lists.{doc_in-is}
use Rattle.sessions.proofs.StandingLemmas.{tells_opened, tells_unopened}
use Rattle.sessions.proofs.reply.open_reply.Goals as goal

pub returns : goal.returns
returns c =
    let g = documents c.args.session.now.group in
    let text = c.args.text.now in
    let asked = scanner_for c.args.brackets c.args.marks in
    tells_opened _ _ c.args.doc text asked c.args.kind _ c.requires
    (ap (λ t. group_open g c.args.doc text (scanner t asked.marks) c.args.kind) (sym c.table_of.ensures)
    ∙ ap (λ m. group_open g c.args.doc text (scanner c.table_of.result m) c.args.kind) (sym c.hiding_of.ensures)
    ∙ c.in_ok-open_doc.ensures.documents)
    c.in_ok-open_doc.ensures.followers
    (c.change_reply.ensures ∙ ap change_reply (sym (doc_in-is _ c.args.doc c.doc.result.now c.doc.ensures)))

pub returns-in_err-open_doc : goal.returns-in_err-open_doc
returns-in_err-open_doc c =
    let g = documents c.args.session.now.group in
    let text = c.args.text.now in
    let asked = scanner_for c.args.brackets c.args.marks in
    let p = err_from_is_err_and c.from_residual.result c.from_residual.ensures.1 in
    let e = c.in_err-open_doc.field-0.0 in
    let rule = ap (λ m. group_open g c.args.doc text (scanner c.table_of.result m) c.args.kind) c.hiding_of.ensures
    ∙ ap (λ t. group_open g c.args.doc text (scanner t asked.marks) c.args.kind) c.table_of.ensures in
    rw (p.1, p.2) (tells_unopened _ _ c.args.doc text asked c.args.kind e
    (c.in_err-open_doc.ensures.documents.0, subst (RefusedFor e) rule c.in_err-open_doc.ensures.documents.1) c.in_err-open_doc.ensures.kept)

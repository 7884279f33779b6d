use Rattle.std.proofs.Common.{◌≡◌, Some, Ok, Err, sym, ap, ◌∙◌, subst, rules}
use Rattle.document_rules.specs.Outcomes.{Gives, RefusedFor}
use Rattle.document_rules.specs.Document.{FlatState}
use Rattle.group_rules.specs.Group.{FlatGroup, doc_in}
use Rattle.textmodel_c.specs.Documents.{document_in}
use Rattle.textmodel_c.specs.Rules.{encoding_of, or_range, position_in, partner_in}
use Rattle.textmodel_c.proofs.Extents.{partner_told, partner_unplaced, partner_refused}
use Rattle.textmodel_c.proofs.brackets.partner_at.Goals as goal

pub returns-in_err-at-clause-partner : goal.returns-in_err-at-clause-partner
returns-in_err-at-clause-partner c =
    let e = c.in_err-at.field-0.0 in
    let same : c.from_residual-in_err-at.result ≡ Err e = search rules in
    let named : encoding_of c.args.encoding ≡ Some c.in_ok-encoding.encoding = search rules in
    let f = document_in c.args.group.now c.args.doc in
    let why = subst (λ (f : FlatState). RefusedFor e (or_range (position_in f c.in_ok-encoding.encoding c.args.at) Ok)) c.document.ensures c.in_err-at.ensures.position in
    rw same (partner_unplaced f c.args.encoding c.in_ok-encoding.encoding c.args.at named e why)

pub returns-in_err-found-clause-partner : goal.returns-in_err-found-clause-partner
returns-in_err-found-clause-partner c =
    let e = c.in_err-found.field-0.0 in
    let same : c.from_residual-in_err-found.result ≡ Err e = search rules in
    let named : encoding_of c.args.encoding ≡ Some c.in_ok-encoding.encoding = search rules in
    let f = document_in c.args.group.now c.args.doc in
    let placed = subst (λ (f : FlatState). or_range (position_in f c.in_ok-encoding.encoding c.args.at) Ok ≡ Ok c.in_ok-at.at) c.document.ensures c.in_ok-at.ensures.position in
    rw same (partner_refused f c.args.encoding c.in_ok-encoding.encoding c.args.at named c.in_ok-at.at e placed c.in_err-found.ensures.partner)

pub returns-clause-partner : goal.returns-clause-partner
returns-clause-partner c =
    let named : encoding_of c.args.encoding ≡ Some c.in_ok-encoding.encoding = search rules in
    let f = document_in c.args.group.now c.args.doc in
    let placed = subst (λ (f : FlatState). or_range (position_in f c.in_ok-encoding.encoding c.args.at) Ok ≡ Ok c.in_ok-at.at) c.document.ensures c.in_ok-at.ensures.position in
    let told = partner_told f c.args.encoding c.in_ok-encoding.encoding c.args.at named c.in_ok-at.at c.in_ok-found.found placed c.in_ok-found.ensures.partner in
    let still = c.document-2.ensures ∙ ap (λ (g : FlatGroup). doc_in g c.args.doc) c.in_ok-found.ensures.documents in
    subst (Gives c.partner_in.result) (ap (λ (f : FlatState). partner_in f c.in_ok-encoding.encoding c.in_ok-found.found) still ∙ sym told) c.partner_in.ensures.partner

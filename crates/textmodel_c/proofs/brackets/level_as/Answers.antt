use Rattle.std.proofs.Common.{◌≡◌, Some, Ok, Err, sym, subst, rules}
use Rattle.document_rules.specs.Outcomes.{Gives, RefusedFor}
use Rattle.document_rules.specs.Document.{FlatState}
use Rattle.textmodel_c.specs.Documents.{document_in}
use Rattle.textmodel_c.specs.Rules.{encoding_of, or_range, position_in}
use Rattle.textmodel_c.proofs.Extents.{level_told, level_refused}
use Rattle.textmodel_c.proofs.brackets.level_as.Goals as goal

pub returns-in_err-at-clause-level : goal.returns-in_err-at-clause-level
returns-in_err-at-clause-level c =
    let e = c.in_err-at.field-0.0 in
    let same : c.from_residual-in_err-at.result ≡ Err e = search rules in
    let named : encoding_of c.args.encoding ≡ Some c.in_ok-encoding.encoding = search rules in
    let f = document_in c.args.group.now c.args.doc in
    let why = subst (λ (f : FlatState). RefusedFor e (or_range (position_in f c.in_ok-encoding.encoding c.args.at) Ok)) c.document.ensures c.in_err-at.ensures.position in
    rw same (level_refused f c.args.encoding c.in_ok-encoding.encoding c.args.at named e why)

pub returns-clause-level : goal.returns-clause-level
returns-clause-level c =
    let named : encoding_of c.args.encoding ≡ Some c.in_ok-encoding.encoding = search rules in
    let f = document_in c.args.group.now c.args.doc in
    let placed = subst (λ (f : FlatState). or_range (position_in f c.in_ok-encoding.encoding c.args.at) Ok ≡ Ok c.in_ok-at.at) c.document.ensures c.in_ok-at.ensures.position in
    subst (Gives c.level_at.result) (sym (level_told f c.args.encoding c.in_ok-encoding.encoding c.args.at named c.in_ok-at.at placed)) c.level_at.ensures.level

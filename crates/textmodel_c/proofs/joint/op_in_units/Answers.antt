use Rattle.std.proofs.Common.{◌≡◌, inr, refl, ◌∙◌, length, rules}
use Rattle.std.proofs.lemmas.Str.{is_utf8-from_IsUtf8}
use Rattle.unit_text.specs.Text.{units_of}
use Rattle.textmodel_c.proofs.Utf8Laws.{not_utf8}
use Rattle.textmodel_c.proofs.joint.op_in_units.Goals as goal

pub returns-in-Err : goal.returns-in-Err
returns-in-Err c = inr (refl, not_utf8 c.args.text.now c.in-Err.ensures.cases.0)

pub returns : goal.returns
returns c =
    let units : c.len.result ≡ length (units_of c.args.text.now) = search rules in
    (is_utf8-from_IsUtf8 c.args.text.now c.in-Ok.ensures.cases.1, rw units refl)

use Rattle.std.proofs.Common.{◌∙◌}
use Rattle.textmodel_c.proofs.Utf8Laws.{with_units}
use Rattle.textmodel_c.proofs.joint.tm_raw_joint_utf8.Goals as goal

pub returns-clause-documents : goal.returns-clause-documents
returns-clause-documents c =
    with_units _ _ _ _ c.deref.result.now c.in-Ok.ensures.units.0 (c.deref.ensures.value ∙ c.in-Ok.ensures.units.1) c.joint_in_utf8.ensures

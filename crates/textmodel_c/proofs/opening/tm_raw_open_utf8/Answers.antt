use Rattle.std.proofs.Common.{◌∙◌}
use Rattle.textmodel_c.proofs.Utf8Laws.{with_units}
use Rattle.textmodel_c.proofs.opening.tm_raw_open_utf8.Goals as goal

pub returns-clause-document : goal.returns-clause-document
returns-clause-document c =
    with_units _ _ _ _ c.deref.result.now c.in-Ok.ensures.units.0 (c.deref.ensures.value ∙ c.in-Ok.ensures.units.1) c.tm_raw_open.ensures.document

use Rattle.std.proofs.Common.{◌∙◌}
use Rattle.textmodel_c.proofs.Utf8Laws.{with_units}
use Rattle.textmodel_c.proofs.search.tm_raw_find_utf8.Goals as goal

pub returns-clause-found : goal.returns-clause-found
returns-clause-found c =
    with_units _ _ _ _ c.deref.result.now c.in-Ok.ensures.units.0 (c.deref.ensures.value ∙ c.in-Ok.ensures.units.1) c.tm_raw_find.ensures.found

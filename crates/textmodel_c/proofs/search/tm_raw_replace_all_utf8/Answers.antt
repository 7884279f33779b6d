use Rattle.std.proofs.Common.{inr, ap, ◌∙◌}
use Rattle.textmodel_c.specs.Statuses.{number_of}
use Rattle.textmodel_c.proofs.Utf8Laws.{short_of_memory, with_units}
use Rattle.textmodel_c.proofs.search.tm_raw_replace_all_utf8.Goals as goal

pub returns-in-Err-clause-fault : goal.returns-in-Err-clause-fault
returns-in-Err-clause-fault c = record {
  first = c.units_in.ensures.fault.invalid;
  second = λ utf8. inr (c.number.ensures ∙ ap number_of (short_of_memory c.args.sought.now c.in-Err.status utf8 c.in-Err.ensures.units), c.units_in.ensures.fault.valid utf8);
}

pub returns-clause-document : goal.returns-clause-document
returns-clause-document c =
    with_units _ _ _ _ c.deref.result.now c.in-Ok.ensures.units.0 (c.deref.ensures.value ∙ c.in-Ok.ensures.units.1)
    (with_units _ _ _ _ c.deref-2.result.now c.in-Ok-units_in.ensures.units.0 (c.deref-2.ensures.value ∙ c.in-Ok-units_in.ensures.units.1) c.tm_raw_replace_all.ensures.document)

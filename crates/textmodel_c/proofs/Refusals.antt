-- What is refused, is refused for the same reason however it is told.
use Rattle.std.specs.Prelude.{Result}
use Rattle.std.proofs.Common.{ap}
use Rattle.document_rules.specs.declared.ModelError.{ModelError}
use Rattle.document_rules.specs.declared.ModelError.TheVariants.{Unknown, Range, Overlap, Limit, Memory}
use Rattle.document_rules.specs.Refusals.{FlatRefusal}
use Rattle.document_rules.specs.Outcomes.{RefusedFor}
use Rattle.textmodel_c.specs.Rules.{told_as}

pub refused_told : {A B : Type 0} (tell : A → B) (e : ModelError) (rule : Result A FlatRefusal) → RefusedFor e rule → RefusedFor e (told_as tell rule)
refused_told tell Unknown rule why = ap (told_as tell) why
refused_told tell Range rule why = ap (told_as tell) why
refused_told tell Overlap rule why = ap (told_as tell) why
refused_told tell Limit rule why = ap (told_as tell) why
refused_told tell Memory rule why = tt

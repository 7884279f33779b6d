-- Errors of one document as errors of a group.
use Rattle.document_rules.specs.declared.ModelError.{ModelError}
use Rattle.document_rules.specs.declared.ModelError.TheVariants as one
use Rattle.group_rules.specs.declared.GroupError.{GroupError}
use Rattle.group_rules.specs.declared.GroupError.TheVariants.{Unknown, Range, Overlap, Limit, Memory}

abbrev pub group_error_of : ModelError → GroupError
group_error_of one.Unknown = Unknown
group_error_of one.Range = Range
group_error_of one.Overlap = Overlap
group_error_of one.Limit = Limit
group_error_of one.Memory = Memory

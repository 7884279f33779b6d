-- Errors of the parts as errors of a document.
use Rattle.batch_rules.specs.declared.BatchError.{BatchError}
use Rattle.batch_rules.specs.declared.BatchError.TheVariants as batch
use Rattle.decoration_rules.specs.declared.DecoError.{DecoError}
use Rattle.decoration_rules.specs.declared.DecoError.TheVariants as decoration
use Rattle.snapshot_rules.specs.declared.ShelfError.{ShelfError}
use Rattle.snapshot_rules.specs.declared.ShelfError.TheVariants as shelf
use Rattle.recasts.specs.declared.recast.RecastError.{RecastError}
use Rattle.recasts.specs.declared.recast.RecastError.TheVariants as endings
use Rattle.document_rules.specs.declared.ModelError.{ModelError}
use Rattle.document_rules.specs.declared.ModelError.TheVariants.{Unknown, Range, Overlap, Limit, Memory}

abbrev pub error_of : BatchError → ModelError
error_of batch.Range = Range
error_of batch.Overlap = Overlap
error_of batch.Limit = Limit
error_of batch.Memory = Memory

abbrev pub refusal_of : DecoError → ModelError
refusal_of decoration.Unknown = Unknown
refusal_of decoration.Range = Range
refusal_of decoration.Limit = Limit
refusal_of decoration.Memory = Memory

abbrev pub shelf_error_of : ShelfError → ModelError
shelf_error_of shelf.Unknown = Unknown
shelf_error_of shelf.Range = Range
shelf_error_of shelf.Limit = Limit
shelf_error_of shelf.Memory = Memory

abbrev pub recast_error_of : RecastError → ModelError
recast_error_of endings.Limit = Limit
recast_error_of endings.Memory = Memory

use Rattle.std.proofs.Common.{arith}
use Rattle.textmodel_c.proofs.columns.Columns.column_at.Goals as goal

pub overflow_add-result : goal.overflow_add-result
overflow_add-result c = omega (arith, c.in_ok-stand.ensures.small)

use Rattle.std.proofs.Common.{◌*◌, length, sym, ◌∙◌}
use Rattle.textmodel_c.proofs.ColumnBounds.{column_within, one_above}
use Rattle.textmodel_c.proofs.positions.column_before.Goals as goal

pub returns-clause-small : goal.returns-clause-small
returns-clause-small c =
    one_above c.column_in.result (3 * length c.args.content.now)
    (λ n is. column_within c.args.encoding c.args.content.now _ n (sym c.column_in.ensures ∙ is))

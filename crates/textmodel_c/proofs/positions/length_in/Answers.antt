use Rattle.std.proofs.Common.{◌*◌, length, sym, ◌∙◌, subst}
use Rattle.textmodel_c.proofs.ColumnBounds.{column_within, within_or}
use Rattle.textmodel_c.proofs.positions.length_in.Goals as goal

pub returns-clause-small : goal.returns-clause-small
returns-clause-small c =
    rw c.unwrap_or.ensures (within_or c.column_in.result (3 * length c.args.content.now)
    (λ n is. column_within c.args.encoding c.args.content.now _ n (sym c.column_in.ensures ∙ is)))

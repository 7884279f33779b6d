use Rattle.std.proofs.Common.{sym}
use Rattle.batch_rules.proofs.Standing.{follow_standing}
use Rattle.edit_batches.proofs.Lengths.{none_where_long}
use Rattle.edit_batches.proofs.checks.is_too_long.Goals as goal

pub length_after-requires : goal.length_after-requires
length_after-requires g c = follow_standing 0 (g.F.Flat.units c.args.text.now) c.args.ops.now c.requires

pub returns : goal.returns
returns g c =
    let x = g.F.Flat.units c.args.text.now in
    none_where_long x c.args.ops.now _ c.is_none.result c.requires (c.length_after.ensures x (sym c.len.ensures)) c.is_none.ensures

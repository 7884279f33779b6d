use Rattle.std.proofs.Common.{length, ap, arith}
use Rattle.std.proofs.lemmas.List.{length-append}
use Rattle.line_starts.proofs.Blocks.{same_count}
use Rattle.line_starts.proofs.Starts.{break_count_is, break_ends_at_is}
use Rattle.chunk_buffers.proofs.Cuts.{on_ok_at}
use Rattle.line_starts.specs.Starts.{break_ends_at}
use Rattle.chunk_buffers.proofs.buffer.push_ends.Goals as goal

pub returns-clause-items : goal.returns-clause-items
returns-clause-items c = on_ok_at _ _ (c.find_break_ends.ensures.with_room c.requires.room) c.find_break_ends.ensures.ok

pub returns-clause-len : goal.returns-clause-len
returns-clause-len c =
    let items = ap length (on_ok_at _ _ (c.find_break_ends.ensures.with_room c.requires.room) c.find_break_ends.ensures.ok) in
    omega (
      arith,
      items,
      ap length (break_ends_at_is c.args.start c.args.units.now),
      length-append c.args.ends.now.items (break_ends_at c.args.start c.args.units.now),
      same_count c.args.start 0 c.args.units.now,
      break_count_is c.args.units.now,
    )

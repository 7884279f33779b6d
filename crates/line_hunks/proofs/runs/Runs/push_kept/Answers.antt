use Rattle.std.proofs.Common.{ap, sym, ◌∙◌}
use Rattle.mark_rules.specs.Marks.{mark_at}
use Rattle.line_hunks.specs.Runs.{line_count}
use Rattle.line_hunks.proofs.Appending.{last-is_new}
use Rattle.line_hunks.proofs.runs.Runs.push_kept.Goals as goal

pub put_last-requires-clause-other : goal.put_last-requires-clause-other
put_last-requires-clause-other c =
    let lines = line_count c.args.self.now in
    last-is_new c.seek_end.new.self lines c.seek_end.ensures.whole c.seek_end.ensures.last (sym c.seek_end.ensures.lines)
    (ap (mark_at lines) c.seek_end.ensures.marks ∙ c.requires.new)

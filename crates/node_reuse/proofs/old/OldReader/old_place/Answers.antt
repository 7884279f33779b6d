use Rattle.std.proofs.Common.{◌+◌, sym, ◌∙◌}
use Rattle.node_reuse.proofs.OldPlaces.{kept_from_one, kept_place}
use Rattle.node_reuse.proofs.old.OldReader.old_place.Goals as goal

pub overflow_sub-place : goal.overflow_sub-place
overflow_sub-place c =
    kept_from_one c.self.inside.marks (c.args.place.lines + 1) c.in-Kept.number c.at-mark.ensures.rises (sym c.in-Kept.is ∙ c.at-mark.ensures.mark)

pub returns-clause-some : goal.returns-clause-some
returns-clause-some c =
    rw (← c.self.view_is)
    (kept_place c.self.inside.marks c.args.place c.in-Kept.number c.at-mark.ensures.rises (sym c.in-Kept.is ∙ c.at-mark.ensures.mark))

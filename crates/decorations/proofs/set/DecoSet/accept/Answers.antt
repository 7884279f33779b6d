use Rattle.std.proofs.Common.{◌<◌, List, sym, ap, subst}
use Rattle.std.specs.List.{All}
use Rattle.decoration_rules.specs.declared.Mark.{Mark}
use Rattle.decoration_rules.specs.Moves.{offset_limit, moved_mark}
use Rattle.decoration_rules.specs.Decorations.{Decorations, IsSound}
use Rattle.decorations.specs.Owners.{Tells}
use Rattle.decorations.proofs.Counted.{Tells-accept}
use Rattle.decorations.proofs.Sets.{IsSound-accept}
use Rattle.decorations.proofs.set.DecoSet.accept.Goals as goal

pub accept-requires-clause-fits : goal.accept-requires-clause-fits
accept-requires-clause-fits c =
    subst (All (λ mark. (moved_mark c.args.edit.now mark).span.end < offset_limit)) (sym (ap (λ (d : Decorations). d.marks) c.self.view_is)) c.requires.fits

pub invariant_of-self : goal.invariant_of-self
invariant_of-self c = (
  subst (λ (ms : List Mark). IsSound (record { marks = ms; next_id = c.self.inside.next_id })) (sym c.accept.ensures.moved)
      (IsSound-accept c.args.edit.now (record { marks = c.self.inside.tree.marks; next_id = c.self.inside.next_id }) c.self.invariant.0),
  subst (Tells c.self.inside.owners.counts) (sym c.accept.ensures.moved)
      (Tells-accept c.self.inside.owners.counts c.args.edit.now c.self.inside.tree.marks c.self.invariant.0.distinct c.self.invariant.1),
)

pub returns-clause-sound : goal.returns-clause-sound
returns-clause-sound c =
    subst (λ (ms : List Mark). IsSound (record { marks = ms; next_id = c.self.inside.next_id })) (sym c.accept.ensures.moved)
    (IsSound-accept c.args.edit.now (record { marks = c.self.inside.tree.marks; next_id = c.self.inside.next_id }) c.self.invariant.0)

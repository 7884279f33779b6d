use Rattle.std.proofs.Common.{List, sym, subst}
use Rattle.decoration_rules.specs.declared.Mark.{Mark}
use Rattle.decoration_rules.specs.Decorations.{IsSound}
use Rattle.decorations.specs.Owners.{Tells}
use Rattle.decorations.proofs.Counted.{Tells-carry}
use Rattle.decorations.proofs.Sets.{IsSound-carry}
use Rattle.decorations.proofs.set.DecoSet.carry.Goals as goal

pub invariant_of-self : goal.invariant_of-self
invariant_of-self c = (
  subst (λ (ms : List Mark). IsSound (record { marks = ms; next_id = c.self.inside.next_id })) (sym c.carry.ensures.carried)
      (IsSound-carry c.args.moves.now (record { marks = c.self.inside.tree.marks; next_id = c.self.inside.next_id }) c.requires c.self.invariant.0),
  subst (Tells c.self.inside.owners.counts) (sym c.carry.ensures.carried)
      (Tells-carry c.self.inside.owners.counts c.args.moves.now c.self.inside.tree.marks c.self.invariant.0.distinct c.self.invariant.1),
)

pub returns-clause-sound : goal.returns-clause-sound
returns-clause-sound c =
    subst (λ (ms : List Mark). IsSound (record { marks = ms; next_id = c.self.inside.next_id })) (sym c.carry.ensures.carried)
    (IsSound-carry c.args.moves.now (record { marks = c.self.inside.tree.marks; next_id = c.self.inside.next_id }) c.requires c.self.invariant.0)

use Rattle.std.proofs.Common.{◌+◌, ◌-◌, ◌*◌}
use Rattle.bracket_rules.specs.declared.TheConstants.{MOST_OPEN}
use Rattle.bracket_nodes.specs.Joining.{joined_items, joined_weight}
use Rattle.bracket_nodes.specs.Source.{AsksOn, Reads, weight_ahead}
use Rattle.bracket_nodes.specs.Paying.{HasRoom, PaysOn}
use Rattle.bracket_nodes.proofs.parser.+parser.Given as goal

abbrev pub decreases-parse_list : goal.decreases-parse_list
decreases-parse_list g l = 2 * (MOST_OPEN - l.level) + 1

abbrev pub decreases-take : goal.decreases-take
decreases-take g l = 2 * (MOST_OPEN - l.level)

abbrev pub invariant-parse_list-loop-joiner : goal.invariant-parse_list-loop-joiner
invariant-parse_list-loop-joiner g l =
    Reads (g.S.Source.ahead l.initial.source) (g.S.Source.ahead l.source) l.opened l.level
    (joined_items l.joiner) (joined_weight l.joiner)
    × g.S.Source.stands l.source
    × AsksOn (g.S.Source.ahead l.initial.source).asking (g.S.Source.ahead l.source).asking
    × (HasRoom (g.S.Source.paying l.initial.source) l.level → PaysOn (g.S.Source.paying l.initial.source) (g.S.Source.paying l.source))

abbrev pub decreases-parse_list-loop-joiner : goal.decreases-parse_list-loop-joiner
decreases-parse_list-loop-joiner g l = weight_ahead (g.S.Source.ahead l.source)

use Rattle.std.proofs.Common.{◌∙◌, Some, None, sym, arith}
use Rattle.bracket_tree_rules.proofs.Parts.{part_within}
use Rattle.bracket_nodes.specs.Seen.{seen_tree}
use Rattle.bracket_nodes.proofs.Descent.{part_tree}
use Rattle.bracket_nodes.proofs.PartnerWalk.{partner_in_part, no_partner_here}
use Rattle.bracket_nodes.proofs.node.Node.partner_of.Goals as goal

pub returns-in-Some : goal.returns-in-Some
returns-in-Some c = sym (c.loop-found.invariant.2 (Some c.in-Some.found) c.in-Some.ensures.some)

pub returns-in_err-here : goal.returns-in_err-here
returns-in_err-here c =
    let here = c.loop-found.here in
    c.from_residual.ensures ∙ sym (c.loop-found.invariant.2 None
    (no_partner_here c.args.place here.start (seen_tree here.node) c.loop-found.invariant.0 c.in_err-here.ensures.none c.in_default.ensures.none))

pub loop-found-preserved : goal.loop-found-preserved
loop-found-preserved c =
    let here = c.loop-found.here in
    let part = c.in_ok-here.here in
    let within = part_within here.start (seen_tree here.node) part.start (seen_tree part.node) c.in_ok-here.ensures.part in
    let light = c.loop-found.invariant.1 in (
      part_tree here.start (seen_tree here.node) part.start (seen_tree part.node) c.loop-found.invariant.0 c.in_ok-here.ensures.part,
      omega arith,
      λ found h. c.loop-found.invariant.2 found
          (partner_in_part c.args.place here.start (seen_tree here.node) part.start (seen_tree part.node) found
          c.loop-found.invariant.0 c.in_ok-here.ensures.part c.in_ok-here.ensures.holds h),
    )

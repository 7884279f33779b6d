use Rattle.std.proofs.Common.{◌∙◌, Some, None}
use Rattle.bracket_tree_rules.proofs.Longest.{longest_here}
use Rattle.bracket_tree_rules.proofs.Parts.{node_in_part, no_node_here}
use Rattle.bracket_nodes.specs.Seen.{seen_tree}
use Rattle.bracket_nodes.proofs.Descent.{if_none}
use Rattle.bracket_nodes.proofs.Paths.{on_path}
use Rattle.bracket_nodes.proofs.reader.NodeReader.longest_at.Goals as goal

pub returns-then-is_taken_here-clause-some : goal.returns-then-is_taken_here-clause-some
returns-then-is_taken_here-clause-some c =
    let here = c.loop-place.here in
    c.loop-place.invariant.1.1 (Some (seen_tree here.node))
    (longest_here here.start (seen_tree here.node) c.args.place c.args.lines c.args.opened c.args.level (c.is_taken_here.ensures.0 c.if-is_taken_here.true))

pub returns-in_err-here-clause-none : goal.returns-in_err-here-clause-none
returns-in_err-here-clause-none c =
    let here = c.loop-place.here in
    if_none c.from_residual.result _ (c.loop-place.invariant.1.1 None
    (no_node_here here.start (seen_tree here.node) c.args.place c.args.lines c.args.opened c.args.level
    c.loop-place.invariant.1.0.tree c.in_err-here.ensures.none (λ taken. let clash = c.is_taken_here.ensures.1 taken in cc)))

pub keep-requires : goal.keep-requires
keep-requires c = rw c.loop-place.invariant.0 (on_path _ _ _ c.loop-place.invariant.1.0 c.in_ok-here.ensures.part)

pub loop-place-preserved : goal.loop-place-preserved
loop-place-preserved c =
    let here = c.loop-place.here in
    let part = c.in_ok-here.here in (
      c.keep.ensures ∙ c.loop-place.invariant.0,
      (
        on_path _ _ _ c.loop-place.invariant.1.0 c.in_ok-here.ensures.part,
        λ found h. c.loop-place.invariant.1.1 found
            (node_in_part here.start (seen_tree here.node) part.start (seen_tree part.node) c.args.place c.args.lines c.args.opened c.args.level found
            c.loop-place.invariant.1.0.tree c.in_ok-here.ensures.part c.in_ok-here.ensures.holds (λ taken. let clash = c.is_taken_here.ensures.1 taken in cc) h),
      ),
    )

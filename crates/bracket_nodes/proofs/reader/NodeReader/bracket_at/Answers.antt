use Rattle.std.proofs.Common.{◌∙◌, Some, None}
use Rattle.bracket_tree_rules.proofs.Parts.{bracket_in_part, no_bracket_here}
use Rattle.bracket_nodes.specs.Seen.{seen_tree}
use Rattle.bracket_nodes.proofs.Descent.{if_none}
use Rattle.bracket_nodes.proofs.Paths.{on_path}
use Rattle.bracket_nodes.proofs.reader.NodeReader.bracket_at.Goals as goal

pub returns-in-Some-clause-some : goal.returns-in-Some-clause-some
returns-in-Some-clause-some c = c.loop-token.invariant.1.1 (Some c.in-Some.token) c.in-Some.ensures.some

pub returns-in_err-here-clause-none : goal.returns-in_err-here-clause-none
returns-in_err-here-clause-none c =
    let here = c.loop-token.here in
    if_none c.from_residual.result _ (c.loop-token.invariant.1.1 None
    (no_bracket_here here.start (seen_tree here.node) c.args.place c.loop-token.invariant.1.0.tree c.in_err-here.ensures.none c.in_default.ensures.none))

pub keep-requires : goal.keep-requires
keep-requires c = rw c.loop-token.invariant.0 (on_path _ _ _ c.loop-token.invariant.1.0 c.in_ok-here.ensures.part)

pub loop-token-preserved : goal.loop-token-preserved
loop-token-preserved c =
    let here = c.loop-token.here in
    let part = c.in_ok-here.here in (
      c.keep.ensures ∙ c.loop-token.invariant.0,
      (
        on_path _ _ _ c.loop-token.invariant.1.0 c.in_ok-here.ensures.part,
        λ found h. c.loop-token.invariant.1.1 found
            (bracket_in_part here.start (seen_tree here.node) part.start (seen_tree part.node) c.args.place found
            c.loop-token.invariant.1.0.tree c.in_ok-here.ensures.part c.in_ok-here.ensures.holds h),
      ),
    )

use Rattle.std.proofs.Common.{ℕ, ◌<◌, ◌^◌, List, sum, sym, subst}
use Rattle.std.specs.Prelude.{IfOk}
use Rattle.bracket_tree_rules.specs.Tree.{Tree}
use Rattle.bracket_tree_rules.specs.Weights.{tree_weights, AreCovered}
use Rattle.bracket_nodes.specs.Source.{weight_ahead}
use Rattle.bracket_nodes.proofs.ScannedSteps.{whole_weights}
use Rattle.bracket_nodes.proofs.scanned.parse_lines.Goals as goal

pub parse-requires-clause-fits : goal.parse-requires-clause-fits
unfolding weight_ahead
parse-requires-clause-fits c =
    subst (λ (ws : List ℕ). sum ws < 2 ^ 64) (sym (whole_weights c.args.lines.now c.index-lines-0.result c.requires.some c.index-lines-0.is)) c.requires.fits

pub returns-clause-light : goal.returns-clause-light
returns-clause-light c =
    subst (λ (ws : List ℕ). IfOk c.parse.result (λ (t : Tree). AreCovered (tree_weights t) ws))
    (whole_weights c.args.lines.now c.index-lines-0.result c.requires.some c.index-lines-0.is) c.parse.ensures.light

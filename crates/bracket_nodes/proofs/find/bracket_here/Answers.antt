use Rattle.std.proofs.Common.{rules, ◌≡◌, false, sym, subst}
use Rattle.bracket_rules.specs.declared.Token.{Token}
use Rattle.bracket_tree_rules.specs.Tree.{Tree, pair, inside_end}
use Rattle.bracket_tree_rules.specs.Found.{token_at, IsTokenAt}
use Rattle.bracket_tree_rules.proofs.BracketAt.{bracket_closes}
use Rattle.bracket_nodes.specs.Seen.{seen_tree}
use Rattle.bracket_nodes.proofs.find.bracket_here.Goals as goal

pub returns-in_ok-width-in-Pair-clause-some : goal.returns-in_ok-width-in-Pair-clause-some
returns-in_ok-width-in-Pair-clause-some c =
    let here = c.args.here.now in
    let q = c.args.place.now in
    let m = c.in-Pair in
    let i = seen_tree m.inside in
    let w = c.in_ok-width-in-Pair.width in
    let t : pair m.kind m.opening i m.closing ≡ seen_tree here.node = search rules in
    let ends : inside_end here.start m.opening i ≡ q = search rules in
    let found : IsTokenAt here.start (pair m.kind m.opening i m.closing) q (token_at q w m.kind false) =
    bracket_closes here.start q m.kind m.opening i m.closing w c.in_ok-width-in-Pair.ensures.some.0 ends in
    subst (λ (x : Tree). IsTokenAt here.start x q c.token_at-in-Pair.result) t
    (subst (λ (x : Token). IsTokenAt here.start (pair m.kind m.opening i m.closing) q x) (sym c.token_at-in-Pair.ensures) found)

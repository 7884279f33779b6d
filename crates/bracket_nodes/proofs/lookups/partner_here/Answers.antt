use Rattle.std.proofs.Common.{rules, ◌≡◌, ◌≢◌, ℕ, Some, sym, subst}
use Rattle.std.specs.Option.{option_map}
use Rattle.bracket_rules.specs.Parse.{partner_at}
use Rattle.bracket_tree_rules.specs.Tree.{Tree, pair, inside_end, tree_entries, IsTree}
use Rattle.bracket_nodes.specs.Seen.{seen_tree}
use Rattle.bracket_nodes.specs.Walks.{place_and_len}
use Rattle.bracket_nodes.proofs.PartnerWalk.{partner_of_closing}
use Rattle.bracket_nodes.proofs.lookups.partner_here.Goals as goal

pub returns-then-eq-2-clause-some : goal.returns-then-eq-2-clause-some
returns-then-eq-2-clause-some c =
    let here = c.args.here.now in
    let p = c.args.place.now in
    let m = c.in-Pair-default-default-default-Some in
    let i = seen_tree m.inside in
    let t : (seen_tree here.node) ≡ pair m.field-0 m.opening i (Some m.closing) = search rules in
    let other : here.start ≢ p = search rules in
    let same : inside_end here.start m.opening i ≡ p = search rules in
    let whole : IsTree (pair m.field-0 m.opening i (Some m.closing)) = subst IsTree t c.requires.tree in
    let tree : IsTree i = whole.1 in
    subst (λ (x : Tree). (level : ℕ) → option_map place_and_len (partner_at p (tree_entries here.start level x)) ≡ Some (here.start, m.opening)) (sym t)
    (partner_of_closing p here.start m.field-0 m.opening i m.closing other same tree)

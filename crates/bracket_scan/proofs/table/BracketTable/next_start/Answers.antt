use Rattle.std.proofs.Common.{tests, rules, ◌≡◌, ◌%◌, Bool, false, slice_index_or, ◌∙◌}
use Rattle.std.proofs.lemmas.Iterator.{YieldsList-from_slice}
use Rattle.std.proofs.lemmas.Iterator.Search.{position_from_yields_List}
use Rattle.bracket_scan.specs.declared.firsts.TheConstants.{CLASSES}
use Rattle.bracket_scan.specs.Firsts.{may_begin}
use Rattle.bracket_scan.proofs.FirstUnits.{index_says}
use Rattle.bracket_scan.proofs.table.BracketTable.next_start.Goals as goal

pub returns : goal.returns
returns c =
    let firsts = c.firsts-firsts.result.now in
    position_from_yields_List (may_begin c.args.self.now) _ _ c.position.result c.position.ensures.ran
    (YieldsList-from_slice c.args.units.now cc) (λ u b q k.
    let is : (q ≡ _) × ((other : Bool) → b ≡ slice_index_or firsts (u.now % CLASSES) other) = search (rules, tests) in
    (is.0, is.1 false ∙ index_says c.args.self.now firsts u.now false c.firsts-firsts.ensures))

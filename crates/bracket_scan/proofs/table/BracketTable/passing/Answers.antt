use Rattle.std.proofs.Common.{tests, rules, ◌≡◌, ℕ, Bool, sym, ◌∙◌}
use Rattle.std.proofs.lemmas.Iterator.{YieldsList-from_slice}
use Rattle.std.proofs.lemmas.Iterator.Search.{position_from_yields_List}
use Rattle.hiding_rules.specs.Hidden.{scanner}
use Rattle.bracket_scan.specs.Parts.{may_matter}
use Rattle.bracket_scan.proofs.Passing.{position_found, none_found}
use Rattle.bracket_scan.proofs.table.BracketTable.passing.Goals as goal

pub returns-in-Some : goal.returns-in-Some
returns-in-Some c =
    let test : ℕ → Bool = may_matter (scanner c.args.self.now c.args.hiding.now) c.args.within in
    let found = position_from_yields_List test _ _ c.position-next.result c.position-next.ensures.ran
    (YieldsList-from_slice c.args.units.now cc) (λ u b q k. search (rules, tests)) in
    position_found test c.args.units.now c.in-Some.passed (sym found ∙ c.in-Some.is)

pub returns-in-None : goal.returns-in-None
returns-in-None c =
    let test : ℕ → Bool = may_matter (scanner c.args.self.now c.args.hiding.now) c.args.within in
    let found = position_from_yields_List test _ _ c.position-next.result c.position-next.ensures.ran
    (YieldsList-from_slice c.args.units.now cc) (λ u b q k. search (rules, tests)) in
    none_found test c.args.units.now (sym found ∙ c.in-None.is)

use Rattle.std.proofs.Common.{◌≡◌, true, Ok, refl, sym, subst, arith}
use Rattle.std.proofs.lemmas.Grind.{common_steps}
use Rattle.hiding_rules.specs.Hidden.{scanner}
use Rattle.model_page.specs.Staying.{IsParseOf}
use Rattle.model_page.specs.Asked.{AreStatesOf}
use Rattle.model_page.specs.State.{IsPage, PageState, is_fresh}
use Rattle.model_page.proofs.SettledLines.{states_count}
use Rattle.model_page.proofs.Pages.{nothing_to_renew}
use Rattle.model_page.proofs.Staying.{stays_parsed, stays_as}
use Rattle.model_page.proofs.page.Page.renew.Goals as goal

pub invariant_of-self : goal.invariant_of-self
invariant_of-self g c =
    let m = c.self.inside in
    let old = c.self.invariant in
    let told = subst (λ (p : PageState). IsParseOf p.scanner p.text.units p.states p.marks c.in_ok-parse.parse) (sym c.self.view_is) c.in_ok-parse.ensures.parsed in
    let states = subst (λ (p : PageState). AreStatesOf p.scanner p.text.units c.in_ok-parse.states) (sym c.self.view_is) c.in_ok-parse.ensures.states in
    let by = scanner m.table m.hiding in
    record {
      endings = old.endings;
      fits = old.fits;
      inside = old.inside;
      stays = stays_as _ c.put.new.self.tree _ c.put.new.self.marks _ c.put.new.self.states by _ m.text.units
          c.put.ensures.tree c.put.ensures.marks c.put.ensures.states refl
          (stays_parsed c.in_ok-parse.parse.parsed.tree m.last.marks by m.text.units c.in_ok-parse.states old.stays.count c.put.ensures.rules told.now told.tight states);
    }

pub returns-else-not-is_fresh-clause-parse : goal.returns-else-not-is_fresh-clause-parse
returns-else-not-is_fresh-clause-parse g c =
    let fresh : is_fresh c.args.self.now ≡ true = grind (arith, common_steps) in
    nothing_to_renew (Ok tt) c.args.self.now (subst IsPage c.self.view_is c.self.invariant) fresh

pub put-requires : goal.put-requires
put-requires g c =
    let m = c.self.inside in
    states_count (scanner m.table m.hiding) m.text.units m.last.marks c.in_ok-parse.states c.self.invariant.stays.count
    (subst (λ (p : PageState). AreStatesOf p.scanner p.text.units c.in_ok-parse.states) (sym c.self.view_is) c.in_ok-parse.ensures.states)

use Rattle.std.proofs.Common.{◌≤◌, IfSome, length, ap, sym, subst, arith}
use Rattle.batch_rules.specs.Batches.{most_units}
use Rattle.text_buffer.specs.Text.{Text}
use Rattle.document_rules.specs.Brackets.{IsSmall}
use Rattle.model_core.proofs.Kept.{told_small}
use Rattle.model_core.proofs.model.Model.match_at_counted.Goals as goal

pub told-requires : goal.told-requires
told-requires g c =
    let page = c.renew.new.self in
    let same = ap (λ (t : Text). length t.units) c.renew.ensures.parse.text in
    let fits : length page.text.units ≤ most_units = omega (arith, same, c.text.ensures.fits) in
    subst (λ r. IfSome r (λ s. IsSmall s.0)) (sym c.partner_of.ensures) (told_small c.tree.result.now page.scanner page.text.units c.tree.ensures.kept fits c.place_of.result)

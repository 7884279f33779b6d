use Rattle.std.proofs.Common.{◌≡◌, ◌-◌, ◌*◌, ◌<◌, ◌≤◌, ◌∙◌, length, ap, sym, subst, arith}
use Rattle.std.proofs.lemmas.Grind.{common_steps}
use Rattle.unit_text.specs.Kinds.{normalized}
use Rattle.batch_rules.specs.Batches.{most_units}
use Rattle.search_rules.specs.Replacing.{flat_find}
use Rattle.search_rules.proofs.Replacing.{found_fits, replaced-length, replace_too_long}
use Rattle.model_core.specs.State.{ModelState}
use Rattle.model_core.proofs.model.Model.outgrows.Goals as goal

pub returns : goal.returns
returns c = λ is.
    let f = c.args.self.now.document in
    let sought = c.args.sought.now in
    let text = c.args.with.now in
    let found : c.find.new.out.items ≡ flat_find f sought = grind (arith, common_steps) in
    let new : c.normalize.new.self ≡ normalized f.kind text = grind (arith, common_steps) in
    let same : length c.text-text.result.now.units ≡ length f.units = grind (arith, common_steps) in
    let count : c.len-count.result ≡ length (flat_find f sought) = omega (arith, ap length found, c.len-count.ensures) in
    let units : length c.as_slice.result.now ≡ length (normalized f.kind text) = ap length (c.as_slice.ensures ∙ new) in
    let long : most_units - c.saturating_sub.result < c.saturating_mul-added.result = grind (arith, common_steps, is) in
    let added : c.saturating_mul-added.result ≤ length (flat_find f sought) * length (normalized f.kind text) =
    subst (λ n. c.saturating_mul-added.result ≤ n * length (normalized f.kind text)) count
    (subst (λ n. c.saturating_mul-added.result ≤ c.len-count.result * n) units (omega (arith, c.saturating_mul-added.ensures))) in
    let view = ap (λ (s : ModelState). length s.document.units) c.self.view_is in
    let fits : length f.units ≤ most_units = omega (arith, view, c.text-text.ensures.fits) in
    let inside = found_fits f sought c.requires.some in
    let within : c.len-count.result * length sought ≤ length f.units =
    subst (λ n. n * length sought ≤ length f.units) (sym count) inside in
    let removed : c.saturating_mul-removed.result ≡ length (flat_find f sought) * length sought =
    subst (λ n. c.saturating_mul-removed.result ≡ n * length sought) count (omega (arith, c.saturating_mul-removed.ensures, within, fits)) in
    let kept : c.saturating_sub.result ≡ length f.units - c.saturating_mul-removed.result = omega (arith, c.saturating_sub.ensures, same, c.len.ensures.units) in
    replace_too_long f sought text c.requires.some fits
    (omega (arith, long, added, removed, kept, fits, inside, replaced-length f sought text c.requires.some))

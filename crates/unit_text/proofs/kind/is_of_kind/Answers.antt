use Rattle.unit_text.proofs.KindLaws.{has_no_return_iff}
use Rattle.unit_text.proofs.kind.is_of_kind.Goals as goal

pub returns-in-Lf : goal.returns-in-Lf
returns-in-Lf c =
    let decides = has_no_return_iff c.args.units.now in
    rw c.in-Lf.is (λ holds. decides.0 (c.has_no_return.ensures.0 holds), λ same. c.has_no_return.ensures.1 (decides.1 same))

use Rattle.std.proofs.Common.{refl, arith}
use Rattle.std.proofs.lemmas.List.{take_all}
use Rattle.unit_text.proofs.Fronts.{each_same}
use Rattle.unit_text.proofs.utf8.widened.Goals as goal

pub returns : goal.returns
returns c =
    rw (take_all 32 c.args.bytes.now (omega (arith, c.requires)))
    (each_same _ c.args.bytes.now (λ b fits. refl) c.type_inv.bytes)

use Rattle.std.proofs.Common.{◌<◌, refl, length, [], arith}
use Rattle.std.specs.Prelude.{Err}
use Rattle.document_rules.specs.declared.ModelError.TheVariants.{Range}
use Rattle.textmodel_c.proofs.JoinedTexts.{is_short}
use Rattle.textmodel_c.proofs.text.read_out.Goals as goal

pub returns-then-out-lt2 : goal.returns-then-out-lt2
returns-then-out-lt2 c =
    let short : length c.args.out.now < 2 = omega arith in
    (Err Range, [], (refl, refl, refl), rw (is_short (length c.args.out.now) 2 short) refl)

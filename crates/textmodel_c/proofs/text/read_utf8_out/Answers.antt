use Rattle.std.proofs.Common.{◌≡◌, ◌<◌, ◌/◌, refl, length, [], ap, ◌∙◌, arith, rules}
use Rattle.std.specs.Prelude.{Err}
use Rattle.document_rules.specs.declared.ModelError.TheVariants.{Range}
use Rattle.textmodel_c.proofs.JoinedTexts.{is_short}
use Rattle.textmodel_c.proofs.text.read_utf8_out.Goals as goal

pub returns-then-room-lt2-clause-bytes : goal.returns-then-room-lt2-clause-bytes
returns-then-room-lt2-clause-bytes c =
    let short : length c.args.out.now / 3 < 2 = search rules in
    (Err Range, [], (refl, refl, refl), rw (is_short (length c.args.out.now / 3) 2 short) refl)

use Rattle.std.proofs.Common.{◌≡◌, arith}
use Rattle.std.proofs.lemmas.Grind.{common_steps}
use Rattle.unit_text.specs.Kinds.{normalized}
use Rattle.unit_text.proofs.KindLaws.{normalized-of_kind}
use Rattle.model_core.proofs.model.open.page_of.Goals as goal

pub new_page-requires-2 : goal.new_page-requires-2
new_page-requires-2 c =
    let is : c.norm_of.new.out.items ≡ normalized c.args.kind c.args.text.now = grind (arith, common_steps) in
    rw (c.deref.ensures.value, is) (normalized-of_kind c.args.kind c.args.text.now)

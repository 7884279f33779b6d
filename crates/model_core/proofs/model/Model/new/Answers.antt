use Rattle.std.proofs.Common.{refl, sym, subst, arith}
use Rattle.model_page.specs.State.{flat_text}
use Rattle.model_core.specs.History.{IsHistory}
use Rattle.model_core.proofs.Shelving.{IsShelf-none}
use Rattle.model_core.proofs.model.Model.new.Goals as goal

pub invariant_of-result : goal.invariant_of-result
invariant_of-result c = (
  omega arith,
  subst (IsHistory (flat_text c.new.result.text)) (sym c.new-2.ensures) (record { back = tt; on = tt }),
  IsShelf-none c.new.result.text.buffers c.new-3.result c.new-3.ensures,
  refl,
)

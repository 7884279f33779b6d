use Rattle.std.proofs.Common.{ap, sym, ◌∙◌}
use Rattle.std.specs.Prelude.{not, is_some}
use Rattle.paged_list.specs.List.{Paged}
use Rattle.interval_deltas.specs.declared.names.Entry.{Entry}
use Rattle.interval_deltas.proofs.Entries.{gathered_one, passed_one}
use Rattle.interval_deltas.proofs.names.gather.Goals as goal

pub loop-at-preserved-then-is_none : goal.loop-at-preserved-then-is_none
loop-at-preserved-then-is_none c =
    let dead = ap is_some (sym c.name.ensures) ∙ c.is_none.ensures ∙ ap not c.if-is_none.true in
    (passed_one _ c.loop-at.entries.items c.loop-at.kept c.loop-at.at c.loop-at.invariant.0 c.get-entry.result.now c.get-entry.ensures dead, c.loop-at.invariant.1)

pub loop-at-preserved : goal.loop-at-preserved
loop-at-preserved c =
    let named = ap is_some (sym c.name.ensures) ∙ c.is_none.ensures ∙ ap not c.if-is_none.false in let is = ap (λ (p : Paged Entry). p.items) c.set.ensures in (
      rw is (gathered_one _ c.loop-at.entries.items c.loop-at.kept c.loop-at.at c.loop-at.invariant.0 c.get-entry.result.now c.get-entry.ensures named),
      ap (λ (p : Paged Entry). p.capacity) c.set.ensures ∙ c.loop-at.invariant.1,
    )

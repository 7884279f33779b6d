use Rattle.std.proofs.Common.{◌≡◌, ◌≤◌, length, get_or, ap, subst, arith}
use Rattle.std.proofs.lemmas.Grind.{common_steps}
use Rattle.std.proofs.lemmas.List.Sums.{sum_by_more}
use Rattle.std.proofs.lemmas.List.Elements.{All-get_or}
use Rattle.std.proofs.lemmas.Option.{get_or_from_slice_get, slice_get_within}
use Rattle.batch_rules.specs.Batches.{most_units, text_units}
use Rattle.edit_stack.specs.Element.{step_of}
use Rattle.text_batches.specs.Needs.{edit_count, text_breaks}
use Rattle.model_page.specs.declared.change.Change.{Change}
use Rattle.model_page.specs.Changes.{ops_by}
use Rattle.model_page.proofs.change.need_of_step.Goals as goal

pub need_of-need-requires : goal.need_of-need-requires
need_of-need-requires c =
    let cs = (step_of c.args.step.now).changes in
    let change = c.change.result.now in
    let is = get_or_from_slice_get cs c.loop-at.at change change c.change.ensures in
    let within = slice_get_within cs c.loop-at.at change c.change.ensures in
    let few = All-get_or (λ (d : Change). text_units (ops_by c.args.way d) ≤ most_units) cs c.loop-at.at change within c.requires in
    subst (λ (d : Change). text_units (ops_by c.args.way d) ≤ most_units) is few

pub loop-at-preserved : goal.loop-at-preserved
loop-at-preserved c =
    let way = c.args.way in
    let cs = (step_of c.args.step.now).changes in
    let at = c.loop-at.at in
    let change = c.change.result.now in
    let is : get_or cs at change ≡ change = get_or_from_slice_get cs at change change c.change.ensures in
    let edits = sum_by_more {X = Change} (λ d. edit_count (ops_by way d)) cs at change (omega arith) in
    let units = sum_by_more {X = Change} (λ d. text_units (ops_by way d)) cs at change (omega arith) in
    let breaks = sum_by_more {X = Change} (λ d. text_breaks (ops_by way d)) cs at change (omega arith) in
    let own_edits = ap (λ (d : Change). edit_count (ops_by way d)) is in
    let own_units = ap (λ (d : Change). text_units (ops_by way d)) is in
    let own_breaks = ap (λ (d : Change). text_breaks (ops_by way d)) is in
    record {
      edits = grind (arith, common_steps);
      units = grind (arith, common_steps);
      breaks = grind (arith, common_steps);
    }

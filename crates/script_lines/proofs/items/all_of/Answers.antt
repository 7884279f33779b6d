use Rattle.std.proofs.Common.{◌≡◌, ◌++◌, ◌∷◌, [], Some, ap, sym, ◌∙◌, arith}
use Rattle.std.proofs.lemmas.Grind.{common_steps}
use Rattle.serde_json.specs.View.{view}
use Rattle.script_lines.proofs.FieldLemmas.{all_of_more, all_of_refused}
use Rattle.script_lines.proofs.items.all_of.Goals as goal

pub returns-in_err-item : goal.returns-in_err-item
returns-in_err-item g c =
    let refused = all_of_refused g.T.Item.reads c.args.values.now c.loop-value.value-index c.value-item.result c.loop-value-test.true c.value-item.is in
    grind (arith, common_steps)

pub loop-value-preserved : goal.loop-value-preserved
loop-value-preserved g c =
    let item : g.T.Item.reads (view c.value-item.result) ≡ Some c.in_ok-item.item = grind (arith, common_steps) in
    let pushed : c.push.new.self.items ≡ c.loop-value.items.items ++ c.in_ok-item.item ∷ [] = grind (arith, common_steps) in
    all_of_more g.T.Item.reads c.args.values.now c.loop-value.value-index c.value-item.result c.in_ok-item.item c.loop-value.items.items c.loop-value-test.true c.value-item.is item c.loop-value.invariant
    ∙ ap Some (sym pushed)

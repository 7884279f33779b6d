use Rattle.std.proofs.Common.{◌≡◌, ◌≤◌, true, OnOk, length, ap, arith, rules}
use Rattle.std.proofs.lemmas.Grind.{common_steps}
use Rattle.batch_rules.specs.Batches.{most_units}
use Rattle.bracket_rules.specs.Table.{is_table}
use Rattle.model_core.specs.State.{ModelState}
use Rattle.model_core.proofs.Kept.{small_where_ok}
use Rattle.model_core.proofs.model.Model.brackets_in_counted.Goals as goal

pub returns-clause-brackets : goal.returns-clause-brackets
returns-clause-brackets g c =
    let f = c.args.self.now.document in
    let same = ap (λ (s : ModelState). length s.document.units) c.self.view_is in
    let fits : length f.units ≤ most_units = omega (arith, same, c.text.ensures.fits) in
    let table : OnOk c.map_err.result (is_table f.scanner.table ≡ true) = grind (arith, common_steps) in
    record {
      entries = search rules;
      small = λ entries is. small_where_ok c.map_err.result f c.args.from c.args.to entries table fits is;
      parse = search rules;
    }

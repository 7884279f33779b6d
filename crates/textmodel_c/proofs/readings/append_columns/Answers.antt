use Rattle.std.proofs.Common.{◌≡◌, ℕ, [], ◌∷◌, ◌++◌, Ok, Err, ◌∙◌, rules}
use Rattle.document_rules.specs.declared.ModelError.TheVariants.{Memory}
use Rattle.textmodel_c.specs.Rules.{at, column_as}
use Rattle.textmodel_c.proofs.JoinedTexts.{found_before-none, told_on, told_refused}
use Rattle.textmodel_c.proofs.readings.append_columns.Goals as goal

pub loop-stop-init : goal.loop-stop-init
loop-stop-init c = record {
  follows = c.new-columns.ensures.follows c.args.model.now.document;
  encoding = c.new-columns.ensures.encoding;
  found = rw c.requires (found_before-none _);
}

pub returns-in_err-column : goal.returns-in_err-column
returns-in_err-column c =
    let f = c.args.model.now.document in
    let e = c.in_err-column.field-0.0 in
    let same : c.from_residual.result ≡ Err e = search rules in
    rw same (told_refused (λ (n : ℕ). column_as f c.args.encoding (at c.args.line n)) c.loop-stop.out.items c.args.stops.now c.loop-stop.stop-index _ e _
    c.loop-stop-test.true c.loop-stop.invariant.found (rw c.loop-stop.invariant.encoding at c.in_err-column.ensures.column))

pub returns-in_err-map_err : goal.returns-in_err-map_err
returns-in_err-map_err c =
    let same : c.from_residual-in_err-map_err.result ≡ Err Memory = search rules in
    rw same tt

pub loop-stop-preserved : goal.loop-stop-preserved
loop-stop-preserved c =
    let f = c.args.model.now.document in
    let pushed : c.push.new.self.items ≡ c.loop-stop.out.items ++ c.in_ok-column.column ∷ [] = search rules in
    record {
      follows = c.column.ensures.follows;
      encoding = c.column.ensures.encoding ∙ c.loop-stop.invariant.encoding;
      found = rw pushed (told_on (λ (n : ℕ). column_as f c.args.encoding (at c.args.line n)) c.loop-stop.out.items c.args.stops.now c.loop-stop.stop-index _ c.in_ok-column.column
          c.loop-stop-test.true (rw c.loop-stop.invariant.encoding at c.in_ok-column.ensures.column) ∙ c.loop-stop.invariant.found);
    }

use Rattle.std.proofs.Common.{◌≡◌, ℕ, [], ◌∷◌, ◌++◌, Ok, Err, ◌∙◌, rules}
use Rattle.document_rules.specs.declared.ModelError.TheVariants.{Memory}
use Rattle.textmodel_c.specs.Rules.{bracket_in}
use Rattle.textmodel_c.proofs.JoinedTexts.{found_before-none, told_on, told_refused}
use Rattle.textmodel_c.proofs.brackets.append_brackets.Goals as goal

pub loop-entry-init : goal.loop-entry-init
loop-entry-init c = record {
  follows = c.new-columns.ensures.follows c.args.model.now.document;
  encoding = c.new-columns.ensures.encoding;
  found = rw c.requires.none (found_before-none _);
}

pub returns-in_err-bracket : goal.returns-in_err-bracket
returns-in_err-bracket c =
    let f = c.args.model.now.document in
    let e = c.in_err-bracket.field-0.0 in
    let same : c.from_residual.result ≡ Err e = search rules in
    rw same (told_refused (bracket_in f c.args.encoding) c.loop-entry.out.items c.args.entries.now c.loop-entry.entry-index _ e _
    c.loop-entry-test.true c.loop-entry.invariant.found (rw c.loop-entry.invariant.encoding at c.in_err-bracket.ensures.bracket))

pub returns-in_err-map_err : goal.returns-in_err-map_err
returns-in_err-map_err c =
    let same : c.from_residual-in_err-map_err.result ≡ Err Memory = search rules in
    rw same tt

pub loop-entry-preserved : goal.loop-entry-preserved
loop-entry-preserved c =
    let f = c.args.model.now.document in
    let pushed : c.push.new.self.items ≡ c.loop-entry.out.items ++ c.in_ok-bracket.bracket ∷ [] = search rules in
    record {
      follows = c.bracket_in.ensures.follows;
      encoding = c.bracket_in.ensures.encoding ∙ c.loop-entry.invariant.encoding;
      found = rw pushed (told_on (bracket_in f c.args.encoding) c.loop-entry.out.items c.args.entries.now c.loop-entry.entry-index _ c.in_ok-bracket.bracket
          c.loop-entry-test.true (rw c.loop-entry.invariant.encoding at c.in_ok-bracket.ensures.bracket) ∙ c.loop-entry.invariant.found);
    }

use Rattle.std.proofs.Common.{◌∙◌, ap, option_and_then}
use Rattle.std.specs.Str.Parse.{ParsesUnsigned, ExplainsUnsignedError, HasUnsignedDigitsIfOk}
use Rattle.clap.proofs.WalkLemmas.{one_text-rows}
use Rattle.clap.specs.Words.{found_of, one_text}
use Rattle.script_runner.specs.Words.{number_in}
use Rattle.script_runner.proofs.CommandLineLemmas.{number_kept, number_missing}
use Rattle.script_runner.proofs.words.number_at.Goals as goal

pub returns-in_err-number-clause-number : goal.returns-in_err-number-clause-number
returns-in_err-number-clause-number c =
    c.from_residual.ensures
    ∙ number_missing _ (λ bs r. ParsesUnsigned 64 10 bs r × ExplainsUnsignedError 10 bs r × HasUnsignedDigitsIfOk bs r) (λ t r g. g.0)
    c.args.most (one_text (found_of c.args.given.now) c.args.id.now) c.in_err-number.ensures.value
    ∙ ap (option_and_then (number_in c.args.most)) (one_text-rows (found_of c.args.given.now) c.args.id.now)

pub returns-clause-number : goal.returns-clause-number
returns-clause-number c =
    c.then_some.ensures
    ∙ number_kept _ (λ bs r. ParsesUnsigned 64 10 bs r × ExplainsUnsignedError 10 bs r × HasUnsignedDigitsIfOk bs r) (λ t r g. g.0)
    c.args.most (one_text (found_of c.args.given.now) c.args.id.now) c.in_ok-number.number c.in_ok-number.ensures.none c.in_ok-number.ensures.value
    ∙ ap (option_and_then (number_in c.args.most)) (one_text-rows (found_of c.args.given.now) c.args.id.now)

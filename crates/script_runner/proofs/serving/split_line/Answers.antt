use Rattle.std.proofs.Common.{◌≡◌, ◌<◌, length, take, arith}
use Rattle.std.proofs.lemmas.Bool.{false_from_ne_true}
use Rattle.std.proofs.lemmas.List.{length-take-le, get_or-take}
use Rattle.session_rules.proofs.CutLemmas.{in_one_line}
use Rattle.script_runner.proofs.serving.split_line.Goals as goal

pub returns-in_err-at-clause-none : goal.returns-in_err-at-clause-none
returns-in_err-at-clause-none c =
    rw c.from_residual.ensures (in_one_line c.args.bytes.now
    (λ k small. false_from_ne_true _ (c.in_err-at.ensures k (omega arith) small)))

pub returns-clause-line : goal.returns-clause-line
returns-clause-line c =
    let bytes = c.args.bytes.now in
    let found = c.in_ok-at.ensures in
    let at = c.in_ok-at.at in
    let whole : length (take at bytes) ≡ at = length-take-le at bytes (omega (arith, found.0.high)) in
    in_one_line (take at bytes)
    (λ k small. let before : k < at = omega arith in
    rw (get_or-take at bytes k 0 before) (false_from_ne_true _ (found.0.before k (omega arith) before)))

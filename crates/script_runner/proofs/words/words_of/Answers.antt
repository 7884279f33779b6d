use Rattle.std.proofs.Common.{◌≡◌, ◌∙◌, inl, inr, true, false, sym, ap, subst, map, string_bytes}
use Rattle.clap.specs.Words.{IsAmong, app_of, is_simple, kind_of, subcommand_of}
use Rattle.clap.specs.Faults.{fault_of, is_simple_and_free}
use Rattle.clap.specs.declared.error.kind.ErrorKind.TheVariants.{OutOfMemory}
use Rattle.script_runner.specs.CommandLine.{command_found, command_line}
use Rattle.script_runner.proofs.CommandLineLemmas.{is_simple_line, is_free_line, reading, command_read, command_refused}
use Rattle.script_runner.proofs.words.words_of.Goals as goal

pub returns-in-Ok-clause-command : goal.returns-in-Ok-clause-command
returns-in-Ok-clause-command c =
    let words = map string_bytes c.args.words.now in
    let line : app_of c.in_ok-command_line.field-0 ≡ command_line = c.in_ok-command_line.ensures in
    let none = ap (λ a. fault_of a words) (sym line) ∙ c.in-Ok.ensures.kinds (ap is_simple_and_free line ∙ is_free_line) in
    let found = (c.in-Ok.ensures.matches (ap is_simple line ∙ is_simple_line)).1 ∙ ap (λ a. subcommand_of a words) line in
    c.command_found.ensures.command ∙ ap command_found found ∙ command_read words (reading c.args.words.now) none

pub returns-in-Err-2-clause-command : goal.returns-in-Err-2-clause-command
returns-in-Err-2-clause-command c =
    let words = map string_bytes c.args.words.now in
    let line : app_of c.in_ok-command_line.field-0 ≡ command_line = c.in_ok-command_line.ensures in
    let some = c.in-Err.ensures.kinds (ap is_simple_and_free line ∙ is_free_line) in
    elim some [
      | inl memory ↦
          let same : c.kind.result ≡ OutOfMemory = c.kind.ensures ∙ memory in
          let wrong : false ≡ true = sym c.if-eq.false ∙ rw same at c.eq.ensures in
          cc
      | inr among ↦ command_refused words (reading c.args.words.now) _ (subst (λ a. IsAmong (kind_of c.in-Err.error) (fault_of a words)) line among)
    ]

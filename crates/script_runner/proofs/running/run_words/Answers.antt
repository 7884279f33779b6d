use Rattle.script_runner.proofs.ObeyLemmas.{for_run}
use Rattle.script_runner.proofs.RunLemmas.{written_from_run, answered_from_written, told_from_written}
use Rattle.script_runner.proofs.running.run_words.Goals as goal

pub returns-clause-headline : goal.returns-clause-headline
returns-clause-headline g c =
    λ command few script before after left taken takes.
    answered_from_written _ _ script before _
    (written_from_run _ _ _ _ script left _ few (c.obey.result, c.number_of.ensures, (for_run _ _ _ _ _ _ _ _ _ _ _ c.obey.ensures command).0)) taken after takes

pub returns-clause-told : goal.returns-clause-told
returns-clause-told g c =
    λ command few script before left taken.
    told_from_written _ _ script before _
    (written_from_run _ _ _ _ script left _ few (c.obey.result, c.number_of.ensures, (for_run _ _ _ _ _ _ _ _ _ _ _ c.obey.ensures command).0)) taken

use Rattle.std.proofs.Common.{◌-◌, take, sym, ap, ◌∙◌, arith}
use Rattle.std.proofs.lemmas.List.{length-replicate, drop-replicate, take-replicate}
use Rattle.worked_calls.proofs.tests.long_texts.LettersFlat.run.Goals as goal

pub returns-clause-front : goal.returns-clause-front
returns-clause-front c =
    sym (ap (take 1) (drop-replicate c.args._at c.args.self.now.count 97)
    ∙ take-replicate 1 (c.args.self.now.count - c.args._at) 97 (omega (arith, simp length-replicate at c.requires)))

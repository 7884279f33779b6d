use Rattle.search_rules.proofs.Walking.{occurrences_are}
use Rattle.model_core.proofs.model.Model.find_counted.Goals as goal

pub returns-clause-occurrences : goal.returns-clause-occurrences
returns-clause-occurrences g c =
    let f = c.args.self.now.document in
    occurrences_are f.kind f.units c.args.sought.now c.requires.some

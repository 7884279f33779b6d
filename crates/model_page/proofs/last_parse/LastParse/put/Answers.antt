use Rattle.model_page.proofs.EditedMarks.{fresh_after_parse}
use Rattle.model_page.proofs.last_parse.LastParse.put.Goals as goal

pub returns-clause-fresh : goal.returns-clause-fresh
returns-clause-fresh c = fresh_after_parse c.args.parse.parsed.tree c.adopt.new.self.marks _ c.adopt.ensures.marks

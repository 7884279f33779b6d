use Rattle.model_core.proofs.Alone.{can_commit_closed, acted_alone, left_alone, bound_alone}
use Rattle.model_core.proofs.model.Model.commit_alone.Goals as goal

pub commit-requires : goal.commit-requires
commit-requires c = record { can = can_commit_closed c.args.self.now c.stop.new.self c.args.ready c.stop.ensures.document c.stop.ensures.parse c.requires.can }

pub returns-clause-document : goal.returns-clause-document
returns-clause-document c =
    acted_alone c.args.self.now c.stop.new.self c.commit.new.self c.stop-2.new.self c.args.ready.action c.stop.ensures.document c.stop.ensures.parse
    c.commit.ensures.document c.commit.ensures.parse c.stop-2.ensures.document c.stop-2.ensures.parse

pub returns-clause-parse : goal.returns-clause-parse
returns-clause-parse c =
    left_alone c.args.self.now c.stop.new.self c.commit.new.self c.stop-2.new.self c.args.ready.action c.stop.ensures.document c.stop.ensures.parse
    c.commit.ensures.document c.commit.ensures.parse c.stop-2.ensures.document c.stop-2.ensures.parse

pub returns-clause-held : goal.returns-clause-held
returns-clause-held c =
    bound_alone c.args.self.now c.stop.new.self c.commit.new.self c.stop-2.new.self c.args.ready.action c.stop.ensures.document c.stop.ensures.parse
    c.commit.ensures.document c.commit.ensures.parse c.stop-2.ensures.document c.stop-2.ensures.parse c.commit.ensures.held

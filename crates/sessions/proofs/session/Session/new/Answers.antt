use Rattle.sessions.proofs.StandingLemmas.{stands_fresh}
use Rattle.sessions.proofs.session.Session.new.Goals as goal

pub returns : goal.returns
returns c = stands_fresh _ c.in_ok-group.ensures c.in_ok-followers.ensures

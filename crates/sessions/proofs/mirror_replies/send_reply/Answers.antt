use Rattle.std.proofs.Common.{refl, sym, subst}
use Rattle.std.proofs.lemmas.Option.{slice_get_read}
use Rattle.session_rules.specs.Step.{send_answer}
use Rattle.model_group.proofs.Lists.{doc_in-is}
use Rattle.sessions.specs.Told.{TellsAfter}
use Rattle.sessions.proofs.StandingLemmas.{tells_following}
use Rattle.sessions.proofs.mirror_replies.send_reply.Goals as goal

pub returns : goal.returns
returns c =
    let followers = c.args.session.now.followers in
    tells_following _ _ c.args.doc c.in-Some.follower.now c.send_event.new.follower _ c.requires
    (slice_get_read followers.items followers.len c.args.doc c.in-Some.follower.now followers.ok.0 (c.in-Some.ensures.variant.0 refl) c.in-Some.ensures.value)
    refl refl send_answer
    (subst (λ f. TellsAfter f (send_answer f) c.in-Some.follower.now c.send_event.result c.send_event.new.follower)
    (sym (doc_in-is c.args.session.now.group c.args.doc c.doc.result.now c.doc.ensures)) c.send_event.ensures)

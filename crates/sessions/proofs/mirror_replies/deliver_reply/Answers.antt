use Rattle.std.proofs.Common.{refl}
use Rattle.std.proofs.lemmas.Option.{slice_get_read}
use Rattle.session_rules.specs.Step.{deliver_answer, sent_at}
use Rattle.sessions.proofs.StandingLemmas.{tells_following}
use Rattle.sessions.proofs.mirror_replies.deliver_reply.Goals as goal

pub returns : goal.returns
returns c =
    let followers = c.args.session.now.followers in
    tells_following _ _ c.args.doc c.in-Some.follower.now c.take_event.new.follower _ c.requires
    (slice_get_read followers.items followers.len c.args.doc c.in-Some.follower.now followers.ok.0 (c.in-Some.ensures.variant.0 refl) c.in-Some.ensures.value)
    refl refl (λ f flat. deliver_answer flat flat.mirror (sent_at flat.sent c.args.n)) (c.take_event.ensures _)

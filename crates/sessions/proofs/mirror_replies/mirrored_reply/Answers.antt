use Rattle.std.proofs.Common.{◌≡◌, length, slice_get, Some, refl, subst}
use Rattle.std.proofs.lemmas.Option.{slice_get_read}
use Rattle.session_rules.specs.Step.{mirrored_answer}
use Rattle.sessions.proofs.StandingLemmas.{tells_asked_after}
use Rattle.sessions.proofs.mirror_replies.mirrored_reply.Goals as goal

pub returns : goal.returns
returns c =
    let own = c.in-Some.follower.now in
    let item = c.in-Some.ensures.lookup in
    let there : slice_get c.args.session.now.followers.items c.args.doc ≡ Some own =
    subst (λ xs. slice_get xs c.args.doc ≡ Some own) c.deref.ensures.value
    (slice_get_read c.deref.result.now (length c.deref.result.now) c.args.doc own refl item.3.0 item.1) in
    tells_asked_after _ c.args.doc own _ c.requires there (λ flat. mirrored_answer flat.mirror c.args.n) (c.mirror_line.ensures _)

use Rattle.std.proofs.Common.{rules, ◌≡◌, ◌+◌, ◌∷◌, [], ◌++◌, length, refl, ap, sym, ◌∙◌, subst, arith}
use Rattle.std.specs.Prelude.{IsNone}
use Rattle.std.proofs.lemmas.Bool.{both_ways}
use Rattle.script_lines.specs.Replies.{ok_reply}
use Rattle.sessions.proofs.MirrorLemmas.{tells_sent}
use Rattle.sessions.proofs.mirror_replies.send_event.Goals as goal

pub returns : goal.returns
returns c =
    let items = c.args.follower.now.sent.items in
    let sent : length c.as_slice-sent.result.now ≡ length items = ap length c.as_slice-sent.ensures.value in
    let pushed : c.push.new.self.items ≡ items ++ c.in-Some.event ∷ [] = search rules in
    tells_sent _ _ _ _ c.in-Some.event (sym c.in_ok-event.ensures.event ∙ c.in-Some.is)
    (λ one. both_ways _ (subst IsNone c.in-Some.is (c.in_ok-event.ensures.none.1 one)) refl)
    c.last_event.ensures.texts (omega (arith, c.if-sent-ge-MOST_SENT.false, sent)) refl pushed
    (c.ok.ensures ∙ ap (λ n. ok_reply ((n + 1) ∷ c.from-from.result ∷ [])) sent ∙ ap (λ n. ok_reply ((length items + 1) ∷ n ∷ [])) c.from-from.ensures.from)

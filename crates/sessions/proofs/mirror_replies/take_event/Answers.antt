use Rattle.std.proofs.Common.{◌≡◌, List, Some, Ok, Err, refl, ap, sym, ◌∙◌}
use Rattle.batch_rules.specs.Events.{EventState}
use Rattle.mirror_rules.specs.Mirrors.{old, gap}
use Rattle.script_lines.specs.declared.reason.Refusal.TheVariants as refusal
use Rattle.sessions.specs.declared.outcome.Reply.TheVariants.{Short}
use Rattle.session_rules.specs.Script.{is_refused}
use Rattle.sessions.proofs.MirrorLemmas.{event_at, tells_followed, tells_refused, tells_misfit}
use Rattle.sessions.proofs.mirror_replies.take_event.Goals as goal
use Rattle.sessions.proofs.mirror_replies.take_event.Goals.{After-take}

event_of : (c : After-take) → event_at c.args.follower.now.sent.items c.args.n ≡ Some c.in-Some-event_at.event.now
event_of c = ap (λ (xs : List EventState). event_at xs c.args.n) (sym c.deref.ensures.value) ∙ sym c.in-Some-event_at.ensures

pub returns-in-Ok-true : goal.returns-in-Ok-true
returns-in-Ok-true c =
    λ f. tells_followed f _ _ c.args.n c.in-Some.mirror c.take.new.self c.in-Some-event_at.event.now c.in-Some.is
    (event_of (goal.at.returns-in-Ok-true c).After-take) refl refl _
    (rw c.in-Ok-true.field-0-test at c.in-Ok-true.ensures) c.followed_reply.ensures

pub returns-in-Ok-false : goal.returns-in-Ok-false
returns-in-Ok-false c =
    let told = rw c.in-Ok-false.field-0-test at c.in-Ok-false.ensures in
    λ f. tells_refused f _ _ c.args.n c.in-Some.mirror c.take.new.self c.in-Some-event_at.event.now c.in-Some.is
    (event_of (goal.at.returns-in-Ok-false c).After-take) refl refl (Ok (Short c.old.result)) old told.0 told.1
    (λ flat. ap (λ b. (b, flat)) (sym c.old.ensures)) (ap is_refused c.old.ensures)

pub returns-in-Err-Gap : goal.returns-in-Err-Gap
returns-in-Err-Gap c =
    let told = rw c.in-Err-Gap.field-0-is at c.in-Err-Gap.ensures in
    let have = c.in-Err-Gap.have in
    let need = c.in-Err-Gap.need in
    λ f. rw (c.in-Err-Gap.have-is, c.in-Err-Gap.need-is)
    (tells_refused f _ _ c.args.n c.in-Some.mirror c.take.new.self c.in-Some-event_at.event.now c.in-Some.is
    (event_of (goal.at.returns-in-Err-Gap c).After-take) refl refl (Err (record { 0 = refusal.Gap have need })) (gap have need) told.0 told.1
    (λ flat. refl) tt)

pub returns-in-Err-Misfit : goal.returns-in-Err-Misfit
returns-in-Err-Misfit c =
    let told = rw c.in-Err-Misfit.field-0-is at c.in-Err-Misfit.ensures in
    λ f. tells_misfit f _ _ c.args.n c.in-Some.mirror c.take.new.self c.in-Some-event_at.event.now c.in-Some.is
    (event_of (goal.at.returns-in-Err-Misfit c).After-take) refl refl (Err (record { 0 = refusal.Unknown })) c.in-Err-Misfit.field-0-0 told.0 tt

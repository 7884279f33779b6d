-- What a follower is once its mirror or its events changed.
use Rattle.std.proofs.Common.{◌≡◌, ℕ, zero, suc, ◌+◌, ◌-◌, ◌<◌, ◌≤◌, ◌==◌, nat_lt, nat_le, if◌then◌else◌, cond, Bool, true, false, List, [], ◌∷◌, ◌++◌, length, map, slice_get, Option, Some, None, IfSome, option_map, Result, Ok, refl, ap, sym, ◌∙◌, subst, arith}
use Rattle.std.specs.List.{All}
use Rattle.std.proofs.lemmas.Bool.{ltb-false, lt-leb, ne_eqb}
use Rattle.std.proofs.lemmas.List.{map-append, length-map}
use Rattle.std.proofs.lemmas.List.Elements.{All-push, All-get_or}
use Rattle.std.proofs.lemmas.Option.{slice_get-map, get_or_from_slice_get, slice_get_within}
use Rattle.batch_rules.specs.Events.{EventState, TakeTo, first_misfit, after_batches}
use Rattle.text_rules.specs.Lines.{Line, line_at}
use Rattle.document_rules.specs.Document.{FlatState, LastChange, flat_event, content_of}
use Rattle.mirror_rules.specs.Mirrors.{MirrorState, SentEvent, Arrival, old, gap, misfit, followed, by_version, carried_out, taken}
use Rattle.script_lines.specs.declared.reason.Refusal.TheVariants as refusal
use Rattle.script_lines.specs.Replies.{ok_reply, old_reply, text_reply, refusal_reply}
use Rattle.session_rules.specs.Session.{FlatFollower}
use Rattle.session_rules.specs.Script.{is_refused}
use Rattle.session_rules.specs.Step.{text_answer, most_sent, mirror_answer, send_answer, sent_at, mirror_reply, followed as followed_answer, delivered, deliver_answer, mirrored_answer, answered}
use Rattle.sessions.specs.declared.outcome.Reply.{Reply}
use Rattle.sessions.specs.declared.outcome.Reply.TheVariants.{Short}
use Rattle.sessions.specs.declared.outcome.Refused.{Refused}
use Rattle.sessions.specs.declared.session.Follower.{Follower}
use Rattle.sessions.specs.Bytes.{bytes_of, bytes_of_outcome}
use Rattle.sessions.specs.Standing.{IsSent, IsMirror, AreTexts, Follows, with_text}
use Rattle.sessions.specs.Told.{IsAccepted, TellsAfter}

-- ---- a mirror of the text of now

abbrev pub mirror_of : FlatState → MirrorState
mirror_of f = record { version = f.version; units = f.units }

module _ (f : FlatState) (mirror : Option MirrorState) (sent : List EventState) (flat : FlatFollower) (follows : Follows f mirror sent flat) where
  follows_mirrored : Follows f (Some (mirror_of f)) sent (record flat { mirror = Some (mirror_of f) })
  follows_mirrored = record {
    mirrored = refl;
    texts = follows.texts;
    known = record {
      first = follows.known.first;
      now = follows.known.now;
      before = follows.known.before;
      mirrored = record { past = omega arith; text = sym follows.known.now };
      events = follows.known.events;
    };
    told = follows.told;
  }

  -- ---- an event more

  follows_sent : (last : LastChange) → f.last ≡ Some last → TakeTo last.before last.batches f.units → 1 < f.version
      → Follows f mirror (sent ++ record { from = f.version - 1; batches = last.batches } ∷ [])
      (record flat { sent = flat.sent ++ record { from = f.version - 1; after = f.units } ∷ [] })
  follows_sent last is takes later =
      let t = follows.texts in
      let event : EventState = record { from = f.version - 1; batches = last.batches } in
      let was : t (f.version - 1) ≡ last.before = subst (λ l. IfSome l (λ (last : LastChange). t (f.version - 1) ≡ last.before)) is follows.known.before in
      let now : t (f.version - 1 + 1) ≡ f.units = ap t (omega (arith, later)) ∙ follows.known.now in
      let own : IsSent t f.version event = record { past = omega (arith, later); leads = rw (was, now) takes } in
      let told : with_text t event ≡ record { from = f.version - 1; after = f.units } = ap (λ (x : List ℕ). record { from = f.version - 1; after = x }) now in
      record {
        mirrored = follows.mirrored;
        texts = t;
        known = record {
          first = follows.known.first;
          now = follows.known.now;
          before = follows.known.before;
          mirrored = follows.known.mirrored;
          events = All-push (IsSent t f.version) sent event follows.known.events own;
        };
        told = ap (λ (es : List SentEvent). es ++ record { from = f.version - 1; after = f.units } ∷ []) follows.told
            ∙ ap (λ (e : SentEvent). map (with_text t) sent ++ e ∷ []) (sym told) ∙ sym (map-append (with_text t) sent (event ∷ []));
      }

-- ---- an event that is delivered

by_tests : {A : Type 0} (a b : Bool) (past before next other : A) → (a ≡ false → b ≡ false → next ≡ other)
    → cond a past (cond b before next) ≡ cond a past (cond b before other)
by_tests true b past before next other same = refl
by_tests false true past before next other same = refl
by_tests false false past before next other same = same refl refl

-- it takes a mirror with the text of its version to the text of the next one, and fits
taken_known : (t : ℕ → List ℕ) (version : ℕ) (m : MirrorState) (e : EventState) → IsMirror t version m → IsSent t version e
    → taken m e ≡ by_version e.from m.version old (gap m.version e.from) (followed (record { version = m.version + 1; units = t (e.from + 1) }))
taken_known t version m e is sent =
    by_tests (nat_lt e.from m.version) (nat_lt m.version e.from) old (gap m.version e.from) _ _ (λ low high.
    let same : m.version ≡ e.from = omega (arith, ltb-false e.from m.version low, ltb-false m.version e.from high) in
    let units : m.units ≡ t e.from = is.text ∙ ap t same in
    let fits : first_misfit m.units e.batches ≡ None = ap (λ x. first_misfit x e.batches) units ∙ sent.leads.fits in
    let text : after_batches m.units e.batches ≡ t (e.from + 1) = ap (λ x. after_batches x e.batches) units ∙ sent.leads.text in
    ap (carried_out m e.batches) fits ∙ ap (λ (x : List ℕ). followed (record { version = m.version + 1; units = x })) text)

-- how the follower answers to what comes of an event
abbrev pub answer_to : FlatFollower → Arrival → List ℕ × FlatFollower
answer_to s old = (old_reply, s)
answer_to s (gap have need) = (refusal_reply (refusal.Gap have need), s)
answer_to s (misfit n) = (refusal_reply refusal.Unknown, s)
answer_to s (followed m) = followed_answer s m

answer_by : (s : FlatFollower) (a b : Bool) (have need : ℕ) (m : MirrorState)
    → answer_to s (cond a old (cond b (gap have need) (followed m))) ≡ cond a (old_reply, s) (cond b (refusal_reply (refusal.Gap have need), s) (followed_answer s m))
answer_by s true b have need m = refl
answer_by s false true have need m = refl
answer_by s false false have need m = refl

-- the rule of the flat follower answers so
delivered_known : (s : FlatFollower) (t : ℕ → List ℕ) (version : ℕ) (m : MirrorState) (e : EventState) → IsMirror t version m → IsSent t version e
    → delivered s m (with_text t e) ≡ answer_to s (taken m e)
delivered_known s t version m e is sent =
    sym (answer_by s (nat_lt e.from m.version) (nat_lt m.version e.from) m.version e.from (record { version = m.version + 1; units = t (e.from + 1) }))
    ∙ ap (answer_to s) (sym (taken_known t version m e is sent))

no_misfit : (a b : Bool) (have need : ℕ) (next : MirrorState) (n : ℕ) → cond a old (cond b (gap have need) (followed next)) ≡ misfit n → ⊥
no_misfit true b have need next n is = absurd cc
no_misfit false true have need next n is = absurd cc
no_misfit false false have need next n is = absurd cc

-- an event of a document is no misfit
never_misfit : (t : ℕ → List ℕ) (version : ℕ) (m : MirrorState) (e : EventState) → IsMirror t version m → IsSent t version e
    → (n : ℕ) → taken m e ≡ misfit n → ⊥
never_misfit t version m e is sent n taken_so =
    no_misfit (nat_lt e.from m.version) (nat_lt m.version e.from) m.version e.from (record { version = m.version + 1; units = t (e.from + 1) }) n
    (sym (taken_known t version m e is sent) ∙ taken_so)

-- ---- the answers

-- a follower by its mirror and its events
leaves : (f : FlatState) (after : Follower) (mirror : Option MirrorState) (sent : List EventState) (flat : FlatFollower) → after.mirror ≡ mirror
    → after.sent.items ≡ sent → Follows f mirror sent flat → Follows f after.mirror after.sent.items flat
leaves f after mirror sent flat is told follows = rw (is, told) follows

-- a mirror was begun
pub tells_mirror : (f : FlatState) (before after : Follower) (short : List ℕ) → short ≡ ok_reply (f.version ∷ [])
    → after.mirror ≡ Some (mirror_of f) → after.sent.items ≡ before.sent.items → TellsAfter f (mirror_answer f) before (Ok (Short short)) after
tells_mirror f before after short is mirror sent = record {
  answer = λ flat follows. (
    record flat { mirror = Some (mirror_of f) },
    answered is refl,
    leaves f after (Some (mirror_of f)) before.sent.items _ mirror sent (follows_mirrored f before.mirror before.sent.items flat follows),
  );
  accepted = ap is_refused is;
}

last_sent : (f : FlatState) (last : Option LastChange) (event : EventState)
    → option_map (λ (last : LastChange). record { from = f.version - 1; batches = last.batches }) last ≡ Some event
    → (l : LastChange) × (last ≡ Some l) × (event ≡ record { from = f.version - 1; batches = l.batches })
last_sent f None event is = absurd cc
last_sent f (Some l) event is = (l, refl, cc)

above_one : (v : ℕ) → 1 ≤ v → (v ≡ 1 → ⊥) → 1 < v
above_one zero first other = absurd (omega (arith, first))
above_one (suc zero) first other = absurd (other refl)
above_one (suc (suc v)) first other = omega arith

-- an event was sent
pub tells_sent : (f : FlatState) (before after : Follower) (short : List ℕ) (event : EventState) → flat_event f ≡ Some event → (f.version ≡ 1 → ⊥)
    → IfSome f.last (λ (last : LastChange). TakeTo last.before last.batches f.units)
    → length before.sent.items < most_sent → after.mirror ≡ before.mirror
    → after.sent.items ≡ before.sent.items ++ event ∷ [] → short ≡ ok_reply ((length before.sent.items + 1) ∷ event.from ∷ [])
    → TellsAfter f (send_answer f) before (Ok (Short short)) after
tells_sent f before after short event is later texts room mirror sent told = record {
  answer = λ flat follows.
      let found = last_sent f f.last event is in
      let takes : TakeTo found.0.before found.0.batches f.units = subst (λ l. IfSome l (λ (last : LastChange). TakeTo last.before last.batches f.units)) found.1 texts in
      let put : after.sent.items ≡ before.sent.items ++ record { from = f.version - 1; batches = found.0.batches } ∷ [] =
      sent ∙ ap (λ (e : EventState). before.sent.items ++ e ∷ []) found.2 in
      let many : length flat.sent ≡ length before.sent.items = ap length follows.told ∙ length-map before.sent.items (with_text follows.texts) in
      let from : event.from ≡ f.version - 1 = ap (λ (e : EventState). e.from) found.2 in
      let other : (f.version == 1) ≡ false = ne_eqb f.version 1 later in
      let few : nat_le most_sent (length flat.sent) ≡ false = ap (nat_le most_sent) many ∙ lt-leb most_sent (length before.sent.items) room in
      let next : FlatFollower = record flat { sent = flat.sent ++ record { from = f.version - 1; after = f.units } ∷ [] } in
      let rule : send_answer f flat ≡ (ok_reply ((length flat.sent + 1) ∷ (f.version - 1) ∷ []), next) = rw (other, few) refl in
      let bytes : short ≡ ok_reply ((length flat.sent + 1) ∷ (f.version - 1) ∷ []) =
      told ∙ ap (λ n. ok_reply ((n + 1) ∷ event.from ∷ [])) (sym many) ∙ ap (λ n. ok_reply ((length flat.sent + 1) ∷ n ∷ [])) from in (
        next,
        answered (bytes ∙ ap (λ r. r.0) (sym rule)) (ap (λ r. r.1) (sym rule)),
        leaves f after before.mirror _ next mirror put
            (follows_sent f before.mirror before.sent.items flat follows found.0 found.1 takes (above_one f.version follows.known.first later)),
      );
  accepted = ap is_refused told;
}

-- nothing changed
pub tells_alike : (f : FlatState) (rule : FlatFollower → List ℕ × FlatFollower) (before : Follower) (outcome : Result Reply Refused) → IsAccepted outcome
    → ((flat : FlatFollower) → Follows f before.mirror before.sent.items flat → rule flat ≡ (bytes_of_outcome outcome, flat)) → TellsAfter f rule before outcome before
tells_alike f rule before outcome accepted same = record {
  answer = λ flat follows.
      let is = same flat follows in
      (flat, answered (ap (λ r. r.0) (sym is)) (ap (λ r. r.1) (sym is)), follows);
  accepted = accepted;
}

-- the event of that number, where there is one
abbrev pub event_at : List EventState → ℕ → Option EventState
event_at sent n = if n == 0 then None else slice_get sent (n - 1)

event_at-map : (t : ℕ → List ℕ) (n : ℕ) (sent : List EventState) → sent_at (map (with_text t) sent) n ≡ option_map (with_text t) (event_at sent n)
event_at-map t zero sent = refl
event_at-map t (suc n) sent = rw (ne_eqb (suc n) 0 (λ e. absurd (omega arith))) (slice_get-map (with_text t) sent (suc n - 1))

event_is : (t : ℕ → List ℕ) (version n : ℕ) (sent : List EventState) (e : EventState) → All (IsSent t version) sent → event_at sent n ≡ Some e → IsSent t version e
event_is t version zero sent e all there = absurd cc
event_is t version (suc n) sent e all there =
    let k : ℕ = suc n - 1 in
    let at : slice_get sent k ≡ Some e = rw (ne_eqb (suc n) 0 (λ same. absurd (omega arith))) at there in
    subst (IsSent t version) (get_or_from_slice_get sent k e e at) (All-get_or (IsSent t version) sent k e (slice_get_within sent k e at) all)

-- what is known of an event that is handed to the mirror
record IsDelivered (f : FlatState) (flat : FlatFollower) (t : ℕ → List ℕ) (n : ℕ) (m : MirrorState) (e : EventState) : Type 0 where
  pub mirror : IsMirror t f.version m
  pub sent : IsSent t f.version e
  pub rule : deliver_answer flat flat.mirror (sent_at flat.sent n) ≡ answer_to flat (taken m e)

delivered_here : (f : FlatState) (before : Follower) (flat : FlatFollower) (follows : Follows f before.mirror before.sent.items flat) (n : ℕ) (m : MirrorState) (e : EventState)
    → before.mirror ≡ Some m → event_at before.sent.items n ≡ Some e → IsDelivered f flat follows.texts n m e
delivered_here f before flat follows n m e there event =
    let v = f.version in
    let t = follows.texts in
    let mirror : IsMirror t v m = subst (λ o. IfSome o (IsMirror t v)) there follows.known.mirrored in
    let own : IsSent t v e = event_is t v n before.sent.items e follows.known.events event in
    let at : sent_at flat.sent n ≡ Some (with_text t e) =
    ap (λ es. sent_at es n) follows.told ∙ event_at-map t n before.sent.items ∙ ap (option_map (with_text t)) event in
    record {
      mirror = mirror;
      sent = own;
      rule = ap (λ o. deliver_answer flat o (sent_at flat.sent n)) (follows.mirrored ∙ there) ∙ ap (deliver_answer flat (Some m)) at
          ∙ delivered_known flat t v m e mirror own;
    }

followed_tests : (a b : Bool) (have need : ℕ) (next m : MirrorState) → cond a old (cond b (gap have need) (followed next)) ≡ followed m
    → (a ≡ false) × (b ≡ false) × (next ≡ m)
followed_tests true b have need next m is = absurd cc
followed_tests false true have need next m is = absurd cc
followed_tests false false have need next m is = (refl, refl, cc)

-- a mirror that followed has the text of a version that was
followed_is : (t : ℕ → List ℕ) (version : ℕ) (m m' : MirrorState) (e : EventState) → IsMirror t version m → IsSent t version e → taken m e ≡ followed m' → IsMirror t version m'
followed_is t version m m' e is sent taken_so =
    let next : MirrorState = record { version = m.version + 1; units = t (e.from + 1) } in
    let tests = followed_tests (nat_lt e.from m.version) (nat_lt m.version e.from) m.version e.from next m'
    (sym (taken_known t version m e is sent) ∙ taken_so) in
    let same : e.from ≡ m.version = omega (arith, ltb-false e.from m.version tests.0, ltb-false m.version e.from tests.1) in
    subst (IsMirror t version) tests.2 (record { past = omega (arith, sent.past, same); text = ap (λ n. t (n + 1)) same })

module _ (f : FlatState) (before after : Follower) (n : ℕ) (m m' : MirrorState) (e : EventState) (there : before.mirror ≡ Some m) (event : event_at before.sent.items n ≡ Some e)
    (sent : after.sent.items ≡ before.sent.items) (mirror : after.mirror ≡ Some m') where
  abbrev rule_of : FlatFollower → List ℕ × FlatFollower
  rule_of flat = deliver_answer flat flat.mirror (sent_at flat.sent n)

  -- the mirror went on
  pub tells_followed : (reply : Reply) → taken m e ≡ followed m' → bytes_of reply ≡ mirror_reply m' → TellsAfter f rule_of before (Ok reply) after
  tells_followed reply taken_so bytes = record {
    answer = λ flat follows.
        let here = delivered_here f before flat follows n m e there event in
        let rule : rule_of flat ≡ followed_answer flat m' = here.rule ∙ ap (answer_to flat) taken_so in
        let known : AreTexts follows.texts f (Some m') before.sent.items = record {
          first = follows.known.first;
          now = follows.known.now;
          before = follows.known.before;
          mirrored = followed_is follows.texts f.version m m' e here.mirror here.sent taken_so;
          events = follows.known.events;
        } in
        let next : FlatFollower = record flat { mirror = Some m' } in (
          next,
          answered (bytes ∙ ap (λ r. r.0) (sym rule)) (ap (λ r. r.1) (sym rule)),
          leaves f after (Some m') before.sent.items next mirror sent (record { mirrored = refl; texts = follows.texts; known = known; told = follows.told }),
        );
    accepted = ap is_refused bytes;
  }

  -- nothing changed
  pub tells_refused : (outcome : Result Reply Refused) (arrival : Arrival) → taken m e ≡ arrival → m' ≡ m
      → ((flat : FlatFollower) → answer_to flat arrival ≡ (bytes_of_outcome outcome, flat)) → IsAccepted outcome → TellsAfter f rule_of before outcome after
  tells_refused outcome arrival taken_so same answers accepted = record {
    answer = λ flat follows.
        let here = delivered_here f before flat follows n m e there event in
        let rule : rule_of flat ≡ (bytes_of_outcome outcome, flat) = here.rule ∙ ap (answer_to flat) taken_so ∙ answers flat in (
          flat,
          answered (ap (λ r. r.0) (sym rule)) (ap (λ r. r.1) (sym rule)),
          leaves f after before.mirror before.sent.items flat (mirror ∙ ap Some same ∙ sym there) sent follows,
        );
    accepted = accepted;
  }

  -- an event of the document fits
  pub tells_misfit : (outcome : Result Reply Refused) (k : ℕ) → taken m e ≡ misfit k → IsAccepted outcome → TellsAfter f rule_of before outcome after
  tells_misfit outcome k taken_so accepted = record {
    answer = λ flat follows.
        let here = delivered_here f before flat follows n m e there event in
        absurd (never_misfit follows.texts f.version m e here.mirror here.sent k taken_so);
    accepted = accepted;
  }

-- a line of the mirror
pub tells_mirrored : (f : FlatState) (own : Follower) (n : ℕ) (m : MirrorState) (line : Line) (reply : Reply) → own.mirror ≡ Some m → line_at m.units n ≡ Some line
    → bytes_of reply ≡ text_reply line.content → TellsAfter f (λ flat. (mirrored_answer flat.mirror n, flat)) own (Ok reply) own
tells_mirrored f own n m line reply there is bytes = record {
  answer = λ flat follows.
      let rule : mirrored_answer flat.mirror n ≡ text_reply line.content =
      ap (λ o. mirrored_answer o n) (follows.mirrored ∙ there) ∙ ap (λ l. text_answer (content_of l)) is in
      (flat, answered (bytes ∙ sym rule) refl, follows);
  accepted = ap is_refused bytes;
}

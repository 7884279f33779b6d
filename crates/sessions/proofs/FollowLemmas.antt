-- A mirror and events go on with their document.
use Rattle.std.proofs.Common.{◌≡◌, ℕ, ◌+◌, ◌-◌, ◌≤◌, ◌==◌, cond, List, [], ◌∷◌, map, Option, Some, None, IfSome, refl, ap, sym, ◌∙◌, arith}
use Rattle.std.specs.List.{All}
use Rattle.std.proofs.lemmas.Bool.{ne_eqb, eq-eqb}
use Rattle.std.proofs.lemmas.List.Elements.{All-nil, All-cons, All-head, All-tail}
use Rattle.batch_rules.specs.Events.{EventState}
use Rattle.document_rules.specs.Document.{FlatState}
use Rattle.mirror_rules.specs.Mirrors.{MirrorState}
use Rattle.session_rules.specs.Session.{FlatFollower, no_follower}
use Rattle.sessions.specs.Standing.{IsSent, IsMirror, AreTexts, Follows, with_text}
use Rattle.sessions.proofs.GoesLemmas.{Goes, stays, goes}

-- ---- the texts that are known

-- the texts of the versions, with that of a new one
abbrev extended : (ℕ → List ℕ) → FlatState → ℕ → List ℕ
extended t new v = cond (v == new.version) new.units (t v)

extended_now : (t : ℕ → List ℕ) (new : FlatState) → extended t new new.version ≡ new.units
extended_now t new = rw (eq-eqb new.version new.version refl) refl

module _ (t : ℕ → List ℕ) (old new : FlatState) (next : new.version ≡ old.version + 1) where
  extended_past : (v : ℕ) → v ≤ old.version → extended t new v ≡ t v
  extended_past v past = rw (ne_eqb v new.version (λ same. omega (arith, past, same, next))) refl

  mirror_on : (mirror : Option MirrorState) → IfSome mirror (IsMirror t old.version) → IfSome mirror (IsMirror (extended t new) new.version)
  mirror_on None is = is
  mirror_on (Some m) is = record { past = omega (arith, is.past, next); text = is.text ∙ sym (extended_past m.version is.past) }

  event_on : (e : EventState) → IsSent t old.version e → IsSent (extended t new) new.version e
  event_on e is = record {
    past = omega (arith, is.past, next);
    leads = rw (extended_past e.from (omega (arith, is.past)), extended_past (e.from + 1) (omega (arith, is.past))) is.leads;
  }

  events_on : (sent : List EventState) → All (IsSent t old.version) sent → All (IsSent (extended t new) new.version) sent
  events_on [] all = All-nil (IsSent (extended t new) new.version)
  events_on (e ∷ sent) all =
      All-cons (IsSent (extended t new) new.version) e sent (event_on e (All-head (IsSent t old.version) e sent all))
      (events_on sent (All-tail (IsSent t old.version) e sent all))

  same_texts : (sent : List EventState) → All (IsSent t old.version) sent → map (with_text (extended t new)) sent ≡ map (with_text t) sent
  same_texts [] all = refl
  same_texts (e ∷ sent) all =
      let is : IsSent t old.version e = All-head (IsSent t old.version) e sent all in
      let here : with_text (extended t new) e ≡ with_text t e =
      ap (λ (x : List ℕ). record { from = e.from; after = x }) (extended_past (e.from + 1) (omega (arith, is.past))) in
      ap (λ x. x ∷ map (with_text (extended t new)) sent) here
      ∙ ap (λ xs. with_text t e ∷ xs) (same_texts sent (All-tail (IsSent t old.version) e sent all))

-- the texts once the document went on, by which the sent events are what they were
pub record GoneOn (t : ℕ → List ℕ) (new : FlatState) (mirror : Option MirrorState) (events : List EventState) : Type 0 where
  pub texts : ℕ → List ℕ
  pub known : AreTexts texts new mirror events
  pub sent : map (with_text texts) events ≡ map (with_text t) events

texts_on : (t : ℕ → List ℕ) (old new : FlatState) (mirror : Option MirrorState) (sent : List EventState) → Goes old new
    → AreTexts t old mirror sent → GoneOn t new mirror sent
texts_on t old new mirror sent (stays version units last) known = record {
  texts = t;
  known = record {
    first = omega (arith, known.first, version);
    now = rw (version, units) known.now;
    before = rw (version, last) known.before;
    mirrored = rw version known.mirrored;
    events = rw version known.events;
  };
  sent = refl;
}
texts_on t old new mirror sent (goes batches edits version last) known =
    let before : extended t new (new.version - 1) ≡ old.units =
    ap (extended t new) (omega (arith, version)) ∙ extended_past t old new version old.version (omega arith) ∙ known.now in
    record {
      texts = extended t new;
      known = record {
        first = omega (arith, version);
        now = extended_now t new;
        before = rw last before;
        mirrored = mirror_on t old new version mirror known.mirrored;
        events = events_on t old new version sent known.events;
      };
      sent = same_texts t old new version sent known.events;
    }

-- what followed the old document follows the new one
pub follows_on : (old new : FlatState) (mirror : Option MirrorState) (sent : List EventState) (flat : FlatFollower) → Goes old new
    → Follows old mirror sent flat → Follows new mirror sent flat
follows_on old new mirror sent flat go follows =
    let gone = texts_on follows.texts old new mirror sent go follows.known in
    record { mirrored = follows.mirrored; texts = gone.texts; known = gone.known; told = follows.told ∙ sym gone.sent }

-- nothing follows a document that has no change behind it
pub follows_new : (f : FlatState) (mirror : Option MirrorState) (sent : List EventState) → f.version ≡ 1 → f.last ≡ None → mirror ≡ None → sent ≡ []
    → Follows f mirror sent no_follower
follows_new f mirror sent version last unmirrored unsent = record {
  mirrored = sym unmirrored;
  texts = λ v. f.units;
  known = record {
    first = omega (arith, version);
    now = refl;
    before = rw last tt;
    mirrored = rw unmirrored tt;
    events = rw unsent (All-nil (IsSent (λ v. f.units) f.version));
  };
  told = rw unsent refl;
}

-- When a session represents a flat session. A session keeps events as batches, a flat session as whole texts.
use Rattle.std.specs.Prelude.{◌≡◌, ◌≢◌, ℕ, ◌+◌, ◌-◌, ◌<◌, ◌≤◌, List, [], map, length, slice_get, Option, Some, None, IfSome}
use Rattle.std.specs.List.{All}
use Rattle.batch_rules.specs.Events.{EventState}
use Rattle.document_rules.specs.Document.{FlatState, LastChange}
use Rattle.mirror_rules.specs.Mirrors.{MirrorState, SentEvent}
use Rattle.mirror_rules.specs.Following.{LeadsAlong}
use Rattle.group_rules.specs.declared.TheConstants.{DOC_COUNT}
use Rattle.group_rules.specs.Group.{doc_in}
use Rattle.model_group.specs.State.{documents}
use Rattle.sessions.specs.declared.session.Follower.{Follower}
use Rattle.sessions.specs.declared.session.Session.{Session}
use Rattle.session_rules.specs.Session.{FlatSession, FlatFollower}
use Rattle.session_rules.specs.Script.{Turn, Transcript}

-- the event is from a past version, and leads from the text of that version to the text of the next
pub record IsSent (t : ℕ → List ℕ) (version : ℕ) (e : EventState) : Type 0 where
  pub past : e.from < version
  pub leads : LeadsAlong t e

-- the mirror has the text of a past or the present version
pub record IsMirror (t : ℕ → List ℕ) (version : ℕ) (m : MirrorState) : Type 0 where
  pub past : m.version ≤ version
  pub text : m.units ≡ t m.version

-- `t` gives the text of each version, as far as the session knows it
pub record AreTexts (t : ℕ → List ℕ) (f : FlatState) (mirror : Option MirrorState) (sent : List EventState) : Type 0 where
  pub first : 1 ≤ f.version
  pub now : t f.version ≡ f.units
  pub before : IfSome f.last (λ (last : LastChange). t (f.version - 1) ≡ last.before)
  pub mirrored : IfSome mirror (IsMirror t f.version)
  pub events : All (IsSent t f.version) sent

-- an event with the whole text after it
abbrev pub with_text : (ℕ → List ℕ) → EventState → SentEvent
with_text t e = record { from = e.from; after = t (e.from + 1) }

-- the mirror and the events of this document represent the flat follower
pub record Follows (f : FlatState) (mirror : Option MirrorState) (sent : List EventState) (flat : FlatFollower) : Type 0 where
  pub mirrored : flat.mirror ≡ mirror
  pub texts : ℕ → List ℕ
  pub known : AreTexts texts f mirror sent
  pub told : flat.sent ≡ map (with_text texts) sent

pub record Represents (s : Session) (flat : FlatSession) : Type 0 where
  pub documents : flat.documents ≡ documents s.group
  pub count : length s.followers.items ≡ DOC_COUNT
  pub flat_count : length flat.followers ≡ DOC_COUNT
  -- each follower represents the flat follower of the same number
  pub each : (n : ℕ) (own : Follower) (follower : FlatFollower)
      → slice_get s.followers.items n ≡ Some own → slice_get flat.followers n ≡ Some follower
      → Follows (doc_in flat.documents n) own.mirror own.sent.items follower

-- no mirror and no events
pub record IsFresh (own : Follower) : Type 0 where
  pub mirror : own.mirror ≡ None
  pub sent : own.sent.items ≡ []

-- one for each document, without a mirror or events
pub record AreFresh (followers : List Follower) : Type 0 where
  pub count : length followers ≡ DOC_COUNT
  pub each : (n : ℕ) (own : Follower) → slice_get followers n ≡ Some own → IsFresh own

-- the mirror and the events of this document are removed, and all others are unchanged
pub record BeginsAnew (n : ℕ) (old new : List Follower) : Type 0 where
  pub count : length new ≡ length old
  pub anew : (own : Follower) → slice_get new n ≡ Some own → IsFresh own
  pub rest : (k : ℕ) → k ≢ n → slice_get new k ≡ slice_get old k

-- if the old session represents a flat session, the reply is that session's, and the new session represents the flat session after it
abbrev pub Turns : Session → List ℕ → List ℕ → Session → Type 0
Turns old line reply new =
    (flat : FlatSession) → Represents old flat → (next : FlatSession) × Turn flat line reply next × Represents new next

-- `Turns` for many lines
pub record Replied (start : Session) (lines replies : List (List ℕ)) (end : Session) : Type 0 where
  pub count : length replies ≡ length lines
  pub told : (flat : FlatSession) → Represents start flat → (next : FlatSession) × Transcript flat lines replies next × Represents end next

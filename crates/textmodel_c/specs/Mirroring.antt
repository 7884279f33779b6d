-- Calls on the mirror of a document and its events.
use Rattle.std.specs.Prelude.{◌≡◌, ◌⊎◌, ℕ, ◌-◌, List, length, slice_get, Option, None, Some, option_map, option_and_then, unwrap_or, Result, Ok, Err}
use Rattle.text_rules.specs.Lines.{lines_of, line_at}
use Rattle.document_rules.specs.Refusals.{FlatRefusal, unknown}
use Rattle.document_rules.specs.Document.{content_of}
use Rattle.mirror_rules.specs.Mirrors.{MirrorState}
use Rattle.script_lines.specs.declared.command.Command.{Command}
use Rattle.script_lines.specs.declared.command.Command.TheVariants.{Mirror, Send, Deliver}
use Rattle.script_lines.specs.declared.reason.Refusal.{Refusal}
use Rattle.script_lines.specs.declared.reason.Refusal.TheVariants as reason
use Rattle.script_lines.specs.Replies.{none_reply, old_reply}
use Rattle.sessions.specs.declared.outcome.Reply.{Reply}
use Rattle.sessions.specs.declared.outcome.Refused.{Refused}
use Rattle.sessions.specs.declared.session.Follower.{Follower}
use Rattle.sessions.specs.Bytes.{bytes_of}
use Rattle.sessions.specs.Told.{Tells}
use Rattle.textmodel_c.specs.declared.status.Status.{Status}
use Rattle.textmodel_c.specs.declared.status.Status.TheVariants as status
use Rattle.textmodel_c.specs.declared.contents.Contents.{Contents}
use Rattle.textmodel_c.specs.declared.mirrors.Followed.{Followed}
use Rattle.textmodel_c.specs.Documents.{document_in}
use Rattle.textmodel_c.specs.Statuses.{status_of_refusal}
use Rattle.textmodel_c.specs.Told.{AskedOf, CalledOn, LeavesWith, Lists, Numbers, handed}

-- the reply is `ok none` or `ok old`
abbrev pub SaysNothing : List ℕ → Type 0
SaysNothing reply = (reply ≡ none_reply) ⊎ (reply ≡ old_reply)

-- the status for this outcome of a script command
abbrev pub IsStatusOf : Status → Result Reply Refused → Type 0
IsStatusOf s (Err refused) = s ≡ status_of_refusal refused.0
IsStatusOf status.Nothing (Ok reply) = SaysNothing (bytes_of reply)
IsStatusOf status.Ok (Ok reply) = ¬ SaysNothing (bytes_of reply)
IsStatusOf s (Ok reply) = ⊥

-- the script command was carried out on the document, the status tells its outcome, and the rest is unchanged
pub record CarriesOut (s : Status) (doc : ℕ) (command : Command) (old new : Contents) : Type 0 where
  pub outcome : Result Reply Refused
  pub status : IsStatusOf s outcome
  pub told : Tells old.session doc command outcome new.session
  pub reply : new.reply ≡ old.reply
  pub telling : new.telling ≡ old.telling

-- the mirror of the document of this number, if one was begun
abbrev pub mirror_in : List Follower → ℕ → Option MirrorState
mirror_in followers doc = option_and_then (λ (own : Follower). own.mirror) (slice_get followers doc)

abbrev pub events_of : Option Follower → ℕ
events_of None = 0
events_of (Some own) = length own.sent.items

-- how many events of it were sent
abbrev pub sent_count : List Follower → ℕ → ℕ
sent_count followers doc = events_of (slice_get followers doc)

-- a mirror of the present text was begun, and its version is stored
abbrev pub Mirrors : ℕ → ℕ → ℕ → ℕ → Contents → Contents → Type 0
Mirrors n doc out out' old new = Numbers n (λ s. CarriesOut s doc Mirror old new
    × (out' ≡ handed s out (document_in new.session.group doc).version))

-- the last change was sent as an event; its number and the version before it are stored
abbrev pub Sends : ℕ → ℕ → ℕ → ℕ → ℕ → ℕ → Contents → Contents → Type 0
Sends n doc number number' from from' old new = Numbers n (λ s. CarriesOut s doc Send old new
    × (number' ≡ handed s number (sent_count new.session.followers.items doc))
    × (from' ≡ handed s from ((document_in new.session.group doc).version - 1)))

-- `Sends` for a handle
abbrev pub SendsHeld : ℕ → ℕ → Option Contents → Option Contents → ℕ → ℕ → ℕ → ℕ → Type 0
SendsHeld n doc held left number number' from from' =
    LeavesWith n doc held left ((number' ≡ number) × (from' ≡ from)) (Sends n doc number number' from from')

abbrev pub followed_of : MirrorState → Followed
followed_of m = record { version = m.version; units = length m.units; lines = length (lines_of m.units) }

-- what the mirror of the document is, if it has one
abbrev pub followed_in : List Follower → ℕ → Followed → Followed
followed_in followers doc out = unwrap_or (option_map followed_of (mirror_in followers doc)) out

-- for `Gap`, the version of the mirror and the version from which the event leads
abbrev pub gap_of : ℕ × ℕ → Refusal → ℕ × ℕ
gap_of out (reason.Gap have need) = (have, need)
gap_of out why = out

abbrev pub gap_or : ℕ × ℕ → Result Reply Refused → ℕ × ℕ
gap_or out (Ok reply) = out
gap_or out (Err refused) = gap_of out refused.0

-- the event was delivered to the mirror
abbrev pub TakesEvent : Status → ℕ → ℕ → Contents → Contents → ℕ × ℕ → ℕ × ℕ → Type 0
TakesEvent s doc number old new gap gap' = (told : CarriesOut s doc (Deliver number) old new) × (gap' ≡ gap_or gap told.outcome)

-- the event was delivered, and the state of the mirror is stored
abbrev pub Delivers : ℕ → ℕ → ℕ → Followed → Followed → ℕ × ℕ → ℕ × ℕ → Contents → Contents → Type 0
Delivers n doc number out out' gap gap' old new = Numbers n (λ s. TakesEvent s doc number old new gap gap'
    × (out' ≡ handed s out (followed_in new.session.followers.items doc out)))

abbrev pub DeliversHeld : ℕ → ℕ → Option Contents → Option Contents → ℕ → Followed → Followed → ℕ × ℕ → ℕ × ℕ → Type 0
DeliversHeld n doc held left number out out' gap gap' =
    LeavesWith n doc held left ((out' ≡ out) × (gap' ≡ gap)) (Delivers n doc number out out' gap gap')

-- the state of the document's mirror is stored, if it has one
abbrev pub FollowedHeld : ℕ → ℕ → Option Contents → Followed → Followed → Type 0
FollowedHeld n doc held out out' = CalledOn n doc held (out' ≡ out)
    (λ c. AskedOf n out out' (option_map followed_of (mirror_in c.session.followers.items doc)))

-- the content of a line of the mirror
abbrev pub mirrored_line : Option MirrorState → ℕ → Result (List ℕ) FlatRefusal
mirrored_line None n = Err unknown
mirrored_line (Some m) n = content_of (line_at m.units n)

-- the content of the line, possibly converted, is copied
abbrev pub MirroredHeld : ℕ → ℕ → ℕ → Option Contents → List ℕ → List ℕ → ℕ → ℕ
    → (Result (List ℕ) FlatRefusal → Result (List ℕ) FlatRefusal) → Type 0
MirroredHeld n doc line held out out' count count' tell = CalledOn n doc held ((out' ≡ out) × (count' ≡ count))
    (λ c. Numbers n (λ s. Lists s out out' count count' (tell (mirrored_line (mirror_in c.session.followers.items doc) line))))

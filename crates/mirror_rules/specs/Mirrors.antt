-- A mirror: a second text that follows a document by its events, which may be lost, repeated or reordered. It applies
-- only the event of its own version, as a language server does with the versions of a document.
use Rattle.std.specs.Prelude.{ℕ, ◌+◌, nat_lt, if◌then◌else◌, List, Option, Some, None}
use Rattle.text_rules.specs.declared.Op.{Op}
use Rattle.batch_rules.specs.Events.{EventState, first_misfit, after_batches}

-- a text, and the version of the document that had this text
pub record MirrorState : Type 0 where
  pub version : ℕ
  pub units : List ℕ

-- the result of an event at a mirror
pub data Arrival : Type 0 where
  -- the mirror is past the version of the event
  old : Arrival
  -- earlier events are missing: the version of the mirror, and the version that the event needs
  gap : ℕ → ℕ → Arrival
  -- batch number n of the event, counted from 1, does not fit
  misfit : ℕ → Arrival
  -- the event was applied, with the mirror after it
  followed : MirrorState → Arrival

-- chooses the result by versions: the mirror is past version `from`, before it, or at it
abbrev pub by_version : {A : Type 0} → ℕ → ℕ → A → A → A → A
by_version from version past before next = if nat_lt from version then past else (if nat_lt version from then before else next)

abbrev pub carried_out : MirrorState → List (List Op) → Option ℕ → Arrival
carried_out m batches (Some n) = misfit n
carried_out m batches None = followed (record { version = m.version + 1; units = after_batches m.units batches })

abbrev pub taken : MirrorState → EventState → Arrival
taken m e = by_version e.from m.version old (gap m.version e.from) (carried_out m e.batches (first_misfit m.units e.batches))

-- a sent event in the view of an observer with whole texts: the version before the change, and the text after it
pub record SentEvent : Type 0 where
  pub from : ℕ
  pub after : List ℕ

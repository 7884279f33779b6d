-- Outcomes and replies.
use Rattle.std.specs.Prelude.{◌≡◌, ℕ, false, List, Result, IfOk}
use Rattle.document_rules.specs.Document.{FlatState}
use Rattle.group_rules.specs.Group.{FlatGroup, doc_in, with_doc}
use Rattle.model_group.specs.State.{GroupState, documents}
use Rattle.script_lines.specs.declared.command.Command.{Command}
use Rattle.sessions.specs.declared.outcome.Reply.{Reply}
use Rattle.sessions.specs.declared.outcome.Refused.{Refused}
use Rattle.sessions.specs.declared.session.Follower.{Follower}
use Rattle.sessions.specs.declared.session.Session.{Session}
use Rattle.sessions.specs.Bytes.{bytes_of, bytes_of_outcome}
use Rattle.session_rules.specs.Session.{FlatSession, FlatFollower}
use Rattle.sessions.specs.Standing.{Follows, Represents}
use Rattle.session_rules.specs.Script.{is_refused}
use Rattle.session_rules.specs.Step.{step, Answers}

-- an accepted reply does not begin like a refusal
abbrev pub IsAccepted : Result Reply Refused → Type 0
IsAccepted outcome = IfOk outcome (λ reply. is_refused (bytes_of reply) ≡ false)

-- the outcome of the line is this answer
pub record TellsBy {S : Type 0} (flat : List ℕ × S) (old : S) (outcome : Result Reply Refused) (new : S) : Type 0 where
  pub answer : Answers flat old (bytes_of_outcome outcome) new
  pub accepted : IsAccepted outcome

-- `TellsBy` for a rule of one document; the others are unchanged
abbrev pub TellsOn : ℕ → List ℕ × FlatState → FlatGroup → Result Reply Refused → FlatGroup → Type 0
TellsOn n flat old outcome new = TellsBy (flat.0, with_doc old n flat.1) old outcome new

-- `TellsOn` for a document of a group
abbrev pub TellsIn : GroupState → ℕ → (FlatState → List ℕ × FlatState) → Result Reply Refused → GroupState → Type 0
TellsIn old n rule outcome new = TellsOn n (rule (doc_in (documents old) n)) (documents old) outcome (documents new)

-- if the old session represents a flat session, the outcome is the rule's answer, and the new session represents the rule's next one
pub record TellsOf (rule : FlatSession → List ℕ × FlatSession)
    (old : Session) (outcome : Result Reply Refused) (new : Session) : Type 0 where
  pub answer : (flat : FlatSession) → Represents old flat
      → (next : FlatSession) × Answers (rule flat) flat (bytes_of_outcome outcome) next × Represents new next
  pub accepted : IsAccepted outcome

-- the outcome of the command on this document is the answer of the flat session
abbrev pub Tells : Session → ℕ → Command → Result Reply Refused → Session → Type 0
Tells old n command outcome new = TellsOf (λ s. step s n command) old outcome new

-- `TellsOf` for the mirror and the events of this document
pub record TellsAfter (f : FlatState) (rule : FlatFollower → List ℕ × FlatFollower) (old : Follower) (outcome : Result Reply Refused)
    (new : Follower) : Type 0 where
  pub answer : (flat : FlatFollower) → Follows f old.mirror old.sent.items flat
      → (next : FlatFollower) × Answers (rule flat) flat (bytes_of_outcome outcome) next × Follows f new.mirror new.sent.items next
  pub accepted : IsAccepted outcome

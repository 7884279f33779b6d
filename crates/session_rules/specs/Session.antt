-- The flat session: the documents, and for each of them its mirror and the events sent.
use Rattle.std.specs.Prelude.{ℕ, List, [], Option, None, replicate, slice_get, slice_set, unwrap_or}
use Rattle.group_rules.specs.declared.TheConstants.{DOC_COUNT}
use Rattle.group_rules.specs.Group.{FlatGroup, new_group}
use Rattle.mirror_rules.specs.Mirrors.{MirrorState, SentEvent}

-- the follower of a document: its mirror and the events sent
pub record FlatFollower : Type 0 where
  -- the mirror of the document, if one was begun
  pub mirror : Option MirrorState
  -- the events in the order in which they were sent, each with the whole text after it
  pub sent : List SentEvent

-- the follower with no mirror and no events
abbrev pub no_follower : FlatFollower
no_follower = record { mirror = None; sent = [] }

-- the state that is kept from one line to the next
pub record FlatSession : Type 0 where
  -- by their numbers
  pub documents : FlatGroup
  -- by the numbers of their documents
  pub followers : List FlatFollower

-- the session before the first line: no text opened, no mirrors and no events
abbrev pub new_session : FlatSession
new_session = record { documents = new_group; followers = replicate DOC_COUNT no_follower }

abbrev pub follower_in : List FlatFollower → ℕ → FlatFollower
follower_in followers n = unwrap_or (slice_get followers n) no_follower

abbrev pub with_follower : List FlatFollower → ℕ → FlatFollower → List FlatFollower
with_follower followers n follower = slice_set followers n follower

-- What a call returns, and how it changes the contents of the handle.
use Rattle.std.specs.Prelude.{◌≡◌, ◌⊎◌, ℕ, ◌-◌, ◌==◌, Bool, true, false, MatchBool, if◌then◌else◌, nat_lt, nat_le, List, ◌++◌, length, take, drop, min, Option, Some, None, IsSomeAnd, Result, Ok, Err, ⊤}
use Rattle.decoration_rules.specs.declared.NewDeco.{NewDeco}
use Rattle.std.specs.declared.vec.Vec.{Vec}
use Rattle.std.specs.declared.alloc.Global.{Global}
use Rattle.document_rules.specs.declared.ModelError.{ModelError}
use Rattle.document_rules.specs.Refusals.{FlatRefusal}
use Rattle.document_rules.specs.Outcomes.{RefusedFor, Changes, Moves, ChangesWith, Gives}
use Rattle.document_rules.specs.Document.{FlatState, flat_decorate}
use Rattle.search_rules.specs.Replacing.{flat_find}
use Rattle.group_rules.specs.declared.TheConstants.{DOC_COUNT}
use Rattle.group_rules.specs.declared.GroupError.{GroupError}
use Rattle.group_rules.specs.declared.GroupError.TheVariants as group
use Rattle.group_rules.specs.Refusals.{GroupRefusal}
use Rattle.group_rules.specs.Outcomes.{MovesAll}
use Rattle.group_rules.specs.Group.{FlatGroup}
use Rattle.model_group.specs.State.{GroupState, documents}
use Rattle.document_rules.specs.Snapshots.{flat_snapshot, flat_peek_of, flat_skipped}
use Rattle.sessions.specs.declared.session.Session.{Session}
use Rattle.session_rules.specs.Session.{FlatSession, FlatFollower, new_session, no_follower, with_follower}
use Rattle.sessions.specs.Standing.{Represents, Turns, BeginsAnew}
use Rattle.sessions.specs.Bytes.{bytes_of_outcome}
use Rattle.sessions.specs.declared.outcome.Reply.TheVariants.{Nothing}
use Rattle.textmodel_c.specs.declared.status.Status.{Status}
use Rattle.textmodel_c.specs.declared.status.Status.TheVariants as status
use Rattle.textmodel_c.specs.declared.contents.Contents.{Contents}
use Rattle.textmodel_c.specs.Statuses.{number_of, status_of_error, status_of_step, status_of_going, status_of_given, given_or, status_of_found, found_or}
use Rattle.textmodel_c.specs.Documents.{document_in, OnDocument}
use Rattle.textmodel_c.specs.Tellings.{TellingState}
use Rattle.textmodel_c.specs.Rules.{Scanning, group_open_as, group_replace_some, fitting_end, flat_read, in_utf8, units_for}

-- ---- the handle

-- An empty handle gives `Empty`, and `kept` holds. Otherwise `says` holds of the contents.
abbrev pub Called : ℕ → Option Contents → Type 0 → (Contents → Type 0) → Type 0
Called n None kept says = (n ≡ number_of status.Empty) × kept
Called n (Some held) kept says = says held

-- `Called` for a call on a document: a number out of range gives `Unknown`, and `kept` holds
abbrev pub CalledOn : ℕ → ℕ → Option Contents → Type 0 → (Contents → Type 0) → Type 0
CalledOn n doc held kept says =
    Called n held kept (λ held. MatchBool (nat_lt doc DOC_COUNT) (says held) ((n ≡ number_of status.Unknown) × kept))

-- On `Empty` and `Unknown` the handle is unchanged and `kept` holds. Otherwise `says` holds of the old and the new contents.
abbrev pub LeavesWith : ℕ → ℕ → Option Contents → Option Contents → Type 0 → (Contents → Contents → Type 0) → Type 0
LeavesWith n doc old new kept says = CalledOn n doc old ((new ≡ old) × kept) (λ held. IsSomeAnd new (says held))

-- `LeavesWith` for a call without a result
abbrev pub Leaves : ℕ → ℕ → Option Contents → Option Contents → (Contents → Contents → Type 0) → Type 0
Leaves n doc old new says = CalledOn n doc old (new ≡ old) (λ held. IsSomeAnd new (says held))

-- `LeavesWith` for a call on the whole session
abbrev pub LeavesSession : ℕ → Option Contents → Option Contents → Type 0 → (Contents → Contents → Type 0) → Type 0
LeavesSession n old new kept says = Called n old ((new ≡ old) × kept) (λ held. IsSomeAnd new (says held))

-- the number of a status of which `says` holds
abbrev pub Numbers : ℕ → (Status → Type 0) → Type 0
Numbers n says = (s : Status) × (n ≡ number_of s) × says s

-- a session of empty documents, without a last reply and without progress of `tm_next_change`
pub record IsNew (new : Contents) : Type 0 where
  pub session : Represents new.session new_session
  pub reply : new.reply ≡ Ok Nothing
  pub telling : new.telling ≡ None

-- a new session
abbrev pub IsNewSession : Option Contents → Type 0
IsNewSession None = ⊥
IsNewSession (Some new) = IsNew new

abbrev pub Made : ℕ → Option Contents → Option Contents → Type 0
Made n old new =
    ((n ≡ number_of status.Ok) × IsNewSession new) ⊎ ((n ≡ number_of status.Memory) × (new ≡ old))

-- ---- changes

-- the last reply, the progress of `tm_next_change`, the mirrors and the events are unchanged
pub record KeepsRest (old new : Contents) : Type 0 where
  pub reply : new.reply ≡ old.reply
  pub telling : new.telling ≡ old.telling
  pub followers : new.session.followers.items ≡ old.session.followers.items

-- the call returns its status, changes the documents as `says` tells, and keeps the rest
abbrev pub Does : {A : Type 0} → (A → Status) → (A → GroupState → GroupState → Type 0) → ℕ → Contents → Contents → Type 0
Does {A} status says n old new = (answer : A) × (n ≡ number_of (status answer))
    × says answer old.session.group new.session.group × KeepsRest old new

-- the documents are changed by the rule, or the call fails for the rule's reason
abbrev pub ChangesDocs : ℕ → (FlatGroup → Result FlatGroup FlatRefusal) → Contents → Contents → Type 0
ChangesDocs n rule = Does status_of_given (λ answer old new. Changes answer (documents old) (documents new) (rule (documents old))) n

abbrev pub ChangesHeld : ℕ → ℕ → Option Contents → Option Contents → (FlatGroup → Result FlatGroup FlatRefusal) → Type 0
ChangesHeld n doc old new rule = Leaves n doc old new (ChangesDocs n rule)

-- `ChangesDocs` for a rule that may have nothing to do
abbrev pub MovesDocs : ℕ → (FlatGroup → Result (Option FlatGroup) FlatRefusal) → Contents → Contents → Type 0
MovesDocs n rule = Does status_of_step (λ answer old new. Moves answer (documents old) (documents new) (rule (documents old))) n

-- the document in the way, if there is one, or the old value
abbrev pub other_or : {A : Type 0} → ℕ → Result A GroupError → ℕ
other_or out (Err (group.Joint doc)) = doc
other_or out answer = out

-- a rule for several documents that may have nothing to do
abbrev pub GoingRule : Type 0
GoingRule = FlatGroup → Result (Option FlatGroup) GroupRefusal

-- the documents are changed by such a rule, and a document in the way is stored
pub record Goes (rule : GoingRule) (out out' : ℕ) (answer : Result Bool GroupError) (old new : GroupState) : Type 0 where
  pub moves : MovesAll answer (documents old) (documents new) (rule (documents old))
  pub other : out' ≡ other_or out answer

abbrev pub Went : ℕ → ℕ → ℕ → GoingRule → Contents → Contents → Type 0
Went n out out' rule = Does status_of_going (Goes rule out out') n

abbrev pub WentHeld : ℕ → ℕ → Option Contents → Option Contents → ℕ → ℕ → GoingRule → Type 0
WentHeld n doc old new out out' rule = LeavesWith n doc old new (out' ≡ out) (Went n out out' rule)

-- only this document is changed by the rule, or the call fails for the rule's reason
abbrev pub Changed : ℕ → ℕ → (FlatState → Result FlatState FlatRefusal) → Contents → Contents → Type 0
Changed n doc rule = Does status_of_given (λ answer. OnDocument doc (λ f g. Changes answer f g (rule f))) n

-- `Changed` for a call with a number as its result
abbrev pub ChangedWith : ℕ → ℕ → ℕ → ℕ → (FlatState → ℕ) → (FlatState → Result FlatState FlatRefusal) → Contents → Contents → Type 0
ChangedWith n doc out out' told rule = Does status_of_given (λ answer old new. (out' ≡ given_or out answer)
    × OnDocument doc (λ f g. ChangesWith (told f) answer f g (rule f)) old new) n

-- decorations of an owner are removed and others added, and the first new id is stored
abbrev pub Decorated : ℕ → ℕ → ℕ → ℕ → ℕ → List ℕ → List NewDeco → Contents → Contents → Type 0
Decorated n doc out out' owner remove add =
    ChangedWith n doc out out' (λ f. f.decorations.next_id) (λ f. flat_decorate f owner remove add)

abbrev pub DecoratesHeld : ℕ → ℕ → Option Contents → Option Contents → ℕ → ℕ → ℕ → List ℕ → List NewDeco → Type 0
DecoratesHeld n doc old new out out' owner remove add =
    LeavesWith n doc old new (out' ≡ out) (Decorated n doc out out' owner remove add)

-- a snapshot of the present text is opened, and its id is stored
abbrev pub Shelved : ℕ → ℕ → ℕ → ℕ → Contents → Contents → Type 0
Shelved n doc out out' = ChangedWith n doc out out' (λ f. f.shelf.next_id) flat_snapshot

-- a change that never fails
abbrev pub Becomes : ℕ → ℕ → (FlatState → FlatState) → Contents → Contents → Type 0
Becomes n doc rule = Does (λ (x : ⊤). status.Ok) (λ x. OnDocument doc (λ f g. g ≡ rule f)) n

-- the number of occurrences if any was replaced, or else the old value
abbrev pub count_or : ℕ → Result Bool ModelError → ℕ → ℕ
count_or old (Ok true) found = found
count_or old (Ok false) found = old
count_or old (Err e) found = old

-- all occurrences are replaced, and their number is stored
pub record Replaces (doc : ℕ) (sought text : List ℕ) (n n' : ℕ) (answer : Result Bool ModelError) (old new : GroupState) : Type 0 where
  pub moves : Moves answer (documents old) (documents new) (group_replace_some doc sought text (documents old))
  pub told : n' ≡ count_or n answer (length (flat_find (document_in old doc) sought))

abbrev pub Replaced : ℕ → ℕ → List ℕ → List ℕ → ℕ → ℕ → Contents → Contents → Type 0
Replaced n doc sought text count count' = Does status_of_step (Replaces doc sought text count count') n

-- a new document has no mirror and no events; on an error all are unchanged
abbrev pub RenewsFollower : Result ⊤ ModelError → ℕ → Session → Session → Type 0
RenewsFollower (Ok x) doc old new = BeginsAnew doc old.followers.items new.followers.items
RenewsFollower (Err e) doc old new = new.followers.items ≡ old.followers.items

pub record Opens (answer : Result ⊤ ModelError) (doc : ℕ) (old new : Session) (rule : Result FlatGroup FlatRefusal) : Type 0 where
  pub group : Changes answer (documents old.group) (documents new.group) rule
  pub followers : RenewsFollower answer doc old new

-- `tm_next_change` starts again if a document was opened
abbrev pub telling_opened : Status → Option TellingState → Option TellingState
telling_opened status.Ok telling = None
telling_opened s telling = telling

-- the last reply is unchanged; `tm_next_change` starts again if a document was opened
pub record AfterOpening (s : Status) (old new : Contents) : Type 0 where
  pub reply : new.reply ≡ old.reply
  pub telling : new.telling ≡ telling_opened s old.telling

-- the document is replaced by a new one, or the call fails for the rule's reason
abbrev pub Opened : ℕ → ℕ → (FlatGroup → Result FlatGroup FlatRefusal) → Contents → Contents → Type 0
Opened n doc rule old new = (answer : Result ⊤ ModelError) × (n ≡ number_of (status_of_given answer))
    × Opens answer doc old.session new.session (rule (documents old.session.group)) × AfterOpening (status_of_given answer) old new

-- `Opens` with these brackets and marks
abbrev pub OpensAs : Result ⊤ ModelError → ℕ → ℕ → Scanning → List ℕ → Session → Session → Type 0
OpensAs answer doc kind scanning text old new = Opens answer doc old new (group_open_as doc kind scanning text (documents old.group))

abbrev pub OpensHeld : ℕ → ℕ → ℕ → Scanning → List ℕ → Option Contents → Option Contents → Type 0
OpensHeld n doc kind scanning text old new = Leaves n doc old new (Opened n doc (group_open_as doc kind scanning text))

-- ---- the flat session

-- if the old session represents a flat session, the new one represents the same with the new documents
abbrev pub StaysFlat : Contents → Contents → Type 0
StaysFlat old new = (flat : FlatSession) → Represents old.session flat
    → Represents new.session (record flat { documents = documents new.session.group })

-- the document has no mirror and no events if the status says that it was opened
abbrev pub followers_after : ℕ → ℕ → List FlatFollower → List FlatFollower
followers_after n doc followers = if n == number_of status.Ok then with_follower followers doc no_follower else followers

-- `StaysFlat` for a call that opens a document
abbrev pub StaysFlatAnew : ℕ → ℕ → Contents → Contents → Type 0
StaysFlatAnew n doc old new = (flat : FlatSession) → Represents old.session flat
    → Represents new.session (record { documents = documents new.session.group; followers = followers_after n doc flat.followers })

-- what the rule gives, or its error, or `Memory`
abbrev pub GivesAll : {A : Type 0} → Result (Vec A Global) ModelError → Result (List A) FlatRefusal → Type 0
GivesAll (Ok xs) rule = rule ≡ Ok xs.items
GivesAll (Err e) rule = RefusedFor e rule

-- ---- answers

-- the value is stored if there is one, else `out` is unchanged
abbrev pub AskedOf : {A : Type 0} → ℕ → A → A → Option A → Type 0
AskedOf n out out' None = (n ≡ number_of status.Nothing) × (out' ≡ out)
AskedOf n out out' (Some x) = (n ≡ number_of status.Ok) × (out' ≡ x)

abbrev pub Asked : {A : Type 0} → ℕ → ℕ → Option Contents → A → A → (FlatState → Option A) → Type 0
Asked n doc held out out' rule = CalledOn n doc held (out' ≡ out) (λ c. AskedOf n out out' (rule (document_in c.session.group doc)))

-- a question whose answer is the status
abbrev pub Holds : ℕ → ℕ → Option Contents → (FlatState → Bool) → Type 0
Holds n doc held rule = CalledOn n doc held ⊤
    (λ c. n ≡ (if rule (document_in c.session.group doc) then number_of status.Ok else number_of status.Nothing))

-- the new value if the status is `Ok`, else the old one
abbrev pub handed : {A : Type 0} → Status → A → A → A
handed status.Ok out x = x
handed s out x = out

-- all items are copied to the front of `out`, or `out` is too short and unchanged; `count'` is their number
abbrev pub Listed : {A : Type 0} → Status → List A → List A → List A → ℕ → Type 0
Listed s found out out' count' = (count' ≡ length found)
    × MatchBool (nat_le (length found) (length out)) ((s ≡ status.Ok) × (out' ≡ found ++ drop (length found) out))
    ((s ≡ status.Short) × (out' ≡ out))

abbrev pub ListedFor : {A : Type 0} → Result ⊤ ModelError → Status → List A → List A → List A → ℕ → ℕ → Type 0
ListedFor (Ok x) s found out out' count count' = Listed s found out out' count'
ListedFor (Err e) s found out out' count count' = (s ≡ status_of_error e) × (out' ≡ out) × (count' ≡ count)

-- the call found what the rule gives, or failed for the rule's reason
abbrev pub FoundFor : {A : Type 0} → Result ⊤ ModelError → List A → Result (List A) FlatRefusal → Type 0
FoundFor (Ok x) found rule = rule ≡ Ok found
FoundFor (Err e) found rule = RefusedFor e rule

-- the list of the rule is copied, or the call fails for the rule's reason
abbrev pub Lists : {A : Type 0} → Status → List A → List A → ℕ → ℕ → Result (List A) FlatRefusal → Type 0
Lists {A} s out out' count count' rule = (answer : Result ⊤ ModelError) × (found : List A)
    × ListedFor answer s found out out' count count' × FoundFor answer found rule

abbrev pub ListsHeld : {A : Type 0} → ℕ → ℕ → Option Contents → List A → List A → ℕ → ℕ → (FlatState → Result (List A) FlatRefusal) → Type 0
ListsHeld n doc held out out' count count' rule = CalledOn n doc held ((out' ≡ out) × (count' ≡ count))
    (λ c. Numbers n (λ s. Lists s out out' count count' (rule (document_in c.session.group doc))))

-- The text from the offset on is copied in UTF-8, as much as is sure to fit, and the offset moves to its end.
pub record ReadsOn (s : Status) (f : FlatState) (offset offset' : ℕ) (out out' : List ℕ) (count count' : ℕ) : Type 0 where
  pub bytes : Lists s out out' count count' (in_utf8 (flat_read f offset (units_for (length out))))
  pub next : offset' ≡ handed s offset (fitting_end f offset (units_for (length out)))

abbrev pub ReadsOnHeld : ℕ → ℕ → Option Contents → ℕ → ℕ → List ℕ → List ℕ → ℕ → ℕ → Type 0
ReadsOnHeld n doc held offset offset' out out' count count' =
    CalledOn n doc held ((offset' ≡ offset) × (out' ≡ out) × (count' ≡ count))
    (λ c. Numbers n (λ s. ReadsOn s (document_in c.session.group doc) offset offset' out out' count count'))

-- the value of the rule is stored, if there is one
abbrev pub FoundOut : {A : Type 0} → Status → A → A → Result (Option A) FlatRefusal → Type 0
FoundOut {A} s out out' rule = (answer : Result (Option A) ModelError) × (s ≡ status_of_found answer)
    × (out' ≡ found_or out answer) × Gives answer rule

abbrev pub FoundHeld : {A : Type 0} → ℕ → ℕ → Option Contents → A → A → (FlatState → Result (Option A) FlatRefusal) → Type 0
FoundHeld n doc held out out' rule = CalledOn n doc held (out' ≡ out)
    (λ c. Numbers n (λ s. FoundOut s out out' (rule (document_in c.session.group doc))))

abbrev pub GivenOut : {A : Type 0} → Status → A → A → Result A FlatRefusal → Type 0
GivenOut {A} s out out' rule = (answer : Result A ModelError) × (s ≡ status_of_given answer)
    × (out' ≡ given_or out answer) × Gives answer rule

abbrev pub GivenHeld : {A : Type 0} → ℕ → ℕ → Option Contents → A → A → (FlatState → Result A FlatRefusal) → Type 0
GivenHeld n doc held out out' rule = CalledOn n doc held (out' ≡ out)
    (λ c. Numbers n (λ s. GivenOut s out out' (rule (document_in c.session.group doc))))

-- the documents, the mirrors, the events and the reply are unchanged
abbrev pub KeepsText : Option Contents → Option Contents → Type 0
KeepsText None None = ⊤
KeepsText None (Some new) = ⊥
KeepsText (Some old) None = ⊥
KeepsText (Some old) (Some new) = (documents new.session.group ≡ documents old.session.group) × KeepsRest old new

-- ---- snapshots

-- the units that were read are skipped, and nothing else changes
pub record Reads (s : Status) (id : ℕ) (out out' : List ℕ) (count count' : ℕ) (old new : FlatState) : Type 0 where
  pub units : Lists s out out' count count' (flat_peek_of old id (length out))
  pub passed : s ≡ status.Ok → new ≡ flat_skipped old id count'
  pub kept : (s ≡ status.Ok → ⊥) → new ≡ old

abbrev pub HasRead : ℕ → ℕ → ℕ → List ℕ → List ℕ → ℕ → ℕ → Contents → Contents → Type 0
HasRead n doc id out out' count count' = Does (λ s. s) (λ s. OnDocument doc (Reads s id out out' count count')) n

-- how many units a rule gives
abbrev pub count_in : Result (List ℕ) FlatRefusal → ℕ
count_in (Ok units) = length units
count_in (Err why) = 0

-- `Reads` in UTF-8
pub record ReadsUtf8 (s : Status) (id : ℕ) (out out' : List ℕ) (count count' : ℕ) (old new : FlatState) : Type 0 where
  pub bytes : Lists s out out' count count' (in_utf8 (flat_peek_of old id (units_for (length out))))
  pub passed : s ≡ status.Ok → new ≡ flat_skipped old id (count_in (flat_peek_of old id (units_for (length out))))
  pub kept : (s ≡ status.Ok → ⊥) → new ≡ old

abbrev pub HasReadUtf8 : ℕ → ℕ → ℕ → List ℕ → List ℕ → ℕ → ℕ → Contents → Contents → Type 0
HasReadUtf8 n doc id out out' count count' = Does (λ s. s) (λ s. OnDocument doc (ReadsUtf8 s id out out' count count')) n

abbrev pub ReadsUtf8Held : ℕ → ℕ → ℕ → Option Contents → Option Contents → List ℕ → List ℕ → ℕ → ℕ → Type 0
ReadsUtf8Held n doc id old new out out' count count' =
    LeavesWith n doc old new ((out' ≡ out) × (count' ≡ count)) (HasReadUtf8 n doc id out out' count count')

-- `Reads` for a handle; nothing is stored if that is empty or there is no such document
abbrev pub ReadsHeld : ℕ → ℕ → ℕ → Option Contents → Option Contents → List ℕ → List ℕ → ℕ → ℕ → Type 0
ReadsHeld n doc id old new out out' count count' =
    LeavesWith n doc old new ((out' ≡ out) × (count' ≡ count)) (HasRead n doc id out out' count count')

-- ---- script lines

-- The line is answered by the reply that is kept, and the length of the reply is returned. The line may open a document, so
-- `tm_next_change` starts again.
pub record HasAnswered (n : ℕ) (line : List ℕ) (count : ℕ) (old new : Contents) : Type 0 where
  pub answered : n ≡ number_of status.Ok
  pub telling : new.telling ≡ None
  pub turn : Turns old.session line (bytes_of_outcome new.reply) new.session
  pub len : count ≡ length (bytes_of_outcome new.reply)

-- as many bytes from `from` on as fit are copied to the front; `Range` if `from` is beyond the end
abbrev pub CopiedFrom : Status → List ℕ → ℕ → List ℕ → List ℕ → ℕ → ℕ → Type 0
CopiedFrom s bytes from out out' count count' =
    MatchBool (nat_le from (length bytes))
    ((s ≡ status.Ok) × (count' ≡ min (length bytes - from) (length out)) × (out' ≡ take count' (drop from bytes) ++ drop count' out))
    ((s ≡ status.Range) × (out' ≡ out) × (count' ≡ count))

abbrev pub RepliesHeld : ℕ → Option Contents → ℕ → List ℕ → List ℕ → ℕ → ℕ → Type 0
RepliesHeld n held from out out' count count' = Called n held ((out' ≡ out) × (count' ≡ count))
    (λ c. Numbers n (λ s. CopiedFrom s (bytes_of_outcome c.reply) from out out' count count'))

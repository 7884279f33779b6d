-- Sets of documents that are independent of all others: the lines on them are answered as if there were no other lines.
use Rattle.std.specs.Prelude.{◌≡◌, ℕ, Bool, true, nat_le, if◌then◌else◌, List, [], ◌∷◌, map, length, Option, Some, None}
use Rattle.std.specs.List.{All, list_any}
use Rattle.undo_rules.specs.declared.Tag.{Tag}
use Rattle.undo_rules.specs.Tags.{all_steps, is_member}
use Rattle.group_rules.specs.declared.TheConstants.{DOC_COUNT}
use Rattle.group_rules.specs.Group.{FlatGroup, doc_in, tags_of}
use Rattle.script_lines.specs.declared.request.Request.{Request}
use Rattle.script_lines.specs.declared.request.Request.TheVariants.{One, Joint}
use Rattle.script_lines.specs.declared.request.DocEdit.{DocEdit}
use Rattle.script_lines.specs.Requests.{request_of}
use Rattle.session_rules.specs.Session.{FlatSession, follower_in}
use Rattle.session_rules.specs.Script.{is_too_long}

-- a set of documents, by their numbers
abbrev pub Docs : Type 0
Docs = ℕ → Bool

-- all of these documents are in the set, or none
abbrev pub AllOrNone : Docs → List ℕ → Type 0
AllOrNone set docs = (all : Bool) × All (λ n. set n ≡ all) docs

-- the session has a document and a follower for each number
pub record HasAllDocs (s : FlatSession) : Type 0 where
  pub documents : length s.documents ≡ DOC_COUNT
  pub followers : length s.followers ≡ DOC_COUNT

-- both sessions have the same documents of the set, with the same followers
abbrev pub AgreeOn : Docs → FlatSession → FlatSession → Type 0
AgreeOn set s t =
    (n : ℕ) → set n ≡ true → (doc_in s.documents n ≡ doc_in t.documents n) × (follower_in s.followers n ≡ follower_in t.followers n)

-- ---- the documents of a line

-- these numbers; none if one of them is out of range
abbrev pub if_there : List ℕ → List ℕ
if_there docs = if list_any (λ n. nat_le DOC_COUNT n) docs then [] else docs

abbrev pub docs_of_request : Option Request → List ℕ
docs_of_request None = []
docs_of_request (Some (One n command)) = if_there (n ∷ [])
docs_of_request (Some (Joint edits)) = if_there (map (λ (edit : DocEdit). edit.doc) edits)

-- the documents that the line names; none if the line is no request
abbrev pub docs_of_line : List ℕ → List ℕ
docs_of_line line = if is_too_long line then [] else docs_of_request (request_of line)

abbrev pub is_on : Docs → List ℕ → Bool
is_on set line = list_any set (docs_of_line line)

-- the lines on documents of the set
abbrev pub lines_on : Docs → List (List ℕ) → List (List ℕ)
lines_on set [] = []
lines_on set (line ∷ lines) = if is_on set line then line ∷ lines_on set lines else lines_on set lines

-- the replies to these lines, out of the replies to all lines
abbrev pub replies_on : Docs → List (List ℕ) → List (List ℕ) → List (List ℕ)
replies_on set [] replies = []
replies_on set (line ∷ lines) [] = []
replies_on set (line ∷ lines) (reply ∷ replies) =
    if is_on set line then reply ∷ replies_on set lines replies else replies_on set lines replies

-- ---- the tags of a group

abbrev pub tags_in : FlatGroup → ℕ → List Tag
tags_in g n = tags_of (all_steps (doc_in g n).history)

-- each tag in a document has this document as a member
abbrev pub StandsInMembers : FlatGroup → Type 0
StandsInMembers g = (n : ℕ) → All (λ (tag : Tag). is_member n tag ≡ true) (tags_in g n)

-- all members of the tag are in the set, or none
abbrev pub IsWhole : Docs → Tag → Type 0
IsWhole set tag = (all : Bool) × ((n : ℕ) → is_member n tag ≡ true → set n ≡ all)

abbrev pub AreWhole : Docs → FlatGroup → Type 0
AreWhole set g = (n : ℕ) → All (IsWhole set) (tags_in g n)

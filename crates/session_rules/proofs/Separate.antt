-- The lines on a set of documents that has nothing to do with the others are answered as if there were no other lines.
use Rattle.std.proofs.Common.{◌≡◌, ℕ, ◌==◌, ◌||◌, nat_le, Bool, true, false, if◌then◌else◌, MatchBool, List, [], ◌∷◌, Option, Some, None, All, refl, sym, ap, subst, ◌∙◌, ⊎_elim}
use Rattle.std.proofs.lemmas.Bool.{cases_lt, or_parts, or_from}
use Rattle.std.proofs.lemmas.List.{length-replicate, get_or-replicate}
use Rattle.std.proofs.lemmas.List.Elements.{All-nil, All-head, All-tail}
use Rattle.std.proofs.lemmas.List.Folds.{list_any_none}
use Rattle.std.proofs.lemmas.Option.{unwrap_or-slice_get}
use Rattle.std.specs.List.{list_any}
use Rattle.undo_rules.specs.declared.Tag.{Tag}
use Rattle.undo_rules.specs.Tags.{all_steps, is_member}
use Rattle.document_rules.specs.Document.{FlatState, empty_document}
use Rattle.group_rules.specs.declared.TheConstants.{DOC_COUNT}
use Rattle.group_rules.specs.Group.{new_group, doc_in, tags_of}
use Rattle.group_rules.specs.Joint.{names_badly}
use Rattle.group_rules.proofs.KeptTags.{AllTags-from_tags}
use Rattle.group_rules.proofs.Places.{doc_in_past}
use Rattle.group_rules.proofs.Alike.{SameItems-self}
use Rattle.script_lines.specs.declared.command.Command.{Command}
use Rattle.script_lines.specs.declared.request.Request.{Request}
use Rattle.script_lines.specs.declared.request.Request.TheVariants.{One, Joint}
use Rattle.script_lines.specs.declared.reason.Refusal.TheVariants as refusal
use Rattle.script_lines.specs.Requests.{request_of}
use Rattle.script_lines.specs.Replies.{refusal_reply}
use Rattle.session_rules.specs.Session.{FlatSession, no_follower, new_session}
use Rattle.session_rules.specs.Step.{step, request_answer, Answers, answered, out_of_memory}
use Rattle.session_rules.specs.Script.{is_too_long, requested, turn, has_reply, Turn, Transcript}
use Rattle.session_rules.specs.Apart.{Docs, AllOrNone, HasAllDocs, docs_of_request, docs_of_line, is_on, lines_on, replies_on, IsWhole, StandsInMembers, AreWhole, AgreeOn}
use Rattle.session_rules.proofs.Answering.{IsApart}
use Rattle.session_rules.proofs.Joining.{docs_of_edits, goes_joint}
use Rattle.session_rules.proofs.Stepping.{Related, GoesOn, goes_within, goes_read, goes_step}

-- ---- the documents of a line

-- where all are in the set or none is, they are in it just where one of them is
alike_by : (set : Docs) (docs : List ℕ) (all : Bool) → All (λ n. set n ≡ all) docs → All (λ n. set n ≡ list_any set docs) docs
alike_by set [] all h = All-nil (λ n. set n ≡ false)
alike_by set (n ∷ docs) true h =
    let on : list_any set (n ∷ docs) ≡ true = ap (λ t. t || list_any set docs) (All-head (λ n. set n ≡ true) n docs h) in
    subst (λ b. All (λ n. set n ≡ b) (n ∷ docs)) (sym on) h
alike_by set (n ∷ docs) false h = subst (λ b. All (λ n. set n ≡ b) (n ∷ docs)) (sym (list_any_none set (n ∷ docs) h)) h

all_there : (docs : List ℕ) → names_badly docs ≡ false → list_any (λ n. nat_le DOC_COUNT n) docs ≡ false
all_there [] good = refl
all_there (n ∷ docs) good =
    let parts = or_parts (nat_le DOC_COUNT n || list_any (λ m. m == n) docs) (names_badly docs) good in
    or_from (nat_le DOC_COUNT n) (list_any (λ m. nat_le DOC_COUNT m) docs) (or_parts (nat_le DOC_COUNT n) (list_any (λ m. m == n) docs) parts.0).0
    (all_there docs parts.1)

-- ---- one line

module _ (set : Docs) (s t : FlatSession) (r : Related set s t) (all : Bool) where
  goes_one : (n : ℕ) (command : Command) (beyond : Bool) → All (λ k. set k ≡ all) (if beyond || false then [] else n ∷ [])
      → GoesOn set t all (if beyond then (refusal_reply refusal.Unknown, s) else step s n command)
      (if beyond then (refusal_reply refusal.Unknown, t) else step t n command)
  goes_one n command true alike = goes_read set s t r all (refusal_reply refusal.Unknown) (refusal_reply refusal.Unknown) (λ on. refl)
  goes_one n command false alike = goes_step set s t r n all (All-head (λ k. set k ≡ all) n [] alike) command

  goes_request : (request : Request) → All (λ n. set n ≡ all) (docs_of_request (Some request))
      → GoesOn set t all (request_answer s request) (request_answer t request)
  goes_request (One n command) alike = goes_one n command (nat_le DOC_COUNT n) alike
  goes_request (Joint edits) alike =
      let docs = docs_of_edits edits in
      goes_within set s t r all _ _
      (goes_joint set s.documents t.documents r.documents r.sound all edits
      (λ good. subst (λ b. All (λ n. set n ≡ all) (if b then [] else docs)) (all_there docs good) alike))

  goes_requested : (request : Option Request) → All (λ n. set n ≡ all) (docs_of_request request)
      → GoesOn set t all (requested s request) (requested t request)
  goes_requested None alike = goes_read set s t r all (refusal_reply refusal.Syntax) (refusal_reply refusal.Syntax) (λ on. refl)
  goes_requested (Some request) alike = goes_request request alike

  goes_unless_long : (line : List ℕ) (is_long : Bool) → All (λ n. set n ≡ all) (if is_long then [] else docs_of_request (request_of line))
      → GoesOn set t all (if is_long then (refusal_reply refusal.Limit, s) else requested s (request_of line))
      (if is_long then (refusal_reply refusal.Limit, t) else requested t (request_of line))
  goes_unless_long line true alike = goes_read set s t r all (refusal_reply refusal.Limit) (refusal_reply refusal.Limit) (λ on. refl)
  goes_unless_long line false alike = goes_requested (request_of line) alike

  goes_turn : (line : List ℕ) → All (λ n. set n ≡ all) (docs_of_line line) → GoesOn set t all (turn s line) (turn t line)
  goes_turn line alike = goes_unless_long line (is_too_long line) alike

-- a line on the set, or none, with any of the replies that it may have
module _ (set : Docs) (s t mid : FlatSession) (r : Related set s t) (flat flat' : List ℕ × FlatSession) (reply : List ℕ) where
  turn_on : (has : Bool) → GoesOn set t true flat flat' → MatchBool has (Answers flat s reply mid) ((reply ≡ []) × (mid ≡ s))
      → (next : FlatSession) × MatchBool has (Answers flat' t reply next) ((reply ≡ []) × (next ≡ t)) × Related set mid next
  turn_on true goes (answered said is) =
      (flat'.1, answered (said ∙ goes.reply refl) refl, subst (λ (m : FlatSession). Related set m flat'.1) (sym is) goes.related)
  turn_on true goes (out_of_memory said is) = (t, out_of_memory said refl, subst (λ (m : FlatSession). Related set m t) (sym is) r)
  turn_on false goes same = (t, (same.0, refl), subst (λ (m : FlatSession). Related set m t) (sym same.1) r)

  turn_off : (has : Bool) → GoesOn set t false flat flat' → MatchBool has (Answers flat s reply mid) ((reply ≡ []) × (mid ≡ s)) → Related set mid t
  turn_off true goes (answered said is) = subst (λ (m : FlatSession). Related set m t) (sym is) goes.related
  turn_off true goes (out_of_memory said is) = subst (λ (m : FlatSession). Related set m t) (sym is) r
  turn_off false goes same = subst (λ (m : FlatSession). Related set m t) (sym same.1) r

-- ---- all lines

-- one line before others, which are answered from any session that is related to the one after it
before_others : (set : Docs) (s t mid end : FlatSession) (line reply : List ℕ) (lines replies : List (List ℕ)) (all : Bool) → Related set s t
    → GoesOn set t all (turn s line) (turn t line) → Turn s line reply mid
    → ((next : FlatSession) → Related set mid next → (other : FlatSession) × Transcript next lines replies other × Related set end other)
    → (other : FlatSession) × Transcript t (if all then line ∷ lines else lines) (if all then reply ∷ replies else replies) other
    × Related set end other
before_others set s t mid end line reply lines replies true r goes took later =
    let next = turn_on set s t mid r (turn s line) (turn t line) reply (has_reply line) goes took in
    let rest = later next.0 next.2 in
    (rest.0, (next.0, next.1, rest.1), rest.2)
before_others set s t mid end line reply lines replies false r goes took later =
    later t (turn_off set s t mid r (turn s line) (turn t line) reply (has_reply line) goes took)

from_related : (set : Docs) (s t end : FlatSession) (lines replies : List (List ℕ)) → Related set s t → Transcript s lines replies end
    → All (λ line. AllOrNone set (docs_of_line line)) lines
    → (other : FlatSession) × Transcript t (lines_on set lines) (replies_on set lines replies) other × Related set end other
from_related set s t end [] [] r script alike = (t, refl, subst (λ (m : FlatSession). Related set m t) (sym script) r)
from_related set s t end [] (reply ∷ replies) r script alike = absurd script
from_related set s t end (line ∷ lines) [] r script alike = absurd script
from_related set s t end (line ∷ lines) (reply ∷ replies) r script alike =
    let on = All-head (λ line. AllOrNone set (docs_of_line line)) line lines alike in
    let rest = All-tail (λ line. AllOrNone set (docs_of_line line)) line lines alike in
    before_others set s t script.0 end line reply (lines_on set lines) (replies_on set lines replies) (is_on set line) r
    (goes_turn set s t r (is_on set line) line (alike_by set (docs_of_line line) on.0 on.1)) script.1
    (λ next related. from_related set script.0 next end lines replies related script.2 rest)

-- The replies to the lines on the set answer these lines alone, and then the documents of the set are the same.
pub separated : (set : Docs) (start end : FlatSession) (lines replies : List (List ℕ)) → Transcript start lines replies end
    → HasAllDocs start → StandsInMembers start.documents → AreWhole set start.documents → All (λ line. AllOrNone set (docs_of_line line)) lines
    → (other : FlatSession) × Transcript start (lines_on set lines) (replies_on set lines replies) other × AgreeOn set other end
separated set start end lines replies script whole stands are_whole alike =
    let related : Related set start start = record {
      documents = SameItems-self empty_document set start.documents whole.documents;
      followers = SameItems-self no_follower set start.followers whole.followers;
      sound = λ n. AllTags-from_tags (IsApart set n) (doc_in start.documents n).history (λ k d lt. (stands n k d lt, are_whole n k d lt));
    } in
    let ends = from_related set start start end lines replies related script alike in
    (ends.0, ends.1, λ n on. (sym (ends.2.documents.same n on), sym (ends.2.followers.same n on)))

-- ---- from the start

pub new_session_whole : HasAllDocs new_session
new_session_whole = record { documents = length-replicate DOC_COUNT empty_document; followers = length-replicate DOC_COUNT no_follower }

doc_in-new : (n : ℕ) → doc_in new_group n ≡ empty_document
doc_in-new n =
    ⊎_elim (λ inside. unwrap_or-slice_get new_group n empty_document ∙ get_or-replicate DOC_COUNT n empty_document empty_document inside)
    (λ past. doc_in_past new_group n past) (cases_lt n DOC_COUNT)

-- there are no tags
no_tags_in : (P : Tag → Type 0) (n : ℕ) → All P (tags_of (all_steps (doc_in new_group n).history))
no_tags_in P n = subst (λ (f : FlatState). All P (tags_of (all_steps f.history))) (sym (doc_in-new n)) (All-nil P)

pub new_group_stands : StandsInMembers new_group
new_group_stands n = no_tags_in (λ (tag : Tag). is_member n tag ≡ true) n

pub new_group_are_whole : (set : Docs) → AreWhole set new_group
new_group_are_whole set n = no_tags_in (IsWhole set) n

pub separated_from_start : (set : Docs) (end : FlatSession) (lines replies : List (List ℕ)) → Transcript new_session lines replies end
    → All (λ line. AllOrNone set (docs_of_line line)) lines
    → (other : FlatSession) × Transcript new_session (lines_on set lines) (replies_on set lines replies) other × AgreeOn set other end
separated_from_start set end lines replies script alike =
    separated set new_session end lines replies script new_session_whole new_group_stands (new_group_are_whole set) alike

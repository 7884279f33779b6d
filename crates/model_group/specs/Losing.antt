-- The group after tags are removed.
use Rattle.std.specs.Prelude.{◌≡◌, ℕ, ◌+◌, ◌^◌, ◌<◌, ◌==◌, ◌&&◌, ◌||◌, nat_lt, nat_le, Bool, true, not, if◌then◌else◌, List, length, drop, slice_get, Option, Some, None}
use Rattle.std.specs.Int.{bit_at}
use Rattle.std.specs.List.{filter, list_any}
use Rattle.undo_rules.specs.declared.Tag.{Tag}
use Rattle.undo_rules.specs.Tags.{all_steps, is_member}
use Rattle.group_rules.specs.declared.TheConstants.{DOC_COUNT}
use Rattle.group_rules.specs.Group.{doc_in, tags_of, without_tags}
use Rattle.group_rules.specs.Shared.{times}
use Rattle.group_rules.specs.Together.{members_of_any}
use Rattle.model_core.specs.State.{ModelState, KeepsParse}
use Rattle.model_group.specs.declared.ready.DocReady.{DocReady}
use Rattle.model_group.specs.State.{GroupState, IsGroup, documents}

-- whether this document is in the set
abbrev pub has_doc : ℕ → ℕ → Bool
has_doc set n = bit_at set n == 1

-- the set with this document added; None if the document is in it already or out of range
abbrev pub set_with : ℕ → ℕ → Option ℕ
set_with set n = if nat_le DOC_COUNT n || has_doc set n then None else Some (set + 2 ^ n)

-- the set of all documents that these tags name
abbrev pub Names : List Tag → ℕ → Type 0
Names tags set = (n : ℕ) → has_doc set n ≡ members_of_any tags n

-- the model of this document is spared, or loses these tags
pub record LosesTags (tags : List Tag) (spared : ℕ) (n : ℕ) (old new : ModelState) : Type 0 where
  pub document : new.document ≡ (if has_doc spared n then old.document else without_tags tags n old.document)
  pub parse : KeepsParse old new

-- Every model loses these tags, except the spared ones, which are unchanged.
pub record LoseTags (tags : List Tag) (spared : ℕ) (old new : GroupState) : Type 0 where
  pub count : length new ≡ length old
  pub each : (n : ℕ) (m k : ModelState) → slice_get old n ≡ Some m → slice_get new n ≡ Some k → LosesTags tags spared n m k
  pub same : (n : ℕ) → has_doc spared n ≡ true → slice_get new n ≡ slice_get old n

-- the tags of the document's steps from index `first` on
abbrev pub tags_from : GroupState → ℕ → ℕ → List Tag
tags_from g n first = tags_of (drop first (all_steps (doc_in (documents g) n).history))

-- ---- tags that were removed before

-- whether the tag names one of these documents
abbrev pub names_any : List DocReady → Tag → Bool
names_any ready tag = list_any (λ (r : DocReady). is_member r.doc tag) ready

-- whether document n still has the tag after these documents lost theirs
abbrev pub is_left : List DocReady → ℕ → Tag → Bool
is_left before n tag = is_member n tag && not (names_any before tag)

abbrev pub left_count : List DocReady → ℕ → List Tag → ℕ
left_count before n tags = length (filter (is_left before n) tags)

-- Of the tags of the steps from index `first` on, exactly those that name a document in `before` were removed already.
pub record IsNext (spared doc first : ℕ) (before : List DocReady) (g : GroupState) : Type 0 where
  pub start : GroupState
  pub group : IsGroup start
  pub tags : List Tag
  pub lost : LoseTags tags spared start g
  pub seen : (tag : Tag) → 0 < times tag (tags_from start doc first) → nat_lt 0 (times tag tags) ≡ names_any before tag

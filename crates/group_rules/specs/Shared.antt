-- Joint steps have the same order in each of their documents. So if the tags of the last steps of a document are lost, the tags that
-- another document loses are the last of those that the two share.
use Rattle.std.specs.Prelude.{◌≡◌, ℕ, ◌+◌, ◌<◌, ◌≤◌, true, List, length}
use Rattle.std.specs.List.{filter}
use Rattle.undo_rules.specs.declared.Tag.{Tag}
use Rattle.undo_rules.specs.Tags.{is_same_tag, is_member}
use Rattle.group_rules.specs.declared.TheConstants.{DOC_COUNT}
use Rattle.group_rules.specs.Group.{FlatGroup, doc_in, tags_of}

-- the number of occurrences of the tag in the list
abbrev pub times : Tag → List Tag → ℕ
times tag tags = length (filter (is_same_tag tag) tags)

-- the tags that have document k as a member
abbrev pub shared_with : ℕ → List Tag → List Tag
shared_with k tags = filter (is_member k) tags

-- the tags that two documents share have the same order in both
abbrev pub InOneOrder : (ℕ → List Tag) → Type 0
InOneOrder tags = (n k : ℕ) → n < DOC_COUNT → k < DOC_COUNT → shared_with k (tags n) ≡ shared_with n (tags k)

-- the conditions on a tag in document n, for documents of these versions
pub record IsOf (versions : ℕ → ℕ) (n : ℕ) (tag : Tag) : Type 0 where
  pub member : is_member n tag ≡ true
  pub there : tag.least < DOC_COUNT
  pub least : is_member tag.least tag ≡ true
  pub known : tag.version ≤ versions tag.least

-- the conditions on the tags of the undo and redo steps of all documents, for documents of these versions
pub record AreInOrder (undos redos : ℕ → List Tag) (versions : ℕ → ℕ) : Type 0 where
  pub own : (n : ℕ) (tag : Tag) → n < DOC_COUNT → 0 < times tag (undos n) + times tag (redos n) → IsOf versions n tag
  pub once : (n : ℕ) (tag : Tag) → n < DOC_COUNT → times tag (undos n) + times tag (redos n) ≤ 1
  pub undo : InOneOrder undos
  pub redo : InOneOrder redos

abbrev pub undo_tags : FlatGroup → ℕ → List Tag
undo_tags g n = tags_of (doc_in g n).history.undo

abbrev pub redo_tags : FlatGroup → ℕ → List Tag
redo_tags g n = tags_of (doc_in g n).history.redo

abbrev pub versions_in : FlatGroup → ℕ → ℕ
versions_in g n = (doc_in g n).version

pub record AreShared (g : FlatGroup) : Type 0 where
  pub in_order : AreInOrder (undo_tags g) (redo_tags g) (versions_in g)

-- The documents that a call on a group changes, and those that advance together.
use Rattle.std.specs.Prelude.{◌≡◌, ℕ, ◌+◌, ◌==◌, ◌&&◌, ◌||◌, nat_lt, Bool, true, false, List, Option, Some, None}
use Rattle.std.specs.List.{list_any}
use Rattle.undo_rules.specs.declared.Tag.{Tag}
use Rattle.undo_rules.specs.Tags.{is_member}
use Rattle.group_rules.specs.declared.TheConstants.{DOC_COUNT}
use Rattle.group_rules.specs.Group.{FlatGroup, doc_in}
use Rattle.group_rules.specs.Joint.{FlatBatch, docs_of, lost_by_joint}

-- every document outside the set is unchanged
abbrev pub Stay : (ℕ → Bool) → FlatGroup → FlatGroup → Type 0
Stay docs old new = (n : ℕ) → docs n ≡ false → doc_in new n ≡ doc_in old n

-- every document of the set has the next version
abbrev pub AllGoOn : (ℕ → Bool) → FlatGroup → FlatGroup → Type 0
AllGoOn docs old new = (n : ℕ) → docs n ≡ true → (doc_in new n).version ≡ (doc_in old n).version + 1

-- ---- the documents of a call

-- the members of these tags
abbrev pub members_of_any : List Tag → ℕ → Bool
members_of_any tags k = list_any (is_member k) tags

-- document n, and the members of the tags that are lost
abbrev pub reached : ℕ → List Tag → ℕ → Bool
reached n lost k = k == n || members_of_any lost k

-- the documents that have a batch
abbrev pub named_by : List FlatBatch → ℕ → Bool
named_by batches k = list_any (λ n. n == k) (docs_of batches)

-- the documents that have a batch, and the members of the tags that are lost
abbrev pub reached_by_joint : FlatGroup → List FlatBatch → ℕ → Bool
reached_by_joint g batches k = named_by batches k || members_of_any (lost_by_joint g batches) k

-- the documents that take a step of document n: the members of its tag, or n alone if it has none
abbrev pub gone_with : ℕ → Option Tag → ℕ → Bool
gone_with n None k = k == n
gone_with n (Some tag) k = nat_lt k DOC_COUNT && is_member k tag

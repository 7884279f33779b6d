-- The reasons for which a call on several documents is refused.
use Rattle.std.specs.Prelude.{ℕ}
use Rattle.document_rules.specs.Refusals.{FlatRefusal}

pub data GroupRefusal : Type 0 where
  -- a reason for which a call on one document is refused
  plain : FlatRefusal → GroupRefusal
  -- the joint step is not the next step of the document with this number
  joint : ℕ → GroupRefusal

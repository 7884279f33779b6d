-- What contracts see of a group: the model of each document.
use Rattle.std.specs.Prelude.{◌≡◌, ◌≢◌, ℕ, List, length, map, slice_get, slice_set, Some}
use Rattle.group_rules.specs.declared.TheConstants.{DOC_COUNT}
use Rattle.group_rules.specs.Group.{FlatGroup}
use Rattle.group_rules.specs.Shared.{AreShared}
use Rattle.model_core.specs.State.{ModelState, KeepsParse}

abbrev pub GroupState : Type 0
GroupState = List ModelState

-- the flat group that it represents
abbrev pub documents : GroupState → FlatGroup
documents g = map (λ (m : ModelState). m.document) g

-- All documents exist, and any two of them have their shared steps in the same order.
pub record IsGroup (g : GroupState) : Type 0 where
  pub count : length g ≡ DOC_COUNT
  pub shared : AreShared (documents g)

-- a call on this model, which leaves the others unchanged
pub record OnDoc (n : ℕ) (call : ModelState → ModelState → Type 0) (old new : GroupState) : Type 0 where
  pub before : ModelState
  pub after : ModelState
  pub is : slice_get old n ≡ Some before
  pub done : call before after
  pub rest : new ≡ slice_set old n after

-- `holds` for each model and its number
abbrev pub EachModel : (ℕ → ModelState → ModelState → Type 0) → GroupState → GroupState → Type 0
EachModel holds old new = (n : ℕ) (m k : ModelState) → slice_get old n ≡ Some m → slice_get new n ≡ Some k → holds n m k

-- every model keeps its last parse, its pieces and its room
abbrev pub KeepAllParses : GroupState → GroupState → Type 0
KeepAllParses old new = EachModel (λ n m k. KeepsParse m k) old new

-- every document is unchanged too
pub record KeepAll (old new : GroupState) : Type 0 where
  pub documents : documents new ≡ documents old
  pub parses : KeepAllParses old new

-- a call on this model; every other one keeps its last parse, its pieces and at least its room
abbrev pub ActsOn : ℕ → (ModelState → ModelState → Type 0) → GroupState → GroupState → Type 0
ActsOn doc call old new = EachModel (λ n m k. (n ≡ doc → call m k) × (n ≢ doc → KeepsParse m k)) old new

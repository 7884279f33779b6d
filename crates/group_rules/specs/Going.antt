-- Undo and redo in a group: a joint step is undone and redone in all its documents at once.
use Rattle.std.specs.Prelude.{ℕ, suc, Bool, false, ◌&&◌, ◌||◌, not, nat_le, if◌then◌else◌, List, [], ◌∷◌, Option, Some, None, Result, Ok, Err}
use Rattle.undo_rules.specs.declared.Tag.{Tag}
use Rattle.undo_rules.specs.Stack.{Step}
use Rattle.undo_rules.specs.Tags.{has_tag, is_member}
use Rattle.document_rules.specs.Refusals.{FlatRefusal, limit}
use Rattle.document_rules.specs.Document.{FlatChange, FlatState, greatest_version, flat_undo, flat_redo}
use Rattle.group_rules.specs.Refusals.{GroupRefusal, plain, joint}
use Rattle.group_rules.specs.Group.{FlatGroup, doc_in, with_doc, each_from}

-- a direction of travel through the history: undo or redo
pub record Going : Type 0 where
  -- the steps that can be taken, the next one first
  pub steps : FlatState → List (Step FlatChange)
  pub rule : FlatState → Result (Option FlatState) FlatRefusal

abbrev pub undoing : Going
undoing = record { steps = λ f. f.history.undo; rule = flat_undo }

abbrev pub redoing : Going
redoing = record { steps = λ f. f.history.redo; rule = flat_redo }

abbrev pub front_tag : List (Step FlatChange) → Option Tag
front_tag [] = None
front_tag (step ∷ steps) = step.tag

abbrev pub is_front : Tag → List (Step FlatChange) → Bool
is_front tag [] = false
is_front tag (step ∷ steps) = has_tag tag step

abbrev pub is_last_version : FlatState → Bool
is_last_version f = nat_le greatest_version f.version

-- ---- refusals

-- a member of the tag is in its last version; n is the number of the first document of the list
abbrev pub some_last_from : ℕ → Tag → FlatGroup → Bool
some_last_from n tag [] = false
some_last_from n tag (f ∷ g) = (is_member n tag && is_last_version f) || some_last_from (suc n) tag g

-- the least member whose next step does not have the tag; n is the number of the first document of the list
abbrev pub other_next_from : ℕ → Going → Tag → FlatGroup → Option ℕ
other_next_from n going tag [] = None
other_next_from n going tag (f ∷ g) =
    if is_member n tag && not (is_front tag (going.steps f)) then Some n else other_next_from (suc n) going tag g

abbrev pub unless_other : Option ℕ → FlatGroup → Result (Option FlatGroup) GroupRefusal
unless_other (Some n) new = Err (joint n)
unless_other None new = Ok (Some new)

-- ---- the effect

-- the document after its step; unchanged if there is no step or it is refused
abbrev pub gone_or_same : FlatState → Result (Option FlatState) FlatRefusal → FlatState
gone_or_same f (Ok (Some new)) = new
gone_or_same f (Ok None) = f
gone_or_same f (Err why) = f

abbrev pub all_gone : Going → FlatGroup → Tag → FlatGroup
all_gone going g tag = each_from 0 (λ n f. if is_member n tag then gone_or_same f (going.rule f) else f) g

abbrev pub go_together : Going → FlatGroup → Tag → Result (Option FlatGroup) GroupRefusal
go_together going g tag =
    if some_last_from 0 tag g then Err (plain limit) else unless_other (other_next_from 0 going tag g) (all_gone going g tag)

-- the step of document n alone
abbrev pub gone_in : FlatGroup → ℕ → Result (Option FlatState) FlatRefusal → Result (Option FlatGroup) GroupRefusal
gone_in g n (Err why) = Err (plain why)
gone_in g n (Ok None) = Ok None
gone_in g n (Ok (Some f)) = Ok (Some (with_doc g n f))

abbrev pub go_by : Going → FlatGroup → ℕ → Option Tag → Result (Option FlatGroup) GroupRefusal
go_by going g n None = gone_in g n (going.rule (doc_in g n))
go_by going g n (Some tag) = go_together going g tag

-- takes the next step of document n, and of all other members if it is a joint step
abbrev pub group_go : Going → FlatGroup → ℕ → Result (Option FlatGroup) GroupRefusal
group_go going g n = go_by going g n (front_tag (going.steps (doc_in g n)))

abbrev pub group_undo : FlatGroup → ℕ → Result (Option FlatGroup) GroupRefusal
group_undo g n = group_go undoing g n

abbrev pub group_redo : FlatGroup → ℕ → Result (Option FlatGroup) GroupRefusal
group_redo g n = group_go redoing g n

-- The tags of steps that several documents made at once.
use Rattle.std.specs.Prelude.{ℕ, Bool, false, ◌&&◌, ◌==◌, nat_lt, if◌then◌else◌, List, [], ◌∷◌, ◌++◌, length, take, drop, map, reverse, Option, Some, None, option_and_then, slice_get}
use Rattle.std.specs.Int.{bit_at}
use Rattle.std.specs.List.{filter, list_any}
use Rattle.undo_rules.specs.declared.Tag.{Tag}
use Rattle.undo_rules.specs.Stack.{Step, Stack}

abbrev pub is_same_tag : Tag → Tag → Bool
is_same_tag a b = a.least == b.least && a.version == b.version && a.members == b.members

abbrev pub is_tag : Tag → Option Tag → Bool
is_tag tag None = false
is_tag tag (Some other) = is_same_tag tag other

-- document n is a member of the tag
abbrev pub is_member : ℕ → Tag → Bool
is_member n tag = bit_at tag.members n == 1

-- there is a tag, and it passes the test
abbrev pub passes : (Tag → Bool) → Option Tag → Bool
passes test None = false
passes test (Some tag) = test tag

module _ {C : Type 0} where
  abbrev pub has_tag : Tag → Step C → Bool
  has_tag tag step = is_tag tag step.tag

  -- the step, without its tag if that is `tag`
  abbrev pub without_tag : Tag → Step C → Step C
  without_tag tag step = if has_tag tag step then record step { tag = None } else step

  abbrev pub tagged_front : List (Step C) → Tag → List (Step C)
  tagged_front [] tag = []
  tagged_front (step ∷ steps) tag = record step { tag = Some tag } ∷ steps

  -- the last step of the undo list gets the tag
  abbrev pub tagged : Stack C → Tag → Stack C
  tagged s tag = record s { undo = tagged_front s.undo tag }

  -- the tag is removed from all steps
  abbrev pub untagged : Stack C → Tag → Stack C
  untagged s tag = record s { undo = map (without_tag tag) s.undo; redo = map (without_tag tag) s.redo }

  -- all steps, in the order in which they were made
  abbrev pub all_steps : Stack C → List (Step C)
  all_steps s = reverse s.undo ++ s.redo

  abbrev pub holds : Stack C → Tag → Bool
  holds s tag = list_any (has_tag tag) (all_steps s)

  -- the tag of step k in that order, counted from 0, if it has one
  abbrev pub tag_at : Stack C → ℕ → Option Tag
  tag_at s k = option_and_then (λ (step : Step C). step.tag) (slice_get (all_steps s) k)

  -- ---- the last steps shared with document n

  -- the number of steps with a tag of document n
  abbrev pub tagged_count : ℕ → List (Step C) → ℕ
  tagged_count n steps = length (filter (λ (step : Step C). passes (is_member n) step.tag) steps)

  -- The steps are in the order in which they were made. The last c steps with a tag of document n lose it: a step loses
  -- its tag if fewer than c later steps have one.
  abbrev pub untagged_last : ℕ → ℕ → List (Step C) → List (Step C)
  untagged_last n c [] = []
  untagged_last n c (step ∷ steps) =
      (if passes (is_member n) step.tag && nat_lt (tagged_count n steps) c then record step { tag = None } else step)
      ∷ untagged_last n c steps

  -- replaces all steps: the first ones, as many as in the old undo list, form the undo list, the rest the redo list
  abbrev pub with_steps : Stack C → List (Step C) → Stack C
  with_steps s steps = record s { undo = reverse (take (length s.undo) steps); redo = drop (length s.undo) steps }

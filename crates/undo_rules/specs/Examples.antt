-- Worked examples of the definitions.
use Rattle.std.specs.Prelude.{◌≡◌, [], ◌∷◌, ℕ, false, Some, None, refl}
use Rattle.undo_rules.specs.declared.Tag.{Tag}
use Rattle.undo_rules.specs.Stack.{Step, Stack, empty_stack, pushed, stopped, undone, redone}
use Rattle.undo_rules.specs.Tags.{tagged, untagged, holds, tag_at, untagged_last}

two_changes_are_one_step : (pushed (pushed (empty_stack {C = ℕ}) 7 1 2) 8 2 3).undo
    ≡ record { changes = 7 ∷ 8 ∷ []; alt_before = 1; alt_after = 3; tag = None } ∷ []
two_changes_are_one_step = refl

a_stop_begins_a_step : (pushed (stopped (pushed (empty_stack {C = ℕ}) 7 1 2)) 8 2 3).undo
    ≡ record { changes = 8 ∷ []; alt_before = 2; alt_after = 3; tag = None }
    ∷ record { changes = 7 ∷ []; alt_before = 1; alt_after = 2; tag = None } ∷ []
a_stop_begins_a_step = refl

an_undo_closes_its_step : (pushed (redone (undone (pushed (empty_stack {C = ℕ}) 7 1 2))) 8 2 3).undo
    ≡ record { changes = 8 ∷ []; alt_before = 2; alt_after = 3; tag = None }
    ∷ record { changes = 7 ∷ []; alt_before = 1; alt_after = 2; tag = None } ∷ []
an_undo_closes_its_step = refl

a_change_empties_the_redo_list : (pushed (undone (pushed (empty_stack {C = ℕ}) 7 1 2)) 8 1 3).redo ≡ []
a_change_empties_the_redo_list = refl

-- the tag of a change of documents 0 and 2 at once
abbrev both : Tag
both = record { least = 0; version = 2; members = 5 }

-- a step without a tag, and a step with a tag, which is then undone
abbrev two_steps : Stack ℕ
two_steps = undone (tagged (pushed (stopped (pushed empty_stack 7 1 2)) 8 2 3) both)

an_undone_step_keeps_its_tag : tag_at two_steps 1 ≡ Some both
an_undone_step_keeps_its_tag = refl

a_step_made_alone_has_no_tag : tag_at two_steps 0 ≡ None
a_step_made_alone_has_no_tag = refl

a_tag_goes_from_both_lists : holds (untagged two_steps both) both ≡ false
a_tag_goes_from_both_lists = refl

the_tag_of_other_documents_stays : untagged two_steps (record both { members = 3 }) ≡ two_steps
the_tag_of_other_documents_stays = refl

a_change_empties_the_list_that_had_it : holds (pushed two_steps 9 2 4) both ≡ false
a_change_empties_the_list_that_had_it = refl

-- documents 0 and 1 made two steps at once, and then documents 0 and 2 made a third one
abbrev shared : ℕ → ℕ → Step ℕ
shared version members =
    record { changes = []; alt_before = 0; alt_after = 0; tag = Some (record { least = 0; version = version; members = members }) }

abbrev alone : Step ℕ → Step ℕ
alone step = record step { tag = None }

the_last_one_that_they_share_is_a_step_alone :
    untagged_last 1 1 (shared 2 3 ∷ shared 3 3 ∷ shared 4 5 ∷ []) ≡ shared 2 3 ∷ alone (shared 3 3) ∷ shared 4 5 ∷ []
the_last_one_that_they_share_is_a_step_alone = refl

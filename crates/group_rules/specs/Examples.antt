-- Worked examples of the definitions.
use Rattle.std.specs.Prelude.{◌≡◌, ℕ, false, List, [], ◌∷◌, map, codes, Option, Some, None, Result, Ok, Err, refl}
use Rattle.text_rules.specs.declared.Op.{Op}
use Rattle.unit_text.specs.declared.kind.Kind.TheVariants.{Mixed}
use Rattle.hiding_rules.specs.Hidden.{standard_scanner}
use Rattle.document_rules.specs.Refusals.{unknown, range, overlap}
use Rattle.document_rules.specs.Document.{FlatState, new_document}
use Rattle.group_rules.specs.Refusals.{plain, joint}
use Rattle.group_rules.specs.Group.{FlatGroup, group_edit}
use Rattle.group_rules.specs.Joint.{FlatBatch, group_joint}
use Rattle.group_rules.specs.Going.{group_undo, group_redo}

abbrev op : ℕ → ℕ → List ℕ → Op
op start end text = record { span = record { start = start; end = end }; text = text; force = false }

abbrev batch : ℕ → List Op → FlatBatch
batch doc ops = record { doc = doc; ops = ops }

-- "a", "b" and "c"
abbrev three : FlatGroup
three = map (λ text. new_document text standard_scanner Mixed) (codes "a" ∷ codes "b" ∷ codes "c" ∷ [])

abbrev after : {E : Type 0} → Result FlatGroup E → FlatGroup
after (Ok g) = g
after (Err why) = []

abbrev moved : {E : Type 0} → Result (Option FlatGroup) E → FlatGroup
moved (Ok (Some g)) = g
moved (Ok None) = []
moved (Err why) = []

abbrev texts : FlatGroup → List (List ℕ)
texts g = map (λ (f : FlatState). f.units) g

-- "ax" and "yb", by one joint edit
abbrev two_edited : FlatGroup
two_edited = after (group_joint three (batch 0 (op 1 1 (codes "x") ∷ []) ∷ batch 1 (op 0 0 (codes "y") ∷ []) ∷ []))

each_batch_is_carried_out : texts two_edited ≡ codes "ax" ∷ codes "yb" ∷ codes "c" ∷ []
each_batch_is_carried_out = refl

an_undo_of_one_is_one_of_both : texts (moved (group_undo two_edited 1)) ≡ codes "a" ∷ codes "b" ∷ codes "c" ∷ []
an_undo_of_one_is_one_of_both = refl

-- then "ybz" in the second one
abbrev edited_beside : FlatGroup
edited_beside = after (group_edit two_edited 1 (op 2 2 (codes "z") ∷ []))

another_step_comes_next_in_a_member : group_undo edited_beside 0 ≡ Err (joint 1)
another_step_comes_next_in_a_member = refl

-- both are undone, and the second one is edited: the first one redoes its step alone
abbrev lost : FlatGroup
lost = after (group_edit (moved (group_undo two_edited 0)) 1 (op 0 0 (codes "q") ∷ []))

a_lost_tag_goes_in_the_other_member : texts (moved (group_redo lost 0)) ≡ codes "ax" ∷ codes "qb" ∷ codes "c" ∷ []
a_lost_tag_goes_in_the_other_member = refl

no_document_of_this_number : group_joint three (batch 0 (op 9 9 [] ∷ []) ∷ batch 64 [] ∷ []) ≡ Err (plain unknown)
no_document_of_this_number = refl

a_document_named_twice : group_joint three (batch 0 [] ∷ batch 0 [] ∷ []) ≡ Err (plain unknown)
a_document_named_twice = refl

-- the span of the second batch is checked before the overlap in the first
range_before_overlap : group_joint three (batch 0 (op 0 1 [] ∷ op 0 1 [] ∷ []) ∷ batch 1 (op 0 9 [] ∷ []) ∷ []) ≡ Err (plain range)
range_before_overlap = refl

overlap_of_a_batch : group_joint three (batch 0 (op 0 1 [] ∷ op 0 1 [] ∷ []) ∷ batch 1 (op 0 1 [] ∷ []) ∷ []) ≡ Err (plain overlap)
overlap_of_a_batch = refl

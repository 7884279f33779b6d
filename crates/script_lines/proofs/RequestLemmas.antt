-- The batches of a joint edit, by how many there are.
use Rattle.std.proofs.Common.{◌≡◌, ◌<◌, ◌≤◌, List, [], ◌∷◌, length, None, refl, arith}
use Rattle.serde_json.specs.declared.value.Value.{Value}
use Rattle.serde_json.specs.View.{items_view}
use Rattle.script_lines.specs.Fields.{all_of}
use Rattle.script_lines.specs.Requests.{doc_edit_in, joint_edits_in}

pub joint_edits_in-few : (vs : List Value) → length vs < 2 → joint_edits_in (items_view vs) ≡ None
joint_edits_in-few [] few = refl
joint_edits_in-few (v ∷ []) few = refl
joint_edits_in-few (v ∷ w ∷ vs) few = absurd (omega arith)

pub joint_edits_in-more : (vs : List Value) → 2 ≤ length vs → joint_edits_in (items_view vs) ≡ all_of doc_edit_in (items_view vs)
joint_edits_in-more [] more = absurd (omega arith)
joint_edits_in-more (v ∷ []) more = absurd (omega arith)
joint_edits_in-more (v ∷ w ∷ vs) more = refl

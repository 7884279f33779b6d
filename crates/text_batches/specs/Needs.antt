-- The room that ops and batches need.
use Rattle.std.specs.Prelude.{ℕ, List, sum_by}
use Rattle.text_rules.specs.declared.Op.{Op}
use Rattle.line_starts.specs.Starts.{break_count}
use Rattle.text_buffer.specs.declared.room.Need.{Need}
use Rattle.text_buffer.specs.Room.{part_count}
use Rattle.batch_rules.specs.Batches.{text_units}

-- the number of breaks in the texts of all ops
abbrev pub text_breaks : List Op → ℕ
text_breaks ops = sum_by (λ op. break_count op.text) ops

-- the number of edits of the ops: one for each part of their texts
abbrev pub edit_count : List Op → ℕ
edit_count ops = sum_by (λ op. part_count op.text) ops

-- the room that the ops need
abbrev pub need_of_ops : List Op → Need
need_of_ops ops = record { edits = edit_count ops; units = text_units ops; breaks = text_breaks ops }

-- the room that the batches need together
abbrev pub need_of_batches : List (List Op) → Need
need_of_batches batches = record {
  edits = sum_by edit_count batches;
  units = sum_by text_units batches;
  breaks = sum_by text_breaks batches;
}

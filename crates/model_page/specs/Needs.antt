-- The room that changes need.
use Rattle.std.specs.Prelude.{ℕ, ◌+◌, ◌*◌, List}
use Rattle.text_buffer.specs.declared.room.Need.{Need}
use Rattle.model_page.specs.declared.change.Change.{Change}
use Rattle.model_page.specs.declared.change.Way.{Way}
use Rattle.model_page.specs.Counts.{edit_count_along, unit_count, breaks_along}

-- the room that the changes need on the way
abbrev pub need_along : Way → List Change → Need
need_along way cs = record { edits = edit_count_along way cs; units = unit_count way cs; breaks = breaks_along way cs }

-- the most units that edits with this need append to the buffers: those of their texts, and 8 beside each
abbrev pub most_appended : Need → ℕ
most_appended need = need.units + 8 * need.edits

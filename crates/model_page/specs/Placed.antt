-- The stored form of a batch, and its ops.
use Rattle.std.specs.Prelude.{◌≡◌, ℕ, ◌+◌, ◌<◌, ◌≤◌, ◌^◌, Bool, List, [], ◌∷◌, take, ⊤}
use Rattle.text_lengths.specs.declared.Span.{Span}
use Rattle.text_rules.specs.declared.Op.{Op}
use Rattle.model_page.specs.declared.placed.OpView.{OpView}
use Rattle.model_page.specs.declared.form.Form.{Form}
use Rattle.model_page.specs.declared.form.Form.TheVariants.{Short, Many}
use Rattle.model_page.specs.declared.form.TheConstants.{MOST_SHORT}

abbrev pub op_with : Span → List ℕ → Bool → Op
op_with span text force = record { span = span; text = text; force = force }

-- the ops of a stored batch
abbrev pub ops_kept : Form → List Op
ops_kept (Short len force taken units start) =
    op_with (record { start = start; end = start + taken }) (take len units) force ∷ []
ops_kept (Many kept) = kept.value.batch

-- an inline op has at most `MOST_SHORT` units, and its end does not overflow
abbrev pub IsKept : Form → Type 0
IsKept (Short len force taken units start) = (len ≤ MOST_SHORT) × (start + taken < 2 ^ 64)
IsKept (Many kept) = ⊤

-- the form stores these ops
abbrev pub IsKeptAs : List Op → Form → Type 0
IsKeptAs ops form = IsKept form × (ops_kept form ≡ ops)

-- the op of a view
abbrev pub op_of : OpView → Op
op_of view = op_with view.span view.text.now view.force

-- What contracts see of an element.
use Rattle.std.specs.Prelude.{◌∷◌}
use Rattle.edit_stack.specs.declared.element.Element.{Element}
use Rattle.undo_rules.specs.Stack.{Step}

abbrev pub step_of : {C : Type 0} → Element C → Step C
step_of e = record { changes = e.first ∷ e.more.items; alt_before = e.alt_before; alt_after = e.alt_after; tag = e.tag }

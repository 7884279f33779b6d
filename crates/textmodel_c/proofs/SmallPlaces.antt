-- Brackets that were appended to an empty list.
use Rattle.std.proofs.Common.{◌≡◌, ◌++◌, ap, sym, subst, ◌∙◌, List, [], Result, Ok, Err}
use Rattle.std.specs.Prelude.{OnOk, ⊤}
use Rattle.std.specs.List.{All}
use Rattle.bracket_rules.specs.declared.Entry.{Entry}
use Rattle.document_rules.specs.declared.ModelError.{ModelError}
use Rattle.document_rules.specs.Refusals.{FlatRefusal}
use Rattle.document_rules.specs.Outcomes.{Appends}
use Rattle.document_rules.specs.Brackets.{IsSmall}

abbrev pub AreSmall : List Entry → Type 0
AreSmall entries = All (λ (e : Entry). IsSmall e.place) entries

-- their places are small, as those of the rule's answer are
pub all_small : (result : Result ⊤ ModelError) (old new : List Entry) (rule : Result (List Entry) FlatRefusal) → old ≡ []
    → Appends result old new rule → ((entries : List Entry) → rule ≡ Ok entries → OnOk result (AreSmall entries)) → OnOk result (AreSmall new)
all_small (Ok x) old new rule none (added, is, grown) small = subst AreSmall (sym (grown ∙ ap (λ before. before ++ added) none)) (small added is)
all_small (Err e) old new rule none refused small = tt

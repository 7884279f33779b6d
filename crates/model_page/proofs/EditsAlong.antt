-- The edits in turn of changes lead from the text before them to the text after them.
use Rattle.std.proofs.Common.{◌≡◌, ℕ, List, [], ◌∷◌, ap, sym, ◌∙◌, refl}
use Rattle.text_rules.specs.declared.Op.{Op}
use Rattle.document_rules.specs.Document.{FlatText, edits_on, edits_back}
use Rattle.document_rules.specs.InTurn.{edited_in_turn, one_by_one, ending_edits}
use Rattle.document_rules.proofs.InTurn.{in_turn-append, one_by_one-text, ending_edits-text}
use Rattle.model_page.specs.declared.change.Change.{Change}
use Rattle.model_page.specs.declared.change.Change.TheVariants.{Ops, Endings}
use Rattle.model_page.specs.declared.change.Way.TheVariants.{Back, On}
use Rattle.model_page.specs.Changes.{led, deed_of, text_back, text_on, Leads, LeadBack, LeadOn}
use Rattle.model_page.specs.InTurn.{edits_along, all_edits_along}
use Rattle.model_page.proofs.Turns.{fit_back, leads_back}

-- ---- one change

pub edits_made_again : (before after : FlatText) (c : Change) → Leads before c after → edited_in_turn before.units (edits_along On c) ≡ after.units
edits_made_again before after (Ops ops inverse) leads =
    one_by_one-text before.units ops leads.standing ∙ ap (λ (t : FlatText). t.units) (sym leads.on)
edits_made_again before after (Endings r) leads =
    ap (λ (t : FlatText). edited_in_turn t.units (ending_edits r.before r.after)) (sym leads.kinds.0)
    ∙ ending_edits-text r.before r.after leads.kinds.2 ∙ ap (λ (t : FlatText). t.units) leads.kinds.1

pub edits_taken_back : (before after : FlatText) (c : Change) → Leads before c after → edited_in_turn after.units (edits_along Back c) ≡ before.units
edits_taken_back before after (Ops ops inverse) leads =
    one_by_one-text after.units inverse (fit_back before after (Ops ops inverse) leads).standing
    ∙ ap (λ (t : FlatText). t.units) (leads_back before after (Ops ops inverse) leads)
edits_taken_back before after (Endings r) leads =
    ap (λ (t : FlatText). edited_in_turn t.units (ending_edits r.after r.before)) (sym leads.kinds.1)
    ∙ ending_edits-text r.after r.before (sym leads.kinds.2) ∙ ap (λ (t : FlatText). t.units) leads.kinds.0

-- ---- the changes of a step

pub all_made_again : (now : FlatText) (cs : List Change) → LeadOn now cs → edited_in_turn now.units (all_edits_along On cs) ≡ (text_on now cs).units
all_made_again now [] lead = refl
all_made_again now (c ∷ cs) lead =
    let rest : List Op = all_edits_along On cs in
    in_turn-append now.units (edits_along On c) rest
    ∙ ap (λ (x : List ℕ). edited_in_turn x rest) (edits_made_again now (led On c now) c lead.0)
    ∙ all_made_again (led On c now) cs lead.1

pub all_taken_back : (now : FlatText) (cs : List Change) → LeadBack now cs → edited_in_turn now.units (all_edits_along Back cs) ≡ (text_back now cs).units
all_taken_back now [] lead = refl
all_taken_back now (c ∷ cs) lead =
    in_turn-append now.units (all_edits_along Back cs) (edits_along Back c)
    ∙ ap (λ (x : List ℕ). edited_in_turn x (edits_along Back c)) (all_taken_back now cs lead.1)
    ∙ edits_taken_back (text_back now (c ∷ cs)) (text_back now cs) c lead.0

-- ---- the same edits as those of the deed

pub same_edits_on : (before after : FlatText) (c : Change) → Leads before c after → edits_on before (deed_of c) after ≡ edits_along On c
same_edits_on before after (Ops ops inverse) leads = refl
same_edits_on before after (Endings r) leads =
    ap (λ (t : FlatText). ending_edits t.units after.units) (sym leads.kinds.0) ∙ ap (λ (t : FlatText). ending_edits r.before t.units) (sym leads.kinds.1)

pub same_edits_back : (before after : FlatText) (c : Change) → Leads before c after → edits_back before (deed_of c) after ≡ edits_along Back c
same_edits_back before after (Ops ops inverse) leads = ap one_by_one (sym leads.inverse)
same_edits_back before after (Endings r) leads =
    ap (λ (t : FlatText). ending_edits t.units before.units) (sym leads.kinds.1) ∙ ap (λ (t : FlatText). ending_edits r.after t.units) (sym leads.kinds.0)

-- The batches of changes that were carried out take the text before them to the text after them, and so do their edits in turn.
use Rattle.std.proofs.Common.{◌≡◌, ℕ, ◌+◌, ◌≤◌, Bool, true, false, cond, List, [], ◌∷◌, ◌++◌, length, Option, Some, None, IfSome, refl, ap, sym, subst, ◌∙◌}
use Rattle.std.specs.Option.{option_map}
use Rattle.std.proofs.lemmas.Bool.{le-ltb}
use Rattle.text_rules.specs.declared.Op.{Op}
use Rattle.batch_rules.specs.Batches.{most_units, applied_from, StandFrom}
use Rattle.batch_rules.specs.Events.{is_misfit, first_misfit, TakeTo}
use Rattle.edit_batches.proofs.Lengths.{below_standing}
use Rattle.undo_rules.specs.Stack.{Step, Stack}
use Rattle.document_rules.specs.Document.{FlatText, LastChange}
use Rattle.document_rules.specs.InTurn.{edited_in_turn}
use Rattle.model_page.specs.declared.change.Change.{Change}
use Rattle.model_page.specs.declared.change.Way.TheVariants.{Back, On}
use Rattle.model_page.specs.Changes.{ops_by, led, text_back, text_on, LeadBack, LeadOn}
use Rattle.model_page.specs.Ways.{batches_by}
use Rattle.model_page.proofs.Turns.{fit_back, fit_on}
use Rattle.model_page.proofs.EditsAlong.{edits_made_again, all_made_again, all_taken_back}
use Rattle.model_core.specs.declared.latest.Latest.{Latest}
use Rattle.model_core.specs.declared.latest.Latest.TheVariants.{Made, TakenBack, MadeAgain}
use Rattle.model_core.specs.History.{last_made, last_of, last_of_steps, StepsLeadBack, StepsLeadOn, IsHistory}
use Rattle.model_core.proofs.Histories.{text_on-back, text_back-on, LeadBack-on, LeadOn-back}

-- ---- batches

fitting : (x : List ℕ) (ops : List Op) → StandFrom 0 x ops → length (applied_from 0 x ops) ≤ most_units → is_misfit x ops ≡ false
fitting x ops stand fits = rw (below_standing 0 x ops stand, le-ltb most_units (length (applied_from 0 x ops)) fits) refl

taken_first : (x y : List ℕ) (ops : List Op) (batches : List (List Op)) → is_misfit x ops ≡ false → TakeTo (applied_from 0 x ops) batches y → TakeTo x (ops ∷ batches) y
taken_first x y ops batches fits taken = record { fits = rw (fits, taken.fits) refl; text = taken.text }

taken_one : (x : List ℕ) (ops : List Op) → is_misfit x ops ≡ false → TakeTo x (ops ∷ []) (applied_from 0 x ops)
taken_one x ops fits = taken_first x (applied_from 0 x ops) ops [] fits (record { fits = refl; text = refl })

both_fit : (misfit : Bool) (rest : Option ℕ) → cond misfit (Some 1) (option_map (λ (n : ℕ). n + 1) rest) ≡ None → (misfit ≡ false) × (rest ≡ None)
both_fit true rest is = absurd cc
both_fit false None is = (refl, refl)
both_fit false (Some n) is = absurd cc

taken_on : (a b : List (List Op)) (x y z : List ℕ) → TakeTo x a y → TakeTo y b z → TakeTo x (a ++ b) z
taken_on [] b x y z first then = subst (λ (t : List ℕ). TakeTo t b z) (sym first.text) then
taken_on (ops ∷ a) b x y z first then =
    let fit = both_fit (is_misfit x ops) (first_misfit (applied_from 0 x ops) a) first.fits in
    taken_first x z ops (a ++ b) fit.0 (taken_on a b (applied_from 0 x ops) y z (record { fits = fit.1; text = first.text }) then)

-- ---- changes

taken_by_on : (now : FlatText) (cs : List Change) → LeadOn now cs → TakeTo now.units (batches_by On cs) (text_on now cs).units
taken_by_on now [] lead = record { fits = refl; text = refl }
taken_by_on now (c ∷ cs) lead =
    let fit = fit_on now (led On c now) c lead.0 in
    taken_first now.units (text_on (led On c now) cs).units (ops_by On c) (batches_by On cs) (fitting now.units (ops_by On c) fit.standing fit.fits)
    (taken_by_on (led On c now) cs lead.1)

taken_by_back : (now : FlatText) (cs : List Change) → LeadBack now cs → TakeTo now.units (batches_by Back cs) (text_back now cs).units
taken_by_back now [] lead = record { fits = refl; text = refl }
taken_by_back now (c ∷ cs) lead =
    let mid : FlatText = text_back now cs in
    let fit = fit_back (text_back now (c ∷ cs)) mid c lead.0 in
    taken_on (batches_by Back cs) (ops_by Back c ∷ []) now.units mid.units (led Back c mid).units (taken_by_back now cs lead.1)
    (taken_one mid.units (ops_by Back c) (fitting mid.units (ops_by Back c) fit.standing fit.fits))

-- ---- the last change

abbrev IsTaken : FlatText → LastChange → Type 0
IsTaken now last = TakeTo last.before last.batches now.units

taken_made : (now : FlatText) (cs : List Change) → LeadBack now cs → IfSome (last_made now cs) (IsTaken now)
taken_made now [] lead = tt
taken_made now (c ∷ []) lead =
    let before : FlatText = led Back c now in
    let fit = fit_on before now c lead.0 in
    subst (λ (t : FlatText). TakeTo before.units (ops_by On c ∷ []) t.units) (sym lead.0.on)
    (taken_one before.units (ops_by On c) (fitting before.units (ops_by On c) fit.standing fit.fits))
taken_made now (c ∷ d ∷ cs) lead = taken_made now (d ∷ cs) lead.1

taken_of_undo : (now : FlatText) (ss : List (Step Change)) → StepsLeadBack now ss → IfSome (last_of_steps MadeAgain now ss) (IsTaken now)
taken_of_undo now [] lead = tt
taken_of_undo now (s ∷ ss) lead =
    let before : FlatText = text_back now s.changes in
    subst (λ (t : FlatText). TakeTo before.units (batches_by On s.changes) t.units) (text_on-back s.changes now lead.0)
    (taken_by_on before s.changes (LeadOn-back s.changes now lead.0))

taken_of_made : (now : FlatText) (ss : List (Step Change)) → StepsLeadBack now ss → IfSome (last_of_steps Made now ss) (IsTaken now)
taken_of_made now [] lead = tt
taken_of_made now (s ∷ ss) lead = taken_made now s.changes lead.0

taken_of_redo : (now : FlatText) (ss : List (Step Change)) → StepsLeadOn now ss → IfSome (last_of_steps TakenBack now ss) (IsTaken now)
taken_of_redo now [] lead = tt
taken_of_redo now (s ∷ ss) lead =
    let before : FlatText = text_on now s.changes in
    subst (λ (t : FlatText). TakeTo before.units (batches_by Back s.changes) t.units) (text_back-on s.changes now lead.0)
    (taken_by_back before s.changes (LeadBack-on s.changes now lead.0))

pub last_taken : (latest : Option Latest) (now : FlatText) (s : Stack Change) → IsHistory now s → IfSome (last_of latest now s) (IsTaken now)
last_taken None now s history = tt
last_taken (Some Made) now s history = taken_of_made now s.undo history.back
last_taken (Some TakenBack) now s history = taken_of_redo now s.redo history.on
last_taken (Some MadeAgain) now s history = taken_of_undo now s.undo history.back

-- ---- its edits

abbrev IsTold : FlatText → LastChange → Type 0
IsTold now last = edited_in_turn last.before last.edits ≡ now.units

told_made : (now : FlatText) (cs : List Change) → LeadBack now cs → IfSome (last_made now cs) (IsTold now)
told_made now [] lead = tt
told_made now (c ∷ []) lead = edits_made_again (led Back c now) now c lead.0
told_made now (c ∷ d ∷ cs) lead = told_made now (d ∷ cs) lead.1

told_of_made : (now : FlatText) (ss : List (Step Change)) → StepsLeadBack now ss → IfSome (last_of_steps Made now ss) (IsTold now)
told_of_made now [] lead = tt
told_of_made now (s ∷ ss) lead = told_made now s.changes lead.0

told_of_undo : (now : FlatText) (ss : List (Step Change)) → StepsLeadBack now ss → IfSome (last_of_steps MadeAgain now ss) (IsTold now)
told_of_undo now [] lead = tt
told_of_undo now (s ∷ ss) lead =
    all_made_again (text_back now s.changes) s.changes (LeadOn-back s.changes now lead.0)
    ∙ ap (λ (t : FlatText). t.units) (text_on-back s.changes now lead.0)

told_of_redo : (now : FlatText) (ss : List (Step Change)) → StepsLeadOn now ss → IfSome (last_of_steps TakenBack now ss) (IsTold now)
told_of_redo now [] lead = tt
told_of_redo now (s ∷ ss) lead =
    all_taken_back (text_on now s.changes) s.changes (LeadBack-on s.changes now lead.0)
    ∙ ap (λ (t : FlatText). t.units) (text_back-on s.changes now lead.0)

pub last_told : (latest : Option Latest) (now : FlatText) (s : Stack Change) → IsHistory now s → IfSome (last_of latest now s) (IsTold now)
last_told None now s history = tt
last_told (Some Made) now s history = told_of_made now s.undo history.back
last_told (Some TakenBack) now s history = told_of_redo now s.redo history.on
last_told (Some MadeAgain) now s history = told_of_undo now s.undo history.back

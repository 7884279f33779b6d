-- The texts that kept batches lead to, when one is pushed, undone or redone.
use Rattle.std.proofs.Common.{◌≡◌, ℕ, Bool, true, false, List, [], ◌∷◌, ◌++◌, None, refl, ap, sym, subst, ◌∙◌}
use Rattle.undo_rules.specs.Stack.{Step, Stack, joined, pushed, stopped, undone_lists, redone_lists}
use Rattle.document_rules.specs.Document.{FlatText, text_before, text_after}
use Rattle.model_page.specs.declared.change.Change.{Change}
use Rattle.model_page.specs.Changes.{led, deed_of, text_back, text_on, changes_back, changes_on, Leads, LeadBack, LeadOn}
use Rattle.model_page.proofs.Turns.{text_back-more, changes_back-more, leads_back}
use Rattle.model_core.specs.History.{undo_steps, redo_steps, history_of, StepsLeadBack, StepsLeadOn, IsHistory, kept_with}
use Rattle.model_page.specs.declared.change.Change.TheVariants.{Ops, Endings}
use Rattle.model_page.specs.declared.change.Way.TheVariants.{Back, On}

-- A step and one change more.

pub LeadBack-more : (cs : List Change) (c : Change) (before after : FlatText) → led Back c after ≡ before → Leads before c after → LeadBack before cs
    → LeadBack after (cs ++ c ∷ [])
LeadBack-more [] c before after gives leads old = (subst (λ x. Leads x c after) (sym gives) leads, tt)
LeadBack-more (d ∷ cs) c before after gives leads old =
    let back : text_back after (cs ++ c ∷ []) ≡ text_back before cs = text_back-more cs c after ∙ ap (λ x. text_back x cs) gives in
    (subst (λ x. Leads (led Back d x) d x) (sym back) old.0, LeadBack-more cs c before after gives leads old.1)

-- A step that is undone can be made again from the text before it.

pub text_on-back : (cs : List Change) (now : FlatText) → LeadBack now cs → text_on (text_back now cs) cs ≡ now
text_on-back [] now lead = refl
text_on-back (c ∷ cs) now lead = ap (λ x. text_on x cs) (sym lead.0.on) ∙ text_on-back cs now lead.1

pub changes_on-back : (cs : List Change) (now : FlatText) → LeadBack now cs → changes_on (text_back now cs) cs ≡ changes_back now cs
changes_on-back [] now lead = refl
changes_on-back (c ∷ cs) now lead =
    rw (sym lead.0.on) (ap (λ x. record { before = text_back now (c ∷ cs); deed = deed_of c; after = text_back now cs } ∷ x) (changes_on-back cs now lead.1))

pub LeadOn-back : (cs : List Change) (now : FlatText) → LeadBack now cs → LeadOn (text_back now cs) cs
LeadOn-back [] now lead = tt
LeadOn-back (c ∷ cs) now lead =
    subst (λ x. Leads (text_back now (c ∷ cs)) c x × LeadOn x cs) lead.0.on (lead.0, LeadOn-back cs now lead.1)

-- A step that is made again can be undone from the text after it.

pub text_back-on : (cs : List Change) (now : FlatText) → LeadOn now cs → text_back (text_on now cs) cs ≡ now
text_back-on [] now lead = refl
text_back-on (c ∷ cs) now lead =
    ap (led Back c) (text_back-on cs (led On c now) lead.1) ∙ leads_back now (led On c now) c lead.0

pub changes_back-on : (cs : List Change) (now : FlatText) → LeadOn now cs → changes_back (text_on now cs) cs ≡ changes_on now cs
changes_back-on [] now lead = refl
changes_back-on (c ∷ cs) now lead =
    let mid = led On c now in
    let there : text_back (text_on mid cs) cs ≡ mid = text_back-on cs mid lead.1 in
    let back : led Back c (text_back (text_on mid cs) cs) ≡ now = text_back-on (c ∷ cs) now lead in
    rw (changes_back-on cs mid lead.1, back, there) refl

pub LeadBack-on : (cs : List Change) (now : FlatText) → LeadOn now cs → LeadBack (text_on now cs) cs
LeadBack-on [] now lead = tt
LeadBack-on (c ∷ cs) now lead =
    let mid = led On c now in
    let there : text_back (text_on mid cs) cs ≡ mid = text_back-on cs mid lead.1 in
    let back : led Back c (text_back (text_on mid cs) cs) ≡ now = text_back-on (c ∷ cs) now lead in
    (subst (λ x. Leads x c (text_back (text_on mid cs) cs)) (sym back) (subst (λ x. Leads now c x) (sym there) lead.0), LeadBack-on cs mid lead.1)

-- The texts before and after a step.

pub text_before-back : (cs : List Change) (now : FlatText) → text_before now (changes_back now cs) ≡ text_back now cs
text_before-back [] now = refl
text_before-back (c ∷ cs) now = refl

pub text_after-on : (cs : List Change) (now : FlatText) → text_after now (changes_on now cs) ≡ text_on now cs
text_after-on [] now = refl
text_after-on (c ∷ cs) now = text_after-on cs (led On c now)

-- A whole history, when a change is pushed.

undo_steps-joined : (is_open : Bool) (ss : List (Step Change)) (c : Change) (before after : FlatText) (a b : ℕ) → led Back c after ≡ before
    → undo_steps after (joined is_open ss c a b) ≡ joined is_open (undo_steps before ss) (record { before = before; deed = deed_of c; after = after }) a b
undo_steps-joined true [] c before after a b gives =
    ap (λ x. record { changes = record { before = x; deed = deed_of c; after = after } ∷ []; alt_before = a; alt_after = b; tag = None } ∷ []) gives
undo_steps-joined true (s ∷ ss) c before after a b gives =
    let back : text_back after (s.changes ++ c ∷ []) ≡ text_back before s.changes = text_back-more s.changes c after ∙ ap (λ x. text_back x s.changes) gives in
    rw (changes_back-more s.changes c before after gives, back) refl
undo_steps-joined false ss c before after a b gives =
    ap (λ x. record { changes = record { before = x; deed = deed_of c; after = after } ∷ []; alt_before = a; alt_after = b; tag = None } ∷ undo_steps x ss) gives

StepsLeadBack-joined : (is_open : Bool) (ss : List (Step Change)) (c : Change) (before after : FlatText) (a b : ℕ) → Leads before c after → StepsLeadBack before ss
    → StepsLeadBack after (joined is_open ss c a b)
StepsLeadBack-joined true [] c before after a b leads old =
    let gives = leads_back before after c leads in
    ((subst (λ x. Leads x c after) (sym gives) leads, tt), tt)
StepsLeadBack-joined true (s ∷ ss) c before after a b leads old =
    let gives = leads_back before after c leads in
    let back : text_back after (s.changes ++ c ∷ []) ≡ text_back before s.changes = text_back-more s.changes c after ∙ ap (λ x. text_back x s.changes) gives in
    (LeadBack-more s.changes c before after gives leads old.0, subst (λ x. StepsLeadBack x ss) (sym back) old.1)
StepsLeadBack-joined false ss c before after a b leads old =
    let gives = leads_back before after c leads in
    ((subst (λ x. Leads x c after) (sym gives) leads, tt), subst (λ x. StepsLeadBack x ss) (sym gives) old)

pub history-pushed : (s : Stack Change) (c : Change) (before after : FlatText) (a b : ℕ) → Leads before c after
    → history_of after (pushed s c a b) ≡ pushed (history_of before s) (record { before = before; deed = deed_of c; after = after }) a b
history-pushed s c before after a b leads =
    ap (λ u. record { undo = u; redo = []; is_open = true }) (undo_steps-joined s.is_open s.undo c before after a b (leads_back before after c leads))

pub IsHistory-pushed : (s : Stack Change) (c : Change) (before after : FlatText) (a b : ℕ) → Leads before c after → IsHistory before s → IsHistory after (pushed s c a b)
IsHistory-pushed s c before after a b leads old =
    record { back = StepsLeadBack-joined s.is_open s.undo c before after a b leads old.back; on = tt }

IsHistory-stopped : (s : Stack Change) (now : FlatText) → IsHistory now s → IsHistory now (stopped s)
IsHistory-stopped s now old = record { back = old.back; on = old.on }

-- a change of line endings begins a step and ends it
pub history-alone : (s : Stack Change) (c : Change) (before after : FlatText) (a b : ℕ) → Leads before c after
    → history_of after (stopped (pushed (stopped s) c a b))
    ≡ stopped (pushed (stopped (history_of before s)) (record { before = before; deed = deed_of c; after = after }) a b)
history-alone s c before after a b leads = ap stopped (history-pushed (stopped s) c before after a b leads)

pub IsHistory-kept : (s : Stack Change) (c : Change) (before after : FlatText) (a b : ℕ) → Leads before c after → IsHistory before s → IsHistory after (kept_with s c a b)
IsHistory-kept s (Ops ops inverse) before after a b leads old = IsHistory-pushed s (Ops ops inverse) before after a b leads old
IsHistory-kept s (Endings r) before after a b leads old =
    IsHistory-stopped (pushed (stopped s) (Endings r) a b) after
    (IsHistory-pushed (stopped s) (Endings r) before after a b leads (IsHistory-stopped s before old))

-- A whole history, when a step is undone or redone.

pub history-undone : (undo redo : List (Step Change)) (step : Step Change) (now : FlatText) → LeadBack now step.changes
    → history_of (text_back now step.changes) (undone_lists (step ∷ undo) redo) ≡ undone_lists (undo_steps now (step ∷ undo)) (redo_steps now redo)
history-undone undo redo step now lead =
    rw (changes_on-back step.changes now lead, text_on-back step.changes now lead) refl

pub IsHistory-undone : (undo redo : List (Step Change)) (step : Step Change) (now : FlatText) → StepsLeadBack now (step ∷ undo) → StepsLeadOn now redo
    → IsHistory (text_back now step.changes) (undone_lists (step ∷ undo) redo)
IsHistory-undone undo redo step now back on =
    record {
      back = back.1;
      on = (LeadOn-back step.changes now back.0, subst (λ x. StepsLeadOn x redo) (sym (text_on-back step.changes now back.0)) on);
    }

pub history-redone : (undo redo : List (Step Change)) (step : Step Change) (is_open : Bool) (now : FlatText) → LeadOn now step.changes
    → history_of (text_on now step.changes) (redone_lists undo (step ∷ redo) is_open) ≡ redone_lists (undo_steps now undo) (redo_steps now (step ∷ redo)) is_open
history-redone undo redo step is_open now lead =
    rw (changes_back-on step.changes now lead, text_back-on step.changes now lead) refl

pub IsHistory-redone : (undo redo : List (Step Change)) (step : Step Change) (is_open : Bool) (now : FlatText) → StepsLeadBack now undo → StepsLeadOn now (step ∷ redo)
    → IsHistory (text_on now step.changes) (redone_lists undo (step ∷ redo) is_open)
IsHistory-redone undo redo step is_open now back on =
    record {
      back = (LeadBack-on step.changes now on.0, subst (λ x. StepsLeadBack x undo) (sym (text_back-on step.changes now on.0)) back);
      on = on.1;
    }

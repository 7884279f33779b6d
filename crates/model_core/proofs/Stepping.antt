-- A step that is undone or redone: what it leaves, and what the flat document has then.
use Rattle.std.proofs.Common.{◌≡◌, ℕ, ◌+◌, ◌<◌, ◌≤◌, Bool, List, [], ◌∷◌, ◌++◌, length, slice_get, Option, Result, Some, None, Ok, Err, is_some, refl, ap, sym, subst, ◌∙◌, arith}
use Rattle.std.specs.Prelude.{sum_by}
use Rattle.std.proofs.lemmas.List.Sums.{sum_by-cons}
use Rattle.std.specs.Option.{option_map}
use Rattle.std.proofs.lemmas.Bool.{lt-leb, le-leb}
use Rattle.text_rules.specs.declared.Op.{Op}
use Rattle.batch_rules.specs.Batches.{text_units}
use Rattle.batch_rules.proofs.Inverses.{length-inverse_from}
use Rattle.undo_rules.specs.Stack.{Step, Stack}
use Rattle.document_rules.specs.declared.ModelError.{ModelError}
use Rattle.document_rules.specs.Outcomes.{Moves}
use Rattle.document_rules.specs.Paired.{IsPairedState}
use Rattle.document_rules.proofs.PairedStates.{IsPairedState-undo, IsPairedState-redo}
use Rattle.document_rules.specs.Refusals.{limit}
use Rattle.snapshot_rules.specs.Snapshots.{FlatShelf}
use Rattle.document_rules.specs.Document.{FlatText, FlatChange, FlatState, greatest_version, batches_back, batches_on, edits_back, all_edits_back, all_edits_on}
use Rattle.text_batches.specs.Needs.{edit_count, text_breaks}
use Rattle.model_page.specs.declared.change.Change.{Change}
use Rattle.model_page.specs.declared.change.Change.TheVariants.{Ops, Endings}
use Rattle.model_page.specs.declared.change.Way.{Way}
use Rattle.model_page.specs.declared.change.Way.TheVariants.{Back, On}
use Rattle.model_core.specs.Ways.{next_steps, passed, alternative_after, flat_move}
use Rattle.model_page.specs.Ways.{text_by, changes_by, LeadBy, decorations_by, batches_by, marked_along}
use Rattle.model_page.specs.InTurn.{edits_along, all_edits_along}
use Rattle.model_page.specs.LineMarks.{marked_step}
use Rattle.model_core.specs.Prepared.{ops_along, next_edit_count, deed_marking, next_marking_count, next_unit_count, next_break_count}
use Rattle.batch_rules.specs.Events.{whole_op}
use Rattle.model_page.specs.Changes.{ops_by, led, deed_of, text_back, changes_back, changes_on, Leads, LeadBack, LeadOn}
use Rattle.model_page.specs.Counts.{edit_count_along, unit_count, breaks_along, marking_ops, marking_count}
use Rattle.model_core.specs.History.{undo_steps, redo_steps, history_of, latest_along, latest_steps, last_of, IsHistory}
use Rattle.model_core.specs.declared.latest.Latest.{Latest}
use Rattle.hiding_rules.specs.Hidden.{Scanner}
use Rattle.decoration_rules.specs.Decorations.{Decorations}
use Rattle.mark_rules.specs.declared.Mark.{Mark}
use Rattle.model_page.proofs.Turns.{marking_count-cons}
use Rattle.model_page.proofs.EditsAlong.{same_edits_on, same_edits_back}
use Rattle.model_page.proofs.Carries.{carried_back-kept, carried_on-kept}
use Rattle.model_core.proofs.Histories.{text_before-back, text_after-on, history-undone, IsHistory-undone, history-redone, IsHistory-redone}
use Rattle.model_core.proofs.LastChanges.{last-undone, last-redone}

-- the flat document of a text and the kept batches
abbrev pub document_of : FlatText → ℕ → ℕ → Decorations → Scanner → FlatShelf → Option Latest → Stack Change → FlatState
document_of now version alternative d scanner shelf latest s = record {
  units = now.units;
  kind = now.kind;
  version = version;
  alternative = alternative;
  decorations = d;
  scanner = scanner;
  history = history_of now s;
  shelf = shelf;
  last = last_of latest now s;
}

first_of : {A : Type 0} (xs : List A) (x : A) → slice_get xs 0 ≡ Some x → (rest : List A) × (xs ≡ x ∷ rest)
first_of [] x is = absurd cc
first_of (y ∷ xs) x is =
    let same : y ≡ x = cc in
    (xs, ap (λ z. z ∷ xs) same)

none_of : {A : Type 0} (xs : List A) → slice_get xs 0 ≡ None → xs ≡ []
none_of [] is = refl
none_of (y ∷ xs) is = absurd cc

-- a change has the ops of its deed
same_ops_back : (before after : FlatText) (c : Change) → Leads before c after → ops_along Back (record { before = before; deed = deed_of c; after = after }) ≡ ops_by Back c
same_ops_back before after (Ops ops inverse) leads = sym leads.inverse
same_ops_back before after (Endings r) leads =
    ap (λ (t : FlatText). whole_op t.units before.units) (sym leads.kinds.1) ∙ ap (λ (t : FlatText). whole_op r.after t.units) (sym leads.kinds.0)

same_ops_on : (before after : FlatText) (c : Change) → Leads before c after → ops_along On (record { before = before; deed = deed_of c; after = after }) ≡ ops_by On c
same_ops_on before after (Ops ops inverse) leads = refl
same_ops_on before after (Endings r) leads =
    ap (λ (t : FlatText). whole_op t.units after.units) (sym leads.kinds.0) ∙ ap (λ (t : FlatText). whole_op r.before t.units) (sym leads.kinds.1)

-- so the batches of a step are the kept ones
batches_back-kept : (after : FlatText) (cs : List Change) → LeadBack after cs → batches_back (changes_back after cs) ≡ batches_by Back cs
batches_back-kept after [] lead = refl
batches_back-kept after (c ∷ cs) lead =
    let first : FlatChange = record { before = text_back after (c ∷ cs); deed = deed_of c; after = text_back after cs } in
    ap (λ (batches : List (List Op)). batches ++ ops_along Back first ∷ []) (batches_back-kept after cs lead.1)
    ∙ ap (λ (ops : List Op). batches_by Back cs ++ ops ∷ []) (same_ops_back (text_back after (c ∷ cs)) (text_back after cs) c lead.0)

batches_on-kept : (before : FlatText) (cs : List Change) → LeadOn before cs → batches_on (changes_on before cs) ≡ batches_by On cs
batches_on-kept before [] lead = refl
batches_on-kept before (c ∷ cs) lead =
    let after : FlatText = led On c before in
    ap (λ (ops : List Op). ops ∷ batches_on (changes_on after cs)) (same_ops_on before after c lead.0)
    ∙ ap (λ (batches : List (List Op)). ops_by On c ∷ batches) (batches_on-kept after cs lead.1)

-- and so are its edits in turn
all_edits_back-kept : (after : FlatText) (cs : List Change) → LeadBack after cs → all_edits_back (changes_back after cs) ≡ all_edits_along Back cs
all_edits_back-kept after [] lead = refl
all_edits_back-kept after (c ∷ cs) lead =
    let before : FlatText = text_back after (c ∷ cs) in
    let mid : FlatText = text_back after cs in
    ap (λ (edits : List Op). edits ++ edits_back before (deed_of c) mid) (all_edits_back-kept after cs lead.1)
    ∙ ap (λ (edits : List Op). all_edits_along Back cs ++ edits) (same_edits_back before mid c lead.0)

all_edits_on-kept : (before : FlatText) (cs : List Change) → LeadOn before cs → all_edits_on (changes_on before cs) ≡ all_edits_along On cs
all_edits_on-kept before [] lead = refl
all_edits_on-kept before (c ∷ cs) lead =
    let after : FlatText = led On c before in
    ap (λ (edits : List Op). edits ++ all_edits_on (changes_on after cs)) (same_edits_on before after c lead.0)
    ∙ ap (λ (edits : List Op). edits_along On c ++ edits) (all_edits_on-kept after cs lead.1)

-- so many of them on the way on as on the way back
as_many : (before after : FlatText) (c : Change) → Leads before c after → length (ops_by Back c) ≡ length (ops_by On c)
as_many before after c leads = ap length leads.inverse ∙ length-inverse_from 0 0 before.units (ops_by On c)

-- a measure of the ops on a way, such as the units of their texts, is that of the kept ones
measured_back : (measure : List Op → ℕ) (after : FlatText) (cs : List Change) → LeadBack after cs
    → sum_by (λ (change : FlatChange). measure (ops_along Back change)) (changes_back after cs) ≡ sum_by (λ (c : Change). measure (ops_by Back c)) cs
measured_back measure after [] lead = refl
measured_back measure after (c ∷ cs) lead =
    let first : FlatChange = record { before = text_back after (c ∷ cs); deed = deed_of c; after = text_back after cs } in
    let same : measure (ops_along Back first) ≡ measure (ops_by Back c) = ap measure (same_ops_back (text_back after (c ∷ cs)) (text_back after cs) c lead.0) in
    omega (arith, sum_by-cons {X = FlatChange} (λ change. measure (ops_along Back change)) first (changes_back after cs), sum_by-cons {X = Change} (λ d. measure (ops_by Back d)) c cs, same, measured_back measure after cs lead.1)

measured_on : (measure : List Op → ℕ) (before : FlatText) (cs : List Change) → LeadOn before cs
    → sum_by (λ (change : FlatChange). measure (ops_along On change)) (changes_on before cs) ≡ sum_by (λ (c : Change). measure (ops_by On c)) cs
measured_on measure before [] lead = refl
measured_on measure before (c ∷ cs) lead =
    let after : FlatText = led On c before in
    let first : FlatChange = record { before = before; deed = deed_of c; after = after } in
    let same : measure (ops_along On first) ≡ measure (ops_by On c) = ap measure (same_ops_on before after c lead.0) in
    omega (arith, sum_by-cons {X = FlatChange} (λ change. measure (ops_along On change)) first (changes_on after cs), sum_by-cons {X = Change} (λ d. measure (ops_by On d)) c cs, same, measured_on measure after cs lead.1)

-- as many of its ops mark lines on the way back
marking_at_back : (before after : FlatText) (c : Change) → Leads before c after → deed_marking (deed_of c) ≡ marking_ops Back c
marking_at_back before after (Ops ops inverse) leads = sym (as_many before after (Ops ops inverse) leads)
marking_at_back before after (Endings r) leads = refl

marking_at_on : (c : Change) → deed_marking (deed_of c) ≡ marking_ops On c
marking_at_on (Ops ops inverse) = refl
marking_at_on (Endings r) = refl

marking_back : (after : FlatText) (cs : List Change) → LeadBack after cs → sum_by (λ (change : FlatChange). deed_marking change.deed) (changes_back after cs) ≡ marking_count Back cs
marking_back after [] lead = refl
marking_back after (c ∷ cs) lead =
    let first : FlatChange = record { before = text_back after (c ∷ cs); deed = deed_of c; after = text_back after cs } in
    let same = marking_at_back (text_back after (c ∷ cs)) (text_back after cs) c lead.0 in
    omega (arith, sum_by-cons {X = FlatChange} (λ change. deed_marking change.deed) first (changes_back after cs), marking_count-cons Back c cs, same, marking_back after cs lead.1)

marking_on : (before : FlatText) (cs : List Change) → sum_by (λ (change : FlatChange). deed_marking change.deed) (changes_on before cs) ≡ marking_count On cs
marking_on before [] = refl
marking_on before (c ∷ cs) =
    let after : FlatText = led On c before in
    let first : FlatChange = record { before = before; deed = deed_of c; after = after } in
    omega (arith, sum_by-cons {X = FlatChange} (λ change. deed_marking change.deed) first (changes_on after cs), marking_count-cons On c cs, marking_at_on c, marking_on after cs)

-- what a step does that comes next on the way
pub record IsStep (way : Way) (now : FlatText) (version alternative : ℕ) (d : Decorations) (scanner : Scanner) (shelf : FlatShelf) (latest : Option Latest) (s : Stack Change) (step : Step Change) : Type 0 where
  pub lead : LeadBy way now step.changes
  pub history : IsHistory (text_by way now step.changes) (passed way s)
  pub accepted : version + 1 ≤ greatest_version
      → flat_move way (document_of now version alternative d scanner shelf latest s) ≡ Ok (Some (document_of (text_by way now step.changes) (version + 1) (alternative_after way step) (decorations_by way d step.changes) scanner shelf (Some (latest_along way)) (passed way s)))
  pub refused : greatest_version < version + 1 → flat_move way (document_of now version alternative d scanner shelf latest s) ≡ Err limit
  pub some : 0 < length (next_steps way s)
  pub there : 0 < length (latest_steps (latest_along way) (passed way s))
  pub next : 0 < length (next_steps way (history_of now s))
  pub edits : next_edit_count way (next_steps way (history_of now s)) ≡ edit_count_along way step.changes
  pub marking : next_marking_count (next_steps way (history_of now s)) ≡ marking_count way step.changes
  pub units : next_unit_count way (next_steps way (history_of now s)) ≡ unit_count way step.changes
  pub breaks : next_break_count way (next_steps way (history_of now s)) ≡ breaks_along way step.changes
  pub marks : (ms : List Mark) → marked_step way ms (next_steps way (history_of now s)) ≡ marked_along way ms (changes_by way now step.changes)

undo_first : (now : FlatText) (version alternative : ℕ) (d : Decorations) (scanner : Scanner) (shelf : FlatShelf) (latest : Option Latest) (step : Step Change) (rest redo : List (Step Change)) (is_open : Bool)
    → IsHistory now (record { undo = step ∷ rest; redo = redo; is_open = is_open })
    → IsStep Back now version alternative d scanner shelf latest (record { undo = step ∷ rest; redo = redo; is_open = is_open }) step
undo_first now version alternative d scanner shelf latest step rest redo is_open old =
    record {
      lead = old.back.0;
      history = IsHistory-undone rest redo step now old.back old.on;
      accepted = λ few. rw (lt-leb greatest_version version (omega (arith, few)), text_before-back step.changes now, carried_back-kept d now step.changes old.back.0, batches_back-kept now step.changes old.back.0, all_edits_back-kept now step.changes old.back.0, sym (last-undone rest redo step now old.back.0), sym (history-undone rest redo step now old.back.0)) refl;
      refused = λ last. rw (le-leb greatest_version version (omega (arith, last))) refl;
      some = omega arith;
      there = omega arith;
      next = omega arith;
      edits = measured_back edit_count now step.changes old.back.0;
      marking = marking_back now step.changes old.back.0;
      units = measured_back text_units now step.changes old.back.0;
      breaks = measured_back text_breaks now step.changes old.back.0;
      marks = λ ms. refl;
    }

redo_first : (now : FlatText) (version alternative : ℕ) (d : Decorations) (scanner : Scanner) (shelf : FlatShelf) (latest : Option Latest) (step : Step Change) (undo rest : List (Step Change)) (is_open : Bool)
    → IsHistory now (record { undo = undo; redo = step ∷ rest; is_open = is_open })
    → IsStep On now version alternative d scanner shelf latest (record { undo = undo; redo = step ∷ rest; is_open = is_open }) step
redo_first now version alternative d scanner shelf latest step undo rest is_open old =
    record {
      lead = old.on.0;
      history = IsHistory-redone undo rest step is_open now old.back old.on;
      accepted = λ few. rw (lt-leb greatest_version version (omega (arith, few)), text_after-on step.changes now, carried_on-kept d now step.changes old.on.0, batches_on-kept now step.changes old.on.0, all_edits_on-kept now step.changes old.on.0, sym (last-redone undo rest step is_open now old.on.0), sym (history-redone undo rest step is_open now old.on.0)) refl;
      refused = λ last. rw (le-leb greatest_version version (omega (arith, last))) refl;
      some = omega arith;
      there = omega arith;
      next = omega arith;
      edits = measured_on edit_count now step.changes old.on.0;
      marking = marking_on now step.changes;
      units = measured_on text_units now step.changes old.on.0;
      breaks = measured_on text_breaks now step.changes old.on.0;
      marks = λ ms. refl;
    }

pub step_on : (way : Way) (now : FlatText) (version alternative : ℕ) (d : Decorations) (scanner : Scanner) (shelf : FlatShelf) (latest : Option Latest) (s : Stack Change) (step : Step Change)
    → slice_get (next_steps way s) 0 ≡ Some step → IsHistory now s → IsStep way now version alternative d scanner shelf latest s step
step_on Back now version alternative d scanner shelf latest s step next old =
    let split = first_of s.undo step next in
    subst (λ u. IsHistory now (record { undo = u; redo = s.redo; is_open = s.is_open }) → IsStep Back now version alternative d scanner shelf latest (record { undo = u; redo = s.redo; is_open = s.is_open }) step)
    (sym split.1) (undo_first now version alternative d scanner shelf latest step split.0 s.redo s.is_open) old
step_on On now version alternative d scanner shelf latest s step next old =
    let split = first_of s.redo step next in
    subst (λ u. IsHistory now (record { undo = s.undo; redo = u; is_open = s.is_open }) → IsStep On now version alternative d scanner shelf latest (record { undo = s.undo; redo = u; is_open = s.is_open }) step)
    (sym split.1) (redo_first now version alternative d scanner shelf latest step s.undo split.0 s.is_open) old

pub no_next_on : (way : Way) (now : FlatText) (s : Stack Change) → slice_get (next_steps way s) 0 ≡ None → next_steps way (history_of now s) ≡ []
no_next_on Back now s none = rw (none_of s.undo none) refl
no_next_on On now s none = rw (none_of s.redo none) refl

next_of_undo : (now : FlatText) (ss : List (Step Change)) → is_some (slice_get (undo_steps now ss) 0) ≡ is_some (slice_get ss 0)
next_of_undo now [] = refl
next_of_undo now (s ∷ ss) = refl

next_of_redo : (now : FlatText) (ss : List (Step Change)) → is_some (slice_get (redo_steps now ss) 0) ≡ is_some (slice_get ss 0)
next_of_redo now [] = refl
next_of_redo now (s ∷ ss) = refl

-- a step comes next where one is kept
pub next_on : (way : Way) (now : FlatText) (s : Stack Change) → is_some (slice_get (next_steps way (history_of now s)) 0) ≡ is_some (slice_get (next_steps way s) 0)
next_on Back now s = next_of_undo now s.undo
next_on On now s = next_of_redo now s.redo

pub mapped_twice : {A B C : Type 0} (f : B → C) (g : A → B) (o : Option A) → is_some (option_map f (option_map g o)) ≡ is_some o
mapped_twice f g None = refl
mapped_twice f g (Some x) = refl

pub IsPairedState-by : (way : Way) (result : Result Bool ModelError) (old new : FlatState) → Moves result old new (flat_move way old) → IsPairedState old → IsPairedState new
IsPairedState-by Back result old new done paired = IsPairedState-undo result old new done paired
IsPairedState-by On result old new done paired = IsPairedState-redo result old new done paired

-- The last change, as it is kept when a change is pushed and when a step is undone or redone.
use Rattle.std.proofs.Common.{◌≡◌, ℕ, suc, ◌<◌, ◌-◌, ◌≤◌, Bool, true, false, List, [], ◌∷◌, ◌++◌, length, drop, slice_get, Option, Some, None, refl, ap, sym, ◌∙◌, append-nil, arith}
use Rattle.std.specs.Option.{option_map}
use Rattle.text_rules.specs.declared.Op.{Op}
use Rattle.undo_rules.specs.Stack.{Step, Stack, joined, undone_lists, redone_lists}
use Rattle.document_rules.specs.Document.{FlatText, LastChange, edits_of}
use Rattle.model_page.specs.declared.change.Change.{Change}
use Rattle.model_page.specs.declared.change.Change.TheVariants.{Ops, Endings}
use Rattle.model_page.specs.declared.change.Way.TheVariants.{Back, On}
use Rattle.model_page.specs.Changes.{ops_by, led, text_back, text_on, Leads, LeadBack, LeadOn}
use Rattle.model_page.specs.InTurn.{edits_along, all_edits_along}
use Rattle.model_page.specs.Ways.{batches_by, rest_on}
use Rattle.model_page.proofs.Turns.{leads_back}
use Rattle.model_core.specs.declared.latest.Latest.{Latest}
use Rattle.model_core.specs.declared.latest.Latest.TheVariants.{Made, TakenBack, MadeAgain}
use Rattle.model_core.specs.History.{kept_with, way_to, last_made, last_in, last_of, last_of_steps, latest_steps, HasLatest}
use Rattle.model_core.specs.Ways.{next_steps}
use Rattle.model_core.proofs.Histories.{text_on-back, text_back-on}

-- these batches, which are these edits in turn, led here from the text
abbrev pub led_from : FlatText → List (List Op) → List Op → Option LastChange
led_from before batches edits = Some (record { before = before.units; batches = batches; edits = edits })

-- that of one change that was made
abbrev led_by : FlatText → Change → Option LastChange
led_by before c = led_from before (ops_by On c ∷ []) (edits_along On c)

-- ---- a change that is pushed

last_made-more : (cs : List Change) (c : Change) (now : FlatText) → last_made now (cs ++ c ∷ []) ≡ led_by (led Back c now) c
last_made-more [] c now = refl
last_made-more (d ∷ []) c now = refl
last_made-more (d ∷ e ∷ cs) c now = last_made-more (e ∷ cs) c now

last-joined : (is_open : Bool) (ss : List (Step Change)) (c : Change) (now : FlatText) (a b : ℕ)
    → last_of_steps Made now (joined is_open ss c a b) ≡ led_by (led Back c now) c
last-joined true [] c now a b = refl
last-joined true (s ∷ ss) c now a b = last_made-more s.changes c now
last-joined false ss c now a b = refl

pub last-kept : (s : Stack Change) (c : Change) (before after : FlatText) (a b : ℕ) → Leads before c after
    → last_of (Some Made) after (kept_with s c a b) ≡ led_from before (ops_by On c ∷ []) (edits_along On c)
last-kept s (Ops ops inverse) before after a b leads =
    last-joined s.is_open s.undo (Ops ops inverse) after a b ∙ ap (λ (t : FlatText). led_by t (Ops ops inverse)) (leads_back before after (Ops ops inverse) leads)
last-kept s (Endings r) before after a b leads =
    ap (λ (t : FlatText). led_by t (Endings r)) (leads_back before after (Endings r) leads)

some-joined : (is_open : Bool) (ss : List (Step Change)) (c : Change) (a b : ℕ) → 0 < length (joined is_open ss c a b)
some-joined true [] c a b = omega arith
some-joined true (s ∷ ss) c a b = omega arith
some-joined false ss c a b = omega arith

some-kept : (s : Stack Change) (c : Change) (a b : ℕ) → 0 < length (kept_with s c a b).undo
some-kept s (Ops ops inverse) a b = some-joined s.is_open s.undo (Ops ops inverse) a b
some-kept s (Endings r) a b = omega arith

pub from_one : (latest : Option Latest) (version : ℕ) (s : Stack Change) → HasLatest latest version s → 1 ≤ version
from_one None version s has = omega arith
from_one (Some latest) version s has = omega (arith, has.0)

pub HasLatest-kept : (s : Stack Change) (c : Change) (a b version : ℕ) → 1 < version → HasLatest (Some Made) version (kept_with s c a b)
HasLatest-kept s c a b version later = (later, some-kept s c a b)

-- ---- a step that is undone or redone

pub last-undone : (undo redo : List (Step Change)) (step : Step Change) (now : FlatText) → LeadBack now step.changes
    → last_of (Some TakenBack) (text_back now step.changes) (undone_lists (step ∷ undo) redo) ≡ led_from now (batches_by Back step.changes) (all_edits_along Back step.changes)
last-undone undo redo step now lead =
    ap (λ (t : FlatText). led_from t (batches_by Back step.changes) (all_edits_along Back step.changes)) (text_on-back step.changes now lead)

pub last-redone : (undo redo : List (Step Change)) (step : Step Change) (is_open : Bool) (now : FlatText) → LeadOn now step.changes
    → last_of (Some MadeAgain) (text_on now step.changes) (redone_lists undo (step ∷ redo) is_open) ≡ led_from now (batches_by On step.changes) (all_edits_along On step.changes)
last-redone undo redo step is_open now lead =
    ap (λ (t : FlatText). led_from t (batches_by On step.changes) (all_edits_along On step.changes)) (text_back-on step.changes now lead)

-- ---- its step, its batches and its edits

next_steps-latest : (latest : Latest) (s : Stack Change) → next_steps (way_to latest) s ≡ latest_steps latest s
next_steps-latest Made s = refl
next_steps-latest TakenBack s = refl
next_steps-latest MadeAgain s = refl

last_of_first : (latest : Latest) (now : FlatText) (ss : List (Step Change)) (step : Step Change) → slice_get ss 0 ≡ Some step
    → last_of_steps latest now ss ≡ last_in latest now step.changes
last_of_first latest now [] step is = absurd cc
last_of_first latest now (s ∷ ss) step is =
    let same : s ≡ step = cc in
    ap (λ (t : Step Change). last_in latest now t.changes) same

last_of_next : (latest : Latest) (now : FlatText) (s : Stack Change) (step : Step Change) → slice_get (next_steps (way_to latest) s) 0 ≡ Some step
    → last_of (Some latest) now s ≡ last_in latest now step.changes
last_of_next latest now s step is =
    last_of_first latest now (latest_steps latest s) step (ap (λ (ss : List (Step Change)). slice_get ss 0) (sym (next_steps-latest latest s)) ∙ is)

last_made_at : (cs : List Change) (c : Change) (now : FlatText) → slice_get cs (length cs - 1) ≡ Some c
    → last_made now cs ≡ led_by (led Back c now) c
last_made_at [] c now is = absurd cc
last_made_at (d ∷ []) c now is =
    let same : d ≡ c = cc in
    ap (λ (x : Change). led_by (led Back x now) x) same
last_made_at (d ∷ e ∷ cs) c now is =
    let at : length (d ∷ e ∷ cs) - 1 ≡ suc (length (e ∷ cs) - 1) = omega arith in
    last_made_at (e ∷ cs) c now (ap (slice_get (d ∷ e ∷ cs)) (sym at) ∙ is)

pub batches_made : (latest : Latest) (now : FlatText) (s : Stack Change) (step : Step Change) (c : Change) → latest ≡ Made
    → slice_get (next_steps (way_to latest) s) 0 ≡ Some step → slice_get step.changes (length step.changes - 1) ≡ Some c
    → option_map (λ (last : LastChange). last.batches) (last_of (Some latest) now s) ≡ Some (ops_by On c ∷ [])
batches_made latest now s step c made is at =
    let last : last_of (Some latest) now s ≡ led_by (led Back c now) c =
    last_of_next latest now s step is ∙ ap (λ (l : Latest). last_in l now step.changes) made ∙ last_made_at step.changes c now at in
    ap (option_map (λ (l : LastChange). l.batches)) last

edits_of_made : (now : FlatText) (cs : List Change) → edits_of (last_made now cs) ≡ all_edits_along On (rest_on On (length cs - 1) cs)
edits_of_made now [] = refl
edits_of_made now (c ∷ []) = sym (append-nil (edits_along On c))
edits_of_made now (c ∷ d ∷ cs) =
    let at : length (c ∷ d ∷ cs) - 1 ≡ suc (length (d ∷ cs) - 1) = omega arith in
    edits_of_made now (d ∷ cs) ∙ ap (λ (k : ℕ). all_edits_along On (drop k (c ∷ d ∷ cs))) (sym at)

-- the edits of the step, of which the last change alone was made
pub edits_made : (latest : Latest) (now : FlatText) (s : Stack Change) (step : Step Change) → latest ≡ Made
    → slice_get (next_steps (way_to latest) s) 0 ≡ Some step
    → edits_of (last_of (Some latest) now s) ≡ all_edits_along On (rest_on On (length step.changes - 1) step.changes)
edits_made latest now s step made is =
    ap edits_of (last_of_next latest now s step is ∙ ap (λ (l : Latest). last_in l now step.changes) made) ∙ edits_of_made now step.changes

-- No call brings a lone surrogate into a document that has none, if the texts passed to it have none.
use Rattle.std.proofs.Common.{◌≡◌, ℕ, ◌+◌, ◌<◌, ◌&&◌, ◌||◌, not, map, take, drop, reverse, filter, find, option_map, arith, Bool, true, false, nat_lt, nat_le, if◌then◌else◌, List, [], ◌∷◌, ◌++◌, length, Option, Some, None, IfSome, Result, Ok, Err, refl, ap, sym, subst}
use Rattle.std.specs.Prelude.{⊤, All}
use Rattle.std.proofs.lemmas.Bool.{eqb-true, ne_eqb, leb-false}
use Rattle.std.proofs.lemmas.List.{drop_all, reverse-append}
use Rattle.std.proofs.lemmas.List.Elements.{All-nil, All-cons, All-head, All-tail, All-push, All-append, All-take, All-drop, All-filter}
use Rattle.std.specs.Char.Utf16.{utf16_chars}
use Rattle.unit_text.specs.declared.kind.Kind.{Kind}
use Rattle.unit_text.specs.Units.{cuts_pair, IsPaired}
use Rattle.unit_text.specs.Kinds.{normalized}
use Rattle.unit_text.proofs.Paired.{IsPaired-cut}
use Rattle.text_rules.specs.declared.Op.{Op}
use Rattle.batch_rules.specs.Refusals.{BatchRefusal}
use Rattle.batch_rules.specs.Batches.{most_units, checked_batch, ops_in, applied_from}
use Rattle.batch_rules.proofs.Order.{All-sorted_ops}
use Rattle.batch_rules.proofs.Pairs.{HasPairedText, IsPaired-applied}
use Rattle.batch_rules.proofs.Standing.{accepted}
use Rattle.hiding_rules.specs.Hidden.{Scanner}
use Rattle.decoration_rules.specs.Refusals.{DecoRefusal}
use Rattle.decoration_rules.specs.declared.NewDeco.{NewDeco}
use Rattle.decoration_rules.specs.Decorations.{Decorations, decorated}
use Rattle.undo_rules.specs.declared.Tag.{Tag}
use Rattle.undo_rules.specs.Tags.{has_tag, without_tag, tagged_front, is_member, passes, all_steps, tagged_count, untagged_last}
use Rattle.undo_rules.specs.Stack.{Step, Stack, joined, new_step, undone_lists, redone_lists, undone, redone}
use Rattle.snapshot_rules.specs.Refusals.{ShelfRefusal}
use Rattle.snapshot_rules.specs.Snapshots.{Snapshot, FlatShelf, IsRising, IsSound, empty_shelf, has_id, skipped, front, is_full, is_open, flat_take, flat_close}
use Rattle.document_rules.proofs.PairedEndings.{IsPaired-normalized, paired_texts_in}
use Rattle.document_rules.specs.declared.ModelError.{ModelError}
use Rattle.document_rules.specs.Refusals.{FlatRefusal, limit}
use Rattle.document_rules.specs.Document.{greatest_version, FlatText, Deed, batch, recast, FlatChange, FlatState, new_document, flat_open, text_now, after_deed, after_batch, edited_by, flat_edit, is_same_kind, recast_to, carried_to, after_recast, flat_eol, carried_by, flat_stop, flat_tag, flat_untag, flat_untag_last, text_before, text_after, carried_back, carried_on, batches_back, batches_on, all_edits_back, all_edits_on, returned, undone_step, flat_undo, redone_step, flat_redo, with_decorations, flat_decorate}
use Rattle.document_rules.specs.Outcomes.{Changes, ChangesWith, Moves}
use Rattle.document_rules.specs.Snapshots.{with_shelf, flat_snapshot, flat_skipped, flat_close_of, EndsBesidePairs}
use Rattle.document_rules.specs.Paired.{IsPairedDeed, IsPairedChange, ArePairedSteps, IsPairedShelf, IsPairedState}

abbrev IsPairedStep : Step FlatChange → Type 0
IsPairedStep step = All IsPairedChange step.changes

abbrev HasPairedRest : Snapshot → Type 0
HasPairedRest snapshot = IsPaired snapshot.rest

-- ---- lists of steps

pub no_steps : ArePairedSteps []
no_steps = All-nil IsPairedStep

paired_joined : (is_open : Bool) (steps : List (Step FlatChange)) (change : FlatChange) (before after : ℕ) → ArePairedSteps steps → IsPairedChange change
    → ArePairedSteps (joined is_open steps change before after)
paired_joined true (step ∷ steps) change before after kept h =
    All-cons IsPairedStep (record step { changes = step.changes ++ change ∷ []; alt_after = after }) steps
    (All-push IsPairedChange step.changes change (All-head IsPairedStep step steps kept) h) (All-tail IsPairedStep step steps kept)
paired_joined true [] change before after kept h =
    All-cons IsPairedStep (new_step change before after) [] (All-cons IsPairedChange change [] h (All-nil IsPairedChange)) (All-nil IsPairedStep)
paired_joined false steps change before after kept h =
    All-cons IsPairedStep (new_step change before after) steps (All-cons IsPairedChange change [] h (All-nil IsPairedChange)) kept

pub record IsPairedHistory (s : Stack FlatChange) : Type 0 where
  pub undo : ArePairedSteps s.undo
  pub redo : ArePairedSteps s.redo

paired_undone : (undo redo : List (Step FlatChange)) → ArePairedSteps undo → ArePairedSteps redo → IsPairedHistory (undone_lists undo redo)
paired_undone [] redo h k = record { undo = h; redo = k }
paired_undone (step ∷ steps) redo h k =
    record { undo = All-tail IsPairedStep step steps h; redo = All-cons IsPairedStep step redo (All-head IsPairedStep step steps h) k }

paired_redone : (undo redo : List (Step FlatChange)) (is_open : Bool) → ArePairedSteps undo → ArePairedSteps redo → IsPairedHistory (redone_lists undo redo is_open)
paired_redone undo [] is_open h k = record { undo = h; redo = k }
paired_redone undo (step ∷ steps) is_open h k =
    record { undo = All-cons IsPairedStep step undo (All-head IsPairedStep step steps k) h; redo = All-tail IsPairedStep step steps k }

paired_front : (tag : Tag) (steps : List (Step FlatChange)) → ArePairedSteps steps → ArePairedSteps (tagged_front steps tag)
paired_front tag [] kept = kept
paired_front tag (step ∷ steps) kept =
    All-cons IsPairedStep (record step { tag = Some tag }) steps (All-head IsPairedStep step steps kept) (All-tail IsPairedStep step steps kept)

paired_reverse : (steps : List (Step FlatChange)) → ArePairedSteps steps → ArePairedSteps (reverse steps)
paired_reverse [] kept = kept
paired_reverse (step ∷ steps) kept =
    subst ArePairedSteps (sym (reverse-append (step ∷ []) steps))
    (All-push IsPairedStep (reverse steps) step (paired_reverse steps (All-tail IsPairedStep step steps kept)) (All-head IsPairedStep step steps kept))

paired_without : (is_it : Bool) (step : Step FlatChange) → IsPairedStep step → IsPairedStep (if is_it then record step { tag = None } else step)
paired_without true step h = h
paired_without false step h = h

paired_untagged : (tag : Tag) (steps : List (Step FlatChange)) → ArePairedSteps steps → ArePairedSteps (map (without_tag tag) steps)
paired_untagged tag [] kept = kept
paired_untagged tag (step ∷ steps) kept =
    All-cons IsPairedStep (without_tag tag step) (map (without_tag tag) steps)
    (paired_without (has_tag tag step) step (All-head IsPairedStep step steps kept)) (paired_untagged tag steps (All-tail IsPairedStep step steps kept))

paired_untagged_last : (n c : ℕ) (steps : List (Step FlatChange)) → ArePairedSteps steps → ArePairedSteps (untagged_last n c steps)
paired_untagged_last n c [] kept = kept
paired_untagged_last n c (step ∷ steps) kept =
    let is_last = passes (is_member n) step.tag && nat_lt (tagged_count n steps) c in
    All-cons IsPairedStep (if is_last then record step { tag = None } else step) (untagged_last n c steps)
    (paired_without is_last step (All-head IsPairedStep step steps kept)) (paired_untagged_last n c steps (All-tail IsPairedStep step steps kept))

paired_before : (now : FlatText) (changes : List FlatChange) → IsPaired now.units → All IsPairedChange changes → IsPaired (text_before now changes).units
paired_before now [] h kept = h
paired_before now (change ∷ changes) h kept = (All-head IsPairedChange change changes kept).before

paired_after : (now : FlatText) (changes : List FlatChange) → IsPaired now.units → All IsPairedChange changes → IsPaired (text_after now changes).units
paired_after now [] h kept = h
paired_after now (change ∷ changes) h kept =
    paired_after change.after changes (All-head IsPairedChange change changes kept).after (All-tail IsPairedChange change changes kept)

-- ---- the shelf

pub no_snapshots : IsPairedShelf empty_shelf
no_snapshots = All-nil HasPairedRest

paired_taken : (is_full : Bool) (shelf g : FlatShelf) (units : List ℕ) (why : ShelfRefusal)
    → (if is_full then Err why else Ok (record {
      snapshots = shelf.snapshots ++ record { id = shelf.next_id; rest = units } ∷ [];
      next_id = shelf.next_id + 1;
    })) ≡ Ok g
    → IsPaired units → IsPairedShelf shelf → IsPairedShelf g
paired_taken true shelf g units why done h kept = absurd cc
paired_taken false shelf g units why done h kept =
    let is : record { snapshots = shelf.snapshots ++ record { id = shelf.next_id; rest = units } ∷ []; next_id = shelf.next_id + 1 } ≡ g = cc in
    subst IsPairedShelf is (All-push HasPairedRest shelf.snapshots (record { id = shelf.next_id; rest = units }) kept h)

paired_closed : (is_there : Bool) (shelf g : FlatShelf) (id : ℕ) (why : ShelfRefusal)
    → (if is_there then Ok (record shelf { snapshots = filter (λ snapshot. not (has_id id snapshot)) shelf.snapshots }) else Err why) ≡ Ok g
    → IsPairedShelf shelf → IsPairedShelf g
paired_closed false shelf g id why done kept = absurd cc
paired_closed true shelf g id why done kept =
    let is : record shelf { snapshots = filter (λ snapshot. not (has_id id snapshot)) shelf.snapshots } ≡ g = cc in
    subst IsPairedShelf is (All-filter (λ snapshot. not (has_id id snapshot)) HasPairedRest shelf.snapshots kept)

front_taken : (is_few : Bool) (count : ℕ) (rest units : List ℕ) (why : ShelfRefusal) → (if is_few then Err why else Ok (front count rest)) ≡ Ok units
    → front count rest ≡ units
front_taken true count rest units why e = absurd cc
front_taken false count rest units why e = cc

skipped_by : (t : Bool) (id n : ℕ) (x : Snapshot) → has_id id x ≡ t → skipped id n x ≡ (if t then record x { rest = drop n x.rest } else x)
skipped_by t id n x e = ap (λ b. if b then record x { rest = drop n x.rest } else x) e

-- snapshots of other ids stay
paired_others : (id n own : ℕ) (xs : List Snapshot) → own ≡ id → All (λ (later : Snapshot). own < later.id) xs → All HasPairedRest xs
    → All HasPairedRest (map (skipped id n) xs)
paired_others id n own [] same above kept = kept
paired_others id n own (x ∷ xs) same above kept =
    let more : own < x.id = All-head (λ (later : Snapshot). own < later.id) x xs above in
    let other : has_id id x ≡ false = ne_eqb x.id id (λ e. omega (arith, more, same, e)) in
    All-cons HasPairedRest (skipped id n x) (map (skipped id n) xs)
    (subst HasPairedRest (sym (skipped_by false id n x other)) (All-head HasPairedRest x xs kept))
    (paired_others id n own xs same (All-tail (λ (later : Snapshot). own < later.id) x xs above) (All-tail HasPairedRest x xs kept))

-- the rest of a text without lone surrogates behind n units that do not end inside a pair
paired_behind : (x : List ℕ) (n : ℕ) → cuts_pair x n ≡ false → IsPaired x → IsPaired (drop n x)
paired_behind x n whole h = by (nat_le n (length x)) refl
  where
    by : (within : Bool) → nat_le n (length x) ≡ within → IsPaired (drop n x)
    by true e = (IsPaired-cut x n (rw (e, whole) refl) h).1
    by false e = subst IsPaired (sym (drop_all n x (omega (arith, leb-false n (length x) e)))) (unfold utf16_chars in refl)

paired_skipped-by : (t : Bool) (id n : ℕ) (x : Snapshot) (xs : List Snapshot) → has_id id x ≡ t → IsRising (x ∷ xs)
    → All HasPairedRest (x ∷ xs) → IfSome (option_map (λ (s : Snapshot). s.rest) (find (has_id id) (x ∷ xs))) (λ rest. cuts_pair rest n ≡ false)
    → (IfSome (option_map (λ (s : Snapshot). s.rest) (find (has_id id) xs)) (λ rest. cuts_pair rest n ≡ false) → All HasPairedRest (map (skipped id n) xs))
    → All HasPairedRest (map (skipped id n) (x ∷ xs))
paired_skipped-by true id n x xs e rising kept whole later =
    let rest : IsPaired (drop n x.rest) = paired_behind x.rest n (rw e at whole) (All-head HasPairedRest x xs kept) in
    All-cons HasPairedRest (skipped id n x) (map (skipped id n) xs)
    (subst HasPairedRest (sym (skipped_by true id n x e)) rest)
    (paired_others id n x.id xs (eqb-true x.id id e) rising.0 (All-tail HasPairedRest x xs kept))
paired_skipped-by false id n x xs e rising kept whole later =
    All-cons HasPairedRest (skipped id n x) (map (skipped id n) xs)
    (subst HasPairedRest (sym (skipped_by false id n x e)) (All-head HasPairedRest x xs kept)) (later (rw e at whole))

paired_skipped : (id n : ℕ) (xs : List Snapshot) → IsRising xs → All HasPairedRest xs
    → IfSome (option_map (λ (s : Snapshot). s.rest) (find (has_id id) xs)) (λ rest. cuts_pair rest n ≡ false)
    → All HasPairedRest (map (skipped id n) xs)
paired_skipped id n [] rising kept whole = kept
paired_skipped id n (x ∷ xs) rising kept whole =
    paired_skipped-by (has_id id x) id n x xs refl rising kept whole
    (paired_skipped id n xs rising.1 (All-tail HasPairedRest x xs kept))

-- ---- the rules

accepted_value : (refused : Bool) (new f : FlatState) (e : FlatRefusal) → (if refused then Err e else Ok new) ≡ Ok f → IsPairedState new → IsPairedState f
accepted_value true new f e same h = absurd cc
accepted_value false new f e same h = let is : new ≡ f = cc in subst IsPairedState is h

accepted_move : (refused : Bool) (new f : FlatState) (e : FlatRefusal) → (if refused then Err e else Ok (Some new)) ≡ Ok (Some f) → IsPairedState new → IsPairedState f
accepted_move true new f e same h = absurd cc
accepted_move false new f e same h = let is : new ≡ f = cc in subst IsPairedState is h

pub opened_paired : (text : List ℕ) (scanner : Scanner) (kind : Kind) (f : FlatState) → flat_open text scanner kind ≡ Ok f → IsPaired text → IsPairedState f
opened_paired text scanner kind f e h =
    accepted_value (nat_lt most_units (length (normalized kind text))) (new_document (normalized kind text) scanner kind) f limit e
    (record { units = IsPaired-normalized kind text h; undo = All-nil IsPairedStep; redo = All-nil IsPairedStep; shelf = All-nil HasPairedRest })

after_deed_paired : (f : FlatState) (deed : Deed) (text : FlatText) (d : Decorations) → IsPairedState f → IsPairedDeed deed → IsPaired text.units
    → IsPairedState (after_deed f deed text d)
after_deed_paired f deed text d h texts after = record {
  units = after;
  undo = paired_joined f.history.is_open f.history.undo (record { before = text_now f; deed = deed; after = text }) f.alternative (f.version + 1)
      h.undo (record { before = h.units; deed = texts; after = after });
  redo = All-nil IsPairedStep;
  shelf = h.shelf;
}

after_batch_paired : (f : FlatState) (ops sorted : List Op) → checked_batch f.kind f.units ops ≡ Ok sorted → IsPairedState f → All HasPairedText ops → IsPairedState (after_batch f sorted)
after_batch_paired f ops sorted rule h texts =
    let ok = accepted f.kind f.units (ops_in f.kind ops) sorted rule in
    let in_order : All HasPairedText sorted = rw ok.in_order (All-sorted_ops HasPairedText (ops_in f.kind ops) (paired_texts_in f.kind ops texts)) in
    after_deed_paired f (batch sorted) (record { units = applied_from 0 f.units sorted; kind = f.kind }) (carried_by f.decorations sorted) h in_order
    (IsPaired-applied f.kind f.units sorted ok.standing ok.good in_order h.units)

edited_by_paired : (f g : FlatState) (ops : List Op) (r : Result (List Op) BatchRefusal) → checked_batch f.kind f.units ops ≡ r → edited_by f r ≡ Ok g
    → IsPairedState f → All HasPairedText ops → IsPairedState g
edited_by_paired f g ops (Err e) rule done h texts = absurd cc
edited_by_paired f g ops (Ok sorted) rule done h texts =
    accepted_value (nat_le greatest_version f.version) (after_batch f sorted) g limit done (after_batch_paired f ops sorted rule h texts)

pub edited_paired : (f g : FlatState) (ops : List Op) → flat_edit f ops ≡ Ok g → IsPairedState f → All HasPairedText ops → IsPairedState g
edited_paired f g ops done h texts = edited_by_paired f g ops (checked_batch f.kind f.units ops) refl done h texts

stopped_paired : (f : FlatState) → IsPairedState f → IsPairedState (flat_stop f)
stopped_paired f h = record { units = h.units; undo = h.undo; redo = h.redo; shelf = h.shelf }

pub tagged_paired : (f : FlatState) (tag : Tag) → IsPairedState f → IsPairedState (flat_tag f tag)
tagged_paired f tag h = record { units = h.units; undo = paired_front tag f.history.undo h.undo; redo = h.redo; shelf = h.shelf }

pub untagged_paired : (f : FlatState) (tag : Tag) → IsPairedState f → IsPairedState (flat_untag f tag)
untagged_paired f tag h = record {
  units = h.units;
  undo = paired_untagged tag f.history.undo h.undo;
  redo = paired_untagged tag f.history.redo h.redo;
  shelf = h.shelf;
}

pub untagged_last_paired : (f : FlatState) (n c : ℕ) → IsPairedState f → IsPairedState (flat_untag_last f n c)
untagged_last_paired f n c h =
    let steps = untagged_last n c (all_steps f.history) in
    let done = length f.history.undo in
    let paired = paired_untagged_last n c (all_steps f.history) (All-append IsPairedStep _ _ (paired_reverse f.history.undo h.undo) h.redo) in
    record {
      units = h.units;
      undo = paired_reverse (take done steps) (All-take IsPairedStep done steps paired);
      redo = All-drop IsPairedStep done steps paired;
      shelf = h.shelf;
    }

after_recast_paired : (f : FlatState) (kind : Kind) → IsPairedState f → IsPairedState (after_recast f kind)
after_recast_paired f kind h =
    stopped_paired _ (after_deed_paired (flat_stop f) recast (recast_to kind f.units) (carried_to f.decorations f.units (normalized kind f.units))
    (stopped_paired f h) tt (IsPaired-normalized kind f.units h.units))

recast_paired : (f g : FlatState) (kind : Kind) (same refused : Bool)
    → (if same then Ok None else (if refused then Err limit else Ok (Some (after_recast f kind)))) ≡ Ok (Some g) → IsPairedState f → IsPairedState g
recast_paired f g kind true refused done h = absurd cc
recast_paired f g kind false refused done h = accepted_move refused (after_recast f kind) g limit done (after_recast_paired f kind h)

undone_step_paired : (f g : FlatState) (steps : List (Step FlatChange)) → ArePairedSteps steps → undone_step f steps ≡ Ok (Some g) → IsPairedState f → IsPairedState g
undone_step_paired f g [] kept done h = absurd cc
undone_step_paired f g (step ∷ steps) kept done h =
    let lists = paired_undone f.history.undo f.history.redo h.undo h.redo in
    accepted_move (nat_le greatest_version f.version)
    (returned f (text_before (text_now f) step.changes) step.alt_before (carried_back f.decorations step.changes) (undone f.history)
    (batches_back step.changes) (all_edits_back step.changes)) g limit done
    (record { units = paired_before (text_now f) step.changes h.units (All-head IsPairedStep step steps kept); undo = lists.undo; redo = lists.redo; shelf = h.shelf })

pub undone_paired : (f g : FlatState) → flat_undo f ≡ Ok (Some g) → IsPairedState f → IsPairedState g
undone_paired f g done h = undone_step_paired f g f.history.undo h.undo done h

redone_step_paired : (f g : FlatState) (steps : List (Step FlatChange)) → ArePairedSteps steps → redone_step f steps ≡ Ok (Some g) → IsPairedState f → IsPairedState g
redone_step_paired f g [] kept done h = absurd cc
redone_step_paired f g (step ∷ steps) kept done h =
    let lists = paired_redone f.history.undo f.history.redo f.history.is_open h.undo h.redo in
    accepted_move (nat_le greatest_version f.version)
    (returned f (text_after (text_now f) step.changes) step.alt_after (carried_on f.decorations step.changes) (redone f.history)
    (batches_on step.changes) (all_edits_on step.changes)) g limit done
    (record { units = paired_after (text_now f) step.changes h.units (All-head IsPairedStep step steps kept); undo = lists.undo; redo = lists.redo; shelf = h.shelf })

pub redone_paired : (f g : FlatState) → flat_redo f ≡ Ok (Some g) → IsPairedState f → IsPairedState g
redone_paired f g done h = redone_step_paired f g f.history.redo h.redo done h

-- ---- calls that follow the rules

changed_paired : (result : Result ⊤ ModelError) (old new : FlatState) (rule : Result FlatState FlatRefusal) → Changes result old new rule
    → ((f : FlatState) → rule ≡ Ok f → IsPairedState f) → IsPairedState old → IsPairedState new
changed_paired (Ok x) old new rule done by_rule h = by_rule new done
changed_paired (Err e) old new rule done by_rule h = subst IsPairedState (sym done.0) h

moved_paired : (result : Result Bool ModelError) (old new : FlatState) (rule : Result (Option FlatState) FlatRefusal) → Moves result old new rule
    → ((f : FlatState) → rule ≡ Ok (Some f) → IsPairedState f) → IsPairedState old → IsPairedState new
moved_paired (Ok true) old new rule done by_rule h = by_rule new done
moved_paired (Ok false) old new rule done by_rule h = subst IsPairedState (sym done.1) h
moved_paired (Err e) old new rule done by_rule h = subst IsPairedState (sym done.0) h

pub IsPairedState-open : (result : Result ⊤ ModelError) (old new : FlatState) (text : List ℕ) (scanner : Scanner) (kind : Kind) → Changes result old new (flat_open text scanner kind)
    → IsPaired text → IsPairedState old → IsPairedState new
IsPairedState-open result old new text scanner kind done text_paired =
    changed_paired result old new (flat_open text scanner kind) done (λ f e. opened_paired text scanner kind f e text_paired)

pub IsPairedState-edit : (result : Result ⊤ ModelError) (old new : FlatState) (ops : List Op) → Changes result old new (flat_edit old ops)
    → All HasPairedText ops → IsPairedState old → IsPairedState new
IsPairedState-edit result old new ops done texts h =
    changed_paired result old new (flat_edit old ops) done (λ f e. edited_paired old f ops e h texts) h

pub IsPairedState-undo : (result : Result Bool ModelError) (old new : FlatState) → Moves result old new (flat_undo old) → IsPairedState old → IsPairedState new
IsPairedState-undo result old new done h = moved_paired result old new (flat_undo old) done (λ f e. undone_paired old f e h) h

pub IsPairedState-redo : (result : Result Bool ModelError) (old new : FlatState) → Moves result old new (flat_redo old) → IsPairedState old → IsPairedState new
IsPairedState-redo result old new done h = moved_paired result old new (flat_redo old) done (λ f e. redone_paired old f e h) h

pub IsPairedState-eol : (result : Result Bool ModelError) (old new : FlatState) (kind : Kind) → Moves result old new (flat_eol old kind) → IsPairedState old → IsPairedState new
IsPairedState-eol result old new kind done h =
    moved_paired result old new (flat_eol old kind) done (λ f e. recast_paired old f kind (is_same_kind kind old.kind)
    (nat_lt most_units (length (normalized kind old.units)) || nat_le greatest_version old.version) e h) h

with_decorations_paired : (f g : FlatState) (d : Result Decorations DecoRefusal) → with_decorations f d ≡ Ok g → IsPairedState f → IsPairedState g
with_decorations_paired f g (Err e) done h = absurd cc
with_decorations_paired f g (Ok d) done h =
    let same : record f { decorations = d } ≡ g = cc in
    subst IsPairedState same (record { units = h.units; undo = h.undo; redo = h.redo; shelf = h.shelf })

pub IsPairedState-decorate : (answer : ℕ) (result : Result ℕ ModelError) (old new : FlatState) (owner : ℕ) (remove : List ℕ) (add : List NewDeco)
    → ChangesWith answer result old new (flat_decorate old owner remove add) → IsPairedState old → IsPairedState new
IsPairedState-decorate answer (Ok n) old new owner remove add done h =
    with_decorations_paired old new (decorated old.decorations owner remove add old.kind old.units) done.0 h
IsPairedState-decorate answer (Err e) old new owner remove add done h = subst IsPairedState (sym done.0) h

with_shelf_paired : (f g : FlatState) (r : Result FlatShelf ShelfRefusal) → with_shelf f r ≡ Ok g → ((shelf : FlatShelf) → r ≡ Ok shelf → IsPairedShelf shelf)
    → IsPairedState f → IsPairedState g
with_shelf_paired f g (Err e) done by_rule h = absurd cc
with_shelf_paired f g (Ok shelf) done by_rule h =
    let same : record f { shelf = shelf } ≡ g = cc in
    subst IsPairedState same (record { units = h.units; undo = h.undo; redo = h.redo; shelf = by_rule shelf refl })

pub IsPairedState-snapshot : (answer : ℕ) (result : Result ℕ ModelError) (old new : FlatState) → ChangesWith answer result old new (flat_snapshot old)
    → IsPairedState old → IsPairedState new
IsPairedState-snapshot answer (Ok n) old new done h =
    with_shelf_paired old new (flat_take old.shelf old.units) done.0 (λ shelf e. paired_taken (is_full old.shelf) old.shelf shelf old.units _ e h.units h.shelf) h
IsPairedState-snapshot answer (Err e) old new done h = subst IsPairedState (sym done.0) h

pub IsPairedState-close : (result : Result ⊤ ModelError) (old new : FlatState) (id : ℕ) → Changes result old new (flat_close_of old id)
    → IsPairedState old → IsPairedState new
IsPairedState-close (Ok x) old new id done h =
    with_shelf_paired old new (flat_close old.shelf id) done (λ shelf e. paired_closed (is_open old.shelf id) old.shelf shelf id _ e h.shelf) h
IsPairedState-close (Err e) old new id done h = subst IsPairedState (sym done.0) h

-- a skip of units that do not end inside a pair
pub IsPairedState-skip : (old new : FlatState) (id n : ℕ) → IsSound old.shelf → new ≡ flat_skipped old id n
    → EndsBesidePairs old id n → IsPairedState old → IsPairedState new
IsPairedState-skip old new id n sound is whole h =
    let rest : All HasPairedRest (map (skipped id n) old.shelf.snapshots) = paired_skipped id n old.shelf.snapshots sound.rising h.shelf whole in
    rw is (record { units = h.units; undo = h.undo; redo = h.redo; shelf = rest })

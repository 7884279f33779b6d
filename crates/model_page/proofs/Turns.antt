-- One turn of the walk along the changes of a step on their way.
use Rattle.std.proofs.Common.{◌≡◌, ℕ, suc, ◌+◌, ◌-◌, ◌<◌, ◌≤◌, true, List, [], ◌∷◌, ◌++◌, length, take, drop, get_or, slice_get, Some, refl, ap, sym, subst, ◌∙◌, append_assoc, append-nil, arith}
use Rattle.std.proofs.Math.Seq.{take-suc, drop-cons}
use Rattle.std.proofs.lemmas.List.{take_all, drop_all}
use Rattle.std.proofs.lemmas.Option.{get_or_from_slice_get}
use Rattle.std.specs.List.{All}
use Rattle.std.proofs.lemmas.List.Elements.{All-nil, All-cons}
use Rattle.std.proofs.lemmas.List.Sums.{sum_by-cons, sum_by-append}
use Rattle.text_rules.specs.declared.Op.{Op}
use Rattle.batch_rules.specs.Batches.{most_units, applied_from, text_units, StandFrom, KeepsKind}
use Rattle.batch_rules.proofs.Standing.{text_units_applied, text_units_inverse}
use Rattle.batch_rules.proofs.Inverses.{inverse_stands_from_start, inverse_gives_back}
use Rattle.decoration_rules.specs.Decorations.{Decorations}
use Rattle.document_rules.specs.Document.{FlatText, FlatChange}
use Rattle.mark_rules.specs.declared.Mark.{Mark}
use Rattle.text_batches.specs.Needs.{text_breaks, edit_count}
use Rattle.model_page.specs.declared.change.Change.{Change}
use Rattle.model_page.specs.declared.change.Change.TheVariants.{Ops, Endings}
use Rattle.model_page.specs.declared.change.Way.{Way}
use Rattle.model_page.specs.declared.change.Way.TheVariants.{Back, On}
use Rattle.model_page.specs.Changes.{text_from, ops_by, kind_by, led, deed_of, text_back, changes_back, changes_on, Leads, LeadBack, LeadOn}
use Rattle.model_page.specs.Counts.{edit_count_along, unit_count, breaks_along, marking_ops, marking_count}
use Rattle.model_page.specs.Carrying.{decorations_over, decorations_back}
use Rattle.model_page.specs.InTurn.{edits_along, all_edits_along}
use Rattle.model_page.specs.LineMarks.{marked_backwards, marks_over, marks_taken_back, marks_made_again, marked_back, marked_on}
use Rattle.model_page.specs.Ways.{forces, text_by, changes_by, LeadBy, decorations_by, batches_by, marked_along, place_at, rest_on}

pub edit_count_along-cons : (way : Way) (c : Change) (cs : List Change) → edit_count_along way (c ∷ cs) ≡ edit_count (ops_by way c) + edit_count_along way cs
edit_count_along-cons way c cs = sum_by-cons {X = Change} (λ d. edit_count (ops_by way d)) c cs

unit_count-cons : (way : Way) (c : Change) (cs : List Change) → unit_count way (c ∷ cs) ≡ text_units (ops_by way c) + unit_count way cs
unit_count-cons way c cs = sum_by-cons {X = Change} (λ d. text_units (ops_by way d)) c cs

pub marking_count-cons : (way : Way) (c : Change) (cs : List Change) → marking_count way (c ∷ cs) ≡ marking_ops way c + marking_count way cs
marking_count-cons way c cs = sum_by-cons {X = Change} (λ d. marking_ops way d) c cs

breaks_along-cons : (way : Way) (c : Change) (cs : List Change) → breaks_along way (c ∷ cs) ≡ text_breaks (ops_by way c) + breaks_along way cs
breaks_along-cons way c cs = sum_by-cons {X = Change} (λ d. text_breaks (ops_by way d)) c cs

-- the new text is what the ops make of the old one
units_on : (before after : FlatText) (c : Change) → Leads before c after → after.units ≡ applied_from 0 before.units (ops_by On c)
units_on before after c leads = ap (λ (t : FlatText). t.units) leads.on

kind_back : (before after : FlatText) (c : Change) → Leads before c after → kind_by Back c after.kind ≡ before.kind
kind_back before after (Ops ops inverse) leads = ap (λ (t : FlatText). t.kind) leads.on
kind_back before after (Endings r) leads = ap (λ (t : FlatText). t.kind) leads.kinds.0

pub leads_back : (before after : FlatText) (c : Change) → Leads before c after → led Back c after ≡ before
leads_back before after c leads =
    let units : applied_from 0 after.units (ops_by Back c) ≡ before.units =
    rw (units_on before after c leads, leads.inverse) (inverse_gives_back before.units (ops_by On c) leads.standing) in
    rw (units, kind_back before after c leads) refl

-- all line endings are those of the kind on the way
abbrev pub IsKindly : Way → Change → FlatText → Type 0
IsKindly way (Ops ops inverse) now = KeepsKind now.kind now.units (ops_by way (Ops ops inverse))
IsKindly way (Endings r) now = text_from way r ≡ now

-- a change that may be carried out on the text of the moment, with the room that it takes
pub record IsFit (way : Way) (c : Change) (now : FlatText) : Type 0 where
  pub standing : StandFrom 0 now.units (ops_by way c)
  pub fits : length (applied_from 0 now.units (ops_by way c)) ≤ most_units
  pub units : text_units (ops_by way c) ≤ most_units
  pub kinds : IsKindly way c now

kindly_back : (before after : FlatText) (c : Change) → Leads before c after → IsKindly Back c after
kindly_back before after (Ops ops inverse) leads = leads.kinds.1
kindly_back before after (Endings r) leads = leads.kinds.1

kindly_on : (before after : FlatText) (c : Change) → Leads before c after → IsKindly On c before
kindly_on before after (Ops ops inverse) leads = leads.kinds.0
kindly_on before after (Endings r) leads = leads.kinds.0

pub fit_back : (before after : FlatText) (c : Change) → Leads before c after → IsFit Back c after
fit_back before after c leads =
    let back : applied_from 0 after.units (ops_by Back c) ≡ before.units = ap (λ (t : FlatText). t.units) (leads_back before after c leads) in
    record {
      standing = rw (units_on before after c leads, leads.inverse) (inverse_stands_from_start before.units (ops_by On c) leads.standing);
      fits = omega (arith, ap length back, leads.fits_before);
      units = rw leads.inverse (omega (arith, text_units_inverse 0 0 before.units (ops_by On c) leads.standing, leads.fits_before));
      kinds = kindly_back before after c leads;
    }

pub fit_on : (before after : FlatText) (c : Change) → Leads before c after → IsFit On c before
fit_on before after c leads =
    let on = ap length (units_on before after c leads) in
    record {
      standing = leads.standing;
      fits = omega (arith, on, leads.fits_after);
      units = omega (arith, text_units_applied 0 before.units (ops_by On c) leads.standing, on, leads.fits_after);
      kinds = kindly_on before after c leads;
    }

-- ---- the change that comes next on a way

-- one change more at the end

pub text_back-more : (cs : List Change) (c : Change) (after : FlatText) → text_back after (cs ++ c ∷ []) ≡ text_back (led Back c after) cs
text_back-more [] c after = refl
text_back-more (d ∷ cs) c after = ap (led Back d) (text_back-more cs c after)

pub changes_back-more : (cs : List Change) (c : Change) (before after : FlatText) → led Back c after ≡ before
    → changes_back after (cs ++ c ∷ []) ≡ changes_back before cs ++ record { before = before; deed = deed_of c; after = after } ∷ []
changes_back-more [] c before after back = ap (λ x. record { before = x; deed = deed_of c; after = after } ∷ []) back
changes_back-more (d ∷ cs) c before after back =
    let there : text_back after (cs ++ c ∷ []) ≡ text_back before cs = text_back-more cs c after ∙ ap (λ x. text_back x cs) back in
    rw (changes_back-more cs c before after back, there) refl

decorations_back-more : (cs : List Change) (c : Change) (d : Decorations)
    → decorations_back d (cs ++ c ∷ []) ≡ decorations_back (decorations_over true Back c d) cs
decorations_back-more [] c d = refl
decorations_back-more (e ∷ cs) c d = ap (decorations_over true Back e) (decorations_back-more cs c d)

marked_back-more : (ms : List Mark) (changes : List FlatChange) (last : FlatChange)
    → marked_back ms (changes ++ last ∷ []) ≡ marked_back (marks_taken_back last.before last.deed last.after ms) changes
marked_back-more ms [] last = refl
marked_back-more ms (change ∷ changes) last =
    ap (marks_taken_back change.before change.deed change.after) (marked_back-more ms changes last)

LeadBack-less : (cs : List Change) (c : Change) (after : FlatText) → LeadBack after (cs ++ c ∷ [])
    → Leads (led Back c after) c after × LeadBack (led Back c after) cs
LeadBack-less [] c after lead = (lead.0, tt)
LeadBack-less (d ∷ cs) c after lead =
    let less = LeadBack-less cs c after lead.1 in
    (less.0, (subst (λ x. Leads (led Back d x) d x) (text_back-more cs c after) lead.0, less.1))

-- lines are marked as the change marks them
pub marks_back : (before after : FlatText) (c : Change) (ms : List Mark) → Leads before c after
    → marks_taken_back before (deed_of c) after ms ≡ marks_over Back c after.units ms
marks_back before after (Ops ops inverse) ms leads = ap (λ (o : List Op). marked_backwards after.units o ms) (sym leads.inverse)
marks_back before after (Endings r) ms leads = refl

pub marks_on : (before : FlatText) (c : Change) (ms : List Mark) → marks_made_again before (deed_of c) ms ≡ marks_over On c before.units ms
marks_on before (Ops ops inverse) ms = refl
marks_on before (Endings r) ms = refl

-- of the changes that are left, this one comes next on the text of the moment, and leaves the rest
pub record IsNext (way : Way) (left : List Change) (c : Change) (rest : List Change) (now : FlatText) : Type 0 where
  pub fit : IsFit way c now
  pub lead : LeadBy way (led way c now) rest
  pub text : text_by way now left ≡ text_by way (led way c now) rest
  pub decorations : (d : Decorations) → decorations_by way d left ≡ decorations_by way (decorations_over (forces way) way c d) rest
  pub marks : (ms : List Mark) → marked_along way ms (changes_by way now left)
      ≡ marked_along way (marks_over way c now.units ms) (changes_by way (led way c now) rest)
  pub edits : edit_count_along way left ≡ edit_count (ops_by way c) + edit_count_along way rest
  pub units : unit_count way left ≡ text_units (ops_by way c) + unit_count way rest
  pub breaks : breaks_along way left ≡ text_breaks (ops_by way c) + breaks_along way rest

next_back : (rest : List Change) (c : Change) (now : FlatText) → LeadBack now (rest ++ c ∷ []) → IsNext Back (rest ++ c ∷ []) c rest now
next_back rest c now lead =
    let before : FlatText = led Back c now in
    let less = LeadBack-less rest c now lead in
    let last : FlatChange = record { before = before; deed = deed_of c; after = now } in
    record {
      fit = fit_back before now c less.0;
      lead = less.1;
      text = text_back-more rest c now;
      decorations = decorations_back-more rest c;
      marks = λ ms.
          ap (marked_back ms) (changes_back-more rest c before now refl) ∙ marked_back-more ms (changes_back before rest) last
          ∙ ap (λ (marks : List Mark). marked_back marks (changes_back before rest)) (marks_back before now c ms less.0);
      edits = omega (arith, sum_by-append {X = Change} (λ d. edit_count (ops_by Back d)) rest (c ∷ []), edit_count_along-cons Back c []);
      units = omega (arith, sum_by-append {X = Change} (λ d. text_units (ops_by Back d)) rest (c ∷ []), unit_count-cons Back c []);
      breaks = omega (arith, sum_by-append {X = Change} (λ d. text_breaks (ops_by Back d)) rest (c ∷ []), breaks_along-cons Back c []);
    }

next_on : (c : Change) (rest : List Change) (now : FlatText) → LeadOn now (c ∷ rest) → IsNext On (c ∷ rest) c rest now
next_on c rest now lead = record {
  fit = fit_on now (led On c now) c lead.0;
  lead = lead.1;
  text = refl;
  decorations = λ d. refl;
  marks = λ ms. ap (λ (marks : List Mark). marked_on marks (changes_on (led On c now) rest)) (marks_on now c ms);
  edits = edit_count_along-cons On c rest;
  units = unit_count-cons On c rest;
  breaks = breaks_along-cons On c rest;
}

-- the changes that are left, after so many others: the one whose turn it is, and the rest
left_back : (cs : List Change) (done : ℕ) (c : Change) → done < length cs → slice_get cs (place_at Back (length cs) done) ≡ Some c
    → rest_on Back done cs ≡ rest_on Back (done + 1) cs ++ c ∷ []
left_back cs done c inside is =
    let at : ℕ = length cs - 1 - done in
    let this : get_or cs at c ≡ c = get_or_from_slice_get cs at c c is in
    let here : length cs - done ≡ suc at = omega arith in
    let next : at ≡ length cs - (done + 1) = omega arith in
    ap (λ (k : ℕ). take k cs) here ∙ take-suc cs at c (omega arith)
    ∙ ap (λ d. take at cs ++ d ∷ []) this ∙ ap (λ (k : ℕ). take k cs ++ c ∷ []) next

left_on : (cs : List Change) (done : ℕ) (c : Change) → done < length cs → slice_get cs done ≡ Some c → rest_on On done cs ≡ c ∷ rest_on On (done + 1) cs
left_on cs done c inside is =
    let this : c ≡ get_or cs done c = sym (get_or_from_slice_get cs done c c is) in
    let next : suc done ≡ done + 1 = omega arith in
    drop-cons cs done c inside ∙ ap (λ d. d ∷ drop (suc done) cs) (sym this) ∙ ap (λ (k : ℕ). c ∷ drop k cs) next

-- the change whose turn it is, after so many others
pub turn_by : (way : Way) (cs : List Change) (done : ℕ) (c : Change) (now : FlatText) → done < length cs
    → slice_get cs (place_at way (length cs) done) ≡ Some c → LeadBy way now (rest_on way done cs)
    → IsNext way (rest_on way done cs) c (rest_on way (done + 1) cs) now
turn_by Back cs done c now inside is lead =
    let cut = left_back cs done c inside is in
    subst (λ left. IsNext Back left c (rest_on Back (done + 1) cs) now) (sym cut)
    (next_back (rest_on Back (done + 1) cs) c now (subst (LeadBack now) cut lead))
turn_by On cs done c now inside is lead =
    let cut = left_on cs done c inside is in
    subst (λ left. IsNext On left c (rest_on On (done + 1) cs) now) (sym cut)
    (next_on c (rest_on On (done + 1) cs) now (subst (LeadOn now) cut lead))

-- its batch comes next
batches_back-more : (cs : List Change) (c : Change) → batches_by Back (cs ++ c ∷ []) ≡ ops_by Back c ∷ batches_by Back cs
batches_back-more [] c = refl
batches_back-more (d ∷ cs) c = ap (λ (batches : List (List Op)). batches ++ ops_by Back d ∷ []) (batches_back-more cs c)

pub batches_left : (way : Way) (cs : List Change) (done : ℕ) (c : Change) → done < length cs
    → slice_get cs (place_at way (length cs) done) ≡ Some c
    → batches_by way (rest_on way done cs) ≡ ops_by way c ∷ batches_by way (rest_on way (done + 1) cs)
batches_left Back cs done c inside is = ap (batches_by Back) (left_back cs done c inside is) ∙ batches_back-more (rest_on Back (done + 1) cs) c
batches_left On cs done c inside is = ap (batches_by On) (left_on cs done c inside is)

-- its edits come next
edits_back-more : (cs : List Change) (c : Change) → all_edits_along Back (cs ++ c ∷ []) ≡ edits_along Back c ++ all_edits_along Back cs
edits_back-more [] c = sym (append-nil (edits_along Back c))
edits_back-more (d ∷ cs) c =
    ap (λ (edits : List Op). edits ++ edits_along Back d) (edits_back-more cs c)
    ∙ append_assoc (edits_along Back c) (all_edits_along Back cs) (edits_along Back d)

pub edits_left : (way : Way) (cs : List Change) (done : ℕ) (c : Change) → done < length cs
    → slice_get cs (place_at way (length cs) done) ≡ Some c
    → all_edits_along way (rest_on way done cs) ≡ edits_along way c ++ all_edits_along way (rest_on way (done + 1) cs)
edits_left Back cs done c inside is = ap (all_edits_along Back) (left_back cs done c inside is) ∙ edits_back-more (rest_on Back (done + 1) cs) c
edits_left On cs done c inside is = ap (all_edits_along On) (left_on cs done c inside is)

-- all are left at first, and none at last
pub all_left : (way : Way) (cs : List Change) → rest_on way 0 cs ≡ cs
all_left Back cs = take_all (length cs - 0) cs (omega arith)
all_left On cs = refl

pub none_left : (way : Way) (cs : List Change) (done : ℕ) → length cs ≤ done → rest_on way done cs ≡ []
none_left Back cs done past =
    let none : length cs - done ≡ 0 = omega arith in
    ap (λ (k : ℕ). take k cs) none
none_left On cs done past = drop_all done cs past

-- each change of a step is fit for its way
few_back : (after : FlatText) (cs : List Change) → LeadBack after cs → All (λ c. text_units (ops_by Back c) ≤ most_units) cs
few_back after [] lead = All-nil (λ c. text_units (ops_by Back c) ≤ most_units)
few_back after (c ∷ cs) lead = All-cons (λ d. text_units (ops_by Back d) ≤ most_units) c cs (fit_back _ _ c lead.0).units (few_back after cs lead.1)

few_on : (before : FlatText) (cs : List Change) → LeadOn before cs → All (λ c. text_units (ops_by On c) ≤ most_units) cs
few_on before [] lead = All-nil (λ c. text_units (ops_by On c) ≤ most_units)
few_on before (c ∷ cs) lead = All-cons (λ d. text_units (ops_by On d) ≤ most_units) c cs (fit_on _ _ c lead.0).units (few_on (led On c before) cs lead.1)

pub few_by : (way : Way) (now : FlatText) (cs : List Change) → LeadBy way now cs → All (λ c. text_units (ops_by way c) ≤ most_units) cs
few_by Back now cs lead = few_back now cs lead
few_by On now cs lead = few_on now cs lead

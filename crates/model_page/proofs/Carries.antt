-- Decorations that move as ops are carried out one by one, and as steps are undone and redone.
use Rattle.std.proofs.Common.{◌≡◌, ℕ, suc, ◌+◌, ◌-◌, ◌^◌, ◌<◌, ◌≤◌, Bool, true, false, List, [], ◌∷◌, ◌++◌, length, map, take, drop, get_or, slice_index_or, Result, Ok, Err, refl, ap, sym, subst, ◌∙◌, arith}
use Rattle.std.specs.List.{All}
use Rattle.std.proofs.Math.Seq.{drop-cons}
use Rattle.std.proofs.lemmas.List.{length-append, length-take-le, length-drop}
use Rattle.unit_text.specs.declared.kind.Kind.{Kind}
use Rattle.text_rules.specs.declared.Op.{Op}
use Rattle.text_rules.specs.Edits.{edited}
use Rattle.decoration_rules.specs.declared.Mark.{Mark}
use Rattle.decoration_rules.specs.declared.NewDeco.{NewDeco}
use Rattle.decoration_rules.specs.declared.DecoError.{DecoError}
use Rattle.decoration_rules.specs.Moves.{offset_limit, moved_mark, LieIn}
use Rattle.decoration_rules.specs.Marks.{in_order, carried}
use Rattle.decoration_rules.specs.Decorations.{Decorations, IsSound, Decorates, decorated}
use Rattle.decoration_rules.proofs.InText.{LieIn-moved, LieIn-decorated, moved_mark-fits}
use Rattle.decoration_rules.proofs.MarkLists.{carried-none, carried-first}
use Rattle.document_rules.specs.Document.{FlatText, edit_of, carried_by, carried_to, taken_back, made_again, carried_back, carried_on}
use Rattle.document_rules.specs.InTurn.{unforced}
use Rattle.model_page.specs.declared.change.Change.{Change}
use Rattle.model_page.specs.Changes.{led, deed_of, text_back, changes_back, changes_on, Leads, LeadBack, LeadOn}
use Rattle.model_page.specs.declared.change.Change.TheVariants.{Ops, Endings}
use Rattle.model_page.specs.Carrying.{edit_with, carried_with, decorations_over, decorations_back, decorations_on, AreIn}
use Rattle.model_page.specs.declared.change.Way.TheVariants.{Back, On}

-- no op moves nothing
pub carried_with-none : (forces : Bool) (d : Decorations) → IsSound d → carried_with forces d [] ≡ d
carried_with-none forces d sound = ap (λ marks. record { marks = marks; next_id = d.next_id }) (carried-none d.marks sound.ordered)

length-edited : (x : List ℕ) (op : Op) → op.span.start ≤ op.span.end → op.span.end ≤ length x → length (edited x op) ≡ length x - (op.span.end - op.span.start) + length op.text
length-edited x op ordered within =
    omega (arith, length-append (take op.span.start x ++ op.text) (drop op.span.end x), length-append (take op.span.start x) op.text, length-take-le op.span.start x (omega arith), length-drop op.span.end x)

-- what the op whose turn it is does to the decorations of the moment
pub record IsCarried (forces : Bool) (first : Decorations) (ops : List Op) (done : ℕ) (op : Op) (now : List ℕ) (d : Decorations) : Type 0 where
  pub fits : All (λ (mark : Mark). (moved_mark (edit_with forces op) mark).span.end < offset_limit) d.marks
  pub leaves : carried_with forces first (drop (length ops - (done + 1)) ops) ≡ record { marks = in_order (map (moved_mark (edit_with forces op)) d.marks); next_id = d.next_id }
  pub inside : LieIn (length (edited now op)) (in_order (map (moved_mark (edit_with forces op)) d.marks))

carried_at : (forces : Bool) (first : Decorations) (ops : List Op) (i done : ℕ) (op : Op) (now : List ℕ) (d : Decorations) → IsSound first → AreIn (length now) d
    → i < length ops → length ops - (done + 1) ≡ i → op ≡ get_or ops i op → d ≡ carried_with forces first (drop (suc i) ops)
    → op.span.start ≤ op.span.end → op.span.end ≤ length now → length (edited now op) < 2 ^ 62 → IsCarried forces first ops done op now d
carried_at forces first ops i done op now d sound are_in inside here is carried_so ordered within small =
    let edit = edit_with forces op in
    let size = length-edited now op ordered within in
    let cut : drop i ops ≡ op ∷ drop (suc i) ops = drop-cons ops i op inside ∙ ap (λ o. o ∷ drop (suc i) ops) (sym is) in
    let marks : d.marks ≡ carried first.marks (map (edit_with forces) (drop (suc i) ops)) = ap (λ (e : Decorations). e.marks) carried_so in
    let next : d.next_id ≡ first.next_id = ap (λ (e : Decorations). e.next_id) carried_so in
    let step = carried-first edit (map (edit_with forces) (drop (suc i) ops)) first.marks sound.distinct in
    record {
      fits = moved_mark-fits edit d.marks (length now) are_in.inside ordered within (omega (arith, size, small));
      leaves = rw (here, cut, step, marks, next) refl;
      inside = rw size (LieIn-moved edit d.marks (length now) are_in.inside ordered within);
    }

pub carried_turn : (forces : Bool) (first : Decorations) (ops : List Op) (done : ℕ) (op : Op) (now : List ℕ) (d : Decorations) → IsSound first → AreIn (length now) d
    → done < length ops → op ≡ slice_index_or ops (length ops - 1 - done) op → d ≡ carried_with forces first (drop (length ops - done) ops)
    → op.span.start ≤ op.span.end → op.span.end ≤ length now → length (edited now op) < 2 ^ 62 → IsCarried forces first ops done op now d
carried_turn forces first ops done op now d sound are_in inside is carried_so ordered within small =
    let next : length ops - done ≡ suc (length ops - 1 - done) = omega arith in
    carried_at forces first ops (length ops - 1 - done) done op now d sound are_in (omega arith) (omega arith) is
    (carried_so ∙ ap (λ (k : ℕ). carried_with forces first (drop k ops)) next) ordered within small

-- Steps, as the flat document tells them.

back_over : (d : Decorations) (before after : FlatText) (c : Change) → Leads before c after
    → taken_back d before (deed_of c) after ≡ decorations_over true Back c d
back_over d before after (Ops ops inverse) leads = ap (carried_by d) (sym leads.inverse)
back_over d before after (Endings r) leads =
    ap (λ (t : FlatText). carried_to d t.units before.units) (sym leads.kinds.1)
    ∙ ap (λ (t : FlatText). carried_to d r.after t.units) (sym leads.kinds.0)

pub carried_back-kept : (d : Decorations) (now : FlatText) (cs : List Change) → LeadBack now cs → carried_back d (changes_back now cs) ≡ decorations_back d cs
carried_back-kept d now [] lead = refl
carried_back-kept d now (c ∷ cs) lead =
    ap (λ e. taken_back e (text_back now (c ∷ cs)) (deed_of c) (text_back now cs)) (carried_back-kept d now cs lead.1)
    ∙ back_over (decorations_back d cs) (text_back now (c ∷ cs)) (text_back now cs) c lead.0

edits-unforced : (ops : List Op) → map edit_of (map unforced ops) ≡ map (edit_with false) ops
edits-unforced [] = refl
edits-unforced (op ∷ ops) = ap (λ es. edit_with false op ∷ es) (edits-unforced ops)

on_over : (d : Decorations) (before after : FlatText) (c : Change) → Leads before c after
    → made_again d before (deed_of c) after ≡ decorations_over false On c d
on_over d before after (Ops ops inverse) leads = ap (λ es. record { marks = carried d.marks es; next_id = d.next_id }) (edits-unforced ops)
on_over d before after (Endings r) leads =
    ap (λ (t : FlatText). carried_to d t.units after.units) (sym leads.kinds.0)
    ∙ ap (λ (t : FlatText). carried_to d r.before t.units) (sym leads.kinds.1)

pub carried_on-kept : (d : Decorations) (now : FlatText) (cs : List Change) → LeadOn now cs → carried_on d (changes_on now cs) ≡ decorations_on d cs
carried_on-kept d now [] lead = refl
carried_on-kept d now (c ∷ cs) lead =
    let after : FlatText = led On c now in
    ap (λ e. carried_on e (changes_on after cs)) (on_over d now after c lead.0)
    ∙ carried_on-kept (decorations_over false On c d) after cs lead.1

-- Decorations that are changed still lie in the text.
pub inside-decorated : (result : Result ℕ DecoError) (old new : Decorations) (owner : ℕ) (remove : List ℕ) (add : List NewDeco) (kind : Kind) (units : List ℕ)
    → Decorates result old new (decorated old owner remove add kind units) → LieIn (length units) old.marks → LieIn (length units) new.marks
inside-decorated (Ok first) old new owner remove add kind units change inside = LieIn-decorated old owner remove add kind units new change.0 inside
inside-decorated (Err e) old new owner remove add kind units change inside = subst (λ (d : Decorations). LieIn (length units) d.marks) (sym change.0) inside

-- A page along the ops of a batch, which are carried out from the last to the first, along the changes of a step, and where there is
-- nothing to parse.
use Rattle.std.proofs.Common.{◌≡◌, ℕ, ◌+◌, ◌-◌, ◌*◌, ◌≤◌, Bool, true, List, [], length, drop, Result, Ok, Err, refl, ap, sym, subst, ◌∙◌, arith}
use Rattle.std.proofs.lemmas.List.{drop_all}
use Rattle.text_rules.specs.declared.Op.{Op}
use Rattle.text_rules.specs.Lines.{lines_of}
use Rattle.batch_rules.specs.Batches.{applied_from, text_units}
use Rattle.chunk_buffers.specs.Chunks.{Extends, unit_count}
use Rattle.chunk_buffers.proofs.Spans.{Extends-refl, Extends-trans}
use Rattle.decoration_rules.specs.Decorations.{Decorations}
use Rattle.mark_rules.specs.declared.Mark.{Mark}
use Rattle.mark_rules.specs.Marks.{has_new}
use Rattle.text_batches.specs.Growth.{HasGrown}
use Rattle.text_batches.specs.Needs.{need_of_ops, edit_count}
use Rattle.model_page.specs.declared.change.Change.{Change}
use Rattle.model_page.specs.declared.change.Way.{Way}
use Rattle.model_page.specs.declared.change.Way.TheVariants.{Back, On}
use Rattle.model_page.specs.Carrying.{carried_with, decorations_over, AreIn}
use Rattle.document_rules.specs.Document.{FlatText}
use Rattle.model_page.specs.declared.change.Change.TheVariants.{Ops, Endings}
use Rattle.model_page.specs.Changes.{ops_by, led}
use Rattle.model_page.specs.Counts.{edit_count_along}
use Rattle.model_page.specs.LineMarks.{marked_backwards, marks_over}
use Rattle.model_page.specs.Needs.{need_along, most_appended}
use Rattle.model_page.specs.Staying.{StaysWith}
use Rattle.model_page.specs.Ways.{forces, text_by, changes_by, LeadBy, decorations_by, marked_along}
use Rattle.model_page.specs.State.{PageState, IsPage, flat_text, CanApply, CanFollow, CanLead, HasRoom, HasSpent, KeepsParse, Renews, is_fresh}
use Rattle.model_page.proofs.Carries.{carried_with-none}
use Rattle.model_page.proofs.Staying.{stays_as, stays_applied, clean_where_fresh, low_where_fresh}
use Rattle.text_batches.proofs.Texts.{IsTextAfter, text_before, text_after}
use Rattle.model_page.proofs.Turns.{IsFit, IsNext}

-- what so many of the ops leave
pub record IsPageAfter (old : PageState) (forces : Bool) (ops : List Op) (done : ℕ) (now : PageState) : Type 0 where
  pub text : IsTextAfter old.text ops done now.text
  pub carried : now.decorations ≡ carried_with forces old.decorations (drop (length ops - done) ops)
  pub inside : AreIn (length now.text.units) now.decorations
  pub marks : now.marks ≡ marked_backwards old.text.units (drop (length ops - done) ops) old.marks
  pub lines : length now.marks ≡ length (lines_of now.text.units)
  pub spare : old.spare ≤ now.spare + edit_count (drop (length ops - done) ops)
  pub appended : unit_count now.text.buffers ≤ unit_count old.text.buffers + (text_units (drop (length ops - done) ops) + 8 * edit_count (drop (length ops - done) ops))
  pub parse : KeepsParse old now

pub page_before : (page : PageState) (forces : Bool) (ops : List Op) → IsPage page → IsPageAfter page forces ops 0 page
page_before page forces ops sound =
    let none : drop (length ops - 0) ops ≡ [] = drop_all (length ops - 0) ops (omega arith) in
    record {
      text = text_before page.text ops;
      carried = sym (ap (carried_with forces page.decorations) none ∙ carried_with-none forces page.decorations sound.inside.sound);
      inside = sound.inside;
      marks = sym (ap (λ o. marked_backwards page.text.units o page.marks) none);
      lines = sound.stays.count;
      spare = omega arith;
      appended = omega (arith, ap text_units none, ap edit_count none);
      parse = record { scanner = refl; parsed = refl; tree = refl; states = refl };
    }

-- what all of them leave
pub record IsApplied (forces : Bool) (ops : List Op) (old new : PageState) : Type 0 where
  pub text : flat_text new.text ≡ record { units = applied_from 0 old.text.units ops; kind = old.text.kind }
  pub decorations : new.decorations ≡ carried_with forces old.decorations ops
  pub marks : new.marks ≡ marked_backwards old.text.units ops old.marks
  pub parse : KeepsParse old new
  pub grown : HasGrown (edit_count ops) old.text new.text
  pub spent : HasSpent (need_of_ops ops) old new

module _ (old now : PageState) (forces : Bool) (ops : List Op) (done : ℕ) (can : CanApply old ops) (past : length ops ≤ done) (within : done ≤ length ops)
    (after : IsPageAfter old forces ops done now) where
  pub page_after : IsApplied forces ops old now
  page_after =
      let all : length ops - done ≡ 0 = omega arith in
      let text = text_after old.text ops now.text done can.standing past within after.text in
      record {
        text = rw (text.0, after.text.kind) refl;
        decorations = after.carried ∙ ap (λ (k : ℕ). carried_with forces old.decorations (drop k ops)) all;
        marks = after.marks ∙ ap (λ (k : ℕ). marked_backwards old.text.units (drop k ops) old.marks) all;
        parse = after.parse;
        grown = text.1;
        spent = record {
          text = text.2;
          marks = omega (arith, after.spare, ap (λ (k : ℕ). edit_count (drop k ops)) all);
          appended = omega (arith, after.appended, ap (λ (k : ℕ). edit_count (drop k ops)) all, ap (λ (k : ℕ). text_units (drop k ops)) all);
        };
      }

  pub still_page : IsPage old → IsPage now
  still_page sound =
      let keeps = can.keeps (length ops - done) in
      let done = page_after in
      let units : now.text.units ≡ applied_from 0 old.text.units ops = ap (λ (t : FlatText). t.units) done.text in
      record {
        endings = rw (after.text.units, after.text.kind) keeps;
        fits = rw units can.fits;
        inside = after.inside;
        stays = subst (λ by. StaysWith now.tree now.marks now.states by now.text.units) (sym done.parse.scanner)
            (stays_as old.tree now.tree (marked_backwards old.text.units ops old.marks) now.marks old.states now.states old.scanner
            (applied_from 0 old.text.units ops) now.text.units done.parse.tree done.marks done.parse.states units
            (stays_applied old.tree old.marks old.states old.scanner old.text.units ops can.standing sound.stays));
      }

-- ---- the changes of a step

-- these are left of the changes on the way
pub record IsOnWay (way : Way) (old : PageState) (cs : List Change) (left : List Change) (now : PageState) : Type 0 where
  pub text : text_by way (flat_text now.text) left ≡ text_by way (flat_text old.text) cs
  pub decorations : decorations_by way now.decorations left ≡ decorations_by way old.decorations cs
  pub marks : marked_along way now.marks (changes_by way (flat_text now.text) left) ≡ marked_along way old.marks (changes_by way (flat_text old.text) cs)
  pub parse : KeepsParse old now
  pub pieces : length now.text.spans + 2 * edit_count_along way left ≤ length old.text.spans + 2 * edit_count_along way cs
  pub buffers : Extends old.text.buffers now.text.buffers
  pub appended : unit_count now.text.buffers + most_appended (need_along way left) ≤ unit_count old.text.buffers + most_appended (need_along way cs)
  pub can : CanLead way now left

pub way_begins : (way : Way) (page : PageState) (cs left : List Change) → left ≡ cs → CanLead way page cs → IsOnWay way page cs left page
way_begins way page cs left all can =
    subst (λ l. IsOnWay way page cs l page) (sym all)
    (record {
      text = refl;
      decorations = refl;
      marks = refl;
      parse = record { scanner = refl; parsed = refl; tree = refl; states = refl };
      pieces = omega arith;
      buffers = Extends-refl page.text.buffers;
      appended = omega arith;
      can = can;
    })

-- what one of them leaves
pub record IsFollowed (way : Way) (forces : Bool) (c : Change) (old new : PageState) : Type 0 where
  pub text : flat_text new.text ≡ led way c (flat_text old.text)
  pub decorations : new.decorations ≡ decorations_over forces way c old.decorations
  pub marks : new.marks ≡ marks_over way c old.text.units old.marks
  pub parse : KeepsParse old new
  pub grown : HasGrown (edit_count (ops_by way c)) old.text new.text
  pub spent : HasSpent (need_of_ops (ops_by way c)) old new

fit_follows : (way : Way) (now : PageState) (c : Change) → IsFit way c (flat_text now.text) → HasRoom now (need_of_ops (ops_by way c)) → CanFollow way now c
fit_follows way now (Ops ops inverse) fit room = record { standing = fit.standing; fits = fit.fits; keeps = fit.kinds; room = room }
fit_follows way now (Endings r) fit room = (fit.kinds, room)

module _ (way : Way) (old now : PageState) (cs left : List Change) (c : Change) (rest : List Change) (before : IsOnWay way old cs left now) (next : IsNext way left c rest (flat_text now.text)) where
  pub can_follow : CanFollow way now c
  can_follow =
      let room = before.can.room in
      fit_follows way now c next.fit (record {
        text = record {
          edits = omega (arith, room.text.edits, next.edits);
          units = omega (arith, room.text.units, next.edits, next.units);
          breaks = omega (arith, room.text.breaks, next.edits, next.breaks);
        };
        marks = omega (arith, room.marks, next.edits);
      })

  pub way_goes_on : (new : PageState) → IsFollowed way (forces way) c now new → IsOnWay way old cs rest new
  way_goes_on new done =
      let room = before.can.room in
      let spent = done.spent in
      record {
        text = ap (λ x. text_by way x rest) done.text ∙ sym next.text ∙ before.text;
        decorations = ap (λ d. decorations_by way d rest) done.decorations ∙ sym (next.decorations now.decorations) ∙ before.decorations;
        marks = ap (λ x. marked_along way new.marks (changes_by way x rest)) done.text
            ∙ ap (λ ms. marked_along way ms (changes_by way (led way c (flat_text now.text)) rest)) done.marks
            ∙ sym (next.marks now.marks) ∙ before.marks;
        parse = record {
          scanner = done.parse.scanner ∙ before.parse.scanner;
          parsed = done.parse.parsed ∙ before.parse.parsed;
          tree = done.parse.tree ∙ before.parse.tree;
          states = done.parse.states ∙ before.parse.states;
        };
        pieces = omega (arith, before.pieces, done.grown.pieces, next.edits);
        buffers = Extends-trans old.text.buffers now.text.buffers new.text.buffers before.buffers done.grown.buffers;
        appended = omega (arith, before.appended, spent.appended, next.edits, next.units);
        can = record {
          lead = subst (λ x. LeadBy way x rest) (sym done.text) next.lead;
          room = record {
            text = record {
              edits = omega (arith, room.text.edits, spent.text.edits, next.edits);
              units = omega (arith, room.text.units, spent.text.units, next.edits, next.units);
              breaks = omega (arith, room.text.breaks, spent.text.breaks, next.edits, next.breaks);
            };
            marks = omega (arith, room.marks, spent.marks, next.edits);
          };
        };
      }

text_none : (way : Way) (x : FlatText) → text_by way x [] ≡ x
text_none Back x = refl
text_none On x = refl

decorations_none : (way : Way) (d : Decorations) → decorations_by way d [] ≡ d
decorations_none Back d = refl
decorations_none On d = refl

marks_none : (way : Way) (ms : List Mark) (x : FlatText) → marked_along way ms (changes_by way x []) ≡ ms
marks_none Back ms x = refl
marks_none On ms x = refl

-- what the changes leave
pub record IsLed (way : Way) (cs : List Change) (old new : PageState) : Type 0 where
  pub text : flat_text new.text ≡ text_by way (flat_text old.text) cs
  pub decorations : new.decorations ≡ decorations_by way old.decorations cs
  pub marks : new.marks ≡ marked_along way old.marks (changes_by way (flat_text old.text) cs)
  pub parse : KeepsParse old new
  pub grown : HasGrown (edit_count_along way cs) old.text new.text
  pub appended : unit_count new.text.buffers ≤ unit_count old.text.buffers + most_appended (need_along way cs)

pub way_ends : (way : Way) (old now : PageState) (cs left : List Change) → left ≡ [] → IsOnWay way old cs left now → IsLed way cs old now
way_ends way old now cs left none before =
    let at_end : IsOnWay way old cs [] now = subst (λ l. IsOnWay way old cs l now) none before in
    record {
      text = sym (text_none way (flat_text now.text)) ∙ at_end.text;
      decorations = sym (decorations_none way now.decorations) ∙ at_end.decorations;
      marks = sym (marks_none way now.marks (flat_text now.text)) ∙ at_end.marks;
      parse = at_end.parse;
      grown = record { pieces = omega (arith, at_end.pieces); buffers = at_end.buffers };
      appended = omega (arith, at_end.appended);
    }

-- ---- a parse

-- where the tree is that of the text of now
pub nothing_to_renew : {A E : Type 0} (result : Result A E) (page : PageState) → IsPage page → is_fresh page ≡ true → Renews result page page
nothing_to_renew (Ok x) page sound fresh = record {
  text = refl;
  decorations = refl;
  scanner = refl;
  room = omega arith;
  same = λ is. refl;
  same_tree = λ is. refl;
  same_marks = λ is. refl;
  same_states = λ is. refl;
  read = λ stale. cc;
  begun = λ stale. cc;
  low = low_where_fresh page.tree page.scanner page.text.units (has_new page.marks) fresh sound.stays.kept;
  lines = clean_where_fresh page.tree page.marks page.states page.scanner page.text.units fresh sound.stays;
  fresh = fresh;
  parsed = tt;
  tree = tt;
  marks = tt;
  states = tt;
}
nothing_to_renew (Err e) page sound fresh = record {
  text = refl;
  decorations = refl;
  scanner = refl;
  room = omega arith;
  same = λ is. refl;
  same_tree = λ is. refl;
  same_marks = λ is. refl;
  same_states = λ is. refl;
  read = λ stale. tt;
  begun = λ stale. tt;
  low = tt;
  lines = tt;
  fresh = tt;
  parsed = refl;
  tree = refl;
  marks = refl;
  states = refl;
}

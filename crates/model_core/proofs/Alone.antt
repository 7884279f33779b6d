-- A prepared change that is carried out as a step of undo of its own, between two closings of the open step.
use Rattle.std.proofs.Common.{◌≡◌, List, refl, ap, subst, ◌∙◌}
use Rattle.mark_rules.specs.declared.Mark.{Mark}
use Rattle.document_rules.specs.Document.{FlatState, flat_stop}
use Rattle.model_page.specs.declared.change.Way.TheVariants.{Back, On}
use Rattle.model_core.specs.declared.ready.Action.{Action}
use Rattle.model_core.specs.declared.ready.Action.TheVariants.{Make, Move}
use Rattle.model_core.specs.Prepared.{Prepared, CanCommit, Acts, ActsAlone, HasActed, Need, need_of, marks_after, marking_count}
use Rattle.model_core.specs.State.{ModelState, KeepsParse}
use Rattle.model_core.specs.Compact.{KeepsBoundBy}
use Rattle.model_core.proofs.Held.{bound_from, bound_until}
use Rattle.model_core.proofs.Leaving.{leaves_from, leaves_until, leaves_as}
use Rattle.model_core.proofs.Preparing.{IsSameText, can_still_commit}

-- ---- it may be carried out once the step is closed

closed_text : (f g : FlatState) → g ≡ flat_stop f → IsSameText f g
closed_text f g is = rw is (record { version = refl; units = refl; kind = refl; undo = refl; redo = refl })

pub can_commit_closed : (old new : ModelState) (ready : Prepared) → new.document ≡ flat_stop old.document → KeepsParse old new → CanCommit old ready → CanCommit new ready
can_commit_closed old new ready is kept can = can_still_commit old new ready (closed_text old.document new.document is) kept.room can

-- ---- what it does is the same then

same_marks : (action : Action) (f : FlatState) (marks : List Mark) → marks_after action (flat_stop f) marks ≡ marks_after action f marks
same_marks (Make change) f marks = refl
same_marks (Move Back) f marks = refl
same_marks (Move On) f marks = refl

same_marking : (action : Action) (f : FlatState) → marking_count action (flat_stop f) ≡ marking_count action f
same_marking (Make change) f = refl
same_marking (Move Back) f = refl
same_marking (Move On) f = refl

same_need : (action : Action) (f : FlatState) → need_of action (flat_stop f) ≡ need_of action f
same_need (Make change) f = refl
same_need (Move Back) f = refl
same_need (Move On) f = refl

module _ (old closed made new : ModelState) (action : Action) (first : closed.document ≡ flat_stop old.document) (kept : KeepsParse old closed)
    (done : Acts action closed.document made.document) (acted : HasActed action closed made)
    (last : new.document ≡ flat_stop made.document) (left : KeepsParse made new) where
  pub acted_alone : ActsAlone action old.document new.document
  acted_alone = record { made = made.document; acts = subst (λ f. Acts action f made.document) first done; closed = last }

  pub left_alone : HasActed action old new
  left_alone =
      let f : FlatState = old.document in
      let edits = ap (λ (n : Need). n.text.edits) (ap (need_of action) first ∙ same_need action f) in
      let marking = ap (marking_count action) first ∙ same_marking action f in
      let marks = ap (λ f. marks_after action f closed.marks) first ∙ same_marks action f closed.marks ∙ ap (marks_after action f) kept.marks in
      leaves_until _ _ _ old made new
      (leaves_from _ _ _ old closed made kept (leaves_as _ (need_of action f).text.edits _ (marking_count action f) _ (marks_after action f old.marks) closed made edits marking marks acted))
      left

  pub bound_alone : KeepsBoundBy action closed made → KeepsBoundBy action old new
  bound_alone bound =
      bound_until action old made new (ap (λ (f : FlatState). f.units) last)
      (bound_from action old closed made (ap (need_of action) first ∙ same_need action old.document) (ap (λ (f : FlatState). f.units) first) kept bound)
      left

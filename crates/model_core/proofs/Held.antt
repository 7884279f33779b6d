-- What the buffers of a model hold: edits only append to them, and a change leaves them within its bound.
use Rattle.std.proofs.Common.{suc, ◌≡◌, ℕ, ◌+◌, ◌*◌, ◌≤◌, Bool, true, false, List, [], ◌∷◌, length, ap, refl, sym, subst, ◌∙◌, arith, Option}
use Rattle.std.proofs.lemmas.Bool.{ltb-false}
use Rattle.std.proofs.lemmas.List.{length-take}
use Rattle.std.proofs.lemmas.List.Sums.{sum_by-cons}
use Rattle.chunk_buffers.specs.Chunks.{Extends, unit_count}
use Rattle.document_rules.specs.Document.{FlatState}
use Rattle.model_page.specs.Compact.{MostFitting, outgrows}
use Rattle.model_page.specs.declared.compact.TheConstants.{MOST_TIMES_HELD, MOST_HELD}
use Rattle.model_core.specs.declared.ready.Action.{Action}
use Rattle.model_core.specs.Compact.{is_outgrown, HasAppendedBy, IsRewritten, KeepsBoundBy}
use Rattle.model_core.specs.Prepared.{Need, need_of}
use Rattle.model_core.specs.State.{ModelState, KeepsParse}

tail_extends : (o n : List ℕ) (os ns : List (List ℕ)) → Extends (o ∷ os) (n ∷ ns) → Extends os ns
tail_extends o n os ns grown = record { count = omega (arith, grown.count); fronts = λ k inside. grown.fronts (suc k) (omega (arith, inside)) }

-- buffers that are only appended to hold no less
pub held_grows : (old new : List (List ℕ)) → Extends old new → unit_count old ≤ unit_count new
held_grows [] new grown = omega arith
held_grows (o ∷ os) [] grown = omega (arith, grown.count)
held_grows (o ∷ os) (n ∷ ns) grown =
    let first = grown.fronts 0 (omega arith) in
    omega (
      arith,
      sum_by-cons {X = List ℕ} length o os,
      sum_by-cons {X = List ℕ} length n ns,
      held_grows os ns (tail_extends o n os ns grown),
      ap length first,
      length-take (length o) n,
    )

-- a change whose edits only append, and after which the text is rewritten if that was due before it
pub bound_after : (action : Action) (due : Bool) (room : Option MostFitting) (old mid new : ModelState) → due ≡ is_outgrown old → HasAppendedBy action old mid → IsRewritten due room mid new
    → KeepsBoundBy action old new
bound_after action true room old mid new is appended rewritten = record {
  bound = λ fit. omega (arith, rewritten.alone refl fit);
  cause = λ over. sym is;
  paid = λ less. sym is;
}
bound_after action false room old mid new is appended rewritten =
    let little : old.held ≤ MOST_TIMES_HELD * length old.document.units + MOST_HELD = ltb-false (MOST_TIMES_HELD * length old.document.units + MOST_HELD) old.held (sym is) in record {
      bound = λ fit. omega (arith, little, appended.few, rewritten.few refl);
      cause = λ over. sym is ∙ rewritten.cause over;
      paid = λ less. absurd (omega (arith, less, appended.kept, rewritten.kept refl));
    }

-- calls before the change that keep the text and the buffers
pub bound_from : (action : Action) (old mid new : ModelState) → need_of action mid.document ≡ need_of action old.document → mid.document.units ≡ old.document.units
    → KeepsParse old mid → KeepsBoundBy action mid new → KeepsBoundBy action old new
bound_from action old mid new needs units kept bound =
    let same : is_outgrown mid ≡ is_outgrown old = (λ i. outgrows (length (units i)) (kept.held i)) in record {
      bound = λ fit. omega (arith, bound.bound fit, ap (λ (n : Need). n.text.edits) needs, ap (λ (n : Need). n.text.units) needs, ap length units);
      cause = λ over. sym same ∙ bound.cause over;
      paid = λ less. sym same ∙ bound.paid (omega (arith, less, kept.held));
    }

-- and calls after it
pub bound_until : (action : Action) (old made new : ModelState) → new.document.units ≡ made.document.units → KeepsBoundBy action old made → KeepsParse made new
    → KeepsBoundBy action old new
bound_until action old made new units bound kept = record {
  bound = λ fit. omega (arith, bound.bound (sym kept.overfull ∙ fit), kept.held, ap length units);
  cause = λ over. bound.cause (sym kept.overfull ∙ over);
  paid = λ less. bound.paid (omega (arith, less, kept.held));
}

-- a change that is carried out where it was prepared
pub bound_as_prepared : (action : Action) (of : FlatState → Action) (old mid new : ModelState) → action ≡ of mid.document → mid.document ≡ old.document
    → KeepsParse old mid → KeepsBoundBy action mid new → KeepsBoundBy (of old.document) old new
bound_as_prepared action of old mid new is same kept bound =
    bound_from (of old.document) old mid new (ap (need_of (of old.document)) same) (ap (λ (f : FlatState). f.units) same) kept
    (subst (λ a. KeepsBoundBy a mid new) (is ∙ ap of same) bound)

use Rattle.std.proofs.Common.{◌≡◌, refl, sym, subst, arith}
use Rattle.undo_rules.specs.Stack.{Stack}
use Rattle.snapshots.specs.Shown.{Shown, shown}
use Rattle.document_rules.specs.Paired.{ArePairedSteps, IsPairedShelf}
use Rattle.unit_text.specs.Kinds.{normalized}
use Rattle.document_rules.proofs.PairedEndings.{IsPaired-normalized}
use Rattle.model_page.specs.State.{flat_text}
use Rattle.document_rules.proofs.PairedStates.{no_steps, no_snapshots}
use Rattle.model_page.specs.declared.change.Change.{Change}
use Rattle.model_core.specs.History.{IsHistory, undo_steps, redo_steps}
use Rattle.model_core.proofs.Shelving.{IsShelf-none}
use Rattle.model_core.proofs.model.Model.opened.Goals as goal

pub invariant_of-result : goal.invariant_of-result
invariant_of-result c =
    let page = c.in_ok-page.page in (
      omega arith,
      subst (IsHistory (flat_text page.text)) (sym c.new.ensures) (record { back = tt; on = tt }),
      IsShelf-none page.text.buffers c.new-2.result c.new-2.ensures,
      refl,
    )

pub returns-clause-paired_state : goal.returns-clause-paired_state
returns-clause-paired_state c =
    λ paired.
    let text = c.in_ok-page.page.text in
    let units : text.units ≡ normalized c.args.kind c.args.text.now = c.in_ok-page.ensures.new.units in
    record {
      units = rw units (IsPaired-normalized c.args.kind c.args.text.now paired);
      undo = subst (λ (s : Stack Change). ArePairedSteps (undo_steps (flat_text text) s.undo)) (sym c.new.ensures) no_steps;
      redo = subst (λ (s : Stack Change). ArePairedSteps (redo_steps (flat_text text) s.redo)) (sym c.new.ensures) no_steps;
      shelf = subst (λ (s : Shown). IsPairedShelf (shown c.in_ok-page.page.text.buffers s)) (sym c.new-2.ensures) no_snapshots;
    }

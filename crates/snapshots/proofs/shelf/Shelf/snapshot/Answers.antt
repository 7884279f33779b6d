use Rattle.std.proofs.Common.{Some, [], find, sym, ap, subst, ◌∙◌}
use Rattle.snapshots.specs.Spans.{IsPlaceOf, spells}
use Rattle.snapshots.specs.Shown.{Shown}
use Rattle.snapshots.proofs.Places.{rises, find-none, find-place}
use Rattle.snapshots.proofs.shelf.Shelf.snapshot.Goals as goal

pub returns-in_err-place : goal.returns-in_err-place
returns-in_err-place c = rw c.from_residual.ensures (sym (find-none c.args.id c.args.self.now.snapshots c.in_err-place.ensures))

pub returns : goal.returns
returns c =
    let xs = c.self.inside.snapshots.items in
    let d = c.index.result.now in
    let at = subst (λ (t : Shown). IsPlaceOf c.args.id t.snapshots (Some c.in_ok-place.place)) (sym c.self.view_is) c.in_ok-place.ensures in
    ap Some c.index.ensures
    ∙ sym (find-place c.args.id c.in_ok-place.place xs d (rises [] xs c.self.invariant.rising) at.0 (at.1 d))
    ∙ ap (λ (t : Shown). find (spells c.args.id) t.snapshots) c.self.view_is

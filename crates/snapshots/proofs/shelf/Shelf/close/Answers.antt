use Rattle.std.proofs.Common.{◌≡◌, Ok, Some, refl, sym, subst}
use Rattle.std.specs.List.{remove}
use Rattle.snapshot_rules.specs.Snapshots.{flat_close}
use Rattle.snapshots.specs.Spans.{IsPlaceOf}
use Rattle.snapshots.specs.Shown.{Shown, shown}
use Rattle.snapshots.proofs.Flat.{closed-unknown}
use Rattle.snapshots.proofs.Places.{any-none, closed-place, closed-ordered}
use Rattle.snapshots.proofs.shelf.Shelf.close.Goals as goal

pub returns-in_default-clause-change : goal.returns-in_default-clause-change
returns-in_default-clause-change c = λ b.
    (refl, closed-unknown b c.args.self.now c.args.id (any-none c.args.id c.args.self.now.snapshots c.in_default.ensures))

pub invariant_of-self : goal.invariant_of-self
invariant_of-self c =
    let at = subst (λ (t : Shown). IsPlaceOf c.args.id t.snapshots (Some c.in-Some.place)) (sym c.self.view_is) c.in-Some.ensures in
    rw c.remove.ensures.items
    (closed-ordered (record { snapshots = c.self.inside.snapshots.items; next_id = c.self.inside.next_id }) c.self.invariant
    c.args.id c.in-Some.place c.remove.result at.0 (at.1 c.remove.result))

pub returns-clause-change : goal.returns-clause-change
returns-clause-change c = λ b.
    let at = subst (λ (t : Shown). IsPlaceOf c.args.id t.snapshots (Some c.in-Some.place)) (sym c.self.view_is) c.in-Some.ensures in
    rw c.remove.ensures.items
    (subst (λ (t : Shown). flat_close (shown b t) c.args.id ≡ Ok (shown b (record { snapshots = remove c.self.inside.snapshots.items c.in-Some.place; next_id = c.self.inside.next_id }))) c.self.view_is
    (closed-place (record { snapshots = c.self.inside.snapshots.items; next_id = c.self.inside.next_id }) c.self.invariant
    c.args.id c.in-Some.place c.remove.result at.0 (at.1 c.remove.result) b))

use Rattle.std.proofs.Common.{Some, refl, sym, ap, subst, ◌∙◌}
use Rattle.snapshot_rules.specs.Snapshots.{flat_skip}
use Rattle.snapshots.specs.Spans.{Spelled, IsPlaceOf, without}
use Rattle.snapshots.specs.Shown.{Shown, shown, LieIn}
use Rattle.snapshots.proofs.Flat.{skipped-shelf}
use Rattle.snapshots.proofs.Places.{passed-none, skipped-place, skipped-lie, skipped-ordered}
use Rattle.snapshots.proofs.shelf.Shelf.skip.Goals as goal

pub returns-in_default-clause-change : goal.returns-in_default-clause-change
returns-in_default-clause-change c = λ b lie.
    let shelf = c.args.self.now in
    skipped-shelf b shelf c.args.id c.args.n shelf.snapshots shelf.next_id lie
    (sym (passed-none c.args.id shelf.snapshots c.in_default.ensures c.args.n)) refl

pub invariant_of-self : goal.invariant_of-self
invariant_of-self c =
    let d = c.index_mut.result.now in
    let at = subst (λ (t : Shown). IsPlaceOf c.args.id t.snapshots (Some c.in-Some.place)) (sym c.self.view_is) c.in-Some.ensures in
    let item = c.skip.ensures ∙ ap (λ (s : Spelled). record s { spans = without c.args.n s.spans }) c.index_mut.ensures.value in
    rw item
    (skipped-ordered (record { snapshots = c.self.inside.snapshots.items; next_id = c.self.inside.next_id }) c.self.invariant
    c.args.id c.in-Some.place d at.0 (at.1 d) c.args.n)

pub returns-clause-change : goal.returns-clause-change
returns-clause-change c = λ b lie.
    let d = c.index_mut.result.now in
    let at = subst (λ (t : Shown). IsPlaceOf c.args.id t.snapshots (Some c.in-Some.place)) (sym c.self.view_is) c.in-Some.ensures in
    let item = c.skip.ensures ∙ ap (λ (s : Spelled). record s { spans = without c.args.n s.spans }) c.index_mut.ensures.value in
    rw item
    (skipped-place (record { snapshots = c.self.inside.snapshots.items; next_id = c.self.inside.next_id }) c.self.invariant
    c.args.id c.in-Some.place d at.0 (at.1 d) c.args.n b (subst (LieIn b) (sym c.self.view_is) lie)
    ∙ ap (λ (t : Shown). flat_skip (shown b t) c.args.id c.args.n) c.self.view_is)

pub returns-clause-inside : goal.returns-clause-inside
returns-clause-inside c = λ b lie.
    let d = c.index_mut.result.now in
    let at = subst (λ (t : Shown). IsPlaceOf c.args.id t.snapshots (Some c.in-Some.place)) (sym c.self.view_is) c.in-Some.ensures in
    let item = c.skip.ensures ∙ ap (λ (s : Spelled). record s { spans = without c.args.n s.spans }) c.index_mut.ensures.value in
    rw item
    (skipped-lie (record { snapshots = c.self.inside.snapshots.items; next_id = c.self.inside.next_id }) c.self.invariant
    c.args.id c.in-Some.place d at.0 (at.1 d) c.args.n b (subst (LieIn b) (sym c.self.view_is) lie))

use Rattle.std.proofs.Common.{◌+◌, ◌++◌, List, length, sym, ◌∙◌, ap, subst}
use Rattle.std.specs.List.{list_all}
use Rattle.decoration_rules.specs.declared.Mark.{Mark}
use Rattle.decoration_rules.specs.Marks.{IsInOrder, HasDistinctIds, is_live, in_order}
use Rattle.decoration_rules.specs.Decorations.{Decorations, IsSound, kept, new_marks}
use Rattle.decorations.specs.Owners.{Tells}
use Rattle.decorations.proofs.Removed.{all_live-owned}
use Rattle.decorations.proofs.Added.{Below}
use Rattle.decorations.proofs.Deltas.{IsFit, fit-from_ok, fit-from_view, all_new, IsSound-delta, kept-ordered, kept-distinct, kept-below, named-within, count-fits, Tells-delta}
use Rattle.decorations.proofs.set.DecoSet.delta.Given.{Over}
use Rattle.decorations.proofs.set.DecoSet.delta.Goals.{After-add_all, After-recount}
use Rattle.decorations.proofs.set.DecoSet.delta.Goals as goal

pub remove_all-requires-clause-live : goal.remove_all-requires-clause-live
remove_all-requires-clause-live g c =
    let kind = g.F.Flat.kind c.args.text.now in
    let units = g.F.Flat.units c.args.text.now in
    let before : Decorations = record { marks = c.self.inside.tree.marks; next_id = c.self.inside.next_id } in
    let fit : IsFit before c.args.owner c.args.remove.now c.args.add.now kind units =
    fit-from_view before c.args.self.now c.self.view_is c.args.owner c.args.remove.now c.args.add.now kind units c.in_ok-check.ensures.ok in
    ap (λ ms. list_all (is_live ms) c.args.remove.now) c.reserve.ensures.marks ∙ all_live-owned c.self.inside.tree.marks c.args.owner c.args.remove.now fit.owned

pub add_all-requires-clause-used : goal.add_all-requires-clause-used
add_all-requires-clause-used g c =
    subst (Below c.self.inside.next_id) (sym (c.remove_all.ensures.marks ∙ ap (λ ms. kept ms c.args.remove.now) c.reserve.ensures.marks))
    (kept-below c.self.inside.next_id c.self.inside.tree.marks c.args.remove.now c.self.invariant.0.used)

pub add_all-requires-clause-ordered : goal.add_all-requires-clause-ordered
add_all-requires-clause-ordered g c =
    subst IsInOrder (sym (c.remove_all.ensures.marks ∙ ap (λ ms. kept ms c.args.remove.now) c.reserve.ensures.marks))
    (kept-ordered c.self.inside.tree.marks c.args.remove.now c.self.invariant.0.ordered)

pub add_all-requires-clause-distinct : goal.add_all-requires-clause-distinct
add_all-requires-clause-distinct g c =
    subst HasDistinctIds (sym (c.remove_all.ensures.marks ∙ ap (λ ms. kept ms c.args.remove.now) c.reserve.ensures.marks))
    (kept-distinct c.self.inside.tree.marks c.args.remove.now c.self.invariant.0.distinct)

pub add_all-requires-clause-good : goal.add_all-requires-clause-good
add_all-requires-clause-good g c =
    let kind = g.F.Flat.kind c.args.text.now in
    let units = g.F.Flat.units c.args.text.now in
    let fit : IsFit c.args.self.now c.args.owner c.args.remove.now c.args.add.now kind units =
    fit-from_ok c.args.self.now c.args.owner c.args.remove.now c.args.add.now kind units c.in_ok-check.ensures.ok in
    all_new kind units c.args.add.now c.requires fit.good

sound : (g : Over) (c : After-add_all g)
    → IsSound (record { marks = c.add_all.new.tree.marks; next_id = c.self.inside.next_id + length c.args.add.now })
sound g c =
    let kind = g.F.Flat.kind c.args.text.now in
    let units = g.F.Flat.units c.args.text.now in
    let before : Decorations = record { marks = c.self.inside.tree.marks; next_id = c.self.inside.next_id } in
    let fit : IsFit before c.args.owner c.args.remove.now c.args.add.now kind units =
    fit-from_view before c.args.self.now c.self.view_is c.args.owner c.args.remove.now c.args.add.now kind units c.in_ok-check.ensures.ok in
    subst (λ (ms : List Mark). IsSound (record { marks = ms; next_id = c.self.inside.next_id + length c.args.add.now }))
    (sym (c.add_all.ensures ∙ ap (λ ms. in_order (ms ++ new_marks c.args.owner c.self.inside.next_id c.args.add.now))
    (c.remove_all.ensures.marks ∙ ap (λ ms. kept ms c.args.remove.now) c.reserve.ensures.marks)))
    (IsSound-delta before c.args.owner c.args.remove.now c.args.add.now kind units c.self.invariant.0 fit)

pub recount-requires-clause-removed : goal.recount-requires-clause-removed
recount-requires-clause-removed g c =
    let kind = g.F.Flat.kind c.args.text.now in
    let units = g.F.Flat.units c.args.text.now in
    let before : Decorations = record { marks = c.self.inside.tree.marks; next_id = c.self.inside.next_id } in
    let fit : IsFit before c.args.owner c.args.remove.now c.args.add.now kind units =
    fit-from_view before c.args.self.now c.self.view_is c.args.owner c.args.remove.now c.args.add.now kind units c.in_ok-check.ensures.ok in
    let told : Tells c.make_room.new.self.counts c.self.inside.tree.marks = λ owner. c.make_room.ensures.counts owner ∙ c.self.invariant.1 owner in
    named-within before c.args.owner c.args.remove.now c.args.add.now kind units c.self.invariant.0 fit c.make_room.new.self.counts told

pub recount-requires-clause-fits : goal.recount-requires-clause-fits
recount-requires-clause-fits g c =
    let kind = g.F.Flat.kind c.args.text.now in
    let units = g.F.Flat.units c.args.text.now in
    let before : Decorations = record { marks = c.self.inside.tree.marks; next_id = c.self.inside.next_id } in
    let fit : IsFit before c.args.owner c.args.remove.now c.args.add.now kind units =
    fit-from_view before c.args.self.now c.self.view_is c.args.owner c.args.remove.now c.args.add.now kind units c.in_ok-check.ensures.ok in
    let told : Tells c.make_room.new.self.counts c.self.inside.tree.marks = λ owner. c.make_room.ensures.counts owner ∙ c.self.invariant.1 owner in
    count-fits before c.args.owner c.args.remove.now c.args.add.now kind units c.self.invariant.0 fit c.make_room.new.self.counts told

-- the map tells the numbers after the change
tells : (g : Over) (c : After-recount g) → Tells c.recount.new.self.counts c.add_all.new.tree.marks
tells g c =
    let kind = g.F.Flat.kind c.args.text.now in
    let units = g.F.Flat.units c.args.text.now in
    let before : Decorations = record { marks = c.self.inside.tree.marks; next_id = c.self.inside.next_id } in
    let fit : IsFit before c.args.owner c.args.remove.now c.args.add.now kind units =
    fit-from_view before c.args.self.now c.self.view_is c.args.owner c.args.remove.now c.args.add.now kind units c.in_ok-check.ensures.ok in
    let told : Tells c.make_room.new.self.counts c.self.inside.tree.marks = λ owner. c.make_room.ensures.counts owner ∙ c.self.invariant.1 owner in
    subst (Tells c.recount.new.self.counts)
    (sym (c.add_all.ensures ∙ ap (λ ms. in_order (ms ++ new_marks c.args.owner c.self.inside.next_id c.args.add.now))
    (c.remove_all.ensures.marks ∙ ap (λ ms. kept ms c.args.remove.now) c.reserve.ensures.marks)))
    (Tells-delta before c.args.owner c.args.remove.now c.args.add.now kind units c.self.invariant.0 fit c.make_room.new.self.counts told c.recount.new.self.counts c.recount.ensures)

pub invariant_of-self-2 : goal.invariant_of-self-2
invariant_of-self-2 g c = (
  sound g (goal.at.invariant_of-self-2 g c).After-add_all,
  tells g (goal.at.invariant_of-self-2 g c).After-recount,
)

pub returns-clause-sound : goal.returns-clause-sound
returns-clause-sound g c = sound g (goal.at.returns-clause-sound g c).After-add_all

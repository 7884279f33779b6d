use Rattle.std.proofs.Common.{◌≡◌, false, length, sym, ◌∙◌, subst, arith}
use Rattle.std.specs.Prelude.{IsOk}
use Rattle.decoration_rules.specs.declared.DecoError.TheVariants.{Unknown, Range, Limit}
use Rattle.decoration_rules.specs.Decorations.{Decorations, RefusedFor, decorated, is_unknown, is_too_much}
use Rattle.decorations.proofs.Deltas.{unknown-not_owned, known-owned, decorated-unknown, decorated-bad, decorated-too_much, decorated-ok, is_too_much-by_length, removed-within}
use Rattle.decorations.proofs.set.DecoSet.check.Given.{Over}
use Rattle.decorations.proofs.set.DecoSet.check.Goals.{After-is_too_much}
use Rattle.decorations.proofs.set.DecoSet.check.Goals as goal

pub returns-then-not-owns_all-clause-err : goal.returns-then-not-owns_all-clause-err
returns-then-not-owns_all-clause-err g c =
    let kind = g.F.Flat.kind c.args.text.now in
    let units = g.F.Flat.units c.args.text.now in
    subst (λ (d : Decorations). RefusedFor Unknown (decorated d c.args.owner c.args.remove.now c.args.add.now kind units)) c.self.view_is
    (decorated-unknown _ c.args.owner c.args.remove.now c.args.add.now kind units
    (unknown-not_owned c.self.inside.tree.marks c.args.owner c.args.remove.now (sym c.owns_all.ensures ∙ c.if-not-owns_all.true)))

pub returns-then-any_is_bad-clause-err : goal.returns-then-any_is_bad-clause-err
returns-then-any_is_bad-clause-err g c =
    let kind = g.F.Flat.kind c.args.text.now in
    let units = g.F.Flat.units c.args.text.now in
    let known : is_unknown c.self.inside.tree.marks c.args.owner c.args.remove.now ≡ false =
    known-owned c.self.inside.tree.marks c.args.owner c.args.remove.now (sym c.owns_all.ensures ∙ c.if-not-owns_all.false) c.in_ok-named_once.ensures.ok in
    subst (λ (d : Decorations). RefusedFor Range (decorated d c.args.owner c.args.remove.now c.args.add.now kind units)) c.self.view_is
    (decorated-bad _ c.args.owner c.args.remove.now c.args.add.now kind units known (sym c.any_is_bad.ensures ∙ c.if-any_is_bad.true))

pub is_too_much-requires-clause-removed : goal.is_too_much-requires-clause-removed
is_too_much-requires-clause-removed g c =
    omega (
      arith,
      c.len.ensures,
      removed-within c.self.inside.tree.marks c.args.owner c.args.remove.now c.self.invariant.0.distinct
          (sym c.owns_all.ensures ∙ c.if-not-owns_all.false) c.in_ok-named_once.ensures.ok,
    )

-- the test of the counts tells whether the set would have too many
counted : (g : Over) (c : After-is_too_much g)
    → is_too_much (record { marks = c.self.inside.tree.marks; next_id = c.self.inside.next_id }) c.args.remove.now (length c.args.add.now) ≡ c.is_too_much.result
counted g c =
    is_too_much-by_length (record { marks = c.self.inside.tree.marks; next_id = c.self.inside.next_id }) c.args.owner c.args.remove.now c.len.result (length c.args.add.now)
    c.self.invariant.0.distinct (sym c.owns_all.ensures ∙ c.if-not-owns_all.false) c.in_ok-named_once.ensures.ok c.len.ensures
    ∙ sym c.is_too_much.ensures

known : (g : Over) (c : After-is_too_much g) → is_unknown c.self.inside.tree.marks c.args.owner c.args.remove.now ≡ false
known g c =
    known-owned c.self.inside.tree.marks c.args.owner c.args.remove.now (sym c.owns_all.ensures ∙ c.if-not-owns_all.false) c.in_ok-named_once.ensures.ok

pub returns-then-is_too_much-clause-err : goal.returns-then-is_too_much-clause-err
returns-then-is_too_much-clause-err g c =
    let kind = g.F.Flat.kind c.args.text.now in
    let units = g.F.Flat.units c.args.text.now in
    let here = (goal.at.returns-then-is_too_much-clause-err g c).After-is_too_much in
    subst (λ (d : Decorations). RefusedFor Limit (decorated d c.args.owner c.args.remove.now c.args.add.now kind units)) c.self.view_is
    (decorated-too_much _ c.args.owner c.args.remove.now c.args.add.now kind units (known g here) (sym c.any_is_bad.ensures ∙ c.if-any_is_bad.false)
    (counted g here ∙ c.if-is_too_much.true))

pub returns-clause-ok : goal.returns-clause-ok
returns-clause-ok g c =
    let kind = g.F.Flat.kind c.args.text.now in
    let units = g.F.Flat.units c.args.text.now in
    let here = (goal.at.returns-clause-ok g c).After-is_too_much in
    subst (λ (d : Decorations). IsOk (decorated d c.args.owner c.args.remove.now c.args.add.now kind units)) c.self.view_is
    (decorated-ok _ c.args.owner c.args.remove.now c.args.add.now kind units (known g here) (sym c.any_is_bad.ensures ∙ c.if-any_is_bad.false)
    (counted g here ∙ c.if-is_too_much.false))

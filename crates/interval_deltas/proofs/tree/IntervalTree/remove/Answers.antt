use Rattle.std.proofs.Common.{◌≡◌, ◌∷◌, ◌++◌, ℕ, true, cond, eqb, [], length, Some, None, sym, ◌∙◌, ap, subst, arith}
use Rattle.std.proofs.lemmas.Bool.{both_ways}
use Rattle.std.proofs.lemmas.List.{length-append}
use Rattle.rb_arena.specs.Names.{HaveOwnNames}
use Rattle.decoration_rules.specs.Marks.{is_live, IsInOrder, HasDistinctIds, without}
use Rattle.interval_deltas.specs.Weave.{is_mark}
use Rattle.interval_deltas.specs.Kept.{AreMarks, marks_of}
use Rattle.interval_deltas.specs.Tree.{Shown, node_in}
use Rattle.interval_deltas.proofs.Items.{each_without, ordered_without}
use Rattle.interval_deltas.proofs.Lists.{node_some, mark_none, fresh_at, taken_out, distinct_without}
use Rattle.interval_deltas.proofs.Own.{own_without}
use Rattle.interval_deltas.proofs.Trees.{node_without}
use Rattle.interval_deltas.proofs.tree.IntervalTree.remove.Goals as goal

pub returns-in_default-clause-marks : goal.returns-in_default-clause-marks
returns-in_default-clause-marks c =
    let items = c.self.inside.tree.items in
    let none : node_in items c.args.id ≡ None = sym (c.self.invariant.named c.args.id) ∙ sym c.find.ensures ∙ c.in_default.is in
    let live : is_live (marks_of items) c.args.id ≡ true = ap (λ (s : Shown). is_live s.marks c.args.id) c.self.view_is ∙ c.requires in
    absurd (both_ways (is_live (marks_of items) c.args.id) (mark_none items c.args.id none) live)

pub remove-requires : goal.remove-requires
remove-requires c =
    let some : node_in c.self.inside.tree.items c.args.id ≡ Some c.in-Some.node = sym (c.self.invariant.named c.args.id) ∙ sym c.find.ensures ∙ c.in-Some.is in
    let (us, (m, (vs, is, same, found))) = node_some c.self.inside.tree.items c.args.id c.in-Some.node some in (us, (m, (vs, is)))

pub invariant_of-self : goal.invariant_of-self
invariant_of-self c =
    let items = c.self.inside.tree.items in let node = c.in-Some.node in let inv = c.self.invariant in
    let some : node_in items c.args.id ≡ Some node = sym (inv.named c.args.id) ∙ sym c.find.ensures ∙ c.in-Some.is in
    let (us, (m, (vs, is, same, found))) = node_some items c.args.id node some in
    let left = c.remove.ensures.items us m vs is in
    let distinct : HasDistinctIds (marks_of (us ++ (node, m) ∷ vs)) = subst (λ l. HasDistinctIds (marks_of l)) is inv.distinct in record {
      loose = c.remove.ensures.loose ∙ inv.loose;
      values = subst AreMarks (sym left) (each_without is_mark us (node, m) vs (subst AreMarks is inv.values));
      ordered = subst (λ l. IsInOrder (marks_of l)) (sym left) (ordered_without us (node, m) vs (subst (λ l. IsInOrder (marks_of l)) is inv.ordered));
      distinct = subst (λ l. HasDistinctIds (marks_of l)) (sym left) (distinct_without us (node, m) vs distinct);
      own = subst (λ l. HaveOwnNames l []) (sym left) (own_without us (node, m) vs (subst (λ l. HaveOwnNames l []) is inv.own));
      named = λ k.
          c.forget.ensures.node k ∙ ap (λ o. cond (eqb k c.args.id) None o) (inv.named k ∙ ap (λ l. node_in l k) is)
          ∙ ap (λ (n : ℕ). cond (eqb k n) None (node_in (us ++ (node, m) ∷ vs) k)) (sym same)
          ∙ sym (node_without us (node, m) vs (fresh_at us (node, m) vs distinct) k) ∙ ap (λ l. node_in l k) (sym left);
      all = omega (arith, inv.all, c.forget.ensures.count, ap length is, ap length left, length-append us vs, length-append us ((node, m) ∷ vs));
    }

pub returns-clause-marks : goal.returns-clause-marks
returns-clause-marks c =
    let items = c.self.inside.tree.items in let node = c.in-Some.node in
    let some : node_in items c.args.id ≡ Some node = sym (c.self.invariant.named c.args.id) ∙ sym c.find.ensures ∙ c.in-Some.is in
    let (us, (m, (vs, is, same, found))) = node_some items c.args.id node some in
    let distinct : HasDistinctIds (marks_of (us ++ (node, m) ∷ vs)) = subst (λ l. HasDistinctIds (marks_of l)) is c.self.invariant.distinct in
    ap marks_of (c.remove.ensures.items us m vs is) ∙ taken_out us (node, m) vs distinct ∙ ap (λ (n : ℕ). without n (marks_of (us ++ (node, m) ∷ vs))) same ∙ ap (λ l. without c.args.id (marks_of l)) (sym is) ∙ ap (λ (s : Shown). without c.args.id s.marks) c.self.view_is

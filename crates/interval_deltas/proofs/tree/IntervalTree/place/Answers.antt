use Rattle.std.proofs.Common.{◌≡◌, ◌∷◌, Some, None, sym, ◌∙◌, ap, subst}
use Rattle.decoration_rules.specs.Marks.{mark_of}
use Rattle.decoration_rules.proofs.MarkLists.{mark_of-none}
use Rattle.interval_deltas.specs.declared.weave.KeptMark.{KeptMark}
use Rattle.interval_deltas.specs.Weave.{is_mark}
use Rattle.interval_deltas.specs.Kept.{AreMarks, as_mark, marks_of}
use Rattle.interval_deltas.specs.Tree.{Shown, node_in}
use Rattle.interval_deltas.proofs.Items.{each_right}
use Rattle.interval_deltas.proofs.Lists.{node_some, mark_none}
use Rattle.interval_deltas.proofs.tree.IntervalTree.place.Goals as goal

pub returns-in_err-node : goal.returns-in_err-node
returns-in_err-node c =
    let none : node_in c.self.inside.tree.items c.args.id ≡ None = sym (c.self.invariant.named c.args.id) ∙ sym c.find.ensures ∙ c.in_err-node.was in
    c.from_residual.ensures ∙ sym (mark_of-none (marks_of c.self.inside.tree.items) c.args.id (mark_none c.self.inside.tree.items c.args.id none)) ∙ ap (λ (s : Shown). mark_of s.marks c.args.id) c.self.view_is

pub get-requires : goal.get-requires
get-requires c =
    let some : node_in c.self.inside.tree.items c.args.id ≡ Some c.in_ok-node.node = sym (c.self.invariant.named c.args.id) ∙ sym c.find.ensures ∙ c.in_ok-node.was in
    let (us, (m, (vs, is, same, found))) = node_some c.self.inside.tree.items c.args.id c.in_ok-node.node some in (us, (m, (vs, is)))

pub mark-requires : goal.mark-requires
mark-requires c =
    let some : node_in c.self.inside.tree.items c.args.id ≡ Some c.in_ok-node.node = sym (c.self.invariant.named c.args.id) ∙ sym c.find.ensures ∙ c.in_ok-node.was in
    let (us, (m, (vs, is, same, found))) = node_some c.self.inside.tree.items c.args.id c.in_ok-node.node some in
    subst is_mark (sym (c.get.ensures us m vs is)) (each_right is_mark us ((c.in_ok-node.node, m) ∷ vs) (subst AreMarks is c.self.invariant.values)).0

pub returns : goal.returns
returns c =
    let some : node_in c.self.inside.tree.items c.args.id ≡ Some c.in_ok-node.node = sym (c.self.invariant.named c.args.id) ∙ sym c.find.ensures ∙ c.in_ok-node.was in
    let (us, (m, (vs, is, same, found))) = node_some c.self.inside.tree.items c.args.id c.in_ok-node.node some in
    ap Some c.mark.ensures ∙ ap (λ (k : KeptMark). Some (as_mark k)) (c.get.ensures us m vs is) ∙ sym found ∙ ap (λ (s : Shown). mark_of s.marks c.args.id) c.self.view_is

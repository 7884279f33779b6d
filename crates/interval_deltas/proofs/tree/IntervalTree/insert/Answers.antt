use Rattle.std.proofs.Common.{◌≡◌, ◌∷◌, ◌++◌, false, cond, eqb, [], length, Some, None, sym, ◌∙◌, ap, subst, arith}
use Rattle.std.proofs.lemmas.List.{length-append}
use Rattle.rb_arena.specs.Names.{HaveOwnNames}
use Rattle.rb_arena.specs.RbTree.{AtItem, last_or}
use Rattle.decoration_rules.specs.Marks.{is_live, put_in_order, IsInOrder, HasDistinctIds}
use Rattle.decoration_rules.proofs.MarkLists.{IsInOrder-put, distinct_put}
use Rattle.interval_deltas.specs.declared.weave.KeptMark.{KeptMark}
use Rattle.interval_deltas.specs.declared.weave.Place.{Place}
use Rattle.interval_deltas.specs.Weave.{is_mark}
use Rattle.interval_deltas.specs.Kept.{AreMarks, PartedAt, mark_at, as_mark, kept_of, marks_of}
use Rattle.interval_deltas.specs.Tree.{Shown, node_in}
use Rattle.interval_deltas.proofs.Landing.{each_put}
use Rattle.interval_deltas.proofs.Lists.{node_none, put_parted}
use Rattle.interval_deltas.proofs.Own.{own_put}
use Rattle.interval_deltas.proofs.Trees.{node_put}
use Rattle.interval_deltas.proofs.tree.IntervalTree.insert.Goals as goal

pub put-requires-clause-new : goal.put-requires-clause-new
put-requires-clause-new c =
    c.self.invariant.named c.args.mark.id ∙ node_none c.self.inside.tree.items c.args.mark.id (ap (λ (s : Shown). is_live s.marks c.args.mark.id) c.self.view_is ∙ c.requires.new)

pub prev-before-requires : goal.prev-before-requires
prev-before-requires c =
    let items = c.self.inside.tree.items in
    let parted = subst (λ (p : Place). PartedAt items (mark_at p) c.last_before-at.result) c.place.ensures c.last_before-at.ensures in
    let (us, (vs, s, before, behind)) = parted in (us, (c.of-kept.result, (vs, c.insert_behind-node.ensures.items us vs s)))

pub invariant_of-self : goal.invariant_of-self
invariant_of-self c =
    let items = c.self.inside.tree.items in let node = c.insert_behind-node.result in let kept = c.of-kept.result in let mark = c.args.mark in let inv = c.self.invariant in
    let parted = subst (λ (p : Place). PartedAt items (mark_at p) c.last_before-at.result) c.place.ensures c.last_before-at.ensures in
    let (us, (vs, s, before, behind)) = subst (λ (k : KeptMark). PartedAt items (as_mark k) c.last_before-at.result) c.of-kept.ensures.kept parted in
    let put : c.insert_behind-node.new.tree.items ≡ us ++ (node, kept_of mark) ∷ vs = c.insert_behind-node.ensures.items us vs s ∙ ap (λ (k : KeptMark). us ++ (node, k) ∷ vs) c.of-kept.ensures.kept in
    let fresh : is_live (marks_of (us ++ vs)) mark.id ≡ false = ap (λ l. is_live (marks_of l) mark.id) (sym s.0) ∙ ap (λ (v : Shown). is_live v.marks mark.id) c.self.view_is ∙ c.requires.new in
    let parts : marks_of (us ++ (node, kept_of mark) ∷ vs) ≡ put_in_order mark (marks_of (us ++ vs)) = put_parted us (node, kept_of mark) vs before behind fresh in record {
      loose = c.insert_behind-node.ensures.loose ∙ inv.loose;
      values = subst AreMarks (sym put) (each_put is_mark us (node, kept_of mark) vs (subst is_mark c.of-kept.ensures.kept c.of-kept.ensures.value) (subst AreMarks s.0 inv.values));
      ordered = subst (λ l. IsInOrder (marks_of l)) (sym put) (subst IsInOrder (sym parts) (IsInOrder-put mark (marks_of (us ++ vs)) fresh (subst (λ l. IsInOrder (marks_of l)) s.0 inv.ordered)));
      distinct = subst (λ l. HasDistinctIds (marks_of l)) (sym put) (subst HasDistinctIds (sym parts) (distinct_put mark (marks_of (us ++ vs)) fresh (subst (λ l. HasDistinctIds (marks_of l)) s.0 inv.distinct)));
      own = subst (λ l. HaveOwnNames l []) (sym put) (own_put us node (kept_of mark) vs (subst (λ l. HaveOwnNames l []) s.0 inv.own) c.prev-before.result (subst (λ l. AtItem l node (λ ws x zs. c.prev-before.result ≡ last_or None ws)) put c.prev-before.ensures));
      named = λ k.
          c.put.ensures.node k ∙ ap (λ o. cond (eqb k mark.id) (Some node) o) (inv.named k ∙ ap (λ l. node_in l k) s.0)
          ∙ sym (node_put us (node, kept_of mark) vs fresh k) ∙ ap (λ l. node_in l k) (sym put);
      all = omega (arith, inv.all, c.put.ensures.count, ap length s.0, ap length put, length-append us vs, length-append us ((node, kept_of mark) ∷ vs));
    }

pub returns-clause-marks : goal.returns-clause-marks
returns-clause-marks c =
    let items = c.self.inside.tree.items in let node = c.insert_behind-node.result in let mark = c.args.mark in
    let parted = subst (λ (p : Place). PartedAt items (mark_at p) c.last_before-at.result) c.place.ensures c.last_before-at.ensures in
    let (us, (vs, s, before, behind)) = subst (λ (k : KeptMark). PartedAt items (as_mark k) c.last_before-at.result) c.of-kept.ensures.kept parted in
    let put : c.insert_behind-node.new.tree.items ≡ us ++ (node, kept_of mark) ∷ vs = c.insert_behind-node.ensures.items us vs s ∙ ap (λ (k : KeptMark). us ++ (node, k) ∷ vs) c.of-kept.ensures.kept in
    let fresh : is_live (marks_of (us ++ vs)) mark.id ≡ false = ap (λ l. is_live (marks_of l) mark.id) (sym s.0) ∙ ap (λ (v : Shown). is_live v.marks mark.id) c.self.view_is ∙ c.requires.new in
    ap marks_of put ∙ put_parted us (node, kept_of mark) vs before behind fresh ∙ ap (λ l. put_in_order mark (marks_of l)) (sym s.0) ∙ ap (λ (v : Shown). put_in_order mark v.marks) c.self.view_is

-- Lists of items after an insertion, a removal or a move of an item.
use Rattle.std.proofs.Common.{◌≡◌, ℕ, ◌≤◌, suc, true, false, not, cond, eqb, inl, inr, List, [], ◌∷◌, ◌++◌, length, map, Option, Some, None, refl, sym, ◌∙◌, ap, subst, arith, append_assoc}
use Rattle.std.specs.Prelude.{◌==◌}
use Rattle.std.specs.List.Sorted.{IsPermutation}
use Rattle.std.proofs.lemmas.Bool.{or_parts, or_from, both_ways, cases_Bool, cond-true, cond-false, ne_eqb, eq-eqb, eqb-true}
use Rattle.std.proofs.lemmas.List.Sums.{sum_by-append, sum_by-cons}
use Rattle.std.proofs.lemmas.List.Sorted.{IsPermutation-trans, IsPermutation-sym, IsPermutation-middle, IsPermutation-append_left}
use Rattle.rb_arena.specs.Names.{times_named, HaveOwnNames}
use Rattle.rb_arena.specs.RbTree.{SplitsAfter}
use Rattle.decoration_rules.specs.declared.Mark.{Mark}
use Rattle.decoration_rules.specs.Marks.{stands_before, put_in_order, has_id, is_live, mark_of, HasDistinctIds, without}
use Rattle.decoration_rules.proofs.OrderLemmas.{stands_before-total}
use Rattle.decoration_rules.proofs.MarkLists.{without-none}
use Rattle.interval_deltas.specs.declared.weave.KeptMark.{KeptMark}
use Rattle.interval_deltas.specs.Kept.{Each, as_mark, marks_of, changed_kept, changed_items}
use Rattle.interval_deltas.specs.Tree.{node_in}
use Rattle.interval_deltas.proofs.Sorting.{stands_before-weak}

-- Names.

module _ {X : Type 0} where
  one_named : (id : ℕ) (us : List (ℕ × X)) (x : X) (vs : List (ℕ × X)) → 1 ≤ times_named id (us ++ (id, x) ∷ vs)
  one_named id us x vs =
      let named : (ℕ × X) → ℕ = λ item. cond (id == item.0) 1 0 in
      let own : ◌≡◌ {A = ℕ} (cond (id == id) 1 0) 1 = cond-true (id == id) 1 0 (eq-eqb id id refl) in
      omega (arith, own, sum_by-append named us ((id, x) ∷ vs), sum_by-cons named (id, x) vs)

  two_named : (id : ℕ) (x y : X) (us vs : List (ℕ × X)) → 2 ≤ times_named id ((id, x) ∷ us ++ (id, y) ∷ vs)
  two_named id x y us vs =
      let named : (ℕ × X) → ℕ = λ item. cond (id == item.0) 1 0 in
      let own : ◌≡◌ {A = ℕ} (cond (id == id) 1 0) 1 = cond-true (id == id) 1 0 (eq-eqb id id refl) in
      omega (arith, own, one_named id us y vs, sum_by-cons named (id, x) (us ++ (id, y) ∷ vs))

  tail_is : (a b : ℕ × X) (us vs : List (ℕ × X)) → a ∷ us ≡ b ∷ vs → us ≡ vs
  tail_is a b us vs e = cc

  head_is : (a b : ℕ × X) (us vs : List (ℕ × X)) → a ∷ us ≡ b ∷ vs → a ≡ b
  head_is a b us vs e = cc

  -- only one position has that name
  pub same_split : (id : ℕ) (us ws : List (ℕ × X)) (x y : X) (vs zs : List (ℕ × X)) → us ++ (id, x) ∷ vs ≡ ws ++ (id, y) ∷ zs → times_named id (us ++ (id, x) ∷ vs) ≤ 1
      → (us ++ (id, x) ∷ [] ≡ ws ++ (id, y) ∷ []) × (vs ≡ zs)
  same_split id [] [] x y vs zs e once = (ap (λ (f : ℕ × X). f ∷ []) (head_is (id, x) (id, y) vs zs e), tail_is (id, x) (id, y) vs zs e)
  same_split id [] (w ∷ ws) x y vs zs e once =
      absurd (let all = ap (λ l. times_named id ((id, x) ∷ l)) (tail_is (id, x) w vs (ws ++ (id, y) ∷ zs) e) in omega (arith, all, two_named id x y ws zs, once))
  same_split id (u ∷ us) [] x y vs zs e once =
      absurd (let all = ap (times_named id) (ap (λ (f : ℕ × X). f ∷ us ++ (id, x) ∷ vs) (head_is u (id, y) (us ++ (id, x) ∷ vs) zs e)) in omega (arith, all, two_named id y x us vs, once))
  same_split id (u ∷ us) (w ∷ ws) x y vs zs e once =
      let named : (ℕ × X) → ℕ = λ item. cond (id == item.0) 1 0 in
      let (first, second) = same_split id us ws x y vs zs (tail_is u w (us ++ (id, x) ∷ vs) (ws ++ (id, y) ∷ zs) e) (omega (arith, once, sum_by-cons named u (us ++ (id, x) ∷ vs))) in
      ((λ i. head_is u w (us ++ (id, x) ∷ vs) (ws ++ (id, y) ∷ zs) e i ∷ first i), second)

  pub same_after : (items loose : List (ℕ × X)) → HaveOwnNames items loose → (id : Option ℕ) (us vs ws zs : List (ℕ × X)) → SplitsAfter items id us vs → SplitsAfter items id ws zs → (us ≡ ws) × (vs ≡ zs)
  same_after items loose own None us vs ws zs (e, ends) (f, stops) =
      (ends ∙ sym stops, sym (ap (λ l. l ++ vs) ends) ∙ sym e ∙ f ∙ ap (λ l. l ++ zs) stops)
  same_after items loose own (Some id) us vs ws zs (e, (ks, (x, first))) (f, (bs, (y, second))) =
      let whole : items ≡ ks ++ (id, x) ∷ vs = e ∙ ap (λ l. l ++ vs) first ∙ append_assoc ks ((id, x) ∷ []) vs in
      let other : items ≡ bs ++ (id, y) ∷ zs = f ∙ ap (λ l. l ++ zs) second ∙ append_assoc bs ((id, y) ∷ []) zs in
      let few : times_named id (ks ++ (id, x) ∷ vs) ≤ 1 = subst (λ l. times_named id l ≤ 1) whole (omega (arith, own id)) in
      let (front, back) = same_split id ks bs x y vs zs (sym whole ∙ other) few in
      (first ∙ front ∙ sym second, back)

  -- An item that is moved elsewhere.

  pub lifted : (us : List (ℕ × X)) (e : ℕ × X) (vs ls : List (ℕ × X)) → IsPermutation ((us ++ e ∷ vs) ++ ls) ((us ++ vs) ++ e ∷ ls)
  lifted us e vs ls =
      IsPermutation-trans _ _ _ (IsPermutation-append_left ls (us ++ e ∷ vs) (e ∷ (us ++ vs)) (IsPermutation-middle us e vs)) (IsPermutation-sym _ _ (IsPermutation-middle (us ++ vs) e ls))

pub marks-append : (us vs : List (ℕ × KeptMark)) → marks_of (us ++ vs) ≡ marks_of us ++ marks_of vs
marks-append [] vs = refl
marks-append (u ∷ us) vs = ap (λ l. as_mark u.1 ∷ l) (marks-append us vs)

pub changed-append : (to : Mark → Mark) (us vs : List (ℕ × KeptMark)) → changed_items to (us ++ vs) ≡ changed_items to us ++ changed_items to vs
changed-append to [] vs = refl
changed-append to (u ∷ us) vs = ap (λ l. (u.0, changed_kept to u.1) ∷ l) (changed-append to us vs)

pub marks-changed : (to : Mark → Mark) (es : List (ℕ × KeptMark)) → marks_of (changed_items to es) ≡ map to (marks_of es)
marks-changed to [] = refl
marks-changed to (e ∷ es) = ap (λ l. to (as_mark e.1) ∷ l) (marks-changed to es)

pub length-marks : (es : List (ℕ × KeptMark)) → length (marks_of es) ≡ length es
length-marks [] = refl
length-marks (e ∷ es) = ap suc (length-marks es)

-- An item is inserted.

-- its id is new
pub fresh_at : (us : List (ℕ × KeptMark)) (e : ℕ × KeptMark) (vs : List (ℕ × KeptMark)) → HasDistinctIds (marks_of (us ++ e ∷ vs)) → is_live (marks_of (us ++ vs)) e.1.label.id ≡ false
fresh_at [] e vs distinct = distinct.0
fresh_at (u ∷ us) e vs distinct =
    or_from (has_id e.1.label.id (as_mark u.1)) (is_live (marks_of (us ++ vs)) e.1.label.id)
    (ne_eqb u.1.label.id e.1.label.id (λ same. both_ways (has_id u.1.label.id (as_mark e.1)) (other us distinct.0) (eq-eqb e.1.label.id u.1.label.id (sym same))))
    (fresh_at us e vs distinct.1)
  where
    other : (ws : List (ℕ × KeptMark)) → is_live (marks_of (ws ++ e ∷ vs)) u.1.label.id ≡ false → has_id u.1.label.id (as_mark e.1) ≡ false
    other [] none = (or_parts (has_id u.1.label.id (as_mark e.1)) (is_live (marks_of vs) u.1.label.id) none).0
    other (w ∷ ws) none = other ws (or_parts (has_id u.1.label.id (as_mark w.1)) (is_live (marks_of (ws ++ e ∷ vs)) u.1.label.id) none).1

apart_from : (m : Mark) (x : Mark) (xs : List Mark) → is_live (x ∷ xs) m.id ≡ false → eqb x.id m.id ≡ false
apart_from m x xs fresh = (or_parts (has_id m.id x) (is_live xs m.id) fresh).0

pub put_parted : (us : List (ℕ × KeptMark)) (e : ℕ × KeptMark) (vs : List (ℕ × KeptMark)) → Each (λ m. stands_before (as_mark m) (as_mark e.1) ≡ true) us → Each (λ m. stands_before (as_mark m) (as_mark e.1) ≡ false) vs
    → is_live (marks_of (us ++ vs)) e.1.label.id ≡ false → marks_of (us ++ e ∷ vs) ≡ put_in_order (as_mark e.1) (marks_of (us ++ vs))
put_parted [] e [] before behind fresh = refl
put_parted [] e (v ∷ vs) before behind fresh =
    sym (cond-true (stands_before (as_mark e.1) (as_mark v.1)) (as_mark e.1 ∷ as_mark v.1 ∷ marks_of vs) (as_mark v.1 ∷ put_in_order (as_mark e.1) (marks_of vs))
    (stands_before-total (as_mark v.1) (as_mark e.1) (apart_from (as_mark e.1) (as_mark v.1) (marks_of vs) fresh) behind.0))
put_parted (u ∷ us) e vs before behind fresh =
    ap (λ l. as_mark u.1 ∷ l) (put_parted us e vs before.1 behind (or_parts (has_id e.1.label.id (as_mark u.1)) (is_live (marks_of (us ++ vs)) e.1.label.id) fresh).1)
    ∙ sym (cond-false (stands_before (as_mark e.1) (as_mark u.1)) (as_mark e.1 ∷ as_mark u.1 ∷ marks_of (us ++ vs)) (as_mark u.1 ∷ put_in_order (as_mark e.1) (marks_of (us ++ vs)))
    (stands_before-weak.one_way (as_mark u.1) (as_mark e.1) before.0))

-- An item is removed.

keeps : (id : ℕ) (x : Mark) (xs : List Mark) → has_id id x ≡ false → without id (x ∷ xs) ≡ x ∷ without id xs
keeps id x xs other = cond-true (not (has_id id x)) (x ∷ without id xs) (without id xs) (ap not other)

pub taken_out : (us : List (ℕ × KeptMark)) (e : ℕ × KeptMark) (vs : List (ℕ × KeptMark)) → HasDistinctIds (marks_of (us ++ e ∷ vs)) → marks_of (us ++ vs) ≡ without e.1.label.id (marks_of (us ++ e ∷ vs))
taken_out us e vs distinct = go us (fresh_at us e vs distinct)
  where
    go : (ws : List (ℕ × KeptMark)) → is_live (marks_of (ws ++ vs)) e.1.label.id ≡ false → marks_of (ws ++ vs) ≡ without e.1.label.id (marks_of (ws ++ e ∷ vs))
    go [] none =
        sym (without-none e.1.label.id (marks_of vs) none)
        ∙ sym (cond-false (not (has_id e.1.label.id (as_mark e.1))) (as_mark e.1 ∷ without e.1.label.id (marks_of vs)) (without e.1.label.id (marks_of vs)) (ap not (eq-eqb e.1.label.id e.1.label.id refl)))
    go (w ∷ ws) none =
        let parts = or_parts (has_id e.1.label.id (as_mark w.1)) (is_live (marks_of (ws ++ vs)) e.1.label.id) none in
        ap (λ l. as_mark w.1 ∷ l) (go ws parts.1) ∙ sym (keeps e.1.label.id (as_mark w.1) (marks_of (ws ++ e ∷ vs)) parts.0)

pub distinct_without : (us : List (ℕ × KeptMark)) (e : ℕ × KeptMark) (vs : List (ℕ × KeptMark)) → HasDistinctIds (marks_of (us ++ e ∷ vs)) → HasDistinctIds (marks_of (us ++ vs))
distinct_without [] e vs distinct = distinct.1
distinct_without (u ∷ us) e vs distinct = (none us distinct.0, distinct_without us e vs distinct.1)
  where
    none : (ws : List (ℕ × KeptMark)) → is_live (marks_of (ws ++ e ∷ vs)) u.1.label.id ≡ false → is_live (marks_of (ws ++ vs)) u.1.label.id ≡ false
    none [] h = (or_parts (has_id u.1.label.id (as_mark e.1)) (is_live (marks_of vs) u.1.label.id) h).1
    none (w ∷ ws) h =
        let parts = or_parts (has_id u.1.label.id (as_mark w.1)) (is_live (marks_of (ws ++ e ∷ vs)) u.1.label.id) h in
        or_from (has_id u.1.label.id (as_mark w.1)) (is_live (marks_of (ws ++ vs)) u.1.label.id) parts.0 (none ws parts.1)

-- Nodes of ids.

pub node_none : (es : List (ℕ × KeptMark)) (id : ℕ) → is_live (marks_of es) id ≡ false → node_in es id ≡ None
node_none [] id none = refl
node_none (e ∷ es) id none =
    let parts = or_parts (has_id id (as_mark e.1)) (is_live (marks_of es) id) none in
    cond-false (eqb id e.1.label.id) (Some e.0) (node_in es id) (ne_eqb id e.1.label.id (λ same. both_ways (has_id id (as_mark e.1)) parts.0 (eq-eqb e.1.label.id id (sym same))))
    ∙ node_none es id parts.1

-- the item of the node of an id
pub node_some : (es : List (ℕ × KeptMark)) (id node : ℕ) → node_in es id ≡ Some node
    → (us : List (ℕ × KeptMark)) × ((m : KeptMark) × ((vs : List (ℕ × KeptMark)) × (es ≡ us ++ (node, m) ∷ vs) × (m.label.id ≡ id) × (mark_of (marks_of es) id ≡ Some (as_mark m))))
node_some [] id node e = absurd (cc)
node_some (x ∷ xs) id node e = elim (cases_Bool (eqb id x.1.label.id)) [
  | inl here ↦
      let is : Some x.0 ≡ Some node = sym (cond-true (eqb id x.1.label.id) (Some x.0) (node_in xs id) here) ∙ e in
      let own : x.0 ≡ node = some_is x.0 node is in
      let same : id ≡ x.1.label.id = eqb-true id x.1.label.id here in (
        [],
        (
          x.1,
          (xs, (λ i. (own i, x.1) ∷ xs), sym same, cond-true (has_id id (as_mark x.1)) (Some (as_mark x.1)) (mark_of (marks_of xs) id) (eq-eqb x.1.label.id id (sym same))),
        ),
      )
  | inr away ↦
      let (us, (m, (vs, is, same, found))) = node_some xs id node (sym (cond-false (eqb id x.1.label.id) (Some x.0) (node_in xs id) away) ∙ e) in
      let other : has_id id (as_mark x.1) ≡ false = ne_eqb x.1.label.id id (λ s. both_ways (eqb id x.1.label.id) away (eq-eqb id x.1.label.id (sym s))) in
      (x ∷ us, (m, (vs, ap (λ l. x ∷ l) is, same, cond-false (has_id id (as_mark x.1)) (Some (as_mark x.1)) (mark_of (marks_of xs) id) other ∙ found)))
]
  where
    some_is : (a b : ℕ) → Some a ≡ Some b → a ≡ b
    some_is a b s = cc

pub mark_none : (es : List (ℕ × KeptMark)) (id : ℕ) → node_in es id ≡ None → is_live (marks_of es) id ≡ false
mark_none [] id e = refl
mark_none (x ∷ xs) id e = elim (cases_Bool (eqb id x.1.label.id)) [
  | inl here ↦ absurd (no_some x.0 (sym (cond-true (eqb id x.1.label.id) (Some x.0) (node_in xs id) here) ∙ e))
  | inr away ↦
      or_from (has_id id (as_mark x.1)) (is_live (marks_of xs) id) (ne_eqb x.1.label.id id (λ s. both_ways (eqb id x.1.label.id) away (eq-eqb id x.1.label.id (sym s))))
      (mark_none xs id (sym (cond-false (eqb id x.1.label.id) (Some x.0) (node_in xs id) away) ∙ e))
]
  where
    no_some : (a : ℕ) → Some a ≡ None → ⊥
    no_some a s = absurd (cc)

pub node_changed : (to : Mark → Mark) → ((m : Mark) → (to m).id ≡ m.id) → (es : List (ℕ × KeptMark)) (id : ℕ) → node_in (changed_items to es) id ≡ node_in es id
node_changed to keeps [] id = refl
node_changed to keeps (e ∷ es) id = λ i. cond (eqb id (keeps (as_mark e.1) i)) (Some e.0) (node_changed to keeps es id i)

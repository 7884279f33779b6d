-- The invariant of a tree under an insertion, a removal and a move of all decorations.
use Rattle.std.proofs.Common.{◌≡◌, ℕ, ◌+◌, ◌-◌, ◌<◌, ◌≤◌, zero, suc, true, false, cond, eqb, inl, inr, List, [], ◌∷◌, ◌++◌, length, get_or, map, Option, Some, None, refl, sym, ◌∙◌, ap, subst, arith}
use Rattle.std.specs.List.{All, Contains}
use Rattle.std.specs.List.Sorted.{IsPermutation}
use Rattle.std.proofs.lemmas.Bool.{or_parts, both_ways, cases_Bool, cond-true, cond-false, eq-eqb, eqb-true}
use Rattle.std.proofs.lemmas.Bool.Decides.{nat_tests}
use Rattle.std.proofs.lemmas.Int.{ints}
use Rattle.std.proofs.lemmas.List.{length-append, length-map, get_or_at}
use Rattle.std.proofs.lemmas.List.Elements.{All-head, All-tail}
use Rattle.std.proofs.lemmas.List.Sorted.{IsPermutation-map, list_any-IsPermutation, length_permutation, Contains-permutation}
use Rattle.text_lengths.specs.declared.Span.{Span}
use Rattle.decoration_rules.specs.declared.Edit.{Edit}
use Rattle.decoration_rules.specs.declared.Mark.{Mark}
use Rattle.decoration_rules.specs.Moves.{offset_limit, moved_mark}
use Rattle.decoration_rules.specs.Marks.{stands_before, in_order, IsInOrder, has_id, is_live, HasDistinctIds}
use Rattle.decoration_rules.proofs.MarkLists.{in_order-unique, distinct_map}
use Rattle.interval_deltas.specs.declared.weave.KeptMark.{KeptMark}
use Rattle.interval_deltas.specs.Weave.{is_mark}
use Rattle.interval_deltas.specs.Kept.{CanMove, IsUntouched, as_mark, marks_of, moved_kept, changed_kept, changed_items}
use Rattle.interval_deltas.specs.Tree.{node_in}
use Rattle.interval_deltas.proofs.Lists.{marks-changed, fresh_at, node_none, node_some, mark_none, node_changed}
use Rattle.interval_deltas.proofs.Moving.{grounded, still_kept, span_past, nat_order}
use Rattle.interval_deltas.proofs.Naming.{past_other}
use Rattle.interval_deltas.proofs.Sorting.{HaveSame-permutation, distinct_permutation}

-- Nodes of ids.

pub node_put : (us : List (ℕ × KeptMark)) (e : ℕ × KeptMark) (vs : List (ℕ × KeptMark)) → is_live (marks_of (us ++ vs)) e.1.label.id ≡ false → (k : ℕ)
    → node_in (us ++ e ∷ vs) k ≡ cond (eqb k e.1.label.id) (Some e.0) (node_in (us ++ vs) k)
node_put [] e vs fresh k = refl
node_put (u ∷ us) e vs fresh k =
    let parts = or_parts (has_id e.1.label.id (as_mark u.1)) (is_live (marks_of (us ++ vs)) e.1.label.id) fresh in
    ap (cond (eqb k u.1.label.id) (Some u.0)) (node_put us e vs parts.1 k)
    ∙ past_other k e.1.label.id u.1.label.id (Some u.0) (node_in (us ++ vs) k) (Some e.0) (λ same. both_ways (has_id e.1.label.id (as_mark u.1)) parts.0 (eq-eqb u.1.label.id e.1.label.id same))

pub node_without : (us : List (ℕ × KeptMark)) (e : ℕ × KeptMark) (vs : List (ℕ × KeptMark)) → is_live (marks_of (us ++ vs)) e.1.label.id ≡ false → (k : ℕ)
    → node_in (us ++ vs) k ≡ cond (eqb k e.1.label.id) None (node_in (us ++ e ∷ vs) k)
node_without us e vs fresh k = elim (cases_Bool (eqb k e.1.label.id)) [
  | inl here ↦
      ap (node_in (us ++ vs)) (eqb-true k e.1.label.id here) ∙ node_none (us ++ vs) e.1.label.id fresh
      ∙ sym (cond-true (eqb k e.1.label.id) None (node_in (us ++ e ∷ vs) k) here)
  | inr away ↦
      sym (cond-false (eqb k e.1.label.id) (Some e.0) (node_in (us ++ vs) k) away) ∙ sym (node_put us e vs fresh k)
      ∙ sym (cond-false (eqb k e.1.label.id) None (node_in (us ++ e ∷ vs) k) away)
]

-- the item that has an id
node_at : (us : List (ℕ × KeptMark)) (e : ℕ × KeptMark) (vs : List (ℕ × KeptMark)) → HasDistinctIds (marks_of (us ++ e ∷ vs)) → node_in (us ++ e ∷ vs) e.1.label.id ≡ Some e.0
node_at us e vs distinct =
    node_put us e vs (fresh_at us e vs distinct) e.1.label.id
    ∙ cond-true (eqb e.1.label.id e.1.label.id) (Some e.0) (node_in (us ++ vs) e.1.label.id) (eq-eqb e.1.label.id e.1.label.id refl)

split_at : (es : List (ℕ × KeptMark)) (i : ℕ) (d : ℕ × KeptMark) → i < length es → (us : List (ℕ × KeptMark)) × ((vs : List (ℕ × KeptMark)) × (es ≡ us ++ get_or es i d ∷ vs))
split_at [] i d below = absurd (omega arith)
split_at (e ∷ es) zero d below = ([], (es, refl))
split_at (e ∷ es) (suc i) d below = let (us, (vs, is)) = split_at es i d (omega arith) in (e ∷ us, (vs, ap (λ l. e ∷ l) is))

node_contains : (es : List (ℕ × KeptMark)) (e : ℕ × KeptMark) → HasDistinctIds (marks_of es) → Contains es e → node_in es e.1.label.id ≡ Some e.0
node_contains es e distinct (i, below, at) =
    let (us, (vs, is)) = split_at es i e below in
    let whole : es ≡ us ++ e ∷ vs = is ∙ ap (λ (f : ℕ × KeptMark). us ++ f ∷ vs) at in
    ap (λ l. node_in l e.1.label.id) whole ∙ node_at us e vs (subst (λ l. HasDistinctIds (marks_of l)) whole distinct)

contains_at : (ws : List (ℕ × KeptMark)) (f : ℕ × KeptMark) (zs es : List (ℕ × KeptMark)) → es ≡ ws ++ f ∷ zs → Contains es f
contains_at ws f zs es is = subst (λ l. Contains l f) (sym is) (length ws, omega (arith, length-append ws (f ∷ zs)), get_or_at ws f zs f (length ws) refl)

-- the same in another order
pub node_permutation : (xs ys : List (ℕ × KeptMark)) → IsPermutation xs ys → HasDistinctIds (marks_of xs) → (k : ℕ) → node_in xs k ≡ node_in ys k
node_permutation xs ys moved distinct k = by_node (node_in xs k) refl
  where
    by_node : (o : Option ℕ) → node_in xs k ≡ o → node_in xs k ≡ node_in ys k
    by_node None e =
        e ∙ sym (node_none ys k (sym (list_any-IsPermutation (has_id k) (marks_of xs) (marks_of ys) (IsPermutation-map (λ (f : ℕ × KeptMark). as_mark f.1) xs ys moved)) ∙ mark_none xs k e))
    by_node (Some n) e =
        let (us, (m, (vs, is, same, found))) = node_some xs k n e in
        let there : Contains ys (n, m) = Contains-permutation xs ys (n, m) moved (contains_at us (n, m) vs xs is) in
        e ∙ sym (ap (node_in ys) (sym same) ∙ node_contains ys (n, m) (distinct_permutation (marks_of xs) (marks_of ys) (IsPermutation-map (λ (f : ℕ × KeptMark). as_mark f.1) xs ys moved) distinct) there)

-- An edit keeps the decorations that it does not touch in order.

shifted_before : (a b : Mark) (u r : ℕ) → r ≤ a.span.start → a.span.start ≤ a.span.end → r ≤ b.span.start → b.span.start ≤ b.span.end → stands_before a b ≡ true
    → stands_before (record a { span = record { start = a.span.start + u - r; end = a.span.end + u - r } }) (record b { span = record { start = b.span.start + u - r; end = b.span.end + u - r } }) ≡ true
shifted_before a b u r la ua lb ub before = grind (arith, nat_tests)

lower_before : (a b : Mark) (s t : ℕ) → a.span.start < s → stands_before a (record b { span = record { start = s; end = t } }) ≡ true
lower_before a b s t lt = grind (arith, nat_tests)

not_lower : (a b : Mark) → b.span.start < a.span.start → stands_before a b ≡ true → ⊥
not_lower a b lt before = grind (arith, nat_tests)

-- each keeps its place
pub kept_order : (edit : Edit) (x y : KeptMark) → edit.start ≤ edit.end → is_mark x → is_mark y → IsUntouched edit x → IsUntouched edit y → stands_before (as_mark x) (as_mark y) ≡ true
    → stands_before (as_mark (moved_kept edit x)) (as_mark (moved_kept edit y)) ≡ true
kept_order edit x y up h g (inl low) (inl low2) before =
    subst (λ (k : KeptMark). stands_before (as_mark k) (as_mark (moved_kept edit y)) ≡ true) (sym (still_kept edit x h low))
    (subst (λ (k : KeptMark). stands_before (as_mark x) (as_mark k) ≡ true) (sym (still_kept edit y g low2)) before)
kept_order edit x y up h g (inl low) (inr high) before =
    let a = as_mark x in let b = as_mark y in
    let first = grounded x.start h.0 in let second = grounded y.start g.0 in
    subst (λ (k : KeptMark). stands_before (as_mark k) (as_mark (moved_kept edit y)) ≡ true) (sym (still_kept edit x h low))
    (subst (λ (s : Span). stands_before a (record b { span = s }) ≡ true) (sym (span_past b.span b.sticky b.collapse edit up (nat_order y g) (omega (arith, ints, second, high))))
    (lower_before a b (b.span.start + edit.units - (edit.end - edit.start)) (b.span.end + edit.units - (edit.end - edit.start)) (omega (arith, ints, first, second, low, high, h.1, up))))
kept_order edit x y up h g (inr high) (inl low) before =
    let first = grounded x.start h.0 in let second = grounded y.start g.0 in
    absurd (not_lower (as_mark x) (as_mark y) (omega (arith, ints, first, second, low, high, g.1, up)) before)
kept_order edit x y up h g (inr high) (inr high2) before =
    let a = as_mark x in let b = as_mark y in
    let first = grounded x.start h.0 in let second = grounded y.start g.0 in
    subst (λ (s : Span). stands_before (record a { span = s }) (as_mark (moved_kept edit y)) ≡ true) (sym (span_past a.span a.sticky a.collapse edit up (nat_order x h) (omega (arith, ints, first, high))))
    (subst (λ (s : Span). stands_before (record a { span = record { start = a.span.start + edit.units - (edit.end - edit.start); end = a.span.end + edit.units - (edit.end - edit.start) } }) (record b { span = s }) ≡ true)
    (sym (span_past b.span b.sticky b.collapse edit up (nat_order y g) (omega (arith, ints, second, high2))))
    (shifted_before a b edit.units (edit.end - edit.start) (omega (arith, ints, first, high)) (nat_order x h) (omega (arith, ints, second, high2)) (nat_order y g) before))

pub can_move : (edit : Edit) (es : List (ℕ × KeptMark)) → All (λ (mark : Mark). (moved_mark edit mark).span.end < offset_limit) (marks_of es) → CanMove edit es
can_move edit [] h = tt
can_move edit (e ∷ es) h =
    let P : Mark → Type 0 = λ mark. (moved_mark edit mark).span.end < offset_limit in
    (All-head P (as_mark e.1) (marks_of es) h, can_move edit es (All-tail P (as_mark e.1) (marks_of es) h))

-- All decorations are changed and reordered. None changes its id.
module _ (to : Mark → Mark) (keeps : (m : Mark) → (to m).id ≡ m.id) (old new : List (ℕ × KeptMark)) (changed : IsPermutation (changed_items to old) new) where
  pub lengths_changed : length new ≡ length old
  lengths_changed = length_permutation (changed_items to old) new changed ∙ length-map old (λ e. (e.0, changed_kept to e.1))

  module _ (distinct : HasDistinctIds (marks_of old)) where
    distinct_changed : HasDistinctIds (marks_of (changed_items to old))
    distinct_changed = subst HasDistinctIds (sym (marks-changed to old)) (distinct_map to keeps (marks_of old) distinct)

    pub names_changed : (k : ℕ) → node_in old k ≡ node_in new k
    names_changed k = sym (node_changed to keeps old k) ∙ node_permutation (changed_items to old) new changed distinct_changed k

    pub distinct_all_changed : HasDistinctIds (marks_of new)
    distinct_all_changed =
        distinct_permutation (marks_of (changed_items to old)) (marks_of new) (IsPermutation-map (λ (f : ℕ × KeptMark). as_mark f.1) (changed_items to old) new changed) distinct_changed

    pub marks_all_changed : IsInOrder (marks_of new) → marks_of new ≡ in_order (map to (marks_of old))
    marks_all_changed ordered =
        let same : IsPermutation (map to (marks_of old)) (marks_of new) =
        subst (λ l. IsPermutation l (marks_of new)) (marks-changed to old) (IsPermutation-map (λ (e : ℕ × KeptMark). as_mark e.1) (changed_items to old) new changed) in
        in_order-unique (map to (marks_of old)) (marks_of new) (distinct_map to keeps (marks_of old) distinct) ordered (HaveSame-permutation (map to (marks_of old)) (marks_of new) same)

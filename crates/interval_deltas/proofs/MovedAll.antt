-- All decorations of a tree move, each in its node.
use Rattle.std.proofs.Common.{◌≡◌, ℕ, ◌+◌, ◌<◌, ◌≤◌, ℤ, pos, ◌+ℤ◌, ◌<ℤ◌, min, true, false, inl, inr, List, [], ◌∷◌, ◌++◌, Option, Some, None, refl, sym, ◌∙◌, ap, subst, arith, append_assoc}
use Rattle.std.specs.Prelude.{◌⊎◌, int_lt}
use Rattle.std.proofs.lemmas.Int.{ints}
use Rattle.rb_rules.specs.Woven.{Valued}
use Rattle.rb_arena.specs.Names.{HaveOwnNames}
use Rattle.rb_arena.specs.RbTree.{SplitsAfter, PlaceAfter, EndsWith, AtPlace}
use Rattle.decoration_rules.specs.declared.Edit.{Edit}
use Rattle.decoration_rules.specs.Marks.{stands_before, IsInOrder}
use Rattle.decoration_rules.specs.Moves.{offset_limit, moved_mark}
use Rattle.interval_deltas.specs.declared.weave.KeptMark.{KeptMark}
use Rattle.interval_deltas.specs.declared.weave.Place.{Place}
use Rattle.interval_deltas.specs.Weave.{marks, is_mark, is_low}
use Rattle.interval_deltas.specs.Kept.{Each, AreMarks, CanMove, CanFollow, CanFollowAfter, PartedAt, as_mark, capped, mark_at, marks_of, moved_kept, moved_items}
use Rattle.interval_deltas.specs.Mover.{Moving, starting, starts_behind}
use Rattle.interval_deltas.specs.Sorting.{AreSorted, CrossIn, IsNotBelow, LiesIn}
use Rattle.interval_deltas.proofs.Carrying.{all_of, past_all, carried, sorted_where}
use Rattle.interval_deltas.proofs.Items.{each_left, each_right, each_both, each_with, changed_each, each_listed, sum_low}
use Rattle.interval_deltas.proofs.Lists.{changed-append}
use Rattle.interval_deltas.proofs.Moving.{grounded, moved_are}
use Rattle.interval_deltas.proofs.Own.{own_front}
use Rattle.interval_deltas.proofs.Touched.{IsTouched, behind, keeps_order, lies_there}
use Rattle.interval_deltas.proofs.Untouched.{after_edit, starts_before, starts_behind_place}

abbrev Fits : Edit → KeptMark → Type 0
Fits edit m = (moved_mark edit (as_mark m)).span.end < offset_limit

not_behind : (edit : Edit) (m : KeptMark) → is_mark m → stands_before (as_mark m) (mark_at (after_edit edit)) ≡ true → starts_behind edit m ≡ false
not_behind edit m h before =
    let first = grounded m.start h.0 in let lt = starts_before (as_mark m) (min edit.end offset_limit + 1) (mark_at (after_edit edit)) refl refl refl before in
    is_over (capped edit.end) m.start (omega (arith, ints, first, lt))
  where
    is_over : (a b : ℤ) → b <ℤ (a +ℤ pos 1) → int_lt a b ≡ false
    is_over a b lt = grind (arith, ints)

is_behind : (edit : Edit) (m : KeptMark) → is_mark m → stands_before (as_mark m) (mark_at (after_edit edit)) ≡ false → starts_behind edit m ≡ true
is_behind edit m h other =
    let first = grounded m.start h.0 in let le = starts_behind_place (as_mark m) (min edit.end offset_limit + 1) (mark_at (after_edit edit)) refl other in
    is_under (capped edit.end) m.start (omega (arith, ints, first, le))
  where
    is_under : (a b : ℤ) → a <ℤ b → int_lt a b ≡ true
    is_under a b lt = grind (arith, ints)

module _ (edit : Edit) (items : List (ℕ × KeptMark)) (last : Option ℕ) (p : Place) (up : edit.start ≤ edit.end) (values : AreMarks items) (fits : CanMove edit items)
    (start : p.start ≡ capped edit.end +ℤ pos 1) (end : p.end ≡ pos 0) (id : p.id ≡ 0) (parted : PartedAt items (mark_at p) last) where
  pub place_is : p ≡ after_edit edit
  place_is i = record { start = start i; end = end i; id = id i }

  pub at_edit : PartedAt items (mark_at (after_edit edit)) last
  at_edit = subst (λ (q : Place). PartedAt items (mark_at q) last) place_is parted

  abbrev us : List (ℕ × KeptMark)
  us = at_edit.0

  abbrev vs : List (ℕ × KeptMark)
  vs = at_edit.1.0

  all : AreMarks (us ++ vs)
  all = subst AreMarks at_edit.1.1.0 values

  all_fit : CanMove edit (us ++ vs)
  all_fit = subst (CanMove edit) at_edit.1.1.0 fits

  low : Each (λ m. starts_behind edit m ≡ false) us
  low =
      each_with is_mark (λ m. stands_before (as_mark m) (mark_at (after_edit edit)) ≡ true) (λ m. starts_behind edit m ≡ false) (not_behind edit) us (each_left is_mark us vs all) at_edit.1.2

  high : Each (λ m. starts_behind edit m ≡ true) vs
  high =
      each_with is_mark (λ m. stands_before (as_mark m) (mark_at (after_edit edit)) ≡ false) (λ m. starts_behind edit m ≡ true) (is_behind edit) vs (each_right is_mark us vs all) at_edit.1.3

  abbrev new : List (ℕ × KeptMark)
  new = moved_items edit us ++ vs

  new_marks : AreMarks new
  new_marks = each_both is_mark (moved_items edit us) vs (moved_are edit us (each_left (Fits edit) us vs all_fit)) (each_right is_mark us vs all)

  new_ends : (o : Option ℕ) → EndsWith us o → EndsWith (moved_items edit us) o
  new_ends None e = ap (moved_items edit) e
  new_ends (Some i) (ks, (x, e)) = (moved_items edit ks, (moved_kept edit x, ap (moved_items edit) e ∙ changed-append (moved_mark edit) ks ((i, x) ∷ [])))

  named : (o : Option ℕ) → EndsWith (moved_items edit us) o → PlaceAfter new o
  named None e = tt
  named (Some i) (ks, (x, e)) = (ks, (x, (vs, ap (λ l. l ++ vs) e ∙ append_assoc ks ((i, x) ∷ []) vs)))

  module _ (rewritten : List (ℕ × KeptMark)) (v : Moving) (begins : v ≡ starting edit) (is : rewritten ≡ all_of v items) where
    pub rewritten_is : rewritten ≡ new
    rewritten_is = is ∙ (λ i. all_of (begins i) (at_edit.1.1.0 i)) ∙ carried edit us vs up all low high

    pub rewritten_marks : AreMarks rewritten
    rewritten_marks = subst AreMarks (sym rewritten_is) new_marks

    pub rewritten_named : PlaceAfter rewritten last
    rewritten_named = subst (λ l. PlaceAfter l last) (sym rewritten_is) (named last (new_ends last at_edit.1.1.1))

    pub rewritten_own : HaveOwnNames items [] → HaveOwnNames rewritten []
    rewritten_own own = subst (λ l. HaveOwnNames l []) (sym rewritten_is) (own_front (moved_mark edit) us vs (subst (λ l. HaveOwnNames l []) at_edit.1.1.0 own))

    split_new : SplitsAfter rewritten last (moved_items edit us) vs
    split_new = (rewritten_is, new_ends last at_edit.1.1.1)

    rest_follows : CanFollow edit vs
    rest_follows = (
      each_right (Fits edit) us vs all_fit,
      each_with is_mark (λ m. starts_behind edit m ≡ true) (λ m. pos edit.end <ℤ m.start) (λ m h e. behind edit up m h e) vs (each_right is_mark us vs all) high,
    )

    pub follows : CanFollowAfter edit rewritten last
    follows = (moved_items edit us, (vs, split_new, rest_follows))

    pub all_moved : (shifted : List (ℕ × KeptMark)) → AtPlace rewritten last (λ ws zs. CanFollow edit zs → shifted ≡ ws ++ moved_items edit zs) → shifted ≡ moved_items edit items
    all_moved shifted moves = moves (moved_items edit us) vs split_new rest_follows ∙ sym (changed-append (moved_mark edit) us vs) ∙ ap (moved_items edit) (sym at_edit.1.1.0)

    pub all_sorted : IsInOrder (marks_of items) → (after : Moving) → after ≡ past_all v items → after.in_order ≡ true → AreSorted (moved_items edit items)
    all_sorted ordered after goes seen =
        let at_end : after ≡ past_all (starting edit) (us ++ vs) = goes ∙ (λ i. past_all (begins i) (at_edit.1.1.0 i)) in
        subst (λ l. AreSorted (moved_items edit l)) (sym at_edit.1.1.0)
        (sorted_where edit us vs up all low high (subst (λ l. IsInOrder (marks_of l)) at_edit.1.1.0 ordered) (ap (λ (m : Moving). m.in_order) (sym at_end) ∙ seen))

  pub values_rewritten : (v : Moving) → v ≡ starting edit → Valued marks is_mark is_low (all_of v items)
  values_rewritten v begins = let h = rewritten_marks (all_of v items) v begins refl in (h, sum_low (all_of v items) h)

-- decorations that are out of order afterwards lie at the edited range
pub cross_moved : (edit : Edit) (bound : ℤ) (es : List (ℕ × KeptMark)) → edit.start ≤ edit.end → bound ≡ capped (edit.start + edit.units) → AreMarks es → CanMove edit es → IsInOrder (marks_of es)
    → CrossIn (capped edit.start) bound (moved_items edit es)
cross_moved edit bound [] up is h f ordered = tt
cross_moved edit bound (e ∷ es) up is (h, hs) (f, fs) (o, os) = (
  changed_each (moved_mark edit) (λ m. IsNotBelow (moved_kept edit e.1) m ⊎ (LiesIn (capped edit.start) bound (moved_kept edit e.1) × LiesIn (capped edit.start) bound m)) es
      (each_with (λ m. is_mark m × Fits edit m) (λ m. stands_before (as_mark e.1) (as_mark m) ≡ true)
      (λ m. IsNotBelow (moved_kept edit e.1) (moved_kept edit m) ⊎ (LiesIn (capped edit.start) bound (moved_kept edit e.1) × LiesIn (capped edit.start) bound (moved_kept edit m)))
      (λ m g before. there m g.0 g.1 (keeps_order edit e.1 m up h g.0 before)) es (each_with is_mark (Fits edit) (λ m. is_mark m × Fits edit m) (λ m a b. (a, b)) es hs fs) (each_listed (stands_before (as_mark e.1)) es o)),
  cross_moved edit bound es up is hs fs os,
)
  where
    there : (m : KeptMark) → is_mark m → Fits edit m → IsNotBelow (moved_kept edit e.1) (moved_kept edit m) ⊎ (IsTouched edit e.1 × IsTouched edit m)
        → IsNotBelow (moved_kept edit e.1) (moved_kept edit m) ⊎ (LiesIn (capped edit.start) bound (moved_kept edit e.1) × LiesIn (capped edit.start) bound (moved_kept edit m))
    there m g k (inl above) = inl above
    there m g k (inr (t, t2)) = inr (lies_there edit up e.1 h t bound is f, lies_there edit up m g t2 bound is k)

-- An edit that touches no decoration.
use Rattle.std.proofs.Common.{◌≡◌, ℕ, ◌<◌, ◌≤◌, pos, ◌<ℤ◌, true, inl, inr, List, [], ◌∷◌, ◌++◌, Option, Some, None, sym, ◌∙◌, ap, subst, arith, append_assoc}
use Rattle.std.proofs.lemmas.Int.{ints}
use Rattle.rb_arena.specs.RbTree.{SplitsAt, PlaceAfter, EndsWith, AtPlace, last_or}
use Rattle.decoration_rules.specs.declared.Edit.{Edit}
use Rattle.decoration_rules.specs.Marks.{stands_before, IsInOrder}
use Rattle.decoration_rules.specs.Moves.{offset_limit, moved_mark}
use Rattle.interval_deltas.specs.declared.weave.KeptMark.{KeptMark}
use Rattle.interval_deltas.specs.Weave.{is_mark}
use Rattle.interval_deltas.specs.Kept.{Each, AreMarks, CanMove, CanFollow, CanFollowAfter, IsUntouched, as_mark, capped, marks_of, moved_kept, moved_items}
use Rattle.interval_deltas.specs.Sorting.{AreSorted, IsNotBelow}
use Rattle.interval_deltas.proofs.Items.{each_left, each_right, each_both, each_weaker, each_with, each_listed, changed_each, after_it}
use Rattle.interval_deltas.proofs.Lists.{changed-append}
use Rattle.interval_deltas.proofs.Moving.{grounded, still_items}
use Rattle.interval_deltas.proofs.Searches.{ends_last}
use Rattle.interval_deltas.proofs.Sorting.{stands_before-weak}
use Rattle.interval_deltas.proofs.Trees.{kept_order}
use Rattle.interval_deltas.proofs.Untouched.{starts_later}

place_behind : (us vs : List (ℕ × KeptMark)) (o : Option ℕ) → EndsWith us o → PlaceAfter (us ++ vs) o
place_behind us vs None e = tt
place_behind us vs (Some i) (ks, (x, e)) = (ks, (x, (vs, ap (λ l. l ++ vs) e ∙ append_assoc ks ((i, x) ∷ []) vs)))

module _ (edit : Edit) (up : edit.start ≤ edit.end) where
  abbrev Ends : KeptMark → Type 0
  Ends m = m.end <ℤ pos edit.start

  abbrev Starts : KeptMark → Type 0
  Starts m = pos edit.end <ℤ m.start

  ends_all : (es : List (ℕ × KeptMark)) → Each (λ m. m.end <ℤ capped edit.start) es → Each Ends es
  ends_all es low = each_weaker (λ m. m.end <ℤ capped edit.start) Ends (λ m lt. omega (arith, ints, lt)) es low

  untouched_order : (a b : KeptMark) → is_mark a → is_mark b → IsUntouched edit a → IsUntouched edit b → stands_before (as_mark a) (as_mark b) ≡ true → IsNotBelow (moved_kept edit a) (moved_kept edit b)
  untouched_order a b h g t u before = stands_before-weak.one_way (as_mark (moved_kept edit a)) (as_mark (moved_kept edit b)) (kept_order edit a b up h g t u before)

  -- the decorations are in order after the edit
  sorted : (es : List (ℕ × KeptMark)) → AreMarks es → Each (IsUntouched edit) es → IsInOrder (marks_of es) → AreSorted (moved_items edit es)
  sorted [] h t o = tt
  sorted (e ∷ es) (h, hs) (t, ts) (o, os) = (
    changed_each (moved_mark edit) (IsNotBelow (moved_kept edit e.1)) es
        (each_with (λ m. is_mark m × IsUntouched edit m) (λ m. stands_before (as_mark e.1) (as_mark m) ≡ true) (λ m. IsNotBelow (moved_kept edit e.1) (moved_kept edit m))
        (λ m g before. untouched_order e.1 m h g.0 t g.1 before) es (each_with is_mark (IsUntouched edit) (λ m. is_mark m × IsUntouched edit m) (λ m a b. (a, b)) es hs ts)
        (each_listed (stands_before (as_mark e.1)) es o)),
    sorted es hs ts os,
  )

  -- If each decoration ends before the edit, all are unchanged.

  module _ (items : List (ℕ × KeptMark)) (values : AreMarks items) (low : Each (λ m. m.end <ℤ capped edit.start) items) where
    pub all_stay : items ≡ moved_items edit items
    all_stay = sym (still_items edit items values (ends_all items low))

    pub stay_sorted : IsInOrder (marks_of items) → AreSorted items
    stay_sorted ordered = subst AreSorted (sym all_stay) (sorted items values (each_weaker Ends (IsUntouched edit) (λ m e. inl e) items (ends_all items low)) ordered)

  -- If the first decoration that reaches the edit starts after it, that one and all later ones are shifted.

  module _ (items : List (ℕ × KeptMark)) (values : AreMarks items) (ordered : IsInOrder (marks_of items)) (fits : CanMove edit items) (us : List (ℕ × KeptMark)) (id : ℕ) (m : KeptMark) (vs : List (ℕ × KeptMark))
      (is : SplitsAt items id us m vs) (low : Each (λ n. n.end <ℤ capped edit.start) us) (high : capped edit.end <ℤ m.start) (last : Option ℕ) (prev : last ≡ last_or None us) where
    all : AreMarks (us ++ (id, m) ∷ vs)
    all = subst AreMarks is values

    order : IsInOrder (marks_of (us ++ (id, m) ∷ vs))
    order = subst (λ l. IsInOrder (marks_of l)) is ordered

    rest : AreMarks ((id, m) ∷ vs)
    rest = each_right is_mark us ((id, m) ∷ vs) all

    first : Starts m
    first = omega (arith, ints, high, rest.0.1, rest.0.2)

    later : (n : KeptMark) → is_mark n → stands_before (as_mark m) (as_mark n) ≡ true → Starts n
    later n h before =
        let le = starts_later (as_mark m) (as_mark n) before in let one = grounded m.start rest.0.0 in let other = grounded n.start h.0 in
        omega (arith, ints, first, le, one, other)

    starts : Each Starts ((id, m) ∷ vs)
    starts = (first, each_with is_mark (λ n. stands_before (as_mark m) (as_mark n) ≡ true) Starts later vs rest.1 (after_it us (id, m) vs order))

    can_follow : CanFollow edit ((id, m) ∷ vs)
    can_follow = (each_right (λ n. (moved_mark edit (as_mark n)).span.end < offset_limit) us ((id, m) ∷ vs) (subst (CanMove edit) is fits), starts)

    ends : EndsWith us last
    ends = subst (EndsWith us) (sym prev) (ends_last us)

    pub named : PlaceAfter items last
    named = subst (λ l. PlaceAfter l last) (sym is) (place_behind us ((id, m) ∷ vs) last ends)

    pub follow : CanFollowAfter edit items last
    follow = (us, ((id, m) ∷ vs, (is, ends), can_follow))

    pub moved_past : (new : List (ℕ × KeptMark)) → AtPlace items last (λ ws zs. CanFollow edit zs → new ≡ ws ++ moved_items edit zs) → new ≡ moved_items edit items
    moved_past new moves =
        moves us ((id, m) ∷ vs) (is, ends) can_follow
        ∙ ap (λ l. l ++ moved_items edit ((id, m) ∷ vs)) (sym (still_items edit us (each_left is_mark us ((id, m) ∷ vs) all) (ends_all us low)))
        ∙ sym (changed-append (moved_mark edit) us ((id, m) ∷ vs)) ∙ ap (moved_items edit) (sym is)

    pub sorted_past : AreSorted (moved_items edit items)
    sorted_past =
        subst (λ l. AreSorted (moved_items edit l)) (sym is)
        (sorted (us ++ (id, m) ∷ vs) all
        (each_both (IsUntouched edit) us ((id, m) ∷ vs) (each_weaker Ends (IsUntouched edit) (λ n e. inl e) us (ends_all us low)) (each_weaker Starts (IsUntouched edit) (λ n e. inr e) ((id, m) ∷ vs) starts))
        order)

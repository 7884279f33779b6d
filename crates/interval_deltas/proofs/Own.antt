-- Items with distinct names.
use Rattle.std.proofs.Common.{◌≡◌, ℕ, cond, inl, inr, List, [], ◌∷◌, ◌++◌, length, Option, Some, None, refl, sym, ◌∙◌, ap, subst, arith, append_assoc}
use Rattle.std.specs.Prelude.{◌==◌}
use Rattle.std.specs.List.Sorted.{IsPermutation}
use Rattle.std.proofs.lemmas.Bool.{cases_Bool, cond-true, cond-false, eqb-true}
use Rattle.std.proofs.lemmas.List.{length-append}
use Rattle.std.proofs.lemmas.List.Sorted.{sum_by-IsPermutation}
use Rattle.std.proofs.lemmas.List.Sums.{sum_by-append, sum_by-cons}
use Rattle.rb_arena.specs.Names.{times_named, HaveOwnNames}
use Rattle.rb_arena.specs.RbTree.{AtItem, EndsWith, last_or}
use Rattle.decoration_rules.specs.declared.Mark.{Mark}
use Rattle.interval_deltas.specs.declared.weave.KeptMark.{KeptMark}
use Rattle.interval_deltas.specs.Kept.{changed_kept, changed_items}
use Rattle.interval_deltas.proofs.Lists.{same_after}
use Rattle.interval_deltas.proofs.Searches.{ends_last}

abbrev named : ℕ → (ℕ × KeptMark) → ℕ
named k item = cond (k == item.0) 1 0

-- Changes keep the names.

times-changed : (to : Mark → Mark) (es : List (ℕ × KeptMark)) (k : ℕ) → times_named k (changed_items to es) ≡ times_named k es
times-changed to [] k = refl
times-changed to (e ∷ es) k = omega (arith, sum_by-cons (named k) (e.0, changed_kept to e.1) (changed_items to es), sum_by-cons (named k) e es, times-changed to es k)

pub own_front : (to : Mark → Mark) (us vs : List (ℕ × KeptMark)) → HaveOwnNames (us ++ vs) [] → HaveOwnNames (changed_items to us ++ vs) []
own_front to us vs own k = let once = own k in omega (arith, sum_by-append (named k) (changed_items to us) vs, sum_by-append (named k) us vs, times-changed to us k, once)

pub own_all_changed : (to : Mark → Mark) (old new : List (ℕ × KeptMark)) → IsPermutation (changed_items to old) new → HaveOwnNames old [] → HaveOwnNames new []
own_all_changed to old new changed own k = let once = own k in omega (arith, sum_by-IsPermutation (named k) (changed_items to old) new changed, times-changed to old k, once)

pub own_without : (us : List (ℕ × KeptMark)) (e : ℕ × KeptMark) (vs : List (ℕ × KeptMark)) → HaveOwnNames (us ++ e ∷ vs) [] → HaveOwnNames (us ++ vs) []
own_without us e vs own k = let once = own k in omega (arith, sum_by-append (named k) us (e ∷ vs), sum_by-append (named k) us vs, sum_by-cons (named k) e vs, once)

-- An item is inserted. If another item had its name, the same item would be before both.

times_zero : (n : ℕ) (es : List (ℕ × KeptMark)) → ((ws : List (ℕ × KeptMark)) (y : KeptMark) (zs : List (ℕ × KeptMark)) → es ≡ ws ++ (n, y) ∷ zs → ⊥) → times_named n es ≡ 0
times_zero n [] none = refl
times_zero n (e ∷ es) none = elim (cases_Bool (n == e.0)) [
  | inl is ↦ absurd (none [] e.1 es (ap (λ (i : ℕ). (i, e.1) ∷ es) (sym (eqb-true n e.0 is))))
  | inr other ↦ omega (arith, sum_by-cons (named n) e es, cond-false {A = ℕ} (n == e.0) 1 0 other, times_zero n es (λ ws y zs is. none (e ∷ ws) y zs (ap (λ l. e ∷ l) is)))
]

last_snoc : (o : Option ℕ) (us : List (ℕ × KeptMark)) (e : ℕ × KeptMark) → last_or o (us ++ e ∷ []) ≡ Some e.0
last_snoc o [] e = refl
last_snoc o (u ∷ us) e = last_snoc (Some u.0) us e

last_past : (o : Option ℕ) (us : List (ℕ × KeptMark)) (e w : ℕ × KeptMark) (ws : List (ℕ × KeptMark)) → last_or o (us ++ e ∷ w ∷ ws) ≡ last_or o (us ++ w ∷ ws)
last_past o [] e w ws = refl
last_past o (u ∷ us) e w ws = last_past (Some u.0) us e w ws

module _ (us : List (ℕ × KeptMark)) (n : ℕ) (m : KeptMark) (vs : List (ℕ × KeptMark)) (own : HaveOwnNames (us ++ vs) []) (prev : Option ℕ) (at : AtItem (us ++ (n, m) ∷ vs) n (λ ws x zs. prev ≡ last_or None ws)) where
  here : EndsWith us prev
  here = subst (EndsWith us) (sym (at us m vs refl)) (ends_last us)

  -- no longer front of the others ends with the one before it
  no_longer : (ws : List (ℕ × KeptMark)) (e : ℕ × KeptMark) (zs ys : List (ℕ × KeptMark)) → us ++ vs ≡ (ws ++ e ∷ zs) ++ ys → EndsWith (ws ++ e ∷ zs) prev → us ≡ ws ++ e ∷ zs
  no_longer ws e zs ys is ends = (same_after (us ++ vs) [] own prev us vs (ws ++ e ∷ zs) ys (refl, here) (is, ends)).0

  longer : (e : ℕ × KeptMark) (zs : List (ℕ × KeptMark)) → us ≡ us ++ e ∷ zs → ⊥
  longer e zs same = absurd (omega (arith, ap length same, length-append us (e ∷ zs)))

  none_before : (ws : List (ℕ × KeptMark)) (y : KeptMark) (zs : List (ℕ × KeptMark)) → us ≡ ws ++ (n, y) ∷ zs → ⊥
  none_before ws y zs is =
      let is_last = at ws y (zs ++ (n, m) ∷ vs) (ap (λ l. l ++ (n, m) ∷ vs) is ∙ append_assoc ws ((n, y) ∷ zs) ((n, m) ∷ vs)) in
      let same : us ≡ ws =
      (same_after (us ++ vs) [] own prev us vs ws ((n, y) ∷ zs ++ vs) (refl, here) (ap (λ l. l ++ vs) is ∙ append_assoc ws ((n, y) ∷ zs) vs, subst (EndsWith ws) (sym is_last) (ends_last ws))).0 in
      absurd (omega (arith, ap length is, ap length same, length-append ws ((n, y) ∷ zs)))

  none_behind : (ws : List (ℕ × KeptMark)) (y : KeptMark) (zs : List (ℕ × KeptMark)) → vs ≡ ws ++ (n, y) ∷ zs → ⊥
  none_behind [] y zs is =
      let is_last = at (us ++ (n, m) ∷ []) y zs (ap (λ l. us ++ (n, m) ∷ l) is ∙ sym (append_assoc us ((n, m) ∷ []) ((n, y) ∷ zs))) ∙ last_snoc None us (n, m) in
      longer (n, y) [] (no_longer us (n, y) [] zs (ap (λ l. us ++ l) is ∙ sym (append_assoc us ((n, y) ∷ []) zs)) (subst (EndsWith (us ++ (n, y) ∷ [])) (sym is_last) (us, (y, refl))))
  none_behind (w ∷ ws) y zs is =
      let is_last = at (us ++ (n, m) ∷ w ∷ ws) y zs (ap (λ l. us ++ (n, m) ∷ l) is ∙ sym (append_assoc us ((n, m) ∷ w ∷ ws) ((n, y) ∷ zs))) ∙ last_past None us (n, m) w ws in
      longer w ws (no_longer us w ws ((n, y) ∷ zs) (ap (λ l. us ++ l) is ∙ sym (append_assoc us (w ∷ ws) ((n, y) ∷ zs))) (subst (EndsWith (us ++ w ∷ ws)) (sym is_last) (ends_last (us ++ w ∷ ws))))

  none_named : times_named n (us ++ vs) ≡ 0
  none_named = omega (arith, sum_by-append (named n) us vs, times_zero n us none_before, times_zero n vs none_behind)

  pub own_put : HaveOwnNames (us ++ (n, m) ∷ vs) []
  own_put k = elim (cases_Bool (k == n)) [
    | inl is ↦
        let none : times_named k (us ++ vs) ≡ 0 = subst (λ i. times_named i (us ++ vs) ≡ 0) (sym (eqb-true k n is)) none_named in
        omega (arith, sum_by-append (named k) us ((n, m) ∷ vs), sum_by-append (named k) us vs, sum_by-cons (named k) (n, m) vs, cond-true {A = ℕ} (k == n) 1 0 is, none)
    | inr other ↦
        let once = own k in
        omega (arith, sum_by-append (named k) us ((n, m) ∷ vs), sum_by-append (named k) us vs, sum_by-cons (named k) (n, m) vs, cond-false {A = ℕ} (k == n) 1 0 other, once)
  ]

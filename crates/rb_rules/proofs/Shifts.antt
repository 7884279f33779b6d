-- A tree below a path whose shift increases, and a hole with the items after it moved.
use Rattle.std.proofs.Common.{◌≡◌, ℕ, ◌+◌, List, [], ◌∷◌, ◌++◌, refl, sym, ap, ◌∙◌, subst}
use Rattle.std.proofs.lemmas.List.{map-append}
use Rattle.rb_rules.specs.declared.slot.Data.{Data}
use Rattle.rb_rules.specs.declared.slot.Side.TheVariants.{Left, Right}
use Rattle.rb_rules.specs.Tree.{Tree, tip, fork, Hole, top, on, plug, above, depth}
use Rattle.rb_rules.specs.Weaving.{Weaving, Lawful}
use Rattle.rb_rules.specs.Woven.{entries, sum_of, Woven, shift_at, lefts, rights}
use Rattle.rb_rules.specs.Sound.{Slack}
use Rattle.rb_rules.specs.Shifts.{shifted, moved_datum, moved}
use Rattle.rb_rules.proofs.Shapes.{each-plug}
use Rattle.rb_rules.proofs.Levels.{bare}
use Rattle.rb_rules.proofs.Wider.{woven_wider}

module _ {X S B : Type 0} (w : Weaving X S B) where
  -- the shift at a moved hole
  pub above-moved : (by : B) (k : Hole (Data X S B)) → above (moved w by k) ≡ above k
  above-moved by top = refl
  above-moved by (on Left c i d x k) = refl
  above-moved by (on Right c i d x k) = refl

  pub depth-moved : (by : B) (k : Hole (Data X S B)) → depth (moved w by k) ≡ depth k
  depth-moved by top = refl
  depth-moved by (on Left c i d x k) = λ j. 1 + depth-moved by k j
  depth-moved by (on Right c i d x k) = λ j. 1 + depth-moved by k j

  pub bare-moved : (by : B) (k : Hole (Data X S B)) (t : Tree (Data X S B)) → bare (plug (moved w by k) t) ≡ bare (plug k t)
  bare-moved by top t = refl
  bare-moved by (on Left c i d x k) t = bare-moved by k (fork c i (moved_datum w by d) t x) ∙ each-plug (λ e. tt) k (fork c i (moved_datum w by d) t x) (fork c i d t x) refl
  bare-moved by (on Right c i d x k) t = bare-moved by k (fork c i d x t)

  pub shift_at-moved : (by : B) (k : Hole (Data X S B)) → shift_at w (moved w by k) ≡ shift_at w k
  shift_at-moved by top = refl
  shift_at-moved by (on Left c i d x k) = shift_at-moved by k
  shift_at-moved by (on Right c i d x k) = ap (λ b. w.plus b d.delta) (shift_at-moved by k)

  pub lefts-moved : (by : B) (k : Hole (Data X S B)) → lefts w (moved w by k) ≡ lefts w k
  lefts-moved by top = refl
  lefts-moved by (on Left c i d x k) = lefts-moved by k
  lefts-moved by (on Right c i d x k) = λ j. lefts-moved by k j ++ (entries w (shift_at-moved by k j) x ++ (i, w.shift (shift_at-moved by k j) d.item) ∷ [])

  module _ (L : Lawful w) where
    -- a shift added below a path is a shift added above it
    plus_first : (acc by delta : B) → w.plus acc (w.plus by delta) ≡ w.plus by (w.plus acc delta)
    plus_first acc by delta = sym (L.plus_assoc acc by delta) ∙ ap (λ b. w.plus b delta) (L.plus_comm acc by) ∙ L.plus_assoc by acc delta

    pub shift_first : (acc by : B) (x : X) → w.shift acc (w.shift by x) ≡ w.shift by (w.shift acc x)
    shift_first acc by x = sym (L.shift_plus acc by x) ∙ ap (λ b. w.shift b x) (L.plus_comm acc by) ∙ L.shift_plus by acc x

    pub entries-shifted : (by acc : B) (t : Tree (Data X S B)) → entries w (w.plus by acc) t ≡ shifted w by (entries w acc t)
    entries-shifted by acc tip = refl
    entries-shifted by acc (fork c i d x y) =
        let right = ap (λ b. entries w b y) (L.plus_assoc by acc d.delta) ∙ entries-shifted by (w.plus acc d.delta) y in
        (λ j. entries-shifted by acc x j ++ (i, L.shift_plus by acc d.item j) ∷ right j)
        ∙ sym (map-append (λ e. (e.0, w.shift by e.1)) (entries w acc x) ((i, w.shift acc d.item) ∷ entries w (w.plus acc d.delta) y))

    sum-shifted : (by : B) (es : List (ℕ × X)) → sum_of w (shifted w by es) ≡ w.shift_sum by (sum_of w es)
    sum-shifted by [] = sym (L.shift_none by)
    sum-shifted by (e ∷ es) = (λ j. w.join (sym (L.shift_one by e.1) j) (sum-shifted by es j)) ∙ sym (L.shift_join by (w.one e.1) (sum_of w es))

    pub rights-moved : (by : B) (k : Hole (Data X S B)) → rights w (moved w by k) ≡ shifted w by (rights w k)
    rights-moved by top = refl
    rights-moved by (on Left c i d x k) =
        let acc = shift_at w k in let at = shift_at-moved by k in
        let item = ap (λ b. w.shift b (w.shift by d.item)) at ∙ shift_first acc by d.item in
        let right = ap (λ b. entries w b x) (ap (λ b. w.plus b (w.plus by d.delta)) at ∙ plus_first acc by d.delta) ∙ entries-shifted by (w.plus acc d.delta) x in
        (λ j. ((i, item j) ∷ right j) ++ rights-moved by k j) ∙ sym (map-append (λ e. (e.0, w.shift by e.1)) ((i, w.shift acc d.item) ∷ entries w (w.plus acc d.delta) x) (rights w k))
    rights-moved by (on Right c i d x k) = rights-moved by k

    -- A tree keeps the right sums below a path whose shift has increased; is_far holds of each shift of is_near, unchanged and moved by
    -- `by`.
    module _ (is_near is_far : B → Type 0) where
      woven_shifted : (by : B) → ((b : B) → is_near b → is_far (w.plus by b)) → (acc : B) (t : Tree (Data X S B)) → Woven w is_near acc t → Woven w is_far (w.plus by acc) t
      woven_shifted by far acc tip h = far acc h
      woven_shifted by far acc (fork c i d x y) (a, b, l, r) = (
        L.shift_sum_plus by acc d.before ∙ ap (w.shift_sum by) a ∙ sym (sum-shifted by (entries w acc x)) ∙ sym (ap (sum_of w) (entries-shifted by acc x)),
        L.shift_sum_plus by acc d.whole ∙ ap (w.shift_sum by) b ∙ sym (sum-shifted by (entries w acc (fork c i d x y))) ∙ sym (ap (sum_of w) (entries-shifted by acc (fork c i d x y))),
        woven_shifted by far acc x l,
        subst (λ k. Woven w is_far k y) (sym (L.plus_assoc by acc d.delta)) (woven_shifted by far (w.plus acc d.delta) y r),
      )

      pub slack-moved : (by : B) → ((b : B) → is_near b → is_far b) → ((b : B) → is_near b → is_far (w.plus by b)) → (k : Hole (Data X S B)) → Slack w is_near k → Slack w is_far (moved w by k)
      slack-moved by wide far top h = tt
      slack-moved by wide far (on Left c i d x k) (wx, sl) =
          let acc = shift_at w k in
          let at : w.plus by (w.plus acc d.delta) ≡ w.plus (shift_at w (moved w by k)) (w.plus by d.delta)
          = sym (ap (λ b. w.plus b (w.plus by d.delta)) (shift_at-moved by k) ∙ plus_first acc by d.delta) in
          (subst (λ b. Woven w is_far b x) at (woven_shifted by far (w.plus acc d.delta) x wx), slack-moved by wide far k sl)
      slack-moved by wide far (on Right c i d x k) (wx, sl) =
          (subst (λ b. Woven w is_far b x) (sym (shift_at-moved by k)) (woven_wider w is_near is_far wide (shift_at w k) x wx), slack-moved by wide far k sl)

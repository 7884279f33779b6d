-- A tree with its shifts applied has the same items, the same shape and the right sums.
use Rattle.std.proofs.Common.{◌≡◌, ◌∷◌, ◌++◌, refl, sym, ap, ◌∙◌, subst}
use Rattle.rb_rules.specs.declared.slot.Data.{Data}
use Rattle.rb_rules.specs.Tree.{Tree, tip, fork}
use Rattle.rb_rules.specs.Colours.{Balanced}
use Rattle.rb_rules.specs.Shape.{each}
use Rattle.rb_rules.specs.Weaving.{Weaving, Lawful}
use Rattle.rb_rules.specs.Woven.{entries, sum_of, Woven}
use Rattle.rb_rules.specs.Shifts.{levelled}
use Rattle.rb_rules.proofs.Unshaping.{rb_same}

-- a tree's colours and names
abbrev pub bare : {D : Type 0} → Tree D → Tree (Unit {0})
bare t = each (λ d. tt) t

pub balanced_alike : {D : Type 0} (t u : Tree D) → bare t ≡ bare u → Balanced t → Balanced u
balanced_alike t u e (n, (c, r)) = (n, (c, rb_same (λ d. tt) c n t u e r))

module _ {X S B : Type 0} (w : Weaving X S B) where
  pub bare-levelled : (acc : B) (t : Tree (Data X S B)) → bare (levelled w acc t) ≡ bare t
  bare-levelled acc tip = refl
  bare-levelled acc (fork c i d x y) = λ j. fork c i tt (bare-levelled acc x j) (bare-levelled (w.plus acc d.delta) y j)

  module _ (L : Lawful w) where
    pub entries-levelled : (acc : B) (t : Tree (Data X S B)) → entries w w.still (levelled w acc t) ≡ entries w acc t
    entries-levelled acc tip = refl
    entries-levelled acc (fork c i d x y) =
        let right = ap (λ b. entries w b (levelled w (w.plus acc d.delta) y)) (L.plus_still w.still) ∙ entries-levelled (w.plus acc d.delta) y in
        λ j. entries-levelled acc x j ++ (i, L.shift_still (w.shift acc d.item) j) ∷ right j

    -- and the only shift of its paths is `still`
    pub woven-levelled : (is_near is_still : B → Type 0) → is_still w.still → (acc : B) (t : Tree (Data X S B)) → Woven w is_near acc t → Woven w is_still w.still (levelled w acc t)
    woven-levelled is_near is_still still acc tip h = still
    woven-levelled is_near is_still still acc (fork c i d x y) (a, b, l, r) = (
      L.shift_sum_still _ ∙ a ∙ sym (ap (sum_of w) (entries-levelled acc x)),
      L.shift_sum_still _ ∙ b ∙ sym (ap (sum_of w) (entries-levelled acc (fork c i d x y))),
      woven-levelled is_near is_still still acc x l,
      subst (λ k. Woven w is_still k (levelled w (w.plus acc d.delta) y)) (sym (L.plus_still w.still)) (woven-levelled is_near is_still still (w.plus acc d.delta) y r),
    )

-- Facts that follow from the shape of a tree.
use Rattle.std.proofs.Common.{◌≡◌, ℕ, Bool, true, false, List, [], ◌∷◌, ◌++◌, refl, sym, ap, ◌∙◌, subst}
use Rattle.rb_rules.specs.declared.slot.Data.{Data}
use Rattle.rb_rules.specs.declared.slot.Side.{Side}
use Rattle.rb_rules.specs.declared.slot.Side.TheVariants.{Left, Right}
use Rattle.rb_rules.specs.Tree.{Tree, tip, fork, Hole, top, on, forked, plug}
use Rattle.rb_rules.specs.Colours.{Rb}
use Rattle.rb_rules.specs.Shape.{each, shape}
use Rattle.rb_rules.specs.Weaving.{Weaving}
use Rattle.rb_rules.specs.Woven.{entries}

module _ {D E : Type 0} (f : D → E) where
  pub rb_to_each : (c : Bool) (n : ℕ) (t : Tree D) → Rb c n t → Rb c n (each f t)
  rb_to_each c n tip r = r
  rb_to_each c n (fork true i d x y) (e, a, b) = (e, rb_to_each false n x a, rb_to_each false n y b)
  rb_to_each c n (fork false i d x y) (e, (m, g, (ca, a), (cb, b))) = (e, (m, g, (ca, rb_to_each ca m x a), (cb, rb_to_each cb m y b)))

  pub rb_of_each : (c : Bool) (n : ℕ) (t : Tree D) → Rb c n (each f t) → Rb c n t
  rb_of_each c n tip r = r
  rb_of_each c n (fork true i d x y) (e, a, b) = (e, rb_of_each false n x a, rb_of_each false n y b)
  rb_of_each c n (fork false i d x y) (e, (m, g, (ca, a), (cb, b))) = (e, (m, g, (ca, rb_of_each ca m x a), (cb, rb_of_each cb m y b)))

  pub each-forked : (s : Side) (c : Bool) (i : ℕ) (d : D) (x y : Tree D) → each f (forked s c i d x y) ≡ forked s c i (f d) (each f x) (each f y)
  each-forked Left c i d x y = refl
  each-forked Right c i d x y = refl

  -- trees of equal shape have equal shapes in a hole
  pub each-plug : (k : Hole D) (t u : Tree D) → each f t ≡ each f u → each f (plug k t) ≡ each f (plug k u)
  each-plug top t u e = e
  each-plug (on s c i d x k) t u e =
      each-plug k (forked s c i d t x) (forked s c i d u x) (each-forked s c i d t x ∙ ap (λ l. forked s c i (f d) l (each f x)) e ∙ sym (each-forked s c i d u x))

module _ {X S B : Type 0} (w : Weaving X S B) where
  abbrev items_of_shape : B → Tree (X × B) → List (ℕ × X)
  items_of_shape acc tip = []
  items_of_shape acc (fork c i d x y) = items_of_shape acc x ++ (i, w.shift acc d.0) ∷ items_of_shape (w.plus acc d.1) y

  items_are : (acc : B) (t : Tree (Data X S B)) → entries w acc t ≡ items_of_shape acc (shape t)
  items_are acc tip = refl
  items_are acc (fork c i d x y) = λ j. items_are acc x j ++ (i, w.shift acc d.item) ∷ items_are (w.plus acc d.delta) y j

  pub same_items : (acc : B) (t u : Tree (Data X S B)) → shape t ≡ shape u → entries w acc t ≡ entries w acc u
  same_items acc t u e = items_are acc t ∙ ap (items_of_shape acc) e ∙ sym (items_are acc u)

module _ {X S B : Type 0} where
  abbrev f : Data X S B → X × B
  f d = (d.item, d.delta)

  pub same_colours : (c : Bool) (n : ℕ) (t u : Tree (Data X S B)) → shape t ≡ shape u → Rb c n t → Rb c n u
  same_colours c n t u e r = rb_of_each f c n u (subst (Rb c n) e (rb_to_each f c n t r))

-- A rotation at a node of a tree in memory: its numbers are relative forms of values, and it keeps the sums right.
use Rattle.std.proofs.Common.{◌≡◌, ℕ, Bool, ◌++◌, Option, Some, refl, sym, ap, ◌∙◌, subst}
use Rattle.std.specs.Option.{unwrap_or}
use Rattle.std.specs.Ordering.{nat_cmp}
use Rattle.std.specs.FinMap as map
use Rattle.rb_rules.specs.declared.slot.Data.{Data}
use Rattle.rb_rules.specs.declared.slot.Side.{Side}
use Rattle.rb_rules.specs.declared.slot.Side.TheVariants.{Left, Right}
use Rattle.rb_rules.specs.declared.slot.Slot.{Slot}
use Rattle.rb_rules.specs.Tree.{Tree, Hole, other, forked, plug, root_of, above}
use Rattle.rb_rules.specs.Memory.{sided, Makes, Made, child, Spot, here, below, turned}
use Rattle.rb_rules.specs.Weaving.{Weaving, Lawful, Sums, CanTurn, lowered, raised}
use Rattle.rb_rules.specs.Woven.{entries, Woven, Valued, whole_at, whole_in, shift_at, lefts, rights}
use Rattle.rb_rules.specs.Sound.{Lists}
use Rattle.rb_rules.proofs.Memories.{of_forked}
use Rattle.rb_rules.proofs.Live.{forks_on, here_forked, child-sided}
use Rattle.rb_rules.proofs.Spots.{upper_is, makes_below, whole_in_is}
use Rattle.rb_rules.proofs.Weaves.{turned_items, turned_woven, woven_at, woven_replug, same_replug, entries-plug}
use Rattle.rb_rules.proofs.Held.{can_turn, valued_left, valued_right}

pub data-sided : {D : Type 0} (s : Side) (p x y : Option ℕ) (c : Bool) (d : D) → (sided s p x y c d).«data» ≡ d
data-sided Left p x y c d = refl
data-sided Right p x y c d = refl

turned-forked : {D : Type 0} (s : Side) (low high : D) (a b : Bool) (n c : ℕ) (dn dc : D) (out mid far : Tree D)
    → turned s low high (forked s a n dn (forked s b c dc out mid) far) ≡ forked s a c high out (forked s b n low mid far)
turned-forked Left low high a b n c dn dc out mid far = refl
turned-forked Right low high a b n c dn dc out mid far = refl

module _ {X S B : Type 0} (w : Weaving X S B) (L : Lawful w) (is_near : B → Type 0) (is_item : X → Type 0) (is_sum is_value : S → Type 0)
    (sums : Sums w is_item is_sum) (parts : (a b : S) → is_value (w.join a b) → is_value a × is_value b) where
  -- the items of the tree in a hole are values if those of the whole tree are
  pub valued_at : (k : Hole (Data X S B)) (t : Tree (Data X S B)) → Valued w is_item is_value (entries w w.still (plug k t)) → Valued w is_item is_value (entries w (shift_at w k) t)
  valued_at k t v =
      let all = subst (Valued w is_item is_value) (entries-plug w L is_near k t) v in
      valued_left w L is_near is_item is_sum is_value sums parts (entries w (shift_at w k) t) (rights w k)
      (valued_right w L is_near is_item is_sum is_value sums parts (lefts w k) (entries w (shift_at w k) t ++ rights w k) all)

  module _ (m : map.FinMap nat_cmp (Slot (Data X S B))) (root : Option ℕ) (sp : Spot (Data X S B)) (i : ℕ) (h : Made sp.beside m root (plug sp.hole (here sp i)))
      (wv : Woven w is_near w.still (plug sp.hole (here sp i))) (s : Side) (j : ℕ) (n l : Slot (Data X S B))
      (e : map.get m i ≡ Some n) (f : map.get m j ≡ Some l) (c : child s n ≡ Some j) where
    abbrev mid_sum : S
    mid_sum = whole_in w m (child (other s) l)

    abbrev far_sum : S
    far_sum = whole_in w m (child (other s) n)

    up : n ≡ sided s (above sp.hole) (root_of (below s sp)) (root_of (below (other s) sp)) sp.red sp.datum
    up = upper_is m root sp i h s n e

    is_below : root_of (below s sp) ≡ Some j
    is_below = sym (ap (child s) up ∙ (child-sided s _ _ _ _ _).0) ∙ c

    datum_is : n.«data» ≡ sp.datum
    datum_is = ap (λ o. o.«data») up ∙ data-sided s _ _ _ _ _

    far_is : far_sum ≡ whole_at w (below (other s) sp)
    far_is = ap (whole_in w m) (ap (child (other s)) up ∙ (child-sided s _ _ _ _ _).1) ∙ whole_in_is w m (Some i) (below (other s) sp) (makes_below m root sp i h (other s))

    module _ (b : Bool) (d : Data X S B) (out mid : Tree (Data X S B)) (is : below s sp ≡ forked s b j d out mid) where
      made_child : (map.get m j ≡ Some (sided s (Some i) (root_of out) (root_of mid) b d)) × Makes m (Some j) out × Makes m (Some j) mid
      made_child = of_forked m s (Some i) b j d out mid (subst (Makes m (Some i)) is (makes_below m root sp i h s))

      low_is : l ≡ sided s (Some i) (root_of out) (root_of mid) b d
      low_is = ap (λ o. unwrap_or o l) (sym f ∙ made_child.0)

      low_datum : l.«data» ≡ d
      low_datum = ap (λ o. o.«data») low_is ∙ data-sided s _ _ _ _ _

      mid_is : mid_sum ≡ whole_at w mid
      mid_is = ap (whole_in w m) (ap (child (other s)) low_is ∙ (child-sided s _ _ _ _ _).1) ∙ whole_in_is w m (Some j) mid made_child.2

      tree_is : here sp i ≡ forked s sp.red i sp.datum (forked s b j d out mid) (below (other s) sp)
      tree_is = here_forked s sp i ∙ ap (λ t. forked s sp.red i sp.datum t (below (other s) sp)) is

      numbers : ◌≡◌ {A = Data X S B × Data X S B × S × S} (sp.datum, d, whole_at w mid, whole_at w (below (other s) sp)) (n.«data», l.«data», mid_sum, far_sum)
      numbers = λ k. (sym datum_is k, sym low_datum k, sym mid_is k, sym far_is k)

      woven_here : Woven w is_near (shift_at w sp.hole) (forked s sp.red i sp.datum (forked s b j d out mid) (below (other s) sp))
      woven_here = subst (Woven w is_near (shift_at w sp.hole)) tree_is (woven_at w L is_near sp.hole (here sp i) wv)

      can : Valued w is_item is_value (entries w w.still (plug sp.hole (here sp i))) → CanTurn w is_near is_item is_sum is_value s n.«data» l.«data» mid_sum far_sum
      can v = subst (λ t. CanTurn w is_near is_item is_sum is_value s t.0 t.1 t.2 t.3) numbers
          (can_turn w L is_near is_item is_sum is_value sums parts (shift_at w sp.hole) sp.red b i j sp.datum d out mid (below (other s) sp) s woven_here
          (subst (λ t. Valued w is_item is_value (entries w (shift_at w sp.hole) t)) tree_is (valued_at sp.hole (here sp i) v)))

      lists : let t = turned s (lowered w s n.«data» l.«data» mid_sum far_sum) (raised w s n.«data» l.«data» mid_sum far_sum) (here sp i) in
          Lists w is_near (plug sp.hole t) (entries w w.still (plug sp.hole (here sp i)))
      lists =
          let far = below (other s) sp in let old = forked s sp.red i sp.datum (forked s b j d out mid) far in
          let new = forked s sp.red j (raised w s sp.datum d (whole_at w mid) (whole_at w far)) out (forked s b i (lowered w s sp.datum d (whole_at w mid) (whole_at w far)) mid far) in
          let same = turned_items w L is_near (shift_at w sp.hole) sp.red b i j sp.datum d out mid far s in
          let right = turned_woven w L is_near (shift_at w sp.hole) sp.red b i j sp.datum d out mid far s woven_here in
          let old_all = subst (λ t. Woven w is_near w.still (plug sp.hole t)) tree_is wv in
          let both : Lists w is_near (plug sp.hole new) (entries w w.still (plug sp.hole (here sp i))) =
          (woven_replug w L is_near sp.hole old new old_all same right, same_replug w L is_near sp.hole old new same ∙ ap (λ t. entries w w.still (plug sp.hole t)) (sym tree_is)) in
          subst (λ t. Lists w is_near (plug sp.hole (turned s (lowered w s t.0 t.1 t.2 t.3) (raised w s t.0 t.1 t.2 t.3) (here sp i))) (entries w w.still (plug sp.hole (here sp i)))) numbers
          (subst (λ t. Lists w is_near (plug sp.hole t) (entries w w.still (plug sp.hole (here sp i))))
          (sym (ap (turned s (lowered w s sp.datum d (whole_at w mid) (whole_at w far)) (raised w s sp.datum d (whole_at w mid) (whole_at w far))) tree_is
          ∙ turned-forked s _ _ sp.red b i j sp.datum d out mid far)) both)

    pub can_turn_here : Valued w is_item is_value (entries w w.still (plug sp.hole (here sp i))) → CanTurn w is_near is_item is_sum is_value s n.«data» l.«data» mid_sum far_sum
    can_turn_here v = let (b, (d, x, y, is)) = forks_on s (below s sp) j is_below in can b d x y is v

    pub turn_lists : let t = turned s (lowered w s n.«data» l.«data» mid_sum far_sum) (raised w s n.«data» l.«data» mid_sum far_sum) (here sp i) in
        Lists w is_near (plug sp.hole t) (entries w w.still (plug sp.hole (here sp i)))
    turn_lists = let (b, (d, x, y, is)) = forks_on s (below s sp) j is_below in lists b d x y is

-- Rewriting of a subtree in memory: its left subtree, the item of its root, and its right subtree.
use Rattle.std.proofs.Common.{◌≡◌, ℕ, ◌-◌, List, ◌∷◌, ◌++◌, Some, refl, sym, ap, ◌∙◌, subst, arith}
use Rattle.rb_rules.specs.declared.slot.Data.{Data}
use Rattle.rb_rules.specs.declared.slot.Side.TheVariants.{Left, Right}
use Rattle.rb_rules.specs.declared.weave.Weave.{Ghosts}
use Rattle.rb_rules.specs.Memory.{Made, Spot}
use Rattle.rb_rules.specs.Rewriting.{rewritten_all, onward_all, Leaves}
use Rattle.rb_rules.specs.Shape.{each}
use Rattle.rb_rules.specs.Tree.{Tree, fork, Hole, on, plug, root_of}
use Rattle.rb_rules.specs.Weaving.{CanSumUp, HeldItem, HeldBy, summed}
use Rattle.rb_rules.specs.Woven.{entries, Woven, Valued, sum_of, whole_at}
use Rattle.rb_rules.proofs.Held.{can_sum_up, valued_left, valued_right, valued_tail}
use Rattle.rb_rules.proofs.Rewritings.{rewritten-append, onward-append, shift_back}
use Rattle.rb_rules.proofs.Weaves.{near_of, woven_summed}
use Rattle.rb_arena.specs.declared.links.Links.{Links}
use Rattle.rb_arena.specs.Relative.{LawsOf}
use Rattle.rb_arena.specs.Rewriting.{CanRewrite, Rewrote, rewritten_of}
use Rattle.rb_arena.proofs.Levelling.{Topmost, topmost, own, left_values}

module _ {W X S B K V : Type 0} (w : Ghosts W X S B K) (l : LawsOf w) (rewritten : V → X → X) (onward : V → X → V)
    (beside : Tree (Data X S B)) (old : Links (Data X S B)) (v : V) (i : ℕ) (acc : B) (n : ℕ) (k : Hole (Data X S B)) (t : Tree (Data X S B))
    (can : CanRewrite w rewritten onward beside old v (Some i) acc n k t) where
  pub starts_near : w.is_near w.weaving.still
  starts_near = l.within_near w.weaving.still w.weaving.still l.starts_within

  pub z : Topmost w.weaving l.laws w.is_near w.is_item w.is_sum w.is_value l.sums l.parts starts_near beside old.nodes.live old.root i acc n k t
  z = topmost w.weaving l.laws w.is_near w.is_item w.is_sum w.is_value l.sums l.parts starts_near beside old.nodes.live old.root i acc n k t can.0

  pub near : w.is_near acc
  near = near_of w.weaving l.laws w.is_near acc t can.0.2

  abbrev pub lefts : List (ℕ × X)
  lefts = entries w.weaving acc z.left

  abbrev pub mine : ℕ × X
  mine = (i, w.weaving.shift acc z.datum.item)

  abbrev pub far : B
  far = w.weaving.plus acc z.datum.delta

  abbrev pub rights : List (ℕ × X)
  rights = entries w.weaving far z.right

  abbrev pub all : V → List (ℕ × X) → List (ℕ × X)
  all u es = rewritten_all rewritten onward u es

  abbrev pub past : V → List (ℕ × X) → V
  past u es = onward_all rewritten onward u es

  abbrev pub Values : List (ℕ × X) → Type 0
  Values es = Valued w.weaving w.is_item w.is_value es

  -- the items rewritten, in three parts
  parted : rewritten_of w rewritten onward v acc t ≡ all v lefts ++ all (past v lefts) (mine ∷ rights)
  parted = ap (rewritten_of w rewritten onward v acc) z.is ∙ rewritten-append rewritten onward v lefts (mine ∷ rights)

  new_values : Values (all v lefts ++ all (past v lefts) (mine ∷ rights))
  new_values = subst Values parted can.1

  left_new : Values (all v lefts)
  left_new = valued_left w.weaving l.laws w.is_near w.is_item w.is_sum w.is_value l.sums l.parts (all v lefts) (all (past v lefts) (mine ∷ rights)) new_values

  rest_new : Values (all (past v lefts) (mine ∷ rights))
  rest_new = valued_right w.weaving l.laws w.is_near w.is_item w.is_sum w.is_value l.sums l.parts (all v lefts) (all (past v lefts) (mine ∷ rights)) new_values

  pub own_item : w.is_item (w.weaving.shift acc z.datum.item)
  own_item = (own z).0.0

  abbrev pub on_left : Hole (Data X S B)
  on_left = on Left z.red i z.datum z.right k

  pub left_can : CanRewrite w rewritten onward beside old v (root_of z.left) acc (n - 1) on_left z.left
  left_can = let le = z.can.4 in ((z.can.0, refl, z.can.2.2, left_values z, omega (arith, le)), left_new)

  -- if the list is unchanged, so is the tree
  pub skipped : Leaves w.weaving w.is_item rewritten onward v (w.weaving.shift_sum acc z.datum.whole) → Rewrote w rewritten onward beside old v v acc k t z.datum.whole
  skipped leaves =
      let stays = leaves (entries w.weaving acc t) can.0.3.0 (ap (λ u. sum_of w.weaving (entries w.weaving acc u)) z.is ∙ sym z.can.2.1) in record {
        subtree = t;
        made = can.0.0;
        alike = refl;
        items = sym stays.0;
        woven = can.0.2;
        within = λ reach wv. wv;
        sum = sym (ap (whole_at w.weaving) z.is);
        onwards = sym stays.1;
      }

  module _ (mid : Links (Data X S B)) (v1 : V) (sum : S) (left : Rewrote w rewritten onward beside mid v v1 acc on_left z.left sum) where
    pub new_item : w.is_item (rewritten v1 (w.weaving.shift acc z.datum.item))
    new_item = subst (λ u. w.is_item (rewritten u mine.1)) (sym left.onwards) rest_new.0.0

    pub held_back : HeldBy w.weaving w.is_near (w.weaving.minus w.weaving.still acc)
    held_back = (acc, near, subst w.is_near (sym (l.laws.plus_minus w.weaving.still acc)) starts_near)

    pub held_new : HeldItem w.weaving w.is_near w.is_item (w.weaving.shift (w.weaving.minus w.weaving.still acc) (rewritten v1 (w.weaving.shift acc z.datum.item)))
    held_new = (acc, near, subst w.is_item (sym (shift_back w.weaving l.laws acc (rewritten v1 mine.1))) new_item)

    abbrev pub on_right : Hole (Data X S B)
    on_right = on Right z.red i z.datum left.subtree k

    module _ (v2 : V) (passed : v2 ≡ onward v1 (w.weaving.shift acc z.datum.item)) where
      state_is : v2 ≡ onward (past v lefts) mine.1
      state_is = passed ∙ ap (λ u. onward u mine.1) left.onwards

      pub right_can : CanRewrite w rewritten onward beside mid v2 (root_of z.right) (w.weaving.plus acc z.datum.delta) (n - 1) on_right z.right
      right_can = let le = z.can.4 in (
        (left.made, refl, z.can.2.3, valued_tail w.weaving l.laws w.is_near w.is_item w.is_sum w.is_value l.sums l.parts mine rights (own z), omega (arith, le)),
        subst (λ u. Values (all u rights)) (sym state_is)
            (valued_tail w.weaving l.laws w.is_near w.is_item w.is_sum w.is_value l.sums l.parts (i, rewritten (past v lefts) mine.1) (all (onward (past v lefts) mine.1) rights) rest_new),
      )

      module _ (last : Links (Data X S B)) (v3 : V) (rest : S) (right : Rewrote w rewritten onward beside last v2 v3 (w.weaving.plus acc z.datum.delta) on_right z.right rest) where
        abbrev pub item : X
        item = w.weaving.shift (w.weaving.minus w.weaving.still acc) (rewritten v1 (w.weaving.shift acc z.datum.item))

        abbrev pub there : Spot (Data X S B)
        there = record { beside = beside; hole = k; red = z.red; datum = z.datum; left = left.subtree; right = right.subtree }

        listed : entries w.weaving acc left.subtree ++ (i, w.weaving.shift acc item) ∷ entries w.weaving far right.subtree ≡ rewritten_of w rewritten onward v acc t
        listed =
            (λ j. left.items j ++ (i, shift_back w.weaving l.laws acc (rewritten v1 mine.1) j) ∷ right.items j)
            ∙ (λ j. all v lefts ++ (i, rewritten (left.onwards j) mine.1) ∷ all (state_is j) rights) ∙ sym parted

        pub can_sum : CanSumUp w.weaving w.is_near w.is_item w.is_sum w.is_value item z.datum.delta sum rest
        can_sum =
            subst (λ s. CanSumUp w.weaving w.is_near w.is_item w.is_sum w.is_value item z.datum.delta s rest) (sym left.sum)
            (subst (λ s. CanSumUp w.weaving w.is_near w.is_item w.is_sum w.is_value item z.datum.delta (whole_at w.weaving left.subtree) s) (sym right.sum)
            (can_sum_up w.weaving l.laws w.is_near w.is_item w.is_sum w.is_value l.sums l.parts acc i item z.datum.delta left.subtree right.subtree left.woven right.woven (subst Values (sym listed) can.1)))

        done_at : (new : Links (Data X S B)) (s r : S) → s ≡ whole_at w.weaving left.subtree → r ≡ whole_at w.weaving right.subtree
            → Made beside new.nodes.live new.root (plug k (fork z.red i (summed w.weaving item z.datum.delta s r) left.subtree right.subtree))
            → Rewrote w rewritten onward beside new v v3 acc k t (summed w.weaving item z.datum.delta s r).whole
        done_at new s r es er made =
            let datum = summed w.weaving item z.datum.delta (whole_at w.weaving left.subtree) (whole_at w.weaving right.subtree) in
            let is : summed w.weaving item z.datum.delta s r ≡ datum = λ j. summed w.weaving item z.datum.delta (es j) (er j) in
            let woven = woven_summed w.weaving l.laws w.is_near acc z.red i item z.datum.delta left.subtree right.subtree left.woven right.woven in record {
              subtree = fork z.red i datum left.subtree right.subtree;
              made = subst (λ d. Made beside new.nodes.live new.root (plug k (fork z.red i d left.subtree right.subtree))) is made;
              alike = (λ j. fork z.red i (tt {0}) (left.alike j) (right.alike j)) ∙ sym (ap (each (λ d. tt {0})) z.is);
              items = listed;
              woven = woven;
              within = λ reach wv. let own_ = subst (Woven w.weaving (w.within reach) acc) z.is wv in (woven.0, woven.1, left.within reach own_.2, right.within reach own_.3);
              sum = ap (λ (d : Data X S B). d.whole) is;
              onwards = right.onwards ∙ ap (λ u. past u rights) state_is ∙ sym (onward-append rewritten onward v lefts (mine ∷ rights)) ∙ sym (ap (λ u. past v (entries w.weaving acc u)) z.is);
            }

        pub done : (new : Links (Data X S B)) → Made beside new.nodes.live new.root (plug k (fork z.red i (summed w.weaving item z.datum.delta sum rest) left.subtree right.subtree))
            → Rewrote w rewritten onward beside new v v3 acc k t (summed w.weaving item z.datum.delta sum rest).whole
        done new made = done_at new sum rest left.sum right.sum made

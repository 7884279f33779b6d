-- One step in closing a gap: the effect of each case on the tree.
use Rattle.std.proofs.Common.{◌≡◌, ℕ, suc, ◌+◌, ◌-◌, ◌≤◌, Bool, true, false, List, Option, Some, None, refl, sym, ap, ◌∙◌, subst, arith}
use Rattle.std.specs.Prelude.{IfSome}
use Rattle.std.specs.Option.{unwrap_or}
use Rattle.std.proofs.lemmas.Option.{none-some}
use Rattle.std.specs.Ordering.{nat_cmp}
use Rattle.std.specs.FinMap as map
use Rattle.rb_rules.specs.declared.slot.Data.{Data}
use Rattle.rb_rules.specs.declared.slot.Side.{Side}
use Rattle.rb_rules.specs.declared.slot.Side.TheVariants.{Left, Right}
use Rattle.rb_rules.specs.declared.slot.Slot.{Slot}
use Rattle.rb_rules.specs.Tree.{Tree, tip, fork, Hole, top, on, other, forked, plug, root_of, above, depth}
use Rattle.rb_rules.specs.Colours.{Rb, Black, Fits, Balanced}
use Rattle.rb_rules.specs.Memory.{sided, Made, Stands, AtSpot, child, place_of}
use Rattle.rb_rules.specs.Weaving.{Weaving, Lawful}
use Rattle.rb_rules.specs.Woven.{Valued}
use Rattle.rb_rules.specs.Sound.{Lists, CanTurnAt, TurnedAt}
use Rattle.rb_rules.proofs.Colouring as C
use Rattle.rb_rules.proofs.Holes.{forked-other}
use Rattle.rb_rules.proofs.Live.{Live, child-sided, forks_on}
use Rattle.rb_rules.proofs.Ups.{hole_top, hole_on, spot_of, spot_hole, stands_above, slot_above, live_beside, red-sided}
use Rattle.rb_arena.specs.Closing.{steps_left, Short, Closing}
use Rattle.rb_arena.specs.Mending.{HasChild, red_child_in}
use Rattle.rb_arena.specs.Rising.{Mended}
use Rattle.rb_arena.proofs.Cases.{red_name, red_child_is}
use Rattle.rb_arena.proofs.Steps.{stands, Painted, painted, recoloured, can_turn_at, turned_at}

other-other : (s : Side) → other (other s) ≡ s
other-other Left = refl
other-other Right = refl

module _ {D : Type 0} where
  pub few_steps : (k : Hole D) → steps_left k ≤ 1 + depth k
  few_steps top = omega arith
  few_steps (on s true i d x k) = omega arith
  few_steps (on s false i d x k) = omega arith

  pub red_fork : (t : Tree D) (i : ℕ) → red_name t ≡ Some i → (d : D) × ((x : Tree D) × (y : Tree D) × (t ≡ fork true i d x y))
  red_fork tip i e = absurd (none-some i e)
  red_fork (fork false j d x y) i e = absurd (none-some i e)
  red_fork (fork true j d x y) i e = (d, (x, y, ap (λ o. fork true (unwrap_or o 0) d x y) e))

  pub not_red : (c : Bool) (h : ℕ) (t : Tree D) → red_name t ≡ None → Rb c h t → Rb false h t
  not_red c h tip e (f, z) = (refl, z)
  not_red c h (fork true j d x y) e r = absurd (none-some j (sym e))
  not_red c h (fork false j d x y) e (f, r) = (refl, r)

  -- a node with a subtree on one side, as a fork
  pub unforked : (s : Side) (c : Bool) (i : ℕ) (d : D) (x y : Tree D) → (a : Tree D) × ((b : Tree D) × (forked s c i d x y ≡ fork c i d a b))
  unforked Left c i d x y = (x, (y, refl))
  unforked Right c i d x y = (y, (x, refl))

  pub reforked : (s : Side) (c : Bool) (i : ℕ) (d : D) (x y : Tree D) → (a : Tree D) × ((b : Tree D) × (fork c i d x y ≡ forked s c i d a b))
  reforked Left c i d x y = (x, (y, refl))
  reforked Right c i d x y = (y, (x, refl))

  -- the subtrees of a black brother
  pub nephews : (s : Side) (c : Bool) (p q h : ℕ) (d dq : D) (out mid : Tree D) (k : Hole D) → Fits false (suc h) (on s c p d (forked (other s) false q dq out mid) k) → Black h out × Black h mid
  nephews s true p q h d dq out mid k (e, r, f) =
      let (_, (m, same, a, b)) = C.of_black (other s) false (suc h) q dq out mid r in let is : m ≡ h = omega (arith, same) in
      (subst (λ l. Black l out) is a, subst (λ l. Black l mid) is b)
  nephews s false p q h d dq out mid k ((c, r), f) =
      let (_, (m, same, a, b)) = C.of_black (other s) c (suc h) q dq out mid r in let is : m ≡ h = omega (arith, same) in
      (subst (λ l. Black l out) is a, subst (λ l. Black l mid) is b)

  childless : (s : Side) (c : Bool) (p h : ℕ) (d : D) (x : Tree D) (k : Hole D) → root_of x ≡ None → Fits false (suc h) (on s c p d x k) → ⊥
  childless s c p h d tip k e f = C.some_brother s h p d k c f
  childless s c p h d (fork b i d2 x y) k e f = none-some i (sym e)

module _ {X S B : Type 0} (w : Weaving X S B) (L : Lawful w) (is_near : B → Type 0) (is_item : X → Type 0) (is_value : S → Type 0) where
  module _ (beside : Tree (Data X S B)) (m : map.FinMap nat_cmp (Slot (Data X S B))) (root : Option ℕ) (es : List (ℕ × X)) where
    -- at the root the gap is closed
    pub at_top : (at : Option (ℕ × Side)) (n : ℕ) → Short w is_near beside m root es at n → Closing w is_near beside m root es at n
    at_top (Some at) n r = r
    at_top None n r =
        (plug r.hole r.subtree, r.made, r.lists, subst (λ l. Balanced (plug l r.subtree)) (sym (hole_top r.hole (sym r.there))) (r.black, (false, r.even)))

    -- the gap below a node p, whose child on the other side is q
    pub record Gap (p : ℕ) (s : Side) (q n : ℕ) (b : Bool) (out mid : Tree (Data X S B)) : Type 0 where
      pub red : Bool
      pub datum : Data X S B
      pub brother : Data X S B
      pub under : Tree (Data X S B)
      pub hole : Hole (Data X S B)
      pub black : ℕ
      pub made : Made beside m root (plug hole (forked s red p datum under (forked (other s) b q brother out mid)))
      pub lists : Lists w is_near (plug hole (forked s red p datum under (forked (other s) b q brother out mid))) es
      pub even : Rb false black under
      pub fits : Fits false (suc black) (on s red p datum (forked (other s) b q brother out mid) hole)
      pub few : steps_left (on s red p datum (forked (other s) b q brother out mid) hole) ≤ n

    pub gap : (p : ℕ) (s : Side) (q n : ℕ) (sl : Slot (Data X S B)) → map.get m p ≡ Some sl → child (other s) sl ≡ Some q → Short w is_near beside m root es (Some (p, s)) n
        → (b : Bool) × ((out : Tree (Data X S B)) × (mid : Tree (Data X S B)) × Gap p s q n b out mid)
    gap p s q n sl found is r =
        let (c, (d, x, k, same)) = hole_on r.hole p s (sym r.there) in let t = r.subtree in
        let whole = subst (λ l. Made beside m root (plug l t)) same r.made in
        let link : root_of x ≡ Some q = sym (child-sided s (above k) (root_of t) (root_of x) c d).1
        ∙ ap (λ o. child (other s) (unwrap_or o sl)) (sym (slot_above m root s c p d x k t whole) ∙ found) ∙ is in
        let (b, (dq, out, mid, same2)) = forks_on (other s) x q link in (
          b,
          (
            out,
            mid,
            record {
              red = c;
              datum = d;
              brother = dq;
              under = t;
              hole = k;
              black = r.black;
              made = subst (λ y. Made beside m root (plug k (forked s c p d t y))) same2 whole;
              lists = subst (λ y. Lists w is_near (plug k (forked s c p d t y)) es) same2 (subst (λ l. Lists w is_near (plug l t) es) same r.lists);
              even = r.even;
              fits = subst (λ y. Fits false (suc r.black) (on s c p d y k)) same2 (subst (Fits false (suc r.black)) same r.fits);
              few = subst (λ y. steps_left (on s c p d y k) ≤ n) same2 (subst (λ l. steps_left l ≤ n) same r.few);
            },
          ),
        )

    pub no_brother : (p : ℕ) (s : Side) (n : ℕ) (sl : Slot (Data X S B)) → map.get m p ≡ Some sl → child (other s) sl ≡ None → Short w is_near beside m root es (Some (p, s)) n → ⊥
    no_brother p s n sl found is r =
        let (c, (d, x, k, same)) = hole_on r.hole p s (sym r.there) in let t = r.subtree in
        let whole = subst (λ l. Made beside m root (plug l t)) same r.made in
        let link : root_of x ≡ None = sym (child-sided s (above k) (root_of t) (root_of x) c d).1
        ∙ ap (λ o. child (other s) (unwrap_or o sl)) (sym (slot_above m root s c p d x k t whole) ∙ found) ∙ is in
        childless s c p r.black d x k link (subst (Fits false (suc r.black)) same r.fits)

-- the slot of the node beside the gap
pub has_slot : {X S B : Type 0} {w : Weaving X S B} {is_near : B → Type 0} {beside : Tree (Data X S B)} {m : map.FinMap nat_cmp (Slot (Data X S B))} {root : Option ℕ} {es : List (ℕ × X)} {p : ℕ} {s : Side} {n : ℕ}
    → Short w is_near beside m root es (Some (p, s)) n → Live m p
has_slot {beside = beside} {m = m} {root = root} {p = p} {s = s} r =
    let (c, (d, x, k, same)) = hole_on r.hole p s (sym r.there) in
    (_, slot_above m root s c p d x k r.subtree (subst (λ l. Made beside m root (plug l r.subtree)) same r.made))

same_steps : {D : Type 0} (s : Side) (c : Bool) (p : ℕ) (d : D) (x y : Tree D) (k : Hole D) → steps_left (on s c p d x k) ≡ steps_left (on s c p d y k)
same_steps s true p d x y k = refl
same_steps s false p d x y k = refl

module _ {X S B : Type 0} {w : Weaving X S B} {L : Lawful w} {is_near : B → Type 0} {is_item : X → Type 0} {is_value : S → Type 0} where
  module _ {beside : Tree (Data X S B)} {m : map.FinMap nat_cmp (Slot (Data X S B))} {root : Option ℕ} {es : List (ℕ × X)} {s : Side} {p q n : ℕ} where
    module _ {b : Bool} {out mid : Tree (Data X S B)} (g : Gap w L is_near is_item is_value beside m root es p s q n b out mid) where
      abbrev Around_it : Hole (Data X S B)
      Around_it = on (other s) g.red p g.datum g.under g.hole

      -- the same tree, by the node's other side and by that of the brother
      sideways : Made beside m root (plug g.hole (forked (other s) g.red p g.datum (forked (other s) b q g.brother out mid) g.under))
      sideways = subst (λ t. Made beside m root (plug g.hole t)) (sym (forked-other s g.red p g.datum (forked (other s) b q g.brother out mid) g.under)) g.made

      lists_sideways : Lists w is_near (plug g.hole (forked (other s) g.red p g.datum (forked (other s) b q g.brother out mid) g.under)) es
      lists_sideways = subst (λ t. Lists w is_near (plug g.hole t) es) (sym (forked-other s g.red p g.datum (forked (other s) b q g.brother out mid) g.under)) g.lists

      pub stands_brother : Stands m root q
      stands_brother = stands m root Around_it (other s) b q g.brother out mid sideways

      pub can_turn_parent : Valued w is_item is_value es → CanTurnAt w is_near is_item is_value m root p (other s)
      can_turn_parent v = can_turn_at w L is_near is_item is_value beside m root es g.hole g.red b p q g.datum g.brother out mid g.under (other s) sideways lists_sideways v

      -- the colours of the brother and of its children, as they are read
      pub brother_slot : map.get m q ≡ Some (sided (other s) (Some p) (root_of out) (root_of mid) b g.brother)
      brother_slot = slot_above m root (other s) b q g.brother mid Around_it out sideways

      pub outer_is : red_child_in m q (other s) ≡ red_name out
      outer_is =
          red_child_is m root s b q g.brother out Around_it mid (subst (λ t. Made beside m root (plug Around_it t)) (forked-other s b q g.brother out mid) sideways)

      pub inner_is : red_child_in m q s ≡ red_name mid
      inner_is = subst (λ side. red_child_in m q side ≡ red_name mid) (other-other s) (red_child_is m root (other s) b q g.brother mid Around_it out sideways)

      pub has_children : HasChild m q (other s) × HasChild m q s
      has_children =
          let own = child-sided (other s) (Some p) (root_of out) (root_of mid) b g.brother in
          let mids : IfSome (root_of mid) (Live m) = live_beside m root (other s) b q g.brother mid Around_it out sideways in
          let outs : IfSome (root_of out) (Live m) =
          live_beside m root s b q g.brother out Around_it mid (subst (λ t. Made beside m root (plug Around_it t)) (forked-other s b q g.brother out mid) sideways) in
          let there : child s (sided (other s) (Some p) (root_of out) (root_of mid) b g.brother) ≡ root_of mid =
          ap (λ side. child side (sided (other s) (Some p) (root_of out) (root_of mid) b g.brother)) (sym (other-other s)) ∙ own.1 in (
            (_, brother_slot, subst (λ o. IfSome o (Live m)) (sym own.0) outs),
            (_, brother_slot, subst (λ o. IfSome o (Live m)) (sym there) mids),
          )

      -- after a rotation of the node towards the gap
      module _ {m2 : map.FinMap nat_cmp (Slot (Data X S B))} {root2 : Option ℕ} (done : AtSpot m root p (λ sp. TurnedAt w is_near m2 root2 p (other s) sp)) where
        abbrev Turned_at : Type 0
        Turned_at = (low : Data X S B) × ((high : Data X S B)
            × Made beside m2 root2 (plug g.hole (forked (other s) g.red q high out (forked s b p low g.under mid)))
            × Lists w is_near (plug g.hole (forked (other s) g.red q high out (forked s b p low g.under mid))) es)

        pub turned_parent : Turned_at
        turned_parent =
            let (low, (high, made2, lists2)) = turned_at w L is_near is_item is_value beside m root es g.hole g.red b p q g.datum g.brother out mid g.under m2 root2 (other s) done sideways lists_sideways in
            let same = forked-other s b p low mid g.under in (
              low,
              (
                high,
                subst (λ t. Made beside m2 root2 (plug g.hole (forked (other s) g.red q high out t))) same made2,
                subst (λ t. Lists w is_near (plug g.hole (forked (other s) g.red q high out t)) es) same lists2,
              ),
            )

      -- after a rotation of the brother, whose inner child is red
      module _ (mi : ℕ) (md : Data X S B) (a c : Tree (Data X S B)) (is : mid ≡ forked s true mi md a c) (black : b ≡ false) where
        inward : (t : Tree (Data X S B)) → t ≡ forked s true mi md a c → (b2 : Bool) → b2 ≡ false → forked (other s) b2 q g.brother out t ≡ forked s false q g.brother (forked s true mi md a c) out
        inward t e b2 f = (λ i. forked (other s) (f i) q g.brother out (e i)) ∙ forked-other s false q g.brother out (forked s true mi md a c)

        made_inward : Made beside m root (plug Around_it (forked s false q g.brother (forked s true mi md a c) out))
        made_inward = subst (λ t. Made beside m root (plug Around_it t)) (inward mid is b black) sideways

        lists_inward : Lists w is_near (plug Around_it (forked s false q g.brother (forked s true mi md a c) out)) es
        lists_inward = subst (λ t. Lists w is_near (plug Around_it t) es) (inward mid is b black) lists_sideways

        pub can_turn_brother : Valued w is_item is_value es → CanTurnAt w is_near is_item is_value m root q s
        can_turn_brother v = can_turn_at w L is_near is_item is_value beside m root es Around_it false true q mi g.brother md a c out s made_inward lists_inward v

    -- a red brother: its inner child becomes the brother, and the node becomes red
    pub nearer : {out mid : Tree (Data X S B)} → Gap w L is_near is_item is_value beside m root es p s q n true out mid → {m2 : map.FinMap nat_cmp (Slot (Data X S B))} {root2 : Option ℕ}
        → AtSpot m root p (λ sp. TurnedAt w is_near m2 root2 p (other s) sp) → Short w is_near beside m2 root2 es (Some (p, s)) (n - 1)
    nearer {out = out} {mid = mid} g {m2} {root2} done =
        let (low, (high, made2, lists2)) = turned_parent g done in
        let (is_black, fit) = C.brother_red s g.black p g.datum g.hole g.red q g.brother low high out mid g.fits in
        let same : forked (other s) g.red q high out (forked s true p low g.under mid) ≡ forked s false q high (forked s true p low g.under mid) out =
        (λ i. forked (other s) (is_black i) q high out (forked s true p low g.under mid)) ∙ forked-other s false q high out (forked s true p low g.under mid) in
        let many : 2 + depth g.hole ≤ n = subst (λ b. steps_left (on s b p g.datum (forked (other s) true q g.brother out mid) g.hole) ≤ n) is_black g.few in record {
          hole = on s true p low mid (on s false q high out g.hole);
          subtree = g.under;
          black = g.black;
          made = subst (λ t. Made beside m2 root2 (plug g.hole t)) same made2;
          lists = subst (λ t. Lists w is_near (plug g.hole t) es) same lists2;
          there = refl;
          even = g.even;
          fits = fit;
          few = omega (arith, many);
        }

    module _ {oi : ℕ} {od : Data X S B} {ox oy mid : Tree (Data X S B)} (g : Gap w L is_near is_item is_value beside m root es p s q n false (fork true oi od ox oy) mid)
        {m2 : map.FinMap nat_cmp (Slot (Data X S B))} {root2 : Option ℕ} (done : AtSpot m root p (λ sp. TurnedAt w is_near m2 root2 p (other s) sp)) where
      -- a red outer child comes above the gap and becomes black
      pub stands_outer : Stands m2 root2 oi
      stands_outer =
          let (low, (high, made2, lists2)) = turned_parent g done in
          stands m2 root2 (on (other s) g.red q high (forked s false p low g.under mid) g.hole) Left true oi od ox oy made2

      pub outer_closed : {m3 : map.FinMap nat_cmp (Slot (Data X S B))} {root3 : Option ℕ} → Painted m2 root2 m3 root3 oi false → Mended w is_near beside m3 root3 es
      outer_closed {m3} {root3} paint =
          let (low, (high, made2, lists2)) = turned_parent g done in
          let k = on (other s) g.red q high (forked s false p low g.under mid) g.hole in (
            plug k (fork false oi od ox oy),
            painted m2 root2 m3 root3 k Left true false oi od ox oy paint made2,
            recoloured w L is_near k Left true false oi od ox oy es lists2,
            C.outer_red s g.black p g.datum g.hole g.red q g.brother low high oi od ox oy mid g.under g.fits g.even,
          )

    -- a red inner child becomes the brother, with a red outer child
    pub inner_gap : (mi : ℕ) (md : Data X S B) (a c out : Tree (Data X S B)) (g : Gap w L is_near is_item is_value beside m root es p s q n false out (forked s true mi md a c)) → Rb false g.black out
        → {m2 : map.FinMap nat_cmp (Slot (Data X S B))} {root2 : Option ℕ} → AtSpot m root q (λ sp. TurnedAt w is_near m2 root2 q s sp)
        → (d : Data X S B) × ((x : Tree (Data X S B)) × (y : Tree (Data X S B)) × Gap w L is_near is_item is_value beside m2 root2 es p s mi n false (fork true q d x y) a)
    inner_gap mi md a c out g even {m2} {root2} done =
        let mid = forked s true mi md a c in
        let k = on (other s) g.red p g.datum g.under g.hole in
        let (low, (high, made2, lists2)) = turned_at w L is_near is_item is_value beside m root es k false true q mi g.brother md a c out m2 root2 s done
        (made_inward g mi md a c refl refl) (lists_inward g mi md a c refl refl) in
        let new = forked s true q low c out in
        let upright : forked (other s) g.red p g.datum (forked s false mi high a new) g.under ≡ forked s g.red p g.datum g.under (forked (other s) false mi high new a) =
        forked-other s g.red p g.datum (forked s false mi high a new) g.under ∙ ap (forked s g.red p g.datum g.under) (sym (forked-other s false mi high new a)) in
        let (x, (y, plain)) = unforked s true q low c out in
        let found : Gap w L is_near is_item is_value beside m2 root2 es p s mi n false new a = record {
          red = g.red;
          datum = g.datum;
          brother = high;
          under = g.under;
          hole = g.hole;
          black = g.black;
          made = subst (λ t. Made beside m2 root2 (plug g.hole t)) upright made2;
          lists = subst (λ t. Lists w is_near (plug g.hole t) es) upright lists2;
          even = g.even;
          fits = C.inner_red s g.black p g.datum g.hole q mi g.brother md low high a c out g.red g.fits even;
          few = subst (λ l. l ≤ n) (same_steps s g.red p g.datum (forked (other s) false q g.brother out mid) (forked (other s) false mi high new a) g.hole) g.few;
        } in (low, (x, y, subst (λ t. Gap w L is_near is_item is_value beside m2 root2 es p s mi n false t a) plain found))

    -- no red child: the brother becomes red
    module _ {out mid : Tree (Data X S B)} (g : Gap w L is_near is_item is_value beside m root es p s q n false out mid) {m2 : map.FinMap nat_cmp (Slot (Data X S B))} {root2 : Option ℕ} (paint : Painted m root m2 root2 q true) where
      abbrev Redder : Tree (Data X S B)
      Redder = forked (other s) true q g.brother out mid

      reddened : Made beside m2 root2 (plug g.hole (forked s g.red p g.datum g.under Redder))
      reddened =
          let k = on (other s) g.red p g.datum g.under g.hole in
          subst (λ t. Made beside m2 root2 (plug g.hole t)) (forked-other s g.red p g.datum Redder g.under)
          (painted m root m2 root2 k (other s) false true q g.brother out mid paint (sideways g))

      lists_reddened : Lists w is_near (plug g.hole (forked s g.red p g.datum g.under Redder)) es
      lists_reddened =
          let k = on (other s) g.red p g.datum g.under g.hole in
          subst (λ t. Lists w is_near (plug g.hole t) es) (forked-other s g.red p g.datum Redder g.under)
          (recoloured w L is_near k (other s) false true q g.brother out mid es (lists_sideways g))

      pub parent_slot : map.get m2 p ≡ Some (sided s (above g.hole) (root_of g.under) (root_of Redder) g.red g.datum)
      parent_slot = slot_above m2 root2 s g.red p g.datum Redder g.hole g.under reddened

      pub stands_parent : Stands m2 root2 p
      stands_parent = stands m2 root2 g.hole s g.red p g.datum g.under Redder reddened

      pub place_above : (at : Option (ℕ × Side)) → AtSpot m2 root2 p (λ sp. at ≡ place_of sp.hole) → at ≡ place_of g.hole
      place_above at here =
          here (spot_of beside s g.red g.datum g.under Redder g.hole) (stands_above m2 root2 s g.red p g.datum Redder g.hole g.under reddened) ∙ ap place_of (spot_hole beside s g.red g.datum g.under Redder g.hole)

      -- the node was red and becomes black
      pub parent_closed : g.red ≡ true → Rb false g.black out → Rb false g.black mid → {m3 : map.FinMap nat_cmp (Slot (Data X S B))} {root3 : Option ℕ} → Painted m2 root2 m3 root3 p false → Mended w is_near beside m3 root3 es
      parent_closed red ro rm {m3} {root3} paint2 = (
        plug g.hole (forked s false p g.datum g.under Redder),
        painted m2 root2 m3 root3 g.hole s g.red false p g.datum g.under Redder paint2 reddened,
        recoloured w L is_near g.hole s g.red false p g.datum g.under Redder es lists_reddened,
        C.below_red s g.black p g.datum g.hole q g.brother out mid g.under
            (subst (λ c. Fits false (suc g.black) (on s c p g.datum (forked (other s) false q g.brother out mid) g.hole)) red g.fits) g.even ro rm,
      )

      -- the node was black, and the gap moves above it
      pub higher : g.red ≡ false → Rb false g.black out → Rb false g.black mid → Short w is_near beside m2 root2 es (place_of g.hole) (n - 1)
      higher black ro rm =
          let fit = subst (λ c. Fits false (suc g.black) (on s c p g.datum (forked (other s) false q g.brother out mid) g.hole)) black g.fits in
          let (even, fits2) = C.below_black s g.black p g.datum g.hole q g.brother out mid g.under fit g.even ro rm in
          let few : 2 + depth g.hole ≤ n = subst (λ c. steps_left (on s c p g.datum (forked (other s) false q g.brother out mid) g.hole) ≤ n) black g.few in
          let less = few_steps g.hole in record {
            hole = g.hole;
            subtree = forked s false p g.datum g.under Redder;
            black = suc g.black;
            made = subst (λ c. Made beside m2 root2 (plug g.hole (forked s c p g.datum g.under Redder))) black reddened;
            lists = subst (λ c. Lists w is_near (plug g.hole (forked s c p g.datum g.under Redder)) es) black lists_reddened;
            there = refl;
            even = even;
            fits = fits2;
            few = omega (arith, few, less);
          }

module _ {X S B : Type 0} (w : Weaving X S B) (L : Lawful w) (is_near : B → Type 0) (is_item : X → Type 0) (is_value : S → Type 0) where
  -- the values read in a step: the slot of the node beside the gap, its link to the brother, and the brother's slot
  pub record Seen (beside : Tree (Data X S B)) (m : map.FinMap nat_cmp (Slot (Data X S B))) (root : Option ℕ) (es : List (ℕ × X)) (s away : Side) (p q n : ℕ) (brother : Slot (Data X S B)) : Type 0 where
    pub is_away : away ≡ other s
    pub parent : Slot (Data X S B)
    pub found : map.get m p ≡ Some parent
    pub link : child away parent ≡ Some q
    pub found_brother : map.get m q ≡ Some brother
    pub short : Short w is_near beside m root es (Some (p, s)) n

  module _ (beside : Tree (Data X S B)) (m : map.FinMap nat_cmp (Slot (Data X S B))) (root : Option ℕ) (es : List (ℕ × X)) (s away : Side) (p q n : ℕ) (sl : Slot (Data X S B)) (is_away : away ≡ other s)
      (found : map.get m p ≡ Some sl) (short : Short w is_near beside m root es (Some (p, s)) n) (o : Option ℕ) (is_child : o ≡ child away sl) where
    pub lone : o ≡ None → ⊥
    lone none = no_brother w L is_near is_item is_value beside m root es p s n sl found (ap (λ side. child side sl) (sym is_away) ∙ sym is_child ∙ none) short

    pub brother_live : o ≡ Some q → Live m q
    brother_live is =
        let (b, (out, mid, g)) = gap w L is_near is_item is_value beside m root es p s q n sl found (ap (λ side. child side sl) (sym is_away) ∙ sym is_child ∙ is) short in
        (_, brother_slot g)

    pub sees : o ≡ Some q → (sl2 : Slot (Data X S B)) → map.get m q ≡ Some sl2 → Seen beside m root es s away p q n sl2
    sees is sl2 found2 = record { is_away = is_away; parent = sl; found = found; link = sym is_child ∙ is; found_brother = found2; short = short }

module _ {X S B : Type 0} {w : Weaving X S B} {L : Lawful w} {is_near : B → Type 0} {is_item : X → Type 0} {is_value : S → Type 0} where
  module _ {beside : Tree (Data X S B)} {m : map.FinMap nat_cmp (Slot (Data X S B))} {root : Option ℕ} {es : List (ℕ × X)} {s away : Side} {p q n : ℕ} {sl2 : Slot (Data X S B)}
      (r : Seen w L is_near is_item is_value beside m root es s away p q n sl2) where
    coloured : (b : Bool) → sl2.red ≡ b → (out : Tree (Data X S B)) × ((mid : Tree (Data X S B)) × Gap w L is_near is_item is_value beside m root es p s q n b out mid)
    coloured b is =
        let (b2, (out, mid, g)) = gap w L is_near is_item is_value beside m root es p s q n r.parent r.found (ap (λ side. child side r.parent) (sym r.is_away) ∙ r.link) r.short in
        let same : b2 ≡ b = sym (red-sided (other s) (Some p) (root_of out) (root_of mid) b2 g.brother)
        ∙ ap (λ o. (unwrap_or o sl2).red) (sym (brother_slot g) ∙ r.found_brother) ∙ is in
        (out, (mid, subst (λ c. Gap w L is_near is_item is_value beside m root es p s q n c out mid) same g))

    can_turn : (b : Bool) (out mid : Tree (Data X S B)) → Gap w L is_near is_item is_value beside m root es p s q n b out mid → Valued w is_item is_value es → CanTurnAt w is_near is_item is_value m root p away
    can_turn b out mid g v = subst (CanTurnAt w is_near is_item is_value m root p) (sym r.is_away) (can_turn_parent g v)

    module _ (red : sl2.red ≡ true) where
      pub can_turn_red : Valued w is_item is_value es → CanTurnAt w is_near is_item is_value m root p away
      can_turn_red v = let (out, (mid, g)) = coloured true red in can_turn true out mid g v

      pub comes_nearer : {m2 : map.FinMap nat_cmp (Slot (Data X S B))} {root2 : Option ℕ} → AtSpot m root p (λ sp. TurnedAt w is_near m2 root2 p away sp) → Short w is_near beside m2 root2 es (Some (p, s)) (n - 1)
      comes_nearer {m2} {root2} done =
          let (out, (mid, g)) = coloured true red in
          nearer g (subst (λ l. AtSpot m root p (λ sp. TurnedAt w is_near m2 root2 p l sp)) r.is_away done)

    module _ (black : sl2.red ≡ false) where
      pub child_away : HasChild m q away
      child_away = let (out, (mid, g)) = coloured false black in subst (HasChild m q) (sym r.is_away) (has_children g).0

      pub child_near : HasChild m q s
      child_near = let (out, (mid, g)) = coloured false black in (has_children g).1

      -- a red outer child
      module _ (i : ℕ) (is_red : red_child_in m q away ≡ Some i) where
        outer : (d : Data X S B) × ((x : Tree (Data X S B)) × (y : Tree (Data X S B)) × (mid : Tree (Data X S B)) × Gap w L is_near is_item is_value beside m root es p s q n false (fork true i d x y) mid)
        outer =
            let (out, (mid, g)) = coloured false black in
            let (d, (x, y, is)) = red_fork out i (sym (outer_is g) ∙ ap (red_child_in m q) (sym r.is_away) ∙ is_red) in
            (d, (x, y, mid, subst (λ t. Gap w L is_near is_item is_value beside m root es p s q n false t mid) is g))

        pub can_turn_outer : Valued w is_item is_value es → CanTurnAt w is_near is_item is_value m root p away
        can_turn_outer v = let (d, (x, y, mid, g)) = outer in can_turn false (fork true i d x y) mid g v

        module _ {m2 : map.FinMap nat_cmp (Slot (Data X S B))} {root2 : Option ℕ} (done : AtSpot m root p (λ sp. TurnedAt w is_near m2 root2 p away sp)) where
          turned_away : AtSpot m root p (λ sp. TurnedAt w is_near m2 root2 p (other s) sp)
          turned_away = subst (λ l. AtSpot m root p (λ sp. TurnedAt w is_near m2 root2 p l sp)) r.is_away done

          pub outer_stands : Stands m2 root2 i
          outer_stands = let (d, (x, y, mid, g)) = outer in stands_outer g turned_away

          pub outer_mended : {m3 : map.FinMap nat_cmp (Slot (Data X S B))} {root3 : Option ℕ} → Painted m2 root2 m3 root3 i false → Mended w is_near beside m3 root3 es
          outer_mended paint = let (d, (x, y, mid, g)) = outer in outer_closed g turned_away paint

      module _ (none : red_child_in m q away ≡ None) where
        outer_even : (out mid : Tree (Data X S B)) (g : Gap w L is_near is_item is_value beside m root es p s q n false out mid) → Rb false g.black out
        outer_even out mid g =
            let ((c, h), _) = nephews s g.red p q g.black g.datum g.brother out mid g.hole g.fits in
            not_red c g.black out (sym (outer_is g) ∙ ap (red_child_in m q) (sym r.is_away) ∙ none) h

        -- a red inner child
        module _ (i : ℕ) (is_red : red_child_in m q s ≡ Some i) where
          inner : (out : Tree (Data X S B)) × ((d : Data X S B) × (x : Tree (Data X S B)) × (y : Tree (Data X S B)) × (g : Gap w L is_near is_item is_value beside m root es p s q n false out (forked s true i d x y)) × Rb false g.black out)
          inner =
              let (out, (mid, g)) = coloured false black in
              let (d, (x, y, is)) = red_fork mid i (sym (inner_is g) ∙ is_red) in
              let (a, (c, again)) = reforked s true i d x y in
              let g2 = subst (λ t. Gap w L is_near is_item is_value beside m root es p s q n false out t) (is ∙ again) g in
              (out, (d, a, c, g2, outer_even out (forked s true i d a c) g2))

          pub can_turn_inner : Valued w is_item is_value es → CanTurnAt w is_near is_item is_value m root q s
          can_turn_inner v = let (out, (d, x, y, g, even)) = inner in can_turn_brother g i d x y refl refl v

          module _ {m2 : map.FinMap nat_cmp (Slot (Data X S B))} {root2 : Option ℕ} (done : AtSpot m root q (λ sp. TurnedAt w is_near m2 root2 q s sp)) where
            raised_inner : (d : Data X S B) × ((x : Tree (Data X S B)) × (y : Tree (Data X S B)) × (z : Tree (Data X S B)) × Gap w L is_near is_item is_value beside m2 root2 es p s i n false (fork true q d x y) z)
            raised_inner =
                let (out, (d, x, y, g, even)) = inner in
                let (d2, (x2, y2, g2)) = inner_gap i d x y out g even done in
                (d2, (x2, y2, x, g2))

            pub can_turn_again : Valued w is_item is_value es → CanTurnAt w is_near is_item is_value m2 root2 p away
            can_turn_again v =
                let (d, (x, y, z, g)) = raised_inner in
                subst (CanTurnAt w is_near is_item is_value m2 root2 p) (sym r.is_away) (can_turn_parent g v)

            module _ {m3 : map.FinMap nat_cmp (Slot (Data X S B))} {root3 : Option ℕ} (done2 : AtSpot m2 root2 p (λ sp. TurnedAt w is_near m3 root3 p away sp)) where
              turned_again : AtSpot m2 root2 p (λ sp. TurnedAt w is_near m3 root3 p (other s) sp)
              turned_again = subst (λ l. AtSpot m2 root2 p (λ sp. TurnedAt w is_near m3 root3 p l sp)) r.is_away done2

              pub inner_stands : Stands m3 root3 q
              inner_stands = let (d, (x, y, z, g)) = raised_inner in stands_outer g turned_again

              pub inner_mended : {m4 : map.FinMap nat_cmp (Slot (Data X S B))} {root4 : Option ℕ} → Painted m3 root3 m4 root4 q false → Mended w is_near beside m4 root4 es
              inner_mended paint = let (d, (x, y, z, g)) = raised_inner in outer_closed g turned_again paint

        -- no red child
        module _ (none2 : red_child_in m q s ≡ None) where
          plain : (out : Tree (Data X S B)) × ((mid : Tree (Data X S B)) × (g : Gap w L is_near is_item is_value beside m root es p s q n false out mid) × Rb false g.black out × Rb false g.black mid)
          plain =
              let (out, (mid, g)) = coloured false black in
              let (_, (c, h)) = nephews s g.red p q g.black g.datum g.brother out mid g.hole g.fits in
              (out, (mid, g, outer_even out mid g, not_red c g.black mid (sym (inner_is g) ∙ none2) h))

          pub plain_stands : Stands m root q
          plain_stands = let (out, (mid, g, ro, rm)) = plain in stands_brother g

          module _ {m2 : map.FinMap nat_cmp (Slot (Data X S B))} {root2 : Option ℕ} (paint : Painted m root m2 root2 q true) where
            pub plain_live : Live m2 p
            plain_live = let (out, (mid, g, ro, rm)) = plain in (_, parent_slot g paint)

            pub plain_parent : Stands m2 root2 p
            plain_parent = let (out, (mid, g, ro, rm)) = plain in stands_parent g paint

            module _ (sl3 : Slot (Data X S B)) (found3 : map.get m2 p ≡ Some sl3) where
              parent_red : (out mid : Tree (Data X S B)) (g : Gap w L is_near is_item is_value beside m root es p s q n false out mid) → g.red ≡ sl3.red
              parent_red out mid g =
                  sym (red-sided s (above g.hole) (root_of g.under) (root_of (forked (other s) true q g.brother out mid)) g.red g.datum)
                  ∙ ap (λ o. (unwrap_or o sl3).red) (sym (parent_slot g paint) ∙ found3)

              pub plain_mended : sl3.red ≡ true → {m3 : map.FinMap nat_cmp (Slot (Data X S B))} {root3 : Option ℕ} → Painted m2 root2 m3 root3 p false → Mended w is_near beside m3 root3 es
              plain_mended red paint2 =
                  let (out, (mid, g, ro, rm)) = plain in
                  parent_closed g paint (parent_red out mid g ∙ red) ro rm paint2

              pub plain_higher : sl3.red ≡ false → (at : Option (ℕ × Side)) → AtSpot m2 root2 p (λ sp. at ≡ place_of sp.hole) → Closing w is_near beside m2 root2 es at (n - 1)
              plain_higher dark at place =
                  let (out, (mid, g, ro, rm)) = plain in
                  at_top w L is_near is_item is_value beside m2 root2 es at (n - 1)
                  (subst (λ o. Short w is_near beside m2 root2 es o (n - 1)) (sym (place_above g paint at place))
                  (higher g paint (parent_red out mid g ∙ dark) ro rm))

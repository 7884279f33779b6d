-- A walk over the items of a kept tree: where it goes on, and the cost of its steps.
use Rattle.std.proofs.Common.{◌≡◌, ℕ, ◌+◌, ◌-◌, ◌*◌, ◌^◌, ◌≤◌, Bool, true, false, cond, eqb, eq-eqb, List, [], ◌∷◌, ◌++◌, length, Option, Some, None, refl, sym, ap, ◌∙◌, subst, arith, append_assoc, lit<, pow-add}
use Rattle.std.proofs.Math.Nat.{mul-le-mul, pow-le-pow_right}
use Rattle.std.proofs.lemmas.Bool.{ne_eqb}
use Rattle.std.proofs.lemmas.List.Sums.{sum_by-append, sum_by-cons}
use Rattle.std.specs.Prelude.{IfSome}
use Rattle.raw_arena.specs.Arena.{node, IsLive}
use Rattle.rb_rules.specs.declared.slot.Data.{Data}
use Rattle.rb_rules.specs.declared.slot.Side.{Side}
use Rattle.rb_rules.specs.declared.slot.Side.TheVariants.{Left, Right}
use Rattle.rb_rules.specs.declared.slot.Slot.{Slot}
use Rattle.rb_rules.specs.declared.weave.Weave.{Ghosts}
use Rattle.rb_rules.specs.Tree.{Tree, tip, fork, Hole, top, on, plug, above, count, depth, height, size}
use Rattle.rb_rules.specs.Woven.{shift_at}
use Rattle.rb_rules.proofs.Balance.{bound}
use Rattle.rb_rules.proofs.Holes.{count-plug, count_self}
use Rattle.rb_rules.proofs.Live.{slot_here}
use Rattle.rb_rules.proofs.Spots.{upper_is}
use Rattle.rb_arena.specs.declared.links.Links.{Links}
use Rattle.rb_arena.specs.Ends.{edge, rise, way, LowAt, StandsLow, IsBeside, IsBesideAfter}
use Rattle.rb_arena.specs.Names.{times_named}
use Rattle.rb_arena.specs.RbTree.{Listed, grown, items_in, seen, Kept, KeepsWithin, IsItem, SplitsAt, first_hole, first_or, neighbour_of, up_next}
use Rattle.rb_arena.specs.Walking.{Walked, LeftFrom, TellsFirst, items_from, one_on, turns, due_at, walked_of, Walks}
use Rattle.rb_arena.proofs.Climbing.{square_is}
use Rattle.rb_arena.proofs.Growing.{depth_height, grown_is, length-entries}
use Rattle.rb_arena.proofs.Keeping.{Node, beside_there, items_seen, low_there, made_there, node_of, own_spot, stands_there}
use Rattle.rb_arena.proofs.Listing.{items_are, low}
use Rattle.rb_arena.proofs.OwnNames.{own_names}

no_one : (b : Bool) → cond b 1 0 ≤ 0 → b ≡ false
no_one true le = absurd (omega arith)
no_one false le = refl

-- twice the number of nodes on the longest path
twice : (n h k : ℕ) → n ≤ 2 * h → 2 ^ h ≤ k * k → 2 ^ n ≤ k ^ 4
twice n h k le few =
    let p = 2 ^ h in let q = k * k in
    let up : 2 ^ n ≤ 2 ^ (h + h) = pow-le-pow_right {n = 2} (lit< tt) {i = n} {j = h + h} (omega (arith, le)) in
    let same : 2 ^ (h + h) ≡ p * p = pow-add 2 h h in
    let most : p * p ≤ q * q = mul-le-mul {n₁ = p} {m₁ = p} {n₂ = q} {m₂ = q} few few in
    let four : k ^ 4 ≡ q * q = pow-add k 2 2 ∙ (λ i. square_is k i * square_is k i) in omega (arith, up, same, most, four)

module _ {D : Type 0} where
  -- the number of nodes above the hole that have it on that side
  abbrev frames : Side → Hole D → ℕ
  frames side top = 0
  frames side (on z c i d x k) = one_on side z + frames side k

  depth-frames : (k : Hole D) → frames Left k + frames Right k ≡ depth k
  depth-frames top = refl
  depth-frames (on Left c i d x k) = let more = depth-frames k in omega (arith, more)
  depth-frames (on Right c i d x k) = let more = depth-frames k in omega (arith, more)

  turns_left : (side : Side) (id : ℕ) (c : Bool) (i : ℕ) (d : D) (x y : Tree D) → eqb id i ≡ false → eqb (count id x) 0 ≡ false → turns side id (fork c i d x y) ≡ one_on side Left + turns side id x
  turns_left side id c i d x y other there =
      ap (λ b. cond b 0 (cond (eqb (count id x) 0) (one_on side Right + turns side id y) (one_on side Left + turns side id x))) other
      ∙ ap (λ b. cond b (one_on side Right + turns side id y) (one_on side Left + turns side id x)) there

  turns_right : (side : Side) (id : ℕ) (c : Bool) (i : ℕ) (d : D) (x y : Tree D) → eqb id i ≡ false → eqb (count id x) 0 ≡ true → turns side id (fork c i d x y) ≡ one_on side Right + turns side id y
  turns_right side id c i d x y other there =
      ap (λ b. cond b 0 (cond (eqb (count id x) 0) (one_on side Right + turns side id y) (one_on side Left + turns side id x))) other
      ∙ ap (λ b. cond b (one_on side Right + turns side id y) (one_on side Left + turns side id x)) there

  turns-plug : (side : Side) (id : ℕ) (k : Hole D) (t : Tree D) → 1 ≤ count id t → count id (plug k t) ≤ 1 → turns side id (plug k t) ≡ turns side id t + frames side k
  turns-plug side id top t some once = omega arith
  turns-plug side id (on Left c i d x k) t some once =
      let all = count-plug id k (fork c i d t x) in
      let other = no_one (eqb id i) (omega (arith, once, all, some)) in
      let one = turns_left side id c i d t x other (ne_eqb (count id t) 0 (λ e. absurd (omega (arith, e, some)))) in
      let more = turns-plug side id k (fork c i d t x) (omega (arith, some)) once in omega (arith, one, more)
  turns-plug side id (on Right c i d x k) t some once =
      let all = count-plug id k (fork c i d x t) in
      let other = no_one (eqb id i) (omega (arith, once, all, some)) in
      let none : count id x ≡ 0 = omega (arith, once, all, some) in
      let one = turns_right side id c i d x t other (eq-eqb (count id x) 0 none) in
      let more = turns-plug side id k (fork c i d x t) (omega (arith, some)) once in omega (arith, one, more)

  module _ (whole : Tree D) (once : (j : ℕ) → count j whole ≤ 1) where
    module _ (k : Hole D) (c : Bool) (id : ℕ) (d : D) (x y : Tree D) (same : plug k (fork c id d x y) ≡ whole) where
      turns_at : (side : Side) → turns side id whole ≡ frames side k
      turns_at side =
          let some = count_self id (count id x + count id y) in
          let none : turns side id (fork c id d x y) ≡ 0 = ap (λ b. cond b 0 (cond (eqb (count id x) 0) (one_on side Right + turns side id y) (one_on side Left + turns side id x))) (eq-eqb id id refl) in
          ap (turns side id) (sym same) ∙ turns-plug side id k (fork c id d x y) (omega (arith, some)) (subst (λ t. count id t ≤ 1) (sym same) (once id)) ∙ omega (arith, none)

      due_is : due_at whole (Some id) ≡ (height whole + frames Right k) - frames Left k
      due_is = ap (λ n. (height whole + n) - turns Left id whole) (turns_at Right) ∙ ap (λ n. (height whole + frames Right k) - n) (turns_at Left)

      -- the number of nodes above a node is at most the height of the tree
      few_frames : frames Left k + frames Right k + 1 ≤ height whole
      few_frames = let deep = depth_height k (fork c id d x y) in let high = ap height same in let all = depth-frames k in omega (arith, deep, high, all)

      pub due_few : due_at whole (Some id) ≤ 2 * height whole
      due_few = let is = due_is in let few = few_frames in omega (arith, is, few)

    -- a node, with the numbers of ancestors that have it on their right and on their left
    record Stop (j before after : ℕ) : Type 0 where
      hole : Hole D
      red : Bool
      datum : D
      left : Tree D
      right : Tree D
      same : plug hole (fork red j datum left right) ≡ whole
      before_is : frames Right hole ≡ before
      after_is : frames Left hole ≡ after

    stop_due : {j before after : ℕ} → Stop j before after → (due_at whole (Some j) ≡ (height whole + before) - after) × (after + before + 1 ≤ height whole)
    stop_due s =
        let is = due_is s.hole s.red _ s.datum s.left s.right s.same in let few = few_frames s.hole s.red _ s.datum s.left s.right s.same in let b = s.before_is in let a = s.after_is in
        (omega (arith, is, few, a, b), omega (arith, few, a, b))

    retold : {j before same_before after : ℕ} → before ≡ same_before → Stop j before after → Stop j same_before after
    retold {j} {after = after} is stop = subst (λ n. Stop j n after) is stop

    -- from a hole up to the node after it
    abbrev Rises : Hole D → Option ℕ → Type 0
    Rises k None = (rise Left k ≡ frames Right k) × (frames Left k ≡ 0)
    Rises k (Some j) = (before : ℕ) × ((after : ℕ) × Stop j before after × (frames Right k + 1 ≡ before + rise Left k) × (frames Left k ≡ 1 + after))

    higher : (o : Option ℕ) (c : Bool) (i : ℕ) (d : D) (x : Tree D) (k : Hole D) → Rises k o → Rises (on Right c i d x k) o
    higher None c i d x k (rose, none) = (omega (arith, rose), omega (arith, none))
    higher (Some j) c i d x k (before, (after, stop, rose, is)) = (before, (after, stop, omega (arith, rose), omega (arith, is)))

    rises : (k : Hole D) (t : Tree D) → plug k t ≡ whole → Rises k (up_next k)
    rises top t same = (refl, refl)
    rises (on Left c i d x k) t same =
        (frames Right k, (frames Left k, record { hole = k; red = c; datum = d; left = t; right = x; same = same; before_is = refl; after_is = refl }, omega arith, omega arith))
    rises (on Right c i d x k) t same = higher (up_next k) c i d x k (rises k (fork c i d x t) same)

    -- from a hole down to the first node of the tree in it
    falls : (k : Hole D) (c : Bool) (i : ℕ) (d : D) (x y : Tree D) → plug k (fork c i d x y) ≡ whole
        → (j : ℕ) × ((after : ℕ) × (above (first_hole k (fork c i d x y)) ≡ Some j) × Stop j (frames Right k) after × (after + 1 ≡ frames Left k + edge Left (fork c i d x y)))
    falls k c i d tip y same =
        (i, (frames Left k, refl, record { hole = k; red = c; datum = d; left = tip; right = y; same = same; before_is = refl; after_is = refl }, omega arith))
    falls k c i d (fork c2 i2 d2 x2 y2) y same =
        let (j, (after, is, stop, fell)) = falls (on Left c i d y k) c2 i2 d2 x2 y2 same in (j, (after, is, retold (omega arith) stop, omega (arith, fell)))

    -- from a node to the next one
    abbrev Pays : ℕ → ℕ → Option ℕ → Type 0
    Pays id steps o = steps + 1 + due_at whole o ≤ due_at whole (Some id) + 3

    module _ (k : Hole D) (c : Bool) (id : ℕ) (d : D) (l : Tree D) where
      pays_up : (o : Option ℕ) (steps : ℕ) → plug k (fork c id d l tip) ≡ whole → Rises k o → steps ≡ rise Left k → Pays id steps o
      pays_up None steps same (rose, none) is =
          let due = due_is k c id d l tip same in let few = few_frames k c id d l tip same in omega (arith, rose, none, is, due, few)
      pays_up (Some j) steps same (before, (after, stop, rose, down)) is =
          let due = due_is k c id d l tip same in let few = few_frames k c id d l tip same in let (next, lows) = stop_due stop in
          omega (arith, rose, down, is, due, few, next, lows)

      pays_next : (beside r : Tree D) (o : Option ℕ) (steps : ℕ) → plug k (fork c id d l r) ≡ whole
          → o ≡ neighbour_of Right id (record { beside = beside; hole = k; red = c; datum = d; left = l; right = r })
          → steps ≡ way Right (record { beside = beside; hole = k; red = c; datum = d; left = l; right = r }) → Pays id steps o
      pays_next beside tip o steps same next is = pays_up o steps same (subst (Rises k) (sym next) (rises k (fork c id d l tip) same)) is
      pays_next beside (fork c2 i2 d2 x2 y2) o steps same next is =
          let r = fork c2 i2 d2 x2 y2 in
          let (j, (after, named, stop, fell)) = falls (on Right c id d l k) c2 i2 d2 x2 y2 same in
          let due = due_is k c id d l r same in let few = few_frames k c id d l r same in let (due_next, lows) = stop_due stop in
          let there : due_at whole o ≡ due_at whole (Some j) = ap (due_at whole) (next ∙ named) in
          omega (arith, fell, is, due, few, due_next, lows, there)

-- the items from a given item on
items_at : {X : Type 0} (us : List (ℕ × X)) (id : ℕ) (x : X) (vs : List (ℕ × X)) → times_named id (us ++ (id, x) ∷ vs) ≤ 1 → items_from (us ++ (id, x) ∷ vs) id ≡ (id, x) ∷ vs
items_at [] id x vs once = ap (λ b. cond b ((id, x) ∷ vs) (items_from vs id)) (eq-eqb id id refl)
items_at {X} (u ∷ us) id x vs once =
    let named : (ℕ × X) → ℕ = λ item. cond (eqb id item.0) 1 0 in
    let rest = us ++ (id, x) ∷ vs in
    let first = sum_by-cons named u rest in
    let parts = sum_by-append named us ((id, x) ∷ vs) in
    let own = sum_by-cons named (id, x) vs in
    let self = count_self id (times_named id vs) in
    let other = no_one (eqb id u.0) (omega (arith, once, first, parts, own, self)) in
    ap (λ b. cond b (u ∷ rest) (items_from rest id)) other ∙ items_at us id x vs (omega (arith, once, first))

module _ {W X S B K : Type 0} (w : Ghosts W X S B K) (reach : B) (links : Links (Data X S B)) (front : Option ℕ) (kept : KeepsWithin w reach links front) where
  tree_is : grown links.nodes.live 128 links.root ≡ kept.tree
  tree_is = ap (grown links.nodes.live 128) kept.made.from ∙ grown_is links.nodes.live 128 None kept.tree kept.made.nodes (let lo = low kept in omega (arith, lo))

  once_each : (j : ℕ) → count j kept.tree ≤ 1
  once_each j = let all = kept.made.once j in omega (arith, all)

  -- the items left from an item on
  module _ (us : List (ℕ × X)) (id : ℕ) (x : X) (vs : List (ℕ × X)) (e : SplitsAt (items_in w.weaving links.nodes.live links.root) id us x vs) where
    abbrev there : Node w reach links front kept us id x vs
    there = node_of w reach links front kept us id x vs refl e

    left_is : items_from (items_in w.weaving links.nodes.live links.root) id ≡ (id, x) ∷ vs
    left_is =
        let names = own_names w.weaving links.nodes.live kept.beside links.root kept.tree kept.made id in
        let listed = sym (items_are kept) ∙ e in
        let once : times_named id (us ++ (id, x) ∷ vs) ≤ 1 = subst (λ es. times_named id es ≤ 1) listed (omega (arith, names)) in
        ap (λ es. items_from es id) e ∙ items_at us id x vs once

    due_there : due_at kept.tree (Some id) ≤ 2 * height kept.tree
    due_there = let n = there in let s = n.spot in due_few kept.tree once_each s.hole s.red id s.datum s.left s.right n.whole

    -- the node beside it is that of the next item
    next_first : (o : Option ℕ) → IsBeside links id Right o → o ≡ first_or None vs
    next_first o is = beside_there there Right o is

    pays_there : (o : Option ℕ) (steps : ℕ) → IsBeside links id Right o → IsBesideAfter links id Right steps → steps + 1 + due_at kept.tree o ≤ due_at kept.tree (Some id) + 3
    unfolding IsBeside IsBesideAfter
    pays_there o steps is after =
        let n = there in let s = n.spot in let lies : LowAt links id (own_spot n) = (made_there n, low_there n) in
        pays_next kept.tree once_each s.hole s.red id s.datum s.left kept.beside s.right o steps n.whole (is (own_spot n) lies) (after (own_spot n) lies)

  -- the items from the next one on are those after this one
  left_next : (us : List (ℕ × X)) (id : ℕ) (x : X) (vs : List (ℕ × X)) → SplitsAt (items_in w.weaving links.nodes.live links.root) id us x vs
      → IfSome (first_or None vs) (IsItem (items_in w.weaving links.nodes.live links.root)) × ((walked_of w.weaving links (first_or None vs)).left ≡ vs)
  unfolding walked_of
  left_next us id x [] e = (tt, refl)
  left_next us id x (v ∷ vs) e =
      let next = e ∙ sym (append_assoc us ((id, x) ∷ []) (v ∷ vs)) in ((us ++ (id, x) ∷ [], (v.1, (vs, next))), left_is (us ++ (id, x) ∷ []) v.0 v.1 vs next)

module _ {W X S B K : Type 0} (w : Ghosts W X S B K) (links : Links (Data X S B)) where
  module _ (at : Option ℕ) (id : ℕ) (some : at ≡ Some id) where
    stands_named : Walks w links at → (reach : B) × ((front : Option ℕ) × Kept w reach links front × IsItem (items_in w.weaving links.nodes.live links.root) id)
    unfolding Walks
    stands_named (reach, (front, kept, item)) = (reach, (front, kept, subst (λ o. IfSome o (IsItem (items_in w.weaving links.nodes.live links.root))) some item))

    pub walk_stands : Walks w links at → StandsLow links id
    unfolding Kept
    walk_stands walks =
        let (reach, (front, (l, fits, kept), (us, (x, (vs, e))))) = stands_named walks in stands_there (there w reach links front kept us id x vs e)

    pub walk_lives : Walks w links at → IsLive links.nodes id
    unfolding StandsLow
    walk_lives walks = let (s, low_) = walk_stands walks in (_, slot_here links.nodes.live links.root s id low_.0)

    module _ (next : Option ℕ) where
      pub walk_goes : Walks w links at → IsBeside links id Right next → Walks w links next
      unfolding Walks Kept
      walk_goes walks is =
          let (reach, (front, (l, fits, kept), (us, (x, (vs, e))))) = stands_named walks in
          (reach, (front, (l, fits, kept), subst (λ o. IfSome o (IsItem (items_in w.weaving links.nodes.live links.root))) (sym (next_first w reach links front kept us id x vs e next is)) (left_next w reach links front kept us id x vs e).0))

      pub walk_tells : (view : Walked X) (slot : Slot (Data X S B)) → Walks w links at → walked_of w.weaving links at ≡ view → node links.nodes id ≡ Some slot → IsBeside links id Right next
          → TellsFirst w.weaving view.left (walked_of w.weaving links next).left (id, slot.«data».item)
      unfolding Kept walked_of
      walk_tells view slot walks shows read is =
          let (reach, (front, (l, fits, kept), (us, (x, (vs, e))))) = stands_named walks in
          let n = there w reach links front kept us id x vs e in
          let item = ap (λ (q : Slot (Data X S B)). q.«data».item) (upper_is links.nodes.live links.root (own_spot n) id (made_there n) Left slot read) in
          let rest = ap (λ o. (walked_of w.weaving links o).left) (next_first w reach links front kept us id x vs e next is) ∙ (left_next w reach links front kept us id x vs e).1 in (
            shift_at w.weaving n.spot.hole,
            sym (ap (λ a. a.left) shows) ∙ ap (λ o. (walked_of w.weaving links o).left) some ∙ left_is w reach links front kept us id x vs e
                ∙ (λ i. (id, (n.value ∙ ap (w.weaving.shift (shift_at w.weaving n.spot.hole)) (sym item)) i) ∷ sym rest i),
          )

      pub walk_pays : (view : Walked X) (start mid last : ℕ) → Walks w links at → walked_of w.weaving links at ≡ view → mid ≡ start + 1 → IsBeside links id Right next → IsBesideAfter links id Right (last - mid)
          → (last - start) + (walked_of w.weaving links next).due ≤ view.due + 3
      unfolding Kept walked_of
      walk_pays view start mid last walks shows one is after =
          let (reach, (front, (l, fits, kept), (us, (x, (vs, e))))) = stands_named walks in
          let pays = pays_there w reach links front kept us id x vs e next (last - mid) is after in
          let old : view.due ≡ due_at kept.tree (Some id) = sym (ap (λ a. a.due) shows) ∙ ap (due_at (grown links.nodes.live 128 links.root)) some ∙ ap (λ t. due_at t (Some id)) (tree_is w reach links front kept) in
          let new = ap (λ t. due_at t next) (tree_is w reach links front kept) in
          omega (arith, pays, old, new, one)

  pub walk_over : (at : Option ℕ) (view : Walked X) → walked_of w.weaving links at ≡ view → at ≡ None → view.left ≡ []
  unfolding walked_of
  walk_over at view shows none = sym (ap (λ a. a.left) shows) ∙ ap (λ o. (walked_of w.weaving links o).left) none

-- the start of a walk
module _ {W X S B K : Type 0} (w : Ghosts W X S B K) (reach : B) (links : Links (Data X S B)) (front : Option ℕ) (view : Listed X) where
  pub walk_starts : (id : Option ℕ) → Kept w reach links front → seen w.weaving links front ≡ view → IfSome id (IsItem view.items) → Walks w links id
  unfolding Walks seen
  walk_starts id kept shows item = (reach, (front, kept, subst (λ es. IfSome id (IsItem es)) (sym (ap (λ l. l.items) shows)) item))

  pub walk_left : (id : Option ℕ) → Kept w reach links front → seen w.weaving links front ≡ view → LeftFrom view.items id (walked_of w.weaving links id).left
  unfolding Kept seen walked_of
  walk_left None kept shows = refl
  walk_left (Some id) (l, fits, kept) shows = λ us x vs e. left_is w reach links front kept us id x vs (ap (λ l. l.items) shows ∙ e)

  pub walk_due : (id : Option ℕ) → Kept w reach links front → seen w.weaving links front ≡ view → IfSome id (IsItem view.items) → 2 ^ (walked_of w.weaving links id).due ≤ (length view.items + 1) ^ 4
  unfolding Kept seen walked_of
  walk_due id (l, fits, kept) shows item =
      let same = items_seen w reach links front kept (ap (λ l. l.items) shows) in
      let n : size kept.tree ≡ length view.items = sym (length-entries w.weaving w.weaving.still kept.tree) ∙ ap length (sym same) in
      let few : (o : Option ℕ) → IfSome o (IsItem view.items) → due_at kept.tree o ≤ 2 * height kept.tree =
      λ o some. elim o as (λ o. IfSome o (IsItem view.items) → due_at kept.tree o ≤ 2 * height kept.tree) [
        | None ↦ λ none. omega arith
        | Some i ↦ λ (us, (x, (vs, e))). due_there w reach links front kept us i x vs (ap (λ l. l.items) shows ∙ e)
      ] some in
      let due = ap (λ t. due_at t id) (tree_is w reach links front kept) in let most = few id item in
      subst (λ k. 2 ^ due_at (grown links.nodes.live 128 links.root) id ≤ (k + 1) ^ 4) n (twice (due_at (grown links.nodes.live 128 links.root) id) (height kept.tree) (size kept.tree + 1) (omega (arith, due, most)) (bound kept.tree kept.balanced))

pub ruleset stepping = (walk_stands, walk_lives, walk_goes, walk_tells, walk_pays, walk_over)

pub ruleset starting = (walk_starts, walk_left, walk_due)

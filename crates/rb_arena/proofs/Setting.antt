-- Replacement of an item.
use Rattle.std.proofs.Common.{◌≡◌, ℕ, Bool, true, false, List, [], ◌∷◌, ◌++◌, length, length-append, Option, sym, ap, ◌∙◌, subst, arith, append_assoc}
use Rattle.std.specs.Ordering.{nat_cmp}
use Rattle.std.specs.FinMap as map
use Rattle.rb_rules.specs.declared.slot.Data.{Data}
use Rattle.rb_rules.specs.declared.slot.Slot.{Slot}
use Rattle.rb_rules.specs.declared.weave.Weave.{Ghosts}
use Rattle.rb_rules.specs.Tree.{Tree, fork, Hole, plug}
use Rattle.rb_rules.specs.Colours.{Rb, Balanced}
use Rattle.rb_rules.specs.Weaving.{Weaving, Lawful}
use Rattle.rb_rules.specs.Woven.{entries, sum_of, AllItems, Valued, lefts, rights, shift_at}
use Rattle.rb_rules.specs.Sound.{RenewedFrom}
use Rattle.rb_rules.proofs.Colouring as C
use Rattle.rb_rules.proofs.Shapes.{same_items, same_colours}
use Rattle.rb_rules.proofs.Weaves.{entries-plug}
use Rattle.rb_arena.specs.declared.links.Links.{Links}
use Rattle.rb_arena.specs.Leaving.{shown}
use Rattle.rb_arena.specs.Rising.{Mended}
use Rattle.rb_arena.specs.Stopping.{CanSetAt, with_own}
use Rattle.rb_arena.specs.RbTree.{with_item, items_in, loose_in, Keeps, KeepsWithin}
use Rattle.rb_arena.proofs.Keeping.{Node, own_spot, made_there, woven_there, few_above}
use Rattle.rb_arena.proofs.Listing.{loose_are, keeps_mended}

rb_data : {D : Type 0} (b c : Bool) (n i : ℕ) (d e : D) (x y : Tree D) → Rb c n (fork b i d x y) → Rb c n (fork b i e x y)
rb_data true c n i d e x y r = r
rb_data false c n i d e x y r = r

-- other data at a node
balanced_data : {D : Type 0} (k : Hole D) (c : Bool) (i : ℕ) (d e : D) (x y : Tree D) → Balanced (plug k (fork c i d x y)) → Balanced (plug k (fork c i e x y))
balanced_data k c i d e x y bal = let (n, (b, q, f)) = C.unplugged k (fork c i d x y) bal in C.plugged b n k (fork c i e x y) (rb_data c b n i d e x y q) f

items_with : {X S B : Type 0} (w : Weaving X S B) (is_item : X → Type 0) (us : List (ℕ × X)) (i : ℕ) (x y : X) (vs : List (ℕ × X)) → is_item y → AllItems w is_item (us ++ (i, x) ∷ vs) → AllItems w is_item (us ++ (i, y) ∷ vs)
items_with w is_item [] i x y vs h (g, gs) = (h, gs)
items_with w is_item (u ∷ us) i x y vs h (g, gs) = (g, items_with w is_item us i x y vs h gs)

module _ {W X S B K : Type 0} {w : Ghosts W X S B K} {reach : B} {links : Links (Data X S B)} {front : Option ℕ} {kept : KeepsWithin w reach links front}
    {us : List (ℕ × X)} {id : ℕ} {x : X} {vs : List (ℕ × X)} (n : Node w reach links front kept us id x vs) (L : Lawful w.weaving)
    (y own : X) (value : w.is_item y) (sum : w.is_value (sum_of w.weaving (us ++ (id, y) ∷ vs))) (is : shown w.weaving n.spot own ≡ y) where
  values_there : Valued w.weaving w.is_item w.is_value (us ++ (id, y) ∷ vs)
  values_there = (items_with w.weaving w.is_item us id x y vs value (subst (AllItems w.weaving w.is_item) n.listed kept.values.0), sum)

  list_is : entries w.weaving w.weaving.still (with_own n.spot id own) ≡ us ++ (id, y) ∷ vs
  list_is =
      let s = n.spot in let acc = shift_at w.weaving s.hole in let before = lefts w.weaving s.hole in let after = rights w.weaving s.hole in
      let es = entries w.weaving acc s.left in let fs = entries w.weaving (w.weaving.plus acc s.datum.delta) s.right in let e : ℕ × X = (id, shown w.weaving s own) in
      entries-plug w.weaving L (w.within reach) s.hole (fork s.red id (with_item s.datum own) s.left s.right) ∙ ap (λ q. before ++ q) (append_assoc es (e ∷ fs) after) ∙ sym (append_assoc before es (e ∷ (fs ++ after)))
      ∙ (λ i. sym n.before i ++ (id, is i) ∷ sym n.after i)

  pub can_set_there : CanSetAt w links id own reach (own_spot n)
  can_set_there =
      let few = few_above n in (made_there n, woven_there n, subst (Valued w.weaving w.is_item w.is_value) (sym list_is) values_there, omega (arith, few))

  pub kept_there : (m3 : map.FinMap nat_cmp (Slot (Data X S B))) (root3 : Option ℕ) → RenewedFrom w.weaving (w.within reach) kept.beside m3 root3 (with_own n.spot id own) → map.len m3 ≡ map.len links.nodes.live
      → Keeps w.weaving (w.within reach) w.is_item w.is_value m3 root3 front × (items_in w.weaving m3 root3 ≡ us ++ (id, y) ∷ vs)
      × (loose_in w.weaving m3 front ≡ loose_in w.weaving links.nodes.live front)
  kept_there m3 root3 (u, made, wv, alike) many =
      let (b, (c, q)) = balanced_data n.spot.hole n.spot.red id n.spot.datum (with_item n.spot.datum own) n.spot.left n.spot.right (subst Balanced (sym n.whole) kept.balanced) in
      let mended : Mended w.weaving (w.within reach) kept.beside m3 root3 (us ++ (id, y) ∷ vs)
      = (u, made, (wv, same_items w.weaving w.weaving.still u (with_own n.spot id own) alike ∙ list_is), (b, (c, same_colours c b (with_own n.spot id own) u (sym alike) q))) in
      let all = kept.all in let few = kept.few in let n1 = length-append us ((id, y) ∷ vs) in let n2 = length-append us ((id, x) ∷ vs) in let n3 = ap length n.listed in
      let (keeps, are, left) = keeps_mended w.weaving (w.within reach) w.is_item w.is_value m3 root3 front (us ++ (id, y) ∷ vs) kept.beside mended kept.first kept.chain values_there
      (omega (arith, many, all, n1, n2, n3)) (omega (arith, few, many)) in
      (keeps, are, left ∙ sym (loose_are kept))

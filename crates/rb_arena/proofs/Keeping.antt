-- The node of an item in a kept tree.
use Rattle.std.proofs.Common.{◌≡◌, ℕ, ◌+◌, ◌≤◌, List, ◌∷◌, ◌++◌, length, length-append, Option, None, refl, sym, ap, ◌∙◌, subst, arith}
use Rattle.std.specs.FinMap as map
use Rattle.rb_rules.specs.declared.slot.Data.{Data}
use Rattle.rb_rules.specs.declared.slot.Side.{Side}
use Rattle.rb_rules.specs.declared.slot.Side.TheVariants.{Left, Right}
use Rattle.rb_rules.specs.declared.weave.Weave.{Ghosts}
use Rattle.rb_rules.specs.Tree.{Tree, plug, depth, height, root_of}
use Rattle.rb_rules.specs.Memory.{Made, Spot, here}
use Rattle.rb_rules.specs.Weaving.{Lawful, Sums}
use Rattle.rb_rules.specs.Woven.{entries, Woven, AllItems, lefts, rights, shift_at}
use Rattle.rb_rules.proofs.Held.{items_right}
use Rattle.rb_rules.proofs.Wider.{woven_wider}
use Rattle.rb_arena.specs.declared.links.Links.{Links}
use Rattle.rb_arena.specs.Ends.{StandsLow, IsBeside}
use Rattle.rb_arena.specs.Leaving.{StoresBeside, WovenSpot, shown}
use Rattle.rb_arena.specs.Rising.{MendedBeside}
use Rattle.rb_arena.specs.RbTree.{items_in, loose_in, Chain, KeepsWithin, IsItem, first_or, last_or, name_beside}
use Rattle.rb_arena.proofs.Growing.{depth_height}
use Rattle.rb_arena.proofs.Leaving.{valued_without}
use Rattle.rb_arena.proofs.Listing.{low, items_are, loose_are, keeps_mended}
use Rattle.rb_arena.proofs.Locating.{lying, locate_in, next_is, prev_is}

-- the tree is kept and shows those items and those loose items
abbrev pub Shows : {W X S B K : Type 0} → Ghosts W X S B K → B → Links (Data X S B) → Option ℕ → List (ℕ × X) → List (ℕ × X) → Type 0
Shows w reach links front items loose = KeepsWithin w reach links front × (items_in w.weaving links.nodes.live links.root ≡ items) × (loose_in w.weaving links.nodes.live front ≡ loose)

module _ {W X S B K : Type 0} (w : Ghosts W X S B K) (reach : B) (links : Links (Data X S B)) (front : Option ℕ) (kept : KeepsWithin w reach links front) where
  abbrev pub all_items : List (ℕ × X)
  all_items = entries w.weaving w.weaving.still kept.tree

  pub items_seen : {items : List (ℕ × X)} → items_in w.weaving links.nodes.live links.root ≡ items → items ≡ all_items
  items_seen is = sym is ∙ items_are kept

  pub loose_seen : {loose : List (ℕ × X)} → loose_in w.weaving links.nodes.live front ≡ loose → entries w.weaving w.weaving.still kept.beside ≡ loose
  loose_seen is = sym (loose_are kept) ∙ is

  pub all_stored : StoresBeside w links reach kept.beside all_items
  all_stored = let all = kept.all in let few = kept.few in ((kept.tree, kept.made, (kept.woven, refl), kept.balanced), kept.values, omega (arith, all, few))

module _ {W X S B K : Type 0} (w : Ghosts W X S B K) (reach : B) (links : Links (Data X S B)) (front : Option ℕ) (kept : KeepsWithin w reach links front)
    (us : List (ℕ × X)) (id : ℕ) (x : X) (vs : List (ℕ × X)) where
  pub record Node : Type 0 where
    pub spot : Spot (Data X S B)
    pub whole : plug spot.hole (here spot id) ≡ kept.tree
    pub value : x ≡ shown w.weaving spot spot.datum.item
    pub before : us ≡ lefts w.weaving spot.hole ++ entries w.weaving (shift_at w.weaving spot.hole) spot.left
    pub after : vs ≡ entries w.weaving (w.weaving.plus (shift_at w.weaving spot.hole) spot.datum.delta) spot.right ++ rights w.weaving spot.hole
    pub listed : entries w.weaving w.weaving.still kept.tree ≡ us ++ (id, x) ∷ vs

  pub node_of : {items : List (ℕ × X)} → items_in w.weaving links.nodes.live links.root ≡ items → items ≡ us ++ (id, x) ∷ vs → Node
  node_of is e =
      let listed : entries w.weaving w.weaving.still kept.tree ≡ us ++ (id, x) ∷ vs
      = sym (items_are kept) ∙ is ∙ e in
      let (s, whole, value, before, after) = locate_in w.weaving kept.tree us id x vs listed in
      record { spot = s; whole = whole; value = value; before = before; after = after; listed = listed }

module _ {W X S B K : Type 0} {w : Ghosts W X S B K} {reach : B} {links : Links (Data X S B)} {front : Option ℕ} {kept : KeepsWithin w reach links front}
    {us : List (ℕ × X)} {id : ℕ} {x : X} {vs : List (ℕ × X)} (n : Node w reach links front kept us id x vs) where
  abbrev pub own_spot : Spot (Data X S B)
  own_spot = lying kept.beside n.spot

  pub made_there : Made kept.beside links.nodes.live links.root (plug n.spot.hole (here n.spot id))
  made_there = subst (Made kept.beside links.nodes.live links.root) (sym n.whole) kept.made

  pub woven_there : Woven w.weaving (w.within reach) w.weaving.still (plug n.spot.hole (here n.spot id))
  woven_there = subst (Woven w.weaving (w.within reach) w.weaving.still) (sym n.whole) kept.woven

  pub low_there : depth n.spot.hole + height (here n.spot id) ≤ 126
  low_there =
      let deep = depth_height n.spot.hole (here n.spot id) in let high = ap height n.whole in
      let lo = low kept in omega (arith, deep, high, lo)

  pub few_above : depth n.spot.hole ≤ 126
  few_above = let lo = low_there in omega (arith, lo)

  pub woven_spot : ((b : B) → w.within reach b → w.is_near b) → WovenSpot w.weaving w.is_near links.nodes.live links.root id own_spot
  woven_spot near =
      let few = few_above in
      (made_there, woven_wider w.weaving (w.within reach) w.is_near near w.weaving.still (plug n.spot.hole (here n.spot id)) woven_there, omega (arith, few))

  pub value_there : (L : Lawful w.weaving) (sums : Sums w.weaving w.is_item w.is_sum) (parts : (a b : S) → w.is_value (w.weaving.join a b) → w.is_value a × w.is_value b)
      → w.is_item (shown w.weaving n.spot n.spot.datum.item)
  value_there L sums parts =
      let mine = items_right w.weaving L (w.within reach) w.is_item w.is_sum w.is_value sums parts us ((id, x) ∷ vs) (subst (AllItems w.weaving w.is_item) n.listed kept.values.0) in
      subst w.is_item n.value mine.0

  pub stands_there : StandsLow links id
  unfolding StandsLow
  stands_there = (own_spot, (made_there, low_there))

  pub stored_there : StoresBeside w links reach kept.beside (us ++ (id, x) ∷ vs)
  stored_there = subst (StoresBeside w links reach kept.beside) n.listed (all_stored w reach links front kept)

  -- the list without the item, in another tree and beside another chain; the lengths of lists and memories agree
  pub without_item : (L : Lawful w.weaving) (sums : Sums w.weaving w.is_item w.is_sum) (parts : (a b : S) → w.is_value (w.weaving.join a b) → w.is_value a × w.is_value b)
      (thins : (a b c : S) → w.is_value (w.weaving.join a (w.weaving.join b c)) → w.is_value (w.weaving.join a c))
      (last : Links (Data X S B)) (front2 : Option ℕ) (chain : Tree (Data X S B)) → MendedBeside w reach chain last (us ++ vs) → front2 ≡ root_of chain → Chain w.weaving chain
      → map.len last.nodes.live + 1 + length (entries w.weaving w.weaving.still kept.beside) ≡ map.len links.nodes.live + length (entries w.weaving w.weaving.still chain) → map.len last.nodes.live ≤ map.len links.nodes.live
      → Shows w reach last front2 (us ++ vs) (entries w.weaving w.weaving.still chain)
  without_item L sums parts thins last front2 chain mended first strung many less =
      let all = kept.all in let few = kept.few in let long = ap length n.listed in let old = length-append us ((id, x) ∷ vs) in let new = length-append us vs in
      keeps_mended w.weaving (w.within reach) w.is_item w.is_value last.nodes.live last.root front2 (us ++ vs) chain mended first strung
      (valued_without w.weaving L (w.within reach) w.is_item w.is_sum w.is_value sums parts thins us (id, x) vs stored_there.1) (omega (arith, all, long, old, new, many)) (omega (arith, few, less))

  -- the next node belongs to the next item
  pub beside_there : (side : Side) (o : Option ℕ) → IsBeside links id side o → o ≡ name_beside side us vs
  unfolding IsBeside
  beside_there Right o is =
      let s = n.spot in is own_spot (made_there, low_there) ∙ next_is w.weaving kept.beside s.hole s.red id s.datum s.left s.right ∙ ap (first_or None) (sym n.after)
  beside_there Left o is =
      let s = n.spot in is own_spot (made_there, low_there) ∙ prev_is w.weaving kept.beside s.hole s.red id s.datum s.left s.right ∙ ap (last_or None) (sym n.before)

-- the node of each item is in the tree
pub stands_item : {W X S B K : Type 0} (w : Ghosts W X S B K) (reach : B) (links : Links (Data X S B)) (front : Option ℕ) (kept : KeepsWithin w reach links front)
    (id : ℕ) {items : List (ℕ × X)} → items_in w.weaving links.nodes.live links.root ≡ items → IsItem items id → StandsLow links id
stands_item w reach links front kept id is (us, (x, (vs, e))) = stands_there (node_of w reach links front kept us id x vs is e)

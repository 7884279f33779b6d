-- The nodes after a removal: the node is removed from the memory, or put in front of the loose ones.
use Rattle.std.proofs.Common.{◌≡◌, ℕ, ◌+◌, ◌-◌, List, [], ◌∷◌, ◌++◌, Bool, false, Option, Some, None, refl, sym, ap, ◌∙◌, subst, length, arith}
use Rattle.std.specs.Prelude.{IfSome}
use Rattle.std.proofs.lemmas.Cmp.{nat_cmp_total}
use Rattle.std.specs.Ordering.{nat_cmp}
use Rattle.std.specs.FinMap as map
use Rattle.raw_arena.specs.Arena.{IsLive}
use Rattle.rb_rules.specs.declared.slot.Data.{Data}
use Rattle.rb_rules.specs.declared.slot.Side.{Side}
use Rattle.rb_rules.specs.declared.slot.Slot.{Slot}
use Rattle.rb_rules.specs.declared.weave.Weave.{Ghosts}
use Rattle.rb_rules.specs.Tree.{Tree, tip, fork, Hole, plug, root_of, height}
use Rattle.rb_rules.specs.Memory.{Made, Spot, here, adopted}
use Rattle.rb_rules.specs.Woven.{Woven, AllItems, lefts, rights}
use Rattle.rb_rules.proofs.Chains as chains
use Rattle.rb_rules.proofs.Detaching.{forgotten}
use Rattle.rb_rules.proofs.Live.{len_insert, len_adopted, live_adopted, live_root}
use Rattle.rb_rules.proofs.Wider.{woven_wider}
use Rattle.rb_arena.specs.declared.links.Links.{Links}
use Rattle.rb_arena.specs.Leaving.{Emptied, Unlinked, WovenSpot, IsShown, shown, loosened, StoresBeside, StoresItem, StoresItemBeside, StandsValued, IsEmptied, Settles, Leaves, Loosens, Unlinks}
use Rattle.rb_arena.specs.Nodes.{strung, Lives}
use Rattle.rb_arena.specs.Placing.{IsThere}
use Rattle.rb_arena.specs.Rising.{MendedBeside}
use Rattle.rb_arena.proofs.Emptying.{emptied_at}
use Rattle.rb_arena.proofs.Growing.{depth_height, length-entries, not_high}
use Rattle.rb_arena.proofs.Leaving.{some_left, stored_there}
use Rattle.rb_arena.proofs.Locating.{lying, locate_in}

-- removing a node decreases the number of live nodes by one
pub len_taken : {V : Type 0} (m m2 : map.FinMap nat_cmp V) (id : ℕ) (x : V) → m2 ≡ map.remove m id → map.get m id ≡ Some x → map.len m2 + 1 ≡ map.len m
len_taken m m2 id x new is =
    let some = some_left m id x is in let fewer : map.len m2 ≡ map.len m - 1 = ap map.len new ∙ map.len-remove nat_cmp_total m id ∙ rw is refl in omega (arith, some, fewer)

-- putting a live node in front of a chain leaves the number of live nodes unchanged
pub len_strung : {X S B : Type 0} (mid : Links (Data X S B)) (m2 : map.FinMap nat_cmp (Slot (Data X S B))) (id : ℕ) (front : Option ℕ) (datum : Data X S B) → m2 ≡ strung mid.nodes.live id front datum → Lives mid.nodes id → map.len m2 ≡ map.len mid.nodes.live
unfolding Lives
len_strung mid m2 id front datum new lives =
    let m = mid.nodes.live in
    ap map.len new ∙ len_insert (adopted m front (Some id)) id _ (live_adopted m front (Some id) id lives) ∙ len_adopted m front (Some id)

module _ {W X S B K : Type 0} (w : Ghosts W X S B K) where
  item_value : (us : List (ℕ × X)) (e : ℕ × X) (vs : List (ℕ × X)) → AllItems w.weaving w.is_item (us ++ e ∷ vs) → w.is_item e.1
  item_value [] e vs (h, hs) = h
  item_value (u ∷ us) e vs (h, hs) = item_value us e vs hs

  -- the node of an item that a tree stores
  spot_stored : ((reach by : B) → w.within reach by → w.is_near by) → (tree : Links (Data X S B)) (reach : B) (beside : Tree (Data X S B)) (us : List (ℕ × X)) (id : ℕ) (x : X) (vs : List (ℕ × X))
      → StoresBeside w tree reach beside (us ++ (id, x) ∷ vs)
      → (s : Spot (Data X S B)) × WovenSpot w.weaving w.is_near tree.nodes.live tree.root id s × (x ≡ shown w.weaving s s.datum.item)
  spot_stored near tree reach beside us id x vs ((t, made, (wv, e), bal), v, few) =
      let (s, whole, val, l, r) = locate_in w.weaving t us id x vs e in let deep = depth_height s.hole (here s id) in let high = ap height whole in
      let many = length-entries w.weaving w.weaving.still t in let long = ap length e in let low = not_high t bal (omega (arith, many, long, few)) in
      let woven = woven_wider w.weaving (w.within reach) w.is_near (near reach) w.weaving.still (plug s.hole (here s id)) (subst (Woven w.weaving (w.within reach) w.weaving.still) (sym whole) wv) in
      (lying beside s, (subst (Made beside tree.nodes.live tree.root) (sym whole) made, woven, omega (arith, deep, high, low)), val)

  module _ (old mid : Links (Data X S B)) (id : ℕ) (at : Option (ℕ × Side)) (red : Bool) where
    -- the node is removed from the memory
    module _ (bare : Links (Data X S B)) (gone : bare.nodes.live ≡ map.remove mid.nodes.live id) (top : bare.root ≡ mid.root) where
      taken : (reach : B) (beside : Tree (Data X S B)) (es : List (ℕ × X)) → Unlinked w.weaving (w.within reach) w.is_item w.is_value beside mid.nodes.live mid.root at red id es
          → (k : Hole (Data X S B)) × (lefts w.weaving k ++ rights w.weaving k ≡ es) × Emptied w.weaving (w.within reach) w.is_item w.is_value beside bare.nodes.live bare.root at red k
      taken reach beside es (k, list, (e, made, near, slack, v, le, fit), apart) =
          (k, list, (e, rw (gone, top) (forgotten mid.nodes.live id mid.root (plug k tip) apart made), near, slack, v, le, fit))

      pub emptied_taken : StoresItem w old id → Unlinks w old mid id at red → IsEmptied w bare at red
      unfolding StoresItem Unlinks
      emptied_taken (l, (reach, (beside, (us, (x, (vs, st)))))) unlinked =
          let (k, list, empty) = taken reach beside (us ++ vs) (unlinked reach beside us x vs st) in emptied_at w bare at red l reach beside k empty

      pub left_taken : (new : Links (Data X S B)) → Unlinks w old mid id at red → Settles w bare new at red → Leaves w old new id
      unfolding Unlinks Settles Leaves
      left_taken new unlinked settled = λ reach beside us x vs st.
          let (k, list, empty) = taken reach beside (us ++ vs) (unlinked reach beside us x vs st) in
          subst (MendedBeside w reach beside new) list (settled reach beside k empty)

    -- the node is put in front of the loose ones
    module _ (front : Option ℕ) where
      pub front_lives : StoresItemBeside w old id front → Unlinks w old mid id at red → IfSome front (λ i. IsLive mid.nodes i)
      unfolding StoresItemBeside Unlinks
      front_lives (l, (reach, (beside, (us, (x, (vs, st, first)))))) unlinked =
          let (k, list, empty, apart) = unlinked reach beside us x vs st in
          rw first (live_root mid.nodes.live mid.root None beside empty.1.aside)

      module _ (bare : Links (Data X S B)) (datum : Data X S B) (hung : bare.nodes.live ≡ strung mid.nodes.live id front datum) (top : bare.root ≡ mid.root) where
        loose : (reach : B) (beside : Tree (Data X S B)) (es : List (ℕ × X)) → front ≡ root_of beside → Unlinked w.weaving (w.within reach) w.is_item w.is_value beside mid.nodes.live mid.root at red id es
            → (k : Hole (Data X S B)) × (lefts w.weaving k ++ rights w.weaving k ≡ es)
            × Emptied w.weaving (w.within reach) w.is_item w.is_value (fork false id datum tip beside) bare.nodes.live bare.root at red k
        loose reach beside es first (k, list, (e, made, near, slack, v, le, fit), apart) =
            (k, list, (e, rw (hung, top, first) (chains.strung mid.nodes.live mid.root (plug k tip) id datum apart made), near, slack, v, le, fit))

        pub emptied_loose : StoresItemBeside w old id front → Unlinks w old mid id at red → IsEmptied w bare at red
        unfolding StoresItemBeside Unlinks
        emptied_loose (l, (reach, (beside, (us, (x, (vs, st, first)))))) unlinked =
            let (k, list, empty) = loose reach beside (us ++ vs) first (unlinked reach beside us x vs st) in emptied_at w bare at red l reach (fork false id datum tip beside) k empty

        pub left_loose : (new : Links (Data X S B)) (item : X) → StoresItemBeside w old id front → Unlinks w old mid id at red → Settles w bare new at red
            → IsShown w old id item → datum.item ≡ item → datum.delta ≡ w.weaving.still → datum.before ≡ w.weaving.none → datum.whole ≡ w.weaving.none
            → Loosens w old new id front
        unfolding StoresItemBeside Unlinks Settles Loosens IsShown
        left_loose new item (l, some) unlinked settled is e1 e2 e3 e4 = λ reach beside us x vs st first.
            let (k, list, empty) = loose reach beside (us ++ vs) first (unlinked reach beside us x vs st) in
            let (s, there, value) = spot_stored l.within_near old reach beside us id x vs st in
            let same : x ≡ datum.item = value ∙ sym (is s there) ∙ sym e1 in
            let kept : fork false id datum tip beside ≡ loosened w.weaving id x beside
            = λ i. fork false id (record { item = sym same i; delta = e2 i; before = e3 i; whole = e4 i }) tip beside in
            subst (λ u. MendedBeside w reach u new (us ++ vs)) kept (subst (MendedBeside w reach (fork false id datum tip beside) new) list (settled reach (fork false id datum tip beside) k empty))

  pub loose_valued : (tree : Links (Data X S B)) (id : ℕ) (front : Option ℕ) → StoresItemBeside w tree id front → StandsValued w tree id
  unfolding StoresItemBeside StandsValued
  loose_valued tree id front (l, (reach, (beside, (us, (x, (vs, st, first)))))) =
      let (s, there, value) = spot_stored l.within_near tree reach beside us id x vs st in (l, (s, there, subst w.is_item value (item_value us (id, x) vs st.1.0)))

  pub loose_stored : (tree : Links (Data X S B)) (id : ℕ) (front : Option ℕ) → StoresItemBeside w tree id front → StoresItem w tree id
  unfolding StoresItemBeside StoresItem
  loose_stored tree id front (l, (reach, (beside, (us, (x, (vs, st, first)))))) = (l, (reach, (beside, (us, (x, (vs, st))))))

  pub loose_there : (tree : Links (Data X S B)) (id : ℕ) (front : Option ℕ) → StoresItemBeside w tree id front → IsThere tree id
  loose_there tree id front stored = stored_there w tree id (loose_stored tree id front stored)

pub ruleset taking_out = (len_taken, stored_there, emptied_taken, left_taken)

pub ruleset loosening = (len_strung, loose_there, loose_valued, loose_stored, front_lives, emptied_loose, left_loose)

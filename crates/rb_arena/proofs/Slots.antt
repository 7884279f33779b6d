-- The slot of a node: the subtrees below it, the node above it, and the nodes that stay live.
use Rattle.std.proofs.Common.{◌≡◌, ℕ, Bool, Option, None, Some, refl, sym, ap, ◌∙◌, subst}
use Rattle.std.specs.Prelude.{IfSome, IsSome}
use Rattle.std.proofs.lemmas.Bool.{false≢true}
use Rattle.std.proofs.lemmas.Option.{IfSome_then}
use Rattle.std.specs.Ordering.{nat_cmp}
use Rattle.std.specs.FinMap as map
use Rattle.raw_arena.specs.Arena.{Nodes, IsLive}
use Rattle.rb_rules.specs.declared.slot.Data.{Data}
use Rattle.rb_rules.specs.declared.slot.Side.{Side}
use Rattle.rb_rules.specs.declared.slot.Side.TheVariants.{Left, Right}
use Rattle.rb_rules.specs.declared.slot.Slot.{Slot}
use Rattle.rb_rules.specs.Tree.{Tree, Hole, on, other, plug, root_of, above}
use Rattle.rb_rules.specs.Memory.{Made, AtSpot, Spot, adopted, below, child, hung, here, place_of, root_hung, side_by_name, sided}
use Rattle.rb_rules.specs.Weaving.{Weaving}
use Rattle.rb_rules.specs.Woven.{whole_at, whole_in}
use Rattle.rb_rules.proofs.Detaching.{replaced}
use Rattle.rb_rules.proofs.Live.{Live, len_insert, live_above, live_insert, no_place, side_is, slot_here}
use Rattle.rb_rules.proofs.Ups.{hole_on}
use Rattle.rb_rules.proofs.Spots.{at_place, turn_made, live_below, live_below_below, makes_below, upper_is, whole_in_is}
use Rattle.rb_rules.proofs.Turning.{rewritten}
use Rattle.rb_arena.specs.declared.links.Links.{Links}
use Rattle.rb_arena.specs.Nodes.{HasChildAt, Inherits, KeepLive, Lives, LivesAt, LivesIf, Rewrites, TurnsAt, slot_of}

module _ {D : Type 0} where
  pub child-slot : (side : Side) (s : Spot D) → child side (slot_of s) ≡ root_of (below side s)
  child-slot Left s = refl
  child-slot Right s = refl

  -- the name read for a child is that of the subtree's root
  pub child_there : (side : Side) (s : Spot D) (slot : Slot D) (o p : Option ℕ) → slot ≡ slot_of s → o ≡ child side slot → o ≡ p → root_of (below side s) ≡ p
  child_there side s slot o p is read named = sym (child-slot side s) ∙ ap (child side) (sym is) ∙ sym read ∙ named

  module _ (m : map.FinMap nat_cmp (Slot D)) (root : Option ℕ) where
    -- the node above a hole, from the hole's place
    pub record Upper (k : Hole D) (t : Tree D) (at : ℕ × Side) : Type 0 where
      pub spot : Spot D
      pub made : Made spot.beside m root (plug spot.hole (here spot at.0))
      pub hole_is : k ≡ on at.1 spot.red at.0 spot.datum (below (other at.1) spot) spot.hole
      pub below_is : below at.1 spot ≡ t

    upper_on : (beside : Tree D) (side : Side) (red : Bool) (i : ℕ) (d : D) (x : Tree D) (k : Hole D) (t : Tree D) → Made beside m root (plug (on side red i d x k) t) → Upper (on side red i d x k) t (i, side)
    upper_on beside Left red i d x k t h =
        record { spot = record { beside = beside; hole = k; red = red; datum = d; left = t; right = x }; made = h; hole_is = refl; below_is = refl }
    upper_on beside Right red i d x k t h =
        record { spot = record { beside = beside; hole = k; red = red; datum = d; left = x; right = t }; made = h; hole_is = refl; below_is = refl }

    pub upper_at : {beside : Tree D} (k : Hole D) (t : Tree D) → Made beside m root (plug k t) → {at : ℕ × Side} → place_of k ≡ Some at → Upper k t at
    upper_at {beside} k t h {at} named =
        let (red, (d, x, k2, same)) = hole_on k at.0 at.1 named in
        subst (λ l. Upper l t at) (sym same) (upper_on beside at.1 red at.0 d x k2 t (subst (λ l. Made beside m root (plug l t)) same h))

    -- the node above a node, from what was read of its place
    pub parent_of : (s : Spot D) (i : ℕ) → Made s.beside m root (plug s.hole (here s i)) → {place : Option (ℕ × Side)} → AtSpot m root i (λ q. place ≡ place_of q.hole) → {at : ℕ × Side} → place ≡ Some at
        → Upper s.hole (here s i) at
    parent_of s i h told is = upper_at s.hole (here s i) h (sym (told s h) ∙ is)

-- the node above a node
above_some : {D : Type 0} (m : map.FinMap nat_cmp (Slot D)) (o : Option ℕ) → ((j : ℕ) → o ≡ Some j → Live m j) → IfSome o (Live m)
above_some m None h = tt
above_some m (Some j) h = h j refl

pub above_lives : {D : Type 0} (m : map.FinMap nat_cmp (Slot D)) (root : Option ℕ) (s : Spot D) (i : ℕ) → Made s.beside m root (plug s.hole (here s i)) → IfSome (above s.hole) (Live m)
above_lives m root s i h = above_some m (above s.hole) (live_above m root s i h)

module _ {D : Type 0} where
  -- writing a node leaves the number of live nodes unchanged
  pub len_written : (m m2 : map.FinMap nat_cmp (Slot D)) (i : ℕ) (slot written : Slot D) → m2 ≡ map.insert m i written → map.get m i ≡ Some slot → map.len m2 ≡ map.len m
  len_written m m2 i slot written new is = ap map.len new ∙ len_insert m i written (slot, is)

  module _ (nodes : Nodes (Slot D)) (root : Option ℕ) (i : ℕ) where
    -- a node of a tree is live, and so are the nodes that it links to
    pub lives_here : (s : Spot D) → Made s.beside nodes.live root (plug s.hole (here s i)) → Lives nodes i
    unfolding Lives
    lives_here s h = (_, slot_here nodes.live root s i h)

    pub slot_read : (s : Spot D) (slot : Slot D) → Made s.beside nodes.live root (plug s.hole (here s i)) → map.get nodes.live i ≡ Some slot → slot ≡ slot_of s
    slot_read s slot h is = upper_is nodes.live root s i h Left slot is

    module _ (s : Spot D) (slot : Slot D) (h : Made s.beside nodes.live root (plug s.hole (here s i))) (is : map.get nodes.live i ≡ Some slot) where
      pub above_read : LivesIf nodes slot.parent
      unfolding LivesIf
      above_read = rw (slot_read s slot h is) (above_lives nodes.live root s i h)

      pub left_read : LivesIf nodes slot.left
      unfolding LivesIf
      left_read = rw (slot_read s slot h is) (live_below nodes.live root s i h Left)

      pub right_read : LivesIf nodes slot.right
      unfolding LivesIf
      right_read = rw (slot_read s slot h is) (live_below nodes.live root s i h Right)

  pub ruleset reading = (lives_here, slot_read, above_read, left_read, right_read)

  -- a node that was found is live and stays live
  pub found_lives : (nodes : Nodes (Slot D)) (i : ℕ) (slot : Slot D) → map.get nodes.live i ≡ Some slot → Lives nodes i
  unfolding Lives
  found_lives nodes i slot is = (slot, is)

  pub still_lives : (old new : Nodes (Slot D)) (i : ℕ) → KeepLive old new → Lives old i → Lives new i
  unfolding Lives KeepLive
  still_lives old new i kept live = kept i live

  pub ruleset living = (found_lives, still_lives)

  -- a write leaves all live nodes live
  pub stay_same : (nodes : Nodes (Slot D)) → KeepLive nodes nodes
  unfolding KeepLive
  stay_same nodes id live = live

  pub stay_written : (old new : Nodes (Slot D)) (i : ℕ) (slot : Slot D) → new.live ≡ map.insert old.live i slot → KeepLive old new
  unfolding KeepLive
  stay_written old new i slot is id live = rw is (live_insert old.live i slot id live)

  pub ruleset writing = (stay_written, len_written)

  pub ruleset staying = (stay_same, stay_written)

  -- a node of a tree that is written
  pub rewritten_so : (old new : Links D) (i : ℕ) (red : Bool) (datum : D) (slot : Slot D) → AtSpot old.nodes.live old.root i (λ s. slot ≡ slot_of s) → new.root ≡ old.root
      → new.nodes.live ≡ map.insert old.nodes.live i (record slot { red = red; «data» = datum }) → Rewrites old new i red datum
  unfolding Rewrites
  rewritten_so old new i red datum slot read top written s h =
      let same : record slot { red = red; «data» = datum } ≡ sided Left (above s.hole) (root_of s.left) (root_of s.right) red datum = ap {A = Slot D} (λ n. record n { red = red; «data» = datum }) (read s h) in
      rw (written, same, top) (rewritten old.nodes.live old.root s.hole Left s.red i s.datum s.left s.right red datum h)

  pub ruleset rewriting = (found_lives, rewritten_so)

  -- links to live nodes remain links to live nodes
  pub kept_link : (old new : Nodes (Slot D)) (o : Option ℕ) → KeepLive old new → LivesIf old o → LivesIf new o
  unfolding KeepLive LivesIf
  kept_link old new o kept live = IfSome_then o {P = λ i. IsLive old i} {Q = λ i. IsLive new i} live kept

  pub place_lives : (nodes : Nodes (Slot D)) (root : Option ℕ) (id : ℕ) (at : Option (ℕ × Side)) (s : Spot D) → Made s.beside nodes.live root (plug s.hole (here s id)) → AtSpot nodes.live root id (λ q. at ≡ place_of q.hole)
      → LivesAt nodes at
  unfolding LivesAt
  place_lives nodes root id at s h told = rw (told s h) (at_place nodes.live root s id h)

  pub kept_place : (old new : Nodes (Slot D)) (o : Option (ℕ × Side)) → KeepLive old new → LivesAt old o → LivesAt new o
  unfolding KeepLive LivesAt
  kept_place old new o kept live = IfSome_then o {P = λ at. IsLive old at.0} {Q = λ at. IsLive new at.0} live (λ at. kept at.0)

  -- a node in the place of another
  pub inherits_so : (old new : Links D) (id heir : ℕ) (datum : D) (slot written : Slot D) (at : Option (ℕ × Side)) (m1 m2 m3 : map.FinMap nat_cmp (Slot D))
      → AtSpot old.nodes.live old.root id (λ s. slot ≡ slot_of s) → AtSpot old.nodes.live old.root id (λ s. at ≡ place_of s.hole)
      → m1 ≡ adopted old.nodes.live slot.left (Some heir) → m2 ≡ adopted m1 slot.right (Some heir) → m3 ≡ hung m2 at (Some heir) → new.root ≡ root_hung old.root at (Some heir)
      → new.nodes.live ≡ map.insert m3 heir written → written ≡ sided Left slot.parent slot.left slot.right slot.red datum → Inherits old new id heir datum
  unfolding Inherits
  inherits_so old new id heir datum slot written at m1 m2 m3 read place left right up top last new_slot s h fresh =
      rw (last, up, right, left, top, new_slot, read s h, place s h) (replaced old.nodes.live old.root s.hole s.red id heir s.datum datum s.left s.right h fresh)

  pub ruleset replacing = (still_lives, kept_link, place_lives, kept_place, inherits_so)

  module _ (old : Links D) (id : ℕ) (side : Side) (has : HasChildAt old id side) (upper : Slot D) (read : map.get old.nodes.live id ≡ Some upper) where
    child_read : (o : Option ℕ) → child side upper ≡ o → (s : Spot D) × Made s.beside old.nodes.live old.root (plug s.hole (here s id)) × IsSome (root_of (below side s)) × (root_of (below side s) ≡ o)
    unfolding HasChildAt
    child_read o is = let (s, h, some) = has in (s, h, some, child_there side s upper o o (upper_is old.nodes.live old.root s id h Left upper read) (sym is) refl)

    pub no_child : (new : Links D) (low high : D) → child side upper ≡ None → TurnsAt old new id side low high
    no_child new low high none = let (s, h, some, top) = child_read None none in absurd (false≢true (rw top at some))

    module _ (j : ℕ) (is : child side upper ≡ Some j) where
      -- the child of a node that has one
      pub child_lives : Lives old.nodes j
      unfolding Lives
      child_lives = let (s, h, some, top) = child_read (Some j) is in rw top at (live_below old.nodes.live old.root s id h side)

      pub grandchild_lives : (o : Option ℕ) (lower : Slot D) → map.get old.nodes.live j ≡ Some lower → o ≡ child (other side) lower → LivesIf old.nodes o
      unfolding LivesIf
      grandchild_lives o lower found e = let (s, h, some, top) = child_read (Some j) is in rw e (live_below_below old.nodes.live old.root s id h side j lower top found)

  -- a turn, by what it writes
  pub turned_so : (old new : Links D) (id j : ℕ) (side : Side) (low high : D) (upper lower down up : Slot D) (at : Option (ℕ × Side)) (m1 m2 m3 : map.FinMap nat_cmp (Slot D))
      → new.nodes.live ≡ map.insert m3 j up → m3 ≡ map.insert m2 id down → map.get old.nodes.live id ≡ Some upper → map.get old.nodes.live j ≡ Some lower
      → AtSpot old.nodes.live old.root id (λ s. at ≡ place_of s.hole) → m2 ≡ hung m1 at (Some j) → new.root ≡ root_hung old.root at (Some j) → m1 ≡ adopted old.nodes.live (child (other side) lower) (Some id)
      → child side upper ≡ Some j → down ≡ sided side (Some j) (child (other side) lower) (child (other side) upper) lower.red low → up ≡ sided side upper.parent (child side lower) (Some id) upper.red high
      → TurnsAt old new id side low high
  unfolding TurnsAt
  turned_so old new id j side low high upper lower down up at m1 m2 m3 e4 e3 read found place e2 top e1 told e6 e7 s h =
      rw (e4, e3, e2, e1, top, e6, e7, place s h) (turn_made old.nodes.live old.root s id h side j upper lower low high read found told)

  pub ruleset turning = (found_lives, still_lives, child_lives, grandchild_lives, no_child, place_lives, kept_place, turned_so)

  -- the position of a node, from its links
  pub placed_top : (s : Spot D) (slot : Slot D) → slot ≡ slot_of s → slot.parent ≡ None → place_of s.hole ≡ None
  placed_top s slot is none = no_place s.hole (ap (λ n. n.parent) (sym is) ∙ none)

  pub placed_on : (m : map.FinMap nat_cmp (Slot D)) (root : Option ℕ) (i : ℕ) (s : Spot D) (slot : Slot D) (j : ℕ) (n : Slot D) → Made s.beside m root (plug s.hole (here s i)) → slot ≡ slot_of s → slot.parent ≡ Some j
      → map.get m j ≡ Some n → place_of s.hole ≡ Some (j, side_by_name n i)
  placed_on m root i s slot j n h is up found = sym (side_is m root s i h j (ap (λ q. q.parent) (sym is) ∙ up) n found)

  pub ruleset places = (placed_top, placed_on)

-- the sum kept by the root of a node's subtree
pub whole_below : {X S B : Type 0} (w : Weaving X S B) (m : map.FinMap nat_cmp (Slot (Data X S B))) (root : Option ℕ) (s : Spot (Data X S B)) (i : ℕ) → Made s.beside m root (plug s.hole (here s i)) → (side : Side)
    → whole_in w m (root_of (below side s)) ≡ whole_at w (below side s)
whole_below w m root s i h side = whole_in_is w m (Some i) (below side s) (makes_below m root s i h side)

-- The walks to the end of a subtree and up from a node, step by step.
use Rattle.std.proofs.Common.{◌≡◌, ℕ, ◌+◌, ◌≤◌, Bool, true, false, Option, Some, None, refl, sym, ap, ◌∙◌, subst, arith}
use Rattle.std.specs.Prelude.{IfSome}
use Rattle.std.specs.Option.{unwrap_or}
use Rattle.std.proofs.lemmas.Option.{none-some}
use Rattle.std.specs.Ordering.{nat_cmp}
use Rattle.std.specs.FinMap as map
use Rattle.raw_arena.specs.Arena.{node, IsLive}
use denote.Enum.Bare.{sameb}
use Rattle.rb_rules.specs.contracts.slot.Side.{the_type}
use Rattle.rb_rules.specs.declared.slot.Side.{Side}
use Rattle.rb_rules.specs.declared.slot.Slot.{Slot}
use Rattle.rb_rules.specs.Tree.{Tree, Hole, tip, top, on, other, forked, plug, above, root_of, depth, height}
use Rattle.rb_rules.specs.Memory.{Made, Spot, here, below, child, place_of, side_by_name}
use Rattle.rb_rules.proofs.Live.{Live, forks_on, child-sided, live_above, live_root, no_place, side_is}
use Rattle.rb_rules.proofs.Ups.{slot_above, hole_top}
use Rattle.rb_rules.proofs.Spots.{upper_is}
use Rattle.rb_rules.specs.declared.slot.Side.TheVariants.{Left, Right}
use Rattle.rb_rules.proofs.Memories.{opened}
use Rattle.rb_arena.specs.declared.links.Links.{Links}
use Rattle.rb_arena.specs.Ends.{edge, rise, way, HangsAt, IsEnd, EndsAfter, HangsPast, IsFirstPast, NearsEnd, LowAt, StandsLow, IsAboveOn, RisesAfter, IsParent, IsBeside, IsBesideAfter, NearsAbove}
use Rattle.rb_arena.specs.Placing.{above_place, right_of, StartsAt, HangsAfter}
use Rattle.rb_arena.specs.RbTree.{end_hole, up_on}
use Rattle.rb_arena.proofs.Growing.{forked_here, height-forked, height-below, end_fork, up_past, sides_differ, same_side, hole_depth, no_height, no_root, neighbour_none, neighbour_some}
use Rattle.rb_arena.proofs.Paths.{above-place}
use Rattle.rb_arena.proofs.Slots.{Upper, child-slot, upper_at}

sides_apart : Left ≡ Right → ⊥
sides_apart e = cc

module _ {D : Type 0} where
  hole_of_tip : (side : Side) (k : Hole D) → end_hole side k tip ≡ k
  hole_of_tip Left k = refl
  hole_of_tip Right k = refl

  root_lives : (m : map.FinMap nat_cmp (Slot D)) (root : Option ℕ) {beside : Tree D} (k : Hole D) (t : Tree D) → Made beside m root (plug k t) → IfSome (root_of t) (Live m)
  root_lives m root k t made = live_root m root (above k) t (opened m root k t made.from made.nodes).1

  up_top : (side : Side) (k : Hole D) → k ≡ top → up_on side k ≡ None
  up_top Left k is = ap (up_on Left) is
  up_top Right k is = ap (up_on Right) is

  up_here : (side z : Side) (c : Bool) (i : ℕ) (d : D) (x : Tree D) (k : Hole D) → z ≡ side → up_on side (on z c i d x k) ≡ Some i
  up_here Left Left c i d x k e = refl
  up_here Right Right c i d x k e = refl
  up_here Left Right c i d x k e = absurd (sides_apart (sym e))
  up_here Right Left c i d x k e = absurd (sides_apart e)

  edge-fork : (side : Side) (c : Bool) (i : ℕ) (d : D) (x y : Tree D) → edge side (forked side c i d x y) ≡ 1 + edge side x
  edge-fork Left c i d x y = refl
  edge-fork Right c i d x y = refl

  edge_tip : (side : Side) (t : Tree D) → t ≡ tip → edge side t ≡ 0
  edge_tip Left t is = ap (edge Left) is
  edge_tip Right t is = ap (edge Right) is

  rise_top : (side : Side) (k : Hole D) → k ≡ top → rise side k ≡ 0
  rise_top Left k is = ap (rise Left) is
  rise_top Right k is = ap (rise Right) is

  rise_here : (side z : Side) (c : Bool) (i : ℕ) (d : D) (x : Tree D) (k : Hole D) → z ≡ side → rise side (on z c i d x k) ≡ 1
  rise_here Left Left c i d x k e = refl
  rise_here Right Right c i d x k e = refl
  rise_here Left Right c i d x k e = absurd (sides_apart (sym e))
  rise_here Right Left c i d x k e = absurd (sides_apart e)

  rise_past : (side z : Side) (c : Bool) (i : ℕ) (d : D) (x : Tree D) (k : Hole D) → (z ≡ side → ⊥) → rise side (on z c i d x k) ≡ 1 + rise side k
  rise_past Left Left c i d x k differ = absurd (differ refl)
  rise_past Left Right c i d x k differ = refl
  rise_past Right Left c i d x k differ = refl
  rise_past Right Right c i d x k differ = absurd (differ refl)

  -- the way from a node, by whether it has a subtree on that side
  way_up : (side : Side) (s : Spot D) → root_of (below side s) ≡ None → way side s ≡ rise (other side) s.hole
  way_up side s none = ap (λ o. elim o [ None ↦ rise (other side) s.hole | Some i ↦ edge (other side) (below side s) ]) none

  way_down : (side : Side) (s : Spot D) (j : ℕ) → root_of (below side s) ≡ Some j → way side s ≡ edge (other side) (below side s)
  way_down side s j some = ap (λ o. elim o [ None ↦ rise (other side) s.hole | Some i ↦ edge (other side) (below side s) ]) some

module _ {D : Type 0} (tree : Links D) where
  pub nears_end_first : (from : Option (ℕ × Side)) (below : Option ℕ) (side : Side) → NearsEnd tree from below side from below 128 0
  unfolding NearsEnd
  nears_end_first from below side = λ beside t k (at, is, low). (t, (k, at, is, low, refl, omega arith))

  module _ (from : Option (ℕ × Side)) (below : Option ℕ) (side : Side) (at : Option (ℕ × Side)) where
    pub nears_end_next : (id : ℕ) (here_ next : Option ℕ) (slot : Slot D) (n more gone : ℕ) → NearsEnd tree from below side at here_ more gone → here_ ≡ Some id → node tree.nodes id ≡ Some slot → next ≡ child side slot → more ≡ n + 1
        → NearsEnd tree from below side (Some (id, side)) next n (gone + 1)
    unfolding NearsEnd
    nears_end_next id here_ next slot n more gone nears some read is one = λ beside t k h.
        let (t2, (k2, (e, made), r, le, same, took)) = nears beside t k h in let m = tree.nodes.live in
        let (b, (d, x, y, forks)) = forks_on side t2 id (sym r ∙ some) in
        let made2 = subst (λ q. Made beside m tree.root (plug k2 q)) forks made in
        let there = slot_above m tree.root side b id d y k2 x made2 in
        let found = is ∙ ap (λ o. child side (unwrap_or o slot)) (sym read ∙ there) ∙ (child-sided side (above k2) (root_of x) (root_of y) b d).0 in
        let high = ap height forks in let higher = height-forked side b id d x y in
        let past = ap (edge side) forks in let one_more = edge-fork side b id d x y in (
          x,
          (
            on side b id d y k2,
            (refl, made2),
            found,
            omega (arith, high, higher, le, one),
            sym (ap (end_hole side k2) forks ∙ end_fork side k2 b id d x y) ∙ same,
            omega (arith, past, one_more, took),
          ),
        )

    end_tip : (k : Hole D) (t : Tree D) → t ≡ tip → end_hole side k t ≡ k
    end_tip k t is = ap (end_hole side k) is ∙ hole_of_tip side k

    module _ (gone : ℕ) where
      pub end_none : (n : ℕ) → NearsEnd tree from below side at None n gone → IsEnd tree from below side at
      unfolding NearsEnd IsEnd
      end_none n nears = λ beside t k h.
          let (t2, (k2, (e, made), r, le, same, took)) = nears beside t k h in e ∙ ap place_of (sym (end_tip k2 t2 (no_root t2 (sym r))) ∙ same)

      pub end_over : (next : Option ℕ) → NearsEnd tree from below side at next 0 gone → IsEnd tree from below side at
      unfolding NearsEnd IsEnd
      end_over next nears = λ beside t k h.
          let (t2, (k2, (e, made), r, le, same, took)) = nears beside t k h in e ∙ ap place_of (sym (end_tip k2 t2 (no_height t2 le)) ∙ same)

      pub none_after : (n steps : ℕ) → NearsEnd tree from below side at None n gone → steps ≡ gone → EndsAfter tree from below side steps
      unfolding NearsEnd EndsAfter
      none_after n steps nears is = λ beside t k h.
          let (t2, (k2, (e, made), r, le, same, took)) = nears beside t k h in let none = edge_tip side t2 (no_root t2 (sym r)) in omega (arith, is, took, none)

      pub over_after : (next : Option ℕ) (steps : ℕ) → NearsEnd tree from below side at next 0 gone → steps ≡ gone → EndsAfter tree from below side steps
      unfolding NearsEnd EndsAfter
      over_after next steps nears is = λ beside t k h.
          let (t2, (k2, (e, made), r, le, same, took)) = nears beside t k h in let none = edge_tip side t2 (no_height t2 le) in omega (arith, is, took, none)

    -- the subtree below a node on the walk is live, if there is one
    pub next_lives : (id : ℕ) (here_ next : Option ℕ) (slot : Slot D) (n gone : ℕ) → HangsAt tree from below → NearsEnd tree from below side at here_ n gone → here_ ≡ Some id → node tree.nodes id ≡ Some slot → next ≡ child side slot
        → IfSome next (λ i. IsLive tree.nodes i)
    unfolding HangsAt NearsEnd
    next_lives id here_ next slot n gone (beside, (t, (k, h))) nears some read is =
        let (t2, (k2, (e, made), r, le, same, took)) = nears beside t k h in let m = tree.nodes.live in
        let (b, (d, x, y, forks)) = forks_on side t2 id (sym r ∙ some) in
        let made2 = subst (λ q. Made beside m tree.root (plug k2 q)) forks made in
        let there = slot_above m tree.root side b id d y k2 x made2 in
        let found = is ∙ ap (λ o. child side (unwrap_or o slot)) (sym read ∙ there) ∙ (child-sided side (above k2) (root_of x) (root_of y) b d).0 in
        rw found (root_lives m tree.root (on side b id d y k2) x made2)

  pub first_lives : (from : Option (ℕ × Side)) (below : Option ℕ) → HangsAt tree from below → IfSome below (λ i. IsLive tree.nodes i)
  unfolding HangsAt
  first_lives from below (beside, (t, (k, starts))) = rw starts.1 (root_lives tree.nodes.live tree.root k t starts.0.1)

  module _ (id : ℕ) (side : Side) where
    -- the hole of the subtree on that side of the node
    abbrev hole_beside : Spot D → Hole D
    hole_beside s = on side s.red id s.datum (below (other side) s) s.hole

    starts_beside : (s : Spot D) (slot : Slot D) (under : Option ℕ) → LowAt tree id s → node tree.nodes id ≡ Some slot → under ≡ child side slot
        → StartsAt s.beside tree.nodes.live tree.root (Some (id, side)) under (below side s) (hole_beside s)
    starts_beside s slot under (made, low) read is =
        let high = height-below side s id in (
          (refl, subst (λ q. Made s.beside tree.nodes.live tree.root (plug s.hole q)) (sym (forked_here side s id)) made),
          is ∙ ap (child side) (upper_is tree.nodes.live tree.root s id made Left slot read) ∙ child-slot side s,
          omega (arith, high, low),
        )

    -- the node above another, by the slot that was read of it
    upper : (q : Spot D) (low high : ℕ) (slot : Slot D) → Made q.beside tree.nodes.live tree.root (plug q.hole (here q low)) → above q.hole ≡ Some high → node tree.nodes high ≡ Some slot
        → Upper tree.nodes.live tree.root q.hole (here q low) (high, side_by_name slot low)
    upper q low high slot made named read = upper_at tree.nodes.live tree.root q.hole (here q low) made (sym (side_is tree.nodes.live tree.root q low made high named slot read))

    pub nears_above_first : (parent : Option ℕ) → IsParent tree id parent → NearsAbove tree id side id parent 128 0
    unfolding IsParent NearsAbove
    nears_above_first parent is = λ s (made, low). (s, made, is s (made, low), refl, omega (arith, low), omega arith)

    module _ (low : ℕ) (here_ : Option ℕ) (gone : ℕ) where
      pub above_lives : (high n : ℕ) → StandsLow tree id → NearsAbove tree id side low here_ n gone → here_ ≡ Some high → IsLive tree.nodes high
      unfolding StandsLow NearsAbove
      above_lives high n (s, there) nears some = let (q, made, next, up, dep, took) = nears s there in live_above tree.nodes.live tree.root q low made high (sym next ∙ some)

      pub above_over : NearsAbove tree id side low here_ 0 gone → IsAboveOn tree id side None
      unfolding NearsAbove IsAboveOn
      above_over nears = λ s there. let (q, made, next, up, dep, took) = nears s there in sym (up_top side q.hole (hole_depth q.hole dep)) ∙ up

      pub over_rises : (steps : ℕ) → NearsAbove tree id side low here_ 0 gone → steps ≡ gone → RisesAfter tree id side steps
      unfolding NearsAbove RisesAfter
      over_rises steps nears is = λ s there. let (q, made, next, up, dep, took) = nears s there in let none = rise_top side q.hole (hole_depth q.hole dep) in omega (arith, is, took, none)

      pub above_none : (n : ℕ) → NearsAbove tree id side low here_ n gone → here_ ≡ None → IsAboveOn tree id side None
      unfolding NearsAbove IsAboveOn
      above_none n nears none = λ s there.
          let (q, made, next, up, dep, took) = nears s there in sym (up_top side q.hole (hole_top q.hole (no_place q.hole (sym next ∙ none)))) ∙ up

      pub none_rises : (n steps : ℕ) → NearsAbove tree id side low here_ n gone → here_ ≡ None → steps ≡ gone → RisesAfter tree id side steps
      unfolding NearsAbove RisesAfter
      none_rises n steps nears none is = λ s there.
          let (q, made, next, up, dep, took) = nears s there in let no_more = rise_top side q.hole (hole_top q.hole (no_place q.hole (sym next ∙ none))) in omega (arith, is, took, no_more)

      module _ (high : ℕ) (slot : Slot D) (z : Side) (n : ℕ) (some : here_ ≡ Some high) (read : node tree.nodes high ≡ Some slot) (z_is : z ≡ side_by_name slot low) where
        pub nears_above_next : (next : Option ℕ) (more : ℕ) → NearsAbove tree id side low here_ more gone → sameb the_type z side ≡ false → next ≡ slot.parent → more ≡ n + 1 → NearsAbove tree id side high next n (gone + 1)
        unfolding NearsAbove
        nears_above_next next more nears differ is one = λ s there.
            let (q, made, named, up, dep, took) = nears s there in let u = upper q low high slot made (sym named ∙ some) read in
            let apart = λ (e : side_by_name slot low ≡ side). sides_differ z side differ (z_is ∙ e) in
            let deep = ap depth u.hole_is in
            let past = ap (rise side) u.hole_is ∙ rise_past side (side_by_name slot low) u.spot.red high u.spot.datum _ u.spot.hole apart in (
              u.spot,
              u.made,
              is ∙ ap (λ (l : Slot D). l.parent) (upper_is tree.nodes.live tree.root u.spot high u.made Left slot read),
              sym (ap (up_on side) u.hole_is ∙ up_past side (side_by_name slot low) u.spot.red high u.spot.datum _ u.spot.hole apart) ∙ up,
              omega (arith, dep, deep, one),
              omega (arith, took, past),
            )

        pub above_found : NearsAbove tree id side low here_ n gone → sameb the_type z side ≡ true → IsAboveOn tree id side (Some high)
        unfolding NearsAbove IsAboveOn
        above_found nears same = λ s there.
            let (q, made, named, up, dep, took) = nears s there in let u = upper q low high slot made (sym named ∙ some) read in
            sym (ap (up_on side) u.hole_is ∙ up_here side (side_by_name slot low) u.spot.red high u.spot.datum _ u.spot.hole (sym z_is ∙ same_side z side same)) ∙ up

        pub found_rises : (steps : ℕ) → NearsAbove tree id side low here_ n gone → sameb the_type z side ≡ true → steps ≡ gone + 1 → RisesAfter tree id side steps
        unfolding NearsAbove RisesAfter
        found_rises steps nears same is = λ s there.
            let (q, made, named, up, dep, took) = nears s there in let u = upper q low high slot made (sym named ∙ some) read in
            let one = ap (rise side) u.hole_is ∙ rise_here side (side_by_name slot low) u.spot.red high u.spot.datum _ u.spot.hole (sym z_is ∙ same_side z side same) in
            omega (arith, is, took, one)

    pub parent_read : (slot : Slot D) → node tree.nodes id ≡ Some slot → IsParent tree id slot.parent
    unfolding IsParent
    parent_read slot read = λ s (made, low). ap (λ (l : Slot D). l.parent) (upper_is tree.nodes.live tree.root s id made Left slot read)

    pub beside_above : (slot : Slot D) (found : Option ℕ) → node tree.nodes id ≡ Some slot → child side slot ≡ None → IsAboveOn tree id (other side) found → IsBeside tree id side found
    unfolding IsAboveOn IsBeside
    beside_above slot found read none up = λ s low.
        let below_none = sym (child-slot side s) ∙ ap (child side) (sym (upper_is tree.nodes.live tree.root s id low.0 Left slot read)) ∙ none in
        up s low ∙ sym (neighbour_none side id s below_none)

    pub hangs_beside : (s : Spot D) (slot : Slot D) (under : Option ℕ) → Made s.beside tree.nodes.live tree.root (plug s.hole (here s id)) → depth s.hole + height (here s id) ≤ 126
        → node tree.nodes id ≡ Some slot → under ≡ child side slot → HangsAt tree (Some (id, side)) under
    unfolding HangsAt
    hangs_beside s slot under made low read is = (s.beside, (below side s, (hole_beside s, starts_beside s slot under (made, low) read is)))

    pub beside_end : (slot : Slot D) (under : Option ℕ) (i : ℕ) (at : Option (ℕ × Side)) (found : Option ℕ) → node tree.nodes id ≡ Some slot → under ≡ child side slot → under ≡ Some i
        → IsEnd tree (Some (id, side)) under (other side) at → found ≡ above_place at → IsBeside tree id side found
    unfolding IsEnd IsBeside
    beside_end slot under i at found read is some end is_above = λ s low.
        let starts = starts_beside s slot under low read is in
        let some_below = λ (none : root_of (below side s) ≡ None). none-some i (sym none ∙ sym starts.1 ∙ some) in
        is_above ∙ ap above_place (end s.beside (below side s) (hole_beside s) starts) ∙ above-place (end_hole (other side) (hole_beside s) (below side s)) ∙ sym (neighbour_some side id s some_below)

    pub above_after : (slot : Slot D) (steps : ℕ) → node tree.nodes id ≡ Some slot → child side slot ≡ None → RisesAfter tree id (other side) steps → IsBesideAfter tree id side steps
    unfolding RisesAfter IsBesideAfter
    above_after slot steps read none rises = λ s low.
        let below_none = sym (child-slot side s) ∙ ap (child side) (sym (upper_is tree.nodes.live tree.root s id low.0 Left slot read)) ∙ none in
        rises s low ∙ sym (way_up side s below_none)

    pub end_after : (slot : Slot D) (under : Option ℕ) (i steps : ℕ) → node tree.nodes id ≡ Some slot → under ≡ child side slot → under ≡ Some i
        → EndsAfter tree (Some (id, side)) under (other side) steps → IsBesideAfter tree id side steps
    unfolding EndsAfter IsBesideAfter
    end_after slot under i steps read is some ends = λ s low.
        let starts = starts_beside s slot under low read is in
        ends s.beside (below side s) (hole_beside s) starts ∙ sym (way_down side s i (sym starts.1 ∙ some))

  -- the place right after a node, or before all nodes
  module _ (id : Option ℕ) where
    pub past_top : id ≡ None → HangsPast tree id → HangsAt tree None tree.root
    unfolding HangsPast HangsAt
    past_top none (stands, (beside, (t, (k, ((e, made), le))))) =
        let is = hole_top k (sym e ∙ ap right_of none) in let same = subst (λ q. Made beside tree.nodes.live tree.root (plug q t)) is made in
        (beside, (t, (top, ((refl, same), same.from, le))))

    pub first_top : (at : Option (ℕ × Side)) → id ≡ None → IsEnd tree None tree.root Left at → IsFirstPast tree id at
    unfolding IsEnd IsFirstPast
    first_top at none end = λ beside t k ((e, made), le).
        let is = hole_top k (sym e ∙ ap right_of none) in let same = subst (λ q. Made beside tree.nodes.live tree.root (plug q t)) is made in
        end beside t k ((sym (ap right_of none) ∙ e, made), same.from, le)

    module _ (i : ℕ) (slot : Slot D) (some : id ≡ Some i) (read : node tree.nodes i ≡ Some slot) where
      starts_past : (beside t : Tree D) (k : Hole D) → HangsAfter beside tree.nodes.live tree.root id t k → StartsAt beside tree.nodes.live tree.root (Some (i, Right)) slot.right t k
      starts_past beside t k ((e, made), le) =
          let there = sym e ∙ ap right_of some in let u = upper_at tree.nodes.live tree.root k t made there in
          ((sym there, made), ap (λ n. n.right) (upper_is tree.nodes.live tree.root u.spot i u.made Left slot read) ∙ ap root_of u.below_is, le)

      pub past_node : HangsPast tree id → HangsAt tree (Some (i, Right)) slot.right
      unfolding HangsPast HangsAt
      past_node (stands, (beside, (t, (k, hangs)))) = (beside, (t, (k, starts_past beside t k hangs)))

      pub first_past : (at : Option (ℕ × Side)) → IsEnd tree (Some (i, Right)) slot.right Left at → IsFirstPast tree id at
      unfolding IsEnd IsFirstPast
      first_past at end = λ beside t k hangs. end beside t k (starts_past beside t k hangs)

  pub ruleset past = (past_top, first_top, past_node, first_past)

  pub ruleset to_end = (nears_end_first, nears_end_next, end_none, end_over, none_after, over_after, first_lives, next_lives)

  pub ruleset up = (nears_above_first, nears_above_next, above_lives, above_over, over_rises, above_none, none_rises, above_found, found_rises)

  pub ruleset sideways = (parent_read, beside_above, above_after, hangs_beside, beside_end, end_after)

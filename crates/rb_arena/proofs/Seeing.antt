-- The contracts of the tree, from those of its parts.
use Rattle.std.proofs.Common.{◌≡◌, ℕ, ◌+◌, ◌-◌, ◌*◌, ◌≤◌, ◌<◌, ◌^◌, lit<, List, [], ◌∷◌, ◌++◌, length, Option, None, Some, refl, sym, ap, ◌∙◌, subst, arith}
use Rattle.std.proofs.Math.Nat.{pow-le-pow_right}
use Rattle.std.specs.Prelude.{IfSome}
use Rattle.std.specs.Option.{unwrap_or}
use Rattle.std.specs.FinMap as map
use Rattle.raw_arena.specs.Arena.{Nodes, node}
use Rattle.rb_rules.specs.declared.slot.Data.{Data}
use Rattle.rb_rules.specs.declared.slot.Side.{Side}
use Rattle.rb_rules.specs.declared.slot.Slot.{Slot}
use Rattle.rb_rules.specs.declared.weave.Weave.{Ghosts}
use Rattle.rb_rules.specs.Shifts.{shifted}
use Rattle.rb_rules.specs.Tree.{Tree, Hole, tip, top, plug, count, height, size}
use Rattle.rb_rules.specs.Memory.{here, adopted, place_of}
use Rattle.rb_rules.specs.Woven.{entries, Woven, Valued, sum_of, whole_in}
use Rattle.rb_rules.proofs.Balance.{bound}
use Rattle.rb_rules.proofs.Held.{valued_right, valued_tail}
use Rattle.rb_rules.proofs.Live.{Live, live_root, live_adopted, len_adopted}
use Rattle.rb_rules.proofs.Spots.{whole_in_is}
use Rattle.rb_rules.proofs.Weaves.{whole_is}
use Rattle.rb_rules.proofs.Wider.{woven_wider}
use Rattle.rb_arena.specs.declared.descend.Next.{Next}
use Rattle.rb_arena.specs.declared.descend.Next.TheVariants as next_is
use Rattle.rb_arena.specs.declared.descend.Standing.{Standing}
use Rattle.rb_arena.specs.declared.links.Links.{Links}
use Rattle.rb_arena.specs.Ends.{HangsAt, IsEnd, HangsPast, IsFirstPast, StandsLow, IsBeside}
use Rattle.rb_arena.specs.Leaving.{StoresBeside, StoresWithin, StandsValued, StandsWoven, IsKept, IsShown, shown, StoresItem, StoresItemBeside, Leaves, Loosens, loosened}
use Rattle.rb_arena.specs.Landing.{over, CanLand, Lands}
use Rattle.rb_arena.specs.Nodes.{Lives, LivesIf, HeadsChain, LosesFirst}
use Rattle.rb_arena.specs.Placing.{above_place, HangsAfter, ListsAt, ListsNodeAt, Takes, TakesIn, TakesNode}
use Rattle.rb_arena.specs.Relative.{LawsOf}
use Rattle.rb_arena.specs.Stopping.{CanSet, CanSetAt, Sets}
use Rattle.rb_arena.specs.Rising.{Mended, MendedBeside}
use Rattle.rb_arena.specs.Searching.{Found, StandsIn, CanGoDown, FindsBelow, StepsBelow, CanGoOn, FindsOn, StepsOn, CanSearchAfter, GoesOn, StepsAfter, items_after}
use Rattle.rb_arena.specs.Shifting.{FindsReach, Reaches, CanShiftAll, ShiftsAll}
use Rattle.rb_arena.specs.RbTree.{Listed, NamesDiffer, items_in, loose_in, seen, Kept, KeepsWithin, IsItem, AtItem, HasPut, PlaceAfter, SumsPut, SumsLanded, SumsWith, HasInstead, SplitsAt, SplitsAfter, EndsWith, CanMoveAfter, SumsMoved, LeavesOut, first_hole, HasLifted, end_hole, front_of, name_at_end, name_beside}
use Rattle.rb_arena.proofs.Climbing.{square_is, thrice}
use Rattle.rb_arena.proofs.Growing.{length-entries}
use Rattle.rb_arena.proofs.Keeping.{Node, Shows, made_there, woven_there, all_items, all_stored, beside_there, items_seen, loose_seen, node_of, own_spot, stands_item, stored_there, value_there, without_item, woven_spot}
use Rattle.rb_arena.proofs.Landing.{can_land, front_is, front_slot, holds_put, landed, next_lives, others_are, place_from, put_from, rest, can_put, hanging, has_put, has_put_at, hole, put_at, sums_put, loosened_list, none_strung, the_front, front_found}
use Rattle.rb_arena.proofs.Listing.{items_are, keeps_mended, loose_are, low, starts_top, woven_near}
use Rattle.rb_arena.proofs.Locating.{above_end}
use Rattle.rb_arena.proofs.Moving.{can_shift_all}
use Rattle.rb_arena.proofs.OwnNames.{own_names}
use Rattle.rb_arena.proofs.Paths.{above-place}
use Rattle.rb_arena.proofs.Searches.{stands_top}
use Rattle.rb_arena.proofs.Setting.{can_set_there, kept_there}
use Rattle.rb_arena.proofs.Slots.{upper_at}
use Rattle.rb_arena.proofs.Splitting as split

-- the place after a node, from the subtree that hangs there
hangs_past_at : {D : Type 0} (tree : Links D) (id : Option ℕ) (beside t : Tree D) (k : Hole D) → HangsAfter beside tree.nodes.live tree.root id t k → HangsPast tree id
unfolding HangsPast
hangs_past_at tree None beside t k hangs = (tt, (beside, (t, (k, hangs))))
hangs_past_at tree (Some i) beside t k ((e, made), le) =
    let u = upper_at tree.nodes.live tree.root k t made (sym e) in ((u.spot, u.made), (beside, (t, (k, ((e, made), le)))))

-- a kept tree and its value in contracts
module _ {W X S B K : Type 0} (w : Ghosts W X S B K) (reach : B) (links : Links (Data X S B)) (front : Option ℕ) where
  pub hangs_top : Kept w reach links front → HangsAt links None links.root
  unfolding Kept HangsAt
  hangs_top (l, fits, kept) = (kept.beside, (kept.tree, (top, starts_top kept)))

  pub top_lives : Kept w reach links front → LivesIf links.nodes links.root
  unfolding Kept LivesIf
  top_lives (l, fits, kept) = subst (λ o. IfSome o (Live links.nodes.live)) (sym kept.made.from) (live_root links.nodes.live links.root None kept.tree kept.made.nodes)

  pub front_lives : (id : ℕ) → Kept w reach links front → front ≡ Some id → Lives links.nodes id
  unfolding Kept Lives
  front_lives id (l, fits, kept) is = (_, front_found l.laws kept is)

  module _ (view : Listed X) where
    pub end_seen : (side : Side) (at : Option (ℕ × Side)) → Kept w reach links front → seen w.weaving links front ≡ view → IsEnd links None links.root side at → name_at_end side view.items ≡ above_place at
    unfolding Kept seen IsEnd name_at_end
    end_seen side at (l, fits, kept) shows end =
        sym (ap above_place (end kept.beside kept.tree top (starts_top kept)) ∙ above-place (end_hole side top kept.tree) ∙ above_end w.weaving side kept.tree
        ∙ ap (name_at_end side) (sym (items_seen w reach links front kept (ap (λ l. l.items) shows))))

    pub names_seen : Kept w reach links front → seen w.weaving links front ≡ view → NamesDiffer view
    unfolding Kept seen NamesDiffer
    names_seen (l, fits, kept) shows =
        rw (items_seen w reach links front kept (ap (λ l. l.items) shows), sym (loose_seen w reach links front kept (ap (λ l. l.loose) shows)))
        (own_names w.weaving links.nodes.live kept.beside links.root kept.tree kept.made)

    pub sum_seen : (sum : S) → Kept w reach links front → seen w.weaving links front ≡ view → sum ≡ whole_in w.weaving links.nodes.live links.root → sum ≡ sum_of w.weaving view.items
    unfolding Kept seen
    sum_seen sum (l, fits, kept) shows is =
        is ∙ ap (whole_in w.weaving links.nodes.live) kept.made.from ∙ whole_in_is w.weaving links.nodes.live None kept.tree kept.made.nodes ∙ sym (l.laws.shift_sum_still _)
        ∙ whole_is w.weaving l.laws (w.within reach) w.weaving.still kept.tree kept.woven ∙ ap (sum_of w.weaving) (sym (items_are kept) ∙ ap (λ l. l.items) shows)

    pub no_front : Kept w reach links front → seen w.weaving links front ≡ view → front ≡ None → None ≡ front_of view.loose
    unfolding Kept seen
    no_front (l, fits, kept) shows is =
        let left = sym (ap (λ l. l.loose) shows) ∙ loose_are kept in sym (ap front_of (left ∙ none_strung w.weaving l.laws kept.beside (sym kept.first ∙ is)))

    pub front_seen : (id : ℕ) (slot : Slot (Data X S B)) → Kept w reach links front → seen w.weaving links front ≡ view → front ≡ Some id → node links.nodes id ≡ Some slot
        → Some (id, slot.«data».item) ≡ front_of view.loose
    unfolding Kept seen
    front_seen id slot (l, fits, kept) shows is read =
        let left = sym (ap (λ l. l.loose) shows) ∙ loose_are kept in let (b, (d, (rest, same, chain, list))) = the_front l.laws kept is in
        ap (λ o. Some (id, (unwrap_or o slot).«data».item)) (sym read ∙ front_found l.laws kept is) ∙ sym (ap front_of (left ∙ list))

module _ {W X S B K : Type 0} (w : Ghosts W X S B K) (reach : B) (links : Links (Data X S B)) (front : Option ℕ) (view : Listed X) where
  module _ (id : ℕ) where
    pub stands_seen : Kept w reach links front → seen w.weaving links front ≡ view → IsItem view.items id → StandsLow links id
    unfolding Kept seen
    stands_seen (l, fits, kept) shows = stands_item w reach links front kept id (ap (λ l. l.items) shows)

    pub beside_seen : (side : Side) (found : Option ℕ) → Kept w reach links front → seen w.weaving links front ≡ view → IsBeside links id side found
        → AtItem view.items id (λ us x vs. found ≡ name_beside side us vs)
    unfolding Kept seen
    beside_seen side found (l, fits, kept) shows is = λ us x vs e. beside_there (node_of w reach links front kept us id x vs (ap (λ l. l.items) shows) e) side found is

    pub stands_valued : Kept w reach links front → seen w.weaving links front ≡ view → IsItem view.items id → StandsValued w links id
    unfolding Kept seen StandsValued
    stands_valued (l, fits, kept) shows (us, (x, (vs, e))) =
        let n = node_of w reach links front kept us id x vs (ap (λ l. l.items) shows) e in
        (l, (own_spot n, woven_spot n (l.within_near reach), value_there n l.laws l.sums l.parts))

    pub item_seen : (item : X) → Kept w reach links front → seen w.weaving links front ≡ view → IsShown w links id item
        → AtItem view.items id (λ us x vs. item ≡ x)
    unfolding Kept seen IsShown
    item_seen item (l, fits, kept) shows is = λ us x vs e.
        let n = node_of w reach links front kept us id x vs (ap (λ l. l.items) shows) e in is (own_spot n) (woven_spot n (l.within_near reach)) ∙ sym n.value

    pub stores_seen : Kept w reach links front → seen w.weaving links front ≡ view → IsItem view.items id → StoresItem w links id
    unfolding Kept seen StoresItem
    stores_seen (l, fits, kept) shows (us, (x, (vs, e))) =
        let n = node_of w reach links front kept us id x vs (ap (λ l. l.items) shows) e in (l, (reach, (kept.beside, (us, (x, (vs, stored_there n))))))

    pub stores_beside : Kept w reach links front → seen w.weaving links front ≡ view → IsItem view.items id → StoresItemBeside w links id front
    unfolding Kept seen StoresItemBeside
    stores_beside (l, fits, kept) shows (us, (x, (vs, e))) =
        let n = node_of w reach links front kept us id x vs (ap (λ l. l.items) shows) e in (l, (reach, (kept.beside, (us, (x, (vs, stored_there n, kept.first))))))

    -- the item is removed
    module _ (new : Links (Data X S B)) where
      shows_left : LawsOf w → (kept : KeepsWithin w reach links front) → seen w.weaving links front ≡ view → Leaves w links new id → map.len new.nodes.live + 1 ≡ map.len links.nodes.live
          → (us : List (ℕ × X)) (x : X) (vs : List (ℕ × X)) → SplitsAt view.items id us x vs → Shows w reach new front (us ++ vs) view.loose
      unfolding seen Leaves
      shows_left l kept shows leaves many us x vs e =
          let n = node_of w reach links front kept us id x vs (ap (λ l. l.items) shows) e in
          let (keeps, is, left) = without_item n l.laws l.sums l.parts l.thins new front kept.beside (leaves reach kept.beside us x vs (stored_there n)) kept.first kept.chain
          (omega (arith, many)) (omega (arith, many)) in
          (keeps, is, left ∙ loose_seen w reach links front kept (ap (λ l. l.loose) shows))

      pub kept_left : Kept w reach links front → seen w.weaving links front ≡ view → IsItem view.items id → Leaves w links new id → map.len new.nodes.live + 1 ≡ map.len links.nodes.live → Kept w reach new front
      unfolding Kept
      kept_left (l, fits, kept) shows (us, (x, (vs, e))) leaves many = (l, fits, (shows_left l kept shows leaves many us x vs e).0)

      pub items_left : Kept w reach links front → seen w.weaving links front ≡ view → Leaves w links new id → map.len new.nodes.live + 1 ≡ map.len links.nodes.live
          → LeavesOut view.items (seen w.weaving new front).items id
      unfolding Kept seen
      items_left (l, fits, kept) shows leaves many = λ us x vs e. (shows_left l kept shows leaves many us x vs e).1

      pub loose_left : Kept w reach links front → seen w.weaving links front ≡ view → IsItem view.items id → Leaves w links new id → map.len new.nodes.live + 1 ≡ map.len links.nodes.live
          → (seen w.weaving new front).loose ≡ view.loose
      unfolding Kept seen
      loose_left (l, fits, kept) shows (us, (x, (vs, e))) leaves many = (shows_left l kept shows leaves many us x vs e).2

    -- the item is put in front of the loose items
    module _ (new : Links (Data X S B)) where
      shows_lifted : LawsOf w → (kept : KeepsWithin w reach links front) → seen w.weaving links front ≡ view → Loosens w links new id front → map.len new.nodes.live ≡ map.len links.nodes.live
          → (us : List (ℕ × X)) (x : X) (vs : List (ℕ × X)) → SplitsAt view.items id us x vs → Shows w reach new (Some id) (us ++ vs) ((id, x) ∷ view.loose)
      unfolding seen Loosens
      shows_lifted l kept shows loosens many us x vs e =
          let n = node_of w reach links front kept us id x vs (ap (λ l. l.items) shows) e in
          let chain = loosened_list w.weaving l.laws id x kept.beside in let more = ap length chain in
          let (keeps, is, hung) = without_item n l.laws l.sums l.parts l.thins new (Some id) (loosened w.weaving id x kept.beside) (loosens reach kept.beside us x vs (stored_there n) kept.first) refl (refl, refl, kept.chain)
          (omega (arith, many, more)) (omega (arith, many)) in
          (keeps, is, hung ∙ chain ∙ ap (λ l. (id, x) ∷ l) (loose_seen w reach links front kept (ap (λ l. l.loose) shows)))

      pub kept_lifted : Kept w reach links front → seen w.weaving links front ≡ view → IsItem view.items id → Loosens w links new id front → map.len new.nodes.live ≡ map.len links.nodes.live → Kept w reach new (Some id)
      unfolding Kept
      kept_lifted (l, fits, kept) shows (us, (x, (vs, e))) loosens many = (l, fits, (shows_lifted l kept shows loosens many us x vs e).0)

      pub items_lifted : Kept w reach links front → seen w.weaving links front ≡ view → Loosens w links new id front → map.len new.nodes.live ≡ map.len links.nodes.live
          → LeavesOut view.items (seen w.weaving new (Some id)).items id
      unfolding Kept seen
      items_lifted (l, fits, kept) shows loosens many = λ us x vs e. (shows_lifted l kept shows loosens many us x vs e).1

      pub loose_lifted : Kept w reach links front → seen w.weaving links front ≡ view → Loosens w links new id front → map.len new.nodes.live ≡ map.len links.nodes.live
          → HasLifted view (seen w.weaving new (Some id)).loose id
      unfolding Kept seen
      loose_lifted (l, fits, kept) shows loosens many = λ us x vs e. (shows_lifted l kept shows loosens many us x vs e).2

-- the tree within a reach that a shift widens
module _ {W X S B K : Type 0} (w : Ghosts W X S B K) (reach : B) (links : Links (Data X S B)) (front : Option ℕ) where
  pub stores_within : Kept w reach links front → StoresWithin w links reach
  unfolding Kept StoresWithin
  stores_within (l, fits, kept) = (l, (kept.beside, (_, all_stored w reach links front kept)))

  module _ (mid : Links (Data X S B)) (by : B) (found : Option B) (many : map.len mid.nodes.live ≡ map.len links.nodes.live) where
    -- if the shift is too great for any tree, nothing changes
    module _ (none : found ≡ None) where
      levelled : (kept : KeepsWithin w reach links front) → FindsReach w links mid reach by found
          → MendedBeside w reach kept.beside mid (all_items w reach links front kept) × (w.widened w.weaving.still by ≡ None)
      unfolding FindsReach
      levelled kept finds =
          subst (Reaches w.weaving kept.beside mid.nodes.live mid.root w.within w.widened (all_items w reach links front kept) reach by) none
          (finds kept.beside (all_items w reach links front kept) (all_stored w reach links front kept))

      stayed : (kept : KeepsWithin w reach links front) → FindsReach w links mid reach by found
          → Shows w reach mid front (all_items w reach links front kept) (entries w.weaving w.weaving.still kept.beside)
      stayed kept finds =
          let all = kept.all in let few = kept.few in
          keeps_mended w.weaving (w.within reach) w.is_item w.is_value mid.nodes.live mid.root front (all_items w reach links front kept) kept.beside (levelled kept finds).0 kept.first kept.chain kept.values
          (omega (arith, all, many)) (omega (arith, few, many))

      pub kept_stayed : Kept w reach links front → FindsReach w links mid reach by found → Kept w reach mid front
      unfolding Kept
      kept_stayed (l, fits, kept) finds = (l, fits, (stayed kept finds).0)

      module _ (view : Listed X) where
        pub items_stayed : (id : Option ℕ) → PlaceAfter view.items id → Kept w reach links front → seen w.weaving links front ≡ view → FindsReach w links mid reach by found → CanMoveAfter w view.items id by
            → (us vs after : List (ℕ × X)) → view.items ≡ us ++ vs → EndsWith us id → after ≡ shifted w.weaving by vs → (seen w.weaving mid front).items ≡ us ++ after
        unfolding Kept seen
        items_stayed id place_ (l, fits, kept) shows finds can us vs after whole ends is_after =
            let parts : SplitsAfter view.items id us vs = (whole, ends) in let es = all_items w reach links front kept in
            let is : view.items ≡ es = items_seen w reach links front kept (ap (λ l. l.items) shows) in
            let values = split.items_after w.weaving l.laws (w.within reach) w.is_item w.is_sum w.is_value l.sums l.parts kept.beside links.nodes.live links.root es
            (all_stored w reach links front kept) id us vs (sym is ∙ parts.0, parts.1) in
            (stayed kept finds).1 ∙ sym is ∙ parts.0 ∙ split.none_moves w.weaving w.is_item w.widened fits by (levelled kept finds).1 us vs values (can us vs parts) ∙ ap (λ q. us ++ q) (sym is_after)

        pub loose_stayed : Kept w reach links front → seen w.weaving links front ≡ view → FindsReach w links mid reach by found → (seen w.weaving mid front).loose ≡ view.loose
        unfolding Kept seen
        loose_stayed (l, fits, kept) shows finds = (stayed kept finds).2 ∙ loose_seen w reach links front kept (ap (λ l. l.loose) shows)

    -- otherwise the tree lies within a reach that the shift widens
    module _ (wide : B) (some : found ≡ Some wide) (view : Listed X) (id : Option ℕ) where
      stored : (kept : KeepsWithin w reach links front) → FindsReach w links mid reach by found
          → (r : B) × StoresBeside w mid r kept.beside (all_items w reach links front kept) × (w.widened r by ≡ Some wide)
      unfolding FindsReach
      stored kept finds =
          let all = kept.all in let few = kept.few in let es = all_items w reach links front kept in
          let (r, mended, widens) = subst (Reaches w.weaving kept.beside mid.nodes.live mid.root w.within w.widened es reach by) some
          (finds kept.beside es (all_stored w reach links front kept)) in
          (r, (mended, kept.values, omega (arith, all, few)), widens)

      module _ (l : LawsOf w) (kept : KeepsWithin w reach links front) (shows : seen w.weaving links front ≡ view) (finds : FindsReach w links mid reach by found)
          (can : CanMoveAfter w view.items id by) (sum : SumsMoved w view.items id by) (us vs : List (ℕ × X)) (parts : SplitsAfter view.items id us vs) where
        parted : SplitsAfter (all_items w reach links front kept) id us vs
        unfolding seen
        parted = (sym (items_seen w reach links front kept (ap (λ l. l.items) shows)) ∙ parts.0, parts.1)

        ready : split.Ready w.weaving l.laws (w.within (stored kept finds).0) w.is_item w.is_sum w.is_value l.sums l.parts kept.beside mid.nodes.live mid.root (all_items w reach links front kept)
            (stored kept finds).1 id by us vs parted (can us vs parts) (sum us vs parts)
        ready =
            split.ready w.weaving l.laws (w.within (stored kept finds).0) w.is_item w.is_sum w.is_value l.sums l.parts kept.beside mid.nodes.live mid.root (all_items w reach links front kept)
            (stored kept finds).1 id by us vs parted (can us vs parts) (sum us vs parts)

        shows_moved : (place : Option (ℕ × Side)) (new : Links (Data X S B)) → map.len new.nodes.live ≡ map.len mid.nodes.live → IsFirstPast mid id place → ShiftsAll w mid new place by
            → Shows w wide new front (us ++ shifted w.weaving by vs) view.loose
        unfolding seen IsFirstPast ShiftsAll
        shows_moved place new many2 first shifts =
            let st = stored kept finds in let es = all_items w reach links front kept in let all = kept.all in let few = kept.few in
            let (u, (k, hangs, can_, left, right)) = ready in
            let after = shifts st.0 wide kept.beside (first_hole k u) st.2 (can_ place (first kept.beside u k hangs)) in
            let values = split.values_after w.weaving l.laws (w.within st.0) w.is_item w.is_sum w.is_value l.sums l.parts kept.beside mid.nodes.live mid.root es st.1 id by us vs parted (can us vs parts) (sum us vs parts) in
            let long = split.length-moved w.weaving by us vs in let before = ap length parted.0 in
            let (keeps, is, loose) = keeps_mended w.weaving (w.within wide) w.is_item w.is_value new.nodes.live new.root front (us ++ shifted w.weaving by vs) kept.beside
            (subst (Mended w.weaving (w.within wide) kept.beside new.nodes.live new.root) (λ i. left i ++ shifted w.weaving by (right i)) after) kept.first kept.chain values
            (omega (arith, all, long, before, many, many2)) (omega (arith, few, many, many2)) in
            (keeps, is, loose ∙ loose_seen w reach links front kept (ap (λ l. l.loose) shows))

      module _ (place_ : PlaceAfter view.items id) where
        pub past_found : Kept w reach links front → seen w.weaving links front ≡ view → FindsReach w links mid reach by found → CanMoveAfter w view.items id by → SumsMoved w view.items id by → HangsPast mid id
        unfolding Kept
        past_found (l, fits, kept) shows finds can sum =
            let (us, (vs, parts)) = split.split_after view.items id place_ in
            let (u, (k, hangs, can_, left, right)) = ready l kept shows finds can sum us vs parts in hangs_past_at mid id kept.beside u k hangs

        pub can_shift : (place : Option (ℕ × Side)) → Kept w reach links front → seen w.weaving links front ≡ view → FindsReach w links mid reach by found → CanMoveAfter w view.items id by → SumsMoved w view.items id by
            → IsFirstPast mid id place → CanShiftAll w mid place by
        unfolding Kept IsFirstPast
        can_shift place (l, fits, kept) shows finds can sum first =
            let (us, (vs, parts)) = split.split_after view.items id place_ in let st = stored kept finds in
            let (u, (k, hangs, can_, left, right)) = ready l kept shows finds can sum us vs parts in
            can_shift_all w mid place by l st.0 wide kept.beside (first_hole k u) st.2 (can_ place (first kept.beside u k hangs))

        module _ (place : Option (ℕ × Side)) (new : Links (Data X S B)) (many2 : map.len new.nodes.live ≡ map.len mid.nodes.live) where
          pub kept_moved : Kept w reach links front → seen w.weaving links front ≡ view → FindsReach w links mid reach by found → CanMoveAfter w view.items id by → SumsMoved w view.items id by
              → IsFirstPast mid id place → ShiftsAll w mid new place by → Kept w wide new front
          unfolding Kept
          kept_moved (l, fits, kept) shows finds can sum first shifts =
              let (us, (vs, parts)) = split.split_after view.items id place_ in (l, fits, (shows_moved l kept shows finds can sum us vs parts place new many2 first shifts).0)

          pub loose_moved : Kept w reach links front → seen w.weaving links front ≡ view → FindsReach w links mid reach by found → CanMoveAfter w view.items id by → SumsMoved w view.items id by
              → IsFirstPast mid id place → ShiftsAll w mid new place by → (seen w.weaving new front).loose ≡ view.loose
          unfolding Kept seen
          loose_moved (l, fits, kept) shows finds can sum first shifts =
              let (us, (vs, parts)) = split.split_after view.items id place_ in (shows_moved l kept shows finds can sum us vs parts place new many2 first shifts).2

      pub items_moved : PlaceAfter view.items id → (place : Option (ℕ × Side)) (new : Links (Data X S B)) → map.len new.nodes.live ≡ map.len mid.nodes.live → Kept w reach links front → seen w.weaving links front ≡ view → FindsReach w links mid reach by found
          → CanMoveAfter w view.items id by → SumsMoved w view.items id by → IsFirstPast mid id place → ShiftsAll w mid new place by
          → (us vs after : List (ℕ × X)) → view.items ≡ us ++ vs → EndsWith us id → after ≡ shifted w.weaving by vs → (seen w.weaving new front).items ≡ us ++ after
      unfolding Kept seen
      items_moved place_ place new many2 (l, fits, kept) shows finds can sum first shifts us vs after whole ends is_after =
          (shows_moved l kept shows finds can sum us vs (whole, ends) place new many2 first shifts).1 ∙ ap (λ q. us ++ q) (sym is_after)

-- a new item at a place
module _ {W X S B K : Type 0} (w : Ghosts W X S B K) (reach : B) (links : Links (Data X S B)) (front : Option ℕ) (view : Listed X) (to : Option ℕ) where
  items_shown : (kept : KeepsWithin w reach links front) → seen w.weaving links front ≡ view → view.items ≡ all_items w reach links front kept
  unfolding seen
  items_shown kept shows = items_seen w reach links front kept (ap (λ l. l.items) shows)

  pub past_seen : PlaceAfter view.items to → Kept w reach links front → seen w.weaving links front ≡ view → HangsPast links to
  unfolding Kept
  past_seen place_ (l, fits, kept) shows =
      let (k, (t, hangs, whole, put_)) = hanging kept (items_shown kept shows) to place_ in hangs_past_at links to kept.beside t k hangs

  module _ (at : Option (ℕ × Side)) (item : X) where
    can_put_there : (l : LawsOf w) (kept : KeepsWithin w reach links front) (shows : seen w.weaving links front ≡ view) (place_ : PlaceAfter view.items to) → IsFirstPast links to at → w.is_item item
        → SumsPut w.weaving w.is_value view.items to item → TakesIn w links at reach kept.beside item (hole kept (items_shown kept shows) to place_)
    unfolding IsFirstPast
    can_put_there l kept shows place_ first value sum =
        let same = items_shown kept shows in let (k, (t, hangs, whole, put_)) = hanging kept same to place_ in
        can_put kept same to place_ l.laws l.sums l.parts item value (sums_put w.weaving w.is_value view.items to item sum place_) (first kept.beside t k hangs)

    pub takes_seen : PlaceAfter view.items to → Kept w reach links front → seen w.weaving links front ≡ view → IsFirstPast links to at → w.is_item item → SumsPut w.weaving w.is_value view.items to item → Takes w links at item
    unfolding Kept Takes
    takes_seen place_ (l, fits, kept) shows first value sum = (l, (reach, (kept.beside, (_, can_put_there l kept shows place_ first value sum))))

    module _ (new : Links (Data X S B)) (id : ℕ) (many : map.len new.nodes.live ≡ map.len links.nodes.live + 1) (few : map.len new.nodes.live + new.nodes.spare < 2 ^ 63) where
      shows_put : (l : LawsOf w) (kept : KeepsWithin w reach links front) (shows : seen w.weaving links front ≡ view) (place_ : PlaceAfter view.items to) → IsFirstPast links to at → w.is_item item
          → SumsPut w.weaving w.is_value view.items to item → ListsAt w links new at id item → Shows w reach new front (put_at view.items to place_ (id, item)) view.loose
      unfolding ListsAt seen
      shows_put l kept shows place_ first value sum lists =
          let same = items_shown kept shows in let all = kept.all in let old = ap length same in
          let (keeps, is, left) = has_put kept same to place_ l.laws l.sums l.parts item value (sums_put w.weaving w.is_value view.items to item sum place_) id
          (lists reach kept.beside _ (can_put_there l kept shows place_ first value sum)) kept.first kept.chain (omega (arith, many, all, old)) (omega (arith, few)) in
          (keeps, is, left ∙ loose_seen w reach links front kept (ap (λ l. l.loose) shows))

      pub kept_put : PlaceAfter view.items to → Kept w reach links front → seen w.weaving links front ≡ view → IsFirstPast links to at → w.is_item item → SumsPut w.weaving w.is_value view.items to item
          → ListsAt w links new at id item → Kept w reach new front
      unfolding Kept
      kept_put place_ (l, fits, kept) shows first value sum lists = (l, fits, (shows_put l kept shows place_ first value sum lists).0)

      pub items_put : PlaceAfter view.items to → Kept w reach links front → seen w.weaving links front ≡ view → IsFirstPast links to at → w.is_item item → SumsPut w.weaving w.is_value view.items to item
          → ListsAt w links new at id item → HasPut view.items (seen w.weaving new front).items to (id, item)
      unfolding Kept seen
      items_put named (l, fits, kept) shows first value sum lists =
          has_put_at view.items _ to (id, item) (λ place_. (shows_put l kept shows place_ first value sum lists).1)

      pub loose_put : PlaceAfter view.items to → Kept w reach links front → seen w.weaving links front ≡ view → IsFirstPast links to at → w.is_item item → SumsPut w.weaving w.is_value view.items to item
          → ListsAt w links new at id item → (seen w.weaving new front).loose ≡ view.loose
      unfolding Kept seen
      loose_put place_ (l, fits, kept) shows first value sum lists = (shows_put l kept shows place_ first value sum lists).2

-- another item at a node
module _ {W X S B K : Type 0} (w : Ghosts W X S B K) (reach : B) (links : Links (Data X S B)) (front : Option ℕ) (view : Listed X) (id : ℕ) where
  node_at : (kept : KeepsWithin w reach links front) → seen w.weaving links front ≡ view → (us : List (ℕ × X)) (x : X) (vs : List (ℕ × X)) → SplitsAt view.items id us x vs → Node w reach links front kept us id x vs
  unfolding seen
  node_at kept shows us x vs e = node_of w reach links front kept us id x vs (ap (λ l. l.items) shows) e

  pub stands_woven : Kept w reach links front → seen w.weaving links front ≡ view → IsItem view.items id → StandsWoven w links id
  unfolding Kept StandsWoven
  stands_woven (l, fits, kept) shows (us, (x, (vs, e))) = let n = node_at kept shows us x vs e in (l, (own_spot n, woven_spot n (l.within_near reach)))

  module _ (item own : X) where
    module _ (l : LawsOf w) (kept : KeepsWithin w reach links front) (shows : seen w.weaving links front ≡ view) (value : w.is_item item) (sum : SumsWith w.weaving w.is_value view.items id item)
        (is_own : IsKept w links id item own) (us : List (ℕ × X)) (x : X) (vs : List (ℕ × X)) (e : SplitsAt view.items id us x vs) where
      own_is : shown w.weaving (node_at kept shows us x vs e).spot own ≡ item
      unfolding IsKept
      own_is = let n = node_at kept shows us x vs e in is_own (own_spot n) (woven_spot n (l.within_near reach))

      can_set_at : CanSetAt w links id own reach (own_spot (node_at kept shows us x vs e))
      can_set_at = can_set_there (node_at kept shows us x vs e) l.laws item own value (sum us x vs e) own_is

      shows_set : (new : Links (Data X S B)) → map.len new.nodes.live ≡ map.len links.nodes.live → Sets w links new id own → Shows w reach new front (us ++ (id, item) ∷ vs) view.loose
      unfolding Sets seen
      shows_set new many sets =
          let n = node_at kept shows us x vs e in
          let (keeps, are, left) = kept_there n l.laws item own value (sum us x vs e) own_is new.nodes.live new.root (sets reach (own_spot n) can_set_at) many in
          (keeps, are, left ∙ ap (λ q. q.loose) shows)

    pub can_set : Kept w reach links front → seen w.weaving links front ≡ view → IsItem view.items id → w.is_item item → SumsWith w.weaving w.is_value view.items id item → IsKept w links id item own → CanSet w links id own
    unfolding Kept CanSet
    can_set (l, fits, kept) shows (us, (x, (vs, e))) value sum is_own = (l, (reach, (_, can_set_at l kept shows value sum is_own us x vs e)))

    module _ (new : Links (Data X S B)) (many : map.len new.nodes.live ≡ map.len links.nodes.live) where
      pub kept_set : Kept w reach links front → seen w.weaving links front ≡ view → IsItem view.items id → w.is_item item → SumsWith w.weaving w.is_value view.items id item → IsKept w links id item own
          → Sets w links new id own → Kept w reach new front
      unfolding Kept
      kept_set (l, fits, kept) shows (us, (x, (vs, e))) value sum is_own sets = (l, fits, (shows_set l kept shows value sum is_own us x vs e new many sets).0)

      pub items_set : Kept w reach links front → seen w.weaving links front ≡ view → w.is_item item → SumsWith w.weaving w.is_value view.items id item → IsKept w links id item own
          → Sets w links new id own → HasInstead view.items (seen w.weaving new front).items id item
      unfolding Kept seen
      items_set (l, fits, kept) shows value sum is_own sets = λ us x vs e. (shows_set l kept shows value sum is_own us x vs e new many sets).1

      pub loose_set : Kept w reach links front → seen w.weaving links front ≡ view → IsItem view.items id → w.is_item item → SumsWith w.weaving w.is_value view.items id item → IsKept w links id item own
          → Sets w links new id own → (seen w.weaving new front).loose ≡ view.loose
      unfolding Kept seen
      loose_set (l, fits, kept) shows (us, (x, (vs, e))) value sum is_own sets = (shows_set l kept shows value sum is_own us x vs e new many sets).2

-- the front loose node is put at a place
module _ {W X S B K : Type 0} (w : Ghosts W X S B K) (reach : B) (links : Links (Data X S B)) (front : Option ℕ) where
  pub no_loose : (view : Listed X) → Kept w reach links front → seen w.weaving links front ≡ view → front ≡ None → view.loose ≡ []
  unfolding Kept seen
  no_loose view (l, fits, kept) shows is = sym (ap (λ l. l.loose) shows) ∙ loose_are kept ∙ none_strung w.weaving l.laws kept.beside (sym kept.first ∙ is)

  module _ (landing : ℕ) (starts : front ≡ Some landing) where
    pub front_named : (view : Listed X) → Kept w reach links front → seen w.weaving links front ≡ view → (e : ℕ × X) (es : List (ℕ × X)) → view.loose ≡ e ∷ es → e.0 ≡ landing
    unfolding Kept seen
    front_named view (l, fits, kept) shows e es is =
        let chain = the_front l.laws kept starts in
        front_is w.weaving l.laws e (landing, chain.1.0.item) es (entries w.weaving w.weaving.still chain.1.1.0) (sym is ∙ sym (ap (λ q. q.loose) shows) ∙ loose_are kept ∙ chain.1.1.3)

    heads_seen : Kept w reach links front → HeadsChain links.nodes landing
    unfolding Kept HeadsChain
    heads_seen (l, fits, kept) = (front_slot l.laws kept starts, front_found l.laws kept starts, next_lives l.laws kept starts)

    still_lives : (nodes : Nodes (Slot (Data X S B))) (next : Option ℕ) → LosesFirst links.nodes nodes landing next → Kept w reach links front → Lives nodes landing
    unfolding Kept Lives LosesFirst
    still_lives nodes next (follows, adopts) (l, fits, kept) = rw adopts (live_adopted links.nodes.live next None landing (front_slot l.laws kept starts, front_found l.laws kept starts))

    module _ (nodes : Nodes (Slot (Data X S B))) (next : Option ℕ) (loses : LosesFirst links.nodes nodes landing next) (mid : Links (Data X S B)) (same_nodes : mid.nodes ≡ nodes) where
      adopts : mid.nodes.live ≡ adopted links.nodes.live next None
      unfolding LosesFirst
      adopts = ap (λ q. q.live) same_nodes ∙ loses.1

      follows : (slot : Slot (Data X S B)) → node links.nodes landing ≡ Some slot → next ≡ slot.right
      unfolding LosesFirst
      follows = loses.0

      module _ (top_ : mid.root ≡ links.root) (view : Listed X) (to : Option ℕ) (at : Option (ℕ × Side)) (item : X) where
        module _ (l : LawsOf w) (kept : KeepsWithin w reach links front) (shows : seen w.weaving links front ≡ view) (place_ : PlaceAfter view.items to) (first : IsFirstPast links to at) (value : w.is_item item)
            (sum : SumsLanded w view.items to item) where
          sum_at : w.is_value (sum_of w.weaving (put_at view.items to place_ (0, item)))
          sum_at = holds_put (λ q. w.is_value (sum_of w.weaving q)) view.items to (0, item) sum place_

          at_is : at ≡ place_of (hole kept (items_shown w reach links front view to kept shows) to place_)
          unfolding IsFirstPast
          at_is = let (k, (t, hangs, whole, put_)) = hanging kept (items_shown w reach links front view to kept shows) to place_ in first kept.beside t k hangs

          next_there : next ≡ (front_slot l.laws kept starts).right
          next_there = follows (front_slot l.laws kept starts) (front_found l.laws kept starts)

          can_land_there : TakesIn w mid at reach (rest l.laws kept starts) item (hole kept (items_shown w reach links front view to kept shows) to place_)
              × (count landing (plug (hole kept (items_shown w reach links front view to kept shows) to place_) tip) + count landing (rest l.laws kept starts) ≡ 0)
          can_land_there =
              let same = items_shown w reach links front view to kept shows in
              rw top_ (can_land l.laws kept starts same to place_ l.sums l.parts item value sum_at at_is next_there adopts)

          shows_landed : (new : Links (Data X S B)) → map.len new.nodes.live ≡ map.len mid.nodes.live → ListsNodeAt w mid new at landing item
              → KeepsWithin w reach new next × (items_in w.weaving new.nodes.live new.root ≡ put_at view.items to place_ (landing, item))
              × (loose_in w.weaving new.nodes.live next ≡ entries w.weaving w.weaving.still (rest l.laws kept starts))
          unfolding ListsNodeAt
          shows_landed new many lists =
              let same = items_shown w reach links front view to kept shows in let as_many = many ∙ ap map.len adopts ∙ len_adopted links.nodes.live next None in
              landed l.laws kept starts same to place_ l.sums l.parts item value sum_at at_is next_there adopts
              (lists reach (rest l.laws kept starts) (hole kept same to place_) can_land_there.0 can_land_there.1) as_many

          loose_list : view.loose ≡ (landing, (the_front l.laws kept starts).1.0.item) ∷ entries w.weaving w.weaving.still (rest l.laws kept starts)
          unfolding seen
          loose_list = sym (ap (λ q. q.loose) shows) ∙ loose_are kept ∙ (the_front l.laws kept starts).1.1.3

        takes_there : (l : LawsOf w) (kept : KeepsWithin w reach links front) → seen w.weaving links front ≡ view → PlaceAfter view.items to → IsFirstPast links to at → w.is_item item → SumsLanded w view.items to item → TakesNode w mid at landing item
        unfolding TakesNode
        takes_there l kept shows place_ first value sum =
            let can = can_land_there l kept shows place_ first value sum in (l, (reach, (rest l.laws kept starts, (_, can.0, can.1))))

    module _ (view : Listed X) (to : Option ℕ) (at : Option (ℕ × Side)) (item : X) where
      pub can_land_at : Kept w reach links front → seen w.weaving links front ≡ view → PlaceAfter view.items to → IsFirstPast links to at → w.is_item item → SumsLanded w view.items to item → CanLand w links at landing item
      unfolding Kept CanLand
      can_land_at (l, fits, kept) shows place_ first value sum =
          (heads_seen (l, fits, kept), λ nodes next loses. (still_lives nodes next loses (l, fits, kept), takes_there nodes next loses (over w links nodes) refl refl view to at item l kept shows place_ first value sum))

      module _ (new : Links (Data X S B)) (next : Option ℕ) where
        pub kept_landed : Kept w reach links front → seen w.weaving links front ≡ view → PlaceAfter view.items to → IsFirstPast links to at → w.is_item item → SumsLanded w view.items to item
            → Lands w links new at landing item next → Kept w reach new next
        unfolding Kept Lands
        kept_landed (l, fits, kept) shows place_ first value sum (nodes, loses, lists, many) =
            (l, fits, (shows_landed nodes next loses (over w links nodes) refl refl view to at item l kept shows place_ first value sum new many lists).0)

        pub items_landed : Kept w reach links front → seen w.weaving links front ≡ view → PlaceAfter view.items to → IsFirstPast links to at → w.is_item item → SumsLanded w view.items to item
            → Lands w links new at landing item next → (us vs : List (ℕ × X)) → view.items ≡ us ++ vs → EndsWith us to → (seen w.weaving new next).items ≡ us ++ (landing, item) ∷ vs
        unfolding Kept seen Lands
        items_landed (l, fits, kept) shows named first value sum (nodes, loses, lists, many) us vs whole ends =
            let place_ = place_from view.items to us vs (whole, ends) in
            (shows_landed nodes next loses (over w links nodes) refl refl view to at item l kept shows place_ first value sum new many lists).1 ∙ put_from view.items to us vs (whole, ends) (landing, item)

        pub loose_landed : Kept w reach links front → seen w.weaving links front ≡ view → PlaceAfter view.items to → IsFirstPast links to at → w.is_item item → SumsLanded w view.items to item
            → Lands w links new at landing item next → (e : ℕ × X) (es : List (ℕ × X)) → view.loose ≡ e ∷ es → (seen w.weaving new next).loose ≡ es
        unfolding Kept seen Lands
        loose_landed (l, fits, kept) shows place_ first value sum (nodes, loses, lists, many) e es is =
            (shows_landed nodes next loses (over w links nodes) refl refl view to at item l kept shows place_ first value sum new many lists).2
            ∙ others_are w.weaving l.laws (landing, (the_front l.laws kept starts).1.0.item) e (entries w.weaving w.weaving.still (rest l.laws kept starts)) es
            (sym (loose_list nodes next loses (over w links nodes) refl refl view to at item l kept shows place_ first value sum) ∙ is)

-- the number of steps to it
module _ {W X S B K : Type 0} (w : Ghosts W X S B K) (tree : Links (Data X S B)) (at : Option (ℕ × Side)) (id : ℕ) (item : X) where
  pub land_heads : CanLand w tree at id item → HeadsChain tree.nodes id
  unfolding CanLand
  land_heads can = can.0

  module _ (nodes : Nodes (Slot (Data X S B))) (next : Option ℕ) where
    pub land_lives : CanLand w tree at id item → LosesFirst tree.nodes nodes id next → Lives nodes id
    unfolding CanLand
    land_lives can loses = (can.1 nodes next loses).0

    module _ (mid : Links (Data X S B)) (same_nodes : mid.nodes ≡ nodes) (top_ : mid.root ≡ tree.root) where
      pub land_takes : CanLand w tree at id item → LosesFirst tree.nodes nodes id next → TakesNode w mid at id item
      unfolding CanLand
      land_takes can loses = subst (λ t. TakesNode w t at id item) {x = over w tree nodes} (λ i. record { nodes = sym same_nodes i; root = sym top_ i }) (can.1 nodes next loses).1

      pub landed_so : (new : Links (Data X S B)) → LosesFirst tree.nodes nodes id next → ListsNodeAt w mid new at id item → map.len new.nodes.live ≡ map.len mid.nodes.live → Lands w tree new at id item next
      unfolding Lands
      landed_so new loses lists many =
          (nodes, loses, subst (λ t. ListsNodeAt w t new at id item) {y = over w tree nodes} (λ i. record { nodes = same_nodes i; root = top_ i }) lists, many ∙ ap (λ q. map.len q.live) same_nodes)

-- another tree over the same nodes
module _ {W X S B K : Type 0} (w : Ghosts W X S B K) (links new : Links (Data X S B)) (front : Option ℕ) (same : new.nodes.live ≡ links.nodes.live) (top_ : new.root ≡ links.root) where
  pub kept_same : (reach : B) → Kept w reach links front → Kept w reach new front
  unfolding Kept
  kept_same reach (l, fits, kept) = (l, fits, rw (same, top_) kept)

  pub items_same : (seen w.weaving new front).items ≡ (seen w.weaving links front).items
  unfolding seen
  items_same = λ i. items_in w.weaving (same i) (top_ i)

  pub loose_same : (seen w.weaving new front).loose ≡ (seen w.weaving links front).loose
  unfolding seen
  loose_same = λ i. loose_in w.weaving (same i) front

-- a search from the root
module _ {W X S B K : Type 0} (w : Ghosts W X S B K) (reach : B) (links : Links (Data X S B)) (front : Option ℕ) (key : K) (s : Standing X S B)
    (is_top : s.at ≡ links.root) (is_still : s.by ≡ w.weaving.still) (is_none : s.before ≡ w.weaving.none) (last : s.last ≡ None) where
  at_top : (kept : KeepsWithin w reach links front) → StandsIn w.weaving w.turn key kept.tree (entries w.weaving w.weaving.still kept.tree) s
  at_top kept =
      subst (StandsIn w.weaving w.turn key kept.tree (entries w.weaving w.weaving.still kept.tree)) {x = record { at = s.at; by = s.by; before = s.before; last = None }} (λ i. record { at = s.at; by = s.by; before = s.before; last = sym last i })
      (stands_top w.weaving w.turn key kept.tree (is_top ∙ kept.made.from) is_still is_none)

  pub starts_down : Kept w reach links front → CanGoDown w links 126 key s
  unfolding Kept CanGoDown
  starts_down (l, fits, kept) = (kept.beside, (kept.tree, (_, kept.made, woven_near kept w.is_near (l.within_near reach), kept.values, low kept, at_top kept)))

  module _ (view : Listed X) where
    pub found_down : (found : Option (ℕ × X × S)) → Kept w reach links front → seen w.weaving links front ≡ view → FindsBelow w links 126 key s found → Found w.weaving w.turn key view.items found
    unfolding Kept seen FindsBelow
    found_down found (l, fits, kept) shows finds =
        subst (λ q. Found w.weaving w.turn key q found) (sym (items_seen w reach links front kept (ap (λ l. l.items) shows)))
        (finds kept.beside kept.tree kept.made (woven_near kept w.is_near (l.within_near reach)) (low kept) _ (at_top kept))

    pub cost_down : (steps : ℕ) → Kept w reach links front → seen w.weaving links front ≡ view → StepsBelow w links 126 key s steps → 2 ^ steps ≤ (length view.items + 1) ^ 2
    unfolding Kept seen StepsBelow
    cost_down steps (l, fits, kept) shows cost =
        let same = items_seen w reach links front kept (ap (λ l. l.items) shows) in
        let up = pow-le-pow_right {n = 2} (lit< tt) {i = steps} {j = height kept.tree}
        (cost kept.beside kept.tree kept.made (woven_near kept w.is_near (l.within_near reach)) (low kept) _ (at_top kept)) in
        let few = bound kept.tree kept.balanced in
        let n : size kept.tree ≡ length view.items = sym (length-entries w.weaving w.weaving.still kept.tree) ∙ ap length (sym same) in
        let square : (size kept.tree + 1) * (size kept.tree + 1) ≡ (length view.items + 1) ^ 2 = sym (square_is (size kept.tree + 1)) ∙ ap (λ k. (k + 1) ^ 2) n in
        omega (arith, up, few, square)

-- a search that goes on after its climb
module _ {W X S B K : Type 0} (w : Ghosts W X S B K) (tree : Links (Data X S B)) (n : ℕ) (key : K) (next : Next X S B) where
  pub found_at_stop : (found : ℕ × X × S) → next ≡ next_is.Stop found → FindsOn w tree n key next (Some found)
  unfolding FindsOn
  found_at_stop found is = λ beside t made wv le items stands. rw is at stands

  pub no_more_steps : (steps : ℕ) → steps ≡ 0 → StepsOn w tree n key next steps
  unfolding StepsOn
  no_more_steps steps none = λ beside t made wv le items stands. omega (arith, none)

  module _ (s : Standing X S B) (is : next ≡ next_is.Down s) where
    pub goes_on_down : CanGoOn w tree n key next → CanGoDown w tree n key s
    unfolding CanGoOn CanGoDown
    goes_on_down (beside, (t, (items, made, wv, v, le, stands))) = (beside, (t, (items, made, wv, v, le, rw is at stands)))

    pub found_on : (found : Option (ℕ × X × S)) → FindsBelow w tree n key s found → FindsOn w tree n key next found
    unfolding FindsOn FindsBelow
    found_on found finds = λ beside t made wv le items stands. finds beside t made wv le items (rw is at stands)

    pub steps_on : (steps : ℕ) → StepsBelow w tree n key s steps → StepsOn w tree n key next steps
    unfolding StepsOn StepsBelow
    steps_on steps cost = λ beside t made wv le items stands. cost beside t made wv le items (rw is at stands)

-- a search among the items after a node
module _ {W X S B K : Type 0} {w : Ghosts W X S B K} (l : LawsOf w) {reach : B} {links : Links (Data X S B)} {front : Option ℕ} {kept : KeepsWithin w reach links front}
    {us : List (ℕ × X)} {id : ℕ} {x : X} {vs : List (ℕ × X)} (n : Node w reach links front kept us id x vs) where
  near_there : Woven w.weaving w.is_near w.weaving.still (plug n.spot.hole (here n.spot id))
  near_there = woven_wider w.weaving (w.within reach) w.is_near (l.within_near reach) w.weaving.still (plug n.spot.hole (here n.spot id)) (woven_there n)

  low_whole : height (plug n.spot.hole (here n.spot id)) ≤ 126
  low_whole = subst (λ z. height z ≤ 126) (sym n.whole) (low kept)

  values_after : Valued w.weaving w.is_item w.is_value (items_after w.weaving n.spot)
  values_after =
      let all = subst (Valued w.weaving w.is_item w.is_value) n.listed kept.values in
      subst (Valued w.weaving w.is_item w.is_value) n.after (valued_tail w.weaving l.laws (w.within reach) w.is_item w.is_sum w.is_value l.sums l.parts (id, x) vs
      (valued_right w.weaving l.laws (w.within reach) w.is_item w.is_sum w.is_value l.sums l.parts us ((id, x) ∷ vs) all))

  few_after : (steps : ℕ) {items : List (ℕ × X)} → items ≡ us ++ (id, x) ∷ vs → steps ≤ 3 * height (plug n.spot.hole (here n.spot id)) → 2 ^ steps ≤ (length items + 1) ^ 6
  few_after steps e cost =
      let long = ap (λ k. k + 1) (sym (length-entries w.weaving w.weaving.still kept.tree) ∙ ap length (n.listed ∙ sym e)) in
      subst (λ k. 2 ^ steps ≤ k ^ 6) long (thrice steps (height kept.tree) (size kept.tree + 1) (subst (λ z. steps ≤ 3 * height z) n.whole cost) (bound kept.tree kept.balanced))

module _ {W X S B K : Type 0} (w : Ghosts W X S B K) (reach : B) (links : Links (Data X S B)) (front : Option ℕ) (view : Listed X) (id : ℕ) where
  node_seen : (kept : KeepsWithin w reach links front) → seen w.weaving links front ≡ view → (us : List (ℕ × X)) (x : X) (vs : List (ℕ × X)) → SplitsAt view.items id us x vs → Node w reach links front kept us id x vs
  unfolding seen
  node_seen kept shows us x vs e = node_of w reach links front kept us id x vs (ap (λ l. l.items) shows) e

  pub starts_after : Kept w reach links front → seen w.weaving links front ≡ view → IsItem view.items id → CanSearchAfter w links 126 id
  unfolding Kept CanSearchAfter
  starts_after (l, fits, kept) shows (us, (x, (vs, e))) =
      let n = node_seen kept shows us x vs e in (own_spot n, made_there n, near_there l n, low_whole l n, values_after l n)

  module _ (key : K) (next : Next X S B) where
    pub goes_on : Kept w reach links front → seen w.weaving links front ≡ view → IsItem view.items id → GoesOn w links 126 id key next → CanGoOn w links 126 key next
    unfolding Kept GoesOn CanGoOn
    goes_on (l, fits, kept) shows (us, (x, (vs, e))) goes =
        let n = node_seen kept shows us x vs e in (
          kept.beside,
          (
            plug n.spot.hole (here n.spot id),
            (items_after w.weaving n.spot, made_there n, near_there l n, values_after l n, low_whole l n, goes (own_spot n) (made_there n) (near_there l n) (low_whole l n)),
          ),
        )

    pub found_after : (found : Option (ℕ × X × S)) → Kept w reach links front → seen w.weaving links front ≡ view → GoesOn w links 126 id key next → FindsOn w links 126 key next found
        → AtItem view.items id (λ us x vs. Found w.weaving w.turn key vs found)
    unfolding Kept GoesOn FindsOn
    found_after found (l, fits, kept) shows goes finds = λ us x vs e.
        let n = node_seen kept shows us x vs e in let stands = goes (own_spot n) (made_there n) (near_there l n) (low_whole l n) in
        subst (λ q. Found w.weaving w.turn key q found) (sym n.after)
        (finds kept.beside (plug n.spot.hole (here n.spot id)) (made_there n) (near_there l n) (low_whole l n) (items_after w.weaving n.spot) stands)

    pub cost_after : (start mid last : ℕ) → Kept w reach links front → seen w.weaving links front ≡ view → IsItem view.items id → GoesOn w links 126 id key next → StepsAfter w links 126 id 2 (mid - start)
        → StepsOn w links 126 key next (last - mid) → 2 ^ (last - start) ≤ (length view.items + 1) ^ 6
    unfolding Kept GoesOn StepsAfter StepsOn
    cost_after start mid last (l, fits, kept) shows (us, (x, (vs, e))) goes cost cost2 =
        let n = node_seen kept shows us x vs e in let stands = goes (own_spot n) (made_there n) (near_there l n) (low_whole l n) in
        let up = cost (own_spot n) (made_there n) (near_there l n) (low_whole l n) in
        let down = cost2 kept.beside (plug n.spot.hole (here n.spot id)) (made_there n) (near_there l n) (low_whole l n) (items_after w.weaving n.spot) stands in
        few_after l n (last - start) e (omega (arith, up, down))

pub spare_seen : {W X S B K : Type 0} (w : Ghosts W X S B K) (links : Links (Data X S B)) (front : Option ℕ) → (seen w.weaving links front).spare ≡ links.nodes.spare
unfolding seen
spare_seen w links front = refl

pub ruleset ends = (hangs_top, end_seen, names_seen)

pub ruleset beside = (stands_seen, beside_seen)

pub ruleset summing = (top_lives, sum_seen)

pub ruleset getting = (stands_valued, item_seen)

pub ruleset fronts = (front_lives, no_front, front_seen)

pub ruleset removing = (stores_seen, kept_left, items_left, loose_left, spare_seen)

pub ruleset lifting = (stores_beside, kept_lifted, items_lifted, loose_lifted, spare_seen)

pub ruleset moving = (stores_within, kept_stayed, items_stayed, loose_stayed, past_found, can_shift, kept_moved, items_moved, loose_moved, spare_seen)

pub ruleset putting = (past_seen, takes_seen, kept_put, items_put, loose_put, spare_seen)

pub ruleset staying = (kept_same, items_same, loose_same, spare_seen)

pub ruleset descending = (starts_down, found_down, cost_down)

pub ruleset descending_after = (starts_after, goes_on, found_after, cost_after)

pub ruleset going_on = (found_at_stop, no_more_steps, goes_on_down, found_on, steps_on)

pub ruleset landing = (land_heads, land_lives, land_takes, landed_so)

pub ruleset landing_after = (no_loose, front_named, past_seen, can_land_at, kept_landed, items_landed, loose_landed, spare_seen)

pub ruleset setting = (stands_woven, can_set, kept_set, items_set, loose_set, spare_seen)

-- Replacement of a node by the leaf that comes after it.
use Rattle.std.proofs.Common.{◌≡◌, ℕ, suc, ◌+◌, ◌≤◌, Bool, true, false, cond, eqb, List, [], ◌∷◌, ◌++◌, length, Option, Some, None, refl, sym, ap, ◌∙◌, subst, arith, append_assoc, append-nil, length-append, inl, inr}
use Rattle.std.proofs.lemmas.Bool.Decides.{eqb_tells}
use Rattle.std.proofs.lemmas.Option.{none-some}
use Rattle.std.specs.Ordering.{nat_cmp}
use Rattle.std.specs.FinMap as map
use Rattle.rb_rules.specs.declared.slot.Data.{Data}
use Rattle.rb_rules.specs.declared.slot.Side.{Side}
use Rattle.rb_rules.specs.declared.slot.Side.TheVariants.{Left, Right}
use Rattle.rb_rules.specs.declared.slot.Slot.{Slot}
use Rattle.rb_rules.specs.declared.weave.Weave.{Ghosts}
use Rattle.std.specs.Option.{unwrap_or}
use Rattle.std.specs.Prelude.{is_some}
use Rattle.std.proofs.lemmas.Bool.{false≢true}
use Rattle.rb_rules.specs.Tree.{Tree, tip, fork, Hole, top, on, plug, root_of, above, depth, height, count}
use Rattle.rb_rules.specs.Colours.{Fits, Balanced}
use Rattle.rb_rules.specs.Memory.{Made, Spot, here, AtSpot, place_of, hung, root_hung}
use Rattle.rb_rules.specs.Weaving.{Weaving, Lawful, Sums}
use Rattle.rb_rules.specs.Woven.{entries, Woven, Valued, lefts, rights, shift_at}
use Rattle.rb_rules.specs.Sound.{Slack}
use Rattle.rb_rules.proofs.Climbs.{slack_of}
use Rattle.rb_rules.proofs.Colouring as C
use Rattle.rb_rules.proofs.Detaching.{spliced, gone}
use Rattle.rb_rules.proofs.Holes.{count-forked, count-plug, count_self}
use Rattle.rb_rules.proofs.Live.{slot_here}
use Rattle.rb_rules.proofs.Spots.{upper_is, at_place}
use Rattle.rb_rules.proofs.Held.{items_right}
use Rattle.rb_rules.proofs.Wider.{woven_wider}
use Rattle.rb_arena.specs.Nodes.{Inherits, Lives, LivesAt}
use Rattle.rb_rules.proofs.Weaves.{woven_at, near_of}
use Rattle.rb_arena.specs.declared.links.Links.{Links}
use Rattle.rb_arena.specs.Ends.{HangsAt, IsEnd}
use Rattle.rb_arena.specs.Leaving.{leaf_height, Emptied, Unlinked, Unlinks, UnlinksBefore, NoChild, OneChild, Stores, StoresBeside, StoresBoth, StoresItem, StillLists, IsShown, IsKept, StandsValued, StandsWoven, WovenSpot}
use Rattle.rb_arena.specs.Placing.{StartsAt, above_place, IsThere}
use Rattle.rb_arena.specs.Relative.{LawsOf}
use Rattle.rb_arena.specs.RbTree.{first_hole, with_item}
use Rattle.rb_arena.proofs.Growing.{depth_height, first-plug, first-lefts, first-rights}
use Rattle.rb_arena.proofs.Leaving.{Spotted, spotted, childless_spot, valued_without, fit_leaf, none_of, stored_there, leaf_stays}
use Rattle.rb_arena.proofs.Locating.{cut, after_list, lying}
use Rattle.rb_arena.proofs.Paths.{above-place}

module _ {D : Type 0} where
  -- the tree with its first node replaced
  abbrev pub first_put : Tree D → Tree D → Tree D
  first_put tip u = u
  first_put (fork c i d x y) u = fork c i d (first_put x u) y

  pub first-put : (k : Hole D) (t u : Tree D) → plug (first_hole k t) u ≡ plug k (first_put t u)
  first-put k tip u = refl
  first-put k (fork c i d x y) u = first-put (on Left c i d y k) x u

  grows : (k : Hole D) (a b : Tree D) → height a ≤ height b → height (plug k a) ≤ height (plug k b)
  grows top a b le = le
  grows (on Left c i d x k) a b le = grows k (fork c i d a x) (fork c i d b x) (omega (arith, le))
  grows (on Right c i d x k) a b le = grows k (fork c i d x a) (fork c i d x b) (omega (arith, le))

  -- the condition for the first place does not depend on the name of a node above it
  fits_on : (s : Side) (c : Bool) (i j : ℕ) (d e : D) (x : Tree D) (k : Hole D) (b : Bool) (n : ℕ) → Fits b n (on s c i d x k) → Fits b n (on s c j e x k)
  fits_on s true i j d e x k b n h = h
  fits_on s false i j d e x k b n h = h

  fits_first : (k l : Hole D) (t : Tree D) → ((b : Bool) (n : ℕ) → Fits b n k → Fits b n l) → (b : Bool) (n : ℕ) → Fits b n (first_hole k t) → Fits b n (first_hole l t)
  fits_first k l tip f b n h = f b n h
  fits_first k l (fork true i d x y) f b n h = fits_first (on Left true i d y k) (on Left true i d y l) x (λ a m (q, r, g). (q, r, f true m g)) b n h
  fits_first k l (fork false i d x y) f b n h = fits_first (on Left false i d y k) (on Left false i d y l) x (λ a m (q, g). (q, f false (suc m) g)) b n h

  pub as_deep : (k l : Hole D) (t : Tree D) → depth k ≡ depth l → depth (first_hole k t) ≡ depth (first_hole l t)
  as_deep k l tip e = e
  as_deep k l (fork c i d x y) e = as_deep (on Left c i d y k) (on Left c i d y l) x (ap (λ n. 1 + n) e)

  -- the name of a replaced node does not occur in the new tree
  left_out : (m : map.FinMap nat_cmp (Slot D)) (root : Option ℕ) (k : Hole D) (c : Bool) (i j : ℕ) (d e : D) (x y : Tree D) → {beside : Tree D} → Made beside m root (plug k (fork c i d x y))
      → count j (plug k (fork c i d x y)) + count j beside ≡ 0 → count i (plug k (fork c j e x y)) + count i beside ≡ 0
  left_out m root k c i j d e x y {beside} h fresh =
      let one = h.once i in let old = count-plug i k (fork c i d x y) in let mine = count-forked i Left c i d x y in let me = count_self i (count i x + count i y) in
      let new = count-plug i k (fork c j e x y) in let yours = count-forked i Left c j e x y in
      elim (eqb_tells i j) as (λ _. count i (plug k (fork c j e x y)) + count i beside ≡ 0) [
        | inl (_, same) ↦ let bad = subst (λ q. count q (plug k (fork c i d x y)) + count q beside ≡ 0) (sym same) fresh in absurd (omega (arith, bad, old, mine, me))
        | inr (f, _) ↦ let none : cond (eqb i j) 1 0 + (count i x + count i y) ≡ 0 + (count i x + count i y) = ap (λ b. cond b 1 0 + (count i x + count i y)) f in
            omega (arith, one, old, mine, me, new, yours, none)
      ]

module _ {A : Type 0} where
  no_end : (q : List A) (a : A) (ys : List A) → [] ≡ q ++ a ∷ ys → ⊥
  no_end q a ys e = let n = ap length e in let l = length-append q (a ∷ ys) in omega (arith, n, l)

  pub last_same : (as_ us : List A) (e f : A) → as_ ++ e ∷ [] ≡ us ++ f ∷ [] → (as_ ≡ us) × (e ≡ f)
  last_same as_ us e f h = elim (cut as_ e [] us f [] h) [
    | inl (q, a, g) ↦ absurd (no_end q e [] g)
    | inr rest ↦ elim rest [
      | inl (a, b, _) ↦ (a, b)
      | inr (q, a, g) ↦ absurd (no_end q f [] g)
    ]
  ]

module _ {X S B : Type 0} (w : Weaving X S B) where
  pub shift_first : (k : Hole (Data X S B)) (t : Tree (Data X S B)) → shift_at w (first_hole k t) ≡ shift_at w k
  shift_first k tip = refl
  shift_first k (fork c i d x y) = shift_first (on Left c i d y k) x

  pub slack_first : (is_near : B → Type 0) (k l : Hole (Data X S B)) (t : Tree (Data X S B)) → shift_at w k ≡ shift_at w l → (Slack w is_near k → Slack w is_near l)
      → Slack w is_near (first_hole k t) → Slack w is_near (first_hole l t)
  slack_first is_near k l tip e f h = f h
  slack_first is_near k l (fork c i d x y) e f h =
      slack_first is_near (on Left c i d y k) (on Left c i d y l) x e (λ (a, b). (subst (λ z. Woven w is_near (w.plus z d.delta) y) e a, f b)) h

  -- the hole right after a node is the first place of its right subtree
  abbrev Under : Hole (Data X S B) → List (ℕ × X) → ℕ → X → Type 0
  Under h us id x =
      (c : Bool) × ((d : Data X S B) × ((l : Tree (Data X S B)) × ((k : Hole (Data X S B)) × ((r : Tree (Data X S B)) × (h ≡ first_hole (on Right c id d l k) r)
      × (us ≡ lefts w k ++ entries w (shift_at w k) l)))))

  under : (k : Hole (Data X S B)) (t : Tree (Data X S B)) (us : List (ℕ × X)) (id : ℕ) (x : X) → lefts w k ≡ us ++ (id, x) ∷ [] → Under (first_hole k t) us id x
  under top t us id x e = absurd (no_end us (id, x) [] e)
  under (on Left c i d y k) t us id x e = under k (fork c i d t y) us id x e
  under (on Right c i d y k) t us id x e =
      let mine : ℕ × X = (i, w.shift (shift_at w k) d.item) in let es = entries w (shift_at w k) y in
      let (f, g) = last_same (lefts w k ++ es) us mine (id, x) (append_assoc (lefts w k) es (mine ∷ []) ∙ e) in
      subst (λ p. Under (first_hole (on Right c i d y k) t) us p.0 p.1) g (c, (d, (y, (k, (t, refl, sym f)))))

module _ {X S B : Type 0} (w : Weaving X S B) (L : Lawful w) (is_near : B → Type 0) (is_item : X → Type 0) (is_sum is_value : S → Type 0)
    (sums : Sums w is_item is_sum) (parts : (a b : S) → is_value (w.join a b) → is_value a × is_value b)
    (thins : (a b c : S) → is_value (w.join a (w.join b c)) → is_value (w.join a c))
    (beside : Tree (Data X S B)) (m : map.FinMap nat_cmp (Slot (Data X S B))) (root : Option ℕ) (id heir : ℕ) (us : List (ℕ × X)) (x y : X) (vs : List (ℕ × X)) where
  -- a leaf in the first place of a node's right subtree
  pub record Heired : Type 0 where
    pub hole : Hole (Data X S B)
    pub red : Bool
    pub datum : Data X S B
    pub left : Tree (Data X S B)
    pub right : Tree (Data X S B)
    pub leaf_red : Bool
    pub leaf : Data X S B
    pub made : Made beside m root (plug (first_hole (on Right red id datum left hole) right) (fork leaf_red heir leaf tip tip))
    pub woven : Woven w is_near w.still (plug (first_hole (on Right red id datum left hole) right) (fork leaf_red heir leaf tip tip))
    pub balanced : Balanced (plug (first_hole (on Right red id datum left hole) right) (fork leaf_red heir leaf tip tip))
    pub before : us ≡ lefts w hole ++ entries w (shift_at w hole) left
    pub after : vs ≡ rights w (first_hole (on Right red id datum left hole) right)
    pub value : y ≡ w.shift (shift_at w (first_hole (on Right red id datum left hole) right)) leaf.item
    pub low : depth (first_hole (on Right red id datum left hole) right) ≤ 126
    pub high : height (plug (first_hole (on Right red id datum left hole) right) (fork leaf_red heir leaf tip tip)) ≤ 126

  pub heired : NoChild m heir → Stores w is_near is_item is_value beside m root (us ++ (id, x) ∷ (heir, y) ∷ vs) → Heired
  heired nc st =
      let st2 = subst (Stores w is_near is_item is_value beside m root) (sym (append_assoc us ((id, x) ∷ []) ((heir, y) ∷ vs))) st in
      let at = spotted w L is_near is_item is_sum is_value sums parts thins beside m root heir (us ++ (id, x) ∷ []) y vs st2 in let s = at.spot in
      let (tl, tr) = childless_spot w L is_near is_item is_sum is_value sums parts thins beside m root heir (us ++ (id, x) ∷ []) y vs s at.made nc in
      let bare : here s heir ≡ fork s.red heir s.datum tip tip = λ i. fork s.red heir s.datum (tl i) (tr i) in
      let list : lefts w s.hole ≡ us ++ (id, x) ∷ [] = sym (at.before ∙ ap (λ q. lefts w s.hole ++ entries w (shift_at w s.hole) q) tl ∙ append-nil (lefts w s.hole)) in
      let (c, (d, (l, (k, (r, same, us_is))))) = under w s.hole tip us id x list in
      let whole : plug s.hole (here s heir) ≡ plug (first_hole (on Right c id d l k) r) (fork s.red heir s.datum tip tip) = λ i. plug (same i) (bare i) in
      let deep = at.low in record {
        hole = k;
        red = c;
        datum = d;
        left = l;
        right = r;
        leaf_red = s.red;
        leaf = s.datum;
        made = subst (Made beside m root) whole at.made;
        woven = subst (Woven w is_near w.still) whole at.woven;
        balanced = subst Balanced whole at.balanced;
        before = us_is;
        after = at.after ∙ ap (λ q. entries w (w.plus (shift_at w s.hole) s.datum.delta) q ++ rights w s.hole) tr ∙ ap (rights w) same;
        value = at.value ∙ ap (λ q. w.shift (shift_at w q) s.datum.item) same;
        low = subst (λ q. depth q ≤ 126) same (omega (arith, deep));
        high = subst (λ t. height t ≤ 126) whole at.high;
      }

module _ {X S B : Type 0} {w : Weaving X S B} {L : Lawful w} {is_near : B → Type 0} {is_item : X → Type 0} {is_sum is_value : S → Type 0}
    {sums : Sums w is_item is_sum} {parts : (a b : S) → is_value (w.join a b) → is_value a × is_value b}
    {thins : (a b c : S) → is_value (w.join a (w.join b c)) → is_value (w.join a c)}
    {beside : Tree (Data X S B)} {m : map.FinMap nat_cmp (Slot (Data X S B))} {root : Option ℕ} {id heir : ℕ} {us : List (ℕ × X)} {x y : X} {vs : List (ℕ × X)}
    (h : Heired w L is_near is_item is_sum is_value sums parts thins beside m root id heir us x y vs) where
  abbrev up : Hole (Data X S B)
  up = on Right h.red id h.datum h.left h.hole

  abbrev low_leaf : Tree (Data X S B)
  low_leaf = fork h.leaf_red heir h.leaf tip tip

  abbrev pub heir_spot : Spot (Data X S B)
  heir_spot = record { beside = beside; hole = first_hole (on Right h.red id h.datum h.left h.hole) h.right; red = h.leaf_red; datum = h.leaf; left = tip; right = tip }

  abbrev pub id_spot : Spot (Data X S B)
  id_spot = record { beside = beside; hole = h.hole; red = h.red; datum = h.datum; left = h.left; right = first_put h.right (fork h.leaf_red heir h.leaf tip tip) }

  pub id_made : Made beside m root (plug h.hole (here id_spot id))
  id_made = subst (Made beside m root) (first-put up h.right low_leaf) h.made

  pub id_woven : Woven w is_near w.still (plug h.hole (here id_spot id))
  id_woven = subst (Woven w is_near w.still) (first-put up h.right low_leaf) h.woven

  pub id_low : depth h.hole ≤ 126
  id_low =
      let deep = depth_height h.hole (here id_spot id) in let high = subst (λ t. height t ≤ 126) (first-put up h.right low_leaf) h.high in omega (arith, deep, high)

  right_low : height h.right ≤ 128
  right_low =
      let no : Tree (Data X S B) = tip in let le = grows (first_hole up h.right) no low_leaf (omega arith) in let high = h.high in let same = ap height (first-plug up h.right) in
      let deep = depth_height h.hole (fork h.red id h.datum h.left h.right) in omega (arith, le, high, same, deep)

  module _ (m1 : map.FinMap nat_cmp (Slot (Data X S B))) (root1 : Option ℕ) (at : Option (ℕ × Side)) (place : at ≡ place_of (first_hole (on Right h.red id h.datum h.left h.hole) h.right)) (e1 : m1 ≡ hung m at None) (er : root1 ≡ root_hung root at None) where
    abbrev pub bare_spot : Spot (Data X S B)
    bare_spot = record { beside = beside; hole = h.hole; red = h.red; datum = h.datum; left = h.left; right = h.right }

    pub bare_made : Made beside m1 root1 (plug h.hole (fork h.red id h.datum h.left h.right))
    bare_made =
        let k = first_hole up h.right in let done = spliced m root k Left h.leaf_red heir h.leaf tip h.made in
        let mem : m1 ≡ hung m (place_of k) None = e1 ∙ ap (λ o. hung m o None) place in let top_ : root1 ≡ root_hung root (place_of k) None = er ∙ ap (λ o. root_hung root o None) place in
        subst (Made beside m1 root1) (first-plug up h.right) (subst (λ q. Made beside q root1 (plug k tip)) (sym mem) (subst (λ o. Made beside (hung m (place_of k) None) o (plug k tip)) (sym top_) done))

    pub bare_fresh : count heir (plug h.hole (fork h.red id h.datum h.left h.right)) + count heir beside ≡ 0
    bare_fresh = subst (λ t. count heir t + count heir beside ≡ 0) (first-plug up h.right) (gone m root (first_hole up h.right) Left h.leaf_red heir h.leaf tip h.made)

    module _ (own : X) (is : w.shift (shift_at w h.hole) own ≡ y) (m2 : map.FinMap nat_cmp (Slot (Data X S B))) (root2 : Option ℕ)
        (made2 : Made beside m2 root2 (plug h.hole (fork h.red heir (with_item h.datum own) h.left h.right))) where
      abbrev new_up : Hole (Data X S B)
      new_up = on Right h.red heir (with_item h.datum own) h.left h.hole

      abbrev pub gap_hole : Hole (Data X S B)
      gap_hole = first_hole (on Right h.red heir (with_item h.datum own) h.left h.hole) h.right

      abbrev pub new_spot : Spot (Data X S B)
      new_spot = record { beside = beside; hole = h.hole; red = h.red; datum = with_item h.datum own; left = h.left; right = h.right }

      pub starts : (below : Option ℕ) → below ≡ root_of h.right → StartsAt beside m2 root2 (Some (heir, Right)) below h.right (on Right h.red heir (with_item h.datum own) h.left h.hole)
      starts below e = ((refl, made2), e, right_low)

      pub gap_list : lefts w gap_hole ++ rights w gap_hole ≡ us ++ (heir, y) ∷ vs
      gap_list =
          (λ i. first-lefts w new_up h.right i ++ rights w gap_hole) ∙ after_list w new_spot heir y us (rights w gap_hole) (sym is) h.before
          ∙ ap (λ z. us ++ (heir, y) ∷ z) (first-rights w new_up h.right ∙ sym (first-rights w up h.right) ∙ sym h.after)

      gap_emptied : Stores w is_near is_item is_value beside m root (us ++ (id, x) ∷ (heir, y) ∷ vs) → (gap : Option (ℕ × Side)) → gap ≡ place_of gap_hole → (red : Bool) → red ≡ h.leaf_red
          → Emptied w is_near is_item is_value beside m2 root2 gap red gap_hole
      gap_emptied st gap there red same =
          let k = first_hole up h.right in let shift : shift_at w k ≡ shift_at w gap_hole = shift_first w up h.right ∙ sym (shift_first w new_up h.right) in
          let deep = as_deep up new_up h.right refl in let le = h.low in
          let (n, (b, r, f)) = C.unplugged k low_leaf h.balanced in let fit = fit_leaf h.leaf_red b n heir h.leaf k r f in (
            there,
            subst (Made beside m2 root2) (sym (first-plug new_up h.right)) made2,
            subst is_near shift (near_of w L is_near (shift_at w k) low_leaf (woven_at w L is_near k low_leaf h.woven)),
            slack_first w is_near up new_up h.right refl (λ q. q) (slack_of w L is_near is_item is_sum is_value sums parts k low_leaf h.woven),
            subst (Valued w is_item is_value) (sym gap_list) (valued_without w L is_near is_item is_sum is_value sums parts thins us (id, x) ((heir, y) ∷ vs) st.1),
            omega (arith, deep, le),
            subst (λ c. Fits c (leaf_height c) gap_hole) (sym same) (fits_first up new_up h.right (fits_on Right h.red id heir h.datum (with_item h.datum own) h.left h.hole) h.leaf_red (leaf_height h.leaf_red) fit),
          )

      pub gap_unlinked : Stores w is_near is_item is_value beside m root (us ++ (id, x) ∷ (heir, y) ∷ vs) → (gap : Option (ℕ × Side)) → gap ≡ place_of gap_hole → (red : Bool) → red ≡ h.leaf_red
          → Unlinked w is_near is_item is_value beside m2 root2 gap red id (us ++ (heir, y) ∷ vs)
      gap_unlinked st gap there red same = (
        gap_hole,
        gap_list,
        gap_emptied st gap there red same,
        subst (λ t. count id t + count id beside ≡ 0) (sym (first-plug new_up h.right))
            (left_out m1 root1 h.hole h.red id heir h.datum (with_item h.datum own) h.left h.right bare_made bare_fresh),
      )

module _ {D : Type 0} where
  -- a node has its first place under a node with no left child
  first_node : (k : Hole D) (t : Tree D) → (root_of t ≡ None → ⊥) → (c : Bool) × ((j : ℕ) × ((d : D) × ((y : Tree D) × ((l : Hole D) × (first_hole k t ≡ on Left c j d y l)))))
  first_node k tip some = absurd (some refl)
  first_node k (fork c i d tip y) some = (c, (i, (d, (y, (k, refl)))))
  first_node k (fork c i d (fork b j e p q) y) some = first_node (on Left c i d y k) (fork b j e p q) (λ f. none-some j (sym f))

module _ {X S B : Type 0} (w : Weaving X S B) (L : Lawful w) (is_near : B → Type 0) (is_item : X → Type 0) (is_sum is_value : S → Type 0)
    (sums : Sums w is_item is_sum) (parts : (a b : S) → is_value (w.join a b) → is_value a × is_value b)
    (thins : (a b c : S) → is_value (w.join a (w.join b c)) → is_value (w.join a c))
    (beside : Tree (Data X S B)) (m : map.FinMap nat_cmp (Slot (Data X S B))) (root : Option ℕ) (id : ℕ) (us : List (ℕ × X)) (x : X) (vs : List (ℕ × X)) where
  -- the node with that name is the next one and has at most one child
  abbrev pub IsNext : ℕ → Type 0
  IsNext heir = (y : X) × ((ws : List (ℕ × X)) × (vs ≡ (heir, y) ∷ ws) × OneChild m heir)

  pub next_of : (at : Spotted w L is_near is_item is_sum is_value sums parts thins beside m root id us x vs) → (root_of at.spot.right ≡ None → ⊥)
      → let s = at.spot in (heir : ℕ) × ((above (first_hole (on Right s.red id s.datum s.left s.hole) s.right) ≡ Some heir) × IsNext heir)
  unfolding OneChild
  next_of at some =
      let s = at.spot in let k0 = on Right s.red id s.datum s.left s.hole in let (c, (j, (d, (y, (k, same))))) = first_node k0 s.right some in
      let list = at.after ∙ sym (first-rights w k0 s.right) ∙ ap (rights w) same in let no : Tree (Data X S B) = tip in
      let made = subst (Made beside m root) (sym (first-plug k0 s.right) ∙ ap (λ q. plug q no) same) at.made in
      let found = slot_here m root (record { beside = beside; hole = k; red = c; datum = d; left = tip; right = y }) j made in
      (j, (ap above same, (w.shift (shift_at w k) d.item, (entries w (w.plus (shift_at w k) d.delta) y ++ rights w k, list, (_, found, inl refl)))))

module _ {W X S B K : Type 0} (w : Ghosts W X S B K) (old mid : Links (Data X S B)) where
  module _ (id : ℕ) where
    -- a node that was made a leaf
    pub still_stored : StoresItem w old id → StillLists w old mid id → StoresItem w mid id
    unfolding StoresItem StillLists
    still_stored (l, (reach, (beside, (us, (x, (vs, st)))))) still = (l, (reach, (beside, (us, (x, (vs, (still reach beside us x vs st, st.1, st.2)))))))

    pub still_there : StoresItem w old id → StillLists w old mid id → IsThere mid id
    still_there stored still = stored_there w mid id (still_stored stored still)

    pub still_unlinks : (new : Links (Data X S B)) (at : Option (ℕ × Side)) (red : Bool) → StillLists w old mid id → Unlinks w mid new id at red → Unlinks w old new id at red
    unfolding StillLists Unlinks
    still_unlinks new at red still unlinks = λ reach beside us x vs st. unlinks reach beside us x vs (still reach beside us x vs st, st.1, st.2)

-- a node with no right child
pub none_right : {D : Type 0} (m : map.FinMap nat_cmp (Slot D)) (id : ℕ) (slot : Slot D) → map.get m id ≡ Some slot → is_some slot.right ≡ false → OneChild m id
unfolding OneChild
none_right m id slot read none = (slot, read, inr (none_of slot.right none))

module _ {W X S B K : Type 0} (w : Ghosts W X S B K) (old : Links (Data X S B)) (id : ℕ) (slot : Slot (Data X S B)) (read : map.get old.nodes.live id ≡ Some slot) where
  module _ (l : LawsOf w) (reach : B) (beside : Tree (Data X S B)) (us : List (ℕ × X)) (x : X) (vs : List (ℕ × X)) (st : StoresBeside w old reach beside (us ++ (id, x) ∷ vs)) where
    found : Spotted w.weaving l.laws (w.within reach) w.is_item w.is_sum w.is_value l.sums l.parts l.thins beside old.nodes.live old.root id us x vs
    found = spotted w.weaving l.laws (w.within reach) w.is_item w.is_sum w.is_value l.sums l.parts l.thins beside old.nodes.live old.root id us x vs st

    abbrev at_node : Spot (Data X S B)
    at_node = lying beside found.spot

    abbrev on_right : Hole (Data X S B)
    on_right = on Right at_node.red id at_node.datum at_node.left at_node.hole

    -- its right subtree, as it is read
    right_is : slot.right ≡ root_of at_node.right
    right_is = ap (λ n. n.right) (upper_is old.nodes.live old.root at_node id found.made Left slot read)

    starts_right : StartsAt beside old.nodes.live old.root (Some (id, Right)) slot.right at_node.right on_right
    starts_right = let deep = found.low in ((refl, found.made), right_is, omega (arith, deep))

  pub hangs_right : StoresItem w old id → HangsAt old (Some (id, Right)) slot.right
  unfolding StoresItem HangsAt
  hangs_right (l, (reach, (beside, (us, (x, (vs, st)))))) = (beside, (_, (on_right l reach beside us x vs st, starts_right l reach beside us x vs st)))

  -- the heir is the next node
  module _ (first : Option (ℕ × Side)) (heir : ℕ) (ends : IsEnd old (Some (id, Right)) slot.right Left first) (is : heir ≡ unwrap_or (above_place first) id) (some : is_some slot.right ≡ true) where
    module _ (l : LawsOf w) (reach : B) (beside : Tree (Data X S B)) (us : List (ℕ × X)) (x : X) (vs : List (ℕ × X)) (st : StoresBeside w old reach beside (us ++ (id, x) ∷ vs)) where
      pub next : IsNext w.weaving l.laws (w.within reach) w.is_item w.is_sum w.is_value l.sums l.parts l.thins beside old.nodes.live old.root id us x vs heir
      unfolding IsEnd
      next =
          let n = found l reach beside us x vs st in let s = at_node l reach beside us x vs st in let k = on_right l reach beside us x vs st in let start = starts_right l reach beside us x vs st in
          let (j, (named, after)) = next_of w.weaving l.laws (w.within reach) w.is_item w.is_sum w.is_value l.sums l.parts l.thins beside old.nodes.live old.root id us x vs n
          (λ none. false≢true (sym (ap is_some (right_is l reach beside us x vs st ∙ none)) ∙ some)) in
          let up : above_place first ≡ Some j = ap above_place (ends beside s.right k start) ∙ above-place (first_hole k s.right) ∙ named in
          subst (IsNext w.weaving l.laws (w.within reach) w.is_item w.is_sum w.is_value l.sums l.parts l.thins beside old.nodes.live old.root id us x vs) (sym (is ∙ ap (λ o. unwrap_or o id) up)) after

      joined : (us ++ (id, x) ∷ []) ++ (heir, next.0) ∷ next.1.0 ≡ us ++ (id, x) ∷ (heir, next.0) ∷ next.1.0
      joined = append_assoc us ((id, x) ∷ []) ((heir, next.0) ∷ next.1.0)

      -- the tree stores the heir's item right after that of the node
      both : StoresBeside w old reach beside ((us ++ (id, x) ∷ []) ++ (heir, next.0) ∷ next.1.0)
      both = subst (StoresBeside w old reach beside) (sym joined) (subst (λ vs2. StoresBeside w old reach beside (us ++ (id, x) ∷ vs2)) next.1.1 st)

      -- so does any other tree that lists the same items
      both_still : (mid : Links (Data X S B)) → StillLists w old mid heir → StoresBeside w mid reach beside (us ++ (id, x) ∷ (heir, next.0) ∷ next.1.0)
      unfolding StillLists
      both_still mid still = subst (StoresBeside w mid reach beside) joined (still reach beside (us ++ (id, x) ∷ []) next.0 next.1.0 both, both.1, both.2)

    pub heir_child : StoresItem w old id → OneChild old.nodes.live heir
    unfolding StoresItem
    heir_child (l, (reach, (beside, (us, (x, (vs, st)))))) = (next l reach beside us x vs st).1.2

    pub heir_stored : StoresItem w old id → StoresItem w old heir
    unfolding StoresItem
    heir_stored (l, (reach, (beside, (us, (x, (vs, st)))))) = (l, (reach, (beside, (us ++ (id, x) ∷ [], (_, (_, both l reach beside us x vs st))))))

    module _ (mid : Links (Data X S B)) (still : StillLists w old mid heir) where
      pub both_stored : StoresItem w old id → StoresBoth w mid id heir
      unfolding StoresItem StoresBoth IsThere
      both_stored stored =
          let (l, (reach, (beside, (us, (x, (vs, st)))))) = stored in
          (l, still_there w old mid heir (heir_stored stored) still, (reach, (beside, (us, (x, (_, (_, both_still l reach beside us x vs st mid still)))))))

      pub heir_unlinks : (new : Links (Data X S B)) (at : Option (ℕ × Side)) (red : Bool) → StoresItem w old id → UnlinksBefore w mid new heir id at red → Unlinks w old new id at red
      unfolding StoresItem UnlinksBefore Unlinks
      heir_unlinks new at red (l, some_item) unlinks = λ reach beside us x vs st.
          subst (λ vs2. Unlinked w.weaving (w.within reach) w.is_item w.is_value beside new.nodes.live new.root at red id (us ++ vs2)) (sym (next l reach beside us x vs st).1.1)
          (unlinks reach beside us x _ _ (both_still l reach beside us x vs st mid still))

pub ruleset unlinking = (still_stored, still_there, still_unlinks, hangs_right, heir_child, heir_stored, both_stored, heir_unlinks)

-- replacement of a node by a leaf
module _ {W X S B K : Type 0} (w : Ghosts W X S B K) (old : Links (Data X S B)) (id heir : ℕ) where
  pub heir_place : (at : Option (ℕ × Side)) → StoresBoth w old id heir → AtSpot old.nodes.live old.root heir (λ s. at ≡ place_of s.hole) → LivesAt old.nodes at
  unfolding StoresBoth LivesAt
  heir_place at (l, (s, made), some) placed = rw (placed s made) (at_place old.nodes.live old.root s heir made)

  module _ (leaf : NoChild old.nodes.live heir) where
    module _ (l : LawsOf w) (reach : B) (beside : Tree (Data X S B)) (us : List (ℕ × X)) (x y : X) (vs : List (ℕ × X)) (st : StoresBeside w old reach beside (us ++ (id, x) ∷ (heir, y) ∷ vs)) where
      -- the leaf, in the first place of the node's right subtree
      low : Heired w.weaving l.laws (w.within reach) w.is_item w.is_sum w.is_value l.sums l.parts l.thins beside old.nodes.live old.root id heir us x y vs
      low = heired w.weaving l.laws (w.within reach) w.is_item w.is_sum w.is_value l.sums l.parts l.thins beside old.nodes.live old.root id heir us x y vs leaf st

      heir_woven : WovenSpot w.weaving w.is_near old.nodes.live old.root heir (heir_spot low)
      heir_woven = let deep = low.low in (low.made, woven_wider w.weaving (w.within reach) w.is_near (l.within_near reach) w.weaving.still _ low.woven, omega (arith, deep))

      id_woven_there : WovenSpot w.weaving w.is_near old.nodes.live old.root id (id_spot low)
      id_woven_there = let deep = id_low low in (id_made low, woven_wider w.weaving (w.within reach) w.is_near (l.within_near reach) w.weaving.still _ (id_woven low), omega (arith, deep))

      value_there : w.is_item y
      value_there = (items_right w.weaving l.laws (w.within reach) w.is_item w.is_sum w.is_value l.sums l.parts us ((id, x) ∷ (heir, y) ∷ vs) st.1.0).1.0

    pub upper_there : (mid : Links (Data X S B)) (at : Option (ℕ × Side)) → StoresBoth w old id heir → AtSpot old.nodes.live old.root heir (λ s. at ≡ place_of s.hole) → mid.nodes.live ≡ hung old.nodes.live at None
        → mid.root ≡ root_hung old.root at None → IsThere mid id
    unfolding StoresBoth IsThere
    upper_there mid at (l, stands, (reach, (beside, (us, (x, (y, (vs, st))))))) placed e1 er =
        let h = low l reach beside us x y vs st in let there = placed (heir_spot h) h.made in
        (bare_spot h mid.nodes.live mid.root at there e1 er, bare_made h mid.nodes.live mid.root at there e1 er)

    pub heir_valued : StoresBoth w old id heir → StandsValued w old heir
    unfolding StoresBoth StandsValued
    heir_valued (l, stands, (reach, (beside, (us, (x, (y, (vs, st))))))) =
        let h = low l reach beside us x y vs st in (l, (heir_spot h, heir_woven l reach beside us x y vs st, subst w.is_item h.value (value_there l reach beside us x y vs st)))

    pub upper_woven : StoresBoth w old id heir → StandsWoven w old id
    unfolding StoresBoth StandsWoven
    upper_woven (l, stands, (reach, (beside, (us, (x, (y, (vs, st))))))) = (l, (id_spot (low l reach beside us x y vs st), id_woven_there l reach beside us x y vs st))

    module _ (item : X) (is : IsShown w old heir item) where
      pub heir_value : StoresBoth w old id heir → w.is_item item
      unfolding StoresBoth IsShown
      heir_value (l, stands, (reach, (beside, (us, (x, (y, (vs, st))))))) =
          let h = low l reach beside us x y vs st in
          subst w.is_item (sym (is (heir_spot h) (heir_woven l reach beside us x y vs st) ∙ sym h.value)) (value_there l reach beside us x y vs st)

      -- the leaf is detached and put in the place of the node
      module _ (own : X) (kept : IsKept w old id item own) (mid new : Links (Data X S B)) (at : Option (ℕ × Side)) (placed : AtSpot old.nodes.live old.root heir (λ s. at ≡ place_of s.hole))
          (e1 : mid.nodes.live ≡ hung old.nodes.live at None) (er : mid.root ≡ root_hung old.root at None) (upper : Slot (Data X S B)) (found : map.get mid.nodes.live id ≡ Some upper) (datum : Data X S B)
          (d1 : datum.item ≡ own) (d2 : datum.delta ≡ upper.«data».delta) (d3 : datum.before ≡ upper.«data».before) (d4 : datum.whole ≡ upper.«data».whole) (inherits : Inherits mid new id heir datum) where
        module _ (l : LawsOf w) (reach : B) (beside : Tree (Data X S B)) (us : List (ℕ × X)) (x y : X) (vs : List (ℕ × X)) (st : StoresBeside w old reach beside (us ++ (id, x) ∷ (heir, y) ∷ vs)) where
          abbrev h : Heired w.weaving l.laws (w.within reach) w.is_item w.is_sum w.is_value l.sums l.parts l.thins beside old.nodes.live old.root id heir us x y vs
          h = low l reach beside us x y vs st

          there : at ≡ place_of (heir_spot h).hole
          there = placed (heir_spot h) h.made

          own_is : w.weaving.shift (shift_at w.weaving h.hole) own ≡ y
          unfolding IsKept IsShown
          own_is = kept (id_spot h) (id_woven_there l reach beside us x y vs st) ∙ is (heir_spot h) (heir_woven l reach beside us x y vs st) ∙ sym h.value

          made_new : Made beside new.nodes.live new.root (plug h.hole (fork h.red heir (with_item h.datum own) h.left h.right))
          unfolding Inherits
          made_new =
              let m1 = mid.nodes.live in let root1 = mid.root in let bare = bare_made h m1 root1 at there e1 er in let spot = bare_spot h m1 root1 at there e1 er in
              let same : upper.«data» ≡ h.datum = ap (λ n. n.«data») (upper_is m1 root1 spot id bare Left upper found) in
              let datum_is : datum ≡ with_item h.datum own = (λ i. record { item = d1 i; delta = d2 i; before = d3 i; whole = d4 i }) ∙ ap (λ d. with_item d own) same in
              subst (λ d. Made beside new.nodes.live new.root (plug h.hole (fork h.red heir d h.left h.right))) datum_is (inherits spot bare (bare_fresh h m1 root1 at there e1 er))

          abbrev spot_new : Spot (Data X S B)
          spot_new = new_spot h mid.nodes.live mid.root at there e1 er own own_is new.nodes.live new.root made_new

          starts_new : (slot : Slot (Data X S B)) → map.get new.nodes.live heir ≡ Some slot
              → StartsAt beside new.nodes.live new.root (Some (heir, Right)) slot.right h.right (on Right h.red heir (with_item h.datum own) h.left h.hole)
          starts_new slot read =
              starts h mid.nodes.live mid.root at there e1 er own own_is new.nodes.live new.root made_new slot.right
              (ap (λ q. q.right) (upper_is new.nodes.live new.root spot_new heir made_new Left slot read))

        pub heir_lives : StoresBoth w old id heir → Lives new.nodes heir
        unfolding StoresBoth Lives
        heir_lives (l, stands, (reach, (beside, (us, (x, (y, (vs, st))))))) =
            (_, slot_here new.nodes.live new.root (spot_new l reach beside us x y vs st) heir (made_new l reach beside us x y vs st))

        -- the same tree, by its nodes and its root
        module _ (slot : Slot (Data X S B)) (read : map.get new.nodes.live heir ≡ Some slot) (again : Links (Data X S B)) (m_same : again.nodes.live ≡ new.nodes.live) (root_same : again.root ≡ new.root) where
          pub heir_hangs : StoresBoth w old id heir → HangsAt again (Some (heir, Right)) slot.right
          unfolding StoresBoth HangsAt
          heir_hangs (l, stands, (reach, (beside, (us, (x, (y, (vs, st))))))) =
              let q = low l reach beside us x y vs st in
              (beside, (q.right, (on Right q.red heir (with_item q.datum own) q.left q.hole, rw (m_same, root_same) (starts_new l reach beside us x y vs st slot read))))

          pub heir_inherits : (leaf_slot : Slot (Data X S B)) (red : Bool) (gap : Option (ℕ × Side)) → StoresBoth w old id heir → map.get old.nodes.live heir ≡ Some leaf_slot → red ≡ leaf_slot.red
              → IsEnd again (Some (heir, Right)) slot.right Left gap → UnlinksBefore w old again heir id gap red
          unfolding StoresBoth IsEnd UnlinksBefore
          heir_inherits leaf_slot red gap (l, stands, some) found_leaf is_red ends = λ reach beside us x y vs st.
              let q = low l reach beside us x y vs st in
              let red_is = is_red ∙ ap (λ n. n.red) (upper_is old.nodes.live old.root (heir_spot q) heir q.made Left leaf_slot found_leaf) in
              let starts2 : StartsAt beside again.nodes.live again.root (Some (heir, Right)) slot.right q.right (on Right q.red heir (with_item q.datum own) q.left q.hole)
              = rw (m_same, root_same) (starts_new l reach beside us x y vs st slot read) in
              let at_gap = ends beside q.right (on Right q.red heir (with_item q.datum own) q.left q.hole) starts2 in
              rw (m_same, root_same) (gap_unlinked q mid.nodes.live mid.root at (there l reach beside us x y vs st) e1 er own (own_is l reach beside us x y vs st) new.nodes.live new.root (made_new l reach beside us x y vs st)
              st gap at_gap red red_is)

pub ruleset cutting = (heir_place, upper_there, leaf_stays)

pub ruleset inheriting = (heir_valued, upper_woven, heir_value, heir_lives, heir_hangs, heir_inherits)

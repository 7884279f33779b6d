-- The values read in a rotation, and the effect of its writes.
use Rattle.std.proofs.Common.{◌≡◌, ℕ, Bool, Option, Some, None, refl, sym, ap, ◌∙◌, subst}
use Rattle.std.specs.Prelude.{IfSome}
use Rattle.std.specs.Option.{unwrap_or}
use Rattle.std.specs.Ordering.{nat_cmp}
use Rattle.std.specs.FinMap as map
use Rattle.rb_rules.specs.declared.slot.Side.{Side}
use Rattle.rb_rules.specs.declared.slot.Side.TheVariants.{Left, Right}
use Rattle.rb_rules.specs.declared.slot.Slot.{Slot}
use Rattle.rb_rules.specs.Tree.{Tree, tip, fork, other, plug, root_of, above}
use Rattle.rb_rules.specs.Memory.{sided, Makes, Made, child, place_of, adopted, hung, root_hung, Spot, here, below, turned}
use Rattle.rb_rules.specs.declared.slot.Data.{Data}
use Rattle.rb_rules.specs.Weaving.{Weaving}
use Rattle.rb_rules.specs.Woven.{whole_in, whole_at}
use Rattle.rb_rules.proofs.Memories.{opened, of_forked}
use Rattle.rb_rules.proofs.Live.{Live, forks_on, live_root, live_place}
use Rattle.rb_rules.proofs.Turning as T

module _ {D : Type 0} where
  far_child : (s : Side) (p x y : Option ℕ) (c : Bool) (d : D) (n : Slot D) → n ≡ sided s p x y c d → child (other s) n ≡ y
  far_child Left p x y c d n e = ap (λ l. l.right) e
  far_child Right p x y c d n e = ap (λ l. l.left) e

module _ {D : Type 0} (m : map.FinMap nat_cmp (Slot D)) (root : Option ℕ) where
  module _ (sp : Spot D) (i : ℕ) (h : Made sp.beside m root (plug sp.hole (here sp i))) where
    pub upper_is : (s : Side) (n : Slot D) → map.get m i ≡ Some n → n ≡ sided s (above sp.hole) (root_of (below s sp)) (root_of (below (other s) sp)) sp.red sp.datum
    upper_is Left n e = ap (λ o. unwrap_or o n) (sym e ∙ (opened m root sp.hole (here sp i) h.from h.nodes).1.0)
    upper_is Right n e = ap (λ o. unwrap_or o n) (sym e ∙ (opened m root sp.hole (here sp i) h.from h.nodes).1.0)

    pub at_place : IfSome (place_of sp.hole) (λ at. Live m at.0)
    at_place = live_place m root sp.hole _ (opened m root sp.hole (here sp i) h.from h.nodes).0

    pub makes_below : (s : Side) → Makes m (Some i) (below s sp)
    makes_below Left = (opened m root sp.hole (here sp i) h.from h.nodes).1.1
    makes_below Right = (opened m root sp.hole (here sp i) h.from h.nodes).1.2

    pub live_below : (s : Side) → IfSome (root_of (below s sp)) (Live m)
    live_below s = live_root m root (Some i) (below s sp) (makes_below s)

    -- the child's child
    pub live_below_below : (s : Side) (j : ℕ) (n : Slot D) → root_of (below s sp) ≡ Some j → map.get m j ≡ Some n → IfSome (child (other s) n) (Live m)
    live_below_below s j n e f =
        let (b, (d, x, y, is)) = forks_on s (below s sp) j e in
        let (g, mx, my) = of_forked m s (Some i) b j d x y (subst (Makes m (Some i)) is (makes_below s)) in
        let same : n ≡ sided s (Some i) (root_of x) (root_of y) b d = ap (λ o. unwrap_or o n) (sym f ∙ g) in
        subst (λ o. IfSome o (Live m)) (sym (far_child s (Some i) (root_of x) (root_of y) b d n same)) (live_root m root (Some j) y my)

    -- the memory after a rotation, by the slots that it read
    abbrev pub after_turn : Side → ℕ → Slot D → Slot D → D → D → map.FinMap nat_cmp (Slot D)
    after_turn s j n l low high =
        map.insert (map.insert (hung (adopted m (child (other s) l) (Some i)) (place_of sp.hole) (Some j)) i (sided s (Some j) (child (other s) l) (child (other s) n) l.red low))
        j (sided s n.parent (child s l) (Some i) n.red high)

    pub turn_made : (s : Side) (j : ℕ) (n l : Slot D) (low high : D) → map.get m i ≡ Some n → map.get m j ≡ Some l → child s n ≡ Some j
        → Made sp.beside (after_turn s j n l low high) (root_hung root (place_of sp.hole) (Some j)) (plug sp.hole (turned s low high (here sp i)))
    turn_made Left j n l low high e f c =
        let up = upper_is Left n e in let is_root : root_of sp.left ≡ Some j = sym (ap (λ o. o.left) up) ∙ c in
        let (b, (d, x, y, is)) = forks_on Left sp.left j is_root in
        let whole = subst (λ t. Made sp.beside m root (plug sp.hole (fork sp.red i sp.datum t sp.right))) is h in
        let low_is : l ≡ sided Left (Some i) (root_of x) (root_of y) b d =
        ap (λ o. unwrap_or o l) (sym f ∙ (of_forked m Left (Some i) b j d x y (subst (Makes m (Some i)) is (makes_below Left))).0) in
        let P : Slot D → Slot D → Tree D → Type 0 = λ n_ l_ t. Made sp.beside (after_turn Left j n_ l_ low high) (root_hung root (place_of sp.hole) (Some j)) (plug sp.hole (turned Left low high (fork sp.red i sp.datum t sp.right))) in
        subst (λ n_. P n_ l sp.left) (sym up) (subst (λ l_. P (sided Left (above sp.hole) (root_of sp.left) (root_of sp.right) sp.red sp.datum) l_ sp.left) (sym low_is)
        (subst (λ t. P (sided Left (above sp.hole) (root_of t) (root_of sp.right) sp.red sp.datum) (sided Left (Some i) (root_of x) (root_of y) b d) t) (sym is)
        (T.turned m root sp.hole Left sp.red b i j sp.datum d low high x y sp.right whole)))
    turn_made Right j n l low high e f c =
        let up = upper_is Right n e in let is_root : root_of sp.right ≡ Some j = sym (ap (λ o. o.right) up) ∙ c in
        let (b, (d, x, y, is)) = forks_on Right sp.right j is_root in
        let whole = subst (λ t. Made sp.beside m root (plug sp.hole (fork sp.red i sp.datum sp.left t))) is h in
        let low_is : l ≡ sided Right (Some i) (root_of x) (root_of y) b d =
        ap (λ o. unwrap_or o l) (sym f ∙ (of_forked m Right (Some i) b j d x y (subst (Makes m (Some i)) is (makes_below Right))).0) in
        let P : Slot D → Slot D → Tree D → Type 0 = λ n_ l_ t. Made sp.beside (after_turn Right j n_ l_ low high) (root_hung root (place_of sp.hole) (Some j)) (plug sp.hole (turned Right low high (fork sp.red i sp.datum sp.left t))) in
        subst (λ n_. P n_ l sp.right) (sym up) (subst (λ l_. P (sided Right (above sp.hole) (root_of sp.right) (root_of sp.left) sp.red sp.datum) l_ sp.right) (sym low_is)
        (subst (λ t. P (sided Right (above sp.hole) (root_of t) (root_of sp.left) sp.red sp.datum) (sided Right (Some i) (root_of x) (root_of y) b d) t) (sym is)
        (T.turned m root sp.hole Right sp.red b i j sp.datum d low high x y sp.left whole)))

module _ {X S B : Type 0} (w : Weaving X S B) (m : map.FinMap nat_cmp (Slot (Data X S B))) where
  pub whole_in_is : (p : Option ℕ) (t : Tree (Data X S B)) → Makes m p t → whole_in w m (root_of t) ≡ whole_at w t
  whole_in_is p tip h = refl
  whole_in_is p (fork c i d x y) (e, a, b) = ap (λ o. elim o [ None ↦ w.none | Some s ↦ s.«data».whole ]) e

-- The live names and their number, after the writes of a rotation.
use Rattle.std.proofs.Common.{◌≡◌, ℕ, ◌+◌, Bool, cond, eqb, Option, Some, None, refl, sym, ap, ◌∙◌, subst, arith, inl, inr, eq-eqb}
use Rattle.std.specs.Prelude.{IfSome}
use Rattle.std.specs.Option.{unwrap_or}
use Rattle.std.specs.Ordering.{nat_cmp}
use Rattle.std.specs.FinMap as map
use Rattle.std.proofs.lemmas.Cmp.{nat_cmp_total}
use Rattle.std.proofs.lemmas.Bool.{ne_eqb}
use Rattle.std.proofs.lemmas.Bool.Decides.{eqb_tells}
use Rattle.std.proofs.lemmas.Option.{none-some}
use Rattle.raw_arena.proofs.Names.{get-insert_same, get-insert_other}
use Rattle.rb_rules.specs.declared.slot.Side.{Side}
use Rattle.rb_rules.specs.declared.slot.Side.TheVariants.{Left, Right}
use Rattle.rb_rules.specs.declared.slot.Slot.{Slot}
use Rattle.rb_rules.specs.Tree.{Tree, tip, fork, Hole, top, on, other, forked, plug, root_of, above, count, count_round}
use Rattle.rb_rules.specs.Memory.{sided, Makes, Around, Made, child, place_of, side_by_name, updated, adopted, hung, Spot, here, below}
use Rattle.rb_rules.proofs.Memories.{opened}
use Rattle.rb_rules.proofs.Holes.{count-plug, count_self}

nothing_in : (a b c : ℕ) → a + (b + c) ≡ 0 → b ≡ 0
nothing_in a b c e = omega arith

by_left : (i : ℕ) (o : Option ℕ) → (o ≡ Some i → ⊥) → (elim o as (λ _. Side) [ None ↦ Right | Some l ↦ cond (eqb l i) Left Right ]) ≡ Right
by_left i None ne = refl
by_left i (Some l) ne = ap (λ b. cond b Left Right) (ne_eqb l i (λ e. ne (ap Some e)))

module _ {D : Type 0} where
  abbrev pub Live : map.FinMap nat_cmp (Slot D) → ℕ → Type 0
  Live m j = (n : Slot D) × (map.get m j ≡ Some n)

  pub live_insert : (m : map.FinMap nat_cmp (Slot D)) (i : ℕ) (s : Slot D) (j : ℕ) → Live m j → Live (map.insert m i s) j
  live_insert m i s j (n, e) = elim (eqb_tells j i) as (λ _. Live (map.insert m i s) j) [
    | inl (_, same) ↦ (s, subst (λ k. map.get (map.insert m i s) k ≡ Some s) (sym same) (get-insert_same m i s))
    | inr (_, ne) ↦ (n, get-insert_other m i s j ne ∙ e)
  ]

  live_updated : (m : map.FinMap nat_cmp (Slot D)) (i : ℕ) (f : Slot D → Slot D) (j : ℕ) (o : Option (Slot D)) → Live m j → Live (updated m i f o) j
  live_updated m i f j None h = h
  live_updated m i f j (Some s) h = live_insert m i (f s) j h

  pub live_adopted : (m : map.FinMap nat_cmp (Slot D)) (o p : Option ℕ) (j : ℕ) → Live m j → Live (adopted m o p) j
  live_adopted m None p j h = h
  live_adopted m (Some i) p j h = live_updated m i _ j (map.get m i) h

  pub live_hung : (m : map.FinMap nat_cmp (Slot D)) (at : Option (ℕ × Side)) (o : Option ℕ) (j : ℕ) → Live m j → Live (hung m at o) j
  live_hung m None o j h = h
  live_hung m (Some at) o j h = live_updated m at.0 _ j (map.get m at.0) h

  pub len_insert : (m : map.FinMap nat_cmp (Slot D)) (i : ℕ) (s : Slot D) → Live m i → map.len (map.insert m i s) ≡ map.len m
  len_insert m i s (n, e) = map.len-insert nat_cmp_total m i s ∙ rw e refl

  len_updated : (m : map.FinMap nat_cmp (Slot D)) (i : ℕ) (f : Slot D → Slot D) (o : Option (Slot D)) → map.get m i ≡ o → map.len (updated m i f o) ≡ map.len m
  len_updated m i f None e = refl
  len_updated m i f (Some s) e = len_insert m i (f s) (s, e)

  pub len_adopted : (m : map.FinMap nat_cmp (Slot D)) (o p : Option ℕ) → map.len (adopted m o p) ≡ map.len m
  len_adopted m None p = refl
  len_adopted m (Some i) p = len_updated m i _ (map.get m i) refl

  -- the links of a slot are the names of the subtrees
  pub child-sided : (s : Side) (p x y : Option ℕ) (c : Bool) (d : D) → (child s (sided s p x y c d) ≡ x) × (child (other s) (sided s p x y c d) ≡ y)
  child-sided Left p x y c d = (refl, refl)
  child-sided Right p x y c d = (refl, refl)

  pub forks : (t : Tree D) (j : ℕ) → root_of t ≡ Some j → (b : Bool) × ((d : D) × (x : Tree D) × (y : Tree D) × (t ≡ fork b j d x y))
  forks tip j e = absurd (none-some j e)
  forks (fork b i d x y) j e = let P : ℕ → Type 0 = λ k. (b_ : Bool) × ((d_ : D) × (x_ : Tree D) × (y_ : Tree D) × (fork b i d x y ≡ fork b_ k d_ x_ y_)) in
      subst P (ap (λ o. unwrap_or o 0) e) (b, (d, x, y, refl))

  -- a tree with that root is a node with one subtree on that side and one on the other
  pub forks_on : (s : Side) (t : Tree D) (j : ℕ) → root_of t ≡ Some j → (b : Bool) × ((d : D) × (x : Tree D) × (y : Tree D) × (t ≡ forked s b j d x y))
  forks_on Left t j e = forks t j e
  forks_on Right t j e = let (b, (d, x, y, f)) = forks t j e in (b, (d, y, x, f))

  pub here_forked : (s : Side) (sp : Spot D) (i : ℕ) → here sp i ≡ forked s sp.red i sp.datum (below s sp) (below (other s) sp)
  here_forked Left sp i = refl
  here_forked Right sp i = refl

  -- a name that does not occur in a tree is not that of its root
  not_root : (t : Tree D) (i : ℕ) → root_of t ≡ Some i → count i t ≡ 0 → ⊥
  not_root tip i e none = none-some i e
  not_root (fork c j d x y) i e none =
      let P : ℕ → Type 0 = λ k. count k (fork c j d x y) ≡ 0 in let zero_ = subst P (sym (ap (λ o. unwrap_or o 0) e)) none in
      let own = count_self j (count j x + count j y) in absurd (omega (arith, zero_, own))

  side_sided : (s : Side) (p : Option ℕ) (i : ℕ) (x : Tree D) (c : Bool) (d : D) → count i x ≡ 0 → side_by_name (sided s p (Some i) (root_of x) c d) i ≡ s
  side_sided Left p i x c d none = ap (λ b. cond b Left Right) (eq-eqb i i refl)
  side_sided Right p i x c d none = by_left i (root_of x) (λ e. not_root x i e none)

  module _ (m : map.FinMap nat_cmp (Slot D)) (root : Option ℕ) where
    pub slot_here : (sp : Spot D) (i : ℕ) → Made sp.beside m root (plug sp.hole (here sp i)) → map.get m i ≡ Some (sided Left (above sp.hole) (root_of sp.left) (root_of sp.right) sp.red sp.datum)
    slot_here sp i h = (opened m root sp.hole (here sp i) h.from h.nodes).1.0

    pub live_root : (p : Option ℕ) (t : Tree D) → Makes m p t → IfSome (root_of t) (Live m)
    live_root p tip h = tt
    live_root p (fork c i d x y) (e, a, b) = (_, e)

    pub live_place : (k : Hole D) (o : Option ℕ) → Around m root k o → IfSome (place_of k) (λ at. Live m at.0)
    live_place top o h = tt
    live_place (on s c i d x k) o (e, a, b) = (_, e)

    -- the side of a node, from its parent's left link
    pub side_is : (sp : Spot D) (i : ℕ) → Made sp.beside m root (plug sp.hole (here sp i)) → (j : ℕ) → above sp.hole ≡ Some j → (n : Slot D) → map.get m j ≡ Some n
        → Some (j, side_by_name n i) ≡ place_of sp.hole
    side_is sp i h j e n f =
        let t = here sp i in
        let counted = h.once i in let parts = count-plug i sp.hole t in let own = count_self i (count i sp.left + count i sp.right) in
        elim sp.hole as (λ k. Around m root k (Some i) → above k ≡ Some j → count_round i k ≡ 0 → Some (j, side_by_name n i) ≡ place_of k) [
          | top ↦ λ a none _. absurd (none-some j none)
          | on s c q d x k ↦ λ (g, _, _) same none. let is : q ≡ j = ap (λ o. unwrap_or o 0) same in
              ap Some (λ l. (
                sym is l,
                (ap (λ o. side_by_name (unwrap_or o n) i) (sym f ∙ ap (map.get m) (sym is) ∙ g)
                    ∙ side_sided s (above k) i x c d (nothing_in (cond (eqb i q) 1 0) (count i x) (count_round i k) none)) l,
              ))
        ] (opened m root sp.hole t h.from h.nodes).0 e (omega (arith, counted, parts, own))

    pub live_above : (sp : Spot D) (i : ℕ) → Made sp.beside m root (plug sp.hole (here sp i)) → (j : ℕ) → above sp.hole ≡ Some j → Live m j
    live_above sp i h j e =
        elim sp.hole as (λ k. Around m root k (Some i) → above k ≡ Some j → Live m j) [
          | top ↦ λ a none. absurd (none-some j none)
          | on s c q d x k ↦ λ (g, _, _) same. (_, ap (map.get m) (sym (ap (λ o. unwrap_or o 0) same)) ∙ g)
        ] (opened m root sp.hole (here sp i) h.from h.nodes).0 e

  pub no_place : (k : Hole D) → above k ≡ None → place_of k ≡ None
  no_place top e = refl
  no_place (on s c i d x k) e = absurd (none-some i (sym e))

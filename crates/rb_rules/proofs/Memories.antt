-- Splitting of a tree in memory at a hole, joining of the parts, and writes elsewhere.
use Rattle.std.proofs.Common.{◌≡◌, ◌≢◌, ℕ, ◌+◌, ◌≤◌, Bool, cond, eqb, Option, Some, None, refl, sym, ap, ◌∙◌, subst, arith, inl, inr}
use Rattle.std.specs.Ordering.{nat_cmp}
use Rattle.std.specs.FinMap as map
use Rattle.std.proofs.lemmas.Bool.Decides.{eqb_tells}
use Rattle.raw_arena.proofs.Names.{get-insert_same, get-insert_other}
use Rattle.rb_rules.specs.declared.slot.Side.{Side}
use Rattle.rb_rules.specs.declared.slot.Side.TheVariants.{Left, Right}
use Rattle.rb_rules.specs.declared.slot.Slot.{Slot}
use Rattle.rb_rules.specs.Tree.{Tree, tip, fork, Hole, top, on, forked, plug, root_of, above, count, count_round}
use Rattle.rb_rules.specs.Memory.{sided, Makes, Around, with_child, place_of, updated, adopted, hung, root_hung}
use Rattle.rb_rules.proofs.Holes.{root-forked, count_self}

module _ {D : Type 0} (m : map.FinMap nat_cmp (Slot D)) where
  pub of_forked : (s : Side) (p : Option ℕ) (c : Bool) (i : ℕ) (d : D) (x y : Tree D) → Makes m p (forked s c i d x y)
      → (map.get m i ≡ Some (sided s p (root_of x) (root_of y) c d)) × Makes m (Some i) x × Makes m (Some i) y
  of_forked Left p c i d x y h = h
  of_forked Right p c i d x y (e, a, b) = (e, b, a)

  pub to_forked : (s : Side) (p : Option ℕ) (c : Bool) (i : ℕ) (d : D) (x y : Tree D)
      → map.get m i ≡ Some (sided s p (root_of x) (root_of y) c d) → Makes m (Some i) x → Makes m (Some i) y → Makes m p (forked s c i d x y)
  to_forked Left p c i d x y e a b = (e, a, b)
  to_forked Right p c i d x y e a b = (e, b, a)

  pub opened : (root : Option ℕ) (k : Hole D) (t : Tree D) → root ≡ root_of (plug k t) → Makes m None (plug k t) → Around m root k (root_of t) × Makes m (above k) t
  opened root top t e h = (e, h)
  opened root (on s c i d x k) t e h =
      let (a, b) = opened root k (forked s c i d t x) e h in let (l, mt, mx) = of_forked s (above k) c i d t x b in
      ((l, mx, subst (Around m root k) (root-forked s c i d t x) a), mt)

  pub closed : (root : Option ℕ) (k : Hole D) (t : Tree D) → Around m root k (root_of t) → Makes m (above k) t → (root ≡ root_of (plug k t)) × Makes m None (plug k t)
  closed root top t e h = (e, h)
  closed root (on s c i d x k) t (l, mx, a) h =
      closed root k (forked s c i d t x) (subst (Around m root k) (sym (root-forked s c i d t x)) a) (to_forked s (above k) c i d t x l h mx)

  module _ (w : ℕ) (n : Slot D) where
    apart : (i rest : ℕ) → cond (eqb w i) 1 0 + rest ≡ 0 → (i ≢ w) × (rest ≡ 0)
    apart i rest none = elim (eqb_tells w i) as (λ _. (i ≢ w) × (rest ≡ 0)) [
      | inl (e, same) ↦ let one : cond (eqb w i) 1 0 + rest ≡ 1 + rest = ap (λ b. cond b 1 0 + rest) e in absurd (omega (arith, one, none))
      | inr (e, ne) ↦ let nought : cond (eqb w i) 1 0 + rest ≡ 0 + rest = ap (λ b. cond b 1 0 + rest) e in (λ f. ne (sym f), omega (arith, nought, none))
    ]

    -- a write to a name that is not in the tree
    pub kept : (p : Option ℕ) (t : Tree D) → count w t ≡ 0 → Makes m p t → Makes (map.insert m w n) p t
    kept p tip none h = tt
    kept p (fork c i d x y) none (e, a, b) =
        let (ne, less) = apart i (count w x + count w y) none in
        (get-insert_other m w n i ne ∙ e, kept (Some i) x (omega arith) a, kept (Some i) y (omega arith) b)

    pub kept_round : (root : Option ℕ) (k : Hole D) (o : Option ℕ) → count_round w k ≡ 0 → Around m root k o → Around (map.insert m w n) root k o
    kept_round root top o none e = e
    kept_round root (on s c i d x k) o none (e, a, b) =
        let (ne, less) = apart i (count w x + count_round w k) none in
        (get-insert_other m w n i ne ∙ e, kept (Some i) x (omega arith) a, kept_round root k (Some i) (omega arith) b)

-- two trees, or a tree and a hole, that share no name
abbrev pub Alone : {D : Type 0} → Tree D → Tree D → Type 0
Alone t u = (j : ℕ) → count j t + count j u ≤ 1

module _ {D : Type 0} where
  count_root : (c : Bool) (i : ℕ) (d : D) (x y : Tree D) → count i (fork c i d x y) ≡ 1 + (count i x + count i y)
  count_root c i d x y = count_self i (count i x + count i y)

  count_above : (s : Side) (c : Bool) (i : ℕ) (d : D) (x : Tree D) (k : Hole D) → count_round i (on s c i d x k) ≡ 1 + (count i x + count_round i k)
  count_above s c i d x k = count_self i (count i x + count_round i k)

  adopted_is : (m : map.FinMap nat_cmp (Slot D)) (i : ℕ) (p : Option ℕ) (s : Slot D) → map.get m i ≡ Some s → adopted m (Some i) p ≡ map.insert m i (record s { parent = p })
  adopted_is m i p s e = ap (updated m i (λ n. record n { parent = p })) e

  hung_is : (m : map.FinMap nat_cmp (Slot D)) (i : ℕ) (at : Side) (o : Option ℕ) (s : Slot D) → map.get m i ≡ Some s → hung m (Some (i, at)) o ≡ map.insert m i (with_child at o s)
  hung_is m i at o s e = ap (updated m i (with_child at o)) e

  with_sided : (s : Side) (p o x y : Option ℕ) (c : Bool) (d : D) → with_child s o (sided s p x y c d) ≡ sided s p o y c d
  with_sided Left p o x y c d = refl
  with_sided Right p o x y c d = refl

  module _ (m : map.FinMap nat_cmp (Slot D)) where
    -- the link from a tree's root to its parent changes
    module _ (p q : Option ℕ) where
      pub kept_adopted : (t : Tree D) (u : Tree D) (pu : Option ℕ) → Makes m q t → Alone t u → Makes m pu u → Makes (adopted m (root_of t) p) pu u
      kept_adopted tip u pu h alone g = g
      kept_adopted (fork c i d x y) u pu (e, a, b) alone g =
          let one = alone i in let own = count_root c i d x y in let P : map.FinMap nat_cmp (Slot D) → Type 0 = λ n. Makes n pu u in
          subst P (sym (adopted_is m i p _ e)) (kept m i _ pu u (omega (arith, one, own)) g)

      pub round_adopted : (t : Tree D) (root : Option ℕ) (k : Hole D) (o : Option ℕ) → Makes m q t → ((j : ℕ) → count_round j k + count j t ≤ 1)
          → Around m root k o → Around (adopted m (root_of t) p) root k o
      round_adopted tip root k o h alone g = g
      round_adopted (fork c i d x y) root k o (e, a, b) alone g =
          let one = alone i in let own = count_root c i d x y in let P : map.FinMap nat_cmp (Slot D) → Type 0 = λ n. Around n root k o in
          subst P (sym (adopted_is m i p _ e)) (kept_round m i _ root k o (omega (arith, one, own)) g)

      pub adopted_made : (t : Tree D) → Makes m q t → ((j : ℕ) → count j t ≤ 1) → Makes (adopted m (root_of t) p) p t
      adopted_made tip h once = tt
      adopted_made (fork c i d x y) (e, a, b) once =
          let one = once i in let own = count_root c i d x y in let P : map.FinMap nat_cmp (Slot D) → Type 0 = λ n. Makes n p (fork c i d x y) in
          subst P (sym (adopted_is m i p _ e)) (get-insert_same m i _, kept m i _ (Some i) x (omega (arith, one, own)) a, kept m i _ (Some i) y (omega (arith, one, own)) b)

    -- the link of the node above a hole changes
    module _ (root old new : Option ℕ) where
      pub kept_hung : (k : Hole D) (u : Tree D) (pu : Option ℕ) → Around m root k old → ((j : ℕ) → count_round j k + count j u ≤ 1) → Makes m pu u → Makes (hung m (place_of k) new) pu u
      kept_hung top u pu h alone g = g
      kept_hung (on s c i d x k) u pu (e, a, b) alone g =
          let one = alone i in let own = count_above s c i d x k in let P : map.FinMap nat_cmp (Slot D) → Type 0 = λ n. Makes n pu u in
          subst P (sym (hung_is m i s new _ e)) (kept m i _ pu u (omega (arith, one, own)) g)

      pub slot_hung : (k : Hole D) (j : ℕ) (n : Slot D) → Around m root k old → count_round j k ≡ 0 → map.get m j ≡ Some n → map.get (hung m (place_of k) new) j ≡ Some n
      slot_hung top j n h none g = g
      slot_hung (on s c i d x k) j n (e, a, b) none g =
          let own = count_above s c i d x k in let P : map.FinMap nat_cmp (Slot D) → Type 0 = λ l. map.get l j ≡ Some n in
          let ne : j ≢ i = λ same. let Q : ℕ → Type 0 = λ l. count_round l (on s c i d x k) ≡ 0 in let zero_ = subst Q same none in absurd (omega (arith, zero_, own)) in
          subst P (sym (hung_is m i s new _ e)) (get-insert_other m i _ j ne ∙ g)

      pub hung_round : (k : Hole D) → Around m root k old → ((j : ℕ) → count_round j k ≤ 1) → Around (hung m (place_of k) new) (root_hung root (place_of k) new) k new
      hung_round top h once = refl
      hung_round (on s c i d x k) (e, a, b) once =
          let one = once i in let own = count_above s c i d x k in let P : map.FinMap nat_cmp (Slot D) → Type 0 = λ n. Around n root (on s c i d x k) new in
          subst P (sym (hung_is m i s new _ e)) (
            get-insert_same m i _ ∙ ap Some (with_sided s (above k) new old (root_of x) c d),
            kept m i _ (Some i) x (omega (arith, one, own)) a,
            kept_round m i _ root k (Some i) (omega (arith, one, own)) b,
          )

-- Attachment of a leaf at a hole of a tree in memory.
use Rattle.std.proofs.Common.{◌≡◌, ◌≢◌, ℕ, ◌+◌, ◌≤◌, Bool, true, false, cond, eqb, Option, Some, None, refl, sym, ap, ◌∙◌, arith, inl, inr}
use Rattle.std.proofs.lemmas.Bool.Decides.{eqb_tells}
use Rattle.std.proofs.lemmas.Option.{none-some}
use Rattle.std.proofs.lemmas.Bool.{false≢true}
use Rattle.std.specs.Ordering.{nat_cmp}
use Rattle.std.specs.FinMap as map
use Rattle.rb_rules.specs.declared.slot.Side.TheVariants.{Left}
use Rattle.rb_rules.specs.declared.slot.Slot.{Slot}
use Rattle.rb_rules.specs.Tree.{Tree, tip, fork, Hole, plug, above, count, count_round}
use Rattle.rb_rules.specs.Memory.{sided, Makes, Made, place_of, hung, root_hung}
use Rattle.rb_rules.proofs.Holes.{count-plug}
use Rattle.rb_rules.proofs.Memories.{opened, closed, kept, kept_hung, hung_round, slot_hung}

one_or_none : (b : Bool) (n : ℕ) → n ≤ 1 → (b ≡ true → n ≡ 0) → n + (cond b 1 0 + (0 + 0)) ≤ 1
one_or_none true n le none = let z = none refl in omega (arith, z)
one_or_none false n le none = omega arith

apart_names : (m : ℕ) (i : ℕ) (a b : ℕ) → ◌≡◌ {A = ℕ} a 0 → ◌≡◌ {A = ℕ} b 0 → i ≢ m → cond (eqb i m) 1 0 + (a + b) ≡ 0
apart_names m i a b ea eb ne = elim (eqb_tells i m) [
  | inl (_, same) ↦ absurd (ne same)
  | inr (e, _) ↦ let nought : cond (eqb i m) 1 0 + (a + b) ≡ 0 + (a + b) = ap (λ t. cond t 1 0 + (a + b)) e in omega (arith, nought, ea, eb)
]

same_of : (j i : ℕ) → eqb j i ≡ true → j ≡ i
same_of j i e = elim (eqb_tells j i) [ inl (_, same) ↦ same | inr (f, _) ↦ absurd (false≢true (sym f ∙ e)) ]

module _ {D : Type 0} (m : map.FinMap nat_cmp (Slot D)) where
  -- a name that is not live is in no tree
  pub absent : (i : ℕ) → map.get m i ≡ None → (p : Option ℕ) (t : Tree D) → Makes m p t → count i t ≡ 0
  absent i none p tip h = refl
  absent i none p (fork c j d x y) (e, a, b) =
      apart_names j i (count i x) (count i y) (absent i none (Some j) x a) (absent i none (Some j) y b) (λ same. none-some _ (sym none ∙ ap (map.get m) same ∙ e))

  -- a name that is not live is in neither tree
  pub absent_both : (i : ℕ) → map.get m i ≡ None → (root : Option ℕ) (t : Tree D) → {beside : Tree D} → Made beside m root t → count i t + count i beside ≡ 0
  absent_both i none root t {beside} h = let a = absent i none None t h.nodes in let b = absent i none None beside h.aside in omega (arith, a, b)

  -- a write to a name that is in neither tree
  pub written_apart : (i : ℕ) (s : Slot D) (root : Option ℕ) (t : Tree D) → {beside : Tree D} → count i t + count i beside ≡ 0 → Made beside m root t → Made beside (map.insert m i s) root t
  written_apart i s root t {beside} none h = record {
    from = h.from;
    nodes = kept m i s None t (omega (arith, none)) h.nodes;
    aside = kept m i s None beside (omega (arith, none)) h.aside;
    once = h.once;
  }

  -- a leaf that is in neither tree is attached at a hole
  pub planted : (root : Option ℕ) (k : Hole D) (i : ℕ) (d : D) → map.get m i ≡ Some (sided Left (above k) None None true d) → {beside : Tree D} → count i (plug k tip) + count i beside ≡ 0
      → Made beside m root (plug k tip) → Made beside (hung m (place_of k) (Some i)) (root_hung root (place_of k) (Some i)) (plug k (fork true i d tip tip))
  planted root k i d found {beside} none h =
      let s = sided Left (above k) None None true d in let m2 = hung m (place_of k) (Some i) in let root2 = root_hung root (place_of k) (Some i) in
      let parts = count-plug i k tip in let clear : count_round i k ≡ 0 = omega (arith, none, parts) in
      let (around, _) = opened m root k tip h.from h.nodes in
      let two = hung_round m root None (Some i) k around (λ j. let w = h.once j in let q = count-plug j k tip in omega (arith, w, q)) in
      let aside = kept_hung m root None (Some i) k beside None around (λ j. let w = h.once j in let q = count-plug j k tip in omega (arith, w, q)) h.aside in
      let slot = slot_hung m root None (Some i) k i s around clear found in
      let (from, nodes) = closed m2 root2 k (fork true i d tip tip) two (slot, tt, tt) in
      record {
        from = from;
        nodes = nodes;
        aside = aside;
        once = λ j. let w = h.once j in let q = count-plug j k tip in let r = count-plug j k (fork true i d tip tip) in
            let le = one_or_none (eqb j i) (count_round j k + count j beside) (omega (arith, w, q))
            (λ e. ap (λ l. count_round l k + count l beside) (same_of j i e) ∙ omega (arith, clear, none)) in omega (arith, r, le);
      }

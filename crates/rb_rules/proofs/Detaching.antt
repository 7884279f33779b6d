-- Removal of a node with at most one subtree from a tree in memory, and of its name.
use Rattle.std.proofs.Common.{◌≡◌, ◌≢◌, ℕ, ◌+◌, ◌≤◌, Bool, true, false, cond, eqb, Option, Some, None, refl, sym, ap, ◌∙◌, subst, arith, inl, inr}
use Rattle.std.proofs.lemmas.Bool.{false≢true}
use Rattle.std.proofs.lemmas.Bool.Decides.{eqb_tells}
use Rattle.std.specs.Ordering.{nat_cmp}
use Rattle.std.specs.FinMap as map
use Rattle.raw_arena.proofs.Names.{get-insert_same, get-remove_other}
use Rattle.rb_rules.specs.declared.slot.Side.{Side}
use Rattle.rb_rules.specs.declared.slot.Side.TheVariants.{Left}
use Rattle.rb_rules.specs.declared.slot.Slot.{Slot}
use Rattle.rb_rules.specs.Tree.{Tree, tip, fork, Hole, forked, plug, root_of, above, count, count_round}
use Rattle.rb_rules.specs.Memory.{sided, Makes, Around, Made, place_of, adopted, hung, root_hung}
use Rattle.rb_rules.proofs.Holes.{root-forked, count-forked, count-plug, count_self}
use Rattle.rb_rules.proofs.Memories.{opened, closed, of_forked, kept, kept_round, kept_adopted, round_adopted, adopted_made, kept_hung, hung_round}

absent_from : (w i rest : ℕ) → cond (eqb w i) 1 0 + rest ≡ 0 → (i ≢ w) × (rest ≡ 0)
absent_from w i rest none = elim (eqb_tells w i) as (λ _. (i ≢ w) × (rest ≡ 0)) [
  | inl (e, same) ↦ let one : cond (eqb w i) 1 0 + rest ≡ 1 + rest = ap (λ b. cond b 1 0 + rest) e in absurd (omega (arith, one, none))
  | inr (e, ne) ↦ let nought : cond (eqb w i) 1 0 + rest ≡ 0 + rest = ap (λ b. cond b 1 0 + rest) e in (λ f. ne (sym f), omega (arith, nought, none))
]

pub one_of : (b : Bool) (n : ℕ) → n ≤ 1 → (b ≡ true → n ≡ 0) → cond b 1 0 + n ≤ 1
one_of true n le none = let z = none refl in omega (arith, z)
one_of false n le none = omega arith

pub same_name : (j i : ℕ) → eqb j i ≡ true → j ≡ i
same_name j i e = elim (eqb_tells j i) [ inl (_, same) ↦ same | inr (f, _) ↦ absurd (false≢true (sym f ∙ e)) ]

module _ {D : Type 0} (m : map.FinMap nat_cmp (Slot D)) where
  -- the subtree is put in the node's place
  pub spliced : (root : Option ℕ) (k : Hole D) (s : Side) (c : Bool) (i : ℕ) (d : D) (x : Tree D) → {beside : Tree D} → Made beside m root (plug k (forked s c i d x tip))
      → Made beside (hung (adopted m (root_of x) (above k)) (place_of k) (root_of x)) (root_hung root (place_of k) (root_of x)) (plug k x)
  spliced root k s c i d x {beside} h =
      let node = forked s c i d x tip in let root2 = root_hung root (place_of k) (root_of x) in
      let m1 = adopted m (root_of x) (above k) in let m2 = hung m1 (place_of k) (root_of x) in
      let (around, made) = opened m root k node h.from h.nodes in let (e, mx, _) = of_forked m s (above k) c i d x tip made in
      let parts = λ (j : ℕ). let a = h.once j in let b = count-plug j k node in let f = count-forked j s c i d x tip in
      let both : count_round j k + (count j x + count j beside) ≤ 1 = omega (arith, a, b, f) in both in
      let x1 = adopted_made m (above k) (Some i) x mx (λ j. let p = parts j in omega (arith, p)) in
      let round1 = round_adopted m (above k) (Some i) x root k (Some i) mx (λ j. let p = parts j in omega (arith, p)) (subst (Around m root k) (root-forked s c i d x tip) around) in
      let x2 = kept_hung m1 root (Some i) (root_of x) k x (above k) round1 (λ j. let p = parts j in omega (arith, p)) x1 in
      let round2 = hung_round m1 root (Some i) (root_of x) k round1 (λ j. let p = parts j in omega (arith, p)) in
      let aside1 = kept_adopted m (above k) (Some i) x beside None mx (λ j. let p = parts j in omega (arith, p)) h.aside in
      let aside2 = kept_hung m1 root (Some i) (root_of x) k beside None round1 (λ j. let p = parts j in omega (arith, p)) aside1 in
      let (from, nodes) = closed m2 root2 k x round2 x2 in
      record { from = from; nodes = nodes; aside = aside2; once = λ j. let p = parts j in let b = count-plug j k x in omega (arith, p, b) }

  -- a name that is not in the tree may be removed
  module _ (i : ℕ) where
    without : (p : Option ℕ) (t : Tree D) → count i t ≡ 0 → Makes m p t → Makes (map.remove m i) p t
    without p tip none h = tt
    without p (fork c j d x y) none (e, a, b) =
        let (ne, less) = absent_from i j (count i x + count i y) none in
        (get-remove_other m i j ne ∙ e, without (Some j) x (omega arith) a, without (Some j) y (omega arith) b)

    pub forgotten : (root : Option ℕ) (t : Tree D) → {beside : Tree D} → count i t + count i beside ≡ 0 → Made beside m root t → Made beside (map.remove m i) root t
    forgotten root t {beside} none h =
        record { from = h.from; nodes = without None t (omega (arith, none)) h.nodes; aside = without None beside (omega (arith, none)) h.aside; once = h.once }

  -- the removed node is neither in the tree nor in the one beside
  pub gone : (root : Option ℕ) (k : Hole D) (s : Side) (c : Bool) (i : ℕ) (d : D) (x : Tree D) → {beside : Tree D} → Made beside m root (plug k (forked s c i d x tip))
      → count i (plug k x) + count i beside ≡ 0
  gone root k s c i d x {beside} h =
      let a = h.once i in let b = count-plug i k (forked s c i d x tip) in let f = count-forked i s c i d x tip in let g = count_self i (count i x + 0) in let q = count-plug i k x in
      omega (arith, a, b, f, g, q)

  -- a node is put in the place of another, with its links and its colour
  module _ (root : Option ℕ) (k : Hole D) (c : Bool) (i j : ℕ) (d e : D) (x y : Tree D) where
    abbrev r1 : map.FinMap nat_cmp (Slot D)
    r1 = adopted m (root_of x) (Some j)

    abbrev r2 : map.FinMap nat_cmp (Slot D)
    r2 = adopted r1 (root_of y) (Some j)

    abbrev r3 : map.FinMap nat_cmp (Slot D)
    r3 = hung r2 (place_of k) (Some j)

    abbrev pub replaced_memory : map.FinMap nat_cmp (Slot D)
    replaced_memory = map.insert r3 j (sided Left (above k) (root_of x) (root_of y) c e)

    pub replaced : {beside : Tree D} → Made beside m root (plug k (fork c i d x y)) → count j (plug k (fork c i d x y)) + count j beside ≡ 0
        → Made beside replaced_memory (root_hung root (place_of k) (Some j)) (plug k (fork c j e x y))
    replaced {beside} h fresh =
        let old = fork c i d x y in let new = fork c j e x y in let root2 = root_hung root (place_of k) (Some j) in let slot = sided Left (above k) (root_of x) (root_of y) c e in
        let (around, (_, mx, my)) = opened m root k old h.from h.nodes in
        let parts = λ (q : ℕ). let a = h.once q in let b = count-plug q k old in
        let all : count_round q k + (count q x + (count q y + count q beside)) ≤ 1 = omega (arith, a, b) in all in
        let b = count-plug j k old in
        let clear : count_round j k + (count j x + (count j y + count j beside)) ≡ 0 = omega (arith, b, fresh) in
        let x1 = adopted_made m (Some j) (Some i) x mx (λ q. let p = parts q in omega (arith, p)) in
        let y1 = kept_adopted m (Some j) (Some i) x y (Some i) mx (λ q. let p = parts q in omega (arith, p)) my in
        let round1 = round_adopted m (Some j) (Some i) x root k (Some i) mx (λ q. let p = parts q in omega (arith, p)) around in
        let y2 = adopted_made r1 (Some j) (Some i) y y1 (λ q. let p = parts q in omega (arith, p)) in
        let x2 = kept_adopted r1 (Some j) (Some i) y x (Some j) y1 (λ q. let p = parts q in omega (arith, p)) x1 in
        let round2 = round_adopted r1 (Some j) (Some i) y root k (Some i) y1 (λ q. let p = parts q in omega (arith, p)) round1 in
        let x3 = kept_hung r2 root (Some i) (Some j) k x (Some j) round2 (λ q. let p = parts q in omega (arith, p)) x2 in
        let y3 = kept_hung r2 root (Some i) (Some j) k y (Some j) round2 (λ q. let p = parts q in omega (arith, p)) y2 in
        let round3 = hung_round r2 root (Some i) (Some j) k round2 (λ q. let p = parts q in omega (arith, p)) in
        let x4 = kept r3 j slot (Some j) x (omega (arith, clear)) x3 in let y4 = kept r3 j slot (Some j) y (omega (arith, clear)) y3 in
        let round4 = kept_round r3 j slot root2 k (Some j) (omega (arith, clear)) round3 in
        let aside1 = kept_adopted m (Some j) (Some i) x beside None mx (λ q. let p = parts q in omega (arith, p)) h.aside in
        let aside2 = kept_adopted r1 (Some j) (Some i) y beside None y1 (λ q. let p = parts q in omega (arith, p)) aside1 in
        let aside3 = kept_hung r2 root (Some i) (Some j) k beside None round2 (λ q. let p = parts q in omega (arith, p)) aside2 in
        let aside4 = kept r3 j slot None beside (omega (arith, clear)) aside3 in
        let (from, nodes) = closed replaced_memory root2 k new round4 (get-insert_same r3 j slot, x4, y4) in
        record {
          from = from;
          nodes = nodes;
          aside = aside4;
          once = λ q. let p = parts q in let z = count-plug q k new in
              let le = one_of (eqb q j) (count_round q k + (count q x + (count q y + count q beside))) p
              (λ same. ap (λ l. count_round l k + (count l x + (count l y + count l beside))) (same_name q j same) ∙ clear) in omega (arith, z, le);
        }

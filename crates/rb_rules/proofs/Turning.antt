-- A rotation in memory is a rotation of the tree.
use Rattle.std.proofs.Common.{◌≡◌, ◌≢◌, ℕ, ◌+◌, ◌≤◌, Bool, cond, eqb, Option, Some, None, sym, ap, ◌∙◌, subst, arith, eq-eqb}
use Rattle.std.specs.Ordering.{nat_cmp}
use Rattle.std.specs.FinMap as map
use Rattle.raw_arena.proofs.Names.{get-insert_same, get-insert_other}
use Rattle.rb_rules.specs.declared.slot.Side.{Side}
use Rattle.rb_rules.specs.declared.slot.Slot.{Slot}
use Rattle.rb_rules.specs.Tree.{Tree, Hole, forked, plug, root_of, above, count, count_round}
use Rattle.rb_rules.specs.Memory.{sided, Around, Made, place_of, adopted, hung, root_hung}
use Rattle.rb_rules.proofs.Holes.{root-forked, count-forked, count-plug, count_self}
use Rattle.rb_rules.proofs.Memories.{of_forked, to_forked, opened, closed, kept, kept_round, kept_adopted, round_adopted, adopted_made, kept_hung, hung_round}

unlike : (n c : ℕ) → ◌≡◌ {A = ℕ} (cond (eqb n c) 1 0) 0 → n ≢ c
unlike n c none same = let one : ◌≡◌ {A = ℕ} (cond (eqb n c) 1 0) 1 = ap (λ b. cond b 1 0) (eq-eqb n c same) in absurd (omega (arith, none, one))

module _ {D : Type 0} where
  -- a write to one node: its colour and data change
  module _ (m : map.FinMap nat_cmp (Slot D)) (root : Option ℕ) (k : Hole D) (s : Side) (c : Bool) (i : ℕ) (d : D) (x y : Tree D) where
    pub rewritten : (c2 : Bool) (d2 : D) → {beside : Tree D} → Made beside m root (plug k (forked s c i d x y))
        → Made beside (map.insert m i (sided s (above k) (root_of x) (root_of y) c2 d2)) root (plug k (forked s c2 i d2 x y))
    rewritten c2 d2 {beside} h =
        let (around, made) = opened m root k (forked s c i d x y) h.from h.nodes in let (e, mx, my) = of_forked m s (above k) c i d x y made in
        let new = sided s (above k) (root_of x) (root_of y) c2 d2 in
        let one : count_round i k + (1 + (count i x + (count i y + count i beside))) ≤ 1 =
        let a = h.once i in let b = count-plug i k (forked s c i d x y) in let f = count-forked i s c i d x y in let g = count_self i (count i x + count i y) in omega (arith, a, b, f, g) in
        let here = to_forked (map.insert m i new) s (above k) c2 i d2 x y (get-insert_same m i new) (kept m i new (Some i) x (omega (arith, one)) mx) (kept m i new (Some i) y (omega (arith, one)) my) in
        let round = kept_round m i new root k (root_of (forked s c i d x y)) (omega (arith, one)) around in
        let names = root-forked s c i d x y ∙ sym (root-forked s c2 i d2 x y) in
        let (from, nodes) = closed (map.insert m i new) root k (forked s c2 i d2 x y) (subst (Around (map.insert m i new) root k) names round) here in
        record {
          from = from;
          nodes = nodes;
          aside = kept m i new None beside (omega (arith, one)) h.aside;
          once = λ j. let a = h.once j in let b = count-plug j k (forked s c i d x y) in let f = count-forked j s c i d x y in
              let b2 = count-plug j k (forked s c2 i d2 x y) in let f2 = count-forked j s c2 i d2 x y in omega (arith, a, b, f, b2, f2);
        }

  module _ (m : map.FinMap nat_cmp (Slot D)) (root : Option ℕ) (k : Hole D) (s : Side) (a b : Bool) (n c : ℕ) (dn dc dn2 dc2 : D) (out mid far : Tree D) where
    abbrev Before : Tree D
    Before = forked s a n dn (forked s b c dc out mid) far

    abbrev After : Tree D
    After = forked s a c dc2 out (forked s b n dn2 mid far)

    abbrev m1 : map.FinMap nat_cmp (Slot D)
    m1 = adopted m (root_of mid) (Some n)

    abbrev m2 : map.FinMap nat_cmp (Slot D)
    m2 = hung m1 (place_of k) (Some c)

    abbrev m3 : map.FinMap nat_cmp (Slot D)
    m3 = map.insert m2 n (sided s (Some c) (root_of mid) (root_of far) b dn2)

    abbrev pub turned_memory : map.FinMap nat_cmp (Slot D)
    turned_memory = map.insert m3 c (sided s (above k) (root_of out) (Some n) a dc2)

    pub turned : {beside : Tree D} → Made beside m root (plug k Before) → Made beside turned_memory (root_hung root (place_of k) (Some c)) (plug k After)
    turned {beside} h =
        let root2 = root_hung root (place_of k) (Some c) in
        let (around, made) = opened m root k Before h.from h.nodes in let (en, mc, mfar) = of_forked m s (above k) a n dn (forked s b c dc out mid) far made in
        let (ec, mout, mmid) = of_forked m s (Some n) b c dc out mid mc in
        let parts = λ (j : ℕ). let w = h.once j in let x = count-plug j k Before in let y = count-forked j s a n dn (forked s b c dc out mid) far in let z = count-forked j s b c dc out mid in
        let all : count_round j k + (cond (eqb j n) 1 0 + ((cond (eqb j c) 1 0 + (count j out + count j mid)) + (count j far + count j beside))) ≤ 1 = omega (arith, w, x, y, z) in all in
        let out1 = kept_adopted m (Some n) (Some c) mid out (Some c) mmid (λ j. let p = parts j in omega (arith, p)) mout in
        let far1 = kept_adopted m (Some n) (Some c) mid far (Some n) mmid (λ j. let p = parts j in omega (arith, p)) mfar in
        let mid1 = adopted_made m (Some n) (Some c) mid mmid (λ j. let p = parts j in omega (arith, p)) in
        let round1 = round_adopted m (Some n) (Some c) mid root k (Some n) mmid (λ j. let p = parts j in omega (arith, p)) (subst (Around m root k) (root-forked s a n dn _ far) around) in
        let out2 = kept_hung m1 root (Some n) (Some c) k out (Some c) round1 (λ j. let p = parts j in omega (arith, p)) out1 in
        let far2 = kept_hung m1 root (Some n) (Some c) k far (Some n) round1 (λ j. let p = parts j in omega (arith, p)) far1 in
        let mid2 = kept_hung m1 root (Some n) (Some c) k mid (Some n) round1 (λ j. let p = parts j in omega (arith, p)) mid1 in
        let round2 = hung_round m1 root (Some n) (Some c) k round1 (λ j. let p = parts j in omega (arith, p)) in
        let pn = parts n in let on_ = count_self n ((cond (eqb n c) 1 0 + (count n out + count n mid)) + (count n far + count n beside)) in
        let pc = parts c in let oc = count_self c (count c out + count c mid) in
        let apart = unlike n c (omega (arith, pn, on_)) in
        let low = sided s (Some c) (root_of mid) (root_of far) b dn2 in let high = sided s (above k) (root_of out) (Some n) a dc2 in
        let out4 = kept m3 c high (Some c) out (omega (arith, pc, oc)) (kept m2 n low (Some c) out (omega (arith, pn, on_)) out2) in
        let far4 = kept m3 c high (Some n) far (omega (arith, pc, oc)) (kept m2 n low (Some n) far (omega (arith, pn, on_)) far2) in
        let mid4 = kept m3 c high (Some n) mid (omega (arith, pc, oc)) (kept m2 n low (Some n) mid (omega (arith, pn, on_)) mid2) in
        let round4 = kept_round m3 c high root2 k (Some c) (omega (arith, pc, oc)) (kept_round m2 n low root2 k (Some c) (omega (arith, pn, on_)) round2) in
        let aside1 = kept_adopted m (Some n) (Some c) mid beside None mmid (λ j. let p = parts j in omega (arith, p)) h.aside in
        let aside2 = kept_hung m1 root (Some n) (Some c) k beside None round1 (λ j. let p = parts j in omega (arith, p)) aside1 in
        let aside4 = kept m3 c high None beside (omega (arith, pc, oc)) (kept m2 n low None beside (omega (arith, pn, on_)) aside2) in
        let lower = to_forked turned_memory s (Some c) b n dn2 mid far (get-insert_other m3 c high n apart ∙ get-insert_same m2 n low) mid4 far4 in
        let whole = to_forked turned_memory s (above k) a c dc2 out (forked s b n dn2 mid far)
        (get-insert_same m3 c high ∙ ap (λ o. Some (sided s (above k) (root_of out) o a dc2)) (sym (root-forked s b n dn2 mid far))) out4 lower in
        let (from, nodes) = closed turned_memory root2 k After (subst (Around turned_memory root2 k) (sym (root-forked s a c dc2 out _)) round4) whole in
        record {
          from = from;
          nodes = nodes;
          aside = aside4;
          once = λ j. let p = parts j in let x = count-plug j k After in let y = count-forked j s a c dc2 out (forked s b n dn2 mid far) in let z = count-forked j s b n dn2 mid far in omega (arith, p, x, y, z);
        }

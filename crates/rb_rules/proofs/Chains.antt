-- A node is put in front of the tree beside a tree in memory, or is removed from its front.
use Rattle.std.proofs.Common.{◌≡◌, ℕ, ◌+◌, Bool, false, eqb, Option, Some, None, ap, ◌∙◌, arith}
use Rattle.std.specs.Ordering.{nat_cmp}
use Rattle.std.specs.FinMap as map
use Rattle.raw_arena.proofs.Names.{get-insert_same}
use Rattle.rb_rules.specs.declared.slot.Side.TheVariants.{Left}
use Rattle.rb_rules.specs.declared.slot.Slot.{Slot}
use Rattle.rb_rules.specs.Tree.{Tree, tip, fork, root_of, count}
use Rattle.rb_rules.specs.Memory.{sided, Made, adopted}
use Rattle.rb_rules.proofs.Detaching.{one_of, same_name}
use Rattle.rb_rules.proofs.Holes.{count_self}
use Rattle.rb_rules.proofs.Memories.{kept, kept_adopted, adopted_made}

module _ {D : Type 0} (m : map.FinMap nat_cmp (Slot D)) (root : Option ℕ) (t : Tree D) (i : ℕ) (d : D) where
  pub strung : {beside : Tree D} → count i t + count i beside ≡ 0 → Made beside m root t
      → Made (fork false i d tip beside) (map.insert (adopted m (root_of beside) (Some i)) i (sided Left None None (root_of beside) false d)) root t
  strung {beside} none h =
      let m1 = adopted m (root_of beside) (Some i) in let s = sided Left None None (root_of beside) false d in
      let nodes = kept_adopted m (Some i) None beside t None h.aside (λ j. let w = h.once j in omega (arith, w)) h.nodes in
      let rest = adopted_made m (Some i) None beside h.aside (λ j. let w = h.once j in omega (arith, w)) in
      record {
        from = h.from;
        nodes = kept m1 i s None t (omega (arith, none)) nodes;
        aside = (get-insert_same m1 i s, tt, kept m1 i s (Some i) beside (omega (arith, none)) rest);
        once = λ j. let w = h.once j in
            let le = one_of (eqb j i) (count j t + count j beside) w (λ same. ap (λ l. count l t + count l beside) (same_name j i same) ∙ none) in omega (arith, le);
      }

  pub unstrung : (c : Bool) (rest : Tree D) → Made (fork c i d tip rest) m root t → Made rest (adopted m (root_of rest) None) root t × (count i t + count i rest ≡ 0)
  unstrung c rest h =
      let (e, _, mr) = h.aside in let own = count_self i (0 + count i rest) in let here = h.once i in (
        record {
          from = h.from;
          nodes = kept_adopted m None (Some i) rest t None mr (λ j. let w = h.once j in omega (arith, w)) h.nodes;
          aside = adopted_made m None (Some i) rest mr (λ j. let w = h.once j in omega (arith, w));
          once = λ j. let w = h.once j in omega (arith, w);
        },
        omega (arith, own, here),
      )

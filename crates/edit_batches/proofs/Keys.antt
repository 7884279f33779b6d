-- The order of the keys by which a batch is sorted.
use Rattle.std.proofs.Common.{◌≡◌, ◌∙◌, ℕ, ◌==◌, nat_lt, nat_le, Bool, true, false, ◌&&◌, ◌||◌, not, List, [], ◌∷◌, refl, sym, inl, inr, arith}
use Rattle.std.specs.List.{IsAllAdjacentAnswer}
use Rattle.std.specs.Ordering.{is_lt, nat_cmp, ordering_then}
use Rattle.std.proofs.lemmas.Bool.{lt-ltb, le-ltb, lt-leb, le-leb, eq-eqb, ne_eqb, cases_order}
use Rattle.text_rules.specs.declared.Op.{Op}
use Rattle.batch_rules.specs.Batches.{stands_before, sorted_ops}
use Rattle.batch_rules.proofs.Order.{sorted_next, next_sorted}

by_start : (s t : ℕ) → is_lt (nat_cmp s t) ≡ not (nat_le t s)
by_start s t =
    elim (cases_order s t) [
      | inl same ↦ rw (le-ltb s t (omega arith), eq-eqb s t same, le-leb t s (omega arith)) refl
      | inr (inl less) ↦ rw (lt-ltb s t less, lt-leb t s less) refl
      | inr (inr more) ↦ rw (le-ltb s t (omega arith), ne_eqb s t (λ e. omega arith), le-leb t s (omega arith)) refl
    ]

by_end : (e f s t : ℕ) → is_lt (ordering_then (nat_cmp e f) (nat_cmp s t)) ≡ not (nat_lt f e || (f == e && nat_le t s))
by_end e f s t =
    elim (cases_order e f) [
      | inl same ↦ rw (le-ltb e f (omega arith), eq-eqb e f same, le-ltb f e (omega arith), eq-eqb f e (sym same)) (by_start s t)
      | inr (inl less) ↦ rw (lt-ltb e f less, le-ltb f e (omega arith), ne_eqb f e (λ h. omega arith)) refl
      | inr (inr more) ↦ rw (le-ltb e f (omega arith), ne_eqb e f (λ h. omega arith), lt-ltb f e more) refl
    ]

-- by end, then by start
abbrev pub is_less : Op → Op → Bool
is_less a b = is_lt (ordering_then (nat_cmp a.span.end b.span.end) (nat_cmp a.span.start b.span.start))

pub is_less_is : (a b : Op) → is_less a b ≡ not (stands_before b a)
is_less_is a b = by_end a.span.end b.span.end a.span.start b.span.start

-- a test of each op and the next one decides the order of all
pub told_in_order : (ops : List Op) (r : Bool) → IsAllAdjacentAnswer (λ a b t. t ≡ stands_before a b) ops r → r ≡ true → sorted_ops ops ≡ ops
told_in_order ops true told e = sorted_next ops (λ k d inside. sym (told k d inside))
told_in_order ops false told e = absurd (let wrong : false ≡ true = e in cc)

pub told_out_of_order : (ops : List Op) (r : Bool) → IsAllAdjacentAnswer (λ a b t. t ≡ stands_before a b) ops r → r ≡ false → sorted_ops ops ≡ ops → ⊥
told_out_of_order ops true told e sorted = let wrong : true ≡ false = e in cc
told_out_of_order [] false told e sorted = absurd (omega (arith, told.1))
told_out_of_order (op ∷ ops) false told e sorted =
    let wrong : false ≡ true = told.2 op ∙ next_sorted (op ∷ ops) sorted told.0 op told.1 in
    cc

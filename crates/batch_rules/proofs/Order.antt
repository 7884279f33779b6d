-- The order of a batch.
use Rattle.std.proofs.Common.{◌≡◌, ℕ, zero, suc, ◌+◌, ◌<◌, ◌≤◌, Bool, cond, true, false, ◌&&◌, not, get_or, List, [], ◌∷◌, length, refl, ap, sym, subst, ◌∙◌, inl, inr, arith}
use Rattle.std.specs.List.{All, filter}
use Rattle.std.specs.List.Sorted.{IsPermutation, IsSortedBy, IsStableBy, ties}
use Rattle.std.proofs.lemmas.Bool.Decides.{nat_tests}
use Rattle.std.proofs.lemmas.Bool.{lt-ltb, le-leb, eq-eqb, and_from, or_left, or_right, and_parts, both_ways, not-false, cases_lt, cases_Bool}
use Rattle.std.specs.Prelude.{⊤}
use Rattle.std.proofs.lemmas.List.Elements.{All-nil, All-cons, All-head, All-same, All-weaker, All-filter, filter_agree}
use Rattle.std.proofs.lemmas.List.Sorted.{IsPermutation-refl, IsPermutation-cons, IsPermutation-sym, IsPermutation-trans, IsPermutation-middle, All-permutation, length_permutation}
use Rattle.text_rules.specs.declared.Op.{Op}
use Rattle.batch_rules.specs.Batches.{stands_before, put_in_order, sorted_ops, StandFrom}

put_in_order_moves : (op : Op) (ops : List Op) → IsPermutation (op ∷ ops) (put_in_order op ops)
put_in_order_moves op [] = IsPermutation-refl (op ∷ [])
put_in_order_moves op (next ∷ ops) =
    elim (stands_before op next) as (λ b. IsPermutation (op ∷ next ∷ ops) (cond b (op ∷ next ∷ ops) (next ∷ put_in_order op ops))) [
      | true ↦ IsPermutation-refl (op ∷ next ∷ ops)
      | false ↦ IsPermutation-trans _ _ _
          (IsPermutation-sym _ _ (IsPermutation-middle (next ∷ []) op ops))
          (IsPermutation-cons next _ _ (put_in_order_moves op ops))
    ]

-- the sorted ops are a permutation of the ops
pub sorted_ops_move : (ops : List Op) → IsPermutation ops (sorted_ops ops)
sorted_ops_move [] = IsPermutation-refl []
sorted_ops_move (op ∷ ops) =
    IsPermutation-trans _ _ _ (IsPermutation-cons op _ _ (sorted_ops_move ops)) (put_in_order_moves op (sorted_ops ops))

pub length-sorted_ops : (ops : List Op) → length (sorted_ops ops) ≡ length ops
length-sorted_ops ops = length_permutation ops (sorted_ops ops) (sorted_ops_move ops)

pub All-sorted_ops : (P : Op → Type 0) (ops : List Op) → All P ops → All P (sorted_ops ops)
All-sorted_ops P ops all = All-permutation P ops (sorted_ops ops) (sorted_ops_move ops) all

stands_before_by : (a b : Op) → a.span.end ≤ b.span.end → a.span.start ≤ b.span.start → stands_before a b ≡ true
stands_before_by a b ends starts =
    elim (cases_lt a.span.end b.span.end) [
      | inl lower ↦ or_left _ _ (lt-ltb a.span.end b.span.end lower)
      | inr same ↦ or_right _ _ (and_from _ _ (eq-eqb a.span.end b.span.end (omega arith)) (le-leb a.span.start b.span.start starts))
    ]

-- ops that are ordered within a text are sorted
pub sorted_ops_standing : (at : ℕ) (x : List ℕ) (ops : List Op) → StandFrom at x ops → sorted_ops ops ≡ ops
sorted_ops_standing at x [] standing = refl
sorted_ops_standing at x (op ∷ []) standing = refl
sorted_ops_standing at x (op ∷ next ∷ ops) standing =
    let rest = sorted_ops_standing op.span.end x (next ∷ ops) standing.2 in
    let before = stands_before_by op next (omega (arith, standing.2.0, standing.2.1)) (omega (arith, standing.1, standing.2.0)) in
    ap (put_in_order op) rest ∙ rw before refl

-- the order of the ops: by end, then by start
at_itself : (a : Op) → stands_before a a ≡ true
at_itself a = stands_before_by a a (omega arith) (omega arith)

in_turn : (a b c : Op) → stands_before a b ≡ true → stands_before b c ≡ true → stands_before a c ≡ true
in_turn a b c ab bc = grind (arith, nat_tests)

one_way : (a b : Op) → stands_before a b ≡ false → stands_before b a ≡ true
one_way a b ab = grind (arith, nat_tests)

-- each op is before all later ones
abbrev InOrder : List Op → Type 0
InOrder [] = ⊤
InOrder (op ∷ ops) = All (λ o. stands_before op o ≡ true) ops × InOrder ops

in_order_put : (op : Op) (ops : List Op) → InOrder ops → InOrder (put_in_order op ops)
in_order_put op [] ordered = (All-nil (λ o. stands_before op o ≡ true), tt)
in_order_put op (next ∷ ops) ordered =
    elim (cases_Bool (stands_before op next)) [
      | inl before ↦
          (let later = All-weaker (λ o. stands_before next o ≡ true) (λ o. stands_before op o ≡ true) (λ o h. in_turn op next o before h) ops ordered.0 in
          rw before (All-cons (λ o. stands_before op o ≡ true) next ops before later, ordered))
      | inr behind ↦
          (let all = All-permutation (λ o. stands_before next o ≡ true) (op ∷ ops) (put_in_order op ops) (put_in_order_moves op ops) (All-cons (λ o. stands_before next o ≡ true) op ops (one_way op next behind) ordered.0) in
          rw behind (all, in_order_put op ops ordered.1))
    ]

in_order_sorted : (ops : List Op) → InOrder (sorted_ops ops)
in_order_sorted [] = tt
in_order_sorted (op ∷ ops) = in_order_put op (sorted_ops ops) (in_order_sorted ops)

-- ops with equal spans
abbrev same_place : Op → Op → Bool
same_place a b = stands_before b a && stands_before a b

alike : (a b c : Op) → same_place a b ≡ true → same_place a c ≡ true → stands_before b c ≡ true
alike a b c ab ac = in_turn b a c (and_parts _ _ ab).0 (and_parts _ _ ac).1

-- two ops can be put in front in either order with the same filtered list, unless both are kept
two_kept : (op next : Op) (ops : List Op) (a b : Bool) → (a ≡ true → b ≡ true → ⊥) → cond b (next ∷ cond a (op ∷ ops) ops) (cond a (op ∷ ops) ops) ≡ cond a (op ∷ cond b (next ∷ ops) ops) (cond b (next ∷ ops) ops)
two_kept op next ops true true apart = absurd (apart refl refl)
two_kept op next ops true false apart = refl
two_kept op next ops false true apart = refl
two_kept op next ops false false apart = refl

kept_put : (x op : Op) (ops : List Op) → filter (same_place x) (put_in_order op ops) ≡ filter (same_place x) (op ∷ ops)
kept_put x op [] = refl
kept_put x op (next ∷ ops) =
    elim (cases_Bool (stands_before op next)) [
      | inl before ↦ rw before refl
      | inr behind ↦ rw (behind, kept_put x op ops)
          (two_kept op next (filter (same_place x) ops) (same_place x op) (same_place x next) (λ a b. both_ways _ behind (alike x op next a b)))
    ]

-- ops with equal spans stay in the order of the batch
kept_sorted : (x : Op) (ops : List Op) → filter (same_place x) (sorted_ops ops) ≡ filter (same_place x) ops
kept_sorted x [] = refl
kept_sorted x (op ∷ ops) =
    kept_put x op (sorted_ops ops) ∙ ap (λ (l : List Op). cond (same_place x op) (op ∷ l) l) (kept_sorted x ops)

same_itself : (a : Op) → same_place a a ≡ true
same_itself a = and_from _ _ (at_itself a) (at_itself a)

first_kept : (a : Op) (ops : List Op) → filter (same_place a) (a ∷ ops) ≡ a ∷ filter (same_place a) ops
first_kept a ops = rw (same_itself a) refl

-- `stands_before` holds for the first op of a sorted list and the first op that a filter keeps
behind_first : (p : Op → Bool) (z y : Op) (ops rest : List Op) → InOrder (z ∷ ops) → filter p (z ∷ ops) ≡ y ∷ rest → stands_before z y ≡ true
behind_first p z y ops rest ordered e =
    let all = All-cons (λ o. stands_before z o ≡ true) z ops (at_itself z) ordered.0 in
    All-head (λ o. stands_before z o ≡ true) y rest (All-same (λ o. stands_before z o ≡ true) (y ∷ rest) (filter p (z ∷ ops)) (sym e) (All-filter p (λ o. stands_before z o ≡ true) (z ∷ ops) all))

rest_kept : (p : Bool) (y : Op) (a b : List Op) → cond p (y ∷ a) a ≡ cond p (y ∷ b) b → a ≡ b
rest_kept true y a b e = cc
rest_kept false y a b e = e

abbrev KeepAlike : List Op → List Op → Type 0
KeepAlike a b = (x : Op) → filter (same_place x) a ≡ filter (same_place x) b

-- two sorted lists are equal if filtering by each op's span gives the same ops
same_order : (a b : List Op) → InOrder a → InOrder b → KeepAlike a b → a ≡ b
same_order [] [] left right keep = refl
same_order [] (z ∷ b) left right keep = absurd (let e : [] ≡ z ∷ filter (same_place z) b = keep z ∙ first_kept z b in cc)
same_order (y ∷ a) [] left right keep = absurd (let e : y ∷ filter (same_place y) a ≡ [] = sym (first_kept y a) ∙ keep y in cc)
same_order (y ∷ a) (z ∷ b) left right keep =
    let from_y : filter (same_place y) (z ∷ b) ≡ y ∷ filter (same_place y) a = sym (keep y) ∙ first_kept y a in
    let from_z : filter (same_place z) (y ∷ a) ≡ z ∷ filter (same_place z) b = keep z ∙ first_kept z b in
    let zy = behind_first (same_place y) z y b _ right from_y in
    let yz = behind_first (same_place z) y z a _ left from_z in
    let kept : filter (same_place y) (z ∷ b) ≡ z ∷ filter (same_place y) b = rw (and_from _ _ zy yz) refl in
    let heads : z ∷ filter (same_place y) b ≡ y ∷ filter (same_place y) a = sym kept ∙ from_y in
    let same : z ≡ y = cc in
    let keep_same : KeepAlike (y ∷ a) (y ∷ b) = subst (λ o. KeepAlike (y ∷ a) (o ∷ b)) same keep in
    rw same (ap (λ l. y ∷ l) (same_order a b left.1 right.1 (λ x. rest_kept (same_place x y) y _ _ (keep_same x))))

-- each op is before the next one
abbrev pub StandNext : List Op → Type 0
StandNext ops = (k : ℕ) (d : Op) → k + 1 < length ops → stands_before (get_or ops k d) (get_or ops (k + 1) d) ≡ true

in_order_from : (ops : List Op) → StandNext ops → InOrder ops
in_order_from [] next = tt
in_order_from (op ∷ []) next = (All-nil (λ o. stands_before op o ≡ true), tt)
in_order_from (op ∷ then ∷ ops) next =
    let later : StandNext (then ∷ ops) = λ k d inside.
    (let same : suc k + 1 ≡ suc (k + 1) = omega arith in
    subst (λ (n : ℕ). stands_before (get_or (then ∷ ops) k d) (get_or (op ∷ then ∷ ops) n d) ≡ true) same (next (suc k) d (omega arith))) in
    let rest = in_order_from (then ∷ ops) later in
    let before : stands_before op then ≡ true = next 0 op (omega arith) in (
      All-cons (λ o. stands_before op o ≡ true) then ops before
          (All-weaker (λ o. stands_before then o ≡ true) (λ o. stands_before op o ≡ true) (λ o h. in_turn op then o before h) ops rest.0),
      rest,
    )

next_from : (ops : List Op) → InOrder ops → StandNext ops
next_from [] ordered k d inside = absurd (omega arith)
next_from (op ∷ []) ordered k d inside = absurd (omega arith)
next_from (op ∷ next ∷ ops) ordered zero d inside = All-head (λ o. stands_before op o ≡ true) next ops ordered.0
next_from (op ∷ next ∷ ops) ordered (suc k) d inside =
    let same : suc (k + 1) ≡ suc k + 1 = omega arith in
    subst (λ (n : ℕ). stands_before (get_or (next ∷ ops) k d) (get_or (op ∷ next ∷ ops) n d) ≡ true) same (next_from (next ∷ ops) ordered.1 k d (omega arith))

sorted_in_order : (ops : List Op) → InOrder ops → sorted_ops ops ≡ ops
sorted_in_order [] ordered = refl
sorted_in_order (op ∷ []) ordered = refl
sorted_in_order (op ∷ next ∷ ops) ordered =
    let before : stands_before op next ≡ true = All-head (λ o. stands_before op o ≡ true) next ops ordered.0 in
    ap (put_in_order op) (sorted_in_order (next ∷ ops) ordered.1) ∙ rw before refl

-- ops are sorted exactly if each is before the next one
pub sorted_next : (ops : List Op) → StandNext ops → sorted_ops ops ≡ ops
sorted_next ops next = sorted_in_order ops (in_order_from ops next)

pub next_sorted : (ops : List Op) → sorted_ops ops ≡ ops → StandNext ops
next_sorted ops sorted = next_from ops (subst InOrder sorted (in_order_sorted ops))

-- sorting twice equals sorting once
pub sorted_ops_again : (ops : List Op) → sorted_ops (sorted_ops ops) ≡ sorted_ops ops
sorted_ops_again ops = sorted_in_order (sorted_ops ops) (in_order_sorted ops)

not_twice : (b : Bool) → not (not b) ≡ b
not_twice true = refl
not_twice false = refl

-- a stable sort by this order gives the order of the batch
pub sorted_ops_by : (lt : Op → Op → Bool) → ((a b : Op) → lt a b ≡ not (stands_before b a)) → (ops sorted : List Op) → IsSortedBy lt sorted → IsStableBy lt ops sorted → sorted ≡ sorted_ops ops
sorted_ops_by lt says ops sorted ascends stable =
    let next : StandNext sorted = λ k d inside. not-false _ (sym (says (get_or sorted (k + 1) d) (get_or sorted k d)) ∙ ascends k d (omega arith) inside) in
    let tied : (x y : Op) → ties lt x y ≡ same_place x y = λ x y. rw (says x y, says y x, not_twice (stands_before y x), not_twice (stands_before x y)) refl in
    same_order sorted (sorted_ops ops) (in_order_from sorted next) (in_order_sorted ops)
    (λ x.
    sym (filter_agree (ties lt x) (same_place x) (tied x) sorted) ∙ stable x ∙ filter_agree (ties lt x) (same_place x) (tied x) ops
    ∙ sym (kept_sorted x ops))

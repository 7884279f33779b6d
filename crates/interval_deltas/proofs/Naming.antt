-- The node of an id after a change of the entries.
use Rattle.std.proofs.Common.{◌≡◌, ℕ, ◌+◌, ◌<◌, ◌≤◌, zero, suc, true, false, cond, ltb, eqb, inl, inr, List, [], ◌∷◌, length, get_or, set, take, drop, Option, None, Some, refl, sym, ◌∙◌, ap, subst, arith}
use Rattle.std.specs.Prelude.{is_some, IsSome}
use Rattle.std.specs.List.{count_by, All, AllWithin, insert, filter}
use Rattle.std.proofs.lemmas.Bool.{false≢true, cond-true, cond-false, ne_eqb, eq-eqb, eqb-true, ltb-true, ltb-false, cases_Bool, both_ways}
use Rattle.std.proofs.lemmas.List.{length-set, get_or-set_same, get_or-set_other}
use Rattle.std.proofs.lemmas.List.Kept.{AllPairs-cons}
use Rattle.std.proofs.lemmas.List.Elements.{All-append, All-cons, All-drop, All-take}
use Rattle.std.proofs.lemmas.List.Sums.{sum_by-cons, sum_by-set, sum_by-insert}
use Rattle.interval_deltas.specs.declared.names.Entry.{Entry}
use Rattle.interval_deltas.specs.Names.{node_of, HasNode, IsById, StandsAt, BelongsAt, is_named}

later_ids : (x : Entry) (xs : List Entry) → IsById (x ∷ xs) → All (λ e. x.id < e.id) xs
later_ids x xs by_id k d below = by_id zero (suc k) d (omega arith) (omega arith)

tail_ids : (x : Entry) (xs : List Entry) → IsById (x ∷ xs) → IsById xs
tail_ids x xs by_id i j d lt below = by_id (suc i) (suc j) d (omega arith) (omega arith)

step_same : (x : Entry) (xs : List Entry) (id : ℕ) → id ≡ x.id → node_of (x ∷ xs) id ≡ x.node
step_same x xs id same = cond-true (eqb id x.id) x.node (node_of xs id) (eq-eqb id x.id same)

step_other : (x : Entry) (xs : List Entry) (id : ℕ) → (id ≡ x.id → ⊥) → node_of (x ∷ xs) id ≡ node_of xs id
step_other x xs id apart = cond-false (eqb id x.id) x.node (node_of xs id) (ne_eqb id x.id apart)

-- the node of the entry at the index
pub node_at : (es : List Entry) (id at : ℕ) (d : Entry) → IsById es → at < length es → (get_or es at d).id ≡ id → node_of es id ≡ (get_or es at d).node
node_at [] id at d by_id below same = absurd (omega arith)
node_at (x ∷ xs) id zero d by_id below same = step_same x xs id (sym same)
node_at (x ∷ xs) id (suc at) d by_id below same =
    step_other x xs id (λ here. absurd (omega (arith, here, same, later_ids x xs by_id at d (omega arith)))) ∙ node_at xs id at d (tail_ids x xs by_id) (omega arith) same

pub node_none : (es : List Entry) (id : ℕ) → All (λ e. e.id ≡ id → ⊥) es → node_of es id ≡ None
node_none [] id apart = refl
node_none (x ∷ xs) id apart = step_other x xs id (λ here. apart zero x (omega arith) (sym here)) ∙ node_none xs id (λ k d below. apart (suc k) d (omega arith))

-- an entry that comes before the changed one
pub past_other : (k id other : ℕ) (own rest : Option ℕ) (node : Option ℕ) → (other ≡ id → ⊥)
    → cond (eqb k other) own (cond (eqb k id) node rest) ≡ cond (eqb k id) node (cond (eqb k other) own rest)
past_other k id other own rest node apart = elim (cases_Bool (eqb k other)) [
  | inl here ↦
      let away : eqb k id ≡ false = ne_eqb k id (λ same. apart (sym (eqb-true k other here) ∙ same)) in
      cond-true (eqb k other) own (cond (eqb k id) node rest) here ∙ sym (cond-true (eqb k other) own rest here) ∙ sym (cond-false (eqb k id) node (cond (eqb k other) own rest) away)
  | inr not_here ↦
      cond-false (eqb k other) own (cond (eqb k id) node rest) not_here ∙ ap (cond (eqb k id) node) (sym (cond-false (eqb k other) own rest not_here))
]

-- another entry of the same id in its place
pub has_set : (es : List Entry) (at : ℕ) (e d : Entry) → IsById es → at < length es → (get_or es at d).id ≡ e.id → HasNode es (set es at e) e.id e.node
has_set [] at e d by_id below same k = absurd (omega arith)
has_set (x ∷ xs) zero e d by_id below same k = elim (cases_Bool (eqb k e.id)) [
  | inl here ↦ cond-true (eqb k e.id) e.node (node_of xs k) here ∙ sym (cond-true (eqb k e.id) e.node (node_of (x ∷ xs) k) here)
  | inr away ↦
      cond-false (eqb k e.id) e.node (node_of xs k) away
      ∙ sym (step_other x xs k (λ is. both_ways (eqb k e.id) away (eq-eqb k e.id (is ∙ same))))
      ∙ sym (cond-false (eqb k e.id) e.node (node_of (x ∷ xs) k) away)
]
has_set (x ∷ xs) (suc at) e d by_id below same k =
    ap (cond (eqb k x.id) x.node) (has_set xs at e d (tail_ids x xs by_id) (omega arith) same k)
    ∙ past_other k e.id x.id x.node (node_of xs k) e.node (λ is. absurd (omega (arith, is, same, later_ids x xs by_id at d (omega arith))))

-- a new entry after those with lower ids
pub has_insert : (es : List Entry) (at : ℕ) (e : Entry) → AllWithin (λ other. other.id < e.id) es 0 at → at ≤ length es → HasNode es (insert es at e) e.id e.node
has_insert es zero e lower within k = refl
has_insert [] (suc at) e lower within k = refl
has_insert (x ∷ xs) (suc at) e lower within k =
    ap (cond (eqb k x.id) x.node) (has_insert xs at e (λ i d low high. lower (suc i) d (omega arith) (omega arith)) (omega arith) k)
    ∙ past_other k e.id x.id x.node (node_of xs k) e.node (λ is. absurd (omega (arith, is, lower zero x (omega arith) (omega arith))))

pub IsById-insert : (es : List Entry) (at : ℕ) (e : Entry) → IsById es → AllWithin (λ other. other.id < e.id) es 0 at → AllWithin (λ other. e.id < other.id) es at (length es) → at ≤ length es → IsById (insert es at e)
IsById-insert es zero e by_id lower higher within = AllPairs-cons (λ (a b : Entry). a.id < b.id) e es (λ k d below. higher k d (omega arith) below) by_id
IsById-insert [] (suc at) e by_id lower higher within = absurd (omega arith)
IsById-insert (x ∷ xs) (suc at) e by_id lower higher within =
    AllPairs-cons (λ (a b : Entry). a.id < b.id) x (insert xs at e)
    (All-append (λ other. x.id < other.id) (take at xs) (e ∷ drop at xs) (All-take (λ other. x.id < other.id) at xs (later_ids x xs by_id))
    (All-cons (λ other. x.id < other.id) e (drop at xs) (lower zero x (omega arith) (omega arith)) (All-drop (λ other. x.id < other.id) at xs (later_ids x xs by_id))))
    (IsById-insert xs at e (tail_ids x xs by_id) (λ i d low high. lower (suc i) d (omega arith) (omega arith)) (λ i d low high. higher (suc i) d (omega arith) (omega arith)) (omega arith))

none_of : (o : Option ℕ) → is_some o ≡ false → o ≡ None
none_of None e = refl
none_of (Some n) e = absurd (both_ways true e refl)

-- the entries without a node are removed
pub node-named : (es : List Entry) (id : ℕ) → IsById es → node_of (filter is_named es) id ≡ node_of es id
node-named [] id by_id = refl
node-named (x ∷ xs) id by_id = elim (cases_Bool (is_named x)) [
  | inl named ↦
      ap (λ l. node_of l id) (cond-true (is_named x) (x ∷ filter is_named xs) (filter is_named xs) named) ∙ ap (cond (eqb id x.id) x.node) (node-named xs id (tail_ids x xs by_id))
  | inr dead ↦
      ap (λ l. node_of l id) (cond-false (is_named x) (x ∷ filter is_named xs) (filter is_named xs) dead)
      ∙ node-named xs id (tail_ids x xs by_id)
      ∙ elim (cases_Bool (eqb id x.id)) [
        | inl here ↦
            node_none xs id (λ k d below is. absurd (omega (arith, is, eqb-true id x.id here, later_ids x xs by_id k d below)))
            ∙ sym (none_of x.node dead) ∙ sym (cond-true (eqb id x.id) x.node (node_of xs id) here)
        | inr away ↦ sym (cond-false (eqb id x.id) x.node (node_of xs id) away)
      ]
]

-- no entry has the id
pub none_belongs : (es : List Entry) (id at : ℕ) → BelongsAt es id at → node_of es id ≡ None
none_belongs es id at belongs = node_none es id (λ k d below is. elim (cases_Bool (ltb k at)) [
  | inl lower ↦ absurd (omega (arith, is, belongs.1 k d (omega arith) (ltb-true k at lower)))
  | inr higher ↦ absurd (omega (arith, is, belongs.2 k d (ltb-false k at higher) below))
])

-- an id without an entry loses its node
pub has_none : (es : List Entry) (id at : ℕ) → BelongsAt es id at → HasNode es es id None
has_none es id at belongs k = elim (cases_Bool (eqb k id)) [
  | inl here ↦ ap (node_of es) (eqb-true k id here) ∙ none_belongs es id at belongs ∙ sym (cond-true (eqb k id) None (node_of es k) here)
  | inr away ↦ sym (cond-false (eqb k id) None (node_of es k) away)
]

pub has_swept : (old es : List Entry) (id : ℕ) (own : Option ℕ) → IsById es → HasNode old es id own → HasNode old (filter is_named es) id own
has_swept old es id own by_id has k = node-named es k by_id ∙ has k

-- the ids are unchanged
pub IsById-set : (es : List Entry) (at : ℕ) (e : Entry) → IsById es → at < length es → ((d : Entry) → (get_or es at d).id ≡ e.id) → IsById (set es at e)
IsById-set es at e by_id below same i j d lt high =
    let long : j < length es = omega (arith, length-set es at e) in
    let own : (k : ℕ) → k < length es → (get_or (set es at e) k d).id ≡ (get_or es k d).id = λ k k_in. elim (cases_Bool (eqb k at)) [
      | inl here ↦ subst (λ n. (get_or (set es at e) n d).id ≡ (get_or es n d).id) (sym (eqb-true k at here)) (ap (λ (x : Entry). x.id) (get_or-set_same es at e d below) ∙ sym (same d))
      | inr away ↦ ap (λ (x : Entry). x.id) (get_or-set_other es at k e d (λ is. both_ways (eqb k at) away (eq-eqb k at is)))
    ] in
    omega (arith, own i (omega arith), own j long, by_id i j d lt long)

-- The number of entries with a node.

count_cons : (x : Entry) (xs : List Entry) → count_by is_named (x ∷ xs) ≡ cond (is_named x) 1 0 + count_by is_named xs
count_cons x xs = sum_by-cons (λ (e : Entry). cond (is_named e) 1 0) x xs

pub count-swept : (es : List Entry) → count_by is_named (filter is_named es) ≡ count_by is_named es
count-swept [] = refl
count-swept (x ∷ xs) = elim (cases_Bool (is_named x)) [
  | inl named ↦
      let here : ◌≡◌ {A = ℕ} (cond (is_named x) 1 0) 1 = cond-true (is_named x) 1 0 named in
      ap (count_by is_named) (cond-true (is_named x) (x ∷ filter is_named xs) (filter is_named xs) named)
      ∙ omega (arith, count_cons x (filter is_named xs), count_cons x xs, here, count-swept xs)
  | inr dead ↦
      let here : ◌≡◌ {A = ℕ} (cond (is_named x) 1 0) 0 = cond-false (is_named x) 1 0 dead in
      ap (count_by is_named) (cond-false (is_named x) (x ∷ filter is_named xs) (filter is_named xs) dead)
      ∙ omega (arith, count_cons x xs, here, count-swept xs)
]

pub length-swept : (es : List Entry) → length (filter is_named es) ≡ count_by is_named es
length-swept [] = refl
length-swept (x ∷ xs) = elim (cases_Bool (is_named x)) [
  | inl named ↦
      let here : ◌≡◌ {A = ℕ} (cond (is_named x) 1 0) 1 = cond-true (is_named x) 1 0 named in
      ap length (cond-true (is_named x) (x ∷ filter is_named xs) (filter is_named xs) named)
      ∙ omega (arith, count_cons x xs, here, length-swept xs)
  | inr dead ↦
      let here : ◌≡◌ {A = ℕ} (cond (is_named x) 1 0) 0 = cond-false (is_named x) 1 0 dead in
      ap length (cond-false (is_named x) (x ∷ filter is_named xs) (filter is_named xs) dead)
      ∙ omega (arith, count_cons x xs, here, length-swept xs)
]

pub count-set : (es : List Entry) (at : ℕ) (e d : Entry) → at < length es
    → count_by is_named (set es at e) + cond (is_named (get_or es at d)) 1 0 ≡ count_by is_named es + cond (is_named e) 1 0
count-set es at e d below = sum_by-set (λ (x : Entry). cond (is_named x) 1 0) es at e d below

pub count-insert : (es : List Entry) (at : ℕ) (e : Entry) → count_by is_named (insert es at e) ≡ count_by is_named es + cond (is_named e) 1 0
count-insert es at e = sum_by-insert (λ (x : Entry). cond (is_named x) 1 0) es at e

named_one : (o : Option ℕ) → IsSome o → ◌≡◌ {A = ℕ} (cond (is_some o) 1 0) 1
named_one None some = absurd (false≢true some)
named_one (Some n) some = refl

named_none : (o : Option ℕ) → o ≡ None → ◌≡◌ {A = ℕ} (cond (is_some o) 1 0) 0
named_none o none = ap (λ (p : Option ℕ). cond (is_some p) 1 0) none

pub count-put : (es : List Entry) (id at node : ℕ) → IsById es → StandsAt es id at → node_of es id ≡ None
    → count_by is_named (set es at (record { id = id; node = Some node })) ≡ count_by is_named es + 1
count-put es id at node by_id stands none =
    let e : Entry = record { id = id; node = Some node } in
    omega (arith, count-set es at e e stands.0, named_none (get_or es at e).node (sym (node_at es id at e by_id stands.0 (stands.1 e)) ∙ none))

pub count-forget : (es : List Entry) (id at : ℕ) → IsById es → StandsAt es id at → IsSome (node_of es id)
    → count_by is_named (set es at (record { id = id; node = None })) + 1 ≡ count_by is_named es
count-forget es id at by_id stands some =
    let e : Entry = record { id = id; node = None } in
    omega (arith, count-set es at e e stands.0, named_one (get_or es at e).node (subst IsSome (node_at es id at e by_id stands.0 (stands.1 e)) some))

-- Members and order of a list of decorations after one is inserted, some are removed, or all are moved.
use Rattle.std.proofs.Common.{◌≡◌, ℕ, Bool, true, false, not, ◌||◌, eqb, ◌⊎◌, inl, inr, List, [], ◌∷◌, ◌++◌, map, refl, sym, ◌∙◌, ap, subst, suc, length, Some, None}
use Rattle.std.specs.Prelude.{filter}
use Rattle.std.specs.List.{list_any, list_all, All}
use Rattle.std.proofs.lemmas.Bool.{or_parts, and_parts, and_from, ne_eqb, eq-eqb, both_ways, cond_both, cond-true, cond-false}
use Rattle.decoration_rules.specs.declared.Edit.{Edit}
use Rattle.decoration_rules.specs.declared.Mark.{Mark}
use Rattle.decoration_rules.specs.Moves.{moved_mark, moved_by_all}
use Rattle.decoration_rules.specs.Marks.{stands_before, put_in_order, in_order, carried, IsInOrder, has_id, is_live, mark_of, HasDistinctIds, without}
use Rattle.decoration_rules.proofs.OrderLemmas.{Has, HaveSame, All-has, has-All, list_all-at, list_all-from, list_any-at, list_any-none, stands_before-trans, stands_before-total, IsInOrder-unique}

-- Insertion of one decoration.

pub Has-put : (m : Mark) (xs : List Mark) (q : Mark) → Has (m ∷ xs) q → Has (put_in_order m xs) q
Has-put m [] q has = has
Has-put m (x ∷ xs) q has = cond_both (stands_before m x) (m ∷ x ∷ xs) (x ∷ put_in_order m xs) (λ (ms : List Mark). Has ms q)
    (λ _. has)
    (λ _. elim has [
      | inl here ↦ inr (Has-put m xs q (inl here))
      | inr there ↦ elim there [ inl next ↦ inl next | inr later ↦ inr (Has-put m xs q (inr later)) ]
    ])

pub Has-from_put : (m : Mark) (xs : List Mark) (q : Mark) → Has (put_in_order m xs) q → Has (m ∷ xs) q
Has-from_put m [] q has = has
Has-from_put m (x ∷ xs) q has =
    cond_both (stands_before m x) (m ∷ x ∷ xs) (x ∷ put_in_order m xs) (λ (ms : List Mark). Has ms q → Has (m ∷ x ∷ xs) q)
    (λ _ has. has)
    (λ _ has. elim has [
      | inl next ↦ inr (inl next)
      | inr later ↦ elim (Has-from_put m xs q later) [ inl here ↦ inl here | inr there ↦ inr (inr there) ]
    ])
    has

pub list_all-put : (p : Mark → Bool) (m : Mark) (xs : List Mark) → p m ≡ true → list_all p xs ≡ true → list_all p (put_in_order m xs) ≡ true
list_all-put p m xs one all = list_all-from p (put_in_order m xs) (λ q has. elim (Has-from_put m xs q has) [
  | inl here ↦ subst (λ (k : Mark). p k ≡ true) here one
  | inr there ↦ list_all-at p xs q all there
])

apart_ids : (m x : Mark) (xs : List Mark) → is_live (x ∷ xs) m.id ≡ false → eqb m.id x.id ≡ false
apart_ids m x xs fresh = ne_eqb m.id x.id (λ same. both_ways (has_id m.id x) (or_parts (has_id m.id x) (is_live xs m.id) fresh).0 (eq-eqb x.id m.id (sym same)))

pub IsInOrder-put : (m : Mark) (xs : List Mark) → is_live xs m.id ≡ false → IsInOrder xs → IsInOrder (put_in_order m xs)
IsInOrder-put m [] fresh ordered = (refl, tt)
IsInOrder-put m (x ∷ xs) fresh ordered =
    cond_both (stands_before m x) (m ∷ x ∷ xs) (x ∷ put_in_order m xs) IsInOrder
    (λ before. (
      and_from (stands_before m x) (list_all (stands_before m) xs) before
          (list_all-from (stands_before m) xs (λ q has. stands_before-trans m x q before (list_all-at (stands_before x) xs q ordered.0 has))),
      ordered,
    ))
    (λ not_before. (
      list_all-put (stands_before x) m xs (stands_before-total m x (apart_ids m x xs fresh) not_before) ordered.0,
      IsInOrder-put m xs (or_parts (has_id m.id x) (is_live xs m.id) fresh).1 ordered.1,
    ))

-- Insertion of all decorations: the sort.

pub Has-in_order : (xs : List Mark) (q : Mark) → Has xs q → Has (in_order xs) q
Has-in_order [] q has = has
Has-in_order (x ∷ xs) q has = Has-put x (in_order xs) q (elim has [ inl here ↦ inl here | inr there ↦ inr (Has-in_order xs q there) ])

pub Has-from_in_order : (xs : List Mark) (q : Mark) → Has (in_order xs) q → Has xs q
Has-from_in_order [] q has = has
Has-from_in_order (x ∷ xs) q has = elim (Has-from_put x (in_order xs) q has) [ inl here ↦ inl here | inr there ↦ inr (Has-from_in_order xs q there) ]

pub is_live-same : (xs ys : List Mark) (id : ℕ) → HaveSame xs ys → is_live xs id ≡ false → is_live ys id ≡ false
is_live-same xs ys id same none = list_any-none (has_id id) ys (λ q has. list_any-at (has_id id) xs q none (same.from q has))

pub HaveSame-in_order : (xs : List Mark) → HaveSame xs (in_order xs)
HaveSame-in_order xs = record { to = Has-in_order xs; from = Has-from_in_order xs }

pub HaveSame-sym : (xs ys : List Mark) → HaveSame xs ys → HaveSame ys xs
HaveSame-sym xs ys same = record { to = same.from; from = same.to }

pub HaveSame-trans : (xs ys zs : List Mark) → HaveSame xs ys → HaveSame ys zs → HaveSame xs zs
HaveSame-trans xs ys zs first second = record { to = λ q has. second.to q (first.to q has); from = λ q has. first.from q (second.from q has) }

pub IsInOrder-in_order : (xs : List Mark) → HasDistinctIds xs → IsInOrder (in_order xs)
IsInOrder-in_order [] distinct = tt
IsInOrder-in_order (x ∷ xs) distinct = IsInOrder-put x (in_order xs) (is_live-same xs (in_order xs) x.id (HaveSame-in_order xs) distinct.0) (IsInOrder-in_order xs distinct.1)

-- a property of all members of a list holds for all members of the sorted list
pub All-in_order : (P : Mark → Type 0) (xs : List Mark) → All P xs → All P (in_order xs)
All-in_order P xs all = All-has P (in_order xs) (λ q has. has-All P xs q all (Has-from_in_order xs q has))

pub All-from_in_order : (P : Mark → Type 0) (xs : List Mark) → All P (in_order xs) → All P xs
All-from_in_order P xs all = All-has P xs (λ q has. has-All P (in_order xs) q all (Has-in_order xs q has))

pub length-put_in_order : (m : Mark) (xs : List Mark) → length (put_in_order m xs) ≡ suc (length xs)
length-put_in_order m [] = refl
length-put_in_order m (x ∷ xs) = cond_both (stands_before m x) (m ∷ x ∷ xs) (x ∷ put_in_order m xs) (λ (ms : List Mark). length ms ≡ suc (length (x ∷ xs)))
    (λ _. refl) (λ _. ap suc (length-put_in_order m xs))

pub length-in_order : (xs : List Mark) → length (in_order xs) ≡ length xs
length-in_order [] = refl
length-in_order (x ∷ xs) = length-put_in_order x (in_order xs) ∙ ap suc (length-in_order xs)

-- a list in order with the same members is the sorted list
pub in_order-unique : (xs ys : List Mark) → HasDistinctIds xs → IsInOrder ys → HaveSame xs ys → ys ≡ in_order xs
in_order-unique xs ys distinct ordered same =
    IsInOrder-unique ys (in_order xs) ordered (IsInOrder-in_order xs distinct) (HaveSame-trans ys xs (in_order xs) (HaveSame-sym xs ys same) (HaveSame-in_order xs))

pub in_order-same : (xs ys : List Mark) → HasDistinctIds xs → HasDistinctIds ys → HaveSame xs ys → in_order xs ≡ in_order ys
in_order-same xs ys distinct_xs distinct_ys same =
    in_order-unique ys (in_order xs) distinct_ys (IsInOrder-in_order xs distinct_xs) (HaveSame-trans ys xs (in_order xs) (HaveSame-sym xs ys same) (HaveSame-in_order xs))

-- sorting does not change a list in order
pub in_order-ordered : (xs : List Mark) → IsInOrder xs → in_order xs ≡ xs
in_order-ordered [] ordered = refl
in_order-ordered (x ∷ []) ordered = refl
in_order-ordered (x ∷ y ∷ xs) ordered =
    ap (put_in_order x) (in_order-ordered (y ∷ xs) ordered.1)
    ∙ cond-true (stands_before x y) (x ∷ y ∷ xs) (y ∷ put_in_order x xs) (and_parts (stands_before x y) (list_all (stands_before x) xs) ordered.0).0

-- Ids.

pub Has-from_append : (xs : List Mark) (m q : Mark) → Has (xs ++ m ∷ []) q → Has xs q ⊎ (m ≡ q)
Has-from_append [] m q has = elim has [ inl here ↦ inr here | inr there ↦ absurd there ]
Has-from_append (x ∷ xs) m q has = elim has [
  | inl here ↦ inl (inl here)
  | inr there ↦ elim (Has-from_append xs m q there) [ inl before ↦ inl (inr before) | inr last ↦ inr last ]
]

pub Has-append : (xs : List Mark) (m q : Mark) → Has xs q ⊎ (m ≡ q) → Has (xs ++ m ∷ []) q
Has-append [] m q has = elim has [ inl there ↦ absurd there | inr here ↦ inl here ]
Has-append (x ∷ xs) m q has = elim has [
  | inl there ↦ elim there [ inl here ↦ inl here | inr later ↦ inr (Has-append xs m q (inl later)) ]
  | inr last ↦ inr (Has-append xs m q (inr last))
]

pub distinct_put : (m : Mark) (xs : List Mark) → is_live xs m.id ≡ false → HasDistinctIds xs → HasDistinctIds (put_in_order m xs)
distinct_put m [] fresh distinct = (refl, tt)
distinct_put m (x ∷ xs) fresh distinct =
    cond_both (stands_before m x) (m ∷ x ∷ xs) (x ∷ put_in_order m xs) HasDistinctIds
    (λ _. (fresh, distinct))
    (λ _. (
      list_any-none (has_id x.id) (put_in_order m xs) (λ q has. elim (Has-from_put m xs q has) [
        | inl here ↦ subst (λ (k : Mark). has_id x.id k ≡ false) here (apart_ids m x xs fresh)
        | inr there ↦ list_any-at (has_id x.id) xs q distinct.0 there
      ]),
      distinct_put m xs (or_parts (has_id m.id x) (is_live xs m.id) fresh).1 distinct.1,
    ))

pub distinct_in_order : (xs : List Mark) → HasDistinctIds xs → HasDistinctIds (in_order xs)
distinct_in_order [] distinct = tt
distinct_in_order (x ∷ xs) distinct = distinct_put x (in_order xs) (is_live-same xs (in_order xs) x.id (HaveSame-in_order xs) distinct.0) (distinct_in_order xs distinct.1)

pub distinct_append : (xs : List Mark) (m : Mark) → is_live xs m.id ≡ false → HasDistinctIds xs → HasDistinctIds (xs ++ m ∷ [])
distinct_append [] m fresh distinct = (refl, tt)
distinct_append (x ∷ xs) m fresh distinct = (
  list_any-none (has_id x.id) (xs ++ m ∷ []) (λ q has. elim (Has-from_append xs m q has) [
    | inl there ↦ list_any-at (has_id x.id) xs q distinct.0 there
    | inr here ↦ subst (λ (k : Mark). has_id x.id k ≡ false) here (apart_ids m x xs fresh)
  ]),
  distinct_append xs m (or_parts (has_id m.id x) (is_live xs m.id) fresh).1 distinct.1,
)

-- sorting a list with one more mark at the end inserts that mark into the sorted list
pub in_order-append : (xs : List Mark) (m : Mark) → HasDistinctIds xs → is_live xs m.id ≡ false → in_order (xs ++ m ∷ []) ≡ put_in_order m (in_order xs)
in_order-append xs m distinct fresh =
    sym (in_order-unique (xs ++ m ∷ []) (put_in_order m (in_order xs)) (distinct_append xs m fresh distinct)
    (IsInOrder-put m (in_order xs) (is_live-same xs (in_order xs) m.id (HaveSame-in_order xs) fresh) (IsInOrder-in_order xs distinct))
    (record {
      to = λ q has. Has-put m (in_order xs) q (elim (Has-from_append xs m q has) [ inl there ↦ inr (Has-in_order xs q there) | inr here ↦ inl here ]);
      from = λ q has. Has-append xs m q (elim (Has-from_put m (in_order xs) q has) [ inl here ↦ inr here | inr there ↦ inl (Has-from_in_order xs q there) ]);
    }))

-- Removal of decorations.

pub Has-filter : (p : Mark → Bool) (xs : List Mark) (q : Mark) → Has xs q → p q ≡ true → Has (filter p xs) q
Has-filter p [] q has pass = absurd has
Has-filter p (x ∷ xs) q has pass = elim has [
  | inl here ↦ subst (λ (ms : List Mark). Has ms q) (sym (cond-true (p x) (x ∷ filter p xs) (filter p xs) (subst (λ (m : Mark). p m ≡ true) (sym here) pass))) (inl here)
  | inr there ↦ cond_both (p x) (x ∷ filter p xs) (filter p xs) (λ (ms : List Mark). Has ms q)
      (λ _. inr (Has-filter p xs q there pass)) (λ _. Has-filter p xs q there pass)
]

pub Has-from_filter : (p : Mark → Bool) (xs : List Mark) (q : Mark) → Has (filter p xs) q → Has xs q × (p q ≡ true)
Has-from_filter p [] q has = absurd has
Has-from_filter p (x ∷ xs) q has =
    cond_both (p x) (x ∷ filter p xs) (filter p xs) (λ (ms : List Mark). Has ms q → Has (x ∷ xs) q × (p q ≡ true))
    (λ pass has. elim has [
      | inl here ↦ (inl here, subst (λ (m : Mark). p m ≡ true) here pass)
      | inr there ↦ later (Has-from_filter p xs q there)
    ])
    (λ _ has. later (Has-from_filter p xs q has))
    has
  where
    later : Has xs q × (p q ≡ true) → Has (x ∷ xs) q × (p q ≡ true)
    later h = (inr h.0, h.1)

pub list_all-filter : (p r : Mark → Bool) (xs : List Mark) → list_all r xs ≡ true → list_all r (filter p xs) ≡ true
list_all-filter p r xs all = list_all-from r (filter p xs) (λ q has. list_all-at r xs q all (Has-from_filter p xs q has).0)

pub list_any-filter : (p r : Mark → Bool) (xs : List Mark) → list_any r xs ≡ false → list_any r (filter p xs) ≡ false
list_any-filter p r xs none = list_any-none r (filter p xs) (λ q has. list_any-at r xs q none (Has-from_filter p xs q has).0)

pub IsInOrder-filter : (p : Mark → Bool) (xs : List Mark) → IsInOrder xs → IsInOrder (filter p xs)
IsInOrder-filter p [] ordered = tt
IsInOrder-filter p (x ∷ xs) ordered =
    cond_both (p x) (x ∷ filter p xs) (filter p xs) IsInOrder
    (λ _. (list_all-filter p (stands_before x) xs ordered.0, IsInOrder-filter p xs ordered.1))
    (λ _. IsInOrder-filter p xs ordered.1)

pub distinct_filter : (p : Mark → Bool) (xs : List Mark) → HasDistinctIds xs → HasDistinctIds (filter p xs)
distinct_filter p [] distinct = tt
distinct_filter p (x ∷ xs) distinct =
    cond_both (p x) (x ∷ filter p xs) (filter p xs) HasDistinctIds
    (λ _. (list_any-filter p (has_id x.id) xs distinct.0, distinct_filter p xs distinct.1))
    (λ _. distinct_filter p xs distinct.1)

pub in_order-filter : (p : Mark → Bool) (xs : List Mark) → HasDistinctIds xs → filter p (in_order xs) ≡ in_order (filter p xs)
in_order-filter p xs distinct = in_order-unique (filter p xs) (filter p (in_order xs)) (distinct_filter p xs distinct)
    (IsInOrder-filter p (in_order xs) (IsInOrder-in_order xs distinct))
    (record {
      to = λ q has. let there : Has xs q × (p q ≡ true) = Has-from_filter p xs q has in Has-filter p (in_order xs) q (Has-in_order xs q there.0) there.1;
      from = λ q has. let there : Has (in_order xs) q × (p q ≡ true) = Has-from_filter p (in_order xs) q has in Has-filter p xs q (Has-from_in_order xs q there.0) there.1;
    })

pub without-none : (id : ℕ) (xs : List Mark) → is_live xs id ≡ false → without id xs ≡ xs
without-none id [] none = refl
without-none id (x ∷ xs) none =
    cond-true (not (has_id id x)) (x ∷ without id xs) (without id xs) (ap not (or_parts (has_id id x) (is_live xs id) none).0)
    ∙ ap (λ ms. x ∷ ms) (without-none id xs (or_parts (has_id id x) (is_live xs id) none).1)

-- Change of all decorations.

pub Has-map : (f : Mark → Mark) (xs : List Mark) (q : Mark) → Has xs q → Has (map f xs) (f q)
Has-map f [] q has = absurd has
Has-map f (x ∷ xs) q has = elim has [ inl here ↦ inl (ap f here) | inr there ↦ inr (Has-map f xs q there) ]

pub Has-from_map : (f : Mark → Mark) (xs : List Mark) (q : Mark) → Has (map f xs) q → (m : Mark) × Has xs m × (f m ≡ q)
Has-from_map f [] q has = absurd has
Has-from_map f (x ∷ xs) q has = elim has [
  | inl here ↦ (x, inl refl, here)
  | inr there ↦ later (Has-from_map f xs q there)
]
  where
    later : ((m : Mark) × Has xs m × (f m ≡ q)) → (m : Mark) × Has (x ∷ xs) m × (f m ≡ q)
    later h = (h.0, inr h.1, h.2)

pub HaveSame-map : (f : Mark → Mark) (xs ys : List Mark) → HaveSame xs ys → HaveSame (map f xs) (map f ys)
HaveSame-map f xs ys same = record { to = one_way xs ys same.to; from = one_way ys xs same.from }
  where
    one_way : (us vs : List Mark) → ((q : Mark) → Has us q → Has vs q) → (q : Mark) → Has (map f us) q → Has (map f vs) q
    one_way us vs to q has =
        let source : (m : Mark) × Has us m × (f m ≡ q) = Has-from_map f us q has in
        subst (λ (m : Mark). Has (map f vs) m) source.2 (Has-map f vs source.0 (to source.0 source.1))

pub is_live-map : (f : Mark → Mark) → ((m : Mark) → (f m).id ≡ m.id) → (xs : List Mark) (id : ℕ) → is_live (map f xs) id ≡ is_live xs id
is_live-map f keeps [] id = refl
is_live-map f keeps (x ∷ xs) id = ap (λ own. eqb own id || is_live (map f xs) id) (keeps x) ∙ ap (λ rest. eqb x.id id || rest) (is_live-map f keeps xs id)

pub distinct_map : (f : Mark → Mark) → ((m : Mark) → (f m).id ≡ m.id) → (xs : List Mark) → HasDistinctIds xs → HasDistinctIds (map f xs)
distinct_map f keeps [] distinct = tt
distinct_map f keeps (x ∷ xs) distinct =
    (ap (is_live (map f xs)) (keeps x) ∙ is_live-map f keeps xs x.id ∙ distinct.0, distinct_map f keeps xs distinct.1)

-- sorting before the change makes no difference to the sorted result
pub in_order-map : (f : Mark → Mark) → ((m : Mark) → (f m).id ≡ m.id) → (xs : List Mark) → HasDistinctIds xs → in_order (map f (in_order xs)) ≡ in_order (map f xs)
in_order-map f keeps xs distinct = in_order-same (map f (in_order xs)) (map f xs)
    (distinct_map f keeps (in_order xs) (distinct_in_order xs distinct)) (distinct_map f keeps xs distinct)
    (HaveSame-map f (in_order xs) xs (HaveSame-sym xs (in_order xs) (HaveSame-in_order xs)))

-- The decoration with a given id.

pub mark_of-has : (xs : List Mark) (q : Mark) → HasDistinctIds xs → Has xs q → mark_of xs q.id ≡ Some q
mark_of-has [] q distinct has = absurd has
mark_of-has (x ∷ xs) q distinct has = elim has [
  | inl here ↦ cond-true (has_id q.id x) (Some x) (mark_of xs q.id) (eq-eqb x.id q.id (ap (λ (m : Mark). m.id) here)) ∙ ap (λ m. Some m) here
  | inr there ↦
      let other : has_id q.id x ≡ false = ne_eqb x.id q.id (λ same. both_ways (has_id x.id q) (list_any-at (has_id x.id) xs q distinct.0 there) (eq-eqb q.id x.id (sym same))) in
      cond-false (has_id q.id x) (Some x) (mark_of xs q.id) other ∙ mark_of-has xs q distinct.1 there
]

pub mark_of-none : (xs : List Mark) (id : ℕ) → is_live xs id ≡ false → mark_of xs id ≡ None
mark_of-none [] id none = refl
mark_of-none (x ∷ xs) id none =
    cond-false (has_id id x) (Some x) (mark_of xs id) (or_parts (has_id id x) (is_live xs id) none).0
    ∙ mark_of-none xs id (or_parts (has_id id x) (is_live xs id) none).1

-- Batches.

pub carried-none : (xs : List Mark) → IsInOrder xs → carried xs [] ≡ xs
carried-none xs ordered = ap in_order (map-same xs) ∙ in_order-ordered xs ordered
  where
    map-same : (ms : List Mark) → map (moved_by_all []) ms ≡ ms
    map-same [] = refl
    map-same (m ∷ ms) = ap (λ rest. m ∷ rest) (map-same ms)

moved_by_all-id : (edits : List Edit) (m : Mark) → (moved_by_all edits m).id ≡ m.id
moved_by_all-id [] m = refl
moved_by_all-id (edit ∷ edits) m = moved_by_all-id edits m

-- the first edit of a batch is applied last
pub carried-first : (edit : Edit) (edits : List Edit) (xs : List Mark) → HasDistinctIds xs
    → carried xs (edit ∷ edits) ≡ in_order (map (moved_mark edit) (carried xs edits))
carried-first edit edits xs distinct =
    ap in_order (map-map xs)
    ∙ sym (in_order-map (moved_mark edit) (λ _. refl) (map (moved_by_all edits) xs) (distinct_map (moved_by_all edits) (moved_by_all-id edits) xs distinct))
  where
    map-map : (ms : List Mark) → map (moved_by_all (edit ∷ edits)) ms ≡ map (moved_mark edit) (map (moved_by_all edits) ms)
    map-map [] = refl
    map-map (m ∷ ms) = ap (λ rest. moved_by_all (edit ∷ edits) m ∷ rest) (map-map ms)

pub distinct_carried : (edits : List Edit) (xs : List Mark) → HasDistinctIds xs → HasDistinctIds (carried xs edits)
distinct_carried edits xs distinct =
    distinct_in_order (map (moved_by_all edits) xs) (distinct_map (moved_by_all edits) (moved_by_all-id edits) xs distinct)

-- The results of searches.
use Rattle.std.proofs.Common.{◌≡◌, ℕ, ℤ, pos, negsuc, ◌≤ℤ◌, ◌<ℤ◌, Bool, true, false, ◌||◌, ◌&&◌, ltb, eqb, inl, inr, List, [], ◌∷◌, ◌++◌, Option, Some, None, refl, sym, ◌∙◌, ap, subst, arith, append_assoc}
use Rattle.std.specs.Prelude.{if◌then◌else◌}
use Rattle.std.specs.Ordering.{int_cmp, nat_cmp, ordering_then, is_lt}
use Rattle.std.specs.declared.cmp.Ordering.{Ordering}
use Rattle.std.specs.declared.cmp.Ordering.TheVariants.{Less, Equal, Greater}
use Rattle.std.proofs.lemmas.Bool.{both_ways, cases_Bool}
use Rattle.std.proofs.lemmas.Bool.Decides.{nat_tests}
use Rattle.std.proofs.lemmas.Int.{ints}
use Rattle.rb_rules.specs.declared.weave.Turn.TheVariants.{Stop, Left, Right}
use Rattle.rb_rules.specs.Woven.{sum_of}
use Rattle.rb_arena.specs.RbTree.{SplitsAt, EndsWith, last_or}
use Rattle.rb_arena.specs.Searching.{EndsAt}
use Rattle.decoration_rules.specs.declared.Mark.{Mark}
use Rattle.decoration_rules.specs.Marks.{stands_before, IsInOrder}
use Rattle.decoration_rules.proofs.OrderLemmas.{stands_before-itself, stands_before-trans}
use Rattle.interval_deltas.specs.declared.weave.KeptMark.{KeptMark}
use Rattle.interval_deltas.specs.declared.weave.Place.{Place}
use Rattle.interval_deltas.specs.declared.weave.Sought.TheVariants as sought
use Rattle.interval_deltas.specs.Weave.{marks, mark_turn, is_mark, placed, toward, reaches}
use Rattle.interval_deltas.specs.Kept.{Each, AreMarks, as_mark, mark_at, marks_of, IsPlace, PartedAt}
use Rattle.interval_deltas.proofs.Items.{each_right, each_both, each_weaker, before_it, after_it, sum_below, each_below}

-- The meaning of a turn.

right_is : (o : Ordering) → toward o ≡ Right → is_lt o ≡ true
right_is Less e = refl
right_is Equal e = absurd (cc)
right_is Greater e = absurd (cc)

stop_is : (o : Ordering) → toward o ≡ Stop → o ≡ Equal
stop_is Less e = absurd (cc)
stop_is Equal e = refl
stop_is Greater e = absurd (cc)

left_is : (o : Ordering) → toward o ≡ Left → o ≡ Greater
left_is Less e = absurd (cc)
left_is Equal e = absurd (cc)
left_is Greater e = refl

turn_stop : (a b : Bool) → (if a then Left else (if b then Stop else Right)) ≡ Stop → (a ≡ false) × (b ≡ true)
turn_stop true b e = absurd (cc)
turn_stop false true e = (refl, refl)
turn_stop false false e = absurd (cc)

turn_left : (a b : Bool) → (if a then Left else (if b then Stop else Right)) ≡ Left → a ≡ true
turn_left true b e = refl
turn_left false true e = absurd (cc)
turn_left false false e = absurd (cc)

turn_right : (a b : Bool) → (if a then Left else (if b then Stop else Right)) ≡ Right → (a ≡ false) × (b ≡ false)
turn_right true b e = absurd (cc)
turn_right false true e = absurd (cc)
turn_right false false e = (refl, refl)

-- The order of places agrees with the order of decorations.

abbrev plain : ℕ → ℕ → ℕ → Mark
plain start end id = mark_at (record { start = pos start; end = pos end; id = id })

same_cmp : (a b : ℕ) → int_cmp (pos a) (pos b) ≡ nat_cmp a b
same_cmp a b = grind (arith, nat_tests)

same_order : (a b c d i j : ℕ) → ordering_then (ordering_then (int_cmp (pos a) (pos b)) (int_cmp (pos c) (pos d))) (nat_cmp i j) ≡ ordering_then (ordering_then (nat_cmp a b) (nat_cmp c d)) (nat_cmp i j)
same_order a b c d i j = λ n. ordering_then (ordering_then (same_cmp a b n) (same_cmp c d n)) (nat_cmp i j)

lex_nat : (a b c d i j : ℕ) → is_lt (ordering_then (ordering_then (nat_cmp a b) (nat_cmp c d)) (nat_cmp i j)) ≡ (ltb a b || (eqb a b && (ltb c d || (eqb c d && ltb i j))))
lex_nat a b c d i j = grind (arith, nat_tests)

greater_nat : (a b c d i j : ℕ) → ordering_then (ordering_then (nat_cmp a b) (nat_cmp c d)) (nat_cmp i j) ≡ Greater → (ltb b a || (eqb b a && (ltb d c || (eqb d c && ltb j i)))) ≡ true
greater_nat a b c d i j e = grind (arith, nat_tests)

equal_nat : (a b c d i j : ℕ) → ordering_then (ordering_then (nat_cmp a b) (nat_cmp c d)) (nat_cmp i j) ≡ Equal → (a ≡ b) × (c ≡ d) × (i ≡ j)
equal_nat a b c d i j e = (grind (arith, nat_tests), grind (arith, nat_tests), grind (arith, nat_tests))

lex : (a b c d i j : ℕ) → is_lt (ordering_then (ordering_then (int_cmp (pos a) (pos b)) (int_cmp (pos c) (pos d))) (nat_cmp i j)) ≡ stands_before (plain a c i) (plain b d j)
lex a b c d i j = ap is_lt (same_order a b c d i j) ∙ lex_nat a b c d i j

lex_greater : (a b c d i j : ℕ) → ordering_then (ordering_then (int_cmp (pos a) (pos b)) (int_cmp (pos c) (pos d))) (nat_cmp i j) ≡ Greater → stands_before (plain b d j) (plain a c i) ≡ true
lex_greater a b c d i j e = greater_nat a b c d i j (sym (same_order a b c d i j) ∙ e)

lex_equal : (a b c d i j : ℕ) → ordering_then (ordering_then (int_cmp (pos a) (pos b)) (int_cmp (pos c) (pos d))) (nat_cmp i j) ≡ Equal → (a ≡ b) × (c ≡ d) × (i ≡ j)
lex_equal a b c d i j e = equal_nat a b c d i j (sym (same_order a b c d i j) ∙ e)

is_order : (s t e f : ℤ) (i j : ℕ) → pos 0 ≤ℤ s → pos 0 ≤ℤ t → pos 0 ≤ℤ e → pos 0 ≤ℤ f
    → is_lt (ordering_then (ordering_then (int_cmp s t) (int_cmp e f)) (nat_cmp i j)) ≡ stands_before (mark_at (record { start = s; end = e; id = i })) (mark_at (record { start = t; end = f; id = j }))
is_order (pos a) (pos b) (pos c) (pos d) i j s t e f = lex a b c d i j
is_order (negsuc a) y z w i j s t e f = absurd (omega (arith, ints, s))
is_order (pos a) (negsuc b) z w i j s t e f = absurd (omega (arith, ints, t))
is_order (pos a) (pos b) (negsuc c) w i j s t e f = absurd (omega (arith, ints, e))
is_order (pos a) (pos b) (pos c) (negsuc d) i j s t e f = absurd (omega (arith, ints, f))

is_greater : (s t e f : ℤ) (i j : ℕ) → pos 0 ≤ℤ s → pos 0 ≤ℤ t → pos 0 ≤ℤ e → pos 0 ≤ℤ f → ordering_then (ordering_then (int_cmp s t) (int_cmp e f)) (nat_cmp i j) ≡ Greater
    → stands_before (mark_at (record { start = t; end = f; id = j })) (mark_at (record { start = s; end = e; id = i })) ≡ true
is_greater (pos a) (pos b) (pos c) (pos d) i j s t e f g = lex_greater a b c d i j g
is_greater (negsuc a) y z w i j s t e f g = absurd (omega (arith, ints, s))
is_greater (pos a) (negsuc b) z w i j s t e f g = absurd (omega (arith, ints, t))
is_greater (pos a) (pos b) (negsuc c) w i j s t e f g = absurd (omega (arith, ints, e))
is_greater (pos a) (pos b) (pos c) (negsuc d) i j s t e f g = absurd (omega (arith, ints, f))

is_equal : (s t e f : ℤ) (i j : ℕ) → pos 0 ≤ℤ s → pos 0 ≤ℤ t → pos 0 ≤ℤ e → pos 0 ≤ℤ f → ordering_then (ordering_then (int_cmp s t) (int_cmp e f)) (nat_cmp i j) ≡ Equal
    → (u : Mark) → stands_before u (mark_at (record { start = s; end = e; id = i })) ≡ true → stands_before u (mark_at (record { start = t; end = f; id = j })) ≡ true
is_equal (pos a) (pos b) (pos c) (pos d) i j s t e f g u before =
    let (first, second, third) = lex_equal a b c d i j g in subst (λ (k : Mark). stands_before u k ≡ true) (λ n. plain (first n) (second n) (third n)) before
is_equal (negsuc a) y z w i j s t e f g u before = absurd (omega (arith, ints, s))
is_equal (pos a) (negsuc b) z w i j s t e f g u before = absurd (omega (arith, ints, t))
is_equal (pos a) (pos b) (negsuc c) w i j s t e f g u before = absurd (omega (arith, ints, e))
is_equal (pos a) (pos b) (pos c) (negsuc d) i j s t e f g u before = absurd (omega (arith, ints, f))

high : (m : KeptMark) → is_mark m → pos 0 ≤ℤ m.end
high m (h, g, l) = omega (arith, ints, h, g)

module _ (p : Place) (place : IsPlace p) where
  pub order_is : (m : KeptMark) → is_mark m → is_lt (placed m p) ≡ stands_before (as_mark m) (mark_at p)
  order_is m h = is_order m.start p.start m.end p.end m.label.id p.id h.0 place.0 (high m h) place.1

  greater_is : (m : KeptMark) → is_mark m → placed m p ≡ Greater → stands_before (mark_at p) (as_mark m) ≡ true
  greater_is m h e = is_greater m.start p.start m.end p.end m.label.id p.id h.0 place.0 (high m h) place.1 e

  equal_is : (m : KeptMark) → is_mark m → placed m p ≡ Equal → (u : Mark) → stands_before u (as_mark m) ≡ true → stands_before u (mark_at p) ≡ true
  equal_is m h e = is_equal m.start p.start m.end p.end m.label.id p.id h.0 place.0 (high m h) place.1 e

  abbrev Before : KeptMark → Type 0
  Before m = stands_before (as_mark m) (mark_at p) ≡ true

  abbrev NotBefore : KeptMark → Type 0
  NotBefore m = stands_before (as_mark m) (mark_at p) ≡ false

  -- a decoration after one that is not before the place is not before the place
  not_before : (x y : Mark) → stands_before x (mark_at p) ≡ false → stands_before x y ≡ true → stands_before y (mark_at p) ≡ false
  not_before x y away before = elim (cases_Bool (stands_before y (mark_at p))) [
    | inl is ↦ absurd (both_ways (stands_before x (mark_at p)) away (stands_before-trans x y (mark_at p) before is))
    | inr other ↦ other
  ]

  behind : (y : Mark) → stands_before (mark_at p) y ≡ true → stands_before y (mark_at p) ≡ false
  behind y before = elim (cases_Bool (stands_before y (mark_at p))) [
    | inl is ↦ absurd (both_ways (stands_before (mark_at p) (mark_at p)) (stands_before-itself (mark_at p)) (stands_before-trans (mark_at p) y (mark_at p) before is))
    | inr other ↦ other
  ]

  module _ (us : List (ℕ × KeptMark)) (id : ℕ) (m : KeptMark) (vs : List (ℕ × KeptMark)) (values : AreMarks (us ++ (id, m) ∷ vs)) (ordered : IsInOrder (marks_of (us ++ (id, m) ∷ vs)))
      (ends : EndsAt marks mark_turn (sought.Place p) us id m vs) where
    value : is_mark m
    value = (each_right is_mark us ((id, m) ∷ vs) values).0

    -- decorations before one that is before the place
    trans_before : (ws : List (ℕ × KeptMark)) (x : Mark) → stands_before x (mark_at p) ≡ true → Each (λ n. stands_before (as_mark n) x ≡ true) ws → Each Before ws
    trans_before ws x before all = each_weaker (λ n. stands_before (as_mark n) x ≡ true) Before (λ n first. stands_before-trans (as_mark n) x (mark_at p) first before) ws all

    pub all_before : is_lt (placed m p) ≡ true → Each Before (us ++ (id, m) ∷ [])
    all_before lt =
        let own : Before m = sym (order_is m value) ∙ lt in
        each_both Before us ((id, m) ∷ []) (trans_before us (as_mark m) own (before_it us (id, m) vs ordered)) (own, tt)

    pub none_after : is_lt (placed m p) ≡ true → Each NotBefore vs
    none_after lt = elim ends [
      | inl stop ↦ absurd (both_ways (is_lt (placed m p)) (ap is_lt (stop_is (placed m p) stop)) lt)
      | inr rest ↦ elim rest [
        | inl left ↦ absurd (both_ways (is_lt (placed m p)) (ap is_lt (left_is (placed m p) left.0)) lt)
        | inr right ↦ elim right.1 [
          | inl none ↦ subst (Each NotBefore) (sym none) tt
          | inr some ↦ go some
        ]
      ]
    ]
      where
        go : ((e : ℕ × KeptMark) × ((ws : List (ℕ × KeptMark)) × (vs ≡ e ∷ ws) × (mark_turn (sought.Place p) (sum_of marks (us ++ (id, m) ∷ [])) e.1 ≡ Left))) → Each NotBefore vs
        go (e, (ws, is, says)) =
            let all : AreMarks (us ++ (id, m) ∷ e ∷ ws) = subst (λ l. AreMarks (us ++ (id, m) ∷ l)) is values in
            let order : IsInOrder (marks_of (us ++ (id, m) ∷ e ∷ ws)) = subst (λ l. IsInOrder (marks_of (us ++ (id, m) ∷ l))) is ordered in
            let first : NotBefore e.1 = behind (as_mark e.1) (greater_is e.1 (each_right is_mark us ((id, m) ∷ e ∷ ws) all).1.0 (left_is (placed e.1 p) says)) in
            let later : Each (λ n. stands_before (as_mark e.1) (as_mark n) ≡ true) ws =
            after_it (us ++ (id, m) ∷ []) e ws (subst (λ l. IsInOrder (marks_of l)) (sym (append_assoc us ((id, m) ∷ []) (e ∷ ws))) order) in
            subst (Each NotBefore) (sym is) (first, each_weaker (λ n. stands_before (as_mark e.1) (as_mark n) ≡ true) NotBefore (λ n before. not_before (as_mark e.1) (as_mark n) first before) ws later)

    pub rest_before : is_lt (placed m p) ≡ false → Each Before us
    rest_before ge = elim ends [
      | inl stop ↦ each_weaker (λ n. stands_before (as_mark n) (as_mark m) ≡ true) Before (λ n before. equal_is m value (stop_is (placed m p) stop) (as_mark n) before) us (before_it us (id, m) vs ordered)
      | inr rest ↦ elim rest [
        | inr right ↦ absurd (both_ways (is_lt (placed m p)) ge (right_is (placed m p) right.0))
        | inl left ↦ elim left.1 [
          | inl none ↦ subst (Each Before) (sym none) tt
          | inr some ↦ go some
        ]
      ]
    ]
      where
        go : ((ws : List (ℕ × KeptMark)) × ((e : ℕ × KeptMark) × (us ≡ ws ++ e ∷ []) × (mark_turn (sought.Place p) (sum_of marks ws) e.1 ≡ Right))) → Each Before us
        go (ws, (e, is, says)) =
            let all : AreMarks (ws ++ e ∷ (id, m) ∷ vs) = subst AreMarks (append_assoc ws (e ∷ []) ((id, m) ∷ vs)) (subst (λ l. AreMarks (l ++ (id, m) ∷ vs)) is values) in
            let order : IsInOrder (marks_of (ws ++ e ∷ (id, m) ∷ vs)) =
            subst (λ l. IsInOrder (marks_of l)) (append_assoc ws (e ∷ []) ((id, m) ∷ vs)) (subst (λ l. IsInOrder (marks_of (l ++ (id, m) ∷ vs))) is ordered) in
            let last : Before e.1 = sym (order_is e.1 (each_right is_mark ws (e ∷ (id, m) ∷ vs) all).0) ∙ right_is (placed e.1 p) says in
            subst (Each Before) (sym is) (each_both Before ws (e ∷ []) (trans_before ws (as_mark e.1) last (before_it ws e ((id, m) ∷ vs) order)) (last, tt))

    pub it_and_after : is_lt (placed m p) ≡ false → Each NotBefore ((id, m) ∷ vs)
    it_and_after ge =
        let own : NotBefore m = sym (order_is m value) ∙ ge in
        (own, each_weaker (λ n. stands_before (as_mark m) (as_mark n) ≡ true) NotBefore (λ n before. not_before (as_mark m) (as_mark n) own before) vs (after_it us (id, m) vs ordered))

ends_later : (ws : List (ℕ × KeptMark)) (e : ℕ × KeptMark) (us : List (ℕ × KeptMark)) → EndsWith (ws ++ e ∷ us) (last_or (Some e.0) us)
ends_later ws e [] = (ws, (e.1, refl))
ends_later ws e (u ∷ us) = subst (λ l. EndsWith l (last_or (Some u.0) us)) (append_assoc ws (e ∷ []) (u ∷ us)) (ends_later (ws ++ e ∷ []) u us)

pub ends_last : (us : List (ℕ × KeptMark)) → EndsWith us (last_or None us)
ends_last [] = refl
ends_last (u ∷ us) = ends_later [] u us

-- the two answers
pub parted_behind : (items : List (ℕ × KeptMark)) (p : Place) → IsPlace p → AreMarks items → IsInOrder (marks_of items)
    → (us : List (ℕ × KeptMark)) (id : ℕ) (m : KeptMark) (vs : List (ℕ × KeptMark)) → SplitsAt items id us m vs → EndsAt marks mark_turn (sought.Place p) us id m vs → is_lt (placed m p) ≡ true
    → PartedAt items (mark_at p) (Some id)
parted_behind items p place values ordered us id m vs is ends lt =
    let all = subst AreMarks is values in let order = subst (λ l. IsInOrder (marks_of l)) is ordered in
    (us ++ (id, m) ∷ [], (vs, (is ∙ sym (append_assoc us ((id, m) ∷ []) vs), (us, (m, refl))), all_before p place us id m vs all order ends lt, none_after p place us id m vs all order ends lt))

pub parted_before : (items : List (ℕ × KeptMark)) (p : Place) → IsPlace p → AreMarks items → IsInOrder (marks_of items)
    → (us : List (ℕ × KeptMark)) (id : ℕ) (m : KeptMark) (vs : List (ℕ × KeptMark)) → SplitsAt items id us m vs → EndsAt marks mark_turn (sought.Place p) us id m vs → is_lt (placed m p) ≡ false
    → (last : Option ℕ) → last ≡ last_or None us → PartedAt items (mark_at p) last
parted_before items p place values ordered us id m vs is ends ge last prev =
    let all = subst AreMarks is values in let order = subst (λ l. IsInOrder (marks_of l)) is ordered in
    (us, ((id, m) ∷ vs, (is, subst (EndsWith us) (sym prev) (ends_last us)), rest_before p place us id m vs all order ends ge, it_and_after p place us id m vs all order ends ge))

-- The first that reaches an offset.

module _ (offset : ℤ) (us : List (ℕ × KeptMark)) (id : ℕ) (m : KeptMark) (vs : List (ℕ × KeptMark)) (ends : EndsAt marks mark_turn (sought.Reaching offset) us id m vs) where
  abbrev Under : KeptMark → Type 0
  Under n = n.end <ℤ offset

  pub all_under : Each Under us
  all_under = elim ends [
    | inl stop ↦ each_below offset us (turn_stop (reaches offset (sum_of marks us)) (reaches offset (Some m.end)) stop).0
    | inr rest ↦ elim rest [
      | inr right ↦ each_below offset us (turn_right (reaches offset (sum_of marks us)) (reaches offset (Some m.end)) right.0).0
      | inl left ↦ elim left.1 [
        | inl none ↦ subst (Each Under) (sym none) tt
        | inr some ↦ go some
      ]
    ]
  ]
    where
      go : ((ws : List (ℕ × KeptMark)) × ((e : ℕ × KeptMark) × (us ≡ ws ++ e ∷ []) × (mark_turn (sought.Reaching offset) (sum_of marks ws) e.1 ≡ Right))) → Each Under us
      go (ws, (e, is, says)) =
          let low = turn_right (reaches offset (sum_of marks ws)) (reaches offset (Some e.1.end)) says in
          subst (Each Under) (sym is) (each_both Under ws (e ∷ []) (each_below offset ws low.0) (each_below offset (e ∷ []) low.1))

  pub rest_under : m.end <ℤ offset → Each Under vs
  rest_under low = elim ends [
    | inl stop ↦ absurd (both_ways (reaches offset (Some m.end)) (sum_below offset ((id, m) ∷ []) (low, tt)) (turn_stop (reaches offset (sum_of marks us)) (reaches offset (Some m.end)) stop).1)
    | inr rest ↦ elim rest [
      | inl left ↦ absurd (both_ways (reaches offset (sum_of marks us)) (sum_below offset us all_under) (turn_left (reaches offset (sum_of marks us)) (reaches offset (Some m.end)) left.0))
      | inr right ↦ elim right.1 [
        | inl none ↦ subst (Each Under) (sym none) tt
        | inr some ↦ go some
      ]
    ]
  ]
    where
      go : ((e : ℕ × KeptMark) × ((ws : List (ℕ × KeptMark)) × (vs ≡ e ∷ ws) × (mark_turn (sought.Reaching offset) (sum_of marks (us ++ (id, m) ∷ [])) e.1 ≡ Left))) → Each Under vs
      go (e, (ws, is, says)) =
          absurd (both_ways (reaches offset (sum_of marks (us ++ (id, m) ∷ []))) (sum_below offset (us ++ (id, m) ∷ []) (each_both Under us ((id, m) ∷ []) all_under (low, tt)))
          (turn_left (reaches offset (sum_of marks (us ++ (id, m) ∷ []))) (reaches offset (Some e.1.end)) says))

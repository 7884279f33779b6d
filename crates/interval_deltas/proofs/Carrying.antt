-- A mover goes through a list.
use Rattle.std.proofs.Common.{◌≡◌, ℕ, ◌≤◌, ℤ, pos, ◌<ℤ◌, Bool, true, false, inl, inr, List, [], ◌∷◌, ◌++◌, refl, sym, ◌∙◌, ap, subst, arith}
use Rattle.std.specs.Prelude.{◌⊎◌, if◌then◌else◌, ◌||◌, int_lt}
use Rattle.std.proofs.lemmas.Bool.{both_ways, cases_Bool, cond-true, cond-false, or_left, or_right}
use Rattle.std.proofs.lemmas.Int.{ints}
use Rattle.rb_rules.specs.Woven.{sum_of}
use Rattle.rb_rules.specs.Rewriting.{rewritten_all, onward_all}
use Rattle.rb_rules.proofs.Rewritings.{rewritten-append, onward-append}
use Rattle.decoration_rules.specs.declared.Edit.{Edit}
use Rattle.decoration_rules.specs.Marks.{stands_before, IsInOrder}
use Rattle.decoration_rules.specs.Moves.{moved_mark}
use Rattle.interval_deltas.specs.declared.weave.KeptMark.{KeptMark}
use Rattle.interval_deltas.specs.declared.weave.Place.{Place}
use Rattle.interval_deltas.specs.Weave.{marks, is_mark, reaches}
use Rattle.interval_deltas.specs.Kept.{Each, AreMarks, as_mark, capped, mark_at, marks_of, moved_kept, moved_items, place_of}
use Rattle.interval_deltas.specs.Mover.{Moving, starting, ends_before, starts_behind, met, rewritten_by, onward_of}
use Rattle.interval_deltas.specs.Sorting.{Pairs, IsNotBelow, AreSorted}
use Rattle.interval_deltas.proofs.Crossing.{changed_pairs}
use Rattle.interval_deltas.proofs.Items.{each_left, each_right, each_both, each_weaker, each_with, each_listed, each_below}
use Rattle.interval_deltas.proofs.Moving.{still_kept}
use Rattle.interval_deltas.proofs.Sorting.{stands_before-weak}
use Rattle.interval_deltas.proofs.Touched.{IsTouched, ended, keeps_order}

abbrev pub all_of : Moving → List (ℕ × KeptMark) → List (ℕ × KeptMark)
all_of v es = rewritten_all rewritten_by onward_of v es

abbrev pub past_all : Moving → List (ℕ × KeptMark) → Moving
past_all v es = onward_all rewritten_by onward_of v es

-- items that end before the edit, or are past the first that starts behind it
stays : (v : Moving) (es : List (ℕ × KeptMark)) → Each (λ m. (v.past || ends_before v.edit m) ≡ true) es → (all_of v es ≡ es) × (past_all v es ≡ v)
stays v [] s = (refl, refl)
stays v (e ∷ es) (s, ss) =
    let here = v.past || ends_before v.edit e.1 in let behind = starts_behind v.edit e.1 in
    let one = cond-true here e.1 (if behind then e.1 else moved_kept v.edit e.1) s in
    let goes = cond-true here v (if behind then record v { past = true } else met v (moved_kept v.edit e.1)) s in
    let rest = stays v es ss in
    ((λ i. (e.0, one i) ∷ all_of (goes i) es) ∙ ap (λ l. e ∷ l) rest.0, ap (λ u. past_all u es) goes ∙ rest.1)

pub stays_past : (v : Moving) (es : List (ℕ × KeptMark)) → v.past ≡ true → (all_of v es ≡ es) × (past_all v es ≡ v)
stays_past v es past = stays v es (all_past es)
  where
    all_past : (ws : List (ℕ × KeptMark)) → Each (λ m. (v.past || ends_before v.edit m) ≡ true) ws
    all_past [] = tt
    all_past (w ∷ ws) = (or_left v.past (ends_before v.edit w.1) past, all_past ws)

pub stays_low : (v : Moving) (es : List (ℕ × KeptMark)) → reaches (capped v.edit.start) (sum_of marks es) ≡ false → (all_of v es ≡ es) × (past_all v es ≡ v)
stays_low v es low =
    let before = each_below (capped v.edit.start) es low in
    stays v es
    (each_weaker (λ m. m.end <ℤ capped v.edit.start) (λ m. (v.past || ends_before v.edit m) ≡ true) (λ m lt. or_right v.past (ends_before v.edit m) (is_under m.end (capped v.edit.start) lt)) es before)
  where
    is_under : (a b : ℤ) → a <ℤ b → int_lt a b ≡ true
    is_under a b lt = grind (arith, ints)

-- the decoration is not before the place
abbrev NotUnder : Place → KeptMark → Type 0
NotUnder g m = stands_before (as_mark m) (mark_at g) ≡ false

module _ (edit : Edit) where
  abbrev at : Place → Bool → Bool → Moving
  at g b p = record { edit = edit; greatest = g; in_order = b; past = p }

  abbrev shown : KeptMark → KeptMark
  shown m = moved_kept edit m

  -- a decoration that does not start after the edit
  record Step (g : Place) (b : Bool) (m : KeptMark) : Type 0 where
    pub greatest : Place
    pub ordered : Bool
    pub goes : onward_of (at g b false) m ≡ at greatest ordered false
    pub made : rewritten_by (at g b false) m ≡ shown m
    pub before : ordered ≡ true → b ≡ true
    pub above : ordered ≡ true → IsTouched edit m → NotUnder g (shown m) × (greatest ≡ place_of (shown m))
    pub grows : ordered ≡ true → (x : KeptMark) → NotUnder greatest x → NotUnder g x

  met_step : (g : Place) (b : Bool) (m : KeptMark) → onward_of (at g b false) m ≡ met (at g b false) (shown m) → rewritten_by (at g b false) m ≡ shown m → Step g b m
  met_step g b m goes made = elim (cases_Bool (stands_before (as_mark (shown m)) (mark_at g))) [
    | inl under ↦ record {
      greatest = g;
      ordered = false;
      goes = goes ∙ cond-true (stands_before (as_mark (shown m)) (mark_at g)) (at g false false) (at (place_of (shown m)) b false) under;
      made = made;
      before = λ e. absurd (both_ways false refl e);
      above = λ e. absurd (both_ways false refl e);
      grows = λ e. absurd (both_ways false refl e);
    }
    | inr over ↦ record {
      greatest = place_of (shown m);
      ordered = b;
      goes = goes ∙ cond-false (stands_before (as_mark (shown m)) (mark_at g)) (at g false false) (at (place_of (shown m)) b false) over;
      made = made;
      before = λ e. e;
      above = λ e t. (over, refl);
      grows = λ e x no. stands_before-weak.chain (as_mark x) (mark_at (place_of (shown m))) (mark_at g) no over;
    }
  ]

  step : (g : Place) (b : Bool) (m : KeptMark) → edit.start ≤ edit.end → is_mark m → starts_behind edit m ≡ false → Step g b m
  step g b m up value start = elim (cases_Bool (ends_before edit m)) [
    | inl low ↦ record {
      greatest = g;
      ordered = b;
      goes = cond-true (ends_before edit m) (at g b false) (if starts_behind edit m then at g b true else met (at g b false) (shown m)) low;
      made = cond-true (ends_before edit m) m (if starts_behind edit m then m else shown m) low ∙ sym (still_kept edit m value (ended edit up m value low));
      before = λ e. e;
      above = λ e t. absurd (both_ways (ends_before edit m) t.0 low);
      grows = λ e x no. no;
    }
    | inr reach ↦ met_step g b m
        (cond-false (ends_before edit m) (at g b false) (if starts_behind edit m then at g b true else met (at g b false) (shown m)) reach
        ∙ cond-false (starts_behind edit m) (at g b true) (met (at g b false) (shown m)) start)
        (cond-false (ends_before edit m) m (if starts_behind edit m then m else shown m) reach ∙ cond-false (starts_behind edit m) m (shown m) start)
  ]

  -- of two decorations that the edit touches, the later does not come to lie before the earlier
  abbrev Apart : KeptMark → KeptMark → Type 0
  Apart x y = IsTouched edit x → IsTouched edit y → IsNotBelow (shown x) (shown y)

  record Run (g : Place) (b : Bool) (es : List (ℕ × KeptMark)) : Type 0 where
    pub greatest : Place
    pub ordered : Bool
    pub goes : past_all (at g b false) es ≡ at greatest ordered false
    pub made : all_of (at g b false) es ≡ moved_items edit es
    pub before : ordered ≡ true → b ≡ true
    pub above : ordered ≡ true → Each (λ m. IsTouched edit m → NotUnder g (shown m)) es
    pub apart : ordered ≡ true → Pairs Apart es

  run : (g : Place) (b : Bool) (es : List (ℕ × KeptMark)) → edit.start ≤ edit.end → AreMarks es → Each (λ m. starts_behind edit m ≡ false) es → Run g b es
  run g b [] up h s = record { greatest = g; ordered = b; goes = refl; made = refl; before = λ e. e; above = λ e. tt; apart = λ e. tt }
  run g b (e ∷ es) up (h, hs) (s, ss) =
      let one = step g b e.1 up h s in let rest = run one.greatest one.ordered es up hs ss in record {
        greatest = rest.greatest;
        ordered = rest.ordered;
        goes = ap (λ v. past_all v es) one.goes ∙ rest.goes;
        made = (λ i. (e.0, one.made i) ∷ all_of (one.goes i) es) ∙ ap (λ l. (e.0, shown e.1) ∷ l) rest.made;
        before = λ o. one.before (rest.before o);
        above = λ o. (
          λ t. (one.above (rest.before o) t).0,
          each_weaker (λ m. IsTouched edit m → NotUnder one.greatest (shown m)) (λ m. IsTouched edit m → NotUnder g (shown m)) (λ m no t. one.grows (rest.before o) (shown m) (no t)) es (rest.above o),
        );
        apart = λ o. (
          each_weaker (λ m. IsTouched edit m → NotUnder one.greatest (shown m)) (Apart e.1)
              (λ m no t t2. subst (λ (p : Place). NotUnder p (shown m)) (one.above (rest.before o) t).1 (no t2)) es (rest.above o),
          rest.apart o,
        );
      }

  -- the decorations that start after the edit
  behind_all : (g : Place) (b p : Bool) (es : List (ℕ × KeptMark)) → Each (λ m. starts_behind edit m ≡ true) es → (all_of (at g b p) es ≡ es) × ((past_all (at g b p) es).in_order ≡ b)
  behind_all g b p [] s = (refl, refl)
  behind_all g b true (e ∷ es) (s, ss) = let rest = behind_all g b true es ss in (ap (λ l. e ∷ l) rest.0, rest.1)
  behind_all g b false (e ∷ es) (s, ss) = elim (cases_Bool (ends_before edit e.1)) [
    | inl low ↦
        let stays = cond-true (ends_before edit e.1) e.1 (if starts_behind edit e.1 then e.1 else shown e.1) low in
        let goes = cond-true (ends_before edit e.1) (at g b false) (if starts_behind edit e.1 then at g b true else met (at g b false) (shown e.1)) low in
        let rest = behind_all g b false es ss in
        ((λ i. (e.0, stays i) ∷ all_of (goes i) es) ∙ ap (λ l. e ∷ l) rest.0, ap (λ v. (past_all v es).in_order) goes ∙ rest.1)
    | inr reach ↦
        let stays = cond-false (ends_before edit e.1) e.1 (if starts_behind edit e.1 then e.1 else shown e.1) reach ∙ cond-true (starts_behind edit e.1) e.1 (shown e.1) s in
        let goes = cond-false (ends_before edit e.1) (at g b false) (if starts_behind edit e.1 then at g b true else met (at g b false) (shown e.1)) reach
        ∙ cond-true (starts_behind edit e.1) (at g b true) (met (at g b false) (shown e.1)) s in
        let rest = behind_all g b true es ss in
        ((λ i. (e.0, stays i) ∷ all_of (goes i) es) ∙ ap (λ l. e ∷ l) rest.0, ap (λ v. (past_all v es).in_order) goes ∙ rest.1)
  ]

  -- the pairs of a list that is in order, once all have moved
  abbrev Kept : KeptMark → KeptMark → Type 0
  Kept x y = IsNotBelow (shown x) (shown y) ⊎ (IsTouched edit x × IsTouched edit y)

  pub kept_pairs : (es : List (ℕ × KeptMark)) → edit.start ≤ edit.end → AreMarks es → IsInOrder (marks_of es) → Pairs Kept es
  kept_pairs [] up h ordered = tt
  kept_pairs (e ∷ es) up (h, hs) (o, os) =
      (each_with is_mark (λ m. stands_before (as_mark e.1) (as_mark m) ≡ true) (Kept e.1) (λ m g before. keeps_order edit e.1 m up h g before) es hs (each_listed (stands_before (as_mark e.1)) es o), kept_pairs es up hs os)

  module _ (us vs : List (ℕ × KeptMark)) (up : edit.start ≤ edit.end) (values : AreMarks (us ++ vs)) (low : Each (λ m. starts_behind edit m ≡ false) us) (high : Each (λ m. starts_behind edit m ≡ true) vs) where
    front : Run (record { start = pos 0; end = pos 0; id = 0 }) true us
    front = run (record { start = pos 0; end = pos 0; id = 0 }) true us up (each_left is_mark us vs values) low

    -- the list once the mover has gone through it
    pub carried : all_of (starting edit) (us ++ vs) ≡ moved_items edit us ++ vs
    carried =
        rewritten-append rewritten_by onward_of (starting edit) us vs ∙ ap (λ v. all_of (starting edit) us ++ all_of v vs) front.goes
        ∙ (λ i. front.made i ++ (behind_all front.greatest front.ordered false vs high).0 i)

    ordered_is : (past_all (starting edit) (us ++ vs)).in_order ≡ front.ordered
    ordered_is =
        ap (λ (v : Moving). v.in_order) (onward-append rewritten_by onward_of (starting edit) us vs ∙ ap (λ v. past_all v vs) front.goes) ∙ (behind_all front.greatest front.ordered false vs high).1

    both : (xs ys : List (ℕ × KeptMark)) → Pairs Kept (xs ++ ys) → Pairs Apart xs → Each (λ m. starts_behind edit m ≡ true) ys → Pairs (λ x y. IsNotBelow (shown x) (shown y)) (xs ++ ys)
    both [] [] k a h = tt
    both [] (y ∷ ys) (k, ks) a (h, hs) = (
      each_weaker (Kept y.1) (λ m. IsNotBelow (shown y.1) (shown m)) (λ m c. elim c [
        | inl above ↦ above
        | inr (t, t2) ↦ absurd (both_ways (starts_behind edit y.1) t.1 h)
      ]) ys k,
      both [] ys ks tt hs,
    )
    both (x ∷ xs) ys (k, ks) (a, as_) h = (
      each_both (λ m. IsNotBelow (shown x.1) (shown m)) xs ys
          (each_with (Kept x.1) (Apart x.1) (λ m. IsNotBelow (shown x.1) (shown m)) (λ m c f. elim c [
            | inl above ↦ above
            | inr (t, t2) ↦ f t t2
          ]) xs (each_left (Kept x.1) xs ys k) a)
          (each_with (Kept x.1) (λ m. starts_behind edit m ≡ true) (λ m. IsNotBelow (shown x.1) (shown m)) (λ m c s. elim c [
            | inl above ↦ above
            | inr (t, t2) ↦ absurd (both_ways (starts_behind edit m) t2.1 s)
          ]) ys (each_right (Kept x.1) xs ys k) h),
      both xs ys ks as_ h,
    )

    pub sorted_where : IsInOrder (marks_of (us ++ vs)) → (past_all (starting edit) (us ++ vs)).in_order ≡ true → AreSorted (moved_items edit (us ++ vs))
    sorted_where ordered seen = changed_pairs IsNotBelow (moved_mark edit) (us ++ vs) (both us vs (kept_pairs (us ++ vs) up values ordered) (front.apart (sym ordered_is ∙ seen)) high)

-- Invariants of the rules: ids ascend, and no id is used twice.
use Rattle.std.proofs.Common.{drop, ◌≡◌, ℕ, ◌+◌, ◌<◌, ◌≤◌, Bool, true, false, not, cond, Ok, Err, List, [], ◌∷◌, ◌++◌, length, map, filter, refl, ap, sym, subst, ◌∙◌, leb-false, ltb-false, arith, Result}
use Rattle.std.specs.List.{All}
use Rattle.std.proofs.lemmas.Bool.{or_parts, not-true}
use Rattle.std.proofs.lemmas.List.{length-map, length_push}
use Rattle.std.proofs.lemmas.List.Elements.{All-nil, All-head, All-tail, All-push, All-map, All-weaker, All-filter, filter_passes}
use Rattle.std.proofs.lemmas.List.Folds.{list_any_none}
use Rattle.snapshot_rules.specs.Refusals.{ShelfRefusal, limit, unknown}
use Rattle.snapshot_rules.specs.Snapshots.{Snapshot, FlatShelf, IsRising, IsSound, empty_shelf, has_id, is_open, is_full, skipped, flat_take, flat_skip, flat_close, most_snapshots, greatest_snapshot}

pub IsSound-empty : IsSound empty_shelf
IsSound-empty = record { rising = tt; used = All-nil (λ (s : Snapshot). s.id < 1); few = omega arith; first = omega arith; last = omega arith }

IsRising-push : (xs : List Snapshot) (s : Snapshot) → IsRising xs → All (λ (x : Snapshot). x.id < s.id) xs → IsRising (xs ++ s ∷ [])
IsRising-push [] s rising below = (All-nil (λ (later : Snapshot). s.id < later.id), tt)
IsRising-push (x ∷ xs) s rising below = (
  All-push (λ (later : Snapshot). x.id < later.id) xs s rising.0 (All-head (λ (y : Snapshot). y.id < s.id) x xs below),
  IsRising-push xs s rising.1 (All-tail (λ (y : Snapshot). y.id < s.id) x xs below),
)

same_id-by : (t : Bool) (id n : ℕ) (s : Snapshot) → (cond t (record s { rest = drop n s.rest }) s).id ≡ s.id
same_id-by true id n s = refl
same_id-by false id n s = refl

same_id : (id n : ℕ) (s : Snapshot) → (skipped id n s).id ≡ s.id
same_id id n s = same_id-by (has_id id s) id n s

module _ (id n : ℕ) where
  IsRising-skipped : (xs : List Snapshot) → IsRising xs → IsRising (map (skipped id n) xs)
  IsRising-skipped [] rising = tt
  IsRising-skipped (x ∷ xs) rising = (
    All-map (λ (later : Snapshot). (skipped id n x).id < later.id) (skipped id n) xs
        (All-weaker (λ (later : Snapshot). x.id < later.id) (λ (later : Snapshot). (skipped id n x).id < (skipped id n later).id)
        (λ later less. omega (arith, same_id id n x, same_id id n later)) xs rising.0),
    IsRising-skipped xs rising.1,
  )

  pub IsSound-skip : (f : FlatShelf) → IsSound f → IsSound (flat_skip f id n)
  IsSound-skip f sound = record {
    rising = IsRising-skipped f.snapshots sound.rising;
    used = All-map (λ (s : Snapshot). s.id < f.next_id) (skipped id n) f.snapshots
        (All-weaker (λ (s : Snapshot). s.id < f.next_id) (λ (s : Snapshot). (skipped id n s).id < f.next_id)
        (λ s less. omega (arith, same_id id n s)) f.snapshots sound.used);
    few = omega (arith, length-map f.snapshots (skipped id n), sound.few);
    first = sound.first;
    last = sound.last;
  }

IsRising-filter-by : (t : Bool) (test : Snapshot → Bool) (x : Snapshot) (xs : List Snapshot) → All (λ (later : Snapshot). x.id < later.id) xs
    → IsRising (filter test xs)
    → IsRising (cond t (x ∷ filter test xs) (filter test xs))
IsRising-filter-by true test x xs below rising = (All-filter test (λ (later : Snapshot). x.id < later.id) xs below, rising)
IsRising-filter-by false test x xs below rising = rising

IsRising-filter : (test : Snapshot → Bool) (xs : List Snapshot) → IsRising xs → IsRising (filter test xs)
IsRising-filter test [] rising = tt
IsRising-filter test (x ∷ xs) rising = IsRising-filter-by (test x) test x xs rising.0 (IsRising-filter test xs rising.1)

length-filter-by : (t : Bool) (test : Snapshot → Bool) (x : Snapshot) (xs : List Snapshot) → length (filter test xs) ≤ length xs
    → length (cond t (x ∷ filter test xs) (filter test xs)) ≤ length (x ∷ xs)
length-filter-by true test x xs few = omega arith
length-filter-by false test x xs few = omega arith

length-filter : (test : Snapshot → Bool) (xs : List Snapshot) → length (filter test xs) ≤ length xs
length-filter test [] = omega arith
length-filter test (x ∷ xs) = length-filter-by (test x) test x xs (length-filter test xs)

abbrev value_or : FlatShelf → Result FlatShelf ShelfRefusal → FlatShelf
value_or f (Ok g) = g
value_or f (Err e) = f

value-same : (x y : FlatShelf) (r : Result FlatShelf ShelfRefusal) → r ≡ Ok x → r ≡ Ok y → x ≡ y
value-same x y r a b = ap (value_or x) (sym a ∙ b)

module _ (f new : FlatShelf) (id : ℕ) where
  abbrev closed : FlatShelf
  closed = record f { snapshots = filter (λ s. not (has_id id s)) f.snapshots }

  closed-by : (t : Bool) → cond t (Ok closed) (Err unknown) ≡ Ok new → closed ≡ new
  closed-by true e = value-same closed new (Ok closed) refl e
  closed-by false e = absurd (cc e)

  pub IsSound-close : IsSound f → flat_close f id ≡ Ok new → IsSound new
  IsSound-close sound accepted =
      subst IsSound (closed-by (is_open f id) accepted)
      (record {
        rising = IsRising-filter (λ s. not (has_id id s)) f.snapshots sound.rising;
        used = All-filter (λ s. not (has_id id s)) (λ (s : Snapshot). s.id < f.next_id) f.snapshots sound.used;
        few = omega (arith, length-filter (λ s. not (has_id id s)) f.snapshots, sound.few);
        first = sound.first;
        last = sound.last;
      })

  -- a closed snapshot is not open, and its id is not used again
  pub not_open-closed : flat_close f id ≡ Ok new → (is_open new id ≡ false) × (new.next_id ≡ f.next_id)
  not_open-closed accepted =
      let same = closed-by (is_open f id) accepted in (
        subst (λ (g : FlatShelf). is_open g id ≡ false) same
            (list_any_none (has_id id) closed.snapshots
            (All-weaker (λ (s : Snapshot). not (has_id id s) ≡ true) (λ (s : Snapshot). has_id id s ≡ false) (λ s other. not-true (has_id id s) other) closed.snapshots
            (filter_passes (λ s. not (has_id id s)) f.snapshots))),
        ap (λ (g : FlatShelf). g.next_id) (sym same),
      )

module _ (f new : FlatShelf) (units : List ℕ) where
  abbrev taken : FlatShelf
  taken = record { snapshots = f.snapshots ++ record { id = f.next_id; rest = units } ∷ []; next_id = f.next_id + 1 }

  taken-by : (t : Bool) → is_full f ≡ t → cond t (Err limit) (Ok taken) ≡ Ok new → (is_full f ≡ false) × (taken ≡ new)
  taken-by true full e = absurd (cc e)
  taken-by false full e = (full, value-same taken new (Ok taken) refl e)

  pub IsSound-take : IsSound f → flat_take f units ≡ Ok new → IsSound new
  IsSound-take sound accepted =
      let facts = taken-by (is_full f) refl accepted in
      let room = or_parts _ _ facts.0 in
      let few : length f.snapshots < most_snapshots = leb-false most_snapshots (length f.snapshots) room.0 in
      let small : f.next_id ≤ greatest_snapshot = ltb-false greatest_snapshot f.next_id room.1 in
      subst IsSound facts.1
      (record {
        rising = IsRising-push f.snapshots (record { id = f.next_id; rest = units }) sound.rising sound.used;
        used = All-push (λ (s : Snapshot). s.id < f.next_id + 1) f.snapshots (record { id = f.next_id; rest = units })
            (All-weaker (λ (s : Snapshot). s.id < f.next_id) (λ (s : Snapshot). s.id < f.next_id + 1) (λ s less. omega arith) f.snapshots sound.used) (omega arith);
        few = omega (arith, few, length_push f.snapshots (record { id = f.next_id; rest = units }));
        first = omega arith;
        last = omega (arith, small);
      })

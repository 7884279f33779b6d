-- A binary search finds the snapshot of an id, and no other snapshot has this id.
use Rattle.std.proofs.Common.{◌≡◌, ◌≢◌, ℕ, zero, suc, ◌+◌, ◌<◌, ◌≤◌, true, false, not, ◌||◌, nat_le, nat_lt, Option, Some, None, List, [], ◌∷◌, length, get_or, set, take, ◌++◌, map, filter, find, Result, Ok, Err, refl, ap, ap₂, sym, inl, inr, subst, ◌∙◌, arith}
use Rattle.std.specs.List.{All, list_any, remove}
use Rattle.std.specs.List.Sorted.{IsSearchInRange, IsBinarySearchResult, IsNonDecreasingBy}
use Rattle.std.specs.Result.{result_ok}
use Rattle.std.specs.Ordering.{nat_cmp, ordering_index}
use Rattle.std.proofs.Math.ListN.{get_or-map}
use Rattle.std.proofs.Math.Seq.{map-set_same}
use Rattle.std.proofs.lemmas.Bool.{eq-eqb, cases_lt}
use Rattle.std.proofs.lemmas.Bool.Decides.{nat_tests}
use Rattle.std.proofs.lemmas.Cmp.{ranked}
use Rattle.std.proofs.lemmas.List.{length-map, map-append, get_or_default, take_all, drop_all}
use Rattle.std.proofs.lemmas.List.Elements.{All-head, All-tail}
use Rattle.std.proofs.lemmas.List.Folds.{list_any_none, list_any-from_Any}
use Rattle.chunk_buffers.specs.declared.span.ChunkSpan.{ChunkSpan}
use Rattle.snapshot_rules.specs.Snapshots.{Snapshot, IsRising, IsSound, most_snapshots, greatest_snapshot, flat_take, flat_skip, flat_close}
use Rattle.snapshot_rules.proofs.Shelves.{IsSound-take, IsSound-close}
use Rattle.snapshots.specs.Spans.{Spelled, spelled, snapshot_of, spells, without, IsPlaceOf}
use Rattle.snapshots.specs.Shown.{Shown, shown, IsOrdered, LieIn, Lies}
use Rattle.snapshots.proofs.Flat.{passed, skipped-shelf, passed-shelf, closed-open}

-- each id is smaller than those after it
abbrev pub Rises : List Spelled → Type 0
Rises [] = Unit {0}
Rises (x ∷ xs) = All (λ (later : Spelled). x.id < later.id) xs × Rises xs

-- the ids rise if those of the flat snapshots do
pub rises : (b : List (List ℕ)) (xs : List Spelled) → IsRising (map (snapshot_of b) xs) → Rises xs
rises b [] rising = tt
rises b (x ∷ xs) rising = (
  λ k d inside. omega (arith, rising.0 k (snapshot_of b d) (omega (arith, length-map xs (snapshot_of b))), ap (λ (s : Snapshot). s.id) (get_or-map (snapshot_of b) xs k d)),
  rises b xs rising.1,
)

other : (id : ℕ) (s : Spelled) → s.id ≢ id → spells id s ≡ false
other id s differs = grind (arith, nat_tests)

own : (id : ℕ) (s : Spelled) → s.id ≡ id → spells id s ≡ true
own id s same = eq-eqb s.id id same

ascending : (xs : List Spelled) → Rises xs → (i j : ℕ) (d : Spelled) → i ≤ j → j < length xs → (get_or xs i d).id ≤ (get_or xs j d).id
ascending [] all i j d order inside = absurd (omega arith)
ascending (x ∷ xs) all zero zero d order inside = omega arith
ascending (x ∷ xs) all zero (suc j) d order inside = omega (arith, all.0 j d (omega arith))
ascending (x ∷ xs) all (suc i) zero d order inside = absurd (omega arith)
ascending (x ∷ xs) all (suc i) (suc j) d order inside = ascending xs all.1 i j d (omega arith) (omega arith)

module _ (id : ℕ) (xs : List Spelled) (all : Rises xs) where
  comparisons_rise : IsNonDecreasingBy (λ s. ordering_index (nat_cmp s.id id)) xs
  comparisons_rise = λ i j d order inside. let le = ascending xs all i j d order inside in grind (arith, nat_tests)

  pub place-searched : (r : Result ℕ ℕ) → IsSearchInRange r (length xs) → IsBinarySearchResult (λ s. nat_cmp s.id id) xs r
      → (o : Option ℕ) → o ≡ result_ok r → IsPlaceOf id xs o
  place-searched (Ok i) inside equal o is = subst (IsPlaceOf id xs) (sym is) (inside, λ d. ranked _ id _ (sym (equal d)))
  place-searched (Err i) inside parted o is =
      let parts = parted comparisons_rise in
      let none : All (λ s. s.id ≢ id) xs = λ k d within. elim (cases_lt k i) [
        | inl below ↦ let less : (get_or xs k d).id < id = ranked _ id _ (sym (parts.0 k d (omega arith) below)) in omega arith
        | inr from ↦ let more : id < (get_or xs k d).id = ranked _ id _ (sym (parts.1 k d from within)) in omega arith
      ] in
      subst (IsPlaceOf id xs) (sym is) none

module _ (id n : ℕ) where
  passed-same : (s : Spelled) → spells id s ≡ false → passed id n s ≡ s
  passed-same s differs = rw differs refl

  passed-all : (xs : List Spelled) → All (λ s. spells id s ≡ false) xs → map (passed id n) xs ≡ xs
  passed-all [] none = refl
  passed-all (x ∷ xs) none =
      ap₂ ◌∷◌ (passed-same x (All-head (λ s. spells id s ≡ false) x xs none)) (passed-all xs (All-tail (λ s. spells id s ≡ false) x xs none))

module _ (id : ℕ) where
  kept-by : (x : Spelled) (xs ys : List Spelled) → spells id x ≡ false → filter (λ s. not (spells id s)) xs ≡ ys
      → filter (λ s. not (spells id s)) (x ∷ xs) ≡ x ∷ ys
  kept-by x xs ys differs e = rw differs (ap (λ zs. x ∷ zs) e)

  kept-all : (xs : List Spelled) → All (λ s. spells id s ≡ false) xs → filter (λ s. not (spells id s)) xs ≡ xs
  kept-all [] none = refl
  kept-all (x ∷ xs) none =
      kept-by x xs xs (All-head (λ s. spells id s ≡ false) x xs none) (kept-all xs (All-tail (λ s. spells id s ≡ false) x xs none))

  -- the snapshots behind the one of this id have greater ids, and those before it smaller ones
  behind : (x : Spelled) (xs : List Spelled) → All (λ (later : Spelled). x.id < later.id) xs → x.id ≡ id → All (λ s. spells id s ≡ false) xs
  behind x xs above here k d inside = other id (get_or xs k d) (omega (arith, above k d inside))

  before : (x : Spelled) (xs : List Spelled) (i : ℕ) (d : Spelled) → All (λ (later : Spelled). x.id < later.id) xs → i < length xs → (get_or xs i d).id ≡ id
      → spells id x ≡ false
  before x xs i d above inside here = other id x (omega (arith, above i d inside))

  pub find-place : (i : ℕ) (xs : List Spelled) (d : Spelled) → Rises xs → i < length xs → (get_or xs i d).id ≡ id
      → find (spells id) xs ≡ Some (get_or xs i d)
  find-place i [] d all inside here = absurd (omega arith)
  find-place zero (x ∷ xs) d all inside here = rw (own id x here) refl
  find-place (suc i) (x ∷ xs) d all inside here =
      rw (before x xs i d all.0 (omega arith) here) (find-place i xs d all.1 (omega arith) here)

  pub any-place : (i : ℕ) (xs : List Spelled) (d : Spelled) → i < length xs → (get_or xs i d).id ≡ id → list_any (spells id) xs ≡ true
  any-place i xs d inside here = list_any-from_Any (spells id) xs (i, get_or xs i d, inside, get_or_default xs i (get_or xs i d) d inside, own id (get_or xs i d) here)

  pub filter-place : (i : ℕ) (xs : List Spelled) (d : Spelled) → Rises xs → i < length xs → (get_or xs i d).id ≡ id
      → filter (λ s. not (spells id s)) xs ≡ remove xs i
  filter-place i [] d all inside here = absurd (omega arith)
  filter-place zero (x ∷ xs) d all inside here = rw (own id x here) (kept-all xs (behind x xs all.0 here))
  filter-place (suc i) (x ∷ xs) d all inside here =
      kept-by x xs (remove xs i) (before x xs i d all.0 (omega arith) here) (filter-place i xs d all.1 (omega arith) here)

  pub passed-place : (n i : ℕ) (xs : List Spelled) (d : Spelled) → Rises xs → i < length xs → (get_or xs i d).id ≡ id
      → map (passed id n) xs ≡ set xs i (record (get_or xs i d) { spans = without n (get_or xs i d).spans })
  passed-place n i [] d all inside here = absurd (omega arith)
  passed-place n zero (x ∷ xs) d all inside here =
      rw (own id x here) (ap (λ ys. record x { spans = without n x.spans } ∷ ys) (passed-all id n xs (behind x xs all.0 here)))
  passed-place n (suc i) (x ∷ xs) d all inside here =
      ap₂ ◌∷◌ (passed-same id n x (before x xs i d all.0 (omega arith) here)) (passed-place n i xs d all.1 (omega arith) here)

  module _ (xs : List Spelled) (none : All (λ s. s.id ≢ id) xs) where
    others : All (λ s. spells id s ≡ false) xs
    others k d inside = other id (get_or xs k d) (none k d inside)

    pub any-none : list_any (spells id) xs ≡ false
    any-none = list_any_none (spells id) xs others

    pub passed-none : (n : ℕ) → map (passed id n) xs ≡ xs
    passed-none n = passed-all id n xs others

  pub find-none : (xs : List Spelled) → All (λ s. s.id ≢ id) xs → find (spells id) xs ≡ None
  find-none [] none = refl
  find-none (x ∷ xs) none =
      rw (other id x (All-head (λ (s : Spelled). s.id ≢ id) x xs none)) (find-none xs (All-tail (λ (s : Spelled). s.id ≢ id) x xs none))

-- without buffers, only the ids are shown
spelled-none : (spans : List ChunkSpan) → spelled [] spans ≡ []
spelled-none [] = refl
spelled-none (span ∷ spans) = rw (spelled-none spans) (ap (λ (u : List ℕ). take span.units u ++ []) (drop_all span.start [] (omega arith)) ∙ ap (λ (u : List ℕ). u ++ []) (take_all span.units [] (omega arith)))

module _ (shelf : Shown) (ordered : IsOrdered shelf) where
  pub taken-ordered : (spans : List ChunkSpan) → (nat_le most_snapshots (length shelf.snapshots) || nat_lt greatest_snapshot shelf.next_id) ≡ false
      → IsOrdered (record { snapshots = shelf.snapshots ++ record { id = shelf.next_id; spans = spans } ∷ []; next_id = shelf.next_id + 1 })
  taken-ordered spans room =
      let new : Shown = record { snapshots = shelf.snapshots ++ record { id = shelf.next_id; spans = spans } ∷ []; next_id = shelf.next_id + 1 } in
      let taken : flat_take (shown [] shelf) (spelled [] spans) ≡ Ok (shown [] new) = rw (length-map, room, map-append) refl in
      IsSound-take (shown [] shelf) (shown [] new) (spelled [] spans) ordered taken

  module _ (id i : ℕ) (d : Spelled) (inside : i < length shelf.snapshots) (here : (get_or shelf.snapshots i d).id ≡ id) where
    abbrev all : Rises shelf.snapshots
    all = rises [] shelf.snapshots ordered.rising

    abbrev closed : Shown
    closed = record { snapshots = remove shelf.snapshots i; next_id = shelf.next_id }

    pub closed-place : (b : List (List ℕ)) → flat_close (shown b shelf) id ≡ Ok (shown b closed)
    closed-place b =
        closed-open b shelf id (remove shelf.snapshots i) shelf.next_id (any-place id i shelf.snapshots d inside here)
        (sym (filter-place id i shelf.snapshots d all inside here)) refl

    pub closed-ordered : IsOrdered closed
    closed-ordered = IsSound-close (shown [] shelf) (shown [] closed) id ordered (closed-place [])

    module _ (n : ℕ) where
      abbrev read : Spelled
      read = record (get_or shelf.snapshots i d) { spans = without n (get_or shelf.snapshots i d).spans }

      abbrev left : List Spelled
      left = set shelf.snapshots i read

      left_is : left ≡ map (passed id n) shelf.snapshots
      left_is = sym (passed-place id n i shelf.snapshots d all inside here)

      pub skipped-place : (b : List (List ℕ)) → LieIn b shelf → shown b (record { snapshots = left; next_id = shelf.next_id }) ≡ flat_skip (shown b shelf) id n
      skipped-place b lie = skipped-shelf b shelf id n left shelf.next_id lie left_is refl

      pub skipped-lie : (b : List (List ℕ)) → LieIn b shelf → All (Lies b) left
      skipped-lie b lie = passed-shelf b shelf id n left lie left_is

      pub skipped-ordered : IsOrdered (record { snapshots = left; next_id = shelf.next_id })
      skipped-ordered =
          let unread = spelled-none (get_or shelf.snapshots i d).spans in
          let same : snapshot_of [] read ≡ snapshot_of [] (get_or shelf.snapshots i d) =
          ap (λ (u : List ℕ). record { id = (get_or shelf.snapshots i d).id; rest = u }) (spelled-none (without n (get_or shelf.snapshots i d).spans) ∙ sym unread) in
          subst (λ (xs : List Snapshot). IsSound (record { snapshots = xs; next_id = shelf.next_id }))
          (sym (map-set_same (snapshot_of []) shelf.snapshots i read d same)) ordered

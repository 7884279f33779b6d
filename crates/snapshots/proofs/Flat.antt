-- A shelf with spans behaves as its flat shelf.
use Rattle.std.proofs.Common.{◌≡◌, ℕ, ◌<◌, ◌≤◌, Bool, true, false, not, Option, Some, None, Ok, Err, lt-ltb, le-ltb, List, [], ◌∷◌, map, filter, find, option_map, if◌then◌else◌, refl, ap, ap₂, sym, subst, unwrap_or}
use Rattle.std.specs.List.{All, list_any}
use Rattle.std.proofs.lemmas.List.Elements.{All-head, All-tail, All-same, All-map, All-weaker}
use Rattle.chunk_buffers.specs.Chunks.{LiesIn}
use Rattle.snapshot_rules.specs.Refusals.{unknown, range}
use Rattle.snapshot_rules.specs.Snapshots.{has_id, skipped, front, least_read, flat_peek, flat_skip, flat_close}
use Rattle.snapshots.specs.Spans.{Spelled, spelled, snapshot_of, spells, without}
use Rattle.snapshots.specs.Shown.{Shown, shown, LieIn, Lies}
use Rattle.snapshots.proofs.Spelling.{spelled-without, LiesIn-without}

-- the first n units were read, if it has this id
abbrev pub passed : ℕ → ℕ → Spelled → Spelled
passed id n s = if spells id s then record s { spans = without n s.spans } else s

module _ (b : List (List ℕ)) where
  pub is_open-shown : (id : ℕ) (xs : List Spelled) → list_any (has_id id) (map (snapshot_of b) xs) ≡ list_any (spells id) xs
  is_open-shown id [] = refl
  is_open-shown id (x ∷ xs) = rw (is_open-shown id xs) refl

  find-shown-by : (t : Bool) (id : ℕ) (x : Spelled) (xs : List Spelled)
      → find (has_id id) (map (snapshot_of b) xs) ≡ option_map (snapshot_of b) (find (spells id) xs) → spells id x ≡ t
      → find (has_id id) (map (snapshot_of b) (x ∷ xs)) ≡ option_map (snapshot_of b) (find (spells id) (x ∷ xs))
  find-shown-by true id x xs more e = rw e refl
  find-shown-by false id x xs more e = rw e more

  pub find-shown : (id : ℕ) (xs : List Spelled) → find (has_id id) (map (snapshot_of b) xs) ≡ option_map (snapshot_of b) (find (spells id) xs)
  find-shown id [] = refl
  find-shown id (x ∷ xs) = find-shown-by (spells id x) id x xs (find-shown id xs) refl

  filter-shown-by : (t : Bool) (id : ℕ) (x : Spelled) (xs : List Spelled)
      → filter (λ s. not (has_id id s)) (map (snapshot_of b) xs) ≡ map (snapshot_of b) (filter (λ s. not (spells id s)) xs) → spells id x ≡ t
      → filter (λ s. not (has_id id s)) (map (snapshot_of b) (x ∷ xs)) ≡ map (snapshot_of b) (filter (λ s. not (spells id s)) (x ∷ xs))
  filter-shown-by true id x xs more e = rw e more
  filter-shown-by false id x xs more e = rw e (ap (λ ys. snapshot_of b x ∷ ys) more)

  pub filter-shown : (id : ℕ) (xs : List Spelled) → filter (λ s. not (has_id id s)) (map (snapshot_of b) xs) ≡ map (snapshot_of b) (filter (λ s. not (spells id s)) xs)
  filter-shown id [] = refl
  filter-shown id (x ∷ xs) = filter-shown-by (spells id x) id x xs (filter-shown id xs) refl

  skipped-shown-by : (t : Bool) (id n : ℕ) (x : Spelled) → Lies b x → spells id x ≡ t
      → snapshot_of b (passed id n x) ≡ skipped id n (snapshot_of b x)
  skipped-shown-by true id n x lie e = rw e (ap (λ u. record { id = x.id; rest = u }) (spelled-without b n x.spans lie))
  skipped-shown-by false id n x lie e = rw e refl

  pub skipped-shown : (id n : ℕ) (xs : List Spelled) → All (Lies b) xs
      → map (snapshot_of b) (map (passed id n) xs) ≡ map (skipped id n) (map (snapshot_of b) xs)
  skipped-shown id n [] all = refl
  skipped-shown id n (x ∷ xs) all =
      ap₂ ◌∷◌ (skipped-shown-by (spells id x) id n x (All-head (Lies b) x xs all) refl)
      (skipped-shown id n xs (All-tail (Lies b) x xs all))

  passed-lies-by : (t : Bool) (id n : ℕ) (x : Spelled) → All (LiesIn b) x.spans → spells id x ≡ t → All (LiesIn b) (passed id n x).spans
  passed-lies-by true id n x lie e = rw e (LiesIn-without b n x.spans lie)
  passed-lies-by false id n x lie e = rw e lie

  pub skipped-shelf : (shelf : Shown) (id n : ℕ) (left : List Spelled) (next : ℕ) → LieIn b shelf → left ≡ map (passed id n) shelf.snapshots
      → next ≡ shelf.next_id → shown b (record { snapshots = left; next_id = next }) ≡ flat_skip (shown b shelf) id n
  skipped-shelf shelf id n left next lie left_is next_is =
      rw (left_is, next_is) (ap (λ xs. record { snapshots = xs; next_id = shelf.next_id }) (skipped-shown id n shelf.snapshots lie))

  pub passed-shelf : (shelf : Shown) (id n : ℕ) (left : List Spelled) → LieIn b shelf → left ≡ map (passed id n) shelf.snapshots
      → All (Lies b) left
  passed-shelf shelf id n left lie left_is =
      All-same (Lies b) left _ left_is
      (All-map (Lies b) (passed id n) shelf.snapshots
      (All-weaker (Lies b) (λ (s : Spelled). All (LiesIn b) (passed id n s).spans)
      (λ s each. passed-lies-by (spells id s) id n s each refl) shelf.snapshots lie))

  pub closed-unknown : (shelf : Shown) (id : ℕ) → list_any (spells id) shelf.snapshots ≡ false → flat_close (shown b shelf) id ≡ Err unknown
  closed-unknown shelf id closed = rw (is_open-shown id shelf.snapshots, closed) refl

  pub closed-open : (shelf : Shown) (id : ℕ) (left : List Spelled) (next : ℕ) → list_any (spells id) shelf.snapshots ≡ true
      → left ≡ filter (λ s. not (spells id s)) shelf.snapshots → next ≡ shelf.next_id
      → flat_close (shown b shelf) id ≡ Ok (shown b (record { snapshots = left; next_id = next }))
  closed-open shelf id left next is_open left_is next_is = rw (is_open-shown id shelf.snapshots, is_open, left_is, next_is, filter-shown id shelf.snapshots) refl

  pub peeked-unknown : (shelf : Shown) (id count : ℕ) → None ≡ find (spells id) shelf.snapshots → flat_peek (shown b shelf) id count ≡ Err unknown
  peeked-unknown shelf id count found = rw (find-shown id shelf.snapshots, ← found) refl

  pub peeked-range : (shelf : Shown) (id count : ℕ) (s : Spelled) → Some s ≡ find (spells id) shelf.snapshots → count < least_read
      → flat_peek (shown b shelf) id count ≡ Err range
  peeked-range shelf id count s found few = rw (find-shown id shelf.snapshots, ← found, lt-ltb count least_read few) refl

  pub peeked-front : (shelf : Shown) (id count : ℕ) (s : Spelled) → Some s ≡ find (spells id) shelf.snapshots → least_read ≤ count
      → flat_peek (shown b shelf) id count ≡ Ok (front count (spelled b s.spans))
  peeked-front shelf id count s found enough = rw (find-shown id shelf.snapshots, ← found, le-ltb count least_read enough) refl

some-same : {X : Type 0} {x y : X} → Some x ≡ Some y → x ≡ y
some-same {X} {x} {y} e = ap (λ (o : Option X). unwrap_or o x) e

-- a property of all items holds for the found one
found-by : {X : Type 0} (P : X → Type 0) (test : X → Bool) (t : Bool) (x y : X) (xs : List X) → test x ≡ t → P x
    → (Some y ≡ find test xs → P y) → Some y ≡ find test (x ∷ xs) → P y
found-by P test true x y xs e here later found = subst P (some-same (sym (rw e at found))) here
found-by P test false x y xs e here later found = later (rw e at found)

pub All-found : {X : Type 0} (P : X → Type 0) (test : X → Bool) (y : X) (xs : List X) → All P xs → Some y ≡ find test xs → P y
All-found P test y [] all found = absurd (cc found)
All-found P test y (x ∷ xs) all found =
    found-by P test (test x) x y xs refl (All-head P x xs all) (All-found P test y xs (All-tail P x xs all)) found

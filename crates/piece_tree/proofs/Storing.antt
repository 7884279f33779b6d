-- Runs and their storage: what a write at one arena node changes, and what it leaves unchanged.
use Rattle.std.proofs.Common.{◌≡◌, ◌≢◌, ℕ, ◌+◌, ◌<◌, ◌≤◌, ◌==◌, cond, List, [], ◌∷◌, ◌++◌, length, map, Option, Some, None, inl, inr, refl, sym, ap, ◌∙◌, subst, arith, eq-eqb}
use Rattle.std.proofs.lemmas.Bool.{ne_eqb}
use Rattle.std.proofs.lemmas.Bool.Decides.{eqb_tells}
use Rattle.std.specs.Prelude.{IfSome}
use Rattle.std.specs.List.{All}
use Rattle.std.specs.Ordering.{nat_cmp}
use Rattle.std.specs.FinMap as map_of
use Rattle.std.proofs.lemmas.List.{map-append, length-take}
use Rattle.std.proofs.lemmas.List.Elements.{All-nil, All-cons, All-head, All-tail, All-append, All-weaker}
use Rattle.std.proofs.lemmas.List.Sums.{sum_by-cons, sum_by-append}
use Rattle.piece_tree.proofs.Sums.{units-append, All-parts}
use Rattle.raw_arena.specs.Arena.{Nodes, nodes, node}
use Rattle.rb_rules.specs.Woven as woven
use Rattle.rb_arena.specs.RbTree.{Listed, SplitsAt, IsItem, AtItem, first_or, last_or}
use Rattle.rb_arena.specs.Walking.{LeftFrom}
use Rattle.piece_tree.specs.declared.piece.Piece.{Piece}
use Rattle.piece_tree.specs.declared.piece.PieceSum.{PieceSum}
use Rattle.piece_tree.specs.declared.run.Run.{Run}
use Rattle.piece_tree.specs.declared.weave.StoredRun.{StoredRun}
use Rattle.piece_tree.specs.Pieces.{unit_count, break_count_of, sum_of}
use Rattle.piece_tree.specs.Searches.{adding, few_breaks}
use Rattle.piece_tree.specs.Runs.{Runs, IsRun, most_pieces, listed_in, pieces_in}
use Rattle.piece_tree.specs.Stored.{runs_of, pieces_at, stored_in, times_at, LieApart, IsStored, AreStored}

-- a division of a mapped list gives one of the list
pub record Parted {X Y : Type 0} (f : X → Y) (xs : List X) (us : List Y) (y : Y) (vs : List Y) : Type 0 where
  pub before : List X
  pub here : X
  pub after : List X
  pub place : xs ≡ before ++ here ∷ after
  pub befores : map f before ≡ us
  pub this : f here ≡ y
  pub afters : map f after ≡ vs

parted_on : {X Y : Type 0} (f : X → Y) (x : X) (xs : List X) (u : Y) (us : List Y) (y : Y) (vs : List Y) → f x ≡ u → Parted f xs us y vs → Parted f (x ∷ xs) (u ∷ us) y vs
parted_on f x xs u us y vs e p =
    let rest = p.befores in
    record { before = x ∷ p.before; here = p.here; after = p.after; place = ap (λ l. x ∷ l) p.place; befores = λ i. e i ∷ rest i; this = p.this; afters = p.afters }

pub parted : {X Y : Type 0} (f : X → Y) (xs : List X) (us : List Y) (y : Y) (vs : List Y) → map f xs ≡ us ++ y ∷ vs → Parted f xs us y vs
parted f [] [] y vs e = absurd (cc)
parted f [] (u ∷ us) y vs e = absurd (cc)
parted f (x ∷ xs) [] y vs e = record { before = []; here = x; after = xs; place = refl; befores = refl; this = cc; afters = cc }
parted f (x ∷ xs) (u ∷ us) y vs e = parted_on f x xs u us y vs (cc) (parted f xs us y vs (cc))

-- a run that contracts see is an item of the tree
pub record Stands (stored : Nodes Run) (items : List (ℕ × StoredRun)) (id : ℕ) (us : List (ℕ × List Piece)) (x : List Piece) (vs : List (ℕ × List Piece)) : Type 0 where
  pub before : List (ℕ × StoredRun)
  pub here : StoredRun
  pub after : List (ℕ × StoredRun)
  pub place : SplitsAt items id before here after
  pub befores : stored_in stored before ≡ us
  pub pieces : pieces_at stored here.at ≡ x
  pub afters : stored_in stored after ≡ vs

module _ (stored : Nodes Run) where
  pub stands : (items : List (ℕ × StoredRun)) (id : ℕ) (us : List (ℕ × List Piece)) (x : List Piece) (vs : List (ℕ × List Piece)) → SplitsAt (stored_in stored items) id us x vs → Stands stored items id us x vs
  stands items id us x vs e =
      let p = parted (λ (e : ℕ × StoredRun). (e.0, pieces_at stored e.1.at)) items us (id, x) vs e in
      let name : p.here.0 ≡ id = ap (λ (r : ℕ × List Piece). r.0) p.this in
      record {
        before = p.before;
        here = p.here.1;
        after = p.after;
        place = subst (λ i. SplitsAt items i p.before p.here.1 p.after) name p.place;
        befores = p.befores;
        pieces = ap (λ (r : ℕ × List Piece). r.1) p.this;
        afters = p.afters;
      }

  pub is_item : (items : List (ℕ × StoredRun)) (id : ℕ) → IsItem (stored_in stored items) id → IsItem items id
  is_item items id (us, (x, (vs, e))) = let s = stands items id us x vs e in (s.before, (s.here, (s.after, s.place)))

  pub stored-append : (us vs : List (ℕ × StoredRun)) → stored_in stored (us ++ vs) ≡ stored_in stored us ++ stored_in stored vs
  stored-append us vs = map-append (λ (e : ℕ × StoredRun). (e.0, pieces_at stored e.1.at)) us vs

  pub pieces_there : (at : ℕ) (run : Run) → node stored at ≡ Some run → pieces_at stored at ≡ listed_in run
  pieces_there at run there = ap (λ (o : Option Run). elim o [ None ↦ [] | Some r ↦ listed_in r ]) there

-- the number of units of some runs
abbrev pub units_in : List (ℕ × List Piece) → ℕ
units_in runs = unit_count (pieces_in runs)

-- the units that the tree counts
abbrev pub tree_units : List (ℕ × StoredRun) → ℕ
tree_units items = (woven.sum_of adding items).units

pub tree_units-append : (us vs : List (ℕ × StoredRun)) → tree_units (us ++ vs) ≡ tree_units us + tree_units vs
tree_units-append [] vs = omega arith
tree_units-append (u ∷ us) vs = omega (arith, tree_units-append us vs)

module _ (stored : Nodes Run) where
  pub sum_is : (items : List (ℕ × StoredRun)) → All (IsStored stored) items → woven.sum_of adding items ≡ sum_of (pieces_in (stored_in stored items))
  sum_is [] each = refl
  sum_is (e ∷ es) each =
      let first = All-head (IsStored stored) e es each in
      let rest = sum_is es (All-tail (IsStored stored) e es each) in
      let shown = pieces_there stored e.1.at first.run first.there in
      let own : e.1.sum ≡ sum_of (pieces_at stored e.1.at) = first.sum ∙ sym (ap sum_of shown) in
      let later : List Piece = pieces_in (stored_in stored es) in
      let units : e.1.sum.units + (woven.sum_of adding es).units ≡ unit_count (pieces_at stored e.1.at ++ later) =
      omega (arith, ap (λ (s : PieceSum). s.units) own, ap (λ (s : PieceSum). s.units) rest, units-append (pieces_at stored e.1.at) later) in
      let breaks : e.1.sum.breaks + (woven.sum_of adding es).breaks ≡ break_count_of (pieces_at stored e.1.at ++ later) =
      omega (arith, ap (λ (s : PieceSum). s.breaks) own, ap (λ (s : PieceSum). s.breaks) rest, sum_by-append (λ (p : Piece). p.breaks) (pieces_at stored e.1.at) later) in
      λ i. record { units = units i; breaks = breaks i }

  pub stored_here : (items us : List (ℕ × StoredRun)) (id : ℕ) (r : StoredRun) (vs : List (ℕ × StoredRun)) → SplitsAt items id us r vs → All (IsStored stored) items
      → All (IsStored stored) us × IsStored stored (id, r) × All (IsStored stored) vs
  stored_here items us id r vs e each =
      let (left, right) = All-parts (IsStored stored) us ((id, r) ∷ vs) (subst (All (IsStored stored)) e each) in
      (left, All-head (IsStored stored) (id, r) vs right, All-tail (IsStored stored) (id, r) vs right)

-- the number of runs at an arena node
times-split : (at : ℕ) (us : List (ℕ × StoredRun)) (e : ℕ × StoredRun) (vs : List (ℕ × StoredRun)) → times_at at (us ++ e ∷ vs) ≡ times_at at us + (cond (at == e.1.at) 1 0 + times_at at vs)
times-split at us e vs =
    let test : (ℕ × StoredRun) → ℕ = λ d. cond (at == d.1.at) 1 0 in
    sum_by-append test us (e ∷ vs) ∙ ap (λ n. times_at at us + n) (sum_by-cons test e vs)

one_here : (at : ℕ) (e : ℕ × StoredRun) → e.1.at ≡ at → ◌≡◌ {A = ℕ} (cond (at == e.1.at) 1 0) 1
one_here at e same = ap (λ b. cond {A = ℕ} b 1 0) (eq-eqb at e.1.at (sym same))

none_here : (at : ℕ) (e : ℕ × StoredRun) → e.1.at ≢ at → ◌≡◌ {A = ℕ} (cond (at == e.1.at) 1 0) 0
none_here at e other = ap (λ b. cond {A = ℕ} b 1 0) (ne_eqb at e.1.at (λ same. other (sym same)))

pub none_first : (at : ℕ) (e : ℕ × StoredRun) (es : List (ℕ × StoredRun)) → times_at at (e ∷ es) ≡ 0 → (e.1.at ≢ at) × (times_at at es ≡ 0)
none_first at e es none =
    let split = times-split at [] e es in
    (λ same. absurd (omega (arith, split, none, one_here at e same)), omega (arith, split, none))

-- no run is stored at a free node
none_free : (stored : Nodes Run) (at : ℕ) → node stored at ≡ None → (es : List (ℕ × StoredRun)) → All (IsStored stored) es → times_at at es ≡ 0
none_free stored at free [] each = refl
none_free stored at free (e ∷ es) each =
    let first = All-head (IsStored stored) e es each in
    let other : e.1.at ≢ at = λ same. (let taken = first.there in let there = ap (node stored) same in cc) in
    omega (arith, times-split at [] e es, none_here at e other, none_free stored at free es (All-tail (IsStored stored) e es each))

-- the runs before and after a position in the list, none of them stored at node `at`
pub record Around (stored : Nodes Run) (us vs : List (ℕ × StoredRun)) (at : ℕ) : Type 0 where
  pub left : All (IsStored stored) us
  pub right : All (IsStored stored) vs
  pub none_left : times_at at us ≡ 0
  pub none_right : times_at at vs ≡ 0
  pub apart : (q : ℕ) → times_at q us + times_at q vs ≤ 1

pub around_one : (tree : Listed StoredRun) (stored : Nodes Run) → AreStored tree stored → (us : List (ℕ × StoredRun)) (id : ℕ) (r : StoredRun) (vs : List (ℕ × StoredRun)) → SplitsAt tree.items id us r vs
    → Around stored us vs r.at
around_one tree stored h us id r vs e =
    let (left, here, right) = stored_here stored tree.items us id r vs e h.each in
    let count : (q : ℕ) → times_at q us + (cond (q == r.at) 1 0 + times_at q vs) ≤ 1 = λ q. subst (λ n. n ≤ 1) (ap (times_at q) e ∙ times-split q us (id, r) vs) (h.apart q) in
    let own = one_here r.at (id, r) refl in
    record {
      left = left;
      right = right;
      none_left = omega (arith, count r.at, own);
      none_right = omega (arith, count r.at, own);
      apart = λ q. omega (arith, count q);
    }

pub around_free : (tree : Listed StoredRun) (stored : Nodes Run) → AreStored tree stored → (us vs : List (ℕ × StoredRun)) → tree.items ≡ us ++ vs → (at : ℕ) → node stored at ≡ None → Around stored us vs at
around_free tree stored h us vs e at free =
    let (left, right) = All-parts (IsStored stored) us vs (subst (All (IsStored stored)) e h.each) in
    record {
      left = left;
      right = right;
      none_left = none_free stored at free us left;
      none_right = none_free stored at free vs right;
      apart = λ q. subst (λ n. n ≤ 1) (ap (times_at q) e ∙ sum_by-append (λ (d : ℕ × StoredRun). cond (q == d.1.at) 1 0) us vs) (h.apart q);
    }

-- the arena changes at one node only
module _ (old new : Nodes Run) (at : ℕ) (others : (q : ℕ) → q ≢ at → node new q ≡ node old q) where
  stays : (es : List (ℕ × StoredRun)) → times_at at es ≡ 0 → stored_in new es ≡ stored_in old es
  stays [] none = refl
  stays (e ∷ es) none =
      let (other, rest) = none_first at e es none in
      let same = stays es rest in
      let own = ap (λ (o : Option Run). elim o [ None ↦ [] | Some r ↦ listed_in r ]) (others e.1.at other) in
      λ i. (e.0, own i) ∷ same i

  stays_each : (es : List (ℕ × StoredRun)) → times_at at es ≡ 0 → All (IsStored old) es → All (IsStored new) es
  stays_each [] none each = All-nil (IsStored new)
  stays_each (e ∷ es) none each =
      let (other, rest) = none_first at e es none in
      let s = All-head (IsStored old) e es each in
      All-cons (IsStored new) e es
      (record { run = s.run; there = others e.1.at other ∙ s.there; few = s.few; sum = s.sum; some = s.some; counted = s.counted })
      (stays_each es rest (All-tail (IsStored old) e es each))

  module _ (us vs : List (ℕ × StoredRun)) (a : Around old us vs at) where
    -- a run is put there
    pub put_each : (e : ℕ × StoredRun) → IsStored new e → All (IsStored new) (us ++ e ∷ vs)
    put_each e s = All-append (IsStored new) us (e ∷ vs) (stays_each us a.none_left a.left) (All-cons (IsStored new) e vs s (stays_each vs a.none_right a.right))

    pub put_apart : (e : ℕ × StoredRun) → e.1.at ≡ at → LieApart (us ++ e ∷ vs)
    put_apart e same q = elim (eqb_tells q at) [
      | inl (_, here) ↦ (let is = ap (λ n. times_at n us) here in let ir = ap (λ n. times_at n vs) here in
          omega (arith, times-split q us e vs, one_here q e (same ∙ sym here), is, ir, a.none_left, a.none_right))
      | inr (_, other) ↦ omega (arith, times-split q us e vs, none_here q e (λ is. other (sym is ∙ same)), a.apart q)
    ]

    pub put_shown : (e : ℕ × StoredRun) (run : Run) → e.1.at ≡ at → node new at ≡ Some run → stored_in new (us ++ e ∷ vs) ≡ stored_in old us ++ (e.0, listed_in run) ∷ stored_in old vs
    put_shown e run same there =
        let left = stays us a.none_left in
        let right = stays vs a.none_right in
        let own = pieces_there new e.1.at run (ap (node new) same ∙ there) in
        stored-append new us (e ∷ vs) ∙ (λ i. left i ++ (e.0, own i) ∷ right i)

    -- the run there is taken out
    pub left_each : All (IsStored new) (us ++ vs)
    left_each = All-append (IsStored new) us vs (stays_each us a.none_left a.left) (stays_each vs a.none_right a.right)

    pub left_apart : LieApart (us ++ vs)
    left_apart q = subst (λ n. n ≤ 1) (sym (sum_by-append (λ (d : ℕ × StoredRun). cond (q == d.1.at) 1 0) us vs)) (a.apart q)

    pub left_shown : stored_in new (us ++ vs) ≡ stored_in old us ++ stored_in old vs
    left_shown =
        let left = stays us a.none_left in
        let right = stays vs a.none_right in
        stored-append new us vs ∙ (λ i. left i ++ right i)

module _ (stored : Nodes Run) where
  pub first_shown : (o : Option ℕ) (es : List (ℕ × StoredRun)) → first_or o es ≡ first_or o (stored_in stored es)
  first_shown o [] = refl
  first_shown o (e ∷ es) = refl

  pub last_shown : (o : Option ℕ) (es : List (ℕ × StoredRun)) → last_or o es ≡ last_or o (stored_in stored es)
  last_shown o [] = refl
  last_shown o (e ∷ es) = last_shown (Some e.0) es

  -- the run that was read at the node of an item
  module _ (e : ℕ × StoredRun) (s : IsStored stored e) (run : Run) (there : node stored e.1.at ≡ Some run) where
    run_read : s.run ≡ run
    run_read = let t = s.there in cc

    pub few_read : IsRun run
    few_read = subst IsRun run_read s.few

    pub few_pieces : length (listed_in run) ≤ most_pieces
    few_pieces = let few = few_read in omega (arith, length-take run.count run.pieces)

    pub some_read : 0 < length (listed_in run)
    some_read = subst (λ r. 0 < length (listed_in r)) run_read s.some

    pub counted_read : All few_breaks (listed_in run)
    counted_read = subst (λ (r : Run). All few_breaks (listed_in r)) run_read s.counted

-- what contracts see of a tree and of an arena
module _ (tree : Listed StoredRun) (stored : Nodes Run) (seen : Runs) (shown : runs_of tree stored ≡ seen) where
  runs_is : stored_in stored tree.items ≡ seen.runs
  runs_is = ap (λ (r : Runs). r.runs) shown

  pub standing : (id : ℕ) (us : List (ℕ × List Piece)) (x : List Piece) (vs : List (ℕ × List Piece)) → SplitsAt seen.runs id us x vs → Stands stored tree.items id us x vs
  standing id us x vs e = stands stored tree.items id us x vs (runs_is ∙ e)

  pub named : (id : ℕ) → IsItem seen.runs id → IsItem tree.items id
  named id (us, (x, (vs, e))) = is_item stored tree.items id (us, (x, (vs, runs_is ∙ e)))

  module _ (id : ℕ) (is : IsItem seen.runs id) (r : StoredRun) (told : AtItem tree.items id (λ us x vs. r ≡ x)) (h : AreStored tree stored) where
    pub told_stored : IsStored stored (id, r)
    told_stored =
        let (us, (x, (vs, e))) = named id is in
        let (left, here, right) = stored_here stored tree.items us id x vs e h.each in
        subst (λ y. IsStored stored (id, y)) (sym (told us x vs e)) here

    pub told_pieces : (run : Run) → node stored r.at ≡ Some run → AtItem seen.runs id (λ us x vs. listed_in run ≡ x)
    told_pieces run there us x vs e =
        let s = standing id us x vs e in
        sym (pieces_there stored r.at run there) ∙ ap (λ (y : StoredRun). pieces_at stored y.at) (told s.before s.here s.after s.place) ∙ s.pieces

  -- a walk from one of them on
  pub named_if : (o : Option ℕ) → IfSome o (IsItem seen.runs) → IfSome o (IsItem tree.items)
  named_if None is = tt
  named_if (Some id) is = named id is

  pub walk_stored : (o : Option ℕ) (left : List (ℕ × StoredRun)) → All (IsStored stored) tree.items → IfSome o (IsItem seen.runs) → LeftFrom tree.items o left → All (IsStored stored) left
  walk_stored None left each is none = subst (All (IsStored stored)) (sym none) (All-nil (IsStored stored))
  walk_stored (Some id) left each is from =
      let (us, (x, (vs, e))) = named id is in
      let (before, rest) = All-parts (IsStored stored) us ((id, x) ∷ vs) (subst (All (IsStored stored)) e each) in
      subst (All (IsStored stored)) (sym (from us x vs e)) rest

  pub walk_shown : (o : Option ℕ) (left : List (ℕ × StoredRun)) → LeftFrom tree.items o left → LeftFrom seen.runs o (stored_in stored left)
  walk_shown None left none = ap (stored_in stored) none
  walk_shown (Some id) left from = λ us x vs e.
      let s = standing id us x vs e in
      let own = s.pieces in
      let rest = s.afters in
      ap (stored_in stored) (from s.before s.here s.after s.place) ∙ (λ i. (id, own i) ∷ rest i)

-- a walk returns the first of the runs that are left
pub told_first : (stored : Nodes Run) (left rest : List (ℕ × StoredRun)) (e : ℕ × StoredRun) → left ≡ e ∷ rest → All (IsStored stored) left → IsStored stored e × All (IsStored stored) rest
told_first stored left rest e is each =
    let all = subst (All (IsStored stored)) is each in (All-head (IsStored stored) e rest all, All-tail (IsStored stored) e rest all)

-- more room leaves the runs where they are
pub roomier : (tree : Listed StoredRun) (stored : Nodes Run) (tree2 : Listed StoredRun) (stored2 : Nodes Run) → AreStored tree stored → tree2.items ≡ tree.items → stored2.live ≡ stored.live
    → AreStored tree2 stored2
roomier tree stored tree2 stored2 h items live =
    let same : stored_in stored2 tree.items ≡ stored_in stored tree.items = ap (λ (m : map_of.FinMap nat_cmp Run). stored_in (nodes m 0) tree.items) live in
    let kept : (e : ℕ × StoredRun) → IsStored stored e → IsStored stored2 e = λ e s. record {
      run = s.run;
      there = ap (λ (m : map_of.FinMap nat_cmp Run). map_of.get m e.1.at) live ∙ s.there;
      few = s.few;
      sum = s.sum;
      some = s.some;
      counted = s.counted;
    } in
    record {
      each = subst (All (IsStored stored2)) (sym items) (All-weaker (IsStored stored) (IsStored stored2) kept tree.items h.each);
      apart = subst LieApart (sym items) h.apart;
      small = omega (arith, h.small, ap (λ es. units_in (stored_in stored2 es)) items, ap units_in same);
    }

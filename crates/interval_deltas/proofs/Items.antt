-- Properties of each item of a list.
use Rattle.std.proofs.Common.{◌≡◌, ℕ, ℤ, ◌≤ℤ◌, ◌<ℤ◌, Bool, true, false, ◌&&◌, List, [], ◌∷◌, ◌++◌, Option, Some, None, refl, arith}
use Rattle.std.specs.Int.{int_max}
use Rattle.std.specs.List.{All, list_all}
use Rattle.std.specs.List.Sorted.{IsPermutation}
use Rattle.std.proofs.lemmas.Bool.{and_parts, both_ways}
use Rattle.std.proofs.lemmas.Int.{ints, clamps}
use Rattle.std.proofs.lemmas.List.Elements.{All-cons, All-head, All-tail}
use Rattle.std.proofs.lemmas.List.Sorted.{All-permutation}
use Rattle.rb_rules.specs.Woven.{sum_of}
use Rattle.decoration_rules.specs.declared.Mark.{Mark}
use Rattle.decoration_rules.specs.Marks.{stands_before, IsInOrder}
use Rattle.interval_deltas.specs.declared.weave.KeptMark.{KeptMark}
use Rattle.interval_deltas.specs.Weave.{marks, is_mark, is_low, later, reaches}
use Rattle.interval_deltas.specs.Kept.{Each, as_mark, marks_of, changed_kept, changed_items}

pub each_left : (P : KeptMark → Type 0) (us vs : List (ℕ × KeptMark)) → Each P (us ++ vs) → Each P us
each_left P [] vs h = tt
each_left P (u ∷ us) vs (h, hs) = (h, each_left P us vs hs)

pub each_right : (P : KeptMark → Type 0) (us vs : List (ℕ × KeptMark)) → Each P (us ++ vs) → Each P vs
each_right P [] vs h = h
each_right P (u ∷ us) vs (h, hs) = each_right P us vs hs

pub each_both : (P : KeptMark → Type 0) (us vs : List (ℕ × KeptMark)) → Each P us → Each P vs → Each P (us ++ vs)
each_both P [] vs h g = g
each_both P (u ∷ us) vs (h, hs) g = (h, each_both P us vs hs g)

pub each_weaker : (P Q : KeptMark → Type 0) → ((m : KeptMark) → P m → Q m) → (es : List (ℕ × KeptMark)) → Each P es → Each Q es
each_weaker P Q to [] h = tt
each_weaker P Q to (e ∷ es) (h, hs) = (to e.1 h, each_weaker P Q to es hs)

pub each_with : (P Q R : KeptMark → Type 0) → ((m : KeptMark) → P m → Q m → R m) → (es : List (ℕ × KeptMark)) → Each P es → Each Q es → Each R es
each_with P Q R to [] h g = tt
each_with P Q R to (e ∷ es) (h, hs) (g, gs) = (to e.1 h g, each_with P Q R to es hs gs)

-- a property of each changed item
pub changed_each : (to : Mark → Mark) (P : KeptMark → Type 0) (es : List (ℕ × KeptMark)) → Each (λ m. P (changed_kept to m)) es → Each P (changed_items to es)
changed_each to P [] h = tt
changed_each to P (e ∷ es) (h, hs) = (h, changed_each to P es hs)

pub all_each : (P : KeptMark → Type 0) (es : List (ℕ × KeptMark)) → Each P es → All (λ e. P e.1) es
all_each P [] h = λ k d within. absurd (omega arith)
all_each P (e ∷ es) (h, hs) = All-cons (λ (f : ℕ × KeptMark). P f.1) e es h (all_each P es hs)

pub each_all : (P : KeptMark → Type 0) (es : List (ℕ × KeptMark)) → All (λ e. P e.1) es → Each P es
each_all P [] h = tt
each_all P (e ∷ es) h = (All-head (λ (f : ℕ × KeptMark). P f.1) e es h, each_all P es (All-tail (λ (f : ℕ × KeptMark). P f.1) e es h))

pub each_permutation : (P : KeptMark → Type 0) (xs ys : List (ℕ × KeptMark)) → IsPermutation xs ys → Each P xs → Each P ys
each_permutation P xs ys moved h = each_all P ys (All-permutation (λ (f : ℕ × KeptMark). P f.1) xs ys moved (all_each P xs h))

-- a test of decorations, applied to items
pub each_listed : (p : Mark → Bool) (es : List (ℕ × KeptMark)) → list_all p (marks_of es) ≡ true → Each (λ m. p (as_mark m) ≡ true) es
each_listed p [] h = tt
each_listed p (e ∷ es) h = let parts = and_parts (p (as_mark e.1)) (list_all p (marks_of es)) h in (parts.0, each_listed p es parts.1)

pub listed_each : (p : Mark → Bool) (es : List (ℕ × KeptMark)) → Each (λ m. p (as_mark m) ≡ true) es → list_all p (marks_of es) ≡ true
listed_each p [] h = refl
listed_each p (e ∷ es) (h, hs) = and_both (p (as_mark e.1)) (list_all p (marks_of es)) h (listed_each p es hs)
  where
    and_both : (a b : Bool) → a ≡ true → b ≡ true → (a && b) ≡ true
    and_both true b h g = g
    and_both false b h g = absurd (both_ways false refl h)

-- the items before an item and after it
pub before_it : (us : List (ℕ × KeptMark)) (e : ℕ × KeptMark) (vs : List (ℕ × KeptMark)) → IsInOrder (marks_of (us ++ e ∷ vs)) → Each (λ m. stands_before (as_mark m) (as_mark e.1) ≡ true) us
before_it [] e vs ordered = tt
before_it (u ∷ us) e vs ordered =
    ((each_right (λ m. stands_before (as_mark u.1) (as_mark m) ≡ true) us (e ∷ vs) (each_listed (stands_before (as_mark u.1)) (us ++ e ∷ vs) ordered.0)).0, before_it us e vs ordered.1)

pub after_it : (us : List (ℕ × KeptMark)) (e : ℕ × KeptMark) (vs : List (ℕ × KeptMark)) → IsInOrder (marks_of (us ++ e ∷ vs)) → Each (λ m. stands_before (as_mark e.1) (as_mark m) ≡ true) vs
after_it [] e vs ordered = each_listed (stands_before (as_mark e.1)) vs ordered.0
after_it (u ∷ us) e vs ordered = after_it us e vs ordered.1

-- the list without one item is in order
pub ordered_without : (us : List (ℕ × KeptMark)) (e : ℕ × KeptMark) (vs : List (ℕ × KeptMark)) → IsInOrder (marks_of (us ++ e ∷ vs)) → IsInOrder (marks_of (us ++ vs))
ordered_without [] e vs ordered = ordered.1
ordered_without (u ∷ us) e vs ordered =
    let P : KeptMark → Type 0 = λ m. stands_before (as_mark u.1) (as_mark m) ≡ true in
    let all = each_listed (stands_before (as_mark u.1)) (us ++ e ∷ vs) ordered.0 in
    (listed_each (stands_before (as_mark u.1)) (us ++ vs) (each_both P us vs (each_left P us (e ∷ vs) all) (each_right P us (e ∷ vs) all).1), ordered_without us e vs ordered.1)

pub each_without : (P : KeptMark → Type 0) (us : List (ℕ × KeptMark)) (e : ℕ × KeptMark) (vs : List (ℕ × KeptMark)) → Each P (us ++ e ∷ vs) → Each P (us ++ vs)
each_without P [] e vs (h, hs) = hs
each_without P (u ∷ us) e vs (h, hs) = (h, each_without P us e vs hs)

-- the greatest end
low_both : (a b : Option ℤ) → is_low a → is_low b → is_low (later a b)
low_both None b h g = g
low_both (Some x) None h g = h
low_both (Some x) (Some y) h g = omega (arith, ints, clamps, h, g)

pub sum_low : (es : List (ℕ × KeptMark)) → Each is_mark es → is_low (sum_of marks es)
sum_low [] h = tt
sum_low (e ∷ es) (h, hs) = low_both (Some e.1.end) (sum_of marks es) h.2 (sum_low es hs)

module _ (offset : ℤ) where
  below : (end : ℤ) → reaches offset (Some end) ≡ false → end <ℤ offset
  below end e = grind (arith, ints)

  not_reaching : (end : ℤ) → end <ℤ offset → reaches offset (Some end) ≡ false
  not_reaching end lt = grind (arith, ints)

  pub reaching : (end : ℤ) → reaches offset (Some end) ≡ true → offset ≤ℤ end
  reaching end e = grind (arith, ints)

  max_below : (x y : ℤ) → x <ℤ offset → y <ℤ offset → reaches offset (later (Some x) (Some y)) ≡ false
  max_below x y h g = let lt : int_max x y <ℤ offset = omega (arith, ints, clamps, h, g) in not_reaching (int_max x y) lt

  max_parts : (x y : ℤ) → reaches offset (later (Some x) (Some y)) ≡ false → (x <ℤ offset) × (y <ℤ offset)
  max_parts x y e = let lt : int_max x y <ℤ offset = below (int_max x y) e in (omega (arith, ints, clamps, lt), omega (arith, ints, clamps, lt))

  join_below : (x : ℤ) (s : Option ℤ) → x <ℤ offset → reaches offset s ≡ false → reaches offset (later (Some x) s) ≡ false
  join_below x None h g = not_reaching x h
  join_below x (Some y) h g = max_below x y h (below y g)

  join_parts : (x : ℤ) (s : Option ℤ) → reaches offset (later (Some x) s) ≡ false → (x <ℤ offset) × (reaches offset s ≡ false)
  join_parts x None e = (below x e, refl)
  join_parts x (Some y) e = ((max_parts x y e).0, not_reaching y (max_parts x y e).1)

  -- the sum reaches the offset if an item does
  pub sum_below : (es : List (ℕ × KeptMark)) → Each (λ m. m.end <ℤ offset) es → reaches offset (sum_of marks es) ≡ false
  sum_below [] h = refl
  sum_below (e ∷ es) (h, hs) = join_below e.1.end (sum_of marks es) h (sum_below es hs)

  pub each_below : (es : List (ℕ × KeptMark)) → reaches offset (sum_of marks es) ≡ false → Each (λ m. m.end <ℤ offset) es
  each_below [] h = tt
  each_below (e ∷ es) h = let parts = join_parts e.1.end (sum_of marks es) h in (parts.0, each_below es parts.1)

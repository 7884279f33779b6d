-- The breaks of a part of a text, by the places at which the breaks of the whole end.
use Rattle.std.proofs.Common.{◌≡◌, ℕ, ◌+◌, ◌-◌, ◌≤◌, ◌<◌, ◌==◌, leb, Bool, true, false, ◌&&◌, if◌then◌else◌, List, [], ◌∷◌, ◌++◌, length, take, drop, get_or, map, refl, ap, sym, ◌∙◌, add-zero, arith}
use Rattle.std.proofs.Common.{Result, Ok, Err, inl, inr}
use Rattle.std.specs.Prelude.{IsOk, OnOk}
use Rattle.std.proofs.lemmas.Bool.{leb-true, lt-leb, both_ways, cases_lt}
use Rattle.std.proofs.lemmas.List.{drop-drop, length-drop, length-append, length-map, length-take-le, get_or-map, get_or-drop, get_or-take, get_or_append_left, get_or_at}
use Rattle.std.proofs.lemmas.List.Sums.{prefix_len-le-length, prefix_len_passes}
use Rattle.text_rules.specs.Lines.{line_feed, carriage_return, line_start}
use Rattle.text_rules.specs.Breaks.{break_ends, joins_pair, count_to, ends_with}
use Rattle.text_rules.proofs.Breaks.{break_ends-take, break_ends_moved, break_ends_above, drop-count_to, count_to-drop, count_to-take, count_to-moved, line_start_is, joins_pair_at, ends_with_last}
use Rattle.line_starts.specs.Starts.{break_count}
use Rattle.line_starts.proofs.Blocks.{same_count}
use Rattle.line_starts.proofs.Starts.{break_count_is, starts_of_is}
use Rattle.chunk_buffers.specs.Buffer.{cut, breaks_to}

-- the breaks that end at most at a place, and those of the text from there on
pub count_to-rest : (place : ℕ) (x : List ℕ) → count_to place (break_ends 0 x) + length (break_ends 0 (drop place x)) ≡ length (break_ends 0 x)
count_to-rest place x =
    let rest = ap length (drop-count_to 0 place place x (omega arith)) in
    let most = prefix_len-le-length (λ e. leb e place) (break_ends 0 x) in
    omega (arith, rest, most, length-drop (count_to place (break_ends 0 x)) (break_ends 0 x), same_count place 0 (drop place x))

module _ (place : ℕ) (x : List ℕ) (i : ℕ) where
  -- break `i` is among those counted up to a place, so it ends there or before
  pub ends_by : i < count_to place (break_ends 0 x) → get_or (break_ends 0 x) i 0 ≤ place
  ends_by h = leb-true (get_or (break_ends 0 x) i 0) place (prefix_len_passes (λ e. leb e place) (break_ends 0 x) i 0 h)

  -- a break that is not among them ends after the place
  pub ends_behind : count_to place (break_ends 0 x) ≤ i → i < length (break_ends 0 x) → place < get_or (break_ends 0 x) i 0
  ends_behind h inside =
      let n = count_to place (break_ends 0 x) in
      let there : n + (i - n) ≡ i = omega arith in
      let rest = drop-count_to 0 place place x (omega arith) in
      let moved : get_or (break_ends place (drop place x)) (i - n) 0 ≡ get_or (break_ends 0 x) i 0 =
      ap (λ s. get_or s (i - n) 0) (sym rest) ∙ get_or-drop n (break_ends 0 x) (i - n) 0 ∙ ap (λ k. get_or (break_ends 0 x) k 0) there in
      let long : i - n < length (break_ends place (drop place x)) = omega (arith, ap length rest, length-drop n (break_ends 0 x)) in
      omega (arith, moved, break_ends_above place place (drop place x) (omega arith) (i - n) 0 long)

-- the place of the cut if it separates a CR from its LF: there a break of the part ends that ends later in the whole text
abbrev pub cut_end : List ℕ → ℕ → ℕ → List ℕ
cut_end x from to = if joins_pair (cut x from to) (drop to x) then to ∷ [] else []

module _ (x : List ℕ) (from to : ℕ) (ordered : from ≤ to) where
  break_ends_of_cut : break_ends from (cut x from to) ≡ take (count_to to (drop (count_to from (break_ends 0 x)) (break_ends 0 x))) (drop (count_to from (break_ends 0 x)) (break_ends 0 x)) ++ cut_end x from to
  break_ends_of_cut =
      let rest : drop (count_to from (break_ends 0 x)) (break_ends 0 x) ≡ break_ends from (drop from x) = drop-count_to 0 from from x (omega arith) in
      let there : drop (to - from) (drop from x) ≡ drop to x = drop-drop (to - from) from x ∙ ap (λ n. drop n x) (let e : from + (to - from) ≡ to = omega arith in e) in
      rw (rest, ← there) (break_ends-take from (to - from) to (drop from x) (omega arith))

  from_its_start : break_ends from (cut x from to) ≡ map (λ e. from + e) (break_ends 0 (cut x from to))
  from_its_start = ap (λ n. break_ends n (cut x from to)) (sym (add-zero from)) ∙ break_ends_moved from 0 (cut x from to)

past_the_front : (front : List ℕ) (to i : ℕ) (split : Bool) → length front ≤ i → i < length (front ++ (if split then to ∷ [] else [])) → get_or (front ++ (if split then to ∷ [] else [])) i 0 ≡ to
past_the_front front to i true h inside =
    let at : length front ≡ i = omega (arith, length-append front (to ∷ [])) in
    get_or_at front to [] 0 i at
past_the_front front to i false h inside = absurd (omega (arith, length-append front []))

split_count : (to : ℕ) (split : Bool) → length (if split then to ∷ [] else []) ≡ (if split then 1 else 0)
split_count to true = refl
split_count to false = refl

at_most_one : (split : Bool) → (if split then 1 else 0) ≤ 1
at_most_one true = omega arith
at_most_one false = omega arith

later_end : (place to : ℕ) (split : Bool) → place < to → count_to place (if split then to ∷ [] else []) ≡ 0
later_end place to true h = rw (lt-leb to place h)
later_end place to false h = refl

module _ (x : List ℕ) (from to : ℕ) (ordered : from ≤ to) where
  -- the breaks of the whole that end past the start
  abbrev later : List ℕ
  later = drop (count_to from (break_ends 0 x)) (break_ends 0 x)

  abbrev inside : List ℕ
  inside = take (count_to to later) later

  inside_count : length inside ≡ count_to to later
  inside_count = length-take-le (count_to to later) later (prefix_len-le-length (λ e. leb e to) later)

  counts : count_to from (break_ends 0 x) + count_to to later ≡ count_to to (break_ends 0 x)
  counts = count_to-drop from to (break_ends 0 x) ordered

  end_count : length (break_ends 0 (cut x from to)) ≡ length inside + (if joins_pair (cut x from to) (drop to x) then 1 else 0)
  end_count =
      sym (length-map (break_ends 0 (cut x from to)) (λ e. from + e))
      ∙ ap length (sym (from_its_start x from to ordered) ∙ break_ends_of_cut x from to ordered)
      ∙ length-append inside (cut_end x from to)
      ∙ ap (λ n. length inside + n) (split_count to (joins_pair (cut x from to) (drop to x)))

  pub break_count_of_cut : break_count (cut x from to) + count_to from (break_ends 0 x) ≡ count_to to (break_ends 0 x) + (if joins_pair (cut x from to) (drop to x) then 1 else 0)
  break_count_of_cut = omega (arith, break_count_is (cut x from to), end_count, inside_count, counts)

  pub counts_rise : count_to from (break_ends 0 x) ≤ count_to to (break_ends 0 x)
  counts_rise = omega (arith, counts)

  pub break_count_if : (split : Bool) → joins_pair (cut x from to) (drop to x) ≡ split → break_count (cut x from to) + count_to from (break_ends 0 x) ≡ count_to to (break_ends 0 x) + (if split then 1 else 0)
  break_count_if split e = rw e at break_count_of_cut

  pub break_count_most : break_count (cut x from to) + count_to from (break_ends 0 x) ≤ count_to to (break_ends 0 x) + 1
  break_count_most = omega (arith, break_count_of_cut, at_most_one (joins_pair (cut x from to) (drop to x)))

  module _ (i : ℕ) (there : i < break_count (cut x from to)) where
    among : i < length (break_ends 0 (cut x from to))
    among = omega (arith, break_count_is (cut x from to))

    start_is : line_start (cut x from to) (i + 2) + from ≡ get_or (inside ++ cut_end x from to) i 0
    start_is =
        let start = line_start_is (cut x from to) i (i + 2) among refl in
        let moved : get_or (map (λ e. from + e) (break_ends 0 (cut x from to))) i 0 ≡ from + get_or (break_ends 0 (cut x from to)) i 0 =
        get_or-map (λ e. from + e) (break_ends 0 (cut x from to)) i 0 0 among in
        let same = ap (λ ends. get_or ends i 0) (sym (from_its_start x from to ordered) ∙ break_ends_of_cut x from to ordered) in
        omega (arith, start, moved, same)

    pub nth_of_whole : count_to from (break_ends 0 x) + i < count_to to (break_ends 0 x) → line_start (cut x from to) (i + 2) + from ≡ get_or (break_ends 0 x) (count_to from (break_ends 0 x) + i) 0
    nth_of_whole h =
        let within : i < count_to to later = omega (arith, counts) in
        let listed : i < length inside = omega (arith, inside_count) in
        start_is ∙ get_or_append_left inside (cut_end x from to) 0 i listed ∙ get_or-take (count_to to later) later i 0 within
        ∙ get_or-drop (count_to from (break_ends 0 x)) (break_ends 0 x) i 0

    pub nth_of_cut : count_to to (break_ends 0 x) ≤ count_to from (break_ends 0 x) + i → line_start (cut x from to) (i + 2) + from ≡ to
    nth_of_cut h =
        let past : length inside ≤ i = omega (arith, inside_count, counts) in
        let listed : i < length (inside ++ cut_end x from to) = omega (arith, among, end_count, length-append inside (cut_end x from to), split_count to (joins_pair (cut x from to) (drop to x))) in
        start_is ∙ past_the_front inside to i (joins_pair (cut x from to) (drop to x)) past listed

  pub breaks_to_of_cut : (place : ℕ) → from + place < to → breaks_to (cut x from to) place + count_to from (break_ends 0 x) ≡ count_to (from + place) (break_ends 0 x)
  breaks_to_of_cut place h =
      let ends = break_ends 0 (cut x from to) in
      let named : breaks_to (cut x from to) place ≡ count_to place ends = ap (λ s. count_to place (drop 1 s)) (starts_of_is (cut x from to)) in
      let moved : count_to (from + place) (map (λ e. from + e) ends) ≡ count_to place ends = count_to-moved from place ends in
      let same : count_to (from + place) (map (λ e. from + e) ends) ≡ count_to (from + place) (inside ++ cut_end x from to) =
      ap (count_to (from + place)) (sym (from_its_start x from to ordered) ∙ break_ends_of_cut x from to ordered) in
      let taken : count_to (from + place) (inside ++ cut_end x from to) ≡ count_to (from + place) later =
      count_to-take (from + place) to later (cut_end x from to) (omega arith) (later_end (from + place) to (joins_pair (cut x from to) (drop to x)) h) in
      omega (arith, named, moved, same, taken, count_to-drop from (from + place) (break_ends 0 x) (omega arith))

-- a cut after a CR and before an LF
pub joins_pair_of_cut : (x : List ℕ) (from to : ℕ) → from < to → to ≤ length x
    → joins_pair (cut x from to) (drop to x) ≡ (get_or x (to - 1) 0 == carriage_return && get_or x to 0 == line_feed)
joins_pair_of_cut x from to some within =
    let there : from + (to - from) ≡ to = omega arith in
    let last : from + (to - from - 1) ≡ to - 1 = omega arith in
    let size : to - from ≤ length (drop from x) = omega (arith, length-drop from x) in
    let at = joins_pair_at (to - from) (drop from x) (omega arith) size in
    rw (drop-drop (to - from) from x, get_or-drop from x (to - from - 1) 0, get_or-drop from x (to - from) 0, last, there) at at

-- a text ends with a CR if its last unit is one
pub ends_with_by_last : (x : List ℕ) (b : Bool) → (get_or x (length x - 1) 0 == carriage_return) ≡ b → ends_with carriage_return x ≡ b
ends_with_by_last x b e = ends_with_last x ∙ e

pub on_ok_at : {T E : Type 0} (r : Result T E) (P : Type 0) → IsOk r → OnOk r P → P
on_ok_at (Ok x) P h p = p
on_ok_at (Err e) P h p = absurd (both_ways false refl h)

-- the first break that ends after a place, and the places up to which it counts
module _ (x : List ℕ) (from to : ℕ) (some : count_to from (break_ends 0 x) < length (break_ends 0 x)) where
  abbrev next : ℕ
  next = get_or (break_ends 0 x) (count_to from (break_ends 0 x)) 0

  pub next_behind : from < next
  next_behind = ends_behind from x (count_to from (break_ends 0 x)) (omega arith) some

  pub next_counts : next ≤ to → count_to from (break_ends 0 x) < count_to to (break_ends 0 x)
  next_counts h = elim (cases_lt (count_to from (break_ends 0 x)) (count_to to (break_ends 0 x))) [
    | inl counts ↦ counts
    | inr past ↦ absurd (omega (arith, ends_behind to x (count_to from (break_ends 0 x)) past some))
  ]

  pub next_past : to < next → count_to to (break_ends 0 x) ≤ count_to from (break_ends 0 x)
  next_past h = elim (cases_lt (count_to from (break_ends 0 x)) (count_to to (break_ends 0 x))) [
    | inl counts ↦ absurd (omega (arith, ends_by to x (count_to from (break_ends 0 x)) counts))
    | inr past ↦ past
  ]

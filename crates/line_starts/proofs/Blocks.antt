-- Breaks found in a block of units.
use Rattle.std.proofs.Common.{◌≡◌, ℕ, zero, suc, ◌+◌, ◌-◌, ◌*◌, ◌/◌, ◌%◌, ◌^◌, ◌<◌, ◌≤◌, ◌==◌, Bool, cond, true, false, not, ◌&&◌, ◌||◌, if◌then◌else◌, List, [], ◌∷◌, ◌++◌, length, take, drop, map, refl, ap, ap₂, sym, subst, ◌∙◌, add-zero, arith, eqb, bit_and, bit_or}
use native.Mathlib.Nat.{pow-suc, pow-zero, mul_comm, zero-div, zero-mod, mod-one, div-one, div-div-eq-div-mul}
use lib.Count.{ones, ones-le, count_trailing_zeros}
use lib.Lanes.{chunk, zip2, mask_l, top}
use Rattle.std.specs.List.{prefix_len}
use Rattle.std.proofs.lemmas.Bool.{eqb-true}
use Rattle.std.proofs.lemmas.List.{length-append, length-drop, drop-drop, take-take, map-id}
use Rattle.std.proofs.lemmas.Nat.{mod-pow-add}
use Rattle.std.proofs.lemmas.Simd.{length-chunk, length-zip2, ones-mask_l_cons, trailing_mask_l}
use Rattle.text_rules.specs.Lines.{line_feed, carriage_return}
use Rattle.text_rules.specs.Breaks.{ends_break, break_ends}

-- the number of breaks does not depend on the place of the text
pub same_count : (at to : ℕ) (s : List ℕ) → length (break_ends at s) ≡ length (break_ends to s)
same_count at to [] = refl
same_count at to (u ∷ s) = elim (ends_break u s) as (λ b. length (cond b ((at + 1) ∷ break_ends (at + 1) s) (break_ends (at + 1) s)) ≡ length (cond b ((to + 1) ∷ break_ends (to + 1) s) (break_ends (to + 1) s)))
    [ true ↦ ap suc (same_count (at + 1) (to + 1) s) | false ↦ same_count (at + 1) (to + 1) s ]

pub fewer_later : (from to : ℕ) (x : List ℕ) → from ≤ to → length (break_ends 0 (drop to x)) ≤ length (break_ends 0 (drop from x))
fewer_later zero zero x h = omega arith
fewer_later (suc from) zero x h = absurd (omega arith)
fewer_later zero (suc to) [] h = omega arith
fewer_later (suc from) (suc to) [] h = omega arith
fewer_later (suc from) (suc to) (u ∷ x) h = fewer_later from to x (omega arith)
fewer_later zero (suc to) (u ∷ x) h =
    let later = fewer_later 0 to x (omega arith) in
    let same = same_count 0 1 x in
    elim (ends_break u x) as (λ b. length (break_ends 0 (drop to x)) ≤ length (cond b (1 ∷ break_ends 1 x) (break_ends 1 x)))
    [ true ↦ omega (arith, later, same) | false ↦ omega (arith, later, same) ]

-- ---- lanes by comparisons

-- a unit with the one after it
abbrev pub ends_before : ℕ → ℕ → Bool
ends_before unit next = ends_break unit (next ∷ [])

abbrev pub hit : ℕ → ℕ → ℕ
hit a b = cond (eqb a b) 65535 0

abbrev pub miss : ℕ → ℕ → ℕ
miss a b = cond (not (eqb a b)) 65535 0

lane : (is_feed is_return feed_after : Bool) → (is_return ≡ true → is_feed ≡ true → ⊥)
    → top 15 (bit_or (cond is_feed 65535 0) (bit_and (cond is_return 65535 0) (cond (not feed_after) 65535 0))) ≡ cond (is_return && feed_after) false (is_return || is_feed)
lane true true feed_after apart = absurd (apart refl refl)
lane true false true apart = refl
lane true false false apart = refl
lane false true true apart = refl
lane false true false apart = refl
lane false false true apart = refl
lane false false false apart = refl

not_both : (u : ℕ) → (u == carriage_return) ≡ true → (u == line_feed) ≡ true → ⊥
not_both u r f =
    let is : u ≡ carriage_return = eqb-true u carriage_return r in
    let feed : u ≡ line_feed = eqb-true u line_feed f in
    omega (arith, is, feed)

pub lanes_end : (xs ys : List ℕ) → map (top 15) (zip2 bit_or (map (λ x. hit x 10) xs) (zip2 bit_and (map (λ x. hit x 13) xs) (map (λ y. miss y 10) ys))) ≡ zip2 ends_before xs ys
lanes_end [] ys = refl
lanes_end (x ∷ xs) [] = refl
lanes_end (x ∷ xs) (y ∷ ys) = ap₂ (λ b bs. b ∷ bs) (lane (x == line_feed) (x == carriage_return) (y == line_feed) (not_both x)) (lanes_end xs ys)

-- ---- units that are marked

-- the place after each marked unit, where the first unit has a place
abbrev pub marked : ℕ → List Bool → List ℕ
marked place [] = []
marked place (m ∷ ms) = if m then (place + 1) ∷ marked (place + 1) ms else marked (place + 1) ms

-- the breaks that end with one of the first k units, where at least one more unit follows
pub block_ends : (k place : ℕ) (s : List ℕ) → k < length s → marked place (zip2 ends_before (take k s) (take k (drop 1 s))) ++ break_ends (place + k) (drop k s) ≡ break_ends place s
block_ends k place [] h = absurd (omega arith)
block_ends zero place (u ∷ s) h = ap (λ n. break_ends n (u ∷ s)) (add-zero place)
block_ends (suc k) place (u ∷ []) h = absurd (omega arith)
block_ends (suc k) place (u ∷ v ∷ s) h =
    let marks = marked (place + 1) (zip2 ends_before (take k (v ∷ s)) (take k s)) in
    let rest = break_ends (place + suc k) (drop k (v ∷ s)) in
    let ends = break_ends (place + 1) (v ∷ s) in
    let later : marks ++ rest ≡ ends = ap (λ n. marks ++ break_ends n (drop k (v ∷ s))) (omega arith) ∙ block_ends k (place + 1) (v ∷ s) (omega arith) in
    elim (ends_break u (v ∷ s)) as (λ b. cond b ((place + 1) ∷ marks) marks ++ rest ≡ cond b ((place + 1) ∷ ends) ends)
    [ true ↦ ap (λ l. (place + 1) ∷ l) later | false ↦ later ]

-- the marks of the 32 units from a place on, where at least one more unit follows
abbrev pub block_marks : ℕ → List ℕ → List Bool
block_marks at x = zip2 ends_before (chunk at 32 x) (chunk (at + 1) 32 x)

module _ (at : ℕ) (x : List ℕ) (inside : at + 32 < length x) where
  pub length-block_marks : length (block_marks at x) ≡ 32
  length-block_marks =
      let long = length-chunk at 32 x (omega arith) in
      length-zip2 ends_before (chunk at 32 x) (chunk (at + 1) 32 x) (long ∙ sym (length-chunk (at + 1) 32 x (omega arith))) ∙ long

  pub block_breaks : (place : ℕ) → marked place (block_marks at x) ++ break_ends (place + 32) (drop (at + 32) x) ≡ break_ends place (drop at x)
  block_breaks place =
      sym (λ i. marked place (zip2 ends_before (chunk at 32 x) (take 32 (drop-drop 1 at x i))) ++ break_ends (place + 32) (drop-drop 32 at x i))
      ∙ block_ends 32 place (drop at x) (omega (arith, length-drop at x))

marks_counted : (place : ℕ) (ms : List Bool) → ones (mask_l ms) ≡ length (marked place ms)
marks_counted place [] = omega (arith, ones-le 0 0 (omega arith))
marks_counted place (true ∷ ms) = omega (arith, ones-mask_l_cons true ms, marks_counted (place + 1) ms)
marks_counted place (false ∷ ms) = omega (arith, ones-mask_l_cons false ms, marks_counted (place + 1) ms)

pub block_count : (at : ℕ) (x : List ℕ) → at + 32 < length x → ones (mask_l (block_marks at x)) + length (break_ends 0 (drop (at + 32) x)) ≡ length (break_ends 0 (drop at x))
block_count at x inside =
    let ms = block_marks at x in
    let rest = drop (at + 32) x in
    omega (arith, marks_counted 0 ms, same_count 0 (0 + 32) rest, length-append (marked 0 ms) (break_ends (0 + 32) rest), ap length (block_breaks at x inside 0))

-- ---- the first of the marks

halved : (m : Bool) (n : ℕ) → (cond m 1 0 + 2 * n) / 2 ≡ n
halved true n = omega arith
halved false n = omega arith

odd : (m : Bool) (n : ℕ) → (cond m 1 0 + 2 * n) % 2 ≡ cond m 1 0
odd true n = omega arith
odd false n = omega arith

-- the mask of the first k marks is the mask of all modulo 2 ^ k
mask_front : (k : ℕ) (ms : List Bool) → mask_l ms % 2 ^ k ≡ mask_l (take k ms)
mask_front zero ms = ap (λ n. mask_l ms % n) (pow-zero 2) ∙ mod-one (mask_l ms)
mask_front (suc k) [] = zero-mod (2 ^ suc k)
mask_front (suc k) (m ∷ ms) =
    let half = ap (λ n. n % 2 ^ k) (halved m (mask_l ms)) ∙ mask_front k ms in
    let parts : mask_l (m ∷ ms) % 2 ^ suc k ≡ (mask_l (m ∷ ms) / 2 % 2 ^ k) * 2 + mask_l (m ∷ ms) % 2 = ap (λ n. mask_l (m ∷ ms) % 2 ^ n) (omega arith) ∙ mod-pow-add (mask_l (m ∷ ms)) k 1 in
    omega (arith, parts, half, odd m (mask_l ms))

take-zip2 : (k : ℕ) (xs ys : List ℕ) → take k (zip2 ends_before xs ys) ≡ zip2 ends_before (take k xs) (take k ys)
take-zip2 zero xs ys = refl
take-zip2 (suc k) [] ys = refl
take-zip2 (suc k) (x ∷ xs) [] = refl
take-zip2 (suc k) (x ∷ xs) (y ∷ ys) = ap (λ l. ends_before x y ∷ l) (take-zip2 k xs ys)

module _ (at : ℕ) (x : List ℕ) (inside : at + 32 < length x) (k : ℕ) (few : k ≤ 32) where
  pub front_count : ones (mask_l (block_marks at x) % 2 ^ k) + length (break_ends 0 (drop (at + k) x)) ≡ length (break_ends 0 (drop at x))
  front_count =
      let s = drop at x in
      let marks : take k (block_marks at x) ≡ zip2 ends_before (take k s) (take k (drop 1 s)) =
      take-zip2 k (chunk at 32 x) (chunk (at + 1) 32 x)
      ∙ (λ i. zip2 ends_before (take-take k 32 s few i) (take-take k 32 (drop (at + 1) x) few i))
      ∙ sym (λ i. zip2 ends_before (take k s) (take k (drop-drop 1 at x i))) in
      let all = ap length (block_ends k 0 s (omega (arith, length-drop at x))) in
      let counted = ap ones (mask_front k (block_marks at x) ∙ ap mask_l marks) ∙ marks_counted 0 (zip2 ends_before (take k s) (take k (drop 1 s))) in
      let rest = same_count 0 (0 + k) (drop k s) in
      let there = ap (λ l. length (break_ends 0 l)) (drop-drop k at x) in
      omega (arith, counted, all, rest, there, length-append (marked 0 (zip2 ends_before (take k s) (take k (drop 1 s)))) (break_ends (0 + k) (drop k s)))

-- ---- marks by the bits of a number

mask_dropped : (k : ℕ) (ms : List Bool) → mask_l ms / 2 ^ k ≡ mask_l (drop k ms)
mask_dropped zero ms = ap (λ n. mask_l ms / n) (pow-zero 2) ∙ div-one (mask_l ms)
mask_dropped (suc k) [] = zero-div (2 ^ suc k)
mask_dropped (suc k) (m ∷ ms) =
    ap (λ n. mask_l (m ∷ ms) / n) (pow-suc 2 k ∙ mul_comm (2 ^ k) 2) ∙ sym (div-div-eq-div-mul (mask_l (m ∷ ms)) 2 (2 ^ k))
    ∙ ap (λ n. n / 2 ^ k) (halved m (mask_l ms)) ∙ mask_dropped k ms

some_marked : (ms : List Bool) → 0 < mask_l ms → prefix_len not ms < length ms
some_marked [] h = absurd (omega arith)
some_marked (true ∷ ms) h = omega arith
some_marked (false ∷ ms) h = omega (arith, some_marked ms (omega arith))

pub none_marked : (place : ℕ) (ms : List Bool) → mask_l ms ≡ 0 → marked place ms ≡ []
none_marked place [] h = refl
none_marked place (true ∷ ms) h = absurd (omega (arith, h))
none_marked place (false ∷ ms) h = none_marked (place + 1) ms (omega (arith, h))

marked_first : (place n : ℕ) (ms : List Bool) → prefix_len not ms ≡ n → n < length ms → marked place ms ≡ (place + suc n) ∷ marked (place + suc n) (drop (suc n) ms)
marked_first place n [] e h = absurd (omega arith)
marked_first place zero (true ∷ ms) e h = refl
marked_first place (suc n) (true ∷ ms) e h = absurd (omega (arith, e))
marked_first place zero (false ∷ ms) e h = absurd (omega (arith, e))
marked_first place (suc n) (false ∷ ms) e h = marked_first (place + 1) n ms (omega (arith, e)) (omega arith) ∙ ap (λ k. k ∷ marked k (drop (suc n) ms)) (omega arith)

-- the lowest bit that is set, and the bits above it
first_mark : (place steps : ℕ) (ms : List Bool) → length ms ≤ 64 → 0 < mask_l ms → steps ≡ count_trailing_zeros 64 (mask_l ms) + 1
    → (steps ≤ length ms) × (marked place ms ≡ (place + steps) ∷ marked (place + steps) (drop steps ms))
first_mark place steps ms few some is =
    let unmarked = prefix_len not ms in
    let lowest : count_trailing_zeros 64 (mask_l ms) ≡ unmarked =
    subst (λ l. 0 < mask_l l → count_trailing_zeros 64 (mask_l l) ≡ unmarked) (map-id ms) (trailing_mask_l (λ m. m) 64 ms few) some in
    let here = some_marked ms some in
    let found : suc unmarked ≡ steps = omega (arith, is, lowest) in
    (omega (arith, found, here), subst (λ n. marked place ms ≡ (place + n) ∷ marked (place + n) (drop n ms)) found (marked_first place unmarked ms refl here))

-- ... in a block whose units before `place` were read
pub next_mark : (start place left steps : ℕ) (ms : List Bool) → length ms ≡ 32 → start ≤ place → left ≡ mask_l (drop (place - start) ms) → (left ≡ 0 → ⊥)
    → steps ≡ count_trailing_zeros 64 left + 1
    → (place + steps ≤ start + 32) × (left / 2 ^ (count_trailing_zeros 64 left + 1) ≡ mask_l (drop (place + steps - start) ms))
    × (marked place (drop (place - start) ms) ≡ (place + steps) ∷ marked (place + steps) (drop (place + steps - start) ms))
next_mark start place left steps ms many after bits some is =
    let rest = drop (place - start) ms in
    let few = length-drop (place - start) ms in
    let on : drop steps rest ≡ drop (place + steps - start) ms = drop-drop steps (place - start) ms ∙ ap (λ n. drop n ms) (omega arith) in
    let first = first_mark place steps rest (omega (arith, few, many)) (omega (arith, bits, some)) (is ∙ ap (λ n. count_trailing_zeros 64 n + 1) bits) in (
      omega (arith, first.0, few, many),
      ap₂ (λ l n. l / 2 ^ n) bits (sym is) ∙ mask_dropped steps rest ∙ ap mask_l on,
      first.1 ∙ ap (λ l. (place + steps) ∷ marked (place + steps) l) on,
    )

-- The end offsets of the breaks of a text, and its lines computed from them.
use Rattle.std.proofs.Common.{◌≡◌, ℕ, zero, suc, ◌+◌, ◌-◌, ◌<◌, ◌≤◌, ◌==◌, leb, Bool, cond, true, false, ◌&&◌, ◌||◌, if◌then◌else◌, List, [], ◌∷◌, ◌++◌, length, take, drop, get_or, map, sum_by, refl, ap, sym, ◌∙◌, add_assoc, zero-add, add-zero, inl, inr, arith}
use Rattle.std.specs.List.{range_with_len}
use Rattle.std.specs.List.Sorted.{IsNonDecreasingBy}
use Rattle.std.proofs.lemmas.Bool.{lt-leb, le-leb, cases_lt}
use Rattle.std.proofs.lemmas.List.{same_lists, get_or_default, length-take-le, get_or-take, get_or-drop}
use Rattle.std.proofs.lemmas.List.Sums.{sum_by-cons}
use Rattle.std.proofs.lemmas.List.FromFn.{length-map-range_with_len, get_or-map-range_with_len}
use Rattle.text_rules.specs.Lines.{Line, lines_of, line_length, line_start, line_feed, carriage_return, begins_with, in_first_line, in_first_break}
use Rattle.text_rules.specs.Breaks.{ends_break, break_ends, ends_with, joins_pair, count_to}

-- the start offsets of lines, the first of which starts at `at`
abbrev pub starts_from : ℕ → List Line → List ℕ
starts_from at [] = []
starts_from at (line ∷ lines) = at ∷ starts_from (at + line_length line) lines

line_step_starts : (at u : ℕ) (joins breaks : Bool) (lines : List Line) (ends : List ℕ)
    → starts_from (at + 1) lines ≡ (at + 1) ∷ ends
    → starts_from at (if joins then in_first_break u lines else (if breaks then record { content = []; break = u ∷ [] } ∷ lines else in_first_line u lines))
    ≡ at ∷ (if (if joins then false else breaks) then (at + 1) ∷ ends else ends)
line_step_starts at u joins breaks [] ends e = cc
line_step_starts at u true breaks (l ∷ ls) ends e =
    let same : at + line_length (record { content = l.content; break = u ∷ l.break }) ≡ at + 1 + line_length l = omega arith in
    cc
line_step_starts at u false true (l ∷ ls) ends e = ap (λ s. at ∷ s) e
line_step_starts at u false false (l ∷ ls) ends e =
    let same : at + line_length (record { content = u ∷ l.content; break = l.break }) ≡ at + 1 + line_length l = omega arith in
    cc

pub starts_of_lines : (at : ℕ) (x : List ℕ) → starts_from at (lines_of x) ≡ at ∷ break_ends at x
starts_of_lines at [] = refl
starts_of_lines at (u ∷ after) =
    line_step_starts at u (u == carriage_return && begins_with line_feed after) (u == carriage_return || u == line_feed) (lines_of after) (break_ends (at + 1) after) (starts_of_lines (at + 1) after)

length-starts_from : (at : ℕ) (lines : List Line) → length (starts_from at lines) ≡ length lines
length-starts_from at [] = refl
length-starts_from at (l ∷ ls) = grind (arith, length-starts_from (at + line_length l) ls)

get_or-starts_from : (at : ℕ) (lines : List Line) (k : ℕ) → k < length lines → get_or (starts_from at lines) k 0 ≡ at + sum_by line_length (take k lines)
get_or-starts_from at [] k h = absurd (omega arith)
get_or-starts_from at (l ∷ ls) zero h = omega arith
get_or-starts_from at (l ∷ ls) (suc k) h = rw (sum_by-cons, get_or-starts_from (at + line_length l) ls k (omega arith)) (omega arith)

pub line_count_is : (x : List ℕ) → length (lines_of x) ≡ length (break_ends 0 x) + 1
line_count_is x = grind (arith, length-starts_from 0 (lines_of x), ap length (starts_of_lines 0 x))

-- the start of a line by its number
line_start_at : (x : List ℕ) (k n d : ℕ) → k < length (lines_of x) → n ≡ k + 1 → get_or (starts_from 0 (lines_of x)) k d ≡ line_start x n
line_start_at x k n d h e =
    let inside : k < length (starts_from 0 (lines_of x)) = omega (arith, length-starts_from 0 (lines_of x)) in
    let before : n - 1 ≡ k = omega arith in
    let sum : get_or (starts_from 0 (lines_of x)) k 0 ≡ sum_by line_length (take k (lines_of x)) = get_or-starts_from 0 (lines_of x) k h ∙ zero-add _ in
    get_or_default (starts_from 0 (lines_of x)) k d 0 inside ∙ sum ∙ ap (λ m. sum_by line_length (take m (lines_of x))) (sym before)

-- the start offsets of all lines
pub starts_are : (x : List ℕ) → map (line_start x) (range_with_len 1 (length (lines_of x))) ≡ 0 ∷ break_ends 0 x
starts_are x =
    let count = length-map-range_with_len (line_start x) 1 (length (lines_of x)) in
    same_lists _ _ (count ∙ sym (length-starts_from 0 (lines_of x)))
    (λ k d h.
    let within : k < length (lines_of x) = omega (arith, count) in
    get_or-map-range_with_len (line_start x) 1 (length (lines_of x)) k (k + 1) d within (omega arith)
    ∙ sym (line_start_at x k (k + 1) d within refl))
    ∙ starts_of_lines 0 x

-- the start of a line other than the first
pub line_start_is : (x : List ℕ) (k n : ℕ) → k < length (break_ends 0 x) → n ≡ k + 2 → line_start x n ≡ get_or (break_ends 0 x) k 0
line_start_is x k n h e =
    let within : suc k < length (lines_of x) = omega (arith, line_count_is x) in
    sym (line_start_at x (suc k) n 0 within (omega arith)) ∙ ap (λ s. get_or s (suc k) 0) (starts_of_lines 0 x)

-- the end offsets in the same text at another start offset
pub break_ends_moved : (by at : ℕ) (x : List ℕ) → break_ends (by + at) x ≡ map (λ e. by + e) (break_ends at x)
break_ends_moved by at [] = refl
break_ends_moved by at (u ∷ after) =
    let rest : break_ends (by + at + 1) after ≡ map (λ e. by + e) (break_ends (at + 1) after) =
    ap (λ n. break_ends n after) (add_assoc by at 1) ∙ break_ends_moved by (at + 1) after in
    elim (ends_break u after) as (λ b. cond b ((by + at + 1) ∷ break_ends (by + at + 1) after) (break_ends (by + at + 1) after) ≡ map (λ e. by + e) (cond b ((at + 1) ∷ break_ends (at + 1) after) (break_ends (at + 1) after)))
    [ true ↦ cc (add_assoc by at 1) | false ↦ rest ]

pub one_more : (n : ℕ) → 1 + n ≡ suc n
one_more n = omega arith

pub and_false : (b : Bool) → (b && false) ≡ false
and_false true = refl
and_false false = refl

ends_break_before : (cr lf joined : Bool) → (cr && joined) ≡ false → (if cr && joined then false else cr || lf) ≡ (if cr && false then false else cr || lf)
ends_break_before true lf true e = cc
ends_break_before true lf false e = refl
ends_break_before false lf joined e = refl

-- the breaks of a text are those of its two parts, unless a CR LF lies across the border
pub break_ends-append : (at : ℕ) (x y : List ℕ) → joins_pair x y ≡ false → break_ends at (x ++ y) ≡ break_ends at x ++ break_ends (at + length x) y
break_ends-append at [] y apart = ap (λ n. break_ends n y) (sym (add-zero at))
break_ends-append at (u ∷ []) y apart =
    rw (ends_break_before (u == carriage_return) (u == line_feed) (begins_with line_feed y) apart)
    (elim (ends_break u []) as (λ b. cond b ((at + 1) ∷ break_ends (at + 1) y) (break_ends (at + 1) y) ≡ cond b ((at + 1) ∷ []) [] ++ break_ends (at + 1) y)
    [ true ↦ refl | false ↦ refl ])
break_ends-append at (u ∷ v ∷ x) y apart =
    let rest : break_ends (at + 1) ((v ∷ x) ++ y) ≡ break_ends (at + 1) (v ∷ x) ++ break_ends (at + length (u ∷ v ∷ x)) y =
    break_ends-append (at + 1) (v ∷ x) y apart ∙ ap (λ n. break_ends (at + 1) (v ∷ x) ++ break_ends n y) (omega arith) in
    elim (ends_break u (v ∷ x)) as (λ b. cond b ((at + 1) ∷ break_ends (at + 1) ((v ∷ x) ++ y)) (break_ends (at + 1) ((v ∷ x) ++ y))
    ≡ cond b ((at + 1) ∷ break_ends (at + 1) (v ∷ x)) (break_ends (at + 1) (v ∷ x)) ++ break_ends (at + length (u ∷ v ∷ x)) y)
    [ true ↦ ap (λ s. (at + 1) ∷ s) rest | false ↦ rest ]

pub count_to_none : (at place : ℕ) (x : List ℕ) → place ≤ at → count_to place (break_ends at x) ≡ 0
count_to_none at place [] h = refl
count_to_none at place (u ∷ after) h =
    elim (ends_break u after) as (λ b. count_to place (cond b ((at + 1) ∷ break_ends (at + 1) after) (break_ends (at + 1) after)) ≡ 0)
    [ true ↦ rw (lt-leb (at + 1) place (omega arith)) | false ↦ count_to_none (at + 1) place after (omega arith) ]

-- the breaks that end after an offset are those of the text from the offset on
pub drop-count_to : (at n place : ℕ) (x : List ℕ) → place ≡ at + n → drop (count_to place (break_ends at x)) (break_ends at x) ≡ break_ends place (drop n x)
drop-count_to at zero place x e =
    let here : at ≡ place = omega arith in
    rw (count_to_none at place x (omega arith)) (ap (λ n. break_ends n x) here)
drop-count_to at (suc n) place [] e = refl
drop-count_to at (suc n) place (u ∷ after) e =
    elim (ends_break u after) as (λ b. drop (count_to place (cond b ((at + 1) ∷ break_ends (at + 1) after) (break_ends (at + 1) after))) (cond b ((at + 1) ∷ break_ends (at + 1) after) (break_ends (at + 1) after)) ≡ break_ends place (drop n after))
    [ true ↦ rw (le-leb (at + 1) place (omega arith), one_more) (drop-count_to (at + 1) n place after (omega arith)) | false ↦ drop-count_to (at + 1) n place after (omega arith) ]

take_first : (at place : ℕ) (cr lf joined : Bool) (ends : List ℕ) → place ≡ at + 1 → count_to place ends ≡ 0
    → (if (if cr && false then false else cr || lf) then (at + 1) ∷ [] else [])
    ≡ take (count_to place (if (if cr && joined then false else cr || lf) then (at + 1) ∷ ends else ends)) (if (if cr && joined then false else cr || lf) then (at + 1) ∷ ends else ends)
    ++ (if cr && joined then place ∷ [] else [])
take_first at place true lf true ends e none = rw none (ap (λ n. n ∷ []) (sym e))
take_first at place true lf false ends e none = rw (le-leb (at + 1) place (omega arith), none)
take_first at place false true joined ends e none = rw (le-leb (at + 1) place (omega arith), none)
take_first at place false false joined ends e none = rw none

take_more : (at place : ℕ) (breaks : Bool) (taken ends tail : List ℕ) → at + 1 ≤ place → taken ≡ take (count_to place ends) ends ++ tail
    → (if breaks then (at + 1) ∷ taken else taken)
    ≡ take (count_to place (if breaks then (at + 1) ∷ ends else ends)) (if breaks then (at + 1) ∷ ends else ends) ++ tail
take_more at place true taken ends tail h e = rw (le-leb (at + 1) place h, one_more) (ap (λ s. (at + 1) ∷ s) e)
take_more at place false taken ends tail h e = e

-- the breaks of a prefix are those that end in it, and one more if the cut separates a CR from its LF
pub break_ends-take : (at n place : ℕ) (x : List ℕ) → place ≡ at + n
    → break_ends at (take n x) ≡ take (count_to place (break_ends at x)) (break_ends at x) ++ (if joins_pair (take n x) (drop n x) then place ∷ [] else [])
break_ends-take at zero place x e = rw (count_to_none at place x (omega arith))
break_ends-take at (suc n) place [] e = refl
break_ends-take at (suc zero) place (u ∷ after) e =
    take_first at place (u == carriage_return) (u == line_feed) (begins_with line_feed after) (break_ends (at + 1) after) e (count_to_none (at + 1) place after (omega arith))
break_ends-take at (suc (suc n)) place (u ∷ []) e =
    take_more at place (ends_break u []) [] [] _ (omega arith) (rw (and_false (u == carriage_return)))
break_ends-take at (suc (suc n)) place (u ∷ v ∷ after) e =
    take_more at place (ends_break u (v ∷ after)) (break_ends (at + 1) (take (suc n) (v ∷ after))) (break_ends (at + 1) (v ∷ after)) _ (omega arith)
    (break_ends-take (at + 1) (suc n) place (v ∷ after) (omega arith))

-- the number of end offsets up to `second` is the number up to `first` plus those after it
pub count_to-drop : (first second : ℕ) (ends : List ℕ) → first ≤ second
    → count_to first ends + count_to second (drop (count_to first ends) ends) ≡ count_to second ends
count_to-drop first second [] h = refl
count_to-drop first second (e ∷ ends) h =
    elim (cases_lt first e) [
      | inl above ↦ rw (lt-leb e first above) (zero-add _)
      | inr within ↦ rw (le-leb e first within, le-leb e second (omega arith), one_more) (omega (arith, count_to-drop first second ends h))
    ]

-- a tail of greater offsets does not change the number of end offsets up to `first`
pub count_to-take : (first second : ℕ) (ends tail : List ℕ) → first ≤ second → count_to first tail ≡ 0
    → count_to first (take (count_to second ends) ends ++ tail) ≡ count_to first ends
count_to-take first second [] tail h later = later
count_to-take first second (e ∷ ends) tail h later =
    elim (cases_lt second e) [
      | inl above ↦ rw (lt-leb e second above, lt-leb e first (omega arith)) later
      | inr within ↦ rw (le-leb e second within, one_more)
          (ap (λ n. cond (leb e first) (1 + n) 0) (count_to-take first second ends tail h later))
    ]

leb-moved : (by e place : ℕ) → leb (by + e) (by + place) ≡ leb e place
leb-moved by e place =
    elim (cases_lt place e) [
      | inl above ↦ lt-leb (by + e) (by + place) (omega arith) ∙ sym (lt-leb e place above)
      | inr within ↦ le-leb (by + e) (by + place) (omega arith) ∙ sym (le-leb e place within)
    ]

pub count_to-moved : (by place : ℕ) (ends : List ℕ) → count_to (by + place) (map (λ e. by + e) ends) ≡ count_to place ends
count_to-moved by place [] = refl
count_to-moved by place (e ∷ ends) = rw (leb-moved by e place, count_to-moved by place ends)

above_cons : (at e : ℕ) (ends : List ℕ) → at < e → ((k d : ℕ) → k < length ends → at < get_or ends k d)
    → (k d : ℕ) → k < length (e ∷ ends) → at < get_or (e ∷ ends) k d
above_cons at e ends h later zero d inside = h
above_cons at e ends h later (suc k) d inside = later k d (omega arith)

-- every break ends after the text's start
pub break_ends_above : (at place : ℕ) (x : List ℕ) → place ≤ at → (k d : ℕ) → k < length (break_ends at x) → place < get_or (break_ends at x) k d
break_ends_above at place [] h = λ k d inside. absurd (omega arith)
break_ends_above at place (u ∷ after) h =
    elim (ends_break u after) as (λ b. (k d : ℕ) → k < length (cond b ((at + 1) ∷ break_ends (at + 1) after) (break_ends (at + 1) after)) → place < get_or (cond b ((at + 1) ∷ break_ends (at + 1) after) (break_ends (at + 1) after)) k d) [
      | true ↦ above_cons place (at + 1) (break_ends (at + 1) after) (omega arith) (break_ends_above (at + 1) place after (omega arith))
      | false ↦ break_ends_above (at + 1) place after (omega arith)
    ]

ascend_cons : (e : ℕ) (ends : List ℕ) → ((k d : ℕ) → k < length ends → e < get_or ends k d) → IsNonDecreasingBy (λ n. n) ends → IsNonDecreasingBy (λ n. n) (e ∷ ends)
ascend_cons e ends above rest zero zero d h inside = omega arith
ascend_cons e ends above rest zero (suc j) d h inside = let later = above j d (omega arith) in omega arith
ascend_cons e ends above rest (suc i) zero d h inside = absurd (omega arith)
ascend_cons e ends above rest (suc i) (suc j) d h inside = rest i j d (omega arith) (omega arith)

pub break_ends_ascend : (at : ℕ) (x : List ℕ) → IsNonDecreasingBy (λ e. e) (break_ends at x)
break_ends_ascend at [] = λ i j d h inside. absurd (omega arith)
break_ends_ascend at (u ∷ after) =
    elim (ends_break u after) as (λ b. IsNonDecreasingBy (λ e. e) (cond b ((at + 1) ∷ break_ends (at + 1) after) (break_ends (at + 1) after))) [
      | true ↦ ascend_cons (at + 1) (break_ends (at + 1) after) (break_ends_above (at + 1) (at + 1) after (omega arith)) (break_ends_ascend (at + 1) after)
      | false ↦ break_ends_ascend (at + 1) after
    ]

-- the last and the first unit, given by index
pub ends_with_last : (x : List ℕ) → ends_with carriage_return x ≡ (get_or x (length x - 1) 0 == carriage_return)
ends_with_last [] = refl
ends_with_last (u ∷ []) = refl
ends_with_last (u ∷ v ∷ x) =
    let last : suc (length (v ∷ x) - 1) ≡ length (u ∷ v ∷ x) - 1 = omega arith in
    ends_with_last (v ∷ x) ∙ ap (λ n. get_or (u ∷ v ∷ x) n 0 == carriage_return) last

pub begins_with_first : (x : List ℕ) → begins_with line_feed x ≡ (get_or x 0 0 == line_feed)
begins_with_first [] = refl
begins_with_first (u ∷ x) = refl

-- the condition for a cut inside a CR LF
pub joins_pair_at : (n : ℕ) (x : List ℕ) → 0 < n → n ≤ length x
    → joins_pair (take n x) (drop n x) ≡ (get_or x (n - 1) 0 == carriage_return && get_or x n 0 == line_feed)
joins_pair_at n x some inside =
    rw (ends_with_last (take n x), begins_with_first (drop n x), length-take-le n x inside, get_or-take n x (n - 1) 0 (omega arith), get_or-drop n x 0 0, add-zero n)

pub ends_with_push : (unit v : ℕ) (x : List ℕ) → ends_with unit (x ++ v ∷ []) ≡ (v == unit)
ends_with_push unit v [] = refl
ends_with_push unit v (u ∷ []) = refl
ends_with_push unit v (u ∷ w ∷ x) = ends_with_push unit v (w ∷ x)

-- a text has at most as many breaks as units
pub break_ends_few : (at : ℕ) (x : List ℕ) → length (break_ends at x) ≤ length x
break_ends_few at [] = omega arith
break_ends_few at (u ∷ after) =
    let few = break_ends_few (at + 1) after in
    elim (ends_break u after) as (λ b. length (cond b ((at + 1) ∷ break_ends (at + 1) after) (break_ends (at + 1) after)) ≤ length (u ∷ after))
    [ true ↦ omega arith | false ↦ omega arith ]

-- all end offsets are counted if the text ends at or before `place`
pub count_to_all : (at place : ℕ) (x : List ℕ) → at + length x ≤ place → count_to place (break_ends at x) ≡ length (break_ends at x)
count_to_all at place [] h = refl
count_to_all at place (u ∷ after) h =
    elim (ends_break u after) as (λ b. count_to place (cond b ((at + 1) ∷ break_ends (at + 1) after) (break_ends (at + 1) after)) ≡ length (cond b ((at + 1) ∷ break_ends (at + 1) after) (break_ends (at + 1) after)))
    [ true ↦ rw (le-leb (at + 1) place (omega arith), one_more) (ap suc (count_to_all (at + 1) place after (omega arith))) | false ↦ count_to_all (at + 1) place after (omega arith) ]

pub count_to-append : (place : ℕ) (xs ys : List ℕ) → count_to place xs ≡ length xs → count_to place (xs ++ ys) ≡ length xs + count_to place ys
count_to-append place [] ys e = sym (zero-add (count_to place ys))
count_to-append place (x ∷ xs) ys e =
    elim (cases_lt place x) [
      | inl above ↦ (let none : 0 ≡ suc (length xs) = rw (lt-leb x place above) at e in absurd (omega arith))
      | inr within ↦ (let more : suc (count_to place xs) ≡ suc (length xs) = rw (le-leb x place within, one_more) at e in
          let rest : count_to place xs ≡ length xs = omega arith in
          rw (le-leb x place within, one_more) (omega (arith, count_to-append place xs ys rest)))
    ]

pub count_to-later : (place : ℕ) (xs ys : List ℕ) → count_to place ys ≡ 0 → count_to place (xs ++ ys) ≡ count_to place xs
count_to-later place [] ys e = e
count_to-later place (x ∷ xs) ys e = ap (λ (n : ℕ). cond (leb x place) (1 + n) 0) (count_to-later place xs ys e)

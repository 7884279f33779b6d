-- The lines outside those that an edit touches, and the number of lines that replace the touched ones.
use Rattle.std.proofs.Common.{◌≡◌, ℕ, zero, suc, ◌+◌, ◌-◌, ◌<◌, ◌≤◌, ◌==◌, leb, ltb, Bool, true, false, ◌&&◌, ◌||◌, if◌then◌else◌, List, [], ◌∷◌, ◌++◌, length, take, drop, get_or, refl, ap, sym, ◌∙◌, append_assoc, add-zero, arith}
use Rattle.std.proofs.lemmas.Bool.{le-leb, lt-ltb, ltb-true, eqb-true, and_parts}
use Rattle.std.proofs.lemmas.List.{length-append, length-map, length-take-le, length-drop, get_or-drop, get_or-take, take_at, drop_at, take_more, take-take, take-append-le}
use Rattle.std.proofs.lemmas.List.Sums.{prefix_len-le-length}
use Rattle.text_lengths.specs.declared.Span.{Span}
use Rattle.text_rules.specs.Lines.{Line, lines_of, line_feed, carriage_return, begins_with, in_first_line, in_first_break}
use Rattle.text_rules.specs.Positions.{position_of}
use Rattle.text_rules.specs.Dirty.{is_after_return, touched_from, replaced, first_dirty, old_dirty, new_dirty}
use Rattle.text_rules.specs.Breaks.{break_ends, count_to, ends_with, joins_pair}
use Rattle.text_rules.proofs.Breaks.{break_ends_moved, break_ends-take, drop-count_to, count_to_none, count_to-drop, ends_with_last, begins_with_first, and_false, one_more, line_count_is}
use Rattle.text_rules.proofs.Places.{position_of_is}

take-in_first_line : (u n : ℕ) (ls : List Line) → take n (in_first_line u ls) ≡ in_first_line u (take n ls)
take-in_first_line u zero ls = refl
take-in_first_line u (suc n) [] = refl
take-in_first_line u (suc n) (l ∷ ls) = refl

take-in_first_break : (u n : ℕ) (ls : List Line) → take n (in_first_break u ls) ≡ in_first_break u (take n ls)
take-in_first_break u zero ls = refl
take-in_first_break u (suc n) [] = refl
take-in_first_break u (suc n) (l ∷ ls) = refl

drop-in_first_line : (u n : ℕ) (ls : List Line) → drop (suc n) (in_first_line u ls) ≡ drop (suc n) ls
drop-in_first_line u n [] = refl
drop-in_first_line u n (l ∷ ls) = refl

drop-in_first_break : (u n : ℕ) (ls : List Line) → drop (suc n) (in_first_break u ls) ≡ drop (suc n) ls
drop-in_first_break u n [] = refl
drop-in_first_break u n (l ∷ ls) = refl

-- ---- the lines after the line of an offset

after_step : (at place u : ℕ) (joins breaks : Bool) (ls rest : List Line) (ends : List ℕ) → at + 1 ≤ place → drop (suc (count_to place ends)) ls ≡ rest
    → drop (suc (count_to place (if (if joins then false else breaks) then (at + 1) ∷ ends else ends)))
    (if joins then in_first_break u ls else (if breaks then record { content = []; break = u ∷ [] } ∷ ls else in_first_line u ls)) ≡ rest
after_step at place u true breaks ls rest ends h e = drop-in_first_break u (count_to place ends) ls ∙ e
after_step at place u false true ls rest ends h e = rw (le-leb (at + 1) place h, one_more) e
after_step at place u false false ls rest ends h e = drop-in_first_line u (count_to place ends) ls ∙ e

-- they are the lines of the text from the offset on, without its first line
after_place : (at n place : ℕ) (x : List ℕ) → place ≡ at + n → drop (suc (count_to place (break_ends at x))) (lines_of x) ≡ drop 1 (lines_of (drop n x))
after_place at zero place x e = ap (λ (k : ℕ). drop (suc k) (lines_of x)) (count_to_none at place x (omega arith))
after_place at (suc n) place [] e = refl
after_place at (suc n) place (u ∷ x) e =
    after_step at place u (u == carriage_return && begins_with line_feed x) (u == carriage_return || u == line_feed) (lines_of x) (drop 1 (lines_of (drop n x)))
    (break_ends (at + 1) x) (omega arith) (after_place (at + 1) n place x (omega arith))

-- ---- the lines before the line of an offset

before_step : (at place u : ℕ) (joins breaks : Bool) (ls ms : List Line) (ends : List ℕ) → at + 1 ≤ place → take (count_to place ends) ls ≡ take (count_to place ends) ms
    → take (count_to place (if (if joins then false else breaks) then (at + 1) ∷ ends else ends))
    (if joins then in_first_break u ls else (if breaks then record { content = []; break = u ∷ [] } ∷ ls else in_first_line u ls))
    ≡ take (count_to place (if (if joins then false else breaks) then (at + 1) ∷ ends else ends))
    (if joins then in_first_break u ms else (if breaks then record { content = []; break = u ∷ [] } ∷ ms else in_first_line u ms))
before_step at place u true breaks ls ms ends h e =
    take-in_first_break u (count_to place ends) ls ∙ ap (in_first_break u) e ∙ sym (take-in_first_break u (count_to place ends) ms)
before_step at place u false true ls ms ends h e = rw (le-leb (at + 1) place h, one_more) (ap (λ s. record { content = []; break = u ∷ [] } ∷ s) e)
before_step at place u false false ls ms ends h e =
    take-in_first_line u (count_to place ends) ls ∙ ap (in_first_line u) e ∙ sym (take-in_first_line u (count_to place ends) ms)

same_pair : (u n : ℕ) (x : List ℕ) → joins_pair (u ∷ take n x) (drop n x) ≡ false
    → (u == carriage_return && begins_with line_feed (take n x)) ≡ (u == carriage_return && begins_with line_feed x)
same_pair u zero x apart = and_false (u == carriage_return) ∙ sym apart
same_pair u (suc n) [] apart = refl
same_pair u (suc n) (v ∷ x) apart = refl

pair_later : (u : ℕ) (x y : List ℕ) → joins_pair (u ∷ x) y ≡ false → joins_pair x y ≡ false
pair_later u [] y apart = refl
pair_later u (v ∷ x) y apart = apart

-- they are the lines of the text up to the offset, unless the offset is inside a CR LF
before_place : (at n place : ℕ) (x : List ℕ) → place ≡ at + n → joins_pair (take n x) (drop n x) ≡ false
    → take (count_to place (break_ends at x)) (lines_of x) ≡ take (count_to place (break_ends at x)) (lines_of (take n x))
before_place at zero place x e apart =
    ap (λ (k : ℕ). take k (lines_of x)) (count_to_none at place x (omega arith))
    ∙ sym (ap (λ (k : ℕ). take k (lines_of [])) (count_to_none at place x (omega arith)))
before_place at (suc n) place [] e apart = refl
before_place at (suc n) place (u ∷ x) e apart =
    rw (same_pair u n x apart)
    (before_step at place u (u == carriage_return && begins_with line_feed x) (u == carriage_return || u == line_feed) (lines_of x) (lines_of (take n x))
    (break_ends (at + 1) x) (omega arith) (before_place (at + 1) n place x (omega arith) (pair_later u (take n x) (drop n x) apart)))

-- ---- the number of breaks

abbrev pub one_if : Bool → ℕ
one_if b = if b then 1 else 0

length-tail : (b : Bool) (n : ℕ) → length (if b then n ∷ [] else []) ≡ one_if b
length-tail true n = refl
length-tail false n = refl

breaks_of_front : (n : ℕ) (x : List ℕ)
    → length (break_ends 0 (take n x)) ≡ count_to n (break_ends 0 x) + one_if (joins_pair (take n x) (drop n x))
breaks_of_front n x =
    let ends : List ℕ = break_ends 0 x in
    let few : count_to n ends ≤ length ends = prefix_len-le-length (λ e. leb e n) ends in
    ap length (break_ends-take 0 n n x (omega arith))
    ∙ length-append (take (count_to n ends) ends) (if joins_pair (take n x) (drop n x) then n ∷ [] else [])
    ∙ (λ i. length-take-le (count_to n ends) ends few i + length-tail (joins_pair (take n x) (drop n x)) n i)

breaks_of_back : (n : ℕ) (x : List ℕ) → length (break_ends 0 (drop n x)) + count_to n (break_ends 0 x) ≡ length (break_ends 0 x)
breaks_of_back n x =
    let ends : List ℕ = break_ends 0 x in
    let place : n + 0 ≡ n = omega arith in
    omega (
      arith,
      ap length (drop-count_to 0 n n x (omega arith)),
      length-drop (count_to n ends) ends,
      prefix_len-le-length (λ e. leb e n) ends,
      ap (λ (k : ℕ). length (break_ends k (drop n x))) (sym place) ∙ ap length (break_ends_moved n 0 (drop n x)) ∙ length-map (break_ends 0 (drop n x)) (λ e. n + e),
    )

-- the number of breaks of two texts together is the sum, minus one if a CR and an LF meet at the border
breaks_of_both : (x y : List ℕ) → length (break_ends 0 (x ++ y)) + one_if (joins_pair x y) ≡ length (break_ends 0 x) + length (break_ends 0 y)
breaks_of_both x y =
    let n : ℕ = length x in
    let first : take n (x ++ y) ≡ x = take_at x y n refl in
    let second : drop n (x ++ y) ≡ y = drop_at x y n refl in
    let meet : one_if (joins_pair (take n (x ++ y)) (drop n (x ++ y))) ≡ one_if (joins_pair x y) =
    (λ i. one_if (joins_pair (first i) (second i))) in
    let front = breaks_of_front n (x ++ y) in
    let back = breaks_of_back n (x ++ y) in
    omega (
      arith,
      front,
      back,
      ap (λ t. length (break_ends 0 t)) first,
      ap (λ t. length (break_ends 0 t)) second,
      meet,
    )

-- ---- the first offset that an edit touches

pub after_return_is : (x : List ℕ) (place : ℕ) → place ≤ length x → is_after_return x place ≡ ends_with carriage_return (take place x)
after_return_is x zero within = refl
after_return_is x (suc m) within =
    let t : List ℕ = take (suc m) x in
    let last : length t - 1 ≡ suc m - 1 = omega (arith, length-take-le (suc m) x within) in
    ap (λ b. b && get_or x (suc m - 1) 0 == carriage_return) (lt-ltb 0 (suc m) (omega arith))
    ∙ sym (ends_with_last t ∙ ap (λ (k : ℕ). get_or t k 0 == carriage_return) last
    ∙ ap (λ (u : ℕ). u == carriage_return) (get_or-take (suc m) x (suc m - 1) 0 (omega arith)))

return_here : (x : List ℕ) (place : ℕ) (after : Bool) → is_after_return x place ≡ after → place ≤ length x
    → joins_pair (take (if after then place - 1 else place) x) (drop (if after then place - 1 else place) x) ≡ false
return_here x place true is within =
    let unit : get_or x (place - 1) 0 ≡ carriage_return = eqb-true _ _ (and_parts (ltb 0 place) (get_or x (place - 1) 0 == carriage_return) is).1 in
    ap (λ b. ends_with carriage_return (take (place - 1) x) && b)
    (begins_with_first (drop (place - 1) x)
    ∙ ap (λ (u : ℕ). u == line_feed) (get_or-drop (place - 1) x 0 0 ∙ ap (λ (k : ℕ). get_or x k 0) (add-zero (place - 1)) ∙ unit))
    ∙ and_false (ends_with carriage_return (take (place - 1) x))
return_here x place false is within = ap (λ b. b && begins_with line_feed (drop place x)) (sym (after_return_is x place within) ∙ is)

count_at : (n : ℕ) (x : List ℕ) → joins_pair (take n x) (drop n x) ≡ false → length (break_ends 0 (take n x)) ≡ count_to n (break_ends 0 x)
count_at n x apart =
    breaks_of_front n x ∙ ap (λ b. count_to n (break_ends 0 x) + one_if b) apart ∙ add-zero (count_to n (break_ends 0 x))

touched_within : (place : ℕ) (after : Bool) → (if after then place - 1 else place) ≤ place
touched_within place true = omega arith
touched_within place false = omega arith

-- a CR at the end of a prefix counts as a break of the prefix
breaks_before : (x : List ℕ) (place : ℕ) (after : Bool) → is_after_return x place ≡ after → place ≤ length x
    → length (break_ends 0 (take place x)) ≡ length (break_ends 0 (take (if after then place - 1 else place) x)) + one_if after
breaks_before x place true is within =
    let parts = and_parts (ltb 0 place) (get_or x (place - 1) 0 == carriage_return) is in
    let unit : get_or x (place - 1) 0 ≡ carriage_return = eqb-true _ _ parts.1 in
    let some : 0 < place = ltb-true 0 place parts.0 in
    let number : place - 1 + 1 ≡ place = omega arith in
    let front : List ℕ = take (place - 1) x in
    let split : take place x ≡ front ++ carriage_return ∷ [] =
    ap (λ (k : ℕ). take k x) (sym number) ∙ take_more x (place - 1) 0 (omega arith) ∙ ap (λ (u : ℕ). front ++ u ∷ []) unit in
    let none : one_if (joins_pair front (carriage_return ∷ [])) ≡ 0 =
    ap one_if (and_false (ends_with carriage_return front)) in
    omega (arith, ap (λ t. length (break_ends 0 t)) split, breaks_of_both front (carriage_return ∷ []), none)
breaks_before x place false is within = sym (add-zero (length (break_ends 0 (take place x))))

-- ---- an edit

module _ (x : List ℕ) (span : Span) (text : List ℕ) (ordered : span.start ≤ span.end) (within : span.end ≤ length x) where
  abbrev e : List ℕ
  e = replaced x span text

  abbrev front : List ℕ
  front = take span.start x

  abbrev back : List ℕ
  back = drop span.end x

  abbrev after : Bool
  after = is_after_return x span.start

  abbrev place : ℕ
  place = touched_from x span.start

  abbrev f : ℕ
  f = count_to place (break_ends 0 x)

  long : length front ≡ span.start
  long = length-take-le span.start x (omega arith)

  regrouped : e ≡ front ++ (text ++ back)
  regrouped = append_assoc front text back

  reach : span.start ≤ length e
  reach = omega (arith, ap length regrouped, length-append front (text ++ back), long)

  -- the text before the edit is unchanged
  same_front : (n : ℕ) → n ≤ span.start → take n e ≡ take n x
  same_front n h =
      ap (take n) regrouped ∙ take-append-le n front (text ++ back) (omega (arith, long)) ∙ take-take n span.start x h

  same_after : is_after_return e span.start ≡ after
  same_after =
      after_return_is e span.start reach ∙ ap (ends_with carriage_return) (same_front span.start (omega arith))
      ∙ sym (after_return_is x span.start (omega arith))

  place_within : place ≤ span.start
  place_within = touched_within span.start after

  apart_old : joins_pair (take place x) (drop place x) ≡ false
  apart_old = return_here x span.start after refl (omega arith)

  apart_new : joins_pair (take place e) (drop place e) ≡ false
  apart_new = return_here e span.start after same_after reach

  f_new : count_to place (break_ends 0 e) ≡ f
  f_new = sym (count_at place e apart_new) ∙ ap (λ t. length (break_ends 0 t)) (same_front place place_within) ∙ count_at place x apart_old

  pub first_is : first_dirty x span ≡ f + 1
  first_is = ap (λ p. p.line) (position_of_is x place)

  pub last_is : (position_of x span.end).line ≡ count_to span.end (break_ends 0 x) + 1
  last_is = ap (λ p. p.line) (position_of_is x span.end)

  pub f_within : f ≤ count_to span.end (break_ends 0 x)
  f_within = let rise = count_to-drop place span.end (break_ends 0 x) (omega (arith, place_within)) in omega (arith, rise)

  -- the lines before the touched ones are unchanged
  same_before : take f (lines_of e) ≡ take f (lines_of x)
  same_before =
      ap (λ (k : ℕ). take k (lines_of e)) (sym f_new) ∙ before_place 0 place place e (omega arith) apart_new
      ∙ (λ i. take (f_new i) (lines_of (same_front place place_within i))) ∙ sym (before_place 0 place place x (omega arith) apart_old)

  pub lines_before : take (first_dirty x span - 1) (lines_of e) ≡ take (first_dirty x span - 1) (lines_of x)
  lines_before =
      let number : first_dirty x span - 1 ≡ f = omega (arith, first_is) in
      ap (λ (k : ℕ). take k (lines_of e)) number ∙ same_before ∙ ap (λ (k : ℕ). take k (lines_of x)) (sym number)

  abbrev after_text : ℕ
  after_text = length (front ++ text)

  abbrev ce : ℕ
  ce = count_to after_text (break_ends 0 e)

  rest_is : drop after_text e ≡ back
  rest_is = drop_at (front ++ text) back after_text refl

  breaks_new : length (break_ends 0 back) + ce ≡ length (break_ends 0 e)
  breaks_new = ap (λ t. length (break_ends 0 t) + ce) (sym rest_is) ∙ breaks_of_back after_text e

  f_within_new : f ≤ ce
  f_within_new =
      let rise = count_to-drop place after_text (break_ends 0 e) (omega (arith, place_within, length-append front text, long)) in omega (arith, rise, f_new)

  old_end : first_dirty x span - 1 + old_dirty x span ≡ suc (count_to span.end (break_ends 0 x))
  old_end = omega (arith, first_is, last_is, f_within)

  new_end : first_dirty x span - 1 + new_dirty x span text ≡ suc ce
  new_end =
      omega (
        arith,
        first_is,
        last_is,
        f_within,
        f_within_new,
        line_count_is x,
        line_count_is e,
        breaks_new,
        breaks_of_back span.end x,
      )

  -- the lines after the touched ones are unchanged
  pub lines_after : drop (first_dirty x span - 1 + new_dirty x span text) (lines_of e) ≡ drop (first_dirty x span - 1 + old_dirty x span) (lines_of x)
  lines_after =
      ap (λ (k : ℕ). drop k (lines_of e)) new_end ∙ after_place 0 after_text after_text e (omega arith) ∙ ap (λ t. drop 1 (lines_of t)) rest_is
      ∙ sym (after_place 0 span.end span.end x (omega arith)) ∙ ap (λ (k : ℕ). drop k (lines_of x)) (sym old_end)

  -- the number of lines that replace them: the lines of the new text, plus the one of a CR right before the edit, minus
  -- one for each CR LF that forms at a border
  pub new_is : new_dirty x span text + one_if (joins_pair front (text ++ back)) + one_if (joins_pair text back)
      ≡ length (break_ends 0 text) + 1 + one_if after
  new_is =
      omega (
        arith,
        first_is,
        new_end,
        f_within_new,
        breaks_new,
        ap (λ t. length (break_ends 0 t)) regrouped,
        breaks_of_both front (text ++ back),
        breaks_of_both text back,
        breaks_before x span.start after refl (omega arith),
        count_at place x apart_old,
      )

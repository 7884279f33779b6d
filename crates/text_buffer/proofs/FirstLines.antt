-- The first line of a text, and the lines of a text from the start of one of them on.
use Rattle.std.proofs.Common.{◌≡◌, ℕ, zero, suc, ◌+◌, ◌-◌, ◌<◌, ◌≤◌, ◌==◌, ◌&&◌, ◌||◌, Bool, true, false, if◌then◌else◌, Some, List, [], ◌∷◌, ◌++◌, length, take, drop, get_or, sum_by, refl, ap, sym, subst, ◌∙◌, append_assoc, add-zero, arith}
use Rattle.std.proofs.lemmas.Bool.{and_parts, or_parts, eqb-true}
use Rattle.std.proofs.lemmas.List.{append-nil, drop-drop, drop_more, length-drop, length-take-le, take-take}
use Rattle.std.proofs.lemmas.List.Sums.{sum_by-cons}
use Rattle.line_starts.specs.Starts.{break_count}
use Rattle.text_rules.specs.Lines.{Line, lines_of, line_at, line_length, line_start, line_feed, carriage_return, begins_with, in_first_line, in_first_break}
use Rattle.text_rules.specs.Breaks.{joins_pair, break_ends}
use Rattle.text_rules.proofs.Breaks.{and_false, line_count_is, line_start_is, break_ends_above}
use Rattle.text_rules.proofs.Places.{line_start_within}
use Rattle.text_buffer.specs.Reading.{first_line}
use Rattle.text_buffer.specs.Text.{ends_with_pair}
use Rattle.text_buffer.proofs.Contents.{first_is_feed, content_end_by, content_of, line_at_is}

-- the lines with these units before their first one
abbrev pub in_front : List ℕ → List Line → List Line
in_front x [] = []
in_front x (l ∷ ls) = record { content = x ++ l.content; break = l.break } ∷ ls

pub in_front_none : (ls : List Line) → in_front [] ls ≡ ls
in_front_none [] = refl
in_front_none (l ∷ ls) = refl

in_front_more : (u : ℕ) (x : List ℕ) (ls : List Line) → in_first_line u (in_front x ls) ≡ in_front (u ∷ x) ls
in_front_more u x [] = refl
in_front_more u x (l ∷ ls) = refl

length-in_first_line : (u : ℕ) (ls : List Line) → length (in_first_line u ls) ≡ length ls
length-in_first_line u [] = refl
length-in_first_line u (l ∷ ls) = refl

length-in_first_break : (u : ℕ) (ls : List Line) → length (in_first_break u ls) ≡ length ls
length-in_first_break u [] = refl
length-in_first_break u (l ∷ ls) = refl

pub first-in_front : (x : List ℕ) (ls : List Line) → 0 < length ls → (first_line (in_front x ls)).content ≡ x ++ (first_line ls).content
first-in_front x [] some = absurd (omega arith)
first-in_front x (l ∷ ls) some = refl

pub in_front-in_front : (x y : List ℕ) (ls : List Line) → in_front x (in_front y ls) ≡ in_front (x ++ y) ls
in_front-in_front x y [] = refl
in_front-in_front x y (l ∷ ls) = λ i. record { content = sym (append_assoc x y l.content) i; break = l.break } ∷ ls

pub some_line : (x : List ℕ) → 0 < length (lines_of x)
some_line x = omega (arith, line_count_is x)

pub some_break : (x : List ℕ) → 0 < break_count x → 2 ≤ length (lines_of x)
some_break x some = omega (arith, some, some_line x)

first_or_none : (ls : List Line) → get_or ls 0 (record { content = []; break = [] }) ≡ first_line ls
first_or_none [] = refl
first_or_none (l ∷ ls) = refl

second_start : (ls : List Line) → 0 < length ls → sum_by line_length (take 1 ls) ≡ line_length (first_line ls)
second_start [] some = absurd (omega arith)
second_start (l ∷ ls) some = sum_by-cons line_length l [] ∙ add-zero (line_length l)

-- the first line, by where the second one starts
pub first_size : (x : List ℕ) → line_start x 2 ≡ line_length (first_line (lines_of x))
first_size x = second_start (lines_of x) (some_line x)

pub first_within : (x : List ℕ) → 2 ≤ length (lines_of x) → line_start x 2 ≤ length x
first_within x some = line_start_within x 0 2 (omega (arith, line_count_is x)) refl

pub first_some : (x : List ℕ) → 2 ≤ length (lines_of x) → 0 < line_start x 2
first_some x some =
    let inside : 0 < length (break_ends 0 x) = omega (arith, line_count_is x) in
    omega (arith, line_start_is x 0 2 inside refl, break_ends_above 0 0 x (omega arith) 0 0 inside)

pub first_content : (x : List ℕ) (end : ℕ) → 2 ≤ length (lines_of x) → end ≡ line_start x 2
    → take (length (take end x) - (if ends_with_pair (take end x) then 2 else 1)) (take end x) ≡ (first_line (lines_of x)).content
first_content x end some end_is =
    let d : Line = record { content = []; break = [] } in
    let within : end ≤ length x = omega (arith, first_within x some) in
    let long : length (take end x) ≡ end = length-take-le end x within in
    let all : end - 0 ≡ end = omega arith in
    let break : ℕ = if ends_with_pair (take end x) then 2 else 1 in
    let content : List ℕ = (get_or (lines_of x) 0 d).content in
    let size : length content + break + 0 ≡ end =
    content_end_by x 1 0 end d (ends_with_pair (take end x)) (omega arith) (omega arith) refl end_is (ap (λ (n : ℕ). ends_with_pair (take n x)) all) in
    let count : length (take end x) - break ≡ length content = omega (arith, long, size) in
    ap (λ (n : ℕ). take n (take end x)) count ∙ take-take (length content) end x (omega (arith, size))
    ∙ sym (content_of x 1 0 d (omega arith) (omega arith) refl) ∙ ap (λ (l : Line). l.content) (first_or_none (lines_of x))

-- ---- a text with no break

alone : (u : ℕ) (x y : List ℕ) (joins breaks : Bool) → (u == carriage_return && begins_with line_feed x) ≡ joins → (u == carriage_return || u == line_feed) ≡ breaks
    → length (if joins then in_first_break u (lines_of x) else (if breaks then record { content = []; break = u ∷ [] } ∷ lines_of x else in_first_line u (lines_of x))) ≡ 1
    → (length (lines_of x) ≡ 1 → lines_of (x ++ y) ≡ in_front x (lines_of y)) → lines_of ((u ∷ x) ++ y) ≡ in_front (u ∷ x) (lines_of y)
alone u x y true breaks j e one rest =
    let parts = and_parts (u == carriage_return) (begins_with line_feed x) j in
    absurd (omega (arith, one, length-in_first_break u (lines_of x), ap length (first_is_feed x parts.1), some_line (drop 1 x)))
alone u x y false true j e one rest = absurd (omega (arith, one, some_line x))
alone u x y false false j e one rest =
    let parts = or_parts (u == carriage_return) (u == line_feed) e in
    rw (parts.0, parts.1) (ap (in_first_line u) (rest (sym (length-in_first_line u (lines_of x)) ∙ one)) ∙ in_front_more u x (lines_of y))

-- units with no break stand before the first line of what follows them
pub lines_after_no_break : (x y : List ℕ) → length (lines_of x) ≡ 1 → lines_of (x ++ y) ≡ in_front x (lines_of y)
lines_after_no_break [] y one = sym (in_front_none (lines_of y))
lines_after_no_break (u ∷ x) y one =
    alone u x y (u == carriage_return && begins_with line_feed x) (u == carriage_return || u == line_feed) refl refl one (lines_after_no_break x y)

-- ---- a text with a break

pair_later : (u : ℕ) (x y : List ℕ) → joins_pair (u ∷ x) y ≡ false → joins_pair x y ≡ false
pair_later u [] y apart = refl
pair_later u (v ∷ x) y apart = apart

same_pair : (u : ℕ) (x y : List ℕ) → joins_pair (u ∷ x) y ≡ false → (u == carriage_return && begins_with line_feed (x ++ y)) ≡ (u == carriage_return && begins_with line_feed x)
same_pair u [] y apart = apart ∙ sym (and_false (u == carriage_return))
same_pair u (v ∷ x) y apart = refl

-- a line that is longer by a unit
longer_first : (u : ℕ) (x y : List ℕ) (lines whole : List Line) → 0 < length lines
    → whole ≡ first_line lines ∷ lines_of (drop (line_length (first_line lines)) x ++ y)
    → in_first_line u whole ≡ first_line (in_first_line u lines) ∷ lines_of (drop (line_length (first_line (in_first_line u lines))) (u ∷ x) ++ y)
longer_first u x y [] whole some e = absurd (omega arith)
longer_first u x y (l ∷ ls) whole some e =
    let size : line_length (record { content = u ∷ l.content; break = l.break }) ≡ suc (line_length l) = omega arith in
    ap (in_first_line u) e ∙ ap (λ (n : ℕ). record { content = u ∷ l.content; break = l.break } ∷ lines_of (drop n (u ∷ x) ++ y)) (sym size)

joined_first : (u v : ℕ) (x y : List ℕ) → v ≡ line_feed
    → in_first_break u (lines_of ((v ∷ x) ++ y)) ≡ first_line (in_first_break u (lines_of (v ∷ x))) ∷ lines_of (drop (line_length (first_line (in_first_break u (lines_of (v ∷ x))))) (u ∷ v ∷ x) ++ y)
joined_first u v x y is =
    subst (λ (w : ℕ). in_first_break u (lines_of ((w ∷ x) ++ y)) ≡ first_line (in_first_break u (lines_of (w ∷ x))) ∷ lines_of (drop (line_length (first_line (in_first_break u (lines_of (w ∷ x))))) (u ∷ w ∷ x) ++ y)) (sym is) refl

broken : (u : ℕ) (x y : List ℕ) (joins breaks : Bool) → (u == carriage_return && begins_with line_feed x) ≡ joins → (u == carriage_return || u == line_feed) ≡ breaks
    → (2 ≤ length (lines_of x) → lines_of (x ++ y) ≡ first_line (lines_of x) ∷ lines_of (drop (line_length (first_line (lines_of x))) x ++ y))
    → 2 ≤ length (if joins then in_first_break u (lines_of x) else (if breaks then record { content = []; break = u ∷ [] } ∷ lines_of x else in_first_line u (lines_of x)))
    → (if joins then in_first_break u (lines_of (x ++ y)) else (if breaks then record { content = []; break = u ∷ [] } ∷ lines_of (x ++ y) else in_first_line u (lines_of (x ++ y))))
    ≡ first_line (if joins then in_first_break u (lines_of x) else (if breaks then record { content = []; break = u ∷ [] } ∷ lines_of x else in_first_line u (lines_of x)))
    ∷ lines_of (drop (line_length (first_line (if joins then in_first_break u (lines_of x) else (if breaks then record { content = []; break = u ∷ [] } ∷ lines_of x else in_first_line u (lines_of x))))) (u ∷ x) ++ y)
broken u [] y true breaks j e rest some =
    let parts = and_parts (u == carriage_return) false j in absurd (let n : false ≡ true = parts.1 in cc)
broken u (v ∷ x) y true breaks j e rest some =
    joined_first u v x y (eqb-true v line_feed (and_parts (u == carriage_return) (v == line_feed) j).1)
broken u x y false true j e rest some = refl
broken u x y false false j e rest some =
    longer_first u x y (lines_of x) (lines_of (x ++ y)) (some_line x) (rest (omega (arith, some, length-in_first_line u (lines_of x))))

-- the first line of a text that has a break is that of a longer text too, where no CR LF lies across
pub first_line_of_both : (x y : List ℕ) → 2 ≤ length (lines_of x) → joins_pair x y ≡ false
    → lines_of (x ++ y) ≡ first_line (lines_of x) ∷ lines_of (drop (line_length (first_line (lines_of x))) x ++ y)
first_line_of_both [] y some apart = absurd (omega arith)
first_line_of_both (u ∷ x) y some apart =
    rw (same_pair u x y apart)
    (broken u x y (u == carriage_return && begins_with line_feed x) (u == carriage_return || u == line_feed) refl refl
    (λ more. first_line_of_both x y more (pair_later u x y apart)) some)

-- after its first line a text goes on with the other ones
lines_after_first : (x : List ℕ) → 2 ≤ length (lines_of x) → lines_of x ≡ first_line (lines_of x) ∷ lines_of (drop (line_length (first_line (lines_of x))) x)
lines_after_first x some =
    let n : ℕ = line_length (first_line (lines_of x)) in
    ap lines_of (sym (append-nil x)) ∙ first_line_of_both x [] some (and_false _) ∙ ap (λ (s : List ℕ). first_line (lines_of x) ∷ lines_of s) (append-nil (drop n x))

-- ---- the lines from one of them on

lines_past : (k : ℕ) (x : List ℕ) → k < length (lines_of x) → lines_of (drop (sum_by line_length (take k (lines_of x))) x) ≡ drop k (lines_of x)
lines_past zero x there = refl
lines_past (suc k) x there =
    let l : Line = first_line (lines_of x) in
    let y : List ℕ = drop (line_length l) x in
    let cut : lines_of x ≡ l ∷ lines_of y = lines_after_first x (omega arith) in
    let size : sum_by line_length (take (suc k) (lines_of x)) ≡ line_length l + sum_by line_length (take k (lines_of y)) =
    ap (λ ls. sum_by line_length (take (suc k) ls)) cut ∙ sum_by-cons line_length l (take k (lines_of y)) in
    ap (λ (n : ℕ). lines_of (drop n x)) size ∙ ap lines_of (sym (drop-drop (sum_by line_length (take k (lines_of y))) (line_length l) x))
    ∙ lines_past k y (omega (arith, there, ap length cut)) ∙ ap (drop (suc k)) (sym cut)

-- from the start of a line on the text has that line and the later ones
pub lines_from : (x : List ℕ) (n : ℕ) → 0 < n → n ≤ length (lines_of x) → lines_of (drop (line_start x n) x) ≡ drop (n - 1) (lines_of x)
lines_from x n first there = lines_past (n - 1) x (omega arith)

-- the lines from one of them on, of which the first is read
module _ (x : List ℕ) (n : ℕ) (first : 0 < n) (there : n ≤ length (lines_of x)) (old : List Line) (old_is : old ≡ drop (n - 1) (lines_of x)) where
  pub first_read : (line : Line) → line_at x n ≡ Some line → first_line old ≡ line
  first_read line at =
      let found = line_at_is x n line first there in
      let same : get_or (lines_of x) (n - 1) line ≡ line = cc in
      ap first_line (old_is ∙ drop_more (lines_of x) (n - 1) line (omega arith)) ∙ same

  pub later_left : (new : List Line) → (2 ≤ length old → new ≡ drop 1 old) → n < length (lines_of x) → new ≡ drop n (lines_of x)
  later_left new more later =
      let number : n - 1 + 1 ≡ n = omega arith in
      more (omega (arith, ap length old_is, length-drop (n - 1) (lines_of x))) ∙ ap (drop 1) old_is ∙ drop-drop 1 (n - 1) (lines_of x)
      ∙ ap (λ (k : ℕ). drop k (lines_of x)) number

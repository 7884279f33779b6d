-- The content of a line, by the units at its end.
use Rattle.std.proofs.Common.{◌≡◌, ℕ, zero, suc, ◌+◌, ◌-◌, ◌<◌, ◌≤◌, ◌==◌, ◌&&◌, ◌||◌, ◌⊎◌, Bool, true, false, cond, if◌then◌else◌, Some, None, List, [], ◌∷◌, ◌++◌, length, take, drop, get_or, sum_by, refl, ap, sym, subst, ◌∙◌, inl, inr, append_assoc, arith}
use Rattle.std.specs.List.{flat_map}
use Rattle.std.proofs.lemmas.Bool.{and_parts, or_cases, or_parts, eqb-true, cases_eq, ne_eqb}
use Rattle.std.proofs.lemmas.List.{length-append, length-drop, length-take, length-take-le, get_or-take, get_or-drop, drop_more, drop_all, take_at}
use Rattle.std.proofs.lemmas.Option.{slice_get-get_or, slice_get_past}
use Rattle.std.proofs.lemmas.List.Sums.{sum_by-cons, sum_by_more}
use Rattle.text_rules.specs.Lines.{Line, lines_of, line_length, line_start, line_at, line_feed, carriage_return, begins_with, in_first_line, in_first_break}
use Rattle.text_rules.specs.Breaks.{ends_with}
use Rattle.text_rules.proofs.Breaks.{and_false, line_count_is}
use Rattle.text_rules.proofs.Places.{line_start_after, line_start_within}
use Rattle.text_buffer.specs.Text.{ends_with_pair}
use Rattle.text_buffer.proofs.Spelling.{drop-past}

-- one of the three kinds of break
abbrev IsBreak : List ℕ → Type 0
IsBreak units = (units ≡ 10 ∷ []) ⊎ ((units ≡ 13 ∷ []) ⊎ (units ≡ 13 ∷ 10 ∷ []))

-- no content ends with a CR, and each line but the last ends with a break
abbrev pub IsCut : List Line → Type 0
IsCut [] = ⊥
IsCut (l ∷ []) = (ends_with 13 l.content ≡ false) × (l.break ≡ [])
IsCut (l ∷ m ∷ ls) = (ends_with 13 l.content ≡ false) × (IsBreak l.break × IsCut (m ∷ ls))

pub first_is_feed : (after : List ℕ) → begins_with line_feed after ≡ true → lines_of after ≡ record { content = []; break = 10 ∷ [] } ∷ lines_of (drop 1 after)
first_is_feed [] e = absurd cc
first_is_feed (v ∷ z) e = subst (λ (u : ℕ). lines_of (u ∷ z) ≡ record { content = []; break = 10 ∷ [] } ∷ lines_of z) (sym (eqb-true v 10 e)) refl

content_more : (u : ℕ) (content : List ℕ) → (u == 13) ≡ false → ends_with 13 content ≡ false → ends_with 13 (u ∷ content) ≡ false
content_more u [] other e = other
content_more u (v ∷ content) other e = e

joined : (u : ℕ) (lines : List Line) → u ≡ 13 → IsCut (record { content = []; break = 10 ∷ [] } ∷ lines) → IsCut (record { content = []; break = u ∷ 10 ∷ [] } ∷ lines)
joined u [] is cut = absurd (let e : 10 ∷ [] ≡ [] = cut.1 in let n : ⊥ = cc in n)
joined u (m ∷ ls) is cut = (refl, (inr (inr (ap (λ (v : ℕ). v ∷ 10 ∷ []) is)), cut.1.1))

ended : (u : ℕ) (lines : List Line) → (u == 13 || u == 10) ≡ true → IsCut lines → IsCut (record { content = []; break = u ∷ [] } ∷ lines)
ended u [] is cut = absurd cut
ended u (m ∷ ls) is cut = (
  refl,
  (
    elim (or_cases (u == 13) (u == 10) is) [
      | inl cr ↦ inr (inl (ap (λ (v : ℕ). v ∷ []) (eqb-true u 13 cr)))
      | inr lf ↦ inl (ap (λ (v : ℕ). v ∷ []) (eqb-true u 10 lf))
    ],
    cut,
  ),
)

longer : (u : ℕ) (lines : List Line) → (u == 13) ≡ false → IsCut lines → IsCut (in_first_line u lines)
longer u [] other cut = absurd cut
longer u (l ∷ []) other cut = (content_more u l.content other cut.0, cut.1)
longer u (l ∷ m ∷ ls) other cut = (content_more u l.content other cut.0, cut.1)

step : (u : ℕ) (after : List ℕ) (joins breaks : Bool) → (u == carriage_return && begins_with line_feed after) ≡ joins → (u == carriage_return || u == line_feed) ≡ breaks
    → IsCut (lines_of after)
    → IsCut (if joins then in_first_break u (lines_of after) else (if breaks then record { content = []; break = u ∷ [] } ∷ lines_of after else in_first_line u (lines_of after)))
step u after true breaks j e cut =
    let parts = and_parts (u == 13) (begins_with line_feed after) j in
    let first = first_is_feed after parts.1 in
    subst (λ (lines : List Line). IsCut (in_first_break u lines)) (sym first) (joined u (lines_of (drop 1 after)) (eqb-true u 13 parts.0) (subst IsCut first cut))
step u after false true j e cut = ended u (lines_of after) e cut
step u after false false j e cut = longer u (lines_of after) (or_parts (u == 13) (u == 10) e).0 cut

pub lines_cut : (x : List ℕ) → IsCut (lines_of x)
lines_cut [] = (refl, refl)
lines_cut (u ∷ after) = step u after (u == carriage_return && begins_with line_feed after) (u == carriage_return || u == line_feed) refl refl (lines_cut after)

after_pair : (x : List ℕ) → ends_with_pair (x ++ 13 ∷ 10 ∷ []) ≡ true
after_pair [] = refl
after_pair (u ∷ []) = refl
after_pair (u ∷ v ∷ []) = refl
after_pair (u ∷ v ∷ w ∷ x) = after_pair (v ∷ w ∷ x)

after_return : (x : List ℕ) → ends_with_pair (x ++ 13 ∷ []) ≡ false
after_return [] = refl
after_return (u ∷ []) = and_false (u == 13)
after_return (u ∷ v ∷ []) = after_return (v ∷ [])
after_return (u ∷ v ∷ w ∷ x) = after_return (v ∷ w ∷ x)

after_feed : (x : List ℕ) → ends_with 13 x ≡ false → ends_with_pair (x ++ 10 ∷ []) ≡ false
after_feed [] e = refl
after_feed (u ∷ []) e = ap (λ b. b && true) e
after_feed (u ∷ v ∷ []) e = after_feed (v ∷ []) e
after_feed (u ∷ v ∷ w ∷ x) e = after_feed (v ∷ w ∷ x) e

break_size : (content break : List ℕ) → ends_with 13 content ≡ false → IsBreak break → length break ≡ (if ends_with_pair (content ++ break) then 2 else 1)
break_size content break e is =
    elim is [
      | inl lf ↦ subst (λ (b : List ℕ). length b ≡ cond (ends_with_pair (content ++ b)) 2 1) (sym lf) (rw (after_feed content e))
      | inr other ↦ elim other [
        | inl cr ↦ subst (λ (b : List ℕ). length b ≡ cond (ends_with_pair (content ++ b)) 2 1) (sym cr) (rw (after_return content))
        | inr both ↦ subst (λ (b : List ℕ). length b ≡ cond (ends_with_pair (content ++ b)) 2 1) (sym both) (rw (after_pair content))
      ]
    ]

pub ends_with_pair_at : (x : List ℕ) → 2 ≤ length x → ends_with_pair x ≡ (get_or x (length x - 2) 0 == 13 && get_or x (length x - 1) 0 == 10)
ends_with_pair_at [] h = absurd (omega arith)
ends_with_pair_at (u ∷ []) h = absurd (omega arith)
ends_with_pair_at (u ∷ v ∷ []) h = refl
ends_with_pair_at (u ∷ v ∷ w ∷ x) h =
    let a : suc (length (v ∷ w ∷ x) - 2) ≡ length (u ∷ v ∷ w ∷ x) - 2 = omega arith in
    let b : suc (length (v ∷ w ∷ x) - 1) ≡ length (u ∷ v ∷ w ∷ x) - 1 = omega arith in
    ends_with_pair_at (v ∷ w ∷ x) (omega arith)
    ∙ ap (λ (n : ℕ). get_or (u ∷ v ∷ w ∷ x) n 0 == 13 && get_or (v ∷ w ∷ x) (length (v ∷ w ∷ x) - 1) 0 == 10) a
    ∙ ap (λ (n : ℕ). get_or (u ∷ v ∷ w ∷ x) (length (u ∷ v ∷ w ∷ x) - 2) 0 == 13 && get_or (u ∷ v ∷ w ∷ x) n 0 == 10) b

pub ends_with_pair_short : (x : List ℕ) → length x < 2 → ends_with_pair x ≡ false
ends_with_pair_short [] h = refl
ends_with_pair_short (u ∷ []) h = refl
ends_with_pair_short (u ∷ v ∷ x) h = absurd (omega arith)

pub ends_with_pair_long : (x : List ℕ) → ends_with_pair x ≡ true → 2 ≤ length x
ends_with_pair_long [] e = absurd cc
ends_with_pair_long (u ∷ []) e = absurd cc
ends_with_pair_long (u ∷ v ∷ x) e = omega arith

pub ruleset pair_ends = (ends_with_pair_at, ends_with_pair_short, ends_with_pair_long)

-- the text of some lines
abbrev text_of_lines : List Line → List ℕ
text_of_lines lines = flat_map (λ l. l.content ++ l.break) lines

longer_text : (u : ℕ) (lines : List Line) → IsCut lines → text_of_lines (in_first_line u lines) ≡ u ∷ text_of_lines lines
longer_text u [] cut = absurd cut
longer_text u (l ∷ ls) cut = refl

step_text : (u : ℕ) (after : List ℕ) (joins breaks : Bool) → (u == carriage_return && begins_with line_feed after) ≡ joins
    → text_of_lines (if joins then in_first_break u (lines_of after) else (if breaks then record { content = []; break = u ∷ [] } ∷ lines_of after else in_first_line u (lines_of after)))
    ≡ u ∷ text_of_lines (lines_of after)
step_text u after true breaks j =
    let first = first_is_feed after (and_parts (u == 13) (begins_with line_feed after) j).1 in
    subst (λ (lines : List Line). text_of_lines (in_first_break u lines) ≡ u ∷ text_of_lines lines) (sym first) refl
step_text u after false true j = refl
step_text u after false false j = longer_text u (lines_of after) (lines_cut after)

lines_text : (x : List ℕ) → text_of_lines (lines_of x) ≡ x
lines_text [] = refl
lines_text (u ∷ after) =
    step_text u after (u == carriage_return && begins_with line_feed after) (u == carriage_return || u == line_feed) refl ∙ ap (λ t. u ∷ t) (lines_text after)

drop_lines : (k : ℕ) (ls : List Line) → drop (sum_by line_length (take k ls)) (text_of_lines ls) ≡ text_of_lines (drop k ls)
drop_lines zero ls = refl
drop_lines (suc k) [] = refl
drop_lines (suc k) (l ∷ ls) =
    let own : List ℕ = l.content ++ l.break in
    let more : sum_by line_length (l ∷ take k ls) ≡ line_length l + sum_by line_length (take k ls) = sum_by-cons line_length l (take k ls) in
    let size : line_length l ≡ length own = sym (length-append l.content l.break) in
    let rest : sum_by line_length (l ∷ take k ls) - line_length l ≡ sum_by line_length (take k ls) = omega (arith, more) in
    drop-past (sum_by line_length (l ∷ take k ls)) (line_length l) own (text_of_lines ls) size (omega (arith, more))
    ∙ ap (λ (n : ℕ). drop n (text_of_lines ls)) rest ∙ drop_lines k ls

-- a line of some lines, and whether it is the last
cut_line : (ls : List Line) (k : ℕ) (d : Line) → IsCut ls → k < length ls → (ends_with 13 (get_or ls k d).content ≡ false) × ((suc k ≡ length ls → (get_or ls k d).break ≡ []) × (suc k < length ls → IsBreak (get_or ls k d).break))
cut_line [] k d cut h = absurd cut
cut_line (l ∷ []) zero d cut h = (cut.0, (λ e. cut.1, λ e. absurd (omega arith)))
cut_line (l ∷ []) (suc k) d cut h = absurd (omega arith)
cut_line (l ∷ m ∷ ls) zero d cut h = (cut.0, (λ e. absurd (omega arith), λ e. cut.1.0))
cut_line (l ∷ m ∷ ls) (suc k) d cut h =
    let rest = cut_line (m ∷ ls) k d cut.1.1 (omega arith) in
    (rest.0, (λ e. rest.1.0 (omega arith), λ e. rest.1.1 (omega arith)))

module _ (x : List ℕ) (k start : ℕ) (d : Line) (there : k < length (lines_of x)) (start_is : start ≡ line_start x (k + 1)) where
  abbrev line : Line
  line = get_or (lines_of x) k d

  facts : (ends_with 13 line.content ≡ false) × ((suc k ≡ length (lines_of x) → line.break ≡ []) × (suc k < length (lines_of x) → IsBreak line.break))
  facts = cut_line (lines_of x) k d (lines_cut x) there

  -- the text from the line's start on
  rest_is : drop start x ≡ (line.content ++ line.break) ++ text_of_lines (drop (k + 1) (lines_of x))
  rest_is =
      let number : k + 1 - 1 ≡ k = omega arith in
      ap (λ (n : ℕ). drop n x) (start_is ∙ ap (λ (n : ℕ). sum_by line_length (take n (lines_of x))) number)
      ∙ ap (drop (sum_by line_length (take k (lines_of x)))) (sym (lines_text x)) ∙ drop_lines k (lines_of x)
      ∙ ap text_of_lines (drop_more (lines_of x) k d there)

  pub content_is : line.content ≡ take (length line.content) (drop start x)
  content_is =
      sym (ap (take (length line.content)) (rest_is ∙ append_assoc line.content line.break (text_of_lines (drop (k + 1) (lines_of x))))
      ∙ take_at line.content (line.break ++ text_of_lines (drop (k + 1) (lines_of x))) (length line.content) refl)

  pub start_within : start ≤ length x
  start_within =
      elim (cases_eq k 0) [
        | inl none ↦ omega (arith, start_is, ap (λ (n : ℕ). line_start x (n + 1)) none, line_start_after x 0 (omega arith))
        | inr some ↦ omega (arith, start_is, line_start_within x (k - 1) (k + 1) (omega (arith, line_count_is x)) (omega arith))
      ]

  pub last_content : suc k ≡ length (lines_of x) → length line.content + start ≡ length x
  last_content last =
      let none = facts.1.0 last in
      let past : drop (k + 1) (lines_of x) ≡ [] = drop_all (k + 1) (lines_of x) (omega arith) in
      omega (
        arith,
        ap length rest_is,
        length-append (line.content ++ line.break) (text_of_lines (drop (k + 1) (lines_of x))),
        length-append line.content line.break,
        ap length none,
        ap (λ ls. length (text_of_lines ls)) past,
        length-drop start x,
        start_within,
      )

  pub other_content : (end : ℕ) → suc k < length (lines_of x) → end ≡ line_start x (k + 2)
      → length line.content + (if ends_with_pair (take (end - start) (drop start x)) then 2 else 1) + start ≡ end
  other_content end more end_is =
      let own : List ℕ = line.content ++ line.break in
      let here : k + 1 - 1 ≡ k = omega arith in
      let next : k + 2 - 1 ≡ k + 1 = omega arith in
      let sum = sum_by_more line_length (lines_of x) k d there in
      let before = ap (λ (n : ℕ). sum_by line_length (take n (lines_of x))) here in
      let after = ap (λ (n : ℕ). sum_by line_length (take n (lines_of x))) next in
      let size = length-append line.content line.break in
      let reach : end - start ≡ length own = omega (arith, sum, before, after, size, start_is, end_is) in
      let text : take (end - start) (drop start x) ≡ own =
      ap (λ (n : ℕ). take n (drop start x)) reach ∙ ap (take (length own)) rest_is ∙ take_at own (text_of_lines (drop (k + 1) (lines_of x))) (length own) refl in
      let break = break_size line.content line.break facts.0 (facts.1.1 more) in
      let same = ap {B = ℕ} (λ t. if ends_with_pair t then 2 else 1) text in
      omega (arith, break, same, sum, before, after, size, start_is, end_is)

-- the two units before the end of a line that has them
pub pair_before : (x : List ℕ) (start end : ℕ) → start + 2 ≤ end → end ≤ length x
    → ends_with_pair (take (end - start) (drop start x)) ≡ (get_or x (end - 2) 0 == 13 && get_or x (end - 1) 0 == 10)
pair_before x start end long within =
    let w : List ℕ = take (end - start) (drop start x) in
    let rest = length-drop start x in
    let size : length w ≡ end - start = length-take-le (end - start) (drop start x) (omega (arith, rest)) in
    let second : (n m : ℕ) → n < end - start → start + n ≡ m → get_or w n 0 ≡ get_or x m 0 =
    λ n m h e. get_or-take (end - start) (drop start x) n 0 h ∙ get_or-drop start x n 0 ∙ ap (λ (i : ℕ). get_or x i 0) e in
    ends_with_pair_at w (omega (arith, size))
    ∙ ap (λ (u : ℕ). u == 13 && get_or w (length w - 1) 0 == 10) (second (length w - 2) (end - 2) (omega (arith, size)) (omega (arith, size)))
    ∙ ap (λ (u : ℕ). get_or x (end - 2) 0 == 13 && u == 10) (second (length w - 1) (end - 1) (omega (arith, size)) (omega (arith, size)))

pub no_pair_before : (x : List ℕ) (start end : ℕ) → end < start + 2 → ends_with_pair (take (end - start) (drop start x)) ≡ false
no_pair_before x start end short =
    ends_with_pair_short (take (end - start) (drop start x)) (omega (arith, length-take (end - start) (drop start x)))

-- a pair at the end of a line is one at the end of the text up to there
pub pair_of_line : (x : List ℕ) (start end : ℕ) → start + 2 ≤ end → end ≤ length x → ends_with_pair (take (end - start) (drop start x)) ≡ ends_with_pair (take end x)
pair_of_line x start end long within =
    let all : end - 0 ≡ end = omega arith in
    pair_before x start end long within ∙ sym (pair_before x 0 end (omega arith) within) ∙ ap (λ (n : ℕ). ends_with_pair (take n x)) all

-- where the content of a line ends
pub content_end_by : (x : List ℕ) (line start end : ℕ) (d : Line) (pair : Bool) → 0 < line → line < length (lines_of x) → start ≡ line_start x line → end ≡ line_start x (line + 1)
    → ends_with_pair (take (end - start) (drop start x)) ≡ pair → length (get_or (lines_of x) (line - 1) d).content + (if pair then 2 else 1) + start ≡ end
content_end_by x line start end d pair first more start_is end_is pair_is =
    let k : ℕ = line - 1 in
    let this : line ≡ k + 1 = omega arith in
    let next : line + 1 ≡ k + 2 = omega arith in
    let size = other_content x k start d (omega arith) (start_is ∙ ap (line_start x) this) end (omega arith) (end_is ∙ ap (line_start x) next) in
    subst (λ (b : Bool). length (get_or (lines_of x) k d).content + (if b then 2 else 1) + start ≡ end) pair_is size

pub content_end_last : (x : List ℕ) (line start : ℕ) (d : Line) → 0 < line → line ≡ length (lines_of x) → start ≡ line_start x line
    → length (get_or (lines_of x) (line - 1) d).content + start ≡ length x
content_end_last x line start d first last start_is =
    let this : line ≡ line - 1 + 1 = omega arith in
    last_content x (line - 1) start d (omega arith) (start_is ∙ ap (line_start x) this) (omega arith)

pub content_of : (x : List ℕ) (line start : ℕ) (d : Line) → 0 < line → line ≤ length (lines_of x) → start ≡ line_start x line
    → (get_or (lines_of x) (line - 1) d).content ≡ take (length (get_or (lines_of x) (line - 1) d).content) (drop start x)
content_of x line start d first there start_is =
    let this : line ≡ line - 1 + 1 = omega arith in
    content_is x (line - 1) start d (omega arith) (start_is ∙ ap (line_start x) this)

-- a line that is there, by its number
pub line_at_is : (x : List ℕ) (line : ℕ) (d : Line) → 0 < line → line ≤ length (lines_of x) → line_at x line ≡ Some (get_or (lines_of x) (line - 1) d)
line_at_is x line d first there =
    let other : line ≡ 0 → ⊥ = λ e. absurd (omega arith) in
    rw (ne_eqb line 0 other) (slice_get-get_or (lines_of x) (line - 1) d (omega arith))

pub no_line_at : (x : List ℕ) (line : ℕ) → length (lines_of x) < line → line_at x line ≡ None
no_line_at x line past =
    let other : line ≡ 0 → ⊥ = λ e. absurd (omega arith) in
    rw (ne_eqb line 0 other) (slice_get_past (lines_of x) (line - 1) (omega arith))

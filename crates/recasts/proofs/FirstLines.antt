-- The first line of a text, and the lines behind it.
use Rattle.std.proofs.Common.{◌≡◌, ℕ, suc, zero, ◌+◌, ◌<◌, ◌≤◌, ◌==◌, Bool, true, false, ◌&&◌, ◌||◌, if◌then◌else◌, cond, eqb, ltb, List, [], ◌∷◌, length, drop, sum_by, min, Option, Some, None, unwrap_or, inl, inr, refl, ap, sym, subst, ◌∙◌, arith}
use Rattle.std.specs.List.{position_or_len, starts_with}
use Rattle.std.proofs.lemmas.Bool.{eqb-true, and_parts, false≢true, cases_Bool, cases_lt, cond-true, cond-false, lt-ltb, le-ltb}
use Rattle.std.proofs.lemmas.List.{nil_from_length}
use Rattle.std.proofs.lemmas.List.Recursion.{is_position_or_len}
use Rattle.std.proofs.lemmas.List.Sums.{sum_by-cons}
use Rattle.text_rules.specs.Lines.{Line, lines_of, line_length, line_feed, carriage_return, begins_with, in_first_line, in_first_break}
use Rattle.text_rules.proofs.Breaks.{and_false}
use Rattle.recasts.specs.FirstLine.{first_of, first_line}
use Rattle.decoration_rules.proofs.LineMoves.{EndAsLines, lines_of-ends, length-lines_of}

-- the unit is one of a line ending
abbrev pub ends_line : ℕ → Bool
ends_line u = u == carriage_return || u == line_feed

-- the lines of a text that begins with an LF
lines_of-feed : (x : List ℕ) → begins_with line_feed x ≡ true → lines_of x ≡ record { content = []; break = line_feed ∷ [] } ∷ lines_of (drop 1 x)
lines_of-feed [] begins = absurd cc
lines_of-feed (v ∷ x) begins =
    let feed : v ≡ line_feed = eqb-true v line_feed begins in
    rw feed refl

-- with a CR in front
lines_of-pair : (u : ℕ) (x : List ℕ) → begins_with line_feed x ≡ true
    → in_first_break u (lines_of x) ≡ record { content = []; break = u ∷ line_feed ∷ [] } ∷ lines_of (drop 1 x)
lines_of-pair u x begins = ap (in_first_break u) (lines_of-feed x begins)

-- Where the first line ends.

content_step : (u : ℕ) (returns joined feeds : Bool) (after : List ℕ) → begins_with line_feed after ≡ joined
    → length (first_of (if returns && joined then in_first_break u (lines_of after) else
    (if returns || feeds then record { content = []; break = u ∷ [] } ∷ lines_of after else in_first_line u (lines_of after)))).content
    ≡ cond (returns || feeds) 0 (1 + length (first_line after).content)
content_step u true true feeds after begins = ap (λ lines. length (first_of lines).content) (lines_of-pair u after begins)
content_step u true false feeds after begins = refl
content_step u false joined true after begins = refl
content_step u false joined false after begins = longer (lines_of after) (lines_of-ends after)
  where
    longer : (lines : List Line) → EndAsLines lines → length (first_of (in_first_line u lines)).content ≡ 1 + length (first_of lines).content
    longer [] ends = absurd ends
    longer (line ∷ lines) ends = omega arith

pub first_content : (x : List ℕ) → length (first_line x).content ≡ position_or_len ends_line x
first_content x =
    is_position_or_len (λ y. length (first_line y).content) ends_line refl
    (λ u after. content_step u (u == carriage_return) (begins_with line_feed after) (u == line_feed) after refl) x

pub found_or_length : (found : Option ℕ) (place size : ℕ) → place ≤ size → found ≡ cond (ltb place size) (Some place) None → unwrap_or found size ≡ place
found_or_length found place size within is =
    elim (cases_lt place size) [
      | inl lt ↦ ap (λ o. unwrap_or o size) (is ∙ cond-true (ltb place size) (Some place) None (lt-ltb place size lt))
      | inr le ↦
          ap (λ o. unwrap_or o size) (is ∙ cond-false (ltb place size) (Some place) None (le-ltb place size le)) ∙ omega arith
    ]

-- What the first line ends with.

break_step : (u : ℕ) (returns joined feeds : Bool) (after : List ℕ) → begins_with line_feed after ≡ joined
    → (first_of (if returns && joined then in_first_break u (lines_of after) else
    (if returns || feeds then record { content = []; break = u ∷ [] } ∷ lines_of after else in_first_line u (lines_of after)))).content ≡ []
    → length (first_of (if returns && joined then in_first_break u (lines_of after) else
    (if returns || feeds then record { content = []; break = u ∷ [] } ∷ lines_of after else in_first_line u (lines_of after)))).break
    ≡ cond (returns && joined) 2 1
break_step u true true feeds after begins none = ap (λ lines. length (first_of lines).break) (lines_of-pair u after begins)
break_step u true false feeds after begins none = refl
break_step u false joined true after begins none = refl
break_step u false joined false after begins none = absurd (some_content (lines_of after) (lines_of-ends after) none)
  where
    some_content : (lines : List Line) → EndAsLines lines → (first_of (in_first_line u lines)).content ≡ [] → ⊥
    some_content [] ends none = ends
    some_content (line ∷ lines) ends none = cc

pub first_break : (u : ℕ) (after : List ℕ) → (first_line (u ∷ after)).content ≡ []
    → length (first_line (u ∷ after)).break ≡ cond (u == carriage_return && begins_with line_feed after) 2 1
first_break u after none =
    break_step u (u == carriage_return) (begins_with line_feed after) (u == line_feed) after refl none

-- a text that begins with a line ending, but with no CR LF
pub plain_break : (x : List ℕ) → (first_line x).content ≡ [] → starts_with eqb x (carriage_return ∷ line_feed ∷ []) ≡ false
    → min (length x) 1 ≡ length (first_line x).break
plain_break [] none apart = refl
plain_break (u ∷ []) none apart = sym (first_break u [] none ∙ ap (λ b. cond b 2 1) (and_false (u == carriage_return)))
plain_break (u ∷ v ∷ x) none apart =
    elim (cases_Bool (u == carriage_return && v == line_feed)) [
      | inl pair ↦
          let units = and_parts (u == carriage_return) (v == line_feed) pair in
          let whole : starts_with eqb (u ∷ v ∷ x) (carriage_return ∷ line_feed ∷ []) ≡ true =
          rw (eqb-true u carriage_return units.0, eqb-true v line_feed units.1) refl in
          absurd (false≢true (sym apart ∙ whole))
      | inr alone ↦ omega (arith, first_break u (v ∷ x) none ∙ ap (λ b. cond b 2 1) alone)
    ]

no_content : (line : Line) → length line.content ≡ 0 → line ≡ record { content = []; break = line.break }
no_content line none = let empty : line.content ≡ [] = nil_from_length line.content none in ap (λ c. record { content = c; break = line.break }) empty

drop_step : (n u : ℕ) (returns joined feeds : Bool) (after : List ℕ) → begins_with line_feed after ≡ joined
    → (n ≡ length (first_line after).content → first_line (drop n after) ≡ record { content = []; break = (first_line after).break })
    → suc n ≡ length (first_of (if returns && joined then in_first_break u (lines_of after) else
    (if returns || feeds then record { content = []; break = u ∷ [] } ∷ lines_of after else in_first_line u (lines_of after)))).content
    → first_line (drop n after) ≡ record {
      content = [];
      break = (first_of (if returns && joined then in_first_break u (lines_of after) else
          (if returns || feeds then record { content = []; break = u ∷ [] } ∷ lines_of after else in_first_line u (lines_of after)))).break;
    }
drop_step n u true true feeds after begins later is =
    let none = ap (λ lines. length (first_of lines).content) (lines_of-pair u after begins) in absurd (omega (arith, is, none))
drop_step n u true false feeds after begins later is = absurd (omega arith)
drop_step n u false joined true after begins later is = absurd (omega arith)
drop_step n u false joined false after begins later is = behind (lines_of after) (lines_of-ends after) later is
  where
    behind : (lines : List Line) → EndAsLines lines
        → (n ≡ length (first_of lines).content → first_line (drop n after) ≡ record { content = []; break = (first_of lines).break })
        → suc n ≡ length (first_of (in_first_line u lines)).content
        → first_line (drop n after) ≡ record { content = []; break = (first_of (in_first_line u lines)).break }
    behind [] ends later is = absurd ends
    behind (line ∷ lines) ends later is = later (omega arith)

-- after its content a line has its break
pub first_line-drop : (n : ℕ) (x : List ℕ) → n ≡ length (first_line x).content
    → first_line (drop n x) ≡ record { content = []; break = (first_line x).break }
first_line-drop zero x is = no_content (first_line x) (sym is)
first_line-drop (suc n) [] is = absurd (omega arith)
first_line-drop (suc n) (u ∷ after) is =
    drop_step n u (u == carriage_return) (begins_with line_feed after) (u == line_feed) after refl (first_line-drop n after) is

-- The lines behind the first one.

behind_step : (u : ℕ) (returns joined feeds : Bool) (after : List ℕ) → begins_with line_feed after ≡ joined
    → (0 < length (first_line after).break → lines_of after ≡ first_line after ∷ lines_of (drop (line_length (first_line after)) after))
    → (lines : List Line) → lines ≡ (if returns && joined then in_first_break u (lines_of after) else
    (if returns || feeds then record { content = []; break = u ∷ [] } ∷ lines_of after else in_first_line u (lines_of after)))
    → 0 < length (first_of lines).break → lines ≡ first_of lines ∷ lines_of (drop (line_length (first_of lines)) (u ∷ after))
behind_step u true true feeds after begins later lines is some =
    subst (λ ls. ls ≡ first_of ls ∷ lines_of (drop (line_length (first_of ls)) (u ∷ after))) (sym (is ∙ lines_of-pair u after begins)) refl
behind_step u true false feeds after begins later lines is some =
    subst (λ ls. ls ≡ first_of ls ∷ lines_of (drop (line_length (first_of ls)) (u ∷ after))) (sym is) refl
behind_step u false joined true after begins later lines is some =
    subst (λ ls. ls ≡ first_of ls ∷ lines_of (drop (line_length (first_of ls)) (u ∷ after))) (sym is) refl
behind_step u false joined false after begins later lines is some =
    subst (λ ls. ls ≡ first_of ls ∷ lines_of (drop (line_length (first_of ls)) (u ∷ after))) (sym is)
    (behind (lines_of after) (lines_of-ends after) later (subst (λ ls. 0 < length (first_of ls).break) is some))
  where
    behind : (ls : List Line) → EndAsLines ls → (0 < length (first_of ls).break → ls ≡ first_of ls ∷ lines_of (drop (line_length (first_of ls)) after))
        → 0 < length (first_of (in_first_line u ls)).break
        → in_first_line u ls ≡ first_of (in_first_line u ls) ∷ lines_of (drop (line_length (first_of (in_first_line u ls))) (u ∷ after))
    behind [] ends later some = absurd ends
    behind (line ∷ ls) ends later some =
        let whole = later some in
        let rest : ls ≡ lines_of (drop (line_length line) after) = cc in
        let longer : Line = record { content = u ∷ line.content; break = line.break } in
        let size : suc (line_length line) ≡ line_length longer = omega arith in
        ap (λ more. longer ∷ more) (rest ∙ ap (λ n. lines_of (drop n (u ∷ after))) size)

pub lines_behind : (x : List ℕ) → 0 < length (first_line x).break → lines_of x ≡ first_line x ∷ lines_of (drop (line_length (first_line x)) x)
lines_behind [] some = absurd (omega arith)
lines_behind (u ∷ after) some =
    behind_step u (u == carriage_return) (begins_with line_feed after) (u == line_feed) after refl (lines_behind after) (lines_of (u ∷ after)) refl some

-- a line without a break is the last
pub last_line : (x : List ℕ) → length (first_line x).break ≡ 0 → lines_of x ≡ first_line x ∷ []
last_line x none = alone (lines_of x) (lines_of-ends x) none
  where
    alone : (lines : List Line) → EndAsLines lines → length (first_of lines).break ≡ 0 → lines ≡ first_of lines ∷ []
    alone [] ends none = absurd ends
    alone (line ∷ []) ends none = refl
    alone (line ∷ next ∷ lines) ends none = absurd (omega (arith, ends.0, none))

pub first_line-within : (x : List ℕ) → line_length (first_line x) ≤ length x
first_line-within x = subst (λ n. line_length (first_line x) ≤ n) (length-lines_of x) (within (lines_of x) (lines_of-ends x))
  where
    within : (lines : List Line) → EndAsLines lines → line_length (first_of lines) ≤ sum_by line_length lines
    within [] ends = absurd ends
    within (line ∷ lines) ends = omega (arith, sum_by-cons line_length line lines)

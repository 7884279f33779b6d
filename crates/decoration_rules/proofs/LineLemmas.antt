-- Decorations that move with their lines keep their order and stay within the text.
use Rattle.std.proofs.Common.{◌≡◌, ℕ, ◌+◌, ◌<◌, ◌≤◌, suc, zero, true, false, leb, inl, inr, List, [], ◌∷◌, length, map, get_or, refl, sym, ◌∙◌, ap, subst, arith}
use Rattle.std.specs.List.{All, AllPairs, AllWithin}
use Rattle.std.proofs.lemmas.Bool.{cases_lt, cond-true, cond-false}
use Rattle.std.proofs.lemmas.List.Elements.{All-head, All-tail}
use Rattle.decoration_rules.specs.declared.LineMove.{LineMove}
use Rattle.decoration_rules.specs.declared.Mark.{Mark}
use Rattle.decoration_rules.specs.Moves.{IsSpanIn, LieIn}
use Rattle.decoration_rules.specs.Lines.{place_in, line_of, carried_place, carried_mark, carried_with_lines, length_now, AreLineMoves}
use Rattle.decoration_rules.proofs.OrderLemmas.{Has, All-has, has-All}
use Rattle.decoration_rules.proofs.MarkLists.{Has-from_map}
use Rattle.decoration_rules.proofs.InText.{LieIn-in_order}

abbrev StartsLater : LineMove → LineMove → Type 0
StartsLater line later = line.old < later.old

abbrev EndsBefore : LineMove → LineMove → Type 0
EndsBefore line later = line.new + line.content ≤ later.new

module _ {X : Type 0} (R : X → X → Type 0) where
  pairs_head : (x : X) (xs : List X) → AllPairs R (x ∷ xs) → All (R x) xs
  pairs_head x xs h k d within = h zero (suc k) d (omega arith) (omega arith)

  pairs_tail : (x : X) (xs : List X) → AllPairs R (x ∷ xs) → AllPairs R xs
  pairs_tail x xs h i j d lt within = h (suc i) (suc j) d (omega arith) (omega arith)

-- the line moves are in order, beginning with `line`
record AreInARow (line : LineMove) (lines : List LineMove) : Type 0 where
  pub rising : AllPairs StartsLater (line ∷ lines)
  pub apart : AllPairs EndsBefore (line ∷ lines)

from_next : (line next : LineMove) (lines : List LineMove) → AreInARow line (next ∷ lines) → AreInARow next lines
from_next line next lines row = record {
  rising = pairs_tail StartsLater line (next ∷ lines) row.rising;
  apart = pairs_tail EndsBefore line (next ∷ lines) row.apart;
}

next_apart : (line next : LineMove) (lines : List LineMove) → AreInARow line (next ∷ lines) → line.new + line.content ≤ next.new
next_apart line next lines row = All-head (EndsBefore line) next lines (pairs_head EndsBefore line (next ∷ lines) row.apart)

-- The line of a place.

is_later : (a b : ℕ) → a < b → leb b a ≡ false
is_later a b lt = grind arith

is_no_later : (a b : ℕ) → b ≤ a → leb b a ≡ true
is_no_later a b le = grind arith

none_later : (line : LineMove) (lines : List LineMove) (place : ℕ) → All (λ later. place < later.old) lines → line_of line lines place ≡ line
none_later line [] place behind = refl
none_later line (next ∷ lines) place behind =
    let Behind : LineMove → Type 0 = λ later. place < later.old in
    cond-false (leb next.old place) (line_of next lines place) (line_of line lines place) (is_later place next.old (All-head Behind next lines behind))
    ∙ none_later line lines place (All-tail Behind next lines behind)

later_line : (line next : LineMove) (lines : List LineMove) (place : ℕ) → next.old ≤ place → line_of line (next ∷ lines) place ≡ line_of next lines place
later_line line next lines place le = cond-true (leb next.old place) (line_of next lines place) (line_of line lines place) (is_no_later place next.old le)

first_line : (line next : LineMove) (lines : List LineMove) (place : ℕ) → AreInARow line (next ∷ lines) → place < next.old → line_of line (next ∷ lines) place ≡ line
first_line line next lines place row lt =
    let later = pairs_head StartsLater next lines (pairs_tail StartsLater line (next ∷ lines) row.rising) in
    cond-false (leb next.old place) (line_of next lines place) (line_of line lines place) (is_later place next.old lt)
    ∙ none_later line lines place (λ k d within. let h = later k d within in omega (arith, h, lt))

-- the new offset of an offset whose line is one of these
abbrev carried_from : LineMove → List LineMove → ℕ → ℕ
carried_from line lines place = place_in (line_of line lines place) place

-- A property holds for the new offset if it holds in both cases: the offset is in the first line, or in a later one.
by_line : (P : ℕ → Type 0) (line next : LineMove) (lines : List LineMove) (place : ℕ) → AreInARow line (next ∷ lines)
    → (place < next.old → P (place_in line place)) → (next.old ≤ place → P (carried_from next lines place)) → P (carried_from line (next ∷ lines) place)
by_line P line next lines place row first later = elim (cases_lt place next.old) [
  | inl lt ↦ subst (λ (l : LineMove). P (place_in l place)) (sym (first_line line next lines place row lt)) (first lt)
  | inr le ↦ subst (λ (l : LineMove). P (place_in l place)) (sym (later_line line next lines place le)) (later le)
]

starts_no_lower : (line : LineMove) (lines : List LineMove) (place : ℕ) → AreInARow line lines → line.new ≤ carried_from line lines place
starts_no_lower line [] place row = omega arith
starts_no_lower line (next ∷ lines) place row =
    by_line (λ n. line.new ≤ n) line next lines place row (λ _. omega arith)
    (λ _. let low = starts_no_lower next lines place (from_next line next lines row) in let apart = next_apart line next lines row in omega (arith, low, apart))

length_no_lower : (line : LineMove) (lines : List LineMove) → AreInARow line lines → line.new + line.content ≤ length_now (line ∷ lines)
length_no_lower line [] row = omega arith
length_no_lower line (next ∷ lines) row =
    let later = length_no_lower next lines (from_next line next lines row) in let apart = next_apart line next lines row in omega (arith, later, apart)

ends_no_higher : (line : LineMove) (lines : List LineMove) (place : ℕ) → AreInARow line lines → carried_from line lines place ≤ length_now (line ∷ lines)
ends_no_higher line [] place row = omega arith
ends_no_higher line (next ∷ lines) place row =
    by_line (λ n. n ≤ length_now (next ∷ lines)) line next lines place row
    (λ _. let later = length_no_lower next lines (from_next line next lines row) in let apart = next_apart line next lines row in omega (arith, later, apart))
    (λ _. ends_no_higher next lines place (from_next line next lines row))

keeps_order : (line : LineMove) (lines : List LineMove) (a b : ℕ) → AreInARow line lines → a ≤ b → carried_from line lines a ≤ carried_from line lines b
keeps_order line [] a b row le = omega (arith, le)
keeps_order line (next ∷ lines) a b row le =
    by_line (λ n. n ≤ carried_from line (next ∷ lines) b) line next lines a row
    (λ _. by_line (λ n. place_in line a ≤ n) line next lines b row (λ _. omega (arith, le))
    (λ _. let low = starts_no_lower next lines b (from_next line next lines row) in let apart = next_apart line next lines row in omega (arith, low, apart)))
    (λ later. subst (λ (l : LineMove). carried_from next lines a ≤ place_in l b) (sym (later_line line next lines b (omega (arith, later, le)))) (keeps_order next lines a b (from_next line next lines row) le))

-- The laws.

in_a_row : (line : LineMove) (lines : List LineMove) → AreLineMoves (line ∷ lines) → AreInARow line lines
in_a_row line lines are = record { rising = are.rising; apart = are.apart }

pub carried_place-rises : (lines : List LineMove) (a b : ℕ) → AreLineMoves lines → a ≤ b → carried_place lines a ≤ carried_place lines b
carried_place-rises [] a b are le = le
carried_place-rises (line ∷ lines) a b are le = keeps_order line lines a b (in_a_row line lines are) le

-- no offset moves beyond the end of the last line
pub carried_place-within : (lines : List LineMove) (place : ℕ) → AreLineMoves lines → carried_place lines place ≤ length_now lines
carried_place-within [] place are = absurd are.first
carried_place-within (line ∷ lines) place are = ends_no_higher line lines place (in_a_row line lines are)

-- no line ends beyond the end of the last line
pub lines-within : (lines : List LineMove) → AreLineMoves lines → All (λ line. line.new + line.content ≤ length_now lines) lines
lines-within [] are = absurd are.first
lines-within (line ∷ lines) are = each line lines (in_a_row line lines are)
  where
    each : (first : LineMove) (rest : List LineMove) → AreInARow first rest → All (λ l. l.new + l.content ≤ length_now (first ∷ rest)) (first ∷ rest)
    each first rest row zero d within = length_no_lower first rest row
    each first [] row (suc k) d within = absurd (omega arith)
    each first (next ∷ rest) row (suc k) d within = each next rest (from_next first next rest row) k d (omega arith)

-- the new offset of an offset in the line at index `at`: that line started at or before the offset, all later lines
-- after it
pub carried_place-at : (lines : List LineMove) (place at : ℕ) (d : LineMove) → AreLineMoves lines → at < length lines → (get_or lines at d).old ≤ place
    → AllWithin (λ line. place < line.old) lines (at + 1) (length lines) → carried_place lines place ≡ place_in (get_or lines at d) place
carried_place-at [] place at d are within started later = absurd are.first
carried_place-at (line ∷ lines) place at d are within started later = ap (λ l. place_in l place) (find line lines at (in_a_row line lines are) within started later)
  where
    find : (first : LineMove) (rest : List LineMove) (k : ℕ) → AreInARow first rest → k < length (first ∷ rest) → (get_or (first ∷ rest) k d).old ≤ place
        → AllWithin (λ l. place < l.old) (first ∷ rest) (k + 1) (length (first ∷ rest)) → line_of first rest place ≡ get_or (first ∷ rest) k d
    find first rest zero row k_in le behind = none_later first rest place (λ j e j_in. behind (suc j) e (omega arith) (omega arith))
    find first [] (suc k) row k_in le behind = absurd (omega arith)
    find first (next ∷ rest) (suc k) row k_in le behind =
        later_line first next rest place (first_no_later k k_in le) ∙ find next rest k (from_next first next rest row) (omega arith) le (λ j e low high. behind (suc j) e (omega arith) (omega arith))
      where
        first_no_later : (j : ℕ) → suc j < length (first ∷ next ∷ rest) → (get_or (next ∷ rest) j d).old ≤ place → next.old ≤ place
        first_no_later zero j_in h = h
        first_no_later (suc j) j_in h = let lt = row.rising 1 (suc (suc j)) d (omega arith) j_in in omega (arith, lt, h)

pub carried_mark-upright : (lines : List LineMove) (mark : Mark) → AreLineMoves lines → mark.span.start ≤ mark.span.end
    → (carried_mark lines mark).span.start ≤ (carried_mark lines mark).span.end
carried_mark-upright lines mark are upright = carried_place-rises lines mark.span.start mark.span.end are upright

-- decorations within the old text lie within the new text
pub LieIn-carried : (lines : List LineMove) (len : ℕ) (marks : List Mark) → AreLineMoves lines → LieIn len marks → LieIn (length_now lines) (carried_with_lines lines marks)
LieIn-carried lines len marks are lie =
    LieIn-in_order (length_now lines) (map (carried_mark lines) marks)
    (All-has (λ (m : Mark). IsSpanIn m.span (length_now lines)) (map (carried_mark lines) marks) (λ q has.
    let source : (m : Mark) × Has marks m × (carried_mark lines m ≡ q) = Has-from_map (carried_mark lines) marks q has in
    let inside : IsSpanIn source.0.span len = has-All (λ (m : Mark). IsSpanIn m.span len) marks source.0 lie source.1 in
    subst (λ (m : Mark). IsSpanIn m.span (length_now lines)) source.2 (record {
      upright = carried_mark-upright lines source.0 are inside.upright;
      within = carried_place-within lines source.0.span.end are;
    })))

-- Line moves between two texts whose lines have the same contents.
use Rattle.std.proofs.Common.{◌≡◌, ℕ, ◌+◌, ◌<◌, ◌≤◌, ◌==◌, Bool, true, false, ◌&&◌, ◌||◌, if◌then◌else◌, List, [], ◌∷◌, length, map, sum_by, suc, refl, ap, ap₂, sym, subst, ◌∙◌, zero-add, arith}
use Rattle.std.specs.List.{All, AllPairs}
use Rattle.std.proofs.lemmas.Bool.{eqb-true}
use Rattle.std.proofs.lemmas.List.Elements.{All-nil, All-cons, All-weaker}
use Rattle.std.proofs.lemmas.List.Kept.{AllPairs-cons}
use Rattle.std.proofs.lemmas.List.Sums.{sum_by-cons}
use Rattle.decoration_rules.specs.declared.LineMove.{LineMove}
use Rattle.decoration_rules.specs.Moves.{offset_limit}
use Rattle.decoration_rules.specs.Lines.{length_now, StartsText, AreLineMoves}
use Rattle.text_rules.specs.Lines.{Line, lines_of, line_length, line_feed, carriage_return, begins_with, in_first_line, in_first_break}
use Rattle.decoration_rules.specs.LineMoves.{moves_from, line_moves, HaveSameContents, turned}
use Rattle.decoration_rules.proofs.Contents.{contents}

-- The lines of a text: each line except the last has a break.

abbrev pub EndAsLines : List Line → Type 0
EndAsLines [] = ⊥
EndAsLines (line ∷ []) = line.break ≡ []
EndAsLines (line ∷ next ∷ lines) = (0 < length line.break) × EndAsLines (next ∷ lines)

-- the property is kept if another line is added in front
one_in_front : (line : Line) (lines : List Line) → 0 < length line.break → EndAsLines lines → EndAsLines (line ∷ lines)
one_in_front line [] some ends = absurd ends
one_in_front line (next ∷ lines) some ends = (some, ends)

ends_in_first_line : (u : ℕ) (lines : List Line) → EndAsLines lines → EndAsLines (in_first_line u lines)
ends_in_first_line u [] ends = ends
ends_in_first_line u (line ∷ []) ends = ends
ends_in_first_line u (line ∷ next ∷ lines) ends = ends

ends_in_first_break : (u : ℕ) (line : Line) (lines : List Line) → 0 < length line.break → EndAsLines (line ∷ lines)
    → EndAsLines (in_first_break u (line ∷ lines))
ends_in_first_break u line [] some ends = let none : length line.break ≡ 0 = ap length ends in absurd (omega arith)
ends_in_first_break u line (next ∷ lines) some ends = (omega arith, ends.1)

-- the property is kept if a CR joins the break of the LF after it
ends_with_pair : (u : ℕ) (after : List ℕ) → begins_with line_feed after ≡ true → EndAsLines (lines_of after)
    → EndAsLines (in_first_break u (lines_of after))
ends_with_pair u [] begins ends = absurd cc
ends_with_pair u (v ∷ after) begins ends =
    let feed : v ≡ line_feed = eqb-true v line_feed begins in
    subst (λ w. EndAsLines (lines_of (w ∷ after)) → EndAsLines (in_first_break u (lines_of (w ∷ after)))) (sym feed)
    (ends_in_first_break u (record { content = []; break = line_feed ∷ [] }) (lines_of after) (omega arith)) ends

ends_step : (u : ℕ) (returns joined ends : Bool) (after : List ℕ) → begins_with line_feed after ≡ joined → EndAsLines (lines_of after)
    → EndAsLines (if returns && joined then in_first_break u (lines_of after) else
    (if ends then record { content = []; break = u ∷ [] } ∷ lines_of after else in_first_line u (lines_of after)))
ends_step u true true ends after begins h = ends_with_pair u after begins h
ends_step u true false true after begins h = one_in_front (record { content = []; break = u ∷ [] }) (lines_of after) (omega arith) h
ends_step u true false false after begins h = ends_in_first_line u (lines_of after) h
ends_step u false joined true after begins h = one_in_front (record { content = []; break = u ∷ [] }) (lines_of after) (omega arith) h
ends_step u false joined false after begins h = ends_in_first_line u (lines_of after) h

pub lines_of-ends : (x : List ℕ) → EndAsLines (lines_of x)
lines_of-ends [] = refl
lines_of-ends (u ∷ after) =
    ends_step u (u == carriage_return) (begins_with line_feed after) (u == carriage_return || u == line_feed) after refl (lines_of-ends after)

-- The length of the lines of a text together.

length_step : (u : ℕ) (joins ends : Bool) (lines : List Line) → EndAsLines lines
    → sum_by line_length (if joins then in_first_break u lines else (if ends then record { content = []; break = u ∷ [] } ∷ lines else in_first_line u lines))
    ≡ suc (sum_by line_length lines)
length_step u joins ends [] some = absurd some
length_step u true ends (line ∷ lines) some =
    omega (arith, sum_by-cons line_length (record { content = line.content; break = u ∷ line.break }) lines, sum_by-cons line_length line lines)
length_step u false true (line ∷ lines) some =
    omega (arith, sum_by-cons line_length (record { content = []; break = u ∷ [] }) (line ∷ lines))
length_step u false false (line ∷ lines) some =
    omega (arith, sum_by-cons line_length (record { content = u ∷ line.content; break = line.break }) lines, sum_by-cons line_length line lines)

pub length-lines_of : (x : List ℕ) → sum_by line_length (lines_of x) ≡ length x
length-lines_of [] = refl
length-lines_of (u ∷ after) =
    length_step u (u == carriage_return && begins_with line_feed after) (u == carriage_return || u == line_feed) (lines_of after) (lines_of-ends after)
    ∙ ap suc (length-lines_of after)

-- The start offsets of the lines in both texts.

-- if two lists of lines have the same contents, so have their first lines and their rests
pub same_content : (line next : Line) (before after : List Line) → contents (line ∷ before) ≡ contents (next ∷ after)
    → (length line.content ≡ length next.content) × (contents before ≡ contents after)
same_content line next before after same = let first : line.content ≡ next.content = cc in (ap length first, cc)

abbrev StartsFrom : ℕ → ℕ → LineMove → Type 0
StartsFrom old new line = (old ≤ line.old) × (new ≤ line.new)

abbrev StartsLater : LineMove → LineMove → Type 0
StartsLater line later = line.old < later.old

abbrev EndsBefore : LineMove → LineMove → Type 0
EndsBefore line later = line.new + line.content ≤ later.new

-- the line moves start at or after these two offsets and are in order
record AreInARow (old new : ℕ) (lines : List LineMove) : Type 0 where
  pub behind : All (StartsFrom old new) lines
  pub rising : AllPairs StartsLater lines
  pub apart : AllPairs EndsBefore lines

row_of_one : (old content new : ℕ) → AreInARow old new (record { old = old; content = content; new = new } ∷ [])
row_of_one old content new = record {
  behind = All-cons (StartsFrom old new) _ [] (omega arith, omega arith) (All-nil (StartsFrom old new));
  rising = λ i j d lt within. absurd (omega arith);
  apart = λ i j d lt within. absurd (omega arith);
}

row_of_more : (old content new later_old later_new : ℕ) (lines : List LineMove) → old < later_old → new + content ≤ later_new
    → AreInARow later_old later_new lines → AreInARow old new (record { old = old; content = content; new = new } ∷ lines)
row_of_more old content new later_old later_new lines rises apart row =
    let first : LineMove = record { old = old; content = content; new = new } in
    let Behind : LineMove → Type 0 = StartsFrom later_old later_new in record {
      behind = All-cons (StartsFrom old new) first lines (omega arith, omega arith)
          (All-weaker Behind (StartsFrom old new) (λ line starts. (omega (arith, starts.0), omega (arith, starts.1))) lines row.behind);
      rising = AllPairs-cons StartsLater first lines (All-weaker Behind (StartsLater first) (λ line starts. omega (arith, starts.0)) lines row.behind) row.rising;
      apart = AllPairs-cons EndsBefore first lines (All-weaker Behind (EndsBefore first) (λ line starts. omega (arith, starts.1)) lines row.behind) row.apart;
    }

moves_in_a_row : (old new : ℕ) (before after : List Line) → contents before ≡ contents after → EndAsLines before
    → AreInARow old new (moves_from old new before after)
moves_in_a_row old new [] after same ends = absurd ends
moves_in_a_row old new (line ∷ before) [] same ends = absurd cc
moves_in_a_row old new (line ∷ []) (next ∷ after) same ends = row_of_one old (length line.content) new
moves_in_a_row old new (line ∷ second ∷ before) (next ∷ after) same ends =
    let parts = same_content line next (second ∷ before) after same in
    row_of_more old (length line.content) new (old + line_length line) (new + line_length next) _ (omega (arith, ends.0)) (omega (arith, parts.0))
    (moves_in_a_row (old + line_length line) (new + line_length next) (second ∷ before) after parts.1 ends.1)

length_now-moves_from : (old new : ℕ) (before after : List Line) → contents before ≡ contents after → EndAsLines after
    → length_now (moves_from old new before after) ≡ new + sum_by line_length after
length_now-moves_from old new before [] same ends = absurd ends
length_now-moves_from old new [] (next ∷ after) same ends = absurd cc
length_now-moves_from old new (line ∷ []) (next ∷ []) same ends =
    let parts = same_content line next [] [] same in
    let none : length next.break ≡ 0 = ap length ends in
    omega (arith, parts.0, sum_by-cons line_length next [])
length_now-moves_from old new (line ∷ []) (next ∷ third ∷ after) same ends = absurd cc
length_now-moves_from old new (line ∷ second ∷ before) (next ∷ []) same ends = absurd cc
length_now-moves_from old new (line ∷ second ∷ before) (next ∷ third ∷ after) same ends =
    let parts = same_content line next (second ∷ before) (third ∷ after) same in
    let rest = length_now-moves_from (old + line_length line) (new + line_length next) (second ∷ before) (third ∷ after) parts.1 ends.1 in
    omega (arith, rest, sum_by-cons line_length next (third ∷ after))

starts_text : (new : ℕ) (before after : List Line) → contents before ≡ contents after → EndAsLines before
    → StartsText (moves_from 0 new before after)
starts_text new [] after same ends = absurd ends
starts_text new (line ∷ before) [] same ends = absurd cc
starts_text new (line ∷ before) (next ∷ after) same ends = refl

-- The laws.

-- the second text has the length that its lines give
pub length_now-moves : (x y : List ℕ) → HaveSameContents x y → length_now (line_moves x y) ≡ length y
length_now-moves x y same =
    length_now-moves_from 0 0 (lines_of x) (lines_of y) same (lines_of-ends y) ∙ zero-add _ ∙ length-lines_of y

pub are_line_moves : (x y : List ℕ) → HaveSameContents x y → length y < offset_limit → AreLineMoves (line_moves x y)
are_line_moves x y same fits =
    let row = moves_in_a_row 0 0 (lines_of x) (lines_of y) same (lines_of-ends x) in record {
      first = starts_text 0 (lines_of x) (lines_of y) same (lines_of-ends x);
      rising = row.rising;
      apart = row.apart;
      fits = omega (arith, fits, length_now-moves x y same);
    }

-- the line moves of the opposite direction are the reversed line moves
turned-moves_from : (old new : ℕ) (before after : List Line) → contents before ≡ contents after
    → moves_from new old after before ≡ map turned (moves_from old new before after)
turned-moves_from old new [] [] same = refl
turned-moves_from old new [] (next ∷ after) same = refl
turned-moves_from old new (line ∷ before) [] same = refl
turned-moves_from old new (line ∷ before) (next ∷ after) same =
    let parts = same_content line next before after same in
    ap₂ (λ (content : ℕ) (rest : List LineMove). record { old = new; content = content; new = old } ∷ rest) (sym parts.0)
    (turned-moves_from (old + line_length line) (new + line_length next) before after parts.1)

pub line_moves-turned : (x y : List ℕ) → HaveSameContents x y → line_moves y x ≡ map turned (line_moves x y)
line_moves-turned x y same = turned-moves_from 0 0 (lines_of x) (lines_of y) same

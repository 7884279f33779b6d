-- Cutting a text into lines, as the text buffer of VS Code does: CR LF ends a line, and so does a lone CR or a lone LF.
use Rattle.std.specs.Prelude.{ℕ, ◌+◌, ◌-◌, ◌==◌, ◌&&◌, ◌||◌, if◌then◌else◌, List, [], ◌∷◌, length, take, sum_by, Option, None, slice_get}
use Rattle.text_lengths.specs.declared.Length.{Length}
use Rattle.text_lengths.specs.Length.{length_of}
pub use Rattle.unit_text.specs.Endings.{line_feed, carriage_return, begins_with}

pub record Line : Type 0 where
  pub content : List ℕ
  -- CR LF, CR or LF; empty in the last line
  pub break : List ℕ

-- puts the unit in front of the content of the first line
abbrev pub in_first_line : ℕ → List Line → List Line
in_first_line u [] = []
in_first_line u (line ∷ lines) = record { content = u ∷ line.content; break = line.break } ∷ lines

-- puts the unit in front of the break of the first line
abbrev pub in_first_break : ℕ → List Line → List Line
in_first_break u [] = []
in_first_break u (line ∷ lines) = record { content = line.content; break = u ∷ line.break } ∷ lines

-- The lines of the unit `u` and the units `after`, whose lines are `lines`. A CR before an LF joins the break of the
-- LF, any other CR or LF ends a line, and any other unit is content.
abbrev pub line_step : ℕ → List ℕ → List Line → List Line
line_step u after lines =
    if u == carriage_return && begins_with line_feed after then in_first_break u lines else
    (if u == carriage_return || u == line_feed then record { content = []; break = u ∷ [] } ∷ lines
    else in_first_line u lines)

-- a text with k breaks has k + 1 lines
abbrev pub lines_of : List ℕ → List Line
lines_of [] = record { content = []; break = [] } ∷ []
lines_of (u ∷ after) = line_step u after (lines_of after)

-- the number of units of a line, its break included
abbrev pub line_length : Line → ℕ
line_length line = length line.content + length line.break

-- the line with number n, counted from 1
abbrev pub line_at : List ℕ → ℕ → Option Line
line_at x n = if n == 0 then None else slice_get (lines_of x) (n - 1)

-- the start offset of the line with number n: the number of units before it
abbrev pub line_start : List ℕ → ℕ → ℕ
line_start x n = sum_by line_length (take (n - 1) (lines_of x))

-- the content of the last line
abbrev pub last_content : List Line → List ℕ
last_content [] = []
last_content (line ∷ []) = line.content
last_content (line ∷ next ∷ lines) = last_content (next ∷ lines)

-- the length of the lines together: the number of breaks between them, and the number of units after the last break
abbrev pub length_of_lines : List Line → Length
length_of_lines lines = length_of (length lines - 1) (length (last_content lines))

abbrev pub text_length : List ℕ → Length
text_length x = length_of_lines (lines_of x)

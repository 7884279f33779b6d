-- A reader of the current text: what it sees, the invariant of its calls, and which lines it still has to ask for.
use Rattle.std.specs.Prelude.{◌≡◌, ℕ, suc, ◌+◌, ◌<◌, ◌≤◌, Bool, true, false, List, [], ◌∷◌, length, drop}
use Rattle.std.specs.Borrow.{MutBor}
use Rattle.text_lengths.specs.declared.Length.{Length}
use Rattle.bracket_rules.specs.declared.Token.{Token}
use Rattle.bracket_rules.specs.Rows.{Row}
use Rattle.bracket_rules.specs.Table.{is_table}
use Rattle.hiding_rules.specs.Hidden.{Scanner}
use Rattle.hiding_rules.specs.Rows.{hidden_rows}
use Rattle.hiding_rules.specs.States.{line_states}
use Rattle.line_states.specs.Settling.{SettledState}
use Rattle.bracket_tree_rules.specs.Places.{rows_from}
use Rattle.bracket_nodes.specs.declared.parser.Next.{Next}
use Rattle.bracket_nodes.specs.Source.{Ahead, Asking, Comes, AsksOn}
use Rattle.mark_rules.specs.declared.Mark.{Mark}
use Rattle.mark_rules.specs.declared.Mark.TheVariants.{Kept, New}
use Rattle.mark_rules.specs.Marks.{mark_at, new_run}
use Rattle.reuse_rules.specs.Following.{Reached}
use Rattle.node_reuse.specs.declared.line.Line.{Line}
use Rattle.node_reuse.specs.OldText.{OldText}
use Rattle.line_states.specs.Lines.{new_from, new_lines}
use Rattle.node_reuse.specs.Texts.{row_weights}
use Rattle.node_reuse.specs.Reading.{StaysIfThere, IsInLine, left_at}

-- ---- what is read

-- the current text, the scanner of its lines, and an old text with the relation of the lines to it
pub record Sight : Type 0 where
  pub by : Scanner
  pub contents : List (List ℕ)
  pub old : OldText

abbrev pub sight : Scanner → List (List ℕ) → OldText → Sight
sight by contents old = record { by = by; contents = contents; old = old }

abbrev pub sight_rows : Sight → List Row
sight_rows s = hidden_rows s.by s.contents

abbrev pub sight_weights : Sight → List ℕ
sight_weights s = row_weights (sight_rows s)

abbrev pub mark_of : Sight → Length → Mark
mark_of s p = mark_at (p.lines + 1) s.old.marks

-- the line of place p is kept
abbrev pub IsKept : Sight → Length → Type 0
IsKept s p = (i : ℕ) × (mark_of s p ≡ Kept i)

-- ---- which lines are asked for

-- the numbers of the new lines from line j on; j is counted from 0
abbrev pub new_lines_at : ℕ → List Mark → List ℕ
new_lines_at j marks = new_from (suc j) (drop j marks)

-- the lines that a reader at place p still has to ask for: without the current line, if that was scanned
abbrev pub unasked : List Mark → Length → Bool → List ℕ
unasked marks p false = new_lines_at p.lines marks
unasked marks p true = new_lines_at (suc p.lines) marks

abbrev pub asked_if : Bool → ℕ → List ℕ
asked_if false n = []
asked_if true n = n ∷ []

-- the lines asked for so far, and the borrows by which lines are read
pub record Asked : Type 0 where
  pub lines : List ℕ
  pub borrows : List ℕ

abbrev pub asked_so : List ℕ → List ℕ → Asked
asked_so lines borrows = record { lines = lines; borrows = borrows }

-- the names of the borrows by which a reader reads
abbrev pub names_of : {O Q S L : Type 0} → MutBor O → MutBor Q → MutBor S → MutBor L → List ℕ
names_of text lines steps line = text.ghost_name ∷ lines.ghost_name ∷ steps.ghost_name ∷ line.ghost_name ∷ []

abbrev pub asking_at : Sight → Asked → Length → Line → Asking
asking_at s asked p line = record {
  contents = s.contents;
  asked = asked.lines;
  left = unasked s.old.marks p line.scanned;
  count = line.asked;
  borrows = asked.borrows;
}

-- ---- where it stands

abbrev pub seen_at : Sight → Asked → Length → Line → Ahead
seen_at s asked p line = record {
  rows = rows_from p (sight_rows s);
  line = left_at s.old.tree s.old.marks (sight_weights s) p;
  later = drop (suc p.lines) (sight_weights s);
  asking = asking_at s asked p line;
}

abbrev pub tokens_left : Line → List Token
tokens_left line = drop line.next line.tokens.items

-- the data are consistent: the marks cover each line, and the old tree agrees with the text under them
pub record IsSound (s : Sight) : Type 0 where
  pub table : is_table s.by.table ≡ true
  pub counted : length s.old.marks ≡ length s.contents
  pub stays : StaysIfThere s.old.tree s.old.marks (sight_rows s) (sight_weights s)

-- the reader is at place p, and `line` is what it knows of the line there
pub record StandsAt (s : Sight) (p : Length) (line : Line) : Type 0 where
  pub sound : IsSound s
  pub reached : Reached (sight_rows s) p (rows_from p (sight_rows s))
  pub in_line : IsInLine (mark_of s p) s.old.tree s.old.marks (sight_rows s) (sight_weights s) p line.scanned
      (tokens_left line) line.columns
  pub is_new : line.scanned ≡ true → mark_of s p ≡ New
  pub asked : line.asked + length (unasked s.old.marks p line.scanned) ≡ length (new_lines s.old.marks)

-- whether the line of place p is the last one
abbrev pub IsLast : Sight → Length → Bool → Type 0
IsLast s p true = length s.contents ≡ suc p.lines
IsLast s p false = suc p.lines < length s.contents

-- `next` came, and the reader moved from place p to place q
pub record ReadsOn (s : Sight) (p : Length) (from : Line) (q : Length) (to : Line) (opened level : ℕ) (next : Next) : Type 0 where
  pub comes : (asked : Asked) → Comes (seen_at s asked p from) (seen_at s asked q to) opened level next
  pub asks : (asked : Asked) → AsksOn (asking_at s asked p from) (asking_at s asked q to)
  pub stands : StandsAt s q to

-- The reader is at place p, and the lines that it reads were settled: each begins in its state, and a restarted line
-- counts as new. The lines from there up to line `new_to`, counted from 0 and excluded, are known to be new, as is a
-- line that was scanned.
pub record Stands (s : Sight) (settled : SettledState) (p : Length) (line : Line) (new_to : ℕ) : Type 0 where
  pub at : StandsAt s p line
  pub marks : s.old.marks ≡ settled.marks
  pub states : settled.states.begins ≡ line_states s.by s.contents
  pub told : new_to ≤ p.lines + new_run (drop p.lines s.old.marks)
  pub scanned : line.scanned ≡ true → p.lines < new_to

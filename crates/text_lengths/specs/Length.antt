-- Lengths of texts as (lines, columns), as in "Bracket pair colorization 10,000x faster" (2021):
-- the line breaks of a text, and the units after the last of them.
use Rattle.std.specs.Prelude.{◌≡◌, ℕ, ◌+◌, Bool, ◌==◌, nat_lt, ◌||◌, ◌&&◌, if◌then◌else◌, true, false, refl}
use Rattle.text_lengths.specs.declared.Length.{Length}

-- the length with these numbers of lines and columns
abbrev pub length_of : ℕ → ℕ → Length
length_of lines columns = record { lines = lines; columns = columns }

-- the length of the empty text
abbrev pub no_length : Length
no_length = length_of 0 0

-- the length of two texts in sequence: the columns of the second alone if it has a line break, else the sum
abbrev pub length_plus : Length → Length → Length
length_plus a b = record {
  lines = a.lines + b.lines;
  columns = if nat_lt 0 b.lines then b.columns else a.columns + b.columns;
}

-- the order of lengths, and of places: by lines, then by columns
abbrev pub is_before : Length → Length → Bool
is_before a b = nat_lt a.lines b.lines || (a.lines == b.lines && nat_lt a.columns b.columns)

-- worked examples
plus_in_line : length_plus (length_of 1 2) (length_of 0 3) ≡ length_of 1 5
plus_in_line = refl

plus_over_lines : length_plus (length_of 1 7) (length_of 2 3) ≡ length_of 3 3
plus_over_lines = refl

lines_decide : is_before (length_of 1 7) (length_of 2 3) ≡ true
lines_decide = refl

not_before_itself : is_before (length_of 1 7) (length_of 1 7) ≡ false
not_before_itself = refl

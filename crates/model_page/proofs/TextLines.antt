-- The lines of a text as a parse asks for them: their contents.
use Rattle.std.proofs.Common.{◌≡◌, ℕ, ◌-◌, ◌<◌, ◌≤◌, Some, List, [], length, get_or, arith}
use Rattle.std.proofs.lemmas.Bool.{ne_eqb}
use Rattle.std.proofs.lemmas.List.{get_or-map, length-map}
use Rattle.std.proofs.lemmas.Option.{slice_get-get_or}
use Rattle.text_rules.specs.Lines.{Line, lines_of, line_at}
use Rattle.text_rules.proofs.Breaks.{line_count_is}
use Rattle.line_states.specs.Lines.{content_at}
use Rattle.document_rules.specs.Brackets.{line_contents}

-- ---- one line

module _ (x : List ℕ) (n : ℕ) (first : 0 < n) (last : n ≤ length (lines_of x)) where
  blank : Line
  blank = record { content = []; break = [] }

  pub the_line : Line
  the_line = get_or (lines_of x) (n - 1) blank

  pub line_is : line_at x n ≡ Some the_line
  unfolding the_line
  line_is = rw (ne_eqb n 0 (λ e. absurd (omega arith))) (slice_get-get_or (lines_of x) (n - 1) blank (omega arith))

  pub content_is : content_at n (line_contents x) ≡ the_line.content
  unfolding the_line
  content_is = get_or-map (λ (line : Line). line.content) (lines_of x) (n - 1) blank [] (omega arith)

-- ---- all of them

pub some_lines : (x : List ℕ) → 0 < length (line_contents x)
some_lines x = omega (arith, length-map (lines_of x) (λ (line : Line). line.content), line_count_is x)

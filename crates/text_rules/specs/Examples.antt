-- Worked examples of the definitions.
use Rattle.std.specs.Prelude.{◌≡◌, ℕ, List, [], ◌∷◌, None, map, codes, false, true, refl}
use Rattle.text_lengths.specs.declared.Dirty.{Dirty}
use Rattle.text_lengths.specs.Length.{length_of, no_length, length_plus}
use Rattle.text_rules.specs.Lines.{lines_of, line_at, line_start, text_length}
use Rattle.text_rules.specs.Positions.{position_of, offset_of, is_position}
use Rattle.text_rules.specs.Edits.{edited, is_bad_span}
use Rattle.unit_text.specs.declared.kind.Kind.TheVariants.{Mixed, Crlf}
use Rattle.text_rules.specs.Dirty.{dirty_lines}

-- CR LF, CR and LF each end one line
contents_of_four_lines : map (λ l. l.content) (lines_of (codes "a\r\nb\rc\nd")) ≡ codes "a" ∷ codes "b" ∷ codes "c" ∷ codes "d" ∷ []
contents_of_four_lines = refl

breaks_of_four_lines : map (λ l. l.break) (lines_of (codes "a\r\nb\rc\nd")) ≡ codes "\r\n" ∷ codes "\r" ∷ codes "\n" ∷ [] ∷ []
breaks_of_four_lines = refl

starts_of_four_lines : map (line_start (codes "a\r\nb\rc\nd")) (1 ∷ 2 ∷ 3 ∷ 4 ∷ []) ≡ 0 ∷ 3 ∷ 5 ∷ 7 ∷ []
starts_of_four_lines = refl

-- an LF before a CR makes two breaks
line_feed_first : map (λ l. l.break) (lines_of (codes "\n\r")) ≡ codes "\n" ∷ codes "\r" ∷ [] ∷ []
line_feed_first = refl

no_fifth_line : line_at (codes "a\r\nb\rc\nd") 5 ≡ None
no_fifth_line = refl

no_line_0 : line_at (codes "a") 0 ≡ None
no_line_0 = refl

length_of_four_lines : text_length (codes "a\r\nb\rc\nde") ≡ length_of 3 2
length_of_four_lines = refl

length_of_no_text : text_length [] ≡ no_length
length_of_no_text = refl

a_break_begins_a_line : text_length (codes "ab\n") ≡ length_of 1 0
a_break_begins_a_line = refl

-- lengths add up, unless a CR LF is cut in two
lengths_of_two_texts : length_plus (text_length (codes "a\nb")) (text_length (codes "cd")) ≡ text_length (codes "a\nbcd")
lengths_of_two_texts = refl

length_of_cr_lf : text_length (codes "\r\n") ≡ length_of 1 0
length_of_cr_lf = refl

lengths_of_cr_and_lf : length_plus (text_length (codes "\r")) (text_length (codes "\n")) ≡ length_of 2 0
lengths_of_cr_and_lf = refl

over_a_break : edited (codes "ab\ncd") (record { span = record { start = 1; end = 4 }; text = codes "X"; force = false }) ≡ codes "aXd"
over_a_break = refl

inside_an_emoji : is_bad_span Mixed (0xD83D ∷ 0xDE00 ∷ []) (record { start = 1; end = 1 }) ≡ true
inside_an_emoji = refl

inside_an_ending : is_bad_span Crlf (codes "a\r\nb") (record { start = 2; end = 4 }) ≡ true
inside_an_ending = refl

-- an offset inside a CR LF has a position, but the position is invalid
inside_a_break : position_of (codes "a\r\nb") 2 ≡ record { line = 1; column = 3 }
inside_a_break = refl

no_position_inside_a_break : is_position (codes "a\r\nb") (record { line = 1; column = 3 }) ≡ false
no_position_inside_a_break = refl

-- the positions before and after a pair of surrogates are valid, the one inside it is not
positions_beside_a_pair : map (λ column. is_position (0xD83D ∷ 0xDE00 ∷ []) (record { line = 1; column = column })) (1 ∷ 2 ∷ 3 ∷ [])
    ≡ true ∷ false ∷ true ∷ []
positions_beside_a_pair = refl

the_end_of_the_last_line : offset_of (codes "a\r\nb\rc\nd") (record { line = 4; column = 2 }) ≡ 8
the_end_of_the_last_line = refl

position_of_the_end : position_of (codes "a\r\nb\rc\nd") 8 ≡ record { line = 4; column = 2 }
position_of_the_end = refl

position_at_a_start : position_of (codes "a\r\nb") 3 ≡ record { line = 2; column = 1 }
position_at_a_start = refl

abbrev touched : List ℕ → ℕ → ℕ → List ℕ → Dirty
touched units start end text = dirty_lines units (record { start = start; end = end }) text

abbrev dirty : ℕ → ℕ → ℕ → Dirty
dirty first old new = record { first = first; old = old; new = new }

-- an edit within a line, an edit across a break, and an edit that adds two breaks
edits_of_lines : touched (codes "ab\ncd\nef") 4 5 (codes "X") ∷ touched (codes "ab\ncd\nef") 1 4 []
    ∷ touched (codes "ab\ncd") 4 4 (codes "x\r\ny\r") ∷ []
    ≡ dirty 2 1 1 ∷ dirty 1 2 1 ∷ dirty 2 1 3 ∷ []
edits_of_lines = refl

-- an inserted LF joins the CR before it, and so does an LF that a deletion puts behind the CR: the line that this CR
-- ends is touched; the last edit cuts a CR LF in two
edits_at_pairs : touched (codes "a\rb") 2 2 (codes "\n") ∷ touched (codes "a\rx\nb") 2 3 [] ∷ touched (codes "a\r\nb") 2 2 (codes "x") ∷ []
    ≡ dirty 1 2 2 ∷ dirty 1 2 1 ∷ dirty 1 1 2 ∷ []
edits_at_pairs = refl

-- nothing forms one break with an LF before it
after_a_line_feed : touched (codes "a\nb") 2 2 (codes "\r") ≡ dirty 2 1 2
after_a_line_feed = refl

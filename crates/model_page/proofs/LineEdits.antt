-- Edits in turn, from the last part back: the ops of a batch, and the endings of lines.
use Rattle.std.proofs.Common.{◌≡◌, ℕ, zero, suc, ◌+◌, ◌-◌, ◌<◌, ◌≤◌, false, if◌then◌else◌, List, [], ◌∷◌, ◌++◌, length, sum_by, take, drop, get_or, refl, ap, ap₂, sym, ◌∙◌, append_assoc, append-nil, add-zero, arith}
use Rattle.std.proofs.lemmas.List.{take_more, take_all, take_at, length-map, length-take-le}
use Rattle.std.proofs.lemmas.List.Sums.{sum_by-cons, sum_by_more, sum_by-take-le}
use Rattle.text_lengths.specs.declared.Span.{Span}
use Rattle.text_rules.specs.declared.Op.{Op}
use Rattle.text_rules.specs.Lines.{Line, lines_of, line_length}
use Rattle.bracket_rules.specs.Table.{same_units}
use Rattle.decoration_rules.specs.declared.LineMove.{LineMove}
use Rattle.decoration_rules.specs.LineMoves.{moves_from, line_moves, HaveSameContents}
use Rattle.decoration_rules.proofs.Contents.{contents}
use Rattle.decoration_rules.proofs.LineMoves.{length-lines_of}
use Rattle.document_rules.specs.InTurn.{unforced, one_by_one, ending_edit, ending_edits_from, ending_edits}
use Rattle.document_rules.proofs.InTurn.{text_of_lines, lines_together}
use Rattle.model_page.specs.InTurn.{no_line, starts_at, ending_span, endings_of_first, IsWithin}

-- ---- ops

one_by_one-more : (ops : List Op) (op : Op) → one_by_one (ops ++ op ∷ []) ≡ unforced op ∷ one_by_one ops
one_by_one-more [] op = refl
one_by_one-more (first ∷ ops) op = ap (λ (edits : List Op). edits ++ unforced first ∷ []) (one_by_one-more ops op)

-- the last of the first ops is told first
pub one_by_one-last : (ops : List Op) (at : ℕ) (d : Op) → at < length ops
    → one_by_one (take (at + 1) ops) ≡ unforced (get_or ops at d) ∷ one_by_one (take at ops)
one_by_one-last ops at d inside = ap one_by_one (take_more ops at d inside) ∙ one_by_one-more (take at ops) (get_or ops at d)

-- ---- lines

abbrev no_move : LineMove
no_move = record { old = 0; content = 0; new = 0 }

pub as_many_lines : (x y : List ℕ) → HaveSameContents x y → length (lines_of x) ≡ length (lines_of y)
as_many_lines x y same =
    sym (length-map (lines_of x) (λ (line : Line). line.content)) ∙ ap length same ∙ length-map (lines_of y) (λ (line : Line). line.content)

drop_past : (front back : List ℕ) (n m : ℕ) → m ≡ length front + n → drop m (front ++ back) ≡ drop n back
drop_past [] back n m past = ap (λ (k : ℕ). drop k back) (omega (arith, past))
drop_past (u ∷ front) back n m past =
    let more : m ≡ suc (length front + n) = omega (arith, past) in
    ap (λ (k : ℕ). drop k (u ∷ front ++ back)) more ∙ drop_past front back n (length front + n) refl

-- the units of a line's ending
break_from : (lines : List Line) (at : ℕ) → at < length lines
    → let line = get_or lines at no_line in
    take (length line.break) (drop (sum_by line_length (take at lines) + length line.content) (text_of_lines lines)) ≡ line.break
break_from [] at inside = absurd (omega arith)
break_from (line ∷ lines) zero inside =
    let start : 0 + length line.content ≡ length line.content + 0 = omega arith in
    ap (take (length line.break)) (drop_past line.content (line.break ++ text_of_lines lines) 0 (0 + length line.content) start)
    ∙ take_at line.break (text_of_lines lines) (length line.break) refl
break_from (line ∷ lines) (suc at) inside =
    let this : Line = get_or lines at no_line in
    let later : ℕ = sum_by line_length (take at lines) + length this.content in
    let rest : List ℕ = text_of_lines lines in
    let start : sum_by line_length (line ∷ take at lines) + length this.content ≡ length line.content + (length line.break + later) =
    omega (arith, sum_by-cons line_length line (take at lines)) in
    ap (take (length this.break))
    (drop_past line.content (line.break ++ rest) (length line.break + later) _ start ∙ drop_past line.break rest later (length line.break + later) refl)
    ∙ break_from lines at (omega (arith, inside))

-- where the line starts in both texts, and how long its content is
move_from : (old new : ℕ) (lines others : List Line) (at : ℕ) (d : LineMove) → length lines ≡ length others → at < length lines
    → get_or (moves_from old new lines others) at d
    ≡ record {
      old = old + sum_by line_length (take at lines);
      content = length (get_or lines at no_line).content;
      new = new + sum_by line_length (take at others);
    }
move_from old new [] others at d many inside = absurd (omega arith)
move_from old new (line ∷ lines) [] at d many inside = absurd (omega arith)
move_from old new (line ∷ lines) (other ∷ others) zero d many inside =
    ap₂ (λ (a b : ℕ). record { old = a; content = length line.content; new = b }) (sym (add-zero old)) (sym (add-zero new))
move_from old new (line ∷ lines) (other ∷ others) (suc at) d many inside =
    let first : old + line_length line + sum_by line_length (take at lines) ≡ old + sum_by line_length (line ∷ take at lines) =
    omega (arith, sum_by-cons line_length line (take at lines)) in
    let second : new + line_length other + sum_by line_length (take at others) ≡ new + sum_by line_length (other ∷ take at others) =
    omega (arith, sum_by-cons line_length other (take at others)) in
    move_from (old + line_length line) (new + line_length other) lines others at d (omega (arith, many)) (omega (arith, inside))
    ∙ ap₂ (λ (a b : ℕ). record { old = a; content = length (get_or lines at no_line).content; new = b }) first second

length-moves_from : (old new : ℕ) (lines others : List Line) → length lines ≡ length others → length (moves_from old new lines others) ≡ length lines
length-moves_from old new [] others many = refl
length-moves_from old new (line ∷ lines) [] many = absurd (omega arith)
length-moves_from old new (line ∷ lines) (other ∷ others) many =
    ap suc (length-moves_from (old + line_length line) (new + line_length other) lines others (omega (arith, many)))

pub length-line_moves : (x y : List ℕ) → HaveSameContents x y → length (line_moves x y) ≡ length (lines_of x)
length-line_moves x y same = length-moves_from 0 0 (lines_of x) (lines_of y) (as_many_lines x y same)

pub move_at : (x y : List ℕ) (at : ℕ) (d : LineMove) → HaveSameContents x y → at < length (lines_of x)
    → get_or (line_moves x y) at d
    ≡ record { old = starts_at at x; content = length (get_or (lines_of x) at no_line).content; new = starts_at at y }
move_at x y at d same inside =
    move_from 0 0 (lines_of x) (lines_of y) at d (as_many_lines x y same) inside
    ∙ ap₂ (λ (a b : ℕ). record { old = a; content = length (get_or (lines_of x) at no_line).content; new = b }) (omega arith) (omega arith)

pub starts_at-end : (x : List ℕ) (at : ℕ) → length (lines_of x) ≤ at → starts_at at x ≡ length x
starts_at-end x at past = ap (sum_by line_length) (take_all at (lines_of x) past) ∙ length-lines_of x

pub starts_at-within : (x : List ℕ) (at : ℕ) → starts_at at x ≤ length x
starts_at-within x at = omega (arith, sum_by-take-le line_length (lines_of x) at, length-lines_of x)

-- where the line of that number ends
pub starts_at-more : (x : List ℕ) (at : ℕ) → at < length (lines_of x)
    → let line = get_or (lines_of x) at no_line in starts_at (at + 1) x ≡ starts_at at x + length line.content + length line.break
starts_at-more x at inside = omega (arith, sum_by_more line_length (lines_of x) at no_line inside)

same_content_from : (lines others : List Line) (at : ℕ) → contents lines ≡ contents others → at < length lines
    → (get_or lines at no_line).content ≡ (get_or others at no_line).content
same_content_from [] others at same inside = absurd (omega arith)
same_content_from (line ∷ lines) [] at same inside = absurd cc
same_content_from (line ∷ lines) (other ∷ others) zero same inside = cc
same_content_from (line ∷ lines) (other ∷ others) (suc at) same inside =
    let rest : contents lines ≡ contents others = cc in
    same_content_from lines others at rest (omega (arith, inside))

pub same_content : (x y : List ℕ) (at : ℕ) → HaveSameContents x y → at < length (lines_of x)
    → (get_or (lines_of x) at no_line).content ≡ (get_or (lines_of y) at no_line).content
same_content x y at same inside = same_content_from (lines_of x) (lines_of y) at same inside

-- ---- endings

endings_more : (at : ℕ) (lines others : List Line) (line other : Line) → length lines ≡ length others
    → ending_edits_from at (lines ++ line ∷ []) (others ++ other ∷ [])
    ≡ ending_edit (at + sum_by line_length lines + length line.content) line.break other.break ++ ending_edits_from at lines others
endings_more at [] [] line other many =
    let start : at + length line.content ≡ at + 0 + length line.content = omega arith in
    ap (λ (n : ℕ). ending_edit n line.break other.break) start ∙ sym (append-nil _)
endings_more at [] (o ∷ others) line other many = absurd (omega arith)
endings_more at (l ∷ lines) [] line other many = absurd (omega arith)
endings_more at (l ∷ lines) (o ∷ others) line other many =
    let first : List Op = ending_edit (at + length l.content) l.break o.break in
    let start : at + line_length l + sum_by line_length lines + length line.content ≡ at + sum_by line_length (l ∷ lines) + length line.content =
    omega (arith, sum_by-cons line_length l lines) in
    ap (λ (edits : List Op). edits ++ first) (endings_more (at + line_length l) lines others line other (omega (arith, many)))
    ∙ append_assoc (ending_edit (at + line_length l + sum_by line_length lines + length line.content) line.break other.break)
    (ending_edits_from (at + line_length l) lines others) first
    ∙ ap (λ (n : ℕ). ending_edit n line.break other.break ++ (ending_edits_from (at + line_length l) lines others ++ first)) start

-- the units of the span
abbrev pub units_of : List ℕ → Span → List ℕ
units_of x span = take (span.end - span.start) (drop span.start x)

-- those of the ending of the line of that number
ending_units : (x : List ℕ) (at : ℕ) → at < length (lines_of x) → units_of x (ending_span at x) ≡ (get_or (lines_of x) at no_line).break
ending_units x at inside =
    let line : Line = get_or (lines_of x) at no_line in
    let start : ℕ = starts_at at x + length line.content in
    let count : starts_at (at + 1) x - start ≡ length line.break = omega (arith, starts_at-more x at inside) in
    ap (λ (n : ℕ). take n (drop start x)) count
    ∙ ap (λ (z : List ℕ). take (length line.break) (drop start z)) (sym (lines_together x))
    ∙ break_from (lines_of x) at inside

-- it lies within the text
pub ending_within : (x : List ℕ) (at : ℕ) → at < length (lines_of x) → IsWithin x (ending_span at x)
ending_within x at inside =
    record { ordered = omega (arith, starts_at-more x at inside); within = starts_at-within x (at + 1) }

-- the last of the first endings is told first
pub endings_last : (x y : List ℕ) (at : ℕ) → HaveSameContents x y → at < length (lines_of x)
    → let old = ending_span at x in let new = ending_span at y in
    endings_of_first (at + 1) x y
    ≡ (if same_units (units_of x old) (units_of y new) then [] else record { span = old; text = units_of y new; force = false } ∷ []) ++ endings_of_first at x y
endings_last x y at same inside =
    let line : Line = get_or (lines_of x) at no_line in
    let other : Line = get_or (lines_of y) at no_line in
    let many = as_many_lines x y same in
    let there : at < length (lines_of y) = omega (arith, many, inside) in
    let old : units_of x (ending_span at x) ≡ line.break = ending_units x at inside in
    let new : units_of y (ending_span at y) ≡ other.break = ending_units y at there in
    let end : starts_at at x + length line.content + length line.break ≡ starts_at (at + 1) x = omega (arith, starts_at-more x at inside) in
    let place : 0 + starts_at at x + length line.content ≡ starts_at at x + length line.content = omega arith in
    let lengths : length (take at (lines_of x)) ≡ length (take at (lines_of y)) =
    omega (arith, length-take-le at (lines_of x) (omega arith), length-take-le at (lines_of y) (omega arith)) in
    let last : ending_edit (0 + starts_at at x + length line.content) line.break other.break
    ≡ (if same_units (units_of x (ending_span at x)) (units_of y (ending_span at y)) then []
    else record { span = ending_span at x; text = units_of y (ending_span at y); force = false } ∷ []) =
    rw (old, new, place, end) refl in
    ap₂ (ending_edits_from 0) (take_more (lines_of x) at no_line inside) (take_more (lines_of y) at no_line there)
    ∙ endings_more 0 (take at (lines_of x)) (take at (lines_of y)) line other lengths
    ∙ ap (λ (edits : List Op). edits ++ endings_of_first at x y) last

-- the move of a line says where its endings begin, and they lie within the texts
pub record HasEndings (x y : List ℕ) (at : ℕ) (line : LineMove) : Type 0 where
  pub old : line.old + line.content ≡ (ending_span at x).start
  pub new : line.new + line.content ≡ (ending_span at y).start
  pub old_within : IsWithin x (ending_span at x)
  pub new_within : IsWithin y (ending_span at y)

pub endings_at : (x y : List ℕ) (moves : List LineMove) (at : ℕ) (d : LineMove) → HaveSameContents x y → moves ≡ line_moves x y → at < length moves
    → HasEndings x y at (get_or moves at d)
endings_at x y moves at d same are inside =
    let here : at < length (lines_of x) = omega (arith, inside, ap length are, length-line_moves x y same) in
    let there : at < length (lines_of y) = omega (arith, here, as_many_lines x y same) in
    let is : get_or moves at d
    ≡ record { old = starts_at at x; content = length (get_or (lines_of x) at no_line).content; new = starts_at at y } =
    ap (λ (ms : List LineMove). get_or ms at d) are ∙ move_at x y at d same here in
    let content : length (get_or (lines_of x) at no_line).content ≡ length (get_or (lines_of y) at no_line).content =
    ap length (same_content x y at same here) in
    record {
      old = rw is refl;
      new = rw is (ap (λ (n : ℕ). starts_at at y + n) content);
      old_within = ending_within x at here;
      new_within = ending_within y at there;
    }

-- the ending of the line is told where it differs
pub ending_told : (x y : List ℕ) (moves : List LineMove) (at : ℕ) (old new : Span) → HaveSameContents x y → moves ≡ line_moves x y → at < length moves
    → old ≡ ending_span at x → new ≡ ending_span at y
    → endings_of_first (at + 1) x y
    ≡ (if same_units (units_of x old) (units_of y new) then [] else record { span = old; text = units_of y new; force = false } ∷ []) ++ endings_of_first at x y
ending_told x y moves at old new same are inside old_is new_is =
    let here : at < length (lines_of x) = omega (arith, inside, ap length are, length-line_moves x y same) in
    rw (old_is, new_is) (endings_last x y at same here)

-- ---- all parts

pub all_endings : (x y : List ℕ) (left : ℕ) → HaveSameContents x y → left ≡ length (line_moves x y) → endings_of_first left x y ≡ ending_edits x y
all_endings x y left same all =
    let moves = length-line_moves x y same in
    ap₂ (ending_edits_from 0) (take_all left (lines_of x) (omega (arith, all, moves))) (take_all left (lines_of y) (omega (arith, all, moves, as_many_lines x y same)))

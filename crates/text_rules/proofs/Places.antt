-- Positions computed from the end offsets of breaks.
use Rattle.std.proofs.Common.{◌≡◌, ℕ, zero, suc, ◌+◌, ◌-◌, ◌<◌, ◌≤◌, leb, true, false, cond, List, [], ◌∷◌, length, get_or, refl, ap, sym, ◌∙◌, inl, inr, zero-add, arith}
use Rattle.std.proofs.lemmas.Bool.{lt-ltb, le-ltb, lt-leb, le-leb, cases_lt}
use Rattle.std.proofs.lemmas.List.Sums.{prefix_len-le-length}
use Rattle.text_rules.specs.Lines.{Line, lines_of, line_length, line_start}
use Rattle.text_rules.specs.Positions.{position_in, position_of, one_line_down}
use Rattle.text_rules.specs.Breaks.{break_ends, ends_break, count_to}
use Rattle.text_rules.proofs.Breaks.{starts_from, starts_of_lines, line_start_is, one_more}

position_by : (line : Line) (lines : List Line) (at offset : ℕ) → position_in (line ∷ lines) offset
    ≡ record {
      line = count_to (at + offset) (starts_from (at + line_length line) lines) + 1;
      column = at + offset - get_or (at ∷ starts_from (at + line_length line) lines) (count_to (at + offset) (starts_from (at + line_length line) lines)) 0 + 1;
    }
position_by line [] at offset = let column : offset + 1 ≡ at + offset - at + 1 = omega arith in ap (λ (n : ℕ). record { line = 1; column = n }) column
position_by line (next ∷ lines) at offset =
    elim (cases_lt offset (line_length line)) [
      | inl here ↦ (let column : offset + 1 ≡ at + offset - at + 1 = omega arith in
          rw (lt-ltb offset (line_length line) here, lt-leb (at + line_length line) (at + offset) (omega arith)) (ap (λ (n : ℕ). record { line = 1; column = n }) column))
      | inr below ↦
          (let after : ℕ = at + line_length line in
          let rest : List ℕ = starts_from (after + line_length next) lines in
          let same : after + (offset - line_length line) ≡ at + offset = omega arith in
          let count : ℕ = count_to (at + offset) rest in
          let number : count + 1 + 1 ≡ suc count + 1 = omega arith in
          rw (le-ltb offset (line_length line) below, le-leb after (at + offset) (omega arith), one_more)
          (ap one_line_down (position_by next lines after (offset - line_length line))
          ∙ ap (λ (t : ℕ). record { line = count_to t rest + 1 + 1; column = t - get_or (after ∷ rest) (count_to t rest) 0 + 1 }) same
          ∙ ap (λ (n : ℕ). record { line = n; column = at + offset - get_or (after ∷ rest) count 0 + 1 }) number))
    ]

position_from : (lines : List Line) (ends : List ℕ) (offset : ℕ) → starts_from 0 lines ≡ 0 ∷ ends
    → position_in lines offset ≡ record { line = count_to offset ends + 1; column = offset - get_or (0 ∷ ends) (count_to offset ends) 0 + 1 }
position_from [] ends offset e = absurd cc
position_from (line ∷ lines) ends offset e =
    let tail : starts_from (0 + line_length line) lines ≡ ends = cc in
    position_by line lines 0 offset
    ∙ ap (λ (es : List ℕ). record { line = count_to (0 + offset) es + 1; column = 0 + offset - get_or (0 ∷ es) (count_to (0 + offset) es) 0 + 1 }) tail
    ∙ ap (λ (t : ℕ). record { line = count_to t ends + 1; column = t - get_or (0 ∷ ends) (count_to t ends) 0 + 1 }) (zero-add offset)

-- the start of a line, by the number of breaks before it
pub line_start_after : (x : List ℕ) (breaks : ℕ) → breaks ≤ length (break_ends 0 x) → line_start x (breaks + 1) ≡ get_or (0 ∷ break_ends 0 x) breaks 0
line_start_after x zero h = refl
line_start_after x (suc k) h = line_start_is x k (suc k + 1) (omega arith) (omega arith)

pub position_of_is : (x : List ℕ) (offset : ℕ) → position_of x offset
    ≡ record { line = count_to offset (break_ends 0 x) + 1; column = offset - line_start x (count_to offset (break_ends 0 x) + 1) + 1 }
position_of_is x offset =
    let count : ℕ = count_to offset (break_ends 0 x) in
    position_from (lines_of x) (break_ends 0 x) offset (starts_of_lines 0 x)
    ∙ ap (λ (s : ℕ). record { line = count + 1; column = offset - s + 1 }) (sym (line_start_after x count (prefix_len-le-length (λ e. leb e offset) (break_ends 0 x))))

start_before : (start offset : ℕ) (ends : List ℕ) → start ≤ offset → get_or (start ∷ ends) (count_to offset ends) 0 ≤ offset
start_before start offset [] h = h
start_before start offset (e ∷ ends) h =
    elim (cases_lt offset e) [
      | inl above ↦ rw (lt-leb e offset above) h
      | inr within ↦ rw (le-leb e offset within, one_more) (start_before e offset ends within)
    ]

-- the line of an offset starts at or before it
pub line_start_before : (x : List ℕ) (offset : ℕ) → line_start x (count_to offset (break_ends 0 x) + 1) ≤ offset
line_start_before x offset =
    rw (line_start_after x (count_to offset (break_ends 0 x)) (prefix_len-le-length (λ e. leb e offset) (break_ends 0 x)))
    (start_before 0 offset (break_ends 0 x) (omega arith))

below_cons : (bound e : ℕ) (ends : List ℕ) → e ≤ bound → ((k d : ℕ) → k < length ends → get_or ends k d ≤ bound)
    → (k d : ℕ) → k < length (e ∷ ends) → get_or (e ∷ ends) k d ≤ bound
below_cons bound e ends h later zero d inside = h
below_cons bound e ends h later (suc k) d inside = later k d (omega arith)

break_ends_below : (at bound : ℕ) (x : List ℕ) → at + length x ≤ bound → (k d : ℕ) → k < length (break_ends at x) → get_or (break_ends at x) k d ≤ bound
break_ends_below at bound [] h = λ k d inside. absurd (omega arith)
break_ends_below at bound (u ∷ after) h =
    elim (ends_break u after) as (λ b. (k d : ℕ) → k < length (cond b ((at + 1) ∷ break_ends (at + 1) after) (break_ends (at + 1) after)) → get_or (cond b ((at + 1) ∷ break_ends (at + 1) after) (break_ends (at + 1) after)) k d ≤ bound) [
      | true ↦ below_cons bound (at + 1) (break_ends (at + 1) after) (omega arith) (break_ends_below (at + 1) bound after (omega arith))
      | false ↦ break_ends_below (at + 1) bound after (omega arith)
    ]

-- an existing line starts within the text or at its end
pub line_start_within : (x : List ℕ) (breaks n : ℕ) → breaks < length (break_ends 0 x) → n ≡ breaks + 2 → line_start x n ≤ length x
line_start_within x breaks n h e = rw (line_start_is x breaks n h e) (break_ends_below 0 (length x) x (omega arith) breaks 0 h)

-- The maximum length of a script.
use Rattle.std.proofs.Common.{◌≡◌, ℕ, zero, suc, ◌+◌, ◌-◌, ◌*◌, ◌/◌, ◌^◌, ◌<◌, ◌≤◌, ◌==◌, min, nat_lt, Bool, true, false, cond, List, [], ◌++◌, length, length-append, codes, arith}
use Rattle.std.specs.Bool.{⊤}
use Rattle.std.specs.Fmt.{decimal}
use Rattle.std.proofs.lemmas.Fmt.{length-decimal-le}
use Rattle.std.proofs.Math.Nat.{mod-le}
use Rattle.script_play.specs.declared.play.Play.{Play}
use Rattle.script_play.specs.declared.line.Line.{Line}
use Rattle.script_play.specs.declared.line.Line.TheVariants.{Open, Edit, Undo, Redo, Stop, Decorate, Position, Level, Brackets, Decos, Size}
use Rattle.script_play.specs.Draws.{next, drawn}
use Rattle.script_play.specs.Lines.{spelled, span, line_bytes}
use Rattle.script_play.specs.Script.{edit_line, decorate_line, chosen_line, next_line, lines_from, script}

-- ---- the bytes of a line

length-parts : (a b c d e : List ℕ) → length (a ++ b ++ c ++ d ++ e) ≡ length a + (length b + (length c + (length d + length e)))
length-parts a b c d e =
    omega (arith, length-append (a ++ b ++ c ++ d) e, length-append (a ++ b ++ c) d, length-append (a ++ b) c, length-append a b)

length-three : (a b c : List ℕ) → length (a ++ b ++ c) ≡ length a + (length b + length c)
length-three a b c = omega (arith, length-append (a ++ b) c, length-append a b)

short_number : (n : ℕ) → n < 2 ^ 33 → length (decimal n) ≤ 20
short_number n small = length-decimal-le 20 n (omega arith) (omega arith) (omega arith)

short_span : (start end : ℕ) → start < 2 ^ 33 → end < 2 ^ 33 → length (span start end) ≤ 43
short_span start end from to =
    omega (arith, length-parts (codes "[") (decimal start) (codes ",") (decimal end) (codes "]"), short_number start from, short_number end to)

-- a span, and something short behind it
short_spanned : (front middle more back : List ℕ) (start end : ℕ) → start < 2 ^ 33 → end < 2 ^ 33 → length more ≤ 20 → length front + length middle + length back ≤ 100
    → length (front ++ span start end ++ middle ++ more ++ back) ≤ 200
short_spanned front middle more back start end from to short known =
    omega (arith, length-parts front (span start end) middle more back, short_span start end from to, short, known)

short_choice : (b : Bool) (x y : List ℕ) → length x ≤ 6 → length y ≤ 6 → length (cond b x y) ≤ 6
short_choice true x y first second = first
short_choice false x y first second = second

short_text : (text : ℕ) → length (spelled text) ≤ 6
short_text text =
    short_choice (text == 0) _ _ (omega arith) (short_choice (text == 1) _ _ (omega arith) (short_choice (text == 2) _ _ (omega arith)
    (short_choice (text == 3) _ _ (omega arith) (short_choice (text == 4) _ _ (omega arith) (short_choice (text == 5) _ _ (omega arith)
    (short_choice (text == 6) _ _ (omega arith) (omega arith)))))))

-- its numbers have at most ten digits
abbrev HasFewDigits : Line → Type 0
HasFewDigits Open = ⊤
HasFewDigits (Edit start end text) = (start < 2 ^ 33) × (end < 2 ^ 33)
HasFewDigits Undo = ⊤
HasFewDigits Redo = ⊤
HasFewDigits Stop = ⊤
HasFewDigits (Decorate start end stick) = (start < 2 ^ 33) × (end < 2 ^ 33) × (stick < 2 ^ 33)
HasFewDigits (Position offset) = offset < 2 ^ 33
HasFewDigits Level = ⊤
HasFewDigits Brackets = ⊤
HasFewDigits (Decos at) = at < 2 ^ 33
HasFewDigits Size = ⊤

short_line : (line : Line) → HasFewDigits line → length (line_bytes line) ≤ 200
short_line Open few = omega arith
short_line (Edit start end text) few =
    short_spanned (codes "{\"cmd\":\"edit\",\"ops\":[{\"at\":") (codes ",\"text\":") (spelled text) (codes "}]}\n") start end few.0 few.1 (omega (arith, short_text text)) (omega arith)
short_line Undo few = omega arith
short_line Redo few = omega arith
short_line Stop few = omega arith
short_line (Decorate start end stick) few =
    short_spanned (codes "{\"cmd\":\"decorate\",\"owner\":1,\"remove\":[],\"add\":[{\"at\":") (codes ",\"stick\":") (decimal stick) (codes "}]}\n") start end few.0 few.1
    (short_number stick few.2) (omega arith)
short_line (Position offset) few = omega (arith, length-three (codes "{\"cmd\":\"position\",\"offset\":") (decimal offset) (codes "}\n"), short_number offset few)
short_line Level few = omega arith
short_line Brackets few = omega arith
short_line (Decos at) few = omega (arith, length-three (codes "{\"cmd\":\"decos\",\"at\":") (span at at) (codes "}\n"), short_span at at few few)
short_line Size few = omega arith

-- ---- what is drawn

next-lt : (x : ℕ) → next x < 2 ^ 64
unfolding next
next-lt x = omega arith

drawn-lt : (x m : ℕ) → x < 2 ^ 64 → drawn x m < 2 ^ 31
drawn-lt x m within = omega (arith, mod-le (x / 2 ^ 33) m)

small : (start : ℕ) → start < 2 ^ 31 → start < 2 ^ 33
small start from = omega arith

small_end : (start taken units : ℕ) → start < 2 ^ 31 → taken < 2 ^ 31 → start + min taken (units - start) < 2 ^ 33
small_end start taken units from some = omega arith

few_edit : (old : Play) → HasFewDigits (edit_line old).0
few_edit old =
    let from = drawn-lt (next old.x) (old.units + 1) (next-lt old.x) in
    (small _ from, small_end _ _ _ from (drawn-lt (next (next old.x)) 4 (next-lt (next old.x))))

few_decorate : (old : Play) → HasFewDigits (decorate_line old).0
few_decorate old =
    let from = drawn-lt (next old.x) (old.units + 1) (next-lt old.x) in (
      small _ from,
      small_end _ _ _ from (drawn-lt (next (next old.x)) 8 (next-lt (next old.x))),
      small _ (drawn-lt (next (next (next old.x))) 4 (next-lt (next (next old.x)))),
    )

few_offset : (old : Play) → drawn (next old.x) (old.units + 1) < 2 ^ 33
few_offset old = small _ (drawn-lt (next old.x) (old.units + 1) (next-lt old.x))

few_choice : (b : Bool) (x y : Line × Play) → HasFewDigits x.0 → HasFewDigits y.0 → HasFewDigits (cond b x y).0
few_choice true x y first second = first
few_choice false x y first second = second

few_chosen : (choice : ℕ) (old : Play) → HasFewDigits (chosen_line choice old).0
few_chosen choice old =
    few_choice (nat_lt choice 8) _ _ (few_edit old) (few_choice (choice == 8) _ _ tt (few_choice (choice == 9) _ _ tt
    (few_choice (choice == 10) _ _ (few_decorate old) (few_choice (choice == 11) _ _ (few_offset old) (few_choice (choice == 12) _ _ tt
    (few_choice (choice == 13) _ _ tt (few_choice (choice == 14) _ _ (few_offset old) tt)))))))

few_next : (old : Play) → HasFewDigits (next_line old).0
few_next old = few_choice old.pending _ _ tt (few_chosen (drawn (next old.x) 16) (record old { x = next old.x }))

-- ---- the script

length-lines_from : (count : ℕ) (old : Play) → length (lines_from count old) ≤ 200 * count
unfolding lines_from
length-lines_from zero old = omega arith
length-lines_from (suc count) old =
    omega (
      arith,
      length-append (line_bytes (next_line old).0) (lines_from count (next_line old).1),
      short_line (next_line old).0 (few_next old),
      length-lines_from count (next_line old).1,
    )

-- a script has at most 200 bytes a line
pub length-script : (count seed : ℕ) → length (script count seed) ≤ 200 * count
unfolding script
length-script zero seed = omega arith
length-script (suc count) seed =
    let first : Play = record { x = seed; units = 0; pending = false } in
    omega (arith, length-append (line_bytes Open) (lines_from count first), short_line Open tt, length-lines_from count first)
